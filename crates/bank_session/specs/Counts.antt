-- How a frame call moves the counts: by its verdict, and by how far the open transactions fall over its clock and over
-- its request.
use Rattle.number_table.specs.declared.table.WrongLength.{WrongLength}
use Rattle.std.specs.Prelude.{Err, Ok, Result}
use Rattle.std.specs.Prelude.{ℕ, ◌-◌}
use Rattle.bank_state.specs.Clock.{advanced}
use Rattle.bank_state.specs.Search.{open_count}
use Rattle.bank_state.specs.State.{BankState}
use Rattle.opening_counts.specs.declared.seven.Counts.{Counts}
use Rattle.opening_counts.specs.Counts.{counts_after}
use Rattle.bank.specs.Call.{FrameInput, frame_call, call_verdict}

-- how many the clock of a call drops
abbrev pub gone_by : BankState → FrameInput → ℕ
gone_by w a = open_count w.bank - open_count (advanced a.time w).bank

-- how many its request ends besides its own transaction; read where the request is a receipt answered 011000
abbrev pub others_by : BankState → FrameInput → ℕ
others_by w a = open_count (advanced a.time w).bank - open_count (frame_call w a).bank_state.bank - 1

-- the counts after an answered frame call, with the bank before it
unfoldable pub counts_over : BankState → FrameInput → Counts → Counts
counts_over w a c = counts_after (call_verdict w a) (gone_by w a) (others_by w a) c

-- a call given number 1 leaves the counts
abbrev pub counts_by : Result ℕ WrongLength → Counts → Counts → Counts
counts_by (Ok n) after before = after
counts_by (Err e) after before = before
