-- What an answered frame call enters into the journal, and the journal after it.
use Rattle.number_table.specs.declared.table.WrongLength.{WrongLength}
use Rattle.std.specs.Prelude.{Err, Ok, Result}
use Rattle.std.specs.Prelude.{ℕ, ◌+◌, max, List, [], length}
use Rattle.frame_table.specs.declared.fields.Fields.{Fields}
use Rattle.frame_reader.specs.Reader.{read_request}
use Rattle.bank_state.specs.Clock.{advanced}
use Rattle.bank_state.specs.State.{Bank, BankState}
use Rattle.bank_verdicts.specs.declared.verdict.Context.{Context}
use Rattle.bank_verdicts.specs.Judgement.{judge}
use Rattle.journal.specs.declared.event.Entry.{Entry}
use Rattle.journal.specs.Events.{events_from}
use Rattle.journal.specs.Row.{Journal, entered_all}
use Rattle.bank_events.specs.Entries.{order_in, action_entries, call_entries}
use Rattle.bank.specs.Call.{FrameInput, call_verdict}

-- the clock that a call sets
abbrev pub clock_by : BankState → FrameInput → ℕ
clock_by w a = max w.bank.clock a.time

-- what a request enters, at the bank b after the clock and its drops
abbrev pub request_entries : Context → Bank → Fields → List ℕ → List Entry
request_entries c b q d = let v = judge c b q (length d) in action_entries v (order_in v b q) q

-- what an answered frame call enters, with the bank before it: the drops, and what its request enters
unfoldable pub entered_by : BankState → FrameInput → List Entry
entered_by w a =
    let q = read_request a.frame in
    let v = call_verdict w a in
    call_entries (clock_by w a) w.bank v (order_in v (advanced a.time w).bank q) q

-- a call given number 1 enters nothing
abbrev pub if_answered : Result ℕ WrongLength → List Entry → List Entry
if_answered (Ok n) es = es
if_answered (Err e) es = []

-- the journal after these events of a call that sets this clock
abbrev pub with_entries : ℕ → List Entry → Journal → Journal
with_entries clock es j = record {
  events = j.events + length es;
  row = entered_all j.events (events_from j.events clock es) j.row;
}

-- the journal after an answered frame call
unfoldable pub journal_after : BankState → FrameInput → Journal → Journal
journal_after w a j = with_entries (clock_by w a) (entered_by w a) j

-- a call given number 1 leaves the journal
abbrev pub journal_by : Result ℕ WrongLength → Journal → Journal → Journal
journal_by (Ok n) after before = after
journal_by (Err e) after before = before
