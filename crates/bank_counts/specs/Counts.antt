-- Where every accepted opening that opened a transaction stands: seven counts by requests, replies and clocks alone;
-- how many a call drops, and how many its receipt ends; the counts as a session carries them from call to call.
use Rattle.std.specs.Prelude.{ℕ, Bool, not, ◌&&◌, List, [], ◌∷◌, eqb}
use Rattle.frame_table.specs.declared.fields.Bits128.{Bits128}
use Rattle.frame_table.specs.Names.{subscriber, transaction, same_bits}
use Rattle.bank_state.specs.Rows.{count_of}
use Rattle.opening_counts.specs.declared.seven.Counts.{Counts}
use Rattle.opening_counts.specs.Counts.{count_size, seven, no_counts}
use Rattle.bank.specs.Call.{frame_call}
use Rattle.bank_history.specs.History.{Exchange, Past, BankCall, Frame, File, past_of}
use Rattle.bank_history.specs.Status.{
  Status,
  NotOpened,
  Open,
  Booked,
  Fetched,
  Skipped,
  EndedByReceipt,
  Cancelled,
  Dropped,
  drop_idle,
  ended_by_receipt,
}
use Rattle.bank_history.specs.ByReplies.{opened_ids, standing}
use Rattle.bank_session.specs.Counts.{counts_over, counts_by}

-- ---- the seven counts

-- "open, booked, fetched (011000 to its receipt), skipped by receipt (011001), ended by another receipt, cancelled,
-- dropped": the place of its count in this order, from 0; what was not opened has none
abbrev pub way_of : Status → ℕ
way_of NotOpened = count_size
way_of (Open d s last) = 0
way_of Booked = 1
way_of Fetched = 2
way_of Skipped = 3
way_of EndedByReceipt = 4
way_of Cancelled = 5
way_of Dropped = 6

-- how many of the accepted openings stand in a way after a history, by requests, replies and clocks: "Each is defined
-- from the calls and replies alone"
unfoldable pub standing_in : ℕ → List Exchange → ℕ
standing_in way h = count_of (λ (t : Bits128). eqb (way_of (standing t h)) way) (opened_ids h)

abbrev pub counts : List Exchange → Counts
counts h = seven (λ (way : ℕ). standing_in way h)

-- ---- how far a call moves them

abbrev pub is_pending : Status → Bool
is_pending x = eqb (way_of x) 0

-- it stood open, and stands so no longer
abbrev pub ends : Status → Status → Bool
ends x y = is_pending x && not (is_pending y)

-- how many a call that sets this clock drops
unfoldable pub dropped_by : ℕ → List Exchange → ℕ
dropped_by clock h = count_of (λ (t : Bits128). ends (standing t h) (drop_idle clock (standing t h))) (opened_ids h)

-- "ended by another receipt": how many transactions, other than that of the reply, a receipt answered 011000 ends of
-- those that are open when the clock of e has dropped
unfoldable pub others_ended : Exchange → List Exchange → ℕ
others_ended e h =
    count_of
    (λ (t : Bits128). let x = drop_idle e.clock (standing t h) in
    not (same_bits t (transaction e.reply)) && ends x (ended_by_receipt (subscriber e.request) x))
    (opened_ids h)

-- ---- the counts that the calls leave, as a session carries them

-- a file call leaves them
abbrev pub carried_by : BankCall → Past → Counts → Counts
carried_by (Frame a) p c = counts_by (frame_call p.bank_state a).answer (counts_over p.bank_state a c) c
carried_by (File mailbox file) p c = c

-- the newest call first
unfoldable pub carried : List BankCall → Counts
carried [] = no_counts
carried (call ∷ calls) = carried_by call (past_of calls) (carried calls)
