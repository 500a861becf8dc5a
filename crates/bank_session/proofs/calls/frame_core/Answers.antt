-- Number 1 where the lengths, the number of events or a count are wrong; else the bank's call on its numbers, the
-- number of events moved on by those of the call, and the counts after it.
use Prim.Native.Nat.{ℕ, ◌+◌, max}
use mathlib.Core.Bool.{true}
use mathlib.Core.List.{List}
use mathlib.Core.Path.{◌≡◌, sym, ap, ◌∙◌}
use native.Mathlib.Omega.{arith}
use borrow.Author.Tests.{ne_eqb}
use lib.ListN.{length, drop, length-append, length-drop}
use lib.Seq.{length-take-le, take_at}
use Rattle.bank_rows.specs.Layout.{state_size}
use Rattle.opening_counts.specs.declared.seven.Counts.{Counts}
use Rattle.opening_counts.specs.Counts.{can_grow}
use Rattle.journal.specs.Row.{takes_events}
use Rattle.bank_steps.specs.Lent.{state_of}
use Rattle.bank.specs.Call.{frame_input}
use Rattle.bank_session.specs.Counts.{counts_over, counts_by}
use Rattle.bank_session.specs.Session.{session, session_size, event_count, bank_in, with_numbers}
use Rattle.bank_session.proofs.Rows.{bank-long, clock-is}
use Rattle.bank_session.proofs.Session.{batch-few, takes, not_taken, not-grown, room, turned-away-is, frame-done}
use Rattle.bank_session.proofs.calls.frame_core.Goals as goal

pub returns-then-rows-ne-SESSION_SIZE : goal.returns-then-rows-ne-SESSION_SIZE
returns-then-rows-ne-SESSION_SIZE c row e =
    let a = c.args in
    let away = c.turned_away.ensures in
    turned-away-is (session a.rows.now row a.orders.now a.mailboxes.now)
    (frame_input a.time a.ids.now a.frame.now a.buffer.now)
    (rw (ne_eqb (length a.rows.now) session_size c.if-rows-ne-SESSION_SIZE.true)) away.0 away.1 _ _

pub returns-then-not-takes_events : goal.returns-then-not-takes_events
returns-then-not-takes_events c row e =
    let a = c.args in
    let away = c.turned_away-then-not-takes_events.ensures in
    let wrong = sym c.takes_events.ensures ∙ c.if-not-takes_events.true in
    let m = session a.rows.now row a.orders.now a.mailboxes.now in
    turned-away-is m (frame_input a.time a.ids.now a.frame.now a.buffer.now)
    (not_taken m (ap (λ (n : ℕ). takes_events n (event_count a.rows.now)) e ∙ wrong)) away.0 away.1 _ _

pub returns-then-not-can_grow : goal.returns-then-not-can_grow
returns-then-not-can_grow c row e =
    let a = c.args in
    let away = c.turned_away-then-not-can_grow.ensures in
    let wrong = sym c.can_grow.ensures ∙ c.if-not-can_grow.true in
    let m = session a.rows.now row a.orders.now a.mailboxes.now in
    turned-away-is m (frame_input a.time a.ids.now a.frame.now a.buffer.now)
    (not-grown m (ap can_grow (sym c.counts_in-counts.ensures) ∙ wrong)) away.0 away.1 _ _

pub slice_bounds-answer_counted-end-2 : goal.slice_bounds-answer_counted-end-2
slice_bounds-answer_counted-end-2 c =
    let long : length c.args.rows.now ≡ session_size = omega (arith, c.if-rows-ne-SESSION_SIZE.false) in
    sym (length-take-le state_size c.args.rows.now (omega (arith, long)))

pub answer_counted-step-requires : goal.answer_counted-step-requires
answer_counted-step-requires c =
    let grown : can_grow c.counts_in-counts.result ≡ true = sym c.can_grow.ensures ∙ c.if-not-can_grow.false in
    grown

pub overflow_add-before : goal.overflow_add-before
overflow_add-before c =
    let taken : let a = c.args in
    takes_events a.records (event_count a.rows.now) ≡ true = sym c.takes_events.ensures ∙ c.if-not-takes_events.false in
    let a = c.args in
    omega (
      arith,
      room a.records (event_count a.rows.now) (taken),
      batch-few c.answer_counted-step.ensures.1,
    )

pub returns : goal.returns
returns c row e =
    let long : length c.args.rows.now ≡ session_size = omega (arith, c.if-rows-ne-SESSION_SIZE.false) in
    let taken : let a = c.args in
    takes_events a.records (event_count a.rows.now) ≡ true = sym c.takes_events.ensures ∙ c.if-not-takes_events.false in
    let grown : can_grow c.counts_in-counts.result ≡ true = sym c.can_grow.ensures ∙ c.if-not-can_grow.false in
    let as_long : length c.answer_counted-step.new.rows ≡ state_size = c.rows-1.given.0 ∙ bank-long c.args.rows.now (long) in
    let a = c.args in
    let rows = a.rows.now in
    let m = session rows row a.orders.now a.mailboxes.now in
    let input = frame_input a.time a.ids.now a.frame.now a.buffer.now in
    let done = c.answer_counted-step.ensures in
    let read = c.counts_in-counts.ensures in
    let count = ap (λ (n : ℕ). takes_events n (event_count rows)) e ∙ taken in
    let grow = ap can_grow (sym read) ∙ grown in
    frame-done m input (takes m (long) count grow)
    done.0 done.1 (c.larger-clock.ensures ∙ ap (λ (n : ℕ). max n a.time) (sym (clock-is rows)))
    (done.2
    ∙ ap (λ (k : Counts). counts_by c.answer_counted-step.result.out.answer (counts_over (state_of (bank_in m)) input k) k) read)
    (c.set_numbers.ensures
    ∙ ap (λ (l : List ℕ). with_numbers l (event_count rows + c.answer_counted-step.result.batch.count) c.answer_counted-step.result.counts)
    (take_at c.answer_counted-step.new.rows (drop state_size rows) state_size (as_long)))

pub set_numbers-requires : goal.set_numbers-requires
set_numbers-requires c =
    let long : length c.args.rows.now ≡ session_size = omega (arith, c.if-rows-ne-SESSION_SIZE.false) in
    let as_long : length c.answer_counted-step.new.rows ≡ state_size = c.rows-1.given.0 ∙ bank-long c.args.rows.now (long) in
    simp (length-append, length-drop) (omega (arith, as_long, long))
