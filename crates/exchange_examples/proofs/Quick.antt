-- The tests of a list of calls in fewer steps: what cannot fail there is not tested again. Assumes nothing.
use Prim.Native.Nat.{ℕ, ◌≤◌}
use mathlib.Core.Bool.{Bool, true, cond}
use mathlib.Core.List.{List, [], ◌∷◌}
use mathlib.Core.Path.{◌≡◌, refl, sym, ap, ◌∙◌, subst}
use native.Mathlib.Omega.{arith}
use lib.Dec.{eqb, leb}
use lib.ListN.{length, length-replicate}
use borrow.Author.Tests.{eq-eqb, le-leb}
use Rattle.frame_table.specs.Table.{last_time}
use Rattle.octets.proofs.Tests.{and-true}
use Rattle.journal.specs.Row.{Journal, takes_events}
use Rattle.bank_state.specs.Clock.{advanced}
use Rattle.bank_state.specs.Limits.{store_bytes, id_bytes, reply_room}
use Rattle.bank_state.specs.State.{Bank, BankState}
use Rattle.bank.specs.Call.{FrameCall, FrameInput, frame_number, replied, lent_right, frame_refused, frame_call}
use Rattle.bank.specs.Journal.{journal_after}
use Rattle.bank.specs.Mailbox.{file_number, file_call}
use Rattle.bank_admitted.specs.State.{Sizes, StateHolds}
use Rattle.bank_history.proofs.Answers.{step_of}
use Rattle.exchange.specs.Course.{
  Course,
  start,
  with_journal,
  call_number,
  reply_in,
  after_frame,
  carry_out,
  exec,
}
use Rattle.exchange.specs.Demand3.{Allowed}
use Rattle.exchange.proofs.Calls.{numbered-stays, carried, by_number}
use Rattle.bank_steps.specs.Lent.{state_of}
use Rattle.bank_session.specs.Session.{bank_in, journal_in}
use Rattle.exchange.proofs.Host.{frame_left, frame-exec, file_left, file-exec}
use Rattle.exchange.proofs.Images.{taken-stays}
use Rattle.exchange_examples.proofs.Standing.{
  standing,
  standing-long,
  standing-sound,
  standing-numbers,
  standing-bank,
  standing-journal,
  standing-grows,
  Right,
  right-start,
  right-next,
}
use Rattle.exchange_examples.proofs.Checked.{
  not-both,
  both,
  Move,
  comes,
  stray,
  puts,
  begin_at,
  reaches,
  silent,
  hands,
  writes,
  takes,
  numbered,
  request_at,
  input_at,
  frame_called,
  call_of,
  next,
  end_by,
  end_of,
  is_allowed,
  asked,
  AskedBy,
  Asked,
  asked-rest,
  allowed,
  is_met_by,
  is_met,
  is_one_more,
  is_in_order_by,
  is_in_order,
  one_more,
}

-- ---- a frame call without the test of the stores' lengths

abbrev quick_call : BankState → FrameInput → FrameCall
quick_call w a = cond (leb a.time last_time) (replied (step_of w a) a.buffer) (frame_refused w a)

module _ (w : BankState) (sizes : Sizes w) (a : FrameInput) (ids : length a.ids ≡ id_bytes)
    (room : reply_room ≤ length a.buffer) where
  right-by-time : leb a.time last_time ≡ lent_right w a
  unfolding lent_right
  right-by-time =
      rw (
        eq-eqb (length w.orders) store_bytes sizes.orders,
        eq-eqb (length w.mailboxes) store_bytes sizes.mailboxes,
        eq-eqb (length a.ids) id_bytes ids,
        le-leb reply_room (length a.buffer) room,
      )

  quick-call : quick_call w a ≡ frame_call w a
  unfolding frame_call
  quick-call = ap (λ (b : Bool). cond b (replied (step_of w a) a.buffer) (frame_refused w a)) right-by-time

-- the course after a frame, by what the bank's call leaves
abbrev framed : FrameCall → BankState → Journal → FrameInput → Course → Course
framed k w j a s =
    cond (eqb (cond (takes_events (length j.row) j.events) (frame_number k.answer) 1) 0)
    (with_journal (journal_after w a j)
    (after_frame (reply_in k.answer k.buffer) k.bank_state (advanced a.time w) a.frame s)) s

abbrev quick_frame : List ℕ → ℕ → Course → Course
quick_frame frame time s = let a = input_at time frame in framed (quick_call s.bank a) s.bank s.journal a s

-- the course after a file, by what the bank's call leaves
abbrev filed : Bank → List ℕ → ℕ → List ℕ → Course → Course
filed b mailboxes m file s =
    cond (eqb (file_number (file_call b m file mailboxes).answer) 0) (file_left b mailboxes m file s) s

-- the course after one call: a session is put away, one taken up is the one that stands, a call given a number stays out
abbrev pub quick_next : Move → Course → Course
quick_next (comes n time) s = quick_frame (request_at n s) time s
quick_next (stray frame time) s = quick_frame frame time s
quick_next (puts m file) s = filed s.bank.bank s.bank.mailboxes m file s
quick_next (begin_at i time params payload) s = next (begin_at i time params payload) s
quick_next (reaches i n) s = next (reaches i n) s
quick_next (silent i) s = next (silent i) s
quick_next (hands i) s = next (hands i) s
quick_next writes s = carry_out (call_of writes s) s
quick_next (takes n) s = s
quick_next (numbered k) s = s

-- ---- it is the same

pub quick-frame : (s : Course) → StateHolds s.bank → (time : ℕ) (frame : List ℕ) →
    quick_frame frame time s ≡ exec (frame_called frame time s) s
quick-frame s v time frame =
    let a = input_at time frame in
    let w = standing-bank s v in
    let j = standing-journal s v in
    ap (λ (k : FrameCall). framed k s.bank s.journal a s) (quick-call s.bank v.sizes a
    (length-replicate {A = ℕ} id_bytes 0) (omega (arith, length-replicate {A = ℕ} reply_room 0)))
    ∙ sym (frame-exec (standing s) a (standing-long s v) (standing-sound s v) s
    ∙ (ap (λ (g : Bool). cond (eqb (cond g (frame_number (frame_call (state_of (bank_in (standing s))) a).answer) 1) 0)
    (frame_left (state_of (bank_in (standing s))) (journal_in (standing s)) a s) s) (standing-grows s v)
    ∙ (λ x. framed (frame_call (w x) a) (w x) (j x) a s)))

quick-file : (s : Course) → StateHolds s.bank → (m : ℕ) (file : List ℕ) →
    filed s.bank.bank s.bank.mailboxes m file s ≡ next (puts m file) s
quick-file s v m file =
    sym (file-exec (standing s).rows s.bank.mailboxes m file (standing-long s v) (standing-sound s v) s
    ∙ ap (λ (b : Bank). filed b s.bank.mailboxes m file s) (standing-numbers s v))

quick-next : (m : Move) (s : Course) (rest : Type 0) → asked m s rest → Right s → is_allowed m s ≡ true → Allowed (call_of m s) s →
    quick_next m s ≡ next m s
quick-next (comes n time) s rest r v h a = quick-frame s v.state time (request_at n s)
quick-next (stray frame time) s rest r v h a = quick-frame s v.state time frame
quick-next (puts m file) s rest r v h a = quick-file s v.state m file
quick-next (begin_at i time params payload) s rest r v h a = refl
quick-next (reaches i n) s rest r v h a = refl
quick-next (silent i) s rest r v h a = refl
quick-next (hands i) s rest r v h a = refl
quick-next writes s rest r v h a = sym (carried (call_of writes s) s r.0)
quick-next (takes n) s rest r v h a =
    let k = call_of (takes n) s in by_number k s (λ (t : Course). s ≡ t) refl (λ z. sym (taken-stays _ _ s v.images (a z) z))
quick-next (numbered k) s rest r v h a = sym (numbered-stays k s (λ z. not-both h (eq-eqb (call_number k) 0 z)))

-- ---- over a list

-- the call is allowed, leaves this course, and what is asked of the list is asked of its rest
one-call : (m : Move) (ms : List Move) (s : Course) → Right s → AskedBy quick_next (m ∷ ms) s → is_allowed m s ≡ true →
    (quick_next m s ≡ next m s) × Right (next m s) × AskedBy quick_next ms (next m s)
one-call m ms s v r h =
    let rest = AskedBy quick_next ms (quick_next m s) in
    let a = allowed m s rest v.state r h in
    let e = quick-next m s rest r v h a.0 in
    (e, right-next (call_of m s) s v a.0, subst (AskedBy quick_next ms) e a.1)

quick-met : (ms : List Move) (s : Course) → Right s → AskedBy quick_next ms s → is_met_by quick_next ms s ≡ true →
    Asked ms s × (is_met ms s ≡ true) × (end_by quick_next ms s ≡ end_of ms s) × Right (end_of ms s)
quick-met [] s v r h = (tt, h, refl, v)
quick-met (m ∷ ms) s v r h =
    let a = and-true (is_allowed m s) (is_met_by quick_next ms (quick_next m s)) h in
    let (e, w, q) = one-call m ms s v r a.0 in
    let (all, met, end, right) =
    quick-met ms (next m s) w q (subst (λ (t : Course). is_met_by quick_next ms t ≡ true) e a.1) in (
      asked-rest m s (AskedBy quick_next ms (quick_next m s)) (Asked ms (next m s)) (λ _. all) r,
      both a.0 met,
      ap (end_by quick_next ms) e ∙ end,
      right,
    )

module _ (i n : ℕ) where
  quick-order : (ms : List Move) (s : Course) → Right s → AskedBy quick_next ms s → is_in_order_by i quick_next n ms s ≡ true →
      Asked ms s × (is_in_order i n ms s ≡ true) × (end_by quick_next ms s ≡ end_of ms s)
  quick-order [] s v r h = (tt, h, refl)
  quick-order (m ∷ ms) s v r h =
      let a = one_more i n quick_next m ms s h in
      let (e, w, q) = one-call m ms s v r a.0 in
      let (all, order, end) =
      quick-order ms (next m s) w q (subst (λ (t : Course). is_in_order_by i quick_next n ms t ≡ true) e a.2) in (
        asked-rest m s (AskedBy quick_next ms (quick_next m s)) (Asked ms (next m s)) (λ _. all) r,
        both a.0 (both (subst (λ (t : Course). is_one_more i m s t ≡ true) e a.1) order),
        ap (end_by quick_next ms) e ∙ end,
      )

-- ---- from the start

-- a list that meets the premises, and what holds at its end
pub record Meets (ms : List Move) (P : Course → Type 0) : Type 0 where
  pub met : is_met ms start ≡ true
  pub state : StateHolds (end_of ms start).bank
  pub ends : P (end_of ms start)

pub meets : (ms : List Move) {P : Course → Type 0} → AskedBy quick_next ms start → is_met_by quick_next ms start ≡ true →
    P (end_by quick_next ms start) → Meets ms P
meets ms {P} r h p =
    let (all, met, end, right) = quick-met ms start right-start r h in
    record { met = met; state = right.state; ends = subst P end p }

-- one whose run i is in turn, opened by exchange n at its end
pub record Orders (i n : ℕ) (ms : List Move) (P : Course → Type 0) : Type 0 where
  pub all_asked : Asked ms start
  pub in_order : is_in_order i n ms start ≡ true
  pub ends : P (end_of ms start)

pub orders : (i n : ℕ) (ms : List Move) {P : Course → Type 0} → AskedBy quick_next ms start →
    is_in_order_by i quick_next n ms start ≡ true → P (end_by quick_next ms start) → Orders i n ms P
orders i n ms {P} r h p =
    let (all, order, end) = quick-order i n ms start right-start r h in
    record { all_asked = all; in_order = order; ends = subst P end p }
