-- Calls of one run over its lines, each message handed on once, in the order in which it came out: that there is a next
-- one is a test. What a frame's call leaves is computed without the tests that cannot fail there. Assumes nothing.
use Prim.Native.Nat.{ℕ, suc}
use mathlib.Core.Bool.{Bool, true, cond, ◌&&◌}
use mathlib.Core.List.{List, [], ◌∷◌}
use mathlib.Core.Path.{◌≡◌, refl, sym, ap, ◌∙◌, subst}
use native.Mathlib.Decide.{ℕ_discrete}
use native.Mathlib.Omega.{arith}
use lib.Dec.{eqb, ltb}
use lib.ListN.{length, get_or}
use borrow.Author.Tests.{eq-eqb, ne_eqb, ltb-true, lt-ltb, le-ltb}
use Rattle.octets.proofs.Tests.{and-true}
use Rattle.bank_state.specs.State.{BankState}
use Rattle.bank.specs.Call.{FrameInput, frame_call}
use Rattle.bank_session.specs.Session.{LentSession}
use Rattle.bank_admitted.specs.State.{StateHolds}
use Rattle.bank_admitted.proofs.Keeps.{frame-keeps-state}
use Rattle.message.specs.declared.directions.Direction.{Direction}
use Rattle.line.specs.Line.{Message}
use Rattle.exchange.specs.Course.{Call, frame_arrives, reply_arrives, Course, call_number, carry_out, exec}
use Rattle.exchange.proofs.Calls.{numbered-stays, carried, by_number}
use Rattle.exchange.proofs.Host.{host-frame}
use Rattle.exchange_examples.proofs.Standing.{standing, standing-bank, standing-journal}
use Rattle.exchange_examples.proofs.Checked.{input_at, lent}
use Rattle.exchange_examples.proofs.Checked as checked
use Rattle.exchange_examples.proofs.Quick.{quick_next, quick-frame}
use Rattle.exchange_lines.specs.Lines.{InUse, Net, Move, to_bank, other, call_of, passed, net_by, next, net_after}
use Rattle.exchange_lines.specs.Claims.{AtEach, of_call, Others}
use Rattle.exchange_lines.specs.InOrder.{Handed, handed_on, handed_after, IsNext, AllNext}

-- ---- plays

-- of run 0
pub data Play : Type 0 where
  -- direction, subscriber, first exchange number, payload
  begins : Direction → ℕ → ℕ → List ℕ → Play
  -- it is told that no reply came
  silent : Play
  -- the next message of its request line goes to the bank, the next of its reply line to it
  request : Play
  reply : Play

-- both ends and the lines, and how many messages of each were handed on
pub record Table : Type 0 where
  pub net : Net
  pub handed : Handed

abbrev table : Net → Handed → Table
table n h = record { net = n; handed = h }

abbrev next_of : ℕ → InUse → Message
next_of k u = get_or u.out k []

abbrev request_in : Table → Message
request_in x = next_of (x.handed.requests 0) (x.net.lines.requests 0)

abbrev reply_in : Table → Message
reply_in x = next_of (x.handed.replies 0) (x.net.lines.replies 0)

abbrev move_of : Play → Table → Move
move_of (begins direction u first payload) x = other (checked.call_of (checked.begin 0 direction u first payload) x.net.course)
move_of silent x = other (checked.call_of (checked.silent 0) x.net.course)
move_of request x = to_bank 0 (standing x.net.course) (input_at 1000 (request_in x))
move_of reply x =
    let s = x.net.course in other (reply_arrives 0 (s.runs 0) (reply_in x) (lent (s.payloads 0) (s.files 0)))

abbrev step : Play → Table → Table
step p x = let m = move_of p x in table (next m x.net) (handed_after m x.handed)

abbrev pub moves_of : List Play → Table → List Move
moves_of [] x = []
moves_of (p ∷ ps) x = move_of p x ∷ moves_of ps (step p x)

-- there is a next message
abbrev is_there : Play → Table → Bool
is_there (begins direction u first payload) x = true
is_there silent x = true
is_there request x = ltb (x.handed.requests 0) (length (x.net.lines.requests 0).out)
is_there reply x = ltb (x.handed.replies 0) (length (x.net.lines.replies 0).out)

next-there : (p : Play) (x : Table) → is_there p x ≡ true → IsNext (passed (move_of p x)) x.handed x.net.lines
next-there (begins direction u first payload) x h = tt
next-there silent x h = tt
next-there request x h = (ltb-true (x.handed.requests 0) (length (x.net.lines.requests 0).out) h, refl)
next-there reply x h = (ltb-true (x.handed.replies 0) (length (x.net.lines.replies 0).out) h, refl)

-- each is lent what the calls before left
others-met : (p : Play) (x : Table) → StateHolds x.net.course.bank → of_call Others (move_of p x) x.net
others-met (begins direction u first payload) x v = λ _. refl
others-met silent x v = λ _. (refl, refl, refl)
others-met request x v = let s = x.net.course in λ copied. (standing-bank s v, standing-journal s v, copied)
others-met reply x v = λ copied. ((refl, refl, refl), copied)

-- ---- in fewer steps

abbrev quick_course : Play → Table → Course
quick_course (begins direction u first payload) x = exec (call_of (move_of (begins direction u first payload) x)) x.net.course
quick_course silent x = exec (call_of (move_of silent x)) x.net.course
quick_course request x = quick_next (checked.stray (request_in x) 1000) x.net.course
quick_course reply x = exec (call_of (move_of reply x)) x.net.course

-- a frame was handed on where the bank answered
abbrev quick_handed : Play → Course → Table → Handed
quick_handed (begins direction u first payload) t x = handed_after (move_of (begins direction u first payload) x) x.handed
quick_handed silent t x = handed_after (move_of silent x) x.handed
quick_handed request t x =
    cond (ltb (length x.net.course.exchanged) (length t.exchanged)) (handed_on (passed (move_of request x)) x.handed) x.handed
quick_handed reply t x = handed_after (move_of reply x) x.handed

abbrev quick_step : Play → Table → Table
quick_step p x = let t = quick_course p x in table (net_by (move_of p x) t x.net) (quick_handed p t x)

-- ---- it is the same

-- a frame's call is given no number where the bank answered
frame-answered : (m : LentSession) (a : FrameInput) (s : Course) →
    ltb (length s.exchanged) (length (exec (frame_arrives m a) s).exchanged) ≡ eqb (call_number (frame_arrives m a)) 0
frame-answered m a s = at (ℕ_discrete (call_number k) 0)
  where
    k : Call
    k = frame_arrives m a

    n : ℕ
    n = length s.exchanged

    grows : Course → Bool
    grows t = ltb n (length t.exchanged)

    at : Dec (call_number k ≡ 0) → grows (exec k s) ≡ eqb (call_number k) 0
    at (yes z) = ap grows (carried k s z) ∙ lt-ltb n (suc n) (omega arith) ∙ sym (eq-eqb (call_number k) 0 z)
    at (no f) = ap grows (numbered-stays k s f) ∙ le-ltb n n (omega arith) ∙ sym (ne_eqb (call_number k) 0 f)

quick-step : (p : Play) (x : Table) → StateHolds x.net.course.bank → quick_step p x ≡ step p x
unfolding next
quick-step (begins direction u first payload) x v = refl
quick-step silent x v = refl
quick-step request x v =
    let s = x.net.course in
    let m = move_of request x in
    let e = quick-frame s v 1000 (request_in x) in
    (λ i. table (net_by m (e i) x.net) (quick_handed request (e i) x))
    ∙ ap (λ (b : Bool). table (next m x.net) (cond b (handed_on (passed m) x.handed) x.handed))
    (frame-answered (standing s) (input_at 1000 (request_in x)) s)
quick-step reply x v = refl

-- the bank stays one that calls leave
carried-holds : (p : Play) (x : Table) → StateHolds x.net.course.bank → call_number (call_of (move_of p x)) ≡ 0 →
    StateHolds (carry_out (call_of (move_of p x)) x.net.course).bank
carried-holds (begins direction u first payload) x v z = v
carried-holds silent x v z = v
carried-holds request x v z =
    let s = x.net.course in
    let a = input_at 1000 (request_in x) in
    subst (λ (t : Course). StateHolds t.bank) (sym (host-frame (standing s) a z s))
    (subst (λ (w : BankState). StateHolds (frame_call w a).bank_state) (sym (standing-bank s v)) (frame-keeps-state s.bank v a))
carried-holds reply x v z = v

step-holds : (p : Play) (x : Table) → StateHolds x.net.course.bank → StateHolds (step p x).net.course.bank
unfolding next
step-holds p x v =
    by_number (call_of (move_of p x)) x.net.course (λ (t : Course). StateHolds t.bank) v (carried-holds p x v)

-- ---- over a list

abbrev pub quick_end : List Play → Table → Table
quick_end [] x = x
quick_end (p ∷ ps) x = quick_end ps (quick_step p x)

abbrev pub is_played : List Play → Table → Bool
is_played [] x = true
is_played (p ∷ ps) x = is_there p x && is_played ps (quick_step p x)

-- what a list that passes the test has
pub record Plays (ps : List Play) (x : Table) : Type 0 where
  pub next : AllNext x.handed (moves_of ps x) x.net
  pub others : AtEach (of_call Others) (moves_of ps x) x.net
  pub end : (quick_end ps x).net ≡ net_after (moves_of ps x) x.net

pub plays : (ps : List Play) (x : Table) → StateHolds x.net.course.bank → is_played ps x ≡ true → Plays ps x
unfolding net_after
plays [] x v h = record { next = tt; others = tt; end = refl }
plays (p ∷ ps) x v h =
    let a = and-true (is_there p x) (is_played ps (quick_step p x)) h in
    let e = quick-step p x v in
    let r = plays ps (step p x) (step-holds p x v) (subst (λ (y : Table). is_played ps y ≡ true) e a.1) in
    record {
      next = (λ z. next-there p x a.0, r.next);
      others = (λ z. others-met p x v, r.others);
      end = ap (λ (y : Table). (quick_end ps y).net) e ∙ r.end;
    }
