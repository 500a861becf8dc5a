-- An upload over lines of seed 590, which hold the first message, lose the second and double the third: it closes as
-- lodged, and its order is in the book. Assumes nothing.
use Prim.Native.Nat.{ℕ}
use mathlib.Core.Bool.{Bool, true, false, ◌&&◌}
use mathlib.Core.List.{List, [], ◌∷◌, append-nil}
use mathlib.Core.Path.{◌≡◌, refl, sym, ap, ◌∙◌, subst}
use Rattle.bank_admitted.specs.State.{StateHolds}
use Rattle.bank_admitted.proofs.Fresh.{fresh-state}
use Rattle.message.specs.declared.directions.Direction.TheVariants.{Upload}
use Rattle.client_run.specs.declared.run.Stage.TheVariants as stage
use Rattle.client_run.specs.declared.run.Word.TheVariants.{Lodged}
use Rattle.client_run.specs.Run.{order_name}
use Rattle.line.specs.Generator as generator
use Rattle.line.specs.Line as line
use Rattle.exchange.specs.Course.{Course, start, after}
use Rattle.exchange.specs.Terms.{Order, name_of, InBook, OrderOf}
use Rattle.exchange.specs.Demand3.{OneExchangeNumber, Outcome}
use Rattle.exchange_examples.proofs.Unfolded.{both_ends}
use Rattle.exchange_examples.proofs.Checked.{request_at, reply_at, is_numbered, one_number, same_bytes, same_bytes_lem}
use Rattle.octets.proofs.Tests.{never, and-true}
use Rattle.exchange_lines.specs.Lines.{Lines, Net, Seeds, Move, calls_of, fresh_net, carry, net_after}
use Rattle.exchange_lines.specs.Claims.{AtEach, of_call, OverLine, Others, LinesClose}
use Rattle.exchange_lines.specs.InOrder.{none_handed, OnceInOrder}
use Rattle.exchange_lines.proofs.Theorem.{lines-close, net-course}
use Rattle.exchange_lines.proofs.InOrder.{once-in-order}
use Rattle.exchange_lines_examples.proofs.Plays.{
  Play,
  begins,
  silent,
  request,
  reply,
  Table,
  moves_of,
  quick_end,
  is_played,
  Plays,
  plays,
}

abbrev seeds : Seeds
seeds = record { requests = λ i. 590; replies = λ i. 590 }

abbrev fresh : Table
fresh = record { net = fresh_net seeds; handed = none_handed }

-- The opening is held; the next, after no reply, is lost; the third comes out twice, and behind it the one held. All
-- three go to the bank. Its first reply is held, its second lost, its third comes out twice, and behind it the one held,
-- with which the run goes on. Its segment and the reply to it come out.
abbrev bad_line : List Play
bad_line =
    begins Upload 1 7 (65 ∷ []) ∷ silent ∷ silent ∷ request ∷ request ∷ request ∷ reply ∷ reply ∷ reply ∷ request ∷ reply ∷ []

-- what is computed of a list of plays
record Computed (ps : List Play) : Type 0 where
  played : is_played ps fresh ≡ true
  numbers : is_numbered (quick_end ps fresh).net.course ≡ true
  lodged : ((quick_end ps fresh).net.course.runs 0).stage ≡ stage.Ended Lodged

bad-line : Computed bad_line
unfolding both_ends generator.left_xor generator.right_xor generator.moved line.decision line.carried_out line.stepped line.put
    line.out_of carry fresh_net
bad-line = record { played = refl; numbers = refl; lodged = refl }

-- what came out of its lines, of requests and replies counted back from the newest: the third twice, behind it the first,
-- then the last; the second is lost
record Lossy (s : Course) (ls : Lines) : Type 0 where
  requests : (ls.requests 0).out ≡ request_at 1 s ∷ request_at 1 s ∷ request_at 3 s ∷ request_at 0 s ∷ []
  replies : (ls.replies 0).out ≡ reply_at 1 s ∷ reply_at 1 s ∷ reply_at 3 s ∷ reply_at 0 s ∷ []

-- whether two lists of messages are the same
abbrev same_messages : List (List ℕ) → List (List ℕ) → Bool
same_messages [] [] = true
same_messages [] (y ∷ m) = false
same_messages (x ∷ l) [] = false
same_messages (x ∷ l) (y ∷ m) = same_bytes x y && same_messages l m

same_messages_lem : (l m : List (List ℕ)) → same_messages l m ≡ true → l ≡ m
same_messages_lem [] [] h = refl
same_messages_lem [] (y ∷ m) h = never h
same_messages_lem (x ∷ l) [] h = never h
same_messages_lem (x ∷ l) (y ∷ m) h =
    let o = and-true (same_bytes x y) (same_messages l m) h in
    let e = same_bytes_lem x y o.0 in
    let r = same_messages_lem l m o.1 in
    λ i. e i ∷ r i

abbrev came : Net → List (List ℕ)
came n = request_at 1 n.course ∷ request_at 1 n.course ∷ request_at 3 n.course ∷ request_at 0 n.course ∷ []

abbrev came_back : Net → List (List ℕ)
came_back n = reply_at 1 n.course ∷ reply_at 1 n.course ∷ reply_at 3 n.course ∷ reply_at 0 n.course ∷ []

-- the same as one test, which is computed at less cost than the two equations
abbrev is_lossy : Net → Bool
is_lossy n = same_messages (n.lines.requests 0).out (came n) && same_messages (n.lines.replies 0).out (came_back n)

lossy : is_lossy (quick_end bad_line fresh).net ≡ true
unfolding both_ends generator.left_xor generator.right_xor generator.moved line.decision line.carried_out line.stepped line.put
    line.out_of carry fresh_net
lossy = refl

told-lossy : (n : Net) → is_lossy n ≡ true → Lossy n.course n.lines
told-lossy n h =
    let o = and-true (same_messages (n.lines.requests 0).out (came n)) (same_messages (n.lines.replies 0).out (came_back n)) h in
    record { requests = same_messages_lem _ _ o.0; replies = same_messages_lem _ _ o.1 }

bad-line-lossy : let n = (quick_end bad_line fresh).net in Lossy n.course n.lines
bad-line-lossy = told-lossy (quick_end bad_line fresh).net lossy

-- ---- the theorem applied

fresh_holds : StateHolds fresh.net.course.bank
unfolding fresh_net start
fresh_holds = fresh-state

abbrev moves : List Play → List Move
moves ps = moves_of ps fresh

abbrev end : List Play → Course
end ps = after (calls_of (moves ps)) start

module _ (ps : List Play) (c : Computed ps) where
  all : Plays ps fresh
  all = plays ps fresh fresh_holds c.played

  -- each message is handed on once, in the order in which it came out
  over-lines : AtEach OverLine (moves ps) (fresh_net seeds)
  unfolding OnceInOrder
  over-lines = once-in-order seeds (moves ps) all.next

  end_is : (quick_end ps fresh).net.course ≡ end ps
  unfolding fresh_net
  end_is = ap (λ (n : Net). n.course) all.end ∙ net-course (moves ps) (fresh_net seeds)

  closes : ((end ps).runs 0).stage ≡ stage.Ended Lodged
  closes = subst (λ (s : Course). (s.runs 0).stage ≡ stage.Ended Lodged) end_is c.lodged

  -- demand 3's clauses
  outcome : Outcome (end ps)
  unfolding LinesClose
  outcome =
      let same = sym (append-nil (moves ps)) in
      (lines-close seeds (moves ps) [] (subst (λ (ms : List Move). AtEach OverLine ms (fresh_net seeds)) same over-lines)
      (subst (λ (ms : List Move). AtEach (of_call Others) ms (fresh_net seeds)) same all.others)
      (subst (λ (ms : List Move). OneExchangeNumber (after (calls_of ms) start)) same
      (subst OneExchangeNumber end_is (one_number (quick_end ps fresh).net.course c.numbers)))).0

-- the lines lose, double and hold
bad-line-net : let n = net_after (moves bad_line) (fresh_net seeds) in Lossy n.course n.lines
bad-line-net = subst (λ (n : Net). Lossy n.course n.lines) (all bad_line bad-line).end bad-line-lossy

-- and the order closes as lodged: it is in the book, with its bytes, under the name that the run closes with
bad-line-lodged : ((end bad_line).runs 0).stage ≡ stage.Ended Lodged
bad-line-lodged = closes bad_line bad-line

bad-line-booked : let s = end bad_line in
    (j : ℕ) × (o : Order) × InBook s j o × OrderOf s 0 o × (name_of o ≡ order_name (s.runs 0))
bad-line-booked = ((outcome bad_line bad-line).lodged 0 (closes bad_line bad-line)).1
