-- The calls of `line` carry as the lines between both ends do, by what follows them on lent memory. Assumes nothing.
use Prim.Native.Nat.{ℕ, ◌≤◌}
use mathlib.Core.Bool.{Bool, true, false, cond}
use mathlib.Core.List.{List, [], ◌∷◌, ◌++◌, append-nil}
use mathlib.Core.Path.{◌≡◌, refl, sym, ap, ◌∙◌, subst}
use native.Mathlib.Omega.{arith}
use lib.Dec.{leb}
use lib.ListN.{length, take, replicate}
use lib.Seq.{take_at}
use borrow.Author.Tests.{leb-true, leb-false}
use Rattle.octets.specs.Bytes.{overwrite}
use Rattle.line.specs.declared.decision.Decision.{Decision}
use Rattle.line.specs.Line.{Message, message_bytes, Line, Put, carried_out, put, out_of}
use Rattle.line.specs.Memory.{joined}
use Rattle.line.specs.Calls.{answer_for, PutCall, put_call, Lies}
use Rattle.line.proofs.Courses.{by-decision}
use Rattle.line.proofs.Following.{make-lies, follows}
use Rattle.exchange_lines.specs.Lines.{InUse, carry}
use Rattle.exchange_lines.specs.LineCalls.{out_by, Carries, LineCalls}

-- a message brings at most one held one out
released-one : (l : Line) (m : Message) → length (put l m).released ≤ 1
unfolding carried_out
released-one l m =
    by-decision (λ (k : Line) (x : Message) (d : Decision) (p : Put). length p.released ≤ 1)
    (λ k x. omega arith) (λ k x h. omega arith) (λ k x n h. first_one k.held) l m
  where
    first_one : (held : List Message) → length (take 1 held) ≤ 1
    first_one [] = omega arith
    first_one (x ∷ held) = omega arith

-- the held one stands at the front of the buffer
held-front : (x : Message) (buffer : List ℕ) → take (length x) (overwrite buffer 0 (joined (x ∷ []))) ≡ x
unfolding overwrite joined
held-front x buffer = take_at (x ++ []) _ (length x) (ap length (append-nil x)) ∙ append-nil x

-- what the answer tells is what came out
told-out : (n : ℕ) (held : List Message) → length held ≤ 1 → (m : Message) (buffer : List ℕ) →
    replicate n m ++ held ≡ out_by (answer_for n held) m (overwrite buffer 0 (joined held))
told-out n [] h m buffer = append-nil (replicate n m)
told-out n (x ∷ []) h m buffer = ap (λ (y : Message). replicate n m ++ (y ∷ [])) (sym (held-front x buffer))
told-out n (x ∷ y ∷ held) h m buffer = absurd (omega arith)

module _ (u : InUse) (m : Message) (row store buffer : List ℕ) (v : Lies u.line row store) (room : message_bytes ≤ length buffer) where
  abbrev l : Line
  l = u.line

  abbrev call : PutCall
  call = put_call row store m buffer

  short-carries : length m ≤ message_bytes →
      Carries call m u (record { line = (put l m).next; out = u.out ++ out_of m (put l m) })
  unfolding out_of
  short-carries h =
      let f = (follows l m row store buffer v).carried h room in
      record {
        line = f.0;
        out = ap (λ (o : List Message). u.out ++ o)
            (told-out (put l m).copies (put l m).released (released-one l m) m buffer
            ∙ (λ x. out_by (sym f.1 x) m (sym f.2 x)));
      }

  long-stays : (length m ≤ message_bytes → ⊥) → Carries call m u u
  long-stays h =
      let e = (follows l m row store buffer v).refused (λ f. h f.0) in
      subst (λ (k : PutCall). Carries k m u u) (sym e) (record { line = v; out = sym (append-nil u.out) })

  all-carries : Carries call m u (carry m u)
  unfolding carry
  all-carries = at (leb (length m) message_bytes) refl
    where
      at : (b : Bool) → leb (length m) message_bytes ≡ b →
          Carries call m u (cond b (record { line = (put l m).next; out = u.out ++ out_of m (put l m) }) u)
      at true e = short-carries (leb-true (length m) message_bytes e)
      at false e = long-stays (λ h. let z = leb-false (length m) message_bytes e in omega arith)

pub line-calls : LineCalls
line-calls = record { fresh = make-lies; carries = all-carries }
