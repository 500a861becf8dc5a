-- From one `L` to the next a line of the unit is after the messages put into it, record by record. Assumes nothing.
use Prim.Native.Nat.{ℕ}
use mathlib.Core.Bool.{Bool, true, false, cond, not, ◌&&◌}
use mathlib.Core.List.{List, [], ◌∷◌}
use mathlib.Core.Path.{◌≡◌, refl, sym, ap, ◌∙◌}
use lib.Dec.{eqb, leb}
use lib.ListN.{length}
use borrow.Author.Tests.{not-true}
use Rattle.octets.proofs.Tests.{and-true}
use Rattle.line.specs.Line.{Message, Line, message_bytes, put}
use Rattle.line.specs.Course.{after}
use Rattle.line.proofs.Courses.{after-append}
use Rattle.unit_state.specs.declared.record.Kind.{Kind}
use Rattle.unit_state.specs.declared.record.Kind.TheVariants as kind
use Rattle.unit_state.specs.Records.{seed_of, call_of}
use Rattle.unit.specs.Call.{line_index}
use Rattle.unit_lines.specs.UnitLines.{used, message_of, used_by, used_after, sent_by, sent_to, kept_by, kept_in, UnitCourse}

-- a message is put in, or is not
put-sent : (l : Line) (m : Message) (t s : Bool)
    → cond (t && (true && s)) (used (put l m).next) (used l) ≡ used (after l (cond (t && s) (m ∷ []) []))
unfolding after
put-sent l m true true = refl
put-sent l m true false = refl
put-sent l m false s = refl

-- one record
record-sent : (i : ℕ) (l : Line) (r : List ℕ) (g : Kind) → kept_by g i r ≡ true
    → used_by g i r (used l) ≡ used (after l (sent_by g i r))
unfolding after
record-sent i l r kind.Frame h = refl
record-sent i l r kind.File h = refl
record-sent i l r (kind.Run e) h = refl
record-sent i l r kind.Journal h = refl
record-sent i l r kind.Away h = refl
record-sent i l r kind.TakeUp h = refl
record-sent i l r kind.Image h = refl
record-sent i l r kind.ValueDay h = refl
record-sent i l r kind.MakeLine h = rw (not-true (eqb (line_index r) i && not (eqb (seed_of r) 0)) h)
record-sent i l r kind.PutIn h = put-sent l (message_of r) (eqb (line_index r) i) (leb (length (message_of r)) message_bytes)
record-sent i l r kind.Counts h = refl
record-sent i l r kind.NoCall h = refl

pub unit-course : UnitCourse
unfolding UnitCourse used_after sent_to kept_in after
unit-course i l [] h = refl
unit-course i l (r ∷ rs) h =
    let k = and-true (kept_by (call_of r) i r) (kept_in i rs) h in
    let sent = sent_by (call_of r) i r in
    ap (used_after i rs) (record-sent i l r (call_of r) k.0)
    ∙ unit-course i (after l sent) rs k.1
    ∙ ap used (sym (after-append l sent (sent_to i rs)))
