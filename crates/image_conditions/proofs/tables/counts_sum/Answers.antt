-- The counts leave none of the openings. Assumes nothing.
use Rattle.std.proofs.Common.{arith, refl, sym, ◌≡◌, eqb}
use borrow.Author.Tests.{eq-eqb, ne_eqb, eqb-true, eqb-false}
use mathlib.Core.Bool.{Bool, true, false}
use Prim.Native.Nat.{ℕ, ◌+◌}
use Rattle.image_records.specs.Shapes.{total}
use Rattle.image_records.specs.Layout.{openings, counts_at, count_size, count_at}
use Rattle.image_conditions.specs.Conditions.{counts_sum}
use Rattle.image_conditions.proofs.Loops.{total-part}
use Rattle.image_conditions.proofs.tables.counts_sum.Goals as goal

-- of a whole in two parts, the second is none exactly if the first is the whole
of-rest : (first rest whole : ℕ) → first + rest ≡ whole → (t : Bool) → eqb rest 0 ≡ t → t ≡ eqb first whole
of-rest first rest whole e true h = sym (eq-eqb first whole (omega (arith, e, eqb-true rest 0 h)))
of-rest first rest whole e false h = sym (ne_eqb first whole (λ same. eqb-false rest 0 h (omega (arith, e, same))))

pub returns-in-Some : goal.returns-in-Some
unfolding counts_sum count_at
returns-in-Some c =
    let xs = c.args.numbers.now in
    let all = total-part xs counts_at count_size (count_at xs) (omega (arith, c.requires)) (λ i. refl) in
    let left = c.in-Some.ensures in
    of-rest (total (count_at xs) count_size) c.in-Some.left (openings xs) (omega (arith, all, left.0, left.1)) _ refl

pub returns-in-None : goal.returns-in-None
unfolding counts_sum count_at
returns-in-None c =
    let xs = c.args.numbers.now in
    let all = total-part xs counts_at count_size (count_at xs) (omega (arith, c.requires)) (λ i. refl) in
    sym (ne_eqb (total (count_at xs) count_size) (openings xs) (λ same. omega (arith, same, all, c.in-None.ensures)))
