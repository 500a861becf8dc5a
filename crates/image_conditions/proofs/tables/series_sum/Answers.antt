-- What the counters leave of the openings is asked for the numbers chosen ahead. Assumes nothing.
use Rattle.std.proofs.Common.{arith, refl, sym, ap, ◌∙◌, ℕ, ◌+◌, leb}
use borrow.Author.Tests.{lt-leb}
use Rattle.octets.proofs.Tests.{leb-same}
use Rattle.bank_state.specs.Limits.{place_count}
use Rattle.image_records.specs.Shapes.{total}
use Rattle.image_records.specs.Layout.{openings, series_at, counter_at}
use Rattle.image_conditions.specs.Conditions.{chosen_ahead, series_sum}
use Rattle.image_conditions.proofs.Loops.{total-part}
use Rattle.image_conditions.proofs.tables.series_sum.Goals as goal

pub returns-in-Some : goal.returns-in-Some
unfolding series_sum counter_at
returns-in-Some c =
    let xs = c.args.numbers.now in
    let all = total-part xs series_at place_count (counter_at xs) (omega (arith, c.requires)) (λ i. refl) in
    let left = c.in-Some.ensures in
    ap (λ (n : ℕ). leb n c.in-Some.left) c.chosen_ahead.ensures
    ∙ leb-same {a = chosen_ahead xs} {b = c.in-Some.left} {c = total (counter_at xs) place_count + chosen_ahead xs} {d = openings xs}
    (λ h. omega (arith, h, all, left.0, left.1)) (λ h. omega (arith, h, all, left.0, left.1))

pub returns-in-None : goal.returns-in-None
unfolding series_sum counter_at
returns-in-None c =
    let xs = c.args.numbers.now in
    let all = total-part xs series_at place_count (counter_at xs) (omega (arith, c.requires)) (λ i. refl) in
    sym (lt-leb (total (counter_at xs) place_count + chosen_ahead xs) (openings xs) (omega (arith, all, c.in-None.ensures)))
