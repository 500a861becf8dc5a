-- `take_numbers` meets its contract. The loop's invariant: what is left to read is what the answer lacks. Assumes nothing.
use mathlib.Core.Path.{refl, sym, ◌∙◌}
use native.Mathlib.Omega.{arith}
use Rattle.image.specs.Walk.{rest}
use Rattle.image.specs.Image.{numbers_of}
use Rattle.octets.proofs.Numbers.{overwrite-all}
use Rattle.image.proofs.Walking.{walked-head, walked-part, walked-narrow, walked-store, bytes-constant, bytes-part, bytes-store, parts-part}
use Rattle.image.proofs.Lengths.{length-numbers_of}
use Rattle.image.proofs.Reading.{taking-constant, taking-part, taking-store, taking-end}
use borrow.Author.Rules.{rules}
use Rattle.image.proofs.codec.take_numbers.Goals as goal

pub loop-entry-init : goal.loop-entry-init
loop-entry-init c =
    let a = c.args in
    let items = rest a.from in (
      search rules,
      search rules,
      record {
        room = search rules;
        space = search rules;
        long = refl;
        numbers = rw c.into_iter-entry-iterator.ensures.into_iter_gives (sym (overwrite-all a.numbers.now (numbers_of items a.image.now) (sym (length-numbers_of items a.image.now ∙ c.requires.1))));
      },
    )

pub overflow_add-at : goal.overflow_add-at
overflow_add-at c =
    omega (arith, bytes-constant (walked-head _ c.in-Some.ensures.steps.0 c.in-Head.is))

pub loop-entry-preserved-in-Head : goal.loop-entry-preserved-in-Head
loop-entry-preserved-in-Head c = (search rules, search rules, taking-constant c.loop-entry.invariant.2 (walked-head _ c.in-Some.ensures.steps.0 c.in-Head.is))

pub number_at-requires : goal.number_at-requires
number_at-requires c =
    (walked-narrow _ c.in-Some.ensures.steps.1 c.in-Part.is, omega (arith, bytes-part (walked-part _ c.in-Some.ensures.steps.0 c.in-Part.is)))

pub bounds-numbers-k : goal.bounds-numbers-k
bounds-numbers-k c =
    omega (arith, parts-part (walked-part _ c.in-Some.ensures.steps.0 c.in-Part.is))

pub overflow_add-at-in-Part : goal.overflow_add-at-in-Part
overflow_add-at-in-Part c =
    omega (arith, bytes-part (walked-part _ c.in-Some.ensures.steps.0 c.in-Part.is))

pub overflow_add-k : goal.overflow_add-k
overflow_add-k c =
    omega (arith, parts-part (walked-part _ c.in-Some.ensures.steps.0 c.in-Part.is))

pub loop-entry-preserved-in-Part : goal.loop-entry-preserved-in-Part
loop-entry-preserved-in-Part c = (search rules, search rules, taking-part c.loop-entry.invariant.2 (walked-part _ c.in-Some.ensures.steps.0 c.in-Part.is) _ c.number_at.ensures)

pub overflow_add-at-in-Store : goal.overflow_add-at-in-Store
overflow_add-at-in-Store c = omega (arith, bytes-store (walked-store _ c.in-Some.ensures.steps.0 c.in-Store.is))

pub loop-entry-preserved : goal.loop-entry-preserved
loop-entry-preserved c = (search rules, search rules, taking-store c.loop-entry.invariant.2 (walked-store _ c.in-Some.ensures.steps.0 c.in-Store.is))

pub returns : goal.returns
returns c =
    taking-end c.loop-entry.invariant.2 (sym c.in-None.ensures.steps.0.0)
