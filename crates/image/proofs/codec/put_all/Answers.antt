-- `put_all` meets its contract. The loop's invariant: what is left to write is what the answer lacks. Assumes nothing.
use mathlib.Core.Path.{sym}
use native.Mathlib.Omega.{arith}
use Rattle.image.proofs.Walking.{walked-head, walked-part, walked-store, bytes-constant, bytes-part, bytes-store, parts-part}
use Rattle.image.proofs.Loops.{putting-constant, putting-part, putting-below, putting-size, putting-store, putting-end}
use borrow.Author.Rules.{rules}
use Rattle.image.proofs.codec.put_all.Goals as goal

pub put_number-requires : goal.put_number-requires
put_number-requires c =
    omega (arith, bytes-constant (walked-head _ c.in-Some.ensures.steps.0 c.in-Head.is))

pub overflow_add-at : goal.overflow_add-at
overflow_add-at c =
    omega (arith, bytes-constant (walked-head _ c.in-Some.ensures.steps.0 c.in-Head.is))

pub loop-entry-preserved-in-Head : goal.loop-entry-preserved-in-Head
loop-entry-preserved-in-Head c = (search rules, search rules, putting-constant c.loop-entry.invariant.2 (walked-head _ c.in-Some.ensures.steps.0 c.in-Head.is) _ c.put_number.ensures)

pub bounds-numbers-k : goal.bounds-numbers-k
bounds-numbers-k c =
    omega (arith, parts-part (walked-part _ c.in-Some.ensures.steps.0 c.in-Part.is))

pub put_number-requires-in-Part : goal.put_number-requires-in-Part
put_number-requires-in-Part c =
    omega (arith, bytes-part (walked-part _ c.in-Some.ensures.steps.0 c.in-Part.is))

pub overflow_add-at-in-Part : goal.overflow_add-at-in-Part
overflow_add-at-in-Part c =
    omega (arith, bytes-part (walked-part _ c.in-Some.ensures.steps.0 c.in-Part.is))

pub overflow_add-k : goal.overflow_add-k
overflow_add-k c =
    omega (arith, parts-part (walked-part _ c.in-Some.ensures.steps.0 c.in-Part.is))

pub loop-entry-preserved-in-Part : goal.loop-entry-preserved-in-Part
loop-entry-preserved-in-Part c = (search rules, search rules, putting-part c.loop-entry.invariant.2 (walked-part _ c.in-Some.ensures.steps.0 c.in-Part.is) _ c.put_number-in-Part.ensures)

pub put_store-requires : goal.put_store-requires
put_store-requires c =
    let l = c.loop-entry.invariant.2 in
    let e = (walked-store _ c.in-Some.ensures.steps.0 c.in-Store.is) in
    (putting-below l e, omega (arith, bytes-store e, putting-size l e))

pub overflow_add-at-in-Store : goal.overflow_add-at-in-Store
overflow_add-at-in-Store c =
    omega (arith, bytes-store (walked-store _ c.in-Some.ensures.steps.0 c.in-Store.is))

pub overflow_add-n : goal.overflow_add-n
overflow_add-n c =
    omega (arith, putting-below c.loop-entry.invariant.2 (walked-store _ c.in-Some.ensures.steps.0 c.in-Store.is))

pub loop-entry-preserved : goal.loop-entry-preserved
loop-entry-preserved c = (search rules, search rules, putting-store c.loop-entry.invariant.2 (walked-store _ c.in-Some.ensures.steps.0 c.in-Store.is) _ c.put_store.ensures)

pub returns : goal.returns
returns c =
    putting-end c.loop-entry.invariant.2 (sym c.in-None.ensures.steps.0.0)
