-- The parts of the image at the stores' places are the stores in it. Assumes nothing.
use native.Mathlib.Omega.{arith}
use Rattle.image_calls.proofs.Tests.{image-short}
use Rattle.image_calls.proofs.Taking.{places-within, parts-listed}
use Rattle.image_calls.proofs.told.holds_list.Goals as goal

pub overflow_add-orders : goal.overflow_add-orders
overflow_add-orders c =
    omega (arith, image-short, (places-within c.image_sizes-f.result c.image_sizes-f.ensures).0)

pub slice_bounds-orders-end : goal.slice_bounds-orders-end
slice_bounds-orders-end c =
    omega (arith, c.requires, (places-within c.image_sizes-f.result c.image_sizes-f.ensures).0)

pub overflow_add-mailboxes : goal.overflow_add-mailboxes
overflow_add-mailboxes c =
    omega (arith, image-short, (places-within c.image_sizes-f.result c.image_sizes-f.ensures).1)

pub slice_bounds-mailboxes-end : goal.slice_bounds-mailboxes-end
slice_bounds-mailboxes-end c =
    omega (arith, c.requires, (places-within c.image_sizes-f.result c.image_sizes-f.ensures).1)

pub returns : goal.returns
returns c =
    let a = c.args in
    parts-listed a.image.now c.image_sizes-f.result c.image_sizes-f.ensures a.numbers.now _ c.admitted.ensures
