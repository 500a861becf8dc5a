-- `is_image` meets its contract: the length first, then the heads. Assumes nothing.
use mathlib.Core.Path.{◌∙◌}
use native.Mathlib.Omega.{arith}
use borrow.Author.Tests.{ne_eqb}
use Rattle.image.proofs.Calls.{image-size, image-other, image-heads}
use Rattle.image.proofs.codec.is_image.Goals as goal

pub heads_right-requires : goal.heads_right-requires
heads_right-requires c =
    let f = c.image_sizes in
    omega (arith, c.if-image-image_sizes.true, image-size f.result f.ensures)

pub returns-then-image-image_sizes : goal.returns-then-image-image_sizes
returns-then-image-image_sizes c =
    let f = c.image_sizes in
    image-heads f.result f.ensures c.args.image.now c.if-image-image_sizes.true _ c.heads_right.ensures

pub returns-else-image-image_sizes : goal.returns-else-image-image_sizes
returns-else-image-image_sizes c =
    let f = c.image_sizes in
    ne_eqb _ _ c.if-image-image_sizes.false ∙ image-other f.result f.ensures c.args.image.now c.if-image-image_sizes.false
