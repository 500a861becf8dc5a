-- `read_numbers` meets its contract: lengths first, then the heads; only then is anything changed. Assumes nothing.
use mathlib.Core.Path.{sym, ◌∙◌}
use Rattle.image.proofs.Calls.{rest-items, numbers-size, image-bytes, numbers-lengths, numbers-other, numbers-done}
use Rattle.image.proofs.codec.read_numbers.Goals as goal

pub returns-then-numbers-f : goal.returns-then-numbers-f
returns-then-numbers-f c =
    let a = c.args in
    numbers-lengths c.image_sizes-f.result c.image_sizes-f.ensures a.image.now a.numbers.now c.if-numbers-f.true

pub returns-then-not-is_image : goal.returns-then-not-is_image
returns-then-not-is_image c =
    let a = c.args in
    numbers-other c.image_sizes-f.result c.image_sizes-f.ensures a.image.now a.numbers.now c.if-numbers-f.false
    (sym c.is_image.ensures ∙ c.if-not-is_image.true)

pub take_numbers-requires : goal.take_numbers-requires
take_numbers-requires c =
    let a = c.args in
    let image = sym c.is_image.ensures ∙ c.if-not-is_image.false in
    rw (rest-items c.image_sizes-f.result c.image_sizes-f.ensures c.start.result c.start.ensures) (
      image-bytes c.image_sizes-f.result c.image_sizes-f.ensures a.image.now image,
      sym (c.if-numbers-f.false ∙ numbers-size c.image_sizes-f.result c.image_sizes-f.ensures),
    )

pub returns : goal.returns
returns c =
    let a = c.args in
    numbers-done c.image_sizes-f.result c.image_sizes-f.ensures a.image.now a.numbers.now c.if-numbers-f.false
    (sym c.is_image.ensures ∙ c.if-not-is_image.false) _
    (rw (rest-items c.image_sizes-f.result c.image_sizes-f.ensures c.start.result c.start.ensures) at c.take_numbers.ensures)
