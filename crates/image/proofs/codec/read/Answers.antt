-- `read` meets its contract: lengths first, then the heads; only then is anything changed. Assumes nothing.
use mathlib.Core.Path.{sym, ◌∙◌}
use Rattle.image.proofs.Calls.{rest-items, numbers-size, image-long, image-bytes, store-size, lent-numbers, lent-orders, lent-mailboxes, lent-all, taken-lengths, taken-other, taken-done}
use Rattle.image.proofs.codec.read.Goals as goal
use Rattle.image.proofs.codec.read.Goals.{
  then-numbers-f-via-then-numbers-f,
  then-numbers-f-via-else-numbers-f+then-orders-f,
  then-numbers-f-via-else-numbers-f+else-orders-f+then-mailboxes-f,
}

pub returns-then-numbers-f : goal.returns-then-numbers-f
returns-then-numbers-f c =
    let a = c.args in
    let xs = a.numbers.now in
    let orders = a.orders.now in
    let boxes = a.mailboxes.now in
    let f = c.image_sizes-f in
    taken-lengths f.result f.ensures xs orders boxes a.image.now
    (elim c.then-numbers-f.branch [
      | then-numbers-f-via-then-numbers-f w ↦ lent-numbers f.result f.ensures xs orders boxes w.if-numbers-f.true
      | then-numbers-f-via-else-numbers-f+then-orders-f w ↦
          lent-orders f.result f.ensures xs orders boxes w.if-numbers-f.false w.if-orders-f.true
      | then-numbers-f-via-else-numbers-f+else-orders-f+then-mailboxes-f w ↦
          lent-mailboxes f.result f.ensures xs orders boxes w.if-numbers-f.false w.if-orders-f.false w.if-mailboxes-f.true
    ])

pub returns-then-not-is_image : goal.returns-then-not-is_image
returns-then-not-is_image c =
    let a = c.args in
    let xs = a.numbers.now in
    let orders = a.orders.now in
    let boxes = a.mailboxes.now in
    let lent = lent-all c.image_sizes-f.result c.image_sizes-f.ensures xs orders boxes c.if-numbers-f.false c.if-orders-f.false c.if-mailboxes-f.false in
    taken-other c.image_sizes-f.result c.image_sizes-f.ensures xs orders boxes a.image.now lent
    (sym c.is_image.ensures ∙ c.if-not-is_image.true)

pub take_numbers-requires : goal.take_numbers-requires
take_numbers-requires c =
    let a = c.args in
    let image = sym c.is_image.ensures ∙ c.if-not-is_image.false in
    rw (rest-items c.image_sizes-f.result c.image_sizes-f.ensures c.start.result c.start.ensures) (
      image-bytes c.image_sizes-f.result c.image_sizes-f.ensures a.image.now image,
      sym (c.if-numbers-f.false ∙ numbers-size c.image_sizes-f.result c.image_sizes-f.ensures),
    )

pub take_stores-requires : goal.take_stores-requires
take_stores-requires c =
    let a = c.args in
    let size = store-size c.image_sizes-f.result c.image_sizes-f.ensures in
    let image = sym c.is_image.ensures ∙ c.if-not-is_image.false in
    (image-long c.image_sizes-f.result c.image_sizes-f.ensures a.image.now image, c.if-orders-f.false ∙ size, c.if-mailboxes-f.false ∙ size)

pub returns : goal.returns
returns c =
    let a = c.args in
    let xs = a.numbers.now in
    let orders = a.orders.now in
    let boxes = a.mailboxes.now in
    let lent = lent-all c.image_sizes-f.result c.image_sizes-f.ensures xs orders boxes c.if-numbers-f.false c.if-orders-f.false c.if-mailboxes-f.false in
    taken-done c.image_sizes-f.result c.image_sizes-f.ensures xs orders boxes a.image.now lent
    (sym c.is_image.ensures ∙ c.if-not-is_image.false) _ _
    (rw (rest-items c.image_sizes-f.result c.image_sizes-f.ensures c.start.result c.start.ensures) at c.take_numbers.ensures)
    c.take_stores.ensures
