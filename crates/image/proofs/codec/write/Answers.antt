-- `write` meets its contract: lengths first, then whether each number fits its part. Assumes nothing.
use mathlib.Core.Path.{sym, ◌∙◌}
use native.Mathlib.Omega.{arith}
use Rattle.image.specs.Image.{image_of}
use Rattle.image.proofs.Calls.{rest-items, numbers-size, image-size, lent-numbers, lent-orders, lent-mailboxes, lent-all, lent-stores, written-lengths, written-short, written-unfit, written-done}
use Rattle.image.proofs.codec.write.Goals as goal
use Rattle.image.proofs.codec.write.Goals.{
  then-numbers-f-via-then-numbers-f,
  then-numbers-f-via-else-numbers-f+then-orders-f,
  then-numbers-f-via-else-numbers-f+else-orders-f+then-mailboxes-f,
}

pub returns-then-numbers-f : goal.returns-then-numbers-f
returns-then-numbers-f c =
    let a = c.args in
    let xs = a.numbers.now in
    let orders = a.orders.now in
    let boxes = a.mailboxes.now in
    let f = c.image_sizes-f in
    written-lengths f.result f.ensures xs orders boxes a.buffer.now
    (elim c.then-numbers-f.branch [
      | then-numbers-f-via-then-numbers-f w ↦ lent-numbers f.result f.ensures xs orders boxes w.if-numbers-f.true
      | then-numbers-f-via-else-numbers-f+then-orders-f w ↦
          lent-orders f.result f.ensures xs orders boxes w.if-numbers-f.false w.if-orders-f.true
      | then-numbers-f-via-else-numbers-f+else-orders-f+then-mailboxes-f w ↦
          lent-mailboxes f.result f.ensures xs orders boxes w.if-numbers-f.false w.if-orders-f.false w.if-mailboxes-f.true
    ])

pub returns-then-buffer-f : goal.returns-then-buffer-f
returns-then-buffer-f c =
    let a = c.args in
    let xs = a.numbers.now in
    let orders = a.orders.now in
    let boxes = a.mailboxes.now in
    let lent = lent-all c.image_sizes-f.result c.image_sizes-f.ensures xs orders boxes c.if-numbers-f.false c.if-orders-f.false c.if-mailboxes-f.false in
    written-short c.image_sizes-f.result c.image_sizes-f.ensures xs orders boxes a.buffer.now lent c.if-buffer-f.true

pub fits_all-requires : goal.fits_all-requires
fits_all-requires c =
    let a = c.args in
    let items = rest-items c.image_sizes-f.result c.image_sizes-f.ensures c.start-from.result c.start-from.ensures in
    rw items (omega (arith, c.if-numbers-f.false, numbers-size c.image_sizes-f.result c.image_sizes-f.ensures))

pub returns-then-not-fits_all : goal.returns-then-not-fits_all
returns-then-not-fits_all c =
    let a = c.args in
    let xs = a.numbers.now in
    let orders = a.orders.now in
    let boxes = a.mailboxes.now in
    let lent = lent-all c.image_sizes-f.result c.image_sizes-f.ensures xs orders boxes c.if-numbers-f.false c.if-orders-f.false c.if-mailboxes-f.false in
    let items = rest-items c.image_sizes-f.result c.image_sizes-f.ensures c.start-from.result c.start-from.ensures in
    written-unfit c.image_sizes-f.result c.image_sizes-f.ensures xs orders boxes a.buffer.now lent c.if-buffer-f.false
    (sym (rw items at c.fits_all.ensures) ∙ c.if-not-fits_all.true)

pub put_all-requires : goal.put_all-requires
put_all-requires c =
    let a = c.args in
    let xs = a.numbers.now in
    let orders = a.orders.now in
    let boxes = a.mailboxes.now in
    let items = rest-items c.image_sizes-f.result c.image_sizes-f.ensures c.start-from.result c.start-from.ensures in
    rw items (
      omega (arith, c.if-numbers-f.false, numbers-size c.image_sizes-f.result c.image_sizes-f.ensures),
      lent-stores c.image_sizes-f.result c.image_sizes-f.ensures xs orders boxes c.if-orders-f.false c.if-mailboxes-f.false,
      omega (arith, c.if-buffer-f.false, image-size c.image_sizes-f.result c.image_sizes-f.ensures),
    )

pub returns : goal.returns
unfolding image_of
returns c =
    let a = c.args in
    let xs = a.numbers.now in
    let orders = a.orders.now in
    let boxes = a.mailboxes.now in
    let lent = lent-all c.image_sizes-f.result c.image_sizes-f.ensures xs orders boxes c.if-numbers-f.false c.if-orders-f.false c.if-mailboxes-f.false in
    let items = rest-items c.image_sizes-f.result c.image_sizes-f.ensures c.start-from.result c.start-from.ensures in
    written-done c.image_sizes-f.result c.image_sizes-f.ensures xs orders boxes a.buffer.now lent c.if-buffer-f.false
    (sym (rw items at c.fits_all.ensures) ∙ c.if-not-fits_all.false) _ (rw items at c.put_all.ensures)
