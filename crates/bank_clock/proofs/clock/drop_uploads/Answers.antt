-- The first i places are gone through.
use mathlib.Core.Path.{◌≡◌, refl, ◌∙◌}
use native.Mathlib.Omega.{arith}
use Rattle.bank_state.specs.Limits.{place_count}
use Rattle.bank_clock.proofs.Steps.{drops-start, drops-laid, drops-next}
use Rattle.bank_clock.proofs.clock.drop_uploads.Goals as goal

pub loop-i-init : goal.loop-i-init
loop-i-init c =
    (refl, refl, drops-start c.args.rows.now c.requires.0 c.args.orders.now)

pub drop_upload-requires : goal.drop_upload-requires
drop_upload-requires c =
    let a = c.args in (
      drops-laid a.rows.now c.requires.0 a.orders.now c.loop-i.i c.loop-i.rows c.loop-i.orders c.loop-i.invariant.2,
      c.loop-i.invariant.1 ∙ c.requires.1,
      omega arith,
    )

pub loop-i-preserved : goal.loop-i-preserved
loop-i-preserved c =
    let a = c.args in (
      c.drop_upload.auto.rows ∙ c.loop-i.invariant.0,
      c.drop_upload.auto.orders ∙ c.loop-i.invariant.1,
      drops-next a.rows.now c.requires.0 a.orders.now c.loop-i.i c.loop-i.rows c.loop-i.orders c.loop-i.invariant.2 _ _ c.drop_upload.ensures,
    )

pub shape_of-rows : goal.shape_of-rows
shape_of-rows c = c.loop-i.invariant.0

pub shape_of-orders : goal.shape_of-orders
shape_of-orders c = c.loop-i.invariant.1

pub returns : goal.returns
returns c =
    let e : c.loop-i.i ≡ place_count = omega arith in
    λ mailboxes. rw e at (c.loop-i.invariant.2 mailboxes)
