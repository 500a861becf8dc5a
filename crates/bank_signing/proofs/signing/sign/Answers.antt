-- The place, then the nonce: two changes stored as one. Assumes nothing.
use native.Mathlib.Omega.{arith}
use Rattle.bank_rows.specs.State.{bank_of}
use Rattle.bank_signing.proofs.Signed.{found_at, placed_at, found-signers, placed-laid, placed-memory, signed-stored}
use Rattle.bank_signing.proofs.signing.sign.Goals as goal

pub place_at-requires : goal.place_at-requires
place_at-requires c =
    let found = found_at (bank_of c.args.rows.now) c.args.q c.find_order-i.ensures c.owner.ensures c.order_number.ensures in
    (c.requires.0.long, omega (arith, found, c.requires.1.inside))

pub signed_place-place-requires : goal.signed_place-place-requires
signed_place-place-requires c =
    found-signers (bank_of c.args.rows.now) c.args.q c.find_order-i.ensures c.owner.ensures c.order_number.ensures c.requires.1 c.place_at.ensures

pub set_place-requires : goal.set_place-requires
set_place-requires c =
    let found = found_at (bank_of c.args.rows.now) c.args.q c.find_order-i.ensures c.owner.ensures c.order_number.ensures in
    (c.requires.0, omega (arith, found, c.requires.1.inside))

pub add_nonce-requires : goal.add_nonce-requires
add_nonce-requires c =
    let s = c.args.rows.now in
    let q = c.args.q in
    let found = found_at (bank_of c.args.rows.now) c.args.q c.find_order-i.ensures c.owner.ensures c.order_number.ensures in
    let place = placed_at (bank_of c.args.rows.now) c.args.q c.find_order-i.ensures c.owner.ensures c.order_number.ensures c.place_at.ensures
    c.subscriber.ensures c.signed_place-place.ensures in (
      placed-laid s c.requires.0 q c.requires.1 _ _ _ found place c.set_place.ensures,
      placed-memory s c.requires.0 q c.requires.1 _ _ _ found place c.set_place.ensures,
    )

pub returns : goal.returns
returns c =
    let s = c.args.rows.now in
    let q = c.args.q in
    let found = found_at (bank_of c.args.rows.now) c.args.q c.find_order-i.ensures c.owner.ensures c.order_number.ensures in
    let place = placed_at (bank_of c.args.rows.now) c.args.q c.find_order-i.ensures c.owner.ensures c.order_number.ensures c.place_at.ensures
    c.subscriber.ensures c.signed_place-place.ensures in
    signed-stored s c.requires.0 q c.requires.1 _ _ _ found place c.set_place.ensures _ _ _
    c.nonce-nonce.ensures c.timestamp.ensures c.add_nonce.ensures
