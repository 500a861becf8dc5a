-- The nonce, then the number of the openings: two changes stored as one.
use native.Mathlib.Omega.{arith}
use Rattle.bank_rows.proofs.Reading.{free-nonce}
use Rattle.bank_openings.proofs.Opened.{noted-laid, counted-stored}
use Rattle.bank_openings.proofs.openings.count_opening.Goals as goal

pub add_nonce-requires : goal.add_nonce-requires
add_nonce-requires c =
    (c.requires.0, omega (arith, free-nonce c.args.rows.now, c.requires.1))

pub set_openings-requires : goal.set_openings-requires
set_openings-requires c =
    noted-laid c.args.rows.now c.requires.0 c.args.q c.requires.1 _ _ _
    c.nonce-nonce.ensures c.timestamp.ensures c.add_nonce.ensures

pub returns : goal.returns
returns c =
    counted-stored c.args.rows.now c.requires.0 c.args.q c.requires.1 _ _ _
    c.nonce-nonce.ensures c.timestamp.ensures c.add_nonce.ensures _ _
    c.openings-n.ensures c.set_openings.ensures
