-- One upload more, then its place: two changes stored as one.
use native.Mathlib.Omega.{arith}
use Rattle.bank_openings.proofs.Opened.{upload-laid, upload-stored}
use Rattle.bank_openings.proofs.openings.open_upload.Goals as goal

pub set_place-requires : goal.set_place-requires
set_place-requires c =
    let a = c.args in (
      upload-laid a.rows.now c.requires.0 a.q c.requires.1 a.number _
          c.count_upload.ensures,
      omega (arith, c.free_place-i.ensures, c.requires.1.place),
    )

pub returns : goal.returns
returns c =
    let a = c.args in
    upload-stored a.rows.now c.requires.0 a.q c.requires.1 a.number _ c.count_upload.ensures _ _
    a.transaction _ c.set_place.ensures c.free_place-i.ensures
    (rw (c.subscriber.ensures, c.segments.ensures, c.clock.ensures))
