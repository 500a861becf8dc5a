-- One opening more, then its record: two changes stored as one.
use mathlib.Core.Path.{refl}
use native.Mathlib.Omega.{arith}
use Rattle.message.specs.declared.directions.Direction.TheVariants as direction
use Rattle.bank_openings.proofs.Opened.{counted-laid, counted-downloads, download-stored}
use Rattle.bank_openings.proofs.openings.open_download.Goals as goal

pub add_download-requires : goal.add_download-requires
add_download-requires c =
    let s = c.args.rows.now in
    let room = c.requires.1 in
    let same =
    counted-downloads s c.requires.0 c.args.q room _ c.count_opening.ensures in (
      counted-laid s c.requires.0 c.args.q direction.Download room _ c.count_opening.ensures,
      omega (arith, same, room.place),
      refl,
    )

pub returns : goal.returns
returns c =
    let a = c.args in
    download-stored a.rows.now c.requires.0 a.q c.requires.1 _ c.count_opening.ensures _
    a.transaction _ c.add_download.ensures
    (rw (c.subscriber.ensures, c.clock.ensures))
