-- One opening more, then the series: two changes stored as one.
use Rattle.message.specs.declared.directions.Direction.TheVariants as direction
use Rattle.bank_openings.proofs.Opened.{counted-laid, upload-counted}
use Rattle.bank_openings.proofs.openings.count_upload.Goals as goal

pub move_series-requires : goal.move_series-requires
move_series-requires c = (
  counted-laid c.args.rows.now c.requires.0 c.args.q direction.Upload c.requires.1 _
      c.count_opening.ensures,
  c.requires.2,
)

pub returns : goal.returns
returns c =
    upload-counted c.args.rows.now c.requires.0 c.args.q c.requires.1 _
    c.count_opening.ensures _ c.args.number c.move_series.ensures
