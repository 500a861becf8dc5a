-- Each field is a number of the run's, or what it says. Assumes nothing.
use mathlib.Core.Path.{sym}
use Rattle.unit_rows.proofs.Rows.{client-read}
use Rattle.unit_rows.proofs.runs.client_at.Goals as goal

pub returns : goal.returns
returns c =
    rw (c.stage_of.ensures, c.direction_of.ensures, c.step_of.ensures, c.edition_of.ensures)
    (sym (client-read c.args.runs.now c.args.i))
