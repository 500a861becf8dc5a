-- A row in use is open, and the time of its last fitting request is a number of the row.
use Rattle.bank_state.specs.Clock.{is_idle}
use Rattle.bank_rows.proofs.Reading.{download-read}
use Rattle.bank_clock.proofs.idle.is_idle_download.Goals as goal

pub returns : goal.returns
unfolding is_idle
returns c =
    let a = c.args in
    rw (download-read a.rows.now c.requires.0 a.i c.requires.1) c.is_behind.ensures
