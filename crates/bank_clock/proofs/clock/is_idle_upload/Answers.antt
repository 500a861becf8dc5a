-- An open upload, then the time of its last fitting request.
use mathlib.Core.Bool.{true, false}
use mathlib.Core.Path.{◌≡◌, sym, ◌∙◌}
use Rattle.bank_state.specs.Clock.{is_idle}
use Rattle.bank_state.specs.Search.{is_open}
use Rattle.bank_state.specs.State.{place_at}
use Rattle.bank_rows.specs.State.{bank_of}
use Rattle.bank_rows.proofs.Reading.{place_read}
use Rattle.bank_clock.proofs.clock.is_idle_upload.Goals as goal

pub returns-then-is_open_at : goal.returns-then-is_open_at
unfolding is_idle
returns-then-is_open_at c =
    let a = c.args in
    let e : is_open (place_at (bank_of a.rows.now) a.i).used ≡ true =
    sym c.is_open_at.ensures ∙ c.if-is_open_at.true in
    rw (e, place_read a.rows.now a.i c.requires.1) c.is_behind.ensures

pub returns-else-is_open_at : goal.returns-else-is_open_at
unfolding is_idle
returns-else-is_open_at c =
    let a = c.args in
    let e : is_open (place_at (bank_of a.rows.now) a.i).used ≡ false =
    sym c.is_open_at.ensures ∙ c.if-is_open_at.false in
    rw e c.if-is_open_at.false
