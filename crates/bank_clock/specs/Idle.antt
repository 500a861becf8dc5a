-- The open transactions that are idle at a clock: those that a call drops that sets it.
use Rattle.std.specs.Prelude.{ℕ, ◌+◌, Bool, ◌&&◌}
use Rattle.bank_state.specs.declared.state.Place.{Place}
use Rattle.bank_state.specs.declared.state.Download.{Download}
use Rattle.bank_state.specs.Clock.{is_idle}
use Rattle.bank_state.specs.Rows.{count_of}
use Rattle.bank_state.specs.Search.{is_open}
use Rattle.bank_state.specs.State.{Bank}

abbrev pub is_idle_upload : ℕ → Place → Bool
is_idle_upload clock p = is_open p.used && is_idle clock p.last

abbrev pub is_idle_download : ℕ → Download → Bool
is_idle_download clock e = e.used && is_idle clock e.last

unfoldable pub idle_count : ℕ → Bank → ℕ
idle_count clock b = count_of (is_idle_upload clock) b.places + count_of (is_idle_download clock) b.downloads
