-- The stated cases of the window and of the idle limit, in milliseconds. Assumes nothing.
use mathlib.Core.Bool.{true, false}
use mathlib.Core.List.{[], ◌∷◌}
use mathlib.Core.Path.{◌≡◌, refl}
use Rattle.bank_state.specs.Clock.{is_idle, forget}
use Rattle.bank_state.specs.Rows.{keep_only, keep}
use Rattle.bank_state.specs.State.{Nonce, no_nonce}

-- "Open at 3,600,000, gone at 3,600,001"
pub open-at-limit : is_idle 3600000 0 ≡ false
unfolding is_idle
open-at-limit = refl

pub gone-behind-limit : is_idle 3600001 0 ≡ true
unfolding is_idle
gone-behind-limit = refl

-- a nonce of an opening at time 0
abbrev nonce : Nonce
nonce = record { used = true; value = record { high = 1; low = 2 }; timestamp = 0 }

-- "remembered ... while its timestamp is at most" 300,000 "behind the clock"
pub remembered-in-window : forget 300000 (nonce ∷ []) ≡ nonce ∷ []
unfolding forget keep_only keep
remembered-in-window = refl

pub forgotten-behind-window : forget 300001 (nonce ∷ []) ≡ no_nonce ∷ []
unfolding forget keep_only keep
forgotten-behind-window = refl
