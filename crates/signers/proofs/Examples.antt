-- Signers and released orders, at examples. Assumes nothing.
use mathlib.Core.Bool.{true, false}
use mathlib.Core.List.{[], ◌∷◌}
use mathlib.Core.Path.{◌≡◌, refl}
use Rattle.signers.specs.Signers.{has_bit, is_signer, with_signer, count_from, signer_count, is_released}

-- "two or more make the order released": nobody signs, subscriber 1, subscriber 1 again, and then subscriber 8
pub released : is_released 0 ∷ is_released (with_signer 1 0) ∷ is_released (with_signer 1 (with_signer 1 0))
    ∷ is_released (with_signer 8 (with_signer 1 0)) ∷ [] ≡ false ∷ false ∷ false ∷ true ∷ []
unfolding is_released signer_count count_from with_signer is_signer has_bit
released = refl

-- "the bit of value 1 is subscriber 1, of 128 subscriber 8"; who is no subscriber adds nobody
pub values : with_signer 1 0 ∷ with_signer 8 0 ∷ with_signer 0 5 ∷ with_signer 9 5 ∷ [] ≡ 1 ∷ 128 ∷ 5 ∷ 5 ∷ []
unfolding with_signer is_signer has_bit
values = refl
