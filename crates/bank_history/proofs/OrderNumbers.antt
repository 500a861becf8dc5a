-- No two numbers of a series have one order number, and document 01's examples of them. Assumes nothing.
use Prim.Native.Nat.{ℕ, ◌<◌}
use mathlib.Core.Path.{◌≡◌, refl}
use mathlib.Core.List.{[], ◌∷◌}
use Rattle.octets.specs.Bytes.{number_from, number}
use Rattle.bank_state.specs.Limits.{series_limit}
use Rattle.message.specs.OrderNumbers.{character, letter, order_number_of}
use Rattle.message.proofs.OrderNumbers.{number-one}

pub one-order-number : (m n : ℕ) → m < series_limit → n < series_limit → order_number_of m ≡ order_number_of n → m ≡ n
one-order-number = number-one

-- "0 is A000, 36 is A010, 46,656 is B000, 1,213,055 is ZZZZ": the four characters as the number of field 0E
pub order-number-examples : (order_number_of 0 ≡ number (65 ∷ 48 ∷ 48 ∷ 48 ∷ [])) × (order_number_of 36 ≡ number (65 ∷ 48 ∷ 49 ∷ 48 ∷ [])) ×
    (order_number_of 46656 ≡ number (66 ∷ 48 ∷ 48 ∷ 48 ∷ [])) × (order_number_of 1213055 ≡ number (90 ∷ 90 ∷ 90 ∷ 90 ∷ []))
unfolding order_number_of letter character number number_from
order-number-examples = (refl, refl, refl, refl)
