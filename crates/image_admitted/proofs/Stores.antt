-- The bytes of a part of a store behind a length: tested for zeros, and said as zeros. Assumes nothing.
use Prim.Native.Nat.{ℕ, ◌+◌, ◌-◌, ◌*◌, ◌≤◌, ◌<◌}
use mathlib.Core.Bool.{true}
use mathlib.Core.List.{List, ◌++◌}
use mathlib.Core.Path.{◌≡◌, sym, ap, ◌∙◌, subst}
use native.Mathlib.Omega.{arith}
use lib.ListN.{length, take, drop, replicate, length-drop, take-append-drop}
use lib.Seq.{drop-drop, drop_at, length-take-le}
use Rattle.message.specs.Limits.{file_bytes}
use Rattle.bank_state.specs.Limits.{place_count, store_bytes}
use Rattle.bank_state.specs.Store.{part_at}
use Rattle.bank_state.proofs.Stores.{length_part}
use Rattle.bank_admitted.proofs.Stores.{drop-take}
use Rattle.image_records.specs.Shapes.{all_zero}
use Rattle.image_conditions.specs.Conditions.{bytes_behind}
use Rattle.image_records.proofs.General.{zeros-are, all-zeros}
use Rattle.image_admitted.proofs.Shown.{up-to-few}

module _ (store : List ℕ) (whole : length store ≡ store_bytes) (i : ℕ) (inside : i < place_count) (n : ℕ) (fits : n ≤ file_bytes)
  where
    abbrev part : List ℕ
    part = part_at store i

    behind : bytes_behind file_bytes store i n ≡ drop n part
    unfolding bytes_behind part_at
    behind =
        let l : List ℕ = drop (i * file_bytes) store in
        let e : n + (file_bytes - n) ≡ file_bytes = omega arith in
        let long = length-drop (i * file_bytes) store in
        rw (up-to-few file_bytes n fits)
        (ap (take (file_bytes - n)) (sym (drop-drop n (i * file_bytes) store)) ∙ sym (drop-take n (file_bytes - n) l (omega arith))
        ∙ ap (λ (k : ℕ). drop n (take k l)) e)

    pub zeros-told : all_zero (bytes_behind file_bytes store i n) ≡ true → part ≡ take n part ++ replicate (file_bytes - n) 0
    zeros-told h =
        let z = zeros-are (drop n part) (rw behind at h) in
        let long = length-drop n part ∙ ap (λ (k : ℕ). k - n) (length_part store whole i inside) in
        sym (take-append-drop n part) ∙ ap (λ (r : List ℕ). take n part ++ r) (z ∙ ap (λ (k : ℕ). replicate k 0) long)

    pub zeros-tested : part ≡ take n part ++ replicate (file_bytes - n) 0 → all_zero (bytes_behind file_bytes store i n) ≡ true
    zeros-tested e =
        let z : List ℕ = replicate (file_bytes - n) 0 in
        let long = length-take-le n part (omega (arith, length_part store whole i inside)) in
        subst (λ (l : List ℕ). all_zero l ≡ true) (sym (behind ∙ ap (drop n) e ∙ drop_at (take n part) z n long))
        (all-zeros (file_bytes - n))
