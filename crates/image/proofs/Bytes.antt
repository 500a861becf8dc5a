-- Laws of a number written last byte first, and of a number's length. Assumes nothing.
use Prim.Native.Nat.{ℕ, zero, suc, ◌+◌, ◌*◌, ◌/◌, ◌%◌, ◌^◌, ◌≤◌, ◌<◌}
use mathlib.Core.List.{List, [], ◌∷◌, ◌++◌}
use mathlib.Core.Path.{◌≡◌, refl, sym, ap, ◌∙◌}
use native.Mathlib.Numerals.{unary_clauses}
use native.Mathlib.Nat.{zero-lt-suc, pow-le-pow_right}
use native.Mathlib.Omega.{arith}
use Rattle.std.proofs.lemmas.Nat.{pow-add, one_shl}
use lib.ListN.{length, take, drop, set, length-append, length-set}
use lib.Seq.{take-set-le, drop-set-lt, drop-cons, get_or-set_same, append_snoc}
use Rattle.octets.specs.Bytes.{bytes_of, overwrite}
use Rattle.octets.proofs.Numbers.{length-bytes_of}

-- the last element first
overwrite-last : (d : List ℕ) (at n v : ℕ) (xs : List ℕ) → length xs ≡ n → at + n < length d
    → overwrite (set d (at + n) v) at xs ≡ overwrite d at (xs ++ (v ∷ []))
unfolding overwrite
overwrite-last d at n v xs e h =
    let k : at + n < length (set d (at + n) v) = simp length-set (omega arith) in
    let m : at + length (xs ++ (v ∷ [])) ≡ suc (at + n) = simp length-append (omega arith) in
    let q : drop (at + n) (set d (at + n) v) ≡ v ∷ drop (suc (at + n)) d =
    drop-cons (set d (at + n) v) (at + n) 0 k
    ∙ ap (λ (x : ℕ). x ∷ drop (suc (at + n)) (set d (at + n) v)) (get_or-set_same d (at + n) v 0 h)
    ∙ ap (λ (l : List ℕ). v ∷ l) (drop-set-lt (suc (at + n)) d (at + n) v (omega arith)) in
    rw (m, e, q, take-set-le at d (at + n) v (omega arith))
    (ap (λ (l : List ℕ). take at d ++ l) (sym (append_snoc xs v (drop (suc (at + n)) d))))

-- one turn of writing a number
pub bytes_of-turn : (d : List ℕ) (at i j x : ℕ) → i ≡ suc j → at + j < length d
    → overwrite d at (bytes_of i x) ≡ overwrite (set d (at + j) (x % 256)) at (bytes_of j (x / 256))
unfolding bytes_of
bytes_of-turn d at i j x e h =
    rw e (sym (overwrite-last d at j (x % 256) (bytes_of j (x / 256)) (length-bytes_of j (x / 256)) h))

-- eight bytes are enough for a number of 64 bits
pub eight-bytes : (w x : ℕ) → 8 ≤ w → x < 2 ^ 64 → x < 256 ^ w
eight-bytes w x h k = omega (arith, pow-le-pow_right {n = 256} (zero-lt-suc 255) {i = 8} {j = w} h)

-- a number of w bytes has 8 * w bits
pub bytes-bits : (w : ℕ) → 2 ^ (8 * w) ≡ 256 ^ w
bytes-bits zero = refl
bytes-bits (suc w) =
    let e : 8 * suc w ≡ 8 + 8 * w = omega arith in
    rw (e, pow-add 2 8 (8 * w), bytes-bits w) (simp unary_clauses (omega arith))

-- and the bound that the shift gives
pub shifted-bound : (w : ℕ) → w < 8 → (1 * 2 ^ (8 * w)) % 18446744073709551616 ≡ 256 ^ w
shifted-bound w h = one_shl (8 * w) 64 (omega arith) ∙ bytes-bits w
