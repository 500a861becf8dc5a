-- Laws of numbers as bytes, and of bytes written over others. Assumes nothing.
use Prim.Native.Nat.{ℕ, zero, suc, ◌+◌, ◌-◌, ◌*◌, ◌/◌, ◌%◌, ◌^◌, ◌≤◌, ◌<◌}
use mathlib.Core.List.{List, [], ◌∷◌, ◌++◌, append_assoc, append-nil}
use mathlib.Core.Bool.{Bool, true, false}
use mathlib.Core.Path.{◌≡◌, refl, sym, ap, ◌∙◌, subst}
use native.Mathlib.Nat.{
  add-zero,
  zero-add,
  add-suc,
  mul-add-div_right,
  mul-add-mod_self_right,
  add-mul,
  mul_assoc,
  mul_comm,
  div-add-mod',
  div-lt_iff_lt-mul,
  zero-lt-suc,
  div-div-eq-div-mul,
  pow-suc,
  mod-lt,
}
use native.Mathlib.Numerals.{add-one}
use native.Mathlib.Omega.{arith}
use lib.ListN.{
  drop_of_length-le,
  length,
  get_or,
  take,
  drop,
  set,
  length-append,
  length-drop,
  length-take,
  take-append-drop,
  get_or-eq_default,
}
use lib.Seq.{
  paste,
  take-length,
  take_all,
  take-suc,
  take_at,
  drop_at,
  drop-drop,
  drop-append-le,
  get_or-drop,
  get_or-take,
  take-suc-set,
  drop-set-lt,
  append_snoc,
}
use lib.Dec.{ltb}
use lib.Pow.{pow_mono, pow-add}
use lib.Arith.{digits_div, digits_mod, digits_lt}
use borrow.Author.Tests.{ltb-true, ltb-false}
use Rattle.std.specs.Int.{byte_at, bytes_high_first}
use Rattle.octets.specs.Bytes.{Bytes, number_from, number, bytes_of, field_bytes, overwrite}

-- ---- the number of some bytes

number_from-snoc : (a : ℕ) (l : List ℕ) (b : ℕ) → number_from a (l ++ (b ∷ [])) ≡ number_from a l * 256 + b
unfolding number_from
number_from-snoc a [] b = refl
number_from-snoc a (x ∷ l) b = number_from-snoc (a * 256 + x) l b

pub number-nil : number [] ≡ 0
unfolding number number_from
number-nil = refl

pub number-snoc : (l : List ℕ) (b : ℕ) → number (l ++ (b ∷ [])) ≡ number l * 256 + b
unfolding number
number-snoc l b = number_from-snoc 0 l b

pub number-take : (s : List ℕ) (i : ℕ) → i < length s → number (take (i + 1) s) ≡ number (take i s) * 256 + get_or s i 0
number-take s i h = rw (add-one, take-suc s i 0) (number-snoc (take i s) (get_or s i 0))

-- one byte more is eight bits more
pub byte_more : (i x b : ℕ) → x < 2 ^ (8 * i) → b < 256 → x * 256 + b < 2 ^ (8 * (i + 1))
byte_more i x b h k =
    let e : 2 ^ (8 * (i + 1)) ≡ 2 ^ (8 * i) * 256 = ap (λ (n : ℕ). 2 ^ n) (omega arith) ∙ pow-add 2 (8 * i) 8 in
    omega arith

pub seven-bytes : (i : ℕ) → i ≤ 7 → 2 ^ (8 * i) ≤ 2 ^ 56
seven-bytes i h = pow_mono {j = 56} (omega arith)

number_from-split : (a : ℕ) (l : List ℕ) → number_from a l ≡ a * 256 ^ length l + number_from 0 l
unfolding number_from
number_from-split a [] = omega arith
number_from-split a (x ∷ l) =
    let n : ℕ = 256 ^ length l in
    let m : 256 * n ≡ 256 ^ suc (length l) = mul_comm 256 n ∙ sym (pow-suc 256 (length l)) in
    let p : (a * 256 + x) * n ≡ a * (256 ^ suc (length l)) + x * n =
    add-mul (a * 256) x n ∙ ap (λ (z : ℕ). z + x * n) (mul_assoc a 256 n ∙ ap (λ (z : ℕ). a * z) m) in
    let q : number_from (0 * 256 + x) l ≡ x * n + number_from 0 l =
    ap (λ (z : ℕ). number_from z l) (omega arith) ∙ number_from-split x l in
    omega (arith, number_from-split (a * 256 + x) l)

number_from-append : (a : ℕ) (l m : List ℕ) → number_from a (l ++ m) ≡ number_from (number_from a l) m
unfolding number_from
number_from-append a [] m = refl
number_from-append a (x ∷ l) m = number_from-append (a * 256 + x) l m

number_append : (l m : List ℕ) → number (l ++ m) ≡ number l * 256 ^ length m + number m
unfolding number
number_append l m = number_from-append 0 l m ∙ number_from-split (number_from 0 l) m

halves-at : (l : List ℕ) (k : ℕ) (b : Bool) → k ≡ length l - 8 → ltb 8 (length l) ≡ b
    → number l ≡ number (take k l) * 2 ^ 64 + number (drop k l)
halves-at l k true q e =
    let h = ltb-true 8 (length l) e in
    let n : length (drop k l) ≡ 8 = simp length-drop (omega arith) in
    ap number (sym (take-append-drop k l)) ∙ number_append (take k l) (drop k l)
    ∙ ap (λ (n : ℕ). number (take k l) * 256 ^ n + number (drop k l)) n
halves-at l k false q e =
    let h = ltb-false 8 (length l) e in
    let z : k ≡ 0 = omega arith in
    rw z (omega (arith, number-nil))

-- the last eight bytes are the low 64 bits, those before them the high ones
pub number-halves : (l : List ℕ) → number l ≡ number (take (length l - 8) l) * 2 ^ 64 + number (drop (length l - 8) l)
number-halves l = halves-at l (length l - 8) (ltb 8 (length l)) refl refl

-- ---- the bytes of a number

pub length-bytes_of : (w x : ℕ) → length (bytes_of w x) ≡ w
unfolding bytes_of
length-bytes_of zero x = refl
length-bytes_of (suc w) x = simp length-append (omega (arith, length-bytes_of w (x / 256)))

drop-bytes_of : (n w x : ℕ) → drop n (bytes_of (n + w) x) ≡ bytes_of w x
unfolding bytes_of
drop-bytes_of n zero x = drop_of_length-le (bytes_of (n + zero) x) {i = n} (simp length-bytes_of (omega arith))
drop-bytes_of n (suc w) x =
    let e = drop-append-le n (bytes_of (n + w) (x / 256)) (x % 256 ∷ []) (simp length-bytes_of (omega arith)) in
    rw add-suc (e ∙ ap (λ (l : List ℕ). l ++ (x % 256 ∷ [])) (drop-bytes_of n w (x / 256)))

quotient-lt : (w x : ℕ) → x < 256 ^ suc w → x / 256 < 256 ^ w
quotient-lt w x h = (div-lt_iff_lt-mul (zero-lt-suc 255)).1 (rw (← pow-suc 256 w) h)

bytes_of-append : (a b x y : ℕ) → y < 256 ^ b → bytes_of (a + b) (x * 256 ^ b + y) ≡ bytes_of a x ++ bytes_of b y
unfolding bytes_of
bytes_of-append a zero x y h =
    let e : x * 1 + y ≡ x = omega arith in
    rw (add-zero a, e) (sym (append-nil (bytes_of a x)))
bytes_of-append a (suc b) x y h =
    let m : ℕ = x * 256 ^ b in
    let p : x * 256 ^ suc b ≡ m * 256 = ap (λ (z : ℕ). x * z) (pow-suc 256 b) ∙ sym (mul_assoc x (256 ^ b) 256) in
    let i = bytes_of-append a b x (y / 256) (quotient-lt b y h) in
    rw (add-suc a b, p, mul-add-div_right (zero-lt-suc 255) m y, mul-add-mod_self_right m 256 y, i)
    (append_assoc (bytes_of a x) (bytes_of b (y / 256)) (y % 256 ∷ []))

-- what stands behind the first n elements, as code takes it
pub take_rest : (s : List ℕ) (n : ℕ) → take (length s - n) (drop n s) ≡ drop n s
take_rest s n = take_all (length s - n) (drop n s) (simp length-drop (omega arith))

-- the last w of the sixteen bytes of a number are its w bytes
pub last-bytes : (w h l : ℕ) (s : List ℕ) → s ≡ bytes_of 8 h ++ bytes_of 8 l → w ≤ 16 → l < 2 ^ 64
    → take (length s - (16 - w)) (drop (16 - w) s) ≡ bytes_of w (h * 2 ^ 64 + l)
last-bytes w h l s q k m =
    let e : 16 - w + w ≡ 16 = omega arith in
    take_rest s (16 - w) ∙ ap (drop (16 - w)) (q ∙ sym (bytes_of-append 8 8 h l m))
    ∙ ap (λ (n : ℕ). drop (16 - w) (bytes_of n (h * 2 ^ 64 + l))) (sym e) ∙ drop-bytes_of (16 - w) w (h * 2 ^ 64 + l)

byte_at-suc : (k n : ℕ) → byte_at (suc k) n ≡ byte_at k (n / 256)
byte_at-suc zero n = refl
byte_at-suc (suc k) n =
    let e : 256 ^ suc (suc k) ≡ 256 * 256 ^ suc k = pow-suc 256 (suc k) ∙ mul_comm (256 ^ suc k) 256 in
    ap (λ (d : ℕ). n / d % 256) e ∙ ap (λ (q : ℕ). q % 256) (sym (div-div-eq-div-mul n 256 (256 ^ suc k)))

bytes_high_first-suc : (w x : ℕ) → bytes_high_first (suc w) x ≡ bytes_high_first w (x / 256) ++ (x % 256 ∷ [])
bytes_high_first-suc zero x = refl
bytes_high_first-suc (suc w) x =
    ap (λ (b : ℕ). b ∷ bytes_high_first (suc w) x) (byte_at-suc w x)
    ∙ ap (λ (l : List ℕ). byte_at w (x / 256) ∷ l) (bytes_high_first-suc w x)

-- what `to_be_bytes` gives
bytes_of-high_first : (w x : ℕ) → bytes_high_first w x ≡ bytes_of w x
unfolding bytes_of
bytes_of-high_first zero x = refl
bytes_of-high_first (suc w) x =
    bytes_high_first-suc w x ∙ ap (λ (l : List ℕ). l ++ (x % 256 ∷ [])) (bytes_of-high_first w (x / 256))

-- the sixteen bytes of a number are those of its high and of its low 64 bits
pub bytes_of-halves : (h l : ℕ) → l < 2 ^ 64 → bytes_high_first 16 (h * 2 ^ 64 + l) ≡ bytes_of 8 h ++ bytes_of 8 l
bytes_of-halves h l m = bytes_of-high_first 16 (h * 2 ^ 64 + l) ∙ bytes_of-append 8 8 h l m

pub number-bytes_of : (w x : ℕ) → x < 256 ^ w → number (bytes_of w x) ≡ x
unfolding bytes_of
number-bytes_of zero x h = number-nil ∙ omega arith
number-bytes_of (suc w) x h =
    number-snoc (bytes_of w (x / 256)) (x % 256)
    ∙ ap (λ (y : ℕ). y * 256 + x % 256) (number-bytes_of w (x / 256) (quotient-lt w x h)) ∙ div-add-mod' x 256

pub number_lt : (w x : ℕ) → number (bytes_of w x) < 256 ^ w
unfolding bytes_of
number_lt zero x = omega (arith, number-nil)
number_lt (suc w) x =
    rw (number-snoc (bytes_of w (x / 256)) (x % 256), pow-suc 256 w)
    (digits_lt (number_lt w (x / 256)) (mod-lt x (zero-lt-suc 255)))

-- ---- lists of bytes

pub bytes_drop : (n : ℕ) (s : List ℕ) → Bytes s → Bytes (drop n s)
bytes_drop n s b i = subst (λ (x : ℕ). x < 256) (sym (get_or-drop n s i 0)) (b (n + i))

bytes-take-at : (n : ℕ) (s : List ℕ) → Bytes s → (i : ℕ) (t : Bool) → ltb i n ≡ t → get_or (take n s) i 0 < 256
bytes-take-at n s b i true e = subst (λ (x : ℕ). x < 256) (sym (get_or-take n s i 0 (ltb-true i n e))) (b i)
bytes-take-at n s b i false e =
    let k = ltb-false i n e in
    let z = get_or-eq_default (take n s) 0 {n = i} (simp length-take (omega arith)) in
    subst (λ (x : ℕ). x < 256) (sym z) (omega arith)

pub bytes_take : (n : ℕ) (s : List ℕ) → Bytes s → Bytes (take n s)
bytes_take n s b i = bytes-take-at n s b i (ltb i n) refl

bytes_of-take : (l : List ℕ) → Bytes l → (n : ℕ) → n ≤ length l → bytes_of n (number (take n l)) ≡ take n l
unfolding bytes_of
bytes_of-take l b zero h = refl
bytes_of-take l b (suc n) h =
    let g : ℕ = get_or l n 0 in
    let y : ℕ = number (take n l) in
    let k = take-suc l n 0 (omega arith) in
    let e : number (take (suc n) l) ≡ y * 256 + g = ap number k ∙ number-snoc (take n l) g in
    rw (e, digits_div y (b n), digits_mod y (b n), bytes_of-take l b n (omega arith)) (sym k)

pub bytes_of-number : (w : ℕ) (c : List ℕ) → Bytes c → length c ≡ w → bytes_of w (number c) ≡ c
bytes_of-number w c b e =
    let k : take w c ≡ c = take_all w c (omega arith) in
    ap (λ (l : List ℕ). bytes_of w (number l)) (sym k) ∙ bytes_of-take c b w (omega arith) ∙ k

-- w bytes are a number below 256 ^ w
pub number_small : (w : ℕ) (s : List ℕ) → Bytes s → length s ≡ w → number s < 256 ^ w
number_small w s b e = subst (λ (l : List ℕ). number l < 256 ^ w) (bytes_of-number w s b e) (number_lt w (number s))

-- ---- bytes written over others

pub length-field_bytes : (t : ℕ) (c : List ℕ) → length (field_bytes t c) ≡ 3 + length c
unfolding field_bytes
length-field_bytes t c = omega arith

pub length-overwrite : (d : List ℕ) (at : ℕ) (xs : List ℕ) → at + length xs ≤ length d → length (overwrite d at xs) ≡ length d
unfolding overwrite
length-overwrite d at xs h = simp (length-append, length-take, length-drop) (omega arith)

pub overwrite-overwrite : (d : List ℕ) (at k : ℕ) (xs ys : List ℕ) → length xs ≡ k → at + k + length ys ≤ length d
    → overwrite (overwrite d at xs) (at + k) ys ≡ overwrite d at (xs ++ ys)
unfolding overwrite
overwrite-overwrite d at k xs ys e h =
    let f : List ℕ = take at d ++ xs in
    let r : List ℕ = drop (at + length xs) d in
    let n : length f ≡ at + k = simp (length-append, length-take) (omega arith) in
    let m : at + length xs + length ys ≡ at + length (xs ++ ys) = simp length-append (omega arith) in
    let q : drop (at + k + length ys) (f ++ r) ≡ drop (at + length (xs ++ ys)) d =
    sym (drop-drop (length ys) (at + k) (f ++ r)) ∙ ap (drop (length ys)) (drop_at f r (at + k) n)
    ∙ drop-drop (length ys) (at + length xs) d ∙ ap (λ (m : ℕ). drop m d) m in
    rw (← append_assoc (take at d) xs r, take_at f r (at + k) n, q) (simp append_assoc)

pub overwrite-paste : (d : List ℕ) (at : ℕ) (s : List ℕ) → paste d at s (length s) ≡ overwrite d at s
unfolding overwrite
overwrite-paste d at s = rw (take-length s) (append_assoc (take at d) s (drop (at + length s) d))

pub overwrite-all : (d s : List ℕ) → length d ≡ length s → overwrite d 0 s ≡ s
unfolding overwrite
overwrite-all d s e = rw (zero-add, drop_of_length-le d {i = length s} (omega arith)) (append-nil s)

pub overwrite-nil : (l : List ℕ) (t : ℕ) → overwrite l t [] ≡ l
unfolding overwrite
overwrite-nil l t = rw add-zero (take-append-drop t l)

pub overwrite-set : (l : List ℕ) (t v : ℕ) (xs : List ℕ) → t < length l → overwrite (set l t v) (t + 1) xs ≡ overwrite l t (v ∷ xs)
unfolding overwrite
overwrite-set l t v xs h =
    let n : ℕ = t + suc (length xs) in
    let e : t + 1 + length xs ≡ n = omega arith in
    rw (e, drop-set-lt n l t v (omega arith), add-one t, take-suc-set l t v h) (append_snoc (take t l) v (xs ++ drop n l))
