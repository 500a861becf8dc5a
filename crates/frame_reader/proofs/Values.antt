-- The number of a content: as many bytes as the table says for its tag, the last eight of them low. Assumes nothing.
use Prim.Native.Nat.{ℕ, ◌-◌, ◌*◌, ◌+◌, ◌^◌, ◌≤◌, ◌<◌}
use mathlib.Core.List.{List}
use mathlib.Core.Bool.{Bool, true, false}
use mathlib.Core.Path.{◌≡◌, refl, sym, ap, ◌∙◌}
use native.Mathlib.Omega.{arith}
use lib.ListN.{length, take, drop, length-drop}
use lib.Seq.{take_all}
use lib.Arith.{digits_div, digits_mod}
use lib.Dec.{eqb, leb}
use borrow.Author.Tests.{eqb-true, eqb-false, leb-true}
use Rattle.octets.specs.Bytes.{number}
use Rattle.frame_table.specs.Table.{tag_count, data_tag, width}
use Rattle.frame_row.specs.Row.{high_of, low_of}
use Rattle.octets.proofs.Tests.{every-below}
use Rattle.octets.proofs.Numbers.{number-nil, number-halves}
use Rattle.frame_table.proofs.Values.{width_narrow}

narrow : ℕ → Bool
narrow t = leb (width t) 16

-- no content length of the table is over 16
pub width-most : (t : ℕ) → t < tag_count → width t ≤ 16
unfolding narrow width
width-most t h = leb-true (width t) 16 (every-below narrow tag_count refl t h)

module _ (t : ℕ) (c : List ℕ) (h : t < tag_count) (fit : (width t ≡ 0 → ⊥) → length c ≡ width t) where
  enough-at : (b : Bool) → eqb (width t) 0 ≡ b → width t ≤ length c
  enough-at true e = let z = eqb-true (width t) 0 e in omega arith
  enough-at false e = let z = fit (eqb-false (width t) 0 e) in omega arith

  pub width-enough : width t ≤ length c
  width-enough = enough-at (eqb (width t) 0) refl

  module _ (k hi lo : ℕ) (place : k ≡ width t - 8) (low : lo < 2 ^ 64)
      (is-high : hi ≡ number (take k c)) (is-low : lo ≡ number (take (width t - k) (drop k c))) where
    value-at : (b : Bool) → eqb t data_tag ≡ b → (hi ≡ high_of t c) × (lo ≡ low_of t c)
    unfolding high_of low_of width
    value-at true e =
        let w : width t ≡ 0 = ap width (eqb-true t data_tag e) in
        let z : k ≡ 0 = omega arith in
        let y : width t - k ≡ 0 = omega arith in
        rw e (is-high ∙ rw z number-nil, is-low ∙ rw y number-nil)
    value-at false e =
        let w = width_narrow t h (eqb-false t data_tag e) in
        let l = fit (λ z. omega arith) in
        let n : k ≡ length c - 8 = omega arith in
        let all : take (width t - k) (drop k c) ≡ drop k c = take_all (width t - k) (drop k c) (simp length-drop (omega arith)) in
        let m : number c ≡ hi * 2 ^ 64 + lo = number-halves c ∙ rw (← n, ← all, ← is-high, ← is-low) in
        rw (e, m) (sym (digits_div hi low), sym (digits_mod hi low))

    pub value-is : (hi ≡ high_of t c) × (lo ≡ low_of t c)
    value-is = value-at (eqb t data_tag) refl
