-- A bank that holds what it may hold is one that rows can hold: its records in use stand first. Assumes nothing.
use Prim.Native.Nat.{ℕ, ◌-◌}
use mathlib.Core.Bool.{Bool, false}
use mathlib.Core.List.{List, [], ◌∷◌, ◌++◌}
use mathlib.Core.Path.{◌≡◌, refl, sym, ap, ◌∙◌}
use native.Mathlib.Omega.{arith}
use lib.ListN.{length, replicate, length-append, length-replicate}
use Rattle.bank_state.specs.declared.state.Download.{Download}
use Rattle.bank_state.specs.Limits.{nonce_count}
use Rattle.bank_state.specs.Rows.{keep, keep_only}
use Rattle.bank_state.specs.State.{BankState, Nonce, no_download, no_nonce}
use Rattle.bank_rows.specs.State.{Held}
use Rattle.bank_rows.proofs.InUse.{keep-then-free}
use Rattle.bank_admitted.specs.Packed.{AllFree, none, more, Packed, rest, one}
use Rattle.bank_admitted.specs.State.{AllRemembered, end, next, StateHolds}

module _ {A : Type 0} (used : A → Bool) (free : A) (no : used free ≡ false) where
  -- used elements, and then free ones
  used-first : (l : List A) (n : ℕ) → keep used l ≡ l → keep_only used free (l ++ replicate n free) ≡ l ++ replicate n free
  unfolding keep_only
  used-first l n e =
      let k = keep-then-free used free no l n ∙ e in
      let m : length (l ++ replicate n free) - length l ≡ n =
      simp (length-append, length-replicate) (omega arith) in
      rw k (ap (λ (i : ℕ). l ++ replicate i free) m)

  free-are : {l : List A} → AllFree free l → l ≡ replicate (length l) free
  free-are none = refl
  free-are (more {l = l} e f) = rw e (ap (λ (r : List A). free ∷ r) (free-are f))

  -- a row without gaps is such a list
  record First (l : List A) : Type 0 where
    front : List A
    behind : ℕ
    is : l ≡ front ++ replicate behind free
    all : keep used front ≡ front

  packed-split : {number next : A → ℕ} {m : ℕ} {l : List A} → Packed used free number next m l → First l
  unfolding keep
  packed-split (rest {l = l} f) = record { front = []; behind = length l; is = free-are f; all = refl }
  packed-split (one {x = x} u k r) =
      let s = packed-split r in
      record {
        front = x ∷ s.front;
        behind = s.behind;
        is = ap (λ (t : List A). x ∷ t) s.is;
        all = rw (u, s.all);
      }

  packed-first : {number next : A → ℕ} {m : ℕ} {l : List A} → Packed used free number next m l → keep_only used free l ≡ l
  packed-first p =
      let s = packed-split p in
      ap (keep_only used free) s.is ∙ used-first s.front s.behind s.all ∙ sym s.is

remembered-used : {clock : ℕ} {l : List Nonce} → AllRemembered clock l → keep (λ (e : Nonce). e.used) l ≡ l
unfolding keep
remembered-used end = refl
remembered-used (next u t r) = rw (u, remembered-used r)

pub held-state : (w : BankState) → StateHolds w → Held w.bank
held-state w v =
    let n = v.nonces in
    record {
      places = v.sizes.places;
      downloads = v.sizes.downloads;
      nonces = v.sizes.nonces;
      files = v.sizes.files;
      series = v.sizes.series;
      downloads_first = packed-first (λ (e : Download). e.used) no_download refl v.in_order;
      nonces_first =
          ap (keep_only (λ (e : Nonce). e.used) no_nonce) n.rows
          ∙ used-first (λ (e : Nonce). e.used) no_nonce refl n.first (nonce_count - length n.first) (remembered-used n.used)
          ∙ sym n.rows;
    }
