-- The open transactions fall over a clock by those that are idle at it. Assumes nothing.
use Prim.Native.Nat.{ℕ, zero, suc, ◌+◌, ◌-◌, ◌≤◌, ◌<◌, max}
use mathlib.Core.Bool.{Bool, true, false, not, cond, ◌&&◌}
use mathlib.Core.List.{List, [], ◌∷◌, ◌++◌}
use mathlib.Core.Path.{◌≡◌, refl, sym, ap, ◌∙◌}
use native.Mathlib.Omega.{arith}
use lib.ListN.{length, get_or, take, set, replicate, length-set}
use lib.Seq.{take_all, take-suc, get_or-set_other}
use Rattle.bank_state.specs.declared.clock.Ended.TheVariants.{Idle}
use Rattle.bank_state.specs.declared.state.Place.{Place}
use Rattle.bank_state.specs.declared.state.Download.{Download}
use Rattle.bank_state.specs.Clock.{is_idle, freed, drop_upload, drop_uploads, ends, end_downloads, at_clock, advanced}
use Rattle.bank_state.specs.Limits.{place_count}
use Rattle.bank_state.specs.Rows.{count_of, keep, keep_only}
use Rattle.bank_state.specs.Search.{is_open, open_count}
use Rattle.bank_state.specs.State.{BankState, bank_state, no_place, no_download, place_at}
use Rattle.bank_state.proofs.Drops.{advanced-at-clock}
use Rattle.bank_clock.specs.Idle.{is_idle_upload, is_idle_download, idle_count}

-- ---- counts

abbrev unit : Bool → ℕ
unit t = cond t 1 0

module _ {A : Type 0} (q : A → Bool) where
  count-append : (a b : List A) → count_of q (a ++ b) ≡ count_of q a + count_of q b
  unfolding count_of
  count-append [] b = omega arith
  count-append (x ∷ a) b = let e = count-append a b in omega arith

  count-free : (free : A) → q free ≡ false → (n : ℕ) → count_of q (replicate n free) ≡ 0
  unfolding count_of
  count-free free none zero = refl
  count-free free none (suc n) = rw (none, count-free free none n)

  count_set : (l : List A) (i : ℕ) (x d : A) → i < length l → q x ≡ false →
      count_of q (set l i x) + unit (q (get_or l i d)) ≡ count_of q l
  unfolding count_of
  count_set [] i x d h none = absurd (omega arith)
  count_set (y ∷ l) zero x d h none = rw none (omega arith)
  count_set (y ∷ l) (suc i) x d h none = let e = count_set l i x d (omega arith) none in omega arith

  -- of those kept by another test
  count_kept : (p : A → Bool) (l : List A) → count_of q (keep p l) ≡ count_of (λ (x : A). p x && q x) l
  unfolding count_of keep
  count_kept p [] = refl
  count_kept p (x ∷ l) = at (p x) (count_kept p l)
    where
      at : (t : Bool) → count_of q (keep p l) ≡ count_of (λ (y : A). p y && q y) l
          → count_of q (cond t (x ∷ keep p l) (keep p l)) ≡ unit (t && q x) + count_of (λ (y : A). p y && q y) l
      at true e = ap (λ (n : ℕ). unit (q x) + n) e
      at false e = omega arith

  count-keep_only : (p : A → Bool) (free : A) → q free ≡ false → (l : List A)
      → count_of q (keep_only p free l) ≡ count_of (λ (x : A). p x && q x) l
  unfolding keep_only
  count-keep_only p free none l =
      let a = count-append (keep p l) (replicate (length l - length (keep p l)) free) in
      let b = count-free free none (length l - length (keep p l)) in
      let c = count_kept p l in
      omega arith

-- two tests that share out a third
count-shared : {A : Type 0} (p q r : A → Bool) → ((x : A) → unit (p x) + unit (q x) ≡ unit (r x)) → (l : List A)
    → count_of p l + count_of q l ≡ count_of r l
unfolding count_of
count-shared p q r f [] = refl
count-shared p q r f (x ∷ l) = let a = f x in let b = count-shared p q r f l in omega arith

-- ---- downloads

abbrev used : Download → Bool
used e = e.used

module _ (clock : ℕ) (l : List Download) where
  abbrev stays : Download → Bool
  stays e = e.used && not (ends (Idle clock) e)

  one-download : (e : Download) → unit (stays e && used e) + unit (is_idle_download clock e) ≡ unit (used e)
  unfolding ends
  one-download e = at e.used (is_idle clock e.last)
    where
      at : (u i : Bool) → unit (u && not i && u) + unit (u && i) ≡ unit u
      at true true = refl
      at true false = refl
      at false i = refl

  downloads-fall : count_of used (end_downloads (Idle clock) l) + count_of (is_idle_download clock) l ≡ count_of used l
  unfolding end_downloads
  downloads-fall =
      let a = count-keep_only used stays no_download refl l in
      let b = count-shared (λ (e : Download). stays e && used e) (is_idle_download clock) used one-download l in
      omega arith

-- ---- uploads

abbrev is_open_place : Place → Bool
is_open_place p = is_open p.used

abbrev places : BankState → List Place
places w = w.bank.places

-- what a drop in place i leaves
module _ (i : ℕ) (w : BankState) where
  abbrev idle : Bool
  idle = is_idle_upload w.bank.clock (place_at w.bank i)

  drop-clock : (drop_upload i w).bank.clock ≡ w.bank.clock
  unfolding drop_upload freed
  drop-clock = at idle
    where
      at : (t : Bool) → (cond t (freed i w) w).bank.clock ≡ w.bank.clock
      at true = refl
      at false = refl

  drop-long : length (places (drop_upload i w)) ≡ length (places w)
  unfolding drop_upload freed
  drop-long = at idle
    where
      at : (t : Bool) → length (places (cond t (freed i w) w)) ≡ length (places w)
      at true = length-set (places w) i no_place
      at false = refl

  drop-other : (j : ℕ) → i < j → place_at (drop_upload i w).bank j ≡ place_at w.bank j
  unfolding drop_upload freed
  drop-other j h = at idle
    where
      at : (t : Bool) → place_at (cond t (freed i w) w).bank j ≡ place_at w.bank j
      at true = get_or-set_other (places w) i j no_place no_place (λ e. omega arith)
      at false = refl

  drop-falls : i < length (places w)
      → count_of is_open_place (places (drop_upload i w)) + unit idle ≡ count_of is_open_place (places w)
  unfolding drop_upload freed
  drop-falls h = at (is_open_place (place_at w.bank i)) (is_idle w.bank.clock (place_at w.bank i).last) refl
    where
      at : (o t : Bool) → is_open_place (place_at w.bank i) ≡ o
          → count_of is_open_place (places (cond (o && t) (freed i w) w)) + unit (o && t) ≡ count_of is_open_place (places w)
      at true true e =
          ap (λ (n : Bool). count_of is_open_place (set (places w) i no_place) + unit n) (sym e)
          ∙ count_set is_open_place (places w) i no_place no_place h refl
      at true false e = omega arith
      at false t e = omega arith

module _ (w : BankState) where
  abbrev clock : ℕ
  clock = w.bank.clock

  drops-clock : (n : ℕ) → (drop_uploads n w).bank.clock ≡ clock
  unfolding drop_uploads
  drops-clock zero = refl
  drops-clock (suc n) = drop-clock n (drop_uploads n w) ∙ drops-clock n

  drops-long : (n : ℕ) → length (places (drop_uploads n w)) ≡ length (places w)
  unfolding drop_uploads
  drops-long zero = refl
  drops-long (suc n) = drop-long n (drop_uploads n w) ∙ drops-long n

  drops-later : (n j : ℕ) → n ≤ j → place_at (drop_uploads n w).bank j ≡ place_at w.bank j
  unfolding drop_uploads
  drops-later zero j h = refl
  drops-later (suc n) j h = drop-other n (drop_uploads n w) j (omega arith) ∙ drops-later n j (omega arith)

  same-idle : (n : ℕ) → idle n (drop_uploads n w) ≡ is_idle_upload clock (place_at w.bank n)
  same-idle n =
      ap (λ (t : ℕ). is_idle_upload t (place_at (drop_uploads n w).bank n)) (drops-clock n)
      ∙ ap (is_idle_upload clock) (drops-later n n (omega arith))

  drops-fall : (n : ℕ) → n ≤ length (places w)
      → count_of is_open_place (places (drop_uploads n w)) + count_of (is_idle_upload clock) (take n (places w))
      ≡ count_of is_open_place (places w)
  unfolding drop_uploads count_of
  drops-fall zero h = omega arith
  drops-fall (suc n) h =
      let v = drop_uploads n w in
      let a = drop-falls n v (omega (arith, drops-long n)) in
      let b = drops-fall n (omega arith) in
      let s = ap unit (same-idle n) in
      let t = ap (count_of (is_idle_upload clock)) (take-suc (places w) n no_place (omega arith))
      ∙ count-append (is_idle_upload clock) (take n (places w)) (place_at w.bank n ∷ []) in
      omega arith

  uploads-fall : length (places w) ≡ place_count
      → count_of is_open_place (places (drop_uploads place_count w)) + count_of (is_idle_upload clock) (places w)
      ≡ count_of is_open_place (places w)
  uploads-fall long =
      let a = drops-fall place_count (omega arith) in
      let b = ap (count_of (is_idle_upload clock)) (take_all place_count (places w) (omega arith)) in
      omega arith

-- ---- both

module _ (time : ℕ) (w : BankState) (long : length (places w) ≡ place_count) where
  abbrev at : ℕ
  at = max w.bank.clock time

  pub advanced-falls : open_count (advanced time w).bank + idle_count at w.bank ≡ open_count w.bank
  unfolding open_count idle_count advanced at_clock
  advanced-falls =
      let v = bank_state (at_clock at w.bank) w.orders w.mailboxes in
      let a = uploads-fall v long in
      let d = ap (count_of used) (advanced-at-clock time w).downloads in
      let e = downloads-fall at w.bank.downloads in
      omega arith

  -- so many are gone
  pub gone-is : open_count w.bank - open_count (advanced time w).bank ≡ idle_count at w.bank
  gone-is = let e = advanced-falls in omega arith
