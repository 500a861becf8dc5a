-- What the clock and its drops leave: lengths, the parts of the state that they do not touch, and each place. Assumes nothing.
use Prim.Native.Nat.{ℕ, zero, suc, max, ◌≤◌, ◌<◌}
use mathlib.Core.Bool.{Bool, true, false, not, cond, ◌&&◌}
use mathlib.Core.List.{List}
use mathlib.Core.Path.{◌≡◌, refl, ap, ◌∙◌}
use native.Mathlib.Omega.{arith}
use lib.Dec.{ltb, eqb}
use lib.ListN.{length, get_or, set, replicate, length-set, get_or-eq_default}
use lib.Seq.{get_or-set_same, get_or-set_other, set_out}
use borrow.Author.Tests.{ltb-true, ltb-false, eqb-true, eqb-false}
use Rattle.message.specs.Limits.{file_bytes}
use Rattle.bank_state.specs.declared.clock.Ended.{Ended}
use Rattle.bank_state.specs.declared.clock.Ended.TheVariants.{Idle}
use Rattle.bank_state.specs.declared.state.Place.{Place}
use Rattle.bank_state.specs.declared.state.Download.{Download}
use Rattle.bank_state.specs.State.{Nonce}
use Rattle.bank_state.specs.Limits.{place_count, store_bytes, nonce_count}
use Rattle.bank_state.specs.Search.{is_open}
use Rattle.bank_state.specs.State.{BankState, bank_state, no_place, no_download, no_nonce, place_at}
use Rattle.bank_state.specs.Store.{part_at}
use Rattle.bank_state.specs.Clock.{is_idle, freed, drop_upload, drop_uploads, ends, end_downloads, forget, at_clock, advanced}
use Rattle.bank_state.proofs.Rows.{EachPassing, length-keep_only, each-keep_only}
use Rattle.bank_state.proofs.Stores.{length-zeroed, zeroed-same, zeroed-other}

-- ---- downloads and nonces

pub length-end_downloads : (which : Ended) (l : List Download) → length (end_downloads which l) ≡ length l
unfolding end_downloads
length-end_downloads which l = length-keep_only _ no_download l

pub length-forget : (clock : ℕ) (l : List Nonce) → length (forget clock l) ≡ length l
unfolding forget
length-forget clock l = length-keep_only _ no_nonce l

-- what holds of a free record and of each download that stays, of each nonce that is remembered, holds of each record of the row
module _ (P : Download → Type 0) (none : P no_download) (which : Ended) (l : List Download) where
  pub each-end_downloads : EachPassing (λ (e : Download). e.used && not (ends which e)) no_download P l
      → (i : ℕ) → P (get_or (end_downloads which l) i no_download)
  unfolding end_downloads
  each-end_downloads = each-keep_only _ no_download P none l

-- ---- what is not touched

either : {A : Type 0} (P : A → Type 0) (t : Bool) {a b : A} → P a → P b → P (cond t a b)
either P true x y = x
either P false x y = y

-- a place with an open upload that is idle at this clock
abbrev pub is_idle_place : ℕ → Place → Bool
is_idle_place clock p = is_open p.used && is_idle clock p.last

module _ (K : BankState → Type 0) (step : (i : ℕ) (w : BankState) → i < place_count → K w → K (freed i w)) where
  drops-keep : (n : ℕ) (w : BankState) → n ≤ place_count → K w → K (drop_uploads n w)
  unfolding drop_uploads drop_upload
  drops-keep zero w h k = k
  drops-keep (suc n) w h k =
      let v = drop_uploads n w in
      let r = drops-keep n w (omega arith) k in
      either K (is_idle_place v.bank.clock (place_at v.bank n)) (step n v (omega arith) r) r

-- the bank_state at a clock, before its uploads are dropped
abbrev pub clocked : ℕ → BankState → BankState
clocked clock w = bank_state (at_clock clock w.bank) w.orders w.mailboxes

-- v is w at the clock t, but for its places and their bytes
pub record AtClock (t : ℕ) (w v : BankState) : Type 0 where
  pub clock : v.bank.clock ≡ t
  pub openings : v.bank.openings ≡ w.bank.openings
  pub series : v.bank.series ≡ w.bank.series
  pub downloads : v.bank.downloads ≡ end_downloads (Idle t) w.bank.downloads
  pub nonces : v.bank.nonces ≡ forget t w.bank.nonces
  pub files : v.bank.files ≡ w.bank.files
  pub mailboxes : v.mailboxes ≡ w.mailboxes

drops-at-clock : (clock n : ℕ) (w : BankState) → n ≤ place_count → AtClock clock w (drop_uploads n (clocked clock w))
unfolding freed at_clock
drops-at-clock clock n w h =
    drops-keep (AtClock clock w)
    (λ i v l k. record {
      clock = k.clock;
      openings = k.openings;
      series = k.series;
      downloads = k.downloads;
      nonces = k.nonces;
      files = k.files;
      mailboxes = k.mailboxes;
    })
    n (clocked clock w) h
    (record { clock = refl; openings = refl; series = refl; downloads = refl; nonces = refl; files = refl; mailboxes = refl })

pub advanced-at-clock : (time : ℕ) (w : BankState) → AtClock (max w.bank.clock time) w (advanced time w)
unfolding advanced
advanced-at-clock time w = drops-at-clock (max w.bank.clock time) place_count w (omega arith)

-- ---- lengths

-- the lengths of a bank's rows and stores
pub record Sized (w : BankState) : Type 0 where
  pub places : length w.bank.places ≡ place_count
  pub downloads : length w.bank.downloads ≡ place_count
  pub nonces : length w.bank.nonces ≡ nonce_count
  pub files : length w.bank.files ≡ place_count
  pub series : length w.bank.series ≡ place_count
  pub orders : length w.orders ≡ store_bytes
  pub mailboxes : length w.mailboxes ≡ store_bytes

pub freed-sized : (i : ℕ) (w : BankState) → i < place_count → Sized w → Sized (freed i w)
unfolding freed
freed-sized i w h s = record {
  places = length-set w.bank.places i no_place ∙ s.places;
  downloads = s.downloads;
  nonces = s.nonces;
  files = s.files;
  series = s.series;
  orders = length-zeroed w.orders i s.orders h ∙ s.orders;
  mailboxes = s.mailboxes;
}

clocked-sized : (clock : ℕ) (w : BankState) → Sized w → Sized (clocked clock w)
unfolding at_clock
clocked-sized clock w s = record {
  places = s.places;
  downloads = length-end_downloads (Idle clock) w.bank.downloads ∙ s.downloads;
  nonces = length-forget clock w.bank.nonces ∙ s.nonces;
  files = s.files;
  series = s.series;
  orders = s.orders;
  mailboxes = s.mailboxes;
}

pub advanced-sized : (time : ℕ) (w : BankState) → Sized w → Sized (advanced time w)
unfolding advanced
advanced-sized time w s = drops-keep Sized freed-sized place_count _ (omega arith) (clocked-sized (max w.bank.clock time) w s)

-- ---- each place

-- a place's record with its bytes, and one that is zeroed and freed
abbrev pub Spot : Type 0
Spot = Place × List ℕ

abbrev pub spot_at : BankState → ℕ → Spot
spot_at w i = (place_at w.bank i, part_at w.orders i)

abbrev pub free_spot : Spot
free_spot = (no_place, replicate file_bytes 0)

-- what the drops make of a place at a clock
abbrev pub dropped : ℕ → Spot → Spot
dropped clock x = cond (is_idle_place clock x.0) free_spot x

get_d-free : (l : List Place) (i : ℕ) (t : Bool) → ltb i (length l) ≡ t → get_or (set l i no_place) i no_place ≡ no_place
get_d-free l i true e = get_or-set_same l i no_place no_place (ltb-true i (length l) e)
get_d-free l i false e =
    let h = ltb-false i (length l) e in
    rw (set_out l i no_place h) (get_or-eq_default l no_place h)

module _ (w : BankState) (i : ℕ) (s : Sized w) (h : i < place_count) where
  pub freed-same : spot_at (freed i w) i ≡ free_spot
  unfolding freed
  freed-same = rw (get_d-free w.bank.places i (ltb i (length w.bank.places)) refl, zeroed-same w.orders i s.orders h)

  pub freed-other : (j : ℕ) → (j ≡ i → ⊥) → spot_at (freed i w) j ≡ spot_at w j
  unfolding freed
  freed-other j n = rw (get_or-set_other w.bank.places i j no_place no_place n, zeroed-other w.orders i s.orders h j n)

  abbrev idle : Bool
  idle = is_idle_place w.bank.clock (place_at w.bank i)

  drop-other : (j : ℕ) → (j ≡ i → ⊥) → spot_at (drop_upload i w) j ≡ spot_at w j
  unfolding drop_upload
  drop-other j n = either (λ (v : BankState). spot_at v j ≡ spot_at w j) idle (freed-other j n) refl

  drop-same-at : (t : Bool) → spot_at (cond t (freed i w) w) i ≡ cond t free_spot (spot_at w i)
  drop-same-at true = freed-same
  drop-same-at false = refl

  drop-same : spot_at (drop_upload i w) i ≡ dropped w.bank.clock (spot_at w i)
  unfolding drop_upload
  drop-same = drop-same-at idle

module _ (w : BankState) (s : Sized w) where
  sized-to : (n : ℕ) → n ≤ place_count → Sized (drop_uploads n w)
  sized-to n h = drops-keep Sized freed-sized n w h s

  clock-to : (n : ℕ) → n ≤ place_count → (drop_uploads n w).bank.clock ≡ w.bank.clock
  unfolding freed
  clock-to n h = drops-keep (λ (v : BankState). v.bank.clock ≡ w.bank.clock) (λ i v l k. k) n w h refl

  drops-later : (n j : ℕ) → n ≤ j → n ≤ place_count → spot_at (drop_uploads n w) j ≡ spot_at w j
  unfolding drop_uploads
  drops-later zero j l h = refl
  drops-later (suc n) j l h =
      drop-other (drop_uploads n w) n (sized-to n (omega arith)) (omega arith) j (λ e. omega arith)
      ∙ drops-later n j (omega arith) (omega arith)

  drops-last : (n : ℕ) → n < place_count → spot_at (drop_uploads (suc n) w) n ≡ dropped w.bank.clock (spot_at w n)
  unfolding drop_uploads
  drops-last n h =
      drop-same (drop_uploads n w) n (sized-to n (omega arith)) h
      ∙ ap (λ (t : ℕ). dropped t (spot_at (drop_uploads n w) n)) (clock-to n (omega arith))
      ∙ ap (dropped w.bank.clock) (drops-later n n (omega arith) (omega arith))

  drops-done : (n j : ℕ) (t : Bool) → eqb j n ≡ t → (j < n → spot_at (drop_uploads n w) j ≡ dropped w.bank.clock (spot_at w j))
      → j < suc n → suc n ≤ place_count → spot_at (drop_uploads (suc n) w) j ≡ dropped w.bank.clock (spot_at w j)
  unfolding drop_uploads
  drops-done n j true e before l h = rw (eqb-true j n e) (drops-last n (omega arith))
  drops-done n j false e before l h =
      let d = eqb-false j n e in
      drop-other (drop_uploads n w) n (sized-to n (omega arith)) (omega arith) j d ∙ before (omega arith)

  drops-each : (n j : ℕ) → j < n → n ≤ place_count → spot_at (drop_uploads n w) j ≡ dropped w.bank.clock (spot_at w j)
  drops-each zero j l h = absurd (omega arith)
  drops-each (suc n) j l h = drops-done n j (eqb j n) refl (λ k. drops-each n j k (omega arith)) l h

pub advanced-spot : (time : ℕ) (w : BankState) → Sized w → (j : ℕ) → j < place_count
    → spot_at (advanced time w) j ≡ dropped (max w.bank.clock time) (spot_at w j)
unfolding advanced at_clock
advanced-spot time w s j h =
    let c = max w.bank.clock time in
    drops-each (clocked c w) (clocked-sized c w s) place_count j h (omega arith)
