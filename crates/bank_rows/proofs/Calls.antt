-- One change after another: what holds the rows together between the steps of a call. Assumes nothing.
use Prim.Native.Nat.{ℕ, zero, suc, ◌+◌, ◌*◌, max, ◌≤◌, ◌<◌}
use mathlib.Core.Bool.{Bool, true, false, cond, ◌&&◌}
use mathlib.Core.List.{List, [], ◌∷◌}
use mathlib.Core.Path.{◌≡◌, refl, sym, ap, ◌∙◌}
use native.Mathlib.Omega.{arith}
use lib.ListN.{length, get_or, set, replicate, length-set, length-replicate}
use Rattle.bank_state.specs.declared.clock.Ended.{Ended}
use Rattle.bank_state.specs.declared.clock.Ended.TheVariants.{Idle}
use Rattle.bank_state.specs.declared.state.Place.{Place}
use Rattle.bank_state.specs.declared.state.Download.{Download}
use Rattle.bank_state.specs.State.{Nonce}
use Rattle.bank_state.specs.State.{Bank}
use Rattle.bank_state.specs.Limits.{place_count, nonce_count}
use Rattle.bank_state.specs.Rows.{count_of, keep}
use Rattle.bank_state.specs.Clock.{is_idle, freed, drop_upload, drop_uploads, end_downloads, forget, at_clock}
use Rattle.bank_state.specs.Search.{is_open, free_download, free_nonce}
use Rattle.bank_state.specs.State.{BankState, bank_state, no_place, no_download, no_nonce, with_clock, with_openings, with_files, with_series, with_download, with_downloads, with_nonces, with_place, place_at}
use Rattle.bank_state.proofs.Rows.{length-keep_only}
use Rattle.bank_rows.specs.Layout.{
  download_count_at,
  nonce_count_at,
  places_at,
  place_use,
  place_width,
  download_width,
  nonce_width,
  state_size,
}
use Rattle.bank_rows.specs.Records.{download_of, nonce_of, stays_open, stays_remembered}
use Rattle.bank_rows.specs.State.{
  download_count_of,
  nonce_count_of,
  downloads_part,
  nonces_part,
  bank_of,
  open_downloads,
  remembered_nonces,
  stored,
  Laid,
  Held,
  StoredWith,
}
use Rattle.bank_rows.proofs.General.{length-rows}
use Rattle.bank_rows.proofs.InUse.{keep-keep_only, keep_only-first, changed-first, added-first}
use Rattle.bank_rows.proofs.Records.{stays_open_lem, stays-kept}
use Rattle.bank_rows.proofs.Reading.{free-download, open-downloads, free-nonce}
use Rattle.bank_rows.proofs.State.{open-are, remembered-are, held_rows, stored_back, stored-laid, stored-twice, stored-download-count, stored-nonce-count}

-- a bank that is stored over the rows s with no download and no nonce more than they have
pub record Within (s : List ℕ) (b : Bank) : Type 0 where
  pub held : Held b
  pub downloads : length (open_downloads b) ≤ download_count_of s
  pub nonces : length (remembered_nonces b) ≤ nonce_count_of s

module _ (s : List ℕ) (l : Laid s) where
  pub within-own : Within s (bank_of s)
  within-own = record {
    held = held_rows s l;
    downloads = omega (arith, ap length (open-are s l), length-rows download_width download_of (download_count_of s) (downloads_part s));
    nonces = omega (arith, ap length (remembered-are s l), length-rows nonce_width nonce_of (nonce_count_of s) (nonces_part s));
  }

  -- a change of the bank stored, stored after it, where that bank has no download and no nonce more than the rows or
  -- than the bank that the change leaves
  pub stored-change : (b : Bank) → Held b → (c : Bank → Bank) → Held (c b)
      → length (open_downloads b) ≤ max (download_count_of s) (length (open_downloads (c b)))
      → length (remembered_nonces b) ≤ max (nonce_count_of s) (length (remembered_nonces (c b)))
      → (t u : List ℕ) → t ≡ stored b s → u ≡ stored (c (bank_of t)) t → u ≡ stored (c b) s
  stored-change b k c h d n t u e f =
      f ∙ ap (λ (r : List ℕ). stored (c (bank_of r)) r) e
      ∙ ap (λ (x : Bank). stored (c x) (stored b s)) (stored_back b k s l) ∙ stored-twice b (c b) s k h l d n

  module _ (b : Bank) (k : Within s b) where
    -- a change of the bank stored, stored after it
    pub stored_next : (c : Bank → Bank) → Held (c b) → (t u : List ℕ) → t ≡ stored b s → u ≡ stored (c (bank_of t)) t → u ≡ stored (c b) s
    stored_next c h = stored-change b k.held c h (omega (arith, k.downloads)) (omega (arith, k.nonces))

    pub laid_next : (t : List ℕ) → t ≡ stored b s → Laid t
    laid_next t e = rw e (stored-laid b k.held s l)

  -- and the same with the orders' store
  pub bank_state-next : (w : BankState) → Within s w.bank → (f : BankState → BankState) → Held (f w).bank → (t u o p : List ℕ) → StoredWith w s t o
      → ((mailboxes : List ℕ) → StoredWith (f (bank_state (bank_of t) o mailboxes)) t u p) → StoredWith (f w) s u p
  bank_state-next w k f h t u o p e g =
      let back : bank_of t ≡ w.bank = ap bank_of e.rows ∙ stored_back w.bank k.held s l in
      let at : f (bank_state (bank_of t) o w.mailboxes) ≡ f w = ap f (rw (back, e.store)) in
      let x = g w.mailboxes in
      record {
        rows = x.rows ∙ ap (λ (v : BankState). stored v.bank t) at ∙ ap (stored (f w).bank) e.rows
            ∙ stored-twice w.bank (f w).bank s k.held h l (omega (arith, k.downloads)) (omega (arith, k.nonces));
        store = x.store ∙ ap (λ (v : BankState). v.orders) at;
      }

-- ---- the first free records of a bank that rows can hold

laid-zeros : (s : List ℕ) → length s ≡ state_size → ((j : ℕ) → get_or s j 0 ≡ 0) → Laid s
laid-zeros s e z = record {
  long = e;
  downloads = omega (arith, z download_count_at);
  nonces = omega (arith, z nonce_count_at);
  uses = λ i h. omega (arith, z (places_at + (place_width * i + place_use)));
}

zero-at : (m j : ℕ) → ◌≡◌ {A = ℕ} (get_or (replicate m 0) j 0) 0
zero-at zero j = refl
zero-at (suc m) zero = refl
zero-at (suc m) (suc j) = zero-at m j

-- the rows of a fresh bank
pub zeros-laid : Laid (replicate state_size 0)
zeros-laid = laid-zeros (replicate state_size 0) (length-replicate {A = ℕ} state_size 0) (zero-at state_size)

module _ (b : Bank) (k : Held b) where
  abbrev over : List ℕ
  over = stored b (replicate state_size 0)

  back : bank_of over ≡ b
  back = stored_back b k (replicate state_size 0) zeros-laid

  -- they stand after the records in use
  pub held-free-download : free_download b ≡ length (open_downloads b)
  held-free-download =
      ap free_download (sym back) ∙ free-download over ∙ stored-download-count b k (replicate state_size 0) zeros-laid

  pub held-free-nonce : free_nonce b ≡ length (remembered_nonces b)
  held-free-nonce =
      ap free_nonce (sym back) ∙ free-nonce over ∙ stored-nonce-count b k (replicate state_size 0) zeros-laid

  -- as many as are open
  pub held-open-downloads : count_of (λ (e : Download). e.used) b.downloads ≡ free_download b
  held-open-downloads =
      ap (λ (x : Bank). count_of (λ (e : Download). e.used) x.downloads) (sym back) ∙ open-downloads over
      ∙ sym (free-download over) ∙ ap free_download back

-- ---- the changes of the clock

pub held-clock : (c : ℕ) {b : Bank} → Held b → Held (with_clock c b)
held-clock c k = record {
  places = k.places;
  downloads = k.downloads;
  nonces = k.nonces;
  files = k.files;
  series = k.series;
  downloads_first = k.downloads_first;
  nonces_first = k.nonces_first;
}

pub held_place : (i : ℕ) (p : Place) {b : Bank} → Held b → Held (with_place i p b)
held_place i p {b} k = record {
  places = length-set b.places i p ∙ k.places;
  downloads = k.downloads;
  nonces = k.nonces;
  files = k.files;
  series = k.series;
  downloads_first = k.downloads_first;
  nonces_first = k.nonces_first;
}

-- ---- the other changes of a call

pub held-openings : (n : ℕ) {b : Bank} → Held b → Held (with_openings n b)
held-openings n k = record {
  places = k.places;
  downloads = k.downloads;
  nonces = k.nonces;
  files = k.files;
  series = k.series;
  downloads_first = k.downloads_first;
  nonces_first = k.nonces_first;
}

pub held-file : (i n : ℕ) {b : Bank} → Held b → Held (with_files (set b.files i n) b)
held-file i n {b} k = record {
  places = k.places;
  downloads = k.downloads;
  nonces = k.nonces;
  files = length-set b.files i n ∙ k.files;
  series = k.series;
  downloads_first = k.downloads_first;
  nonces_first = k.nonces_first;
}

pub held-series : (i n : ℕ) {b : Bank} → Held b → Held (with_series (set b.series i n) b)
held-series i n {b} k = record {
  places = k.places;
  downloads = k.downloads;
  nonces = k.nonces;
  files = k.files;
  series = length-set b.series i n ∙ k.series;
  downloads_first = k.downloads_first;
  nonces_first = k.nonces_first;
}

pub held-download : (i : ℕ) (e : Download) {b : Bank} → Held b → e.used ≡ true → i < length (open_downloads b) → Held (with_download i e b)
held-download i e {b} k u h = record {
  places = k.places;
  downloads = length-set b.downloads i e ∙ k.downloads;
  nonces = k.nonces;
  files = k.files;
  series = k.series;
  downloads_first = changed-first (λ (x : Download). x.used) no_download refl e u b.downloads k.downloads_first i h;
  nonces_first = k.nonces_first;
}

pub held-download-added : (e : Download) {b : Bank} → Held b → e.used ≡ true → length (open_downloads b) < place_count
    → Held (with_download (length (open_downloads b)) e b)
held-download-added e {b} k u h = record {
  places = k.places;
  downloads = length-set b.downloads (length (open_downloads b)) e ∙ k.downloads;
  nonces = k.nonces;
  files = k.files;
  series = k.series;
  downloads_first =
      added-first (λ (x : Download). x.used) no_download refl e u b.downloads k.downloads_first (omega (arith, k.downloads));
  nonces_first = k.nonces_first;
}

pub held-nonce-added : (e : Nonce) {b : Bank} → Held b → e.used ≡ true → length (remembered_nonces b) < nonce_count
    → Held (with_nonces (set b.nonces (length (remembered_nonces b)) e) b)
held-nonce-added e {b} k u h = record {
  places = k.places;
  downloads = k.downloads;
  nonces = length-set b.nonces (length (remembered_nonces b)) e ∙ k.nonces;
  files = k.files;
  series = k.series;
  downloads_first = k.downloads_first;
  nonces_first = added-first (λ (x : Nonce). x.used) no_nonce refl e u b.nonces k.nonces_first (omega (arith, k.nonces));
}

keep-fewer : {A : Type 0} (used p : A → Bool) → ((x : A) → p x ≡ true → used x ≡ true) → (l : List A) → length (keep p l) ≤ length (keep used l)
unfolding keep
keep-fewer used p strong [] = omega arith
keep-fewer {A} used p strong (x ∷ l) = at (p x) (used x) refl refl (keep-fewer used p strong l)
  where
    at : (a b : Bool) → p x ≡ a → used x ≡ b → length (keep p l) ≤ length (keep used l)
        → length (cond a (x ∷ keep p l) (keep p l)) ≤ length (cond b (x ∷ keep used l) (keep used l))
    at true true e f h = omega arith
    at true false e f h = absurd (let z : ◌≡◌ {A = Bool} true false = sym (strong x e) ∙ f in let y : ◌≡◌ {A = ℕ} 0 1 = cc in omega arith)
    at false true e f h = omega arith
    at false false e f h = h

pub held-ended : (which : Ended) {b : Bank} → Held b → Held (with_downloads (end_downloads which b.downloads) b)
unfolding end_downloads
held-ended which {b} k = record {
  places = k.places;
  downloads = length-keep_only (stays_open which) no_download b.downloads ∙ k.downloads;
  nonces = k.nonces;
  files = k.files;
  series = k.series;
  downloads_first = keep_only-first (λ (e : Download). e.used) (stays_open which) (stays_open_lem which) no_download refl b.downloads;
  nonces_first = k.nonces_first;
}

pub held-forgotten : (clock : ℕ) {b : Bank} → Held b → Held (with_nonces (forget clock b.nonces) b)
unfolding forget
held-forgotten clock {b} k = record {
  places = k.places;
  downloads = k.downloads;
  nonces = length-keep_only (stays_remembered clock) no_nonce b.nonces ∙ k.nonces;
  files = k.files;
  series = k.series;
  downloads_first = k.downloads_first;
  nonces_first = keep_only-first (λ (e : Nonce). e.used) (stays_remembered clock) (stays-kept clock) no_nonce refl b.nonces;
}

module _ (s : List ℕ) where
  pub within-clock : (c : ℕ) {b : Bank} → Within s b → Within s (with_clock c b)
  within-clock c k = record { held = held-clock c k.held; downloads = k.downloads; nonces = k.nonces }

  pub within-place : (i : ℕ) (p : Place) {b : Bank} → Within s b → Within s (with_place i p b)
  within-place i p k = record { held = held_place i p k.held; downloads = k.downloads; nonces = k.nonces }

  pub within-ended : (which : Ended) {b : Bank} → Within s b → Within s (with_downloads (end_downloads which b.downloads) b)
  unfolding end_downloads
  within-ended which {b} k = record {
    held = held-ended which k.held;
    downloads =
        let used : Download → Bool = λ (e : Download). e.used in
        omega (
          arith,
          ap length (keep-keep_only used (stays_open which) (stays_open_lem which) no_download refl b.downloads),
          keep-fewer used (stays_open which) (stays_open_lem which) b.downloads,
          k.downloads,
        );
    nonces = k.nonces;
  }

  pub within-forgotten : (clock : ℕ) {b : Bank} → Within s b → Within s (with_nonces (forget clock b.nonces) b)
  unfolding forget
  within-forgotten clock {b} k = record {
    held = held-forgotten clock k.held;
    downloads = k.downloads;
    nonces =
        let used : Nonce → Bool = λ (e : Nonce). e.used in
        omega (
          arith,
          ap length (keep-keep_only used (stays_remembered clock) (stays-kept clock) no_nonce refl b.nonces),
          keep-fewer used (stays_remembered clock) (stays-kept clock) b.nonces,
          k.nonces,
        );
  }

  pub within-at-clock : (clock : ℕ) {b : Bank} → Within s b → Within s (at_clock clock b)
  unfolding at_clock
  within-at-clock clock k = within-forgotten clock (within-ended (Idle clock) (within-clock clock k))

  -- a drop changes places alone
  either : {A : Type 0} (P : A → Type 0) (t : Bool) {a b : A} → P a → P b → P (cond t a b)
  either P true x y = x
  either P false x y = y

  pub within-drop : (i : ℕ) (w : BankState) → Within s w.bank → Within s (drop_upload i w).bank
  unfolding drop_upload freed
  within-drop i w k =
      either (λ (v : BankState). Within s v.bank) (is_open (place_at w.bank i).used && is_idle w.bank.clock (place_at w.bank i).last)
      {a = freed i w} {b = w} (within-place i no_place k) k

  pub within-drops : (n : ℕ) (w : BankState) → Within s w.bank → Within s (drop_uploads n w).bank
  unfolding drop_uploads
  within-drops zero w k = k
  within-drops (suc n) w k = within-drop n (drop_uploads n w) (within-drops n w k)
