-- What an accepted opening makes of the series and of the running number, and which numbers fit the series. Assumes nothing.
use Prim.Native.Nat.{ℕ, ◌+◌, ◌-◌, ◌≤◌, ◌<◌}
use mathlib.Core.Bool.{true, false}
use mathlib.Core.Path.{◌≡◌, refl}
use native.Mathlib.Omega.{arith}
use lib.Seq.{get_or-set_same, get_or-set_other}
use borrow.Author.Tests.{ltb-true, lt-ltb, leb-false, lt-leb}
use Rattle.frame_table.specs.declared.fields.Bits128.{Bits128}
use Rattle.frame_table.specs.declared.fields.Fields.{Fields}
use Rattle.frame_table.specs.Names.{subscriber}
use Rattle.message.specs.Limits.{subscribers}
use Rattle.message.specs.declared.editions.Edition.{Edition}
use Rattle.message.specs.declared.editions.Edition.TheVariants as edition
use Rattle.message.specs.Editions.{edition_of}
use Rattle.bank_state.specs.State.{Bank, series_of}
use Rattle.bank_state.specs.Limits.{series_limit}
use Rattle.bank_state.specs.Numbers.{next_number}
use Rattle.bank_state.proofs.Numbers.{next-from}
use Rattle.bank_rows.specs.State.{Held}
use Rattle.message.specs.declared.directions.Direction.TheVariants as direction
use Rattle.bank_verdicts.specs.Refusals.{numbering_ended, series_ended}
use Rattle.bank_verdicts.specs.Judgement.{number_by, opening_number}
use Rattle.bank_openings.specs.Openings.{counted, moved_by, fits_series, counted_upload, open_upload, open_download}

-- ---- the numbers that fit the series

-- the bank's own number fits below the limit
pub fits_below : (e : Edition) (n : ℕ) → e ≡ edition.V25 → fits_series e n ≡ true → n < series_limit
fits_below e n own h = ltb-true n series_limit (rw own at h)

module _ (b : Bank) (q : Fields) where
  left_by_lem : (e : Edition) → number_by e b q < series_limit → numbering_ended e b q ≡ false
  left_by_lem edition.V24 h = refl
  left_by_lem edition.V25 h = lt-leb series_limit (next_number (subscriber q) b) h

  fits_by : (e : Edition) → number_by e b q < series_limit → fits_series e (number_by e b q) ≡ true
  fits_by edition.V24 h = refl
  fits_by edition.V25 h = lt-ltb (next_number (subscriber q) b) series_limit h

  -- a number below the limit leaves the series open, and fits it
  pub number-left : opening_number b q < series_limit → series_ended direction.Upload b q ≡ false
  unfolding opening_number
  number-left = left_by_lem (edition_of q)

  pub number_fits : opening_number b q < series_limit → fits_series (edition_of q) (opening_number b q) ≡ true
  unfolding opening_number
  number_fits = fits_by (edition_of q)

  -- a series whose own number is below the limit has not come to it
  pub counter-below : edition_of q ≡ edition.V25 → series_ended direction.Upload b q ≡ false → (i : ℕ) → i ≡ subscriber q
      → series_of i b.series < series_limit
  counter-below e h i x =
      let own = leb-false series_limit (next_number (subscriber q) b) (rw e at h) in
      rw x (omega (arith, own, next-from (subscriber q) b))

-- ---- what an opening moves

module _ (t : Bits128) (q : Fields) (b : Bank) where
  -- a download has no order number, and moves no series
  pub download-moves-none : (open_download t q b).series ≡ b.series
  unfolding open_download counted_upload counted
  download-moves-none = refl

  -- an upload with the bank's own number moves its subscriber's series past that number
  pub upload-moves-own : (n : ℕ) → edition_of q ≡ edition.V25 → Held b → 1 ≤ subscriber q → subscriber q ≤ subscribers
      → series_of (subscriber q) (open_upload t n q b).series ≡ n + 1
  unfolding open_upload counted_upload counted series_of
  upload-moves-own n e k known most =
      rw e (get_or-set_same b.series (subscriber q - 1) (n + 1) 0 (omega (arith, k.series)))

  -- and no other subscriber's
  moves-no-other : (e : Edition) (n s : ℕ) → 1 ≤ s → 1 ≤ subscriber q → (s ≡ subscriber q → ⊥)
      → series_of s (moved_by e n q b.series) ≡ series_of s b.series
  unfolding series_of
  moves-no-other edition.V24 n s own known other = refl
  moves-no-other edition.V25 n s own known other =
      get_or-set_other b.series (subscriber q - 1) (s - 1) (n + 1) 0 (λ e. other (omega arith))

  pub upload-moves-no-other : (n s : ℕ) → 1 ≤ s → 1 ≤ subscriber q → (s ≡ subscriber q → ⊥)
      → series_of s (open_upload t n q b).series ≡ series_of s b.series
  unfolding open_upload counted_upload counted
  upload-moves-no-other = moves-no-other (edition_of q)

  -- an upload that brings its number moves none
  pub chosen-moves-none : (n : ℕ) → edition_of q ≡ edition.V24 → (open_upload t n q b).series ≡ b.series
  unfolding open_upload counted_upload counted
  chosen-moves-none n e = rw e

  -- "Transaction IDs keep the common running number": uploads and downloads alike move it
  pub upload-numbered : (n : ℕ) → (open_upload t n q b).openings ≡ b.openings + 1
  unfolding open_upload counted_upload counted
  upload-numbered n = refl

  pub download-numbered : (open_download t q b).openings ≡ b.openings + 1
  unfolding open_download counted
  download-numbered = refl
