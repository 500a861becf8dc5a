-- What an opening's verdict has to do with the series: that of an upload with the bank's own number goes by its own subscriber's,
-- any other by none; and the number that an accepted upload has. Assumes nothing.
use Prim.Native.Nat.{ℕ, ◌≤◌}
use mathlib.Core.Bool.{Bool, true, false, ◌||◌}
use mathlib.Core.List.{List}
use mathlib.Core.Path.{◌≡◌, refl}
use native.Mathlib.Omega.{arith}
use lib.Dec.{leb}
use lib.ListN.{length}
use borrow.Author.Tests.{le-leb, not-false}
use Rattle.frame_table.specs.declared.fields.Bits128.{Bits128}
use Rattle.frame_table.specs.declared.fields.Fields.{Fields}
use Rattle.frame_table.specs.Names.{subscriber, order_number}
use Rattle.message.specs.declared.editions.Edition.{Edition}
use Rattle.message.specs.declared.editions.Edition.TheVariants as edition
use Rattle.message.specs.Editions.{edition_of}
use Rattle.message.specs.OrderNumbers.{order_number_of, is_order_number}
use Rattle.message.proofs.OrderNumbers.{said-number}
use Rattle.bank_state.specs.State.{Bank, series_of, with_series}
use Rattle.bank_state.specs.Limits.{place_count, max_open, nonce_count, max_openings, series_limit}
use Rattle.bank_state.specs.Numbers.{next_number}
use Rattle.bank_state.proofs.Numbers.{next-by-own, next-unheld}
use Rattle.bank_state.specs.Search.{free_place, free_nonce, open_count, open_count_of, is_remembered, find_number, is_number_held}
use Rattle.bank_verdicts.specs.declared.verdict.Action.TheVariants as action
use Rattle.bank_verdicts.specs.declared.verdict.Context.{Context}
use Rattle.message.specs.declared.directions.Direction.{Direction}
use Rattle.message.specs.declared.directions.Direction.TheVariants as direction
use Rattle.bank_verdicts.specs.declared.verdict.UploadAction.TheVariants as up
use Rattle.bank_verdicts.specs.declared.verdict.Verdict.{Verdict}
use Rattle.bank_verdicts.specs.declared.verdict.Verdict.TheVariants.{Of}
use Rattle.bank_verdicts.specs.Judgement.{number_by, opening_number, judge_opening}
use Rattle.bank_verdicts.specs.Refusals.{no_order_number, holds_chosen, is_held, no_place_free, numbering_ended, series_ended, is_full, no_share, is_replay, many_open, opening_rows}
use Rattle.bank_verdicts.proofs.Sound.{OpeningSound, judged-opening}
use Rattle.bank_verdicts.proofs.Sound as sound

module _ (y : Context) (b : Bank) (q : Fields) where
  numbers-by : {t : Bits128} {n : ℕ} (v : Verdict) → OpeningSound y.prefix b q direction.Upload v
      → v ≡ Of t (action.Upload (up.Opened n)) → (t.low ≡ b.openings) × (n ≡ opening_number b q)
  numbers-by v (sound.refused e c h) x = absurd (let z : ◌≡◌ {A = ℕ} 0 1 = cc in omega arith)
  numbers-by v (sound.upload acc some free own) x = (cc, cc)

  -- "Transaction IDs keep the common running number", and the order has the number that its opening brings, or the bank's own
  pub upload-numbers : {t : Bits128} {n : ℕ} → judge_opening direction.Upload y b q ≡ Of t (action.Upload (up.Opened n))
      → (t.low ≡ b.openings) × (n ≡ opening_number b q)
  upload-numbers e = numbers-by (judge_opening direction.Upload y b q) (judged-opening y b q direction.Upload) e

  -- ---- that number

  unheld-by : (e : Edition) → length b.places ≡ place_count → holds_chosen e b q ≡ false
      → is_number_held (subscriber q) (number_by e b q) b ≡ false
  unheld-by edition.V24 places h = h
  unheld-by edition.V25 places h = next-unheld (subscriber q) b places

  -- no open or booked upload of the subscriber holds it
  pub number-unheld : length b.places ≡ place_count → is_held b q ≡ false
      → is_number_held (subscriber q) (opening_number b q) b ≡ false
  unfolding opening_number
  number-unheld = unheld-by (edition_of q)

  -- an opening of edition 2.4 has the number that it brings
  pub number-brought : edition_of q ≡ edition.V24 → no_order_number q ≡ false → order_number_of (opening_number b q) ≡ order_number q
  unfolding opening_number
  number-brought e h = rw e (said-number (order_number q) (not-false (is_order_number (order_number q)) (rw e at h))).1

  -- and one of 2.5 the bank's own
  pub number-own : edition_of q ≡ edition.V25 → opening_number b q ≡ next_number (subscriber q) b
  unfolding opening_number
  number-own e = rw e

  -- ---- by which series it is judged

  module _ (l : List ℕ) where
    held-by-places : (e : Edition) → holds_chosen e (with_series l b) q ≡ holds_chosen e b q
    unfolding is_number_held find_number
    held-by-places edition.V24 = refl
    held-by-places edition.V25 = refl

    module _ (own : series_of (subscriber q) l ≡ series_of (subscriber q) b.series) where
      ended-by-own : (e : Edition) → numbering_ended e (with_series l b) q ≡ numbering_ended e b q
      ended-by-own edition.V24 = refl
      ended-by-own edition.V25 = rw (next-by-own (subscriber q) b l own)

      number-by-own : (e : Edition) → number_by e (with_series l b) q ≡ number_by e b q
      number-by-own edition.V24 = refl
      number-by-own edition.V25 = next-by-own (subscriber q) b l own

  -- a download is judged without any series
  pub download-by-no-series : (l : List ℕ)
      → judge_opening direction.Download y (with_series l b) q ≡ judge_opening direction.Download y b q
  unfolding judge_opening opening_rows is_replay many_open is_full no_share free_place free_nonce open_count open_count_of is_remembered
  download-by-no-series l = rw (held-by-places l (edition_of q))

  -- an upload by its own subscriber's series alone
  pub upload-by-own-series : (l : List ℕ) → series_of (subscriber q) l ≡ series_of (subscriber q) b.series
      → judge_opening direction.Upload y (with_series l b) q ≡ judge_opening direction.Upload y b q
  unfolding judge_opening opening_rows is_replay many_open is_full no_share free_place free_nonce open_count open_count_of is_remembered opening_number
  upload-by-own-series l e =
      rw (held-by-places l (edition_of q), ended-by-own l e (edition_of q), number-by-own l e (edition_of q))

  or_right : (s t : Bool) → t ≡ true → s || t ≡ true
  or_right true t e = refl
  or_right false t e = e

  or_left : (s t : Bool) → s ≡ true → s || t ≡ true
  or_left s t e = rw e

  -- 061099 at the end of the bank's own numbering, which an opening of edition 2.4 does not need, and of the running number in
  -- both directions
  numbering-end : edition_of q ≡ edition.V25 → series_limit ≤ next_number (subscriber q) b → series_ended direction.Upload b q ≡ true
  numbering-end e h = rw e (le-leb series_limit (next_number (subscriber q) b) h)

  pub series-end : edition_of q ≡ edition.V25 → series_limit ≤ next_number (subscriber q) b → is_full direction.Upload b q ≡ true
  unfolding is_full
  series-end e h =
      or_right (leb max_open (open_count b)) _ (or_right (no_place_free direction.Upload b) _
      (or_right (leb nonce_count (free_nonce b)) _ (or_left _ (leb max_openings b.openings) (numbering-end e h))))

  pub series-not-needed : edition_of q ≡ edition.V24 → series_ended direction.Upload b q ≡ false
  series-not-needed e = rw e

  pub running-end : (d : Direction) → max_openings ≤ b.openings → is_full d b q ≡ true
  unfolding is_full
  running-end d h =
      or_right (leb max_open (open_count b)) _ (or_right (no_place_free d b) _ (or_right (leb nonce_count (free_nonce b)) _
      (or_right (series_ended d b q) _ (le-leb max_openings b.openings h))))
