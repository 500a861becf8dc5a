-- What a state that may be held tells of one place, one record of downloads and one mailbox.
use Prim.Native.Nat.{ℕ, suc, ◌≤◌, ◌<◌}
use mathlib.Core.Bool.{Bool, true, false}
use mathlib.Core.Path.{◌≡◌, refl, sym, ◌∙◌, subst}
use native.Mathlib.Decide.{dec_lt}
use native.Mathlib.Omega.{arith}
use lib.ListN.{length}
use borrow.Author.Tests.{ltb-false, eq-eqb}
use Rattle.octets.proofs.Tests.{never}
use Rattle.message.specs.Limits.{subscribers}
use Rattle.bank_state.specs.declared.state.Download.{Download}
use Rattle.bank_state.specs.declared.state.Use.{Use}
use Rattle.bank_state.specs.declared.state.Use.TheVariants.{Free, Open, Booked}
use Rattle.bank_state.specs.Limits.{place_count, series_limit}
use Rattle.bank_state.specs.Search.{is_free, is_open, holds_number, find_number, is_number_held}
use Rattle.bank_state.specs.State.{Bank, BankState, no_place, no_download, place_at, download_at, file_length}
use Rattle.bank_state.specs.Store.{part_at}
use Rattle.bank_state.proofs.Rows.{first-before}
use Rattle.bank_state.proofs.Stores.{kept-long}
use Rattle.bank_admitted.specs.State.{mailbox_file, UsedAs, PlaceHolds, OpenRecord, DownloadHolds, StateHolds}
use Rattle.bank_admitted.proofs.Rows.{packed-rises}

-- an open upload is a place in use
pub open-in-use : (u : Use) → is_open u ≡ true → is_free u ≡ false
open-in-use Free e = never e
open-in-use Open e = refl
open-in-use Booked e = never e

-- a number that is not held is that of no place in use of the subscriber
pub held-by-none : (b : Bank) (s n : ℕ) → length b.places ≡ place_count → is_number_held s n b ≡ false → (j : ℕ) → j < place_count →
    is_free (place_at b j).used ≡ false → s ≡ (place_at b j).subscriber → n ≡ (place_at b j).number → ⊥
unfolding is_number_held find_number holds_number
held-by-none b s n long h j inside used e f =
    let l = ltb-false (find_number s n b) place_count h in
    never (sym (first-before (holds_number s n) b.places no_place j (omega arith)) ∙ holds)
  where
    holds : holds_number s n (place_at b j) ≡ true
    holds = rw (used, eq-eqb (place_at b j).subscriber s (sym e), eq-eqb (place_at b j).number n (sym f))

module _ (w : BankState) (v : StateHolds w) where
  pub place-used : (i : ℕ) → i < place_count → is_free (place_at w.bank i).used ≡ false →
      UsedAs w.bank.openings (place_at w.bank i) (part_at w.orders i)
  place-used i a = at (place_at w.bank i).used (v.places i a)
    where
      at : (u : Use) → PlaceHolds u w.bank.clock w.bank.openings (place_at w.bank i) (part_at w.orders i) →
          is_free u ≡ false → UsedAs w.bank.openings (place_at w.bank i) (part_at w.orders i)
      at Free s e = never (sym e)
      at Open s e = s.place
      at Booked s e = s.place

  -- a place in use has a running number below the number of openings
  pub place-counted : (i : ℕ) → i < place_count → is_free (place_at w.bank i).used ≡ false →
      (place_at w.bank i).transaction.low < w.bank.openings
  place-counted i a f = (place-used i a f).counted

  -- any of A000 to ZZZZ
  pub order-limited : (i : ℕ) → i < place_count → is_free (place_at w.bank i).used ≡ false →
      (place_at w.bank i).number < series_limit
  order-limited i a f = v.orders i a f

  pub file-long : (s : ℕ) → 1 ≤ s → s ≤ subscribers → length (mailbox_file w s) ≡ file_length s w.bank.files
  file-long = kept-long w v.sizes.mailboxes (λ i l. (v.mailboxes_hold i l).room)

  pub download-open : (j : ℕ) → (download_at w.bank j).used ≡ true →
      OpenRecord w.bank.clock w.bank.openings (mailbox_file w (download_at w.bank j).subscriber) (download_at w.bank j)
  download-open j e =
      subst (λ (u : Bool). DownloadHolds u w.bank.clock w.bank.openings (mailbox_file w (download_at w.bank j).subscriber)
      (download_at w.bank j)) e (v.downloads j)

  -- two open downloads have two numbers
  pub downloads-apart : (i j : ℕ) → (download_at w.bank i).used ≡ true → (download_at w.bank j).used ≡ true →
      (download_at w.bank i).transaction.low ≡ (download_at w.bank j).transaction.low → i ≡ j
  downloads-apart i j a b e = at (dec_lt i j) (dec_lt j i)
    where
      rises : (k l : ℕ) → k < l → (download_at w.bank l).used ≡ true →
          (download_at w.bank k).transaction.low < (download_at w.bank l).transaction.low
      rises k l g u = packed-rises (λ (r : Download). r.used) no_download (λ (r : Download). r.transaction.low)
          (λ (r : Download). suc r.transaction.low)
          refl (λ r. omega arith) v.in_order k l g u

      at : Dec (i < j) → Dec (j < i) → i ≡ j
      at (yes g) d = absurd (let z = rises i j g b in omega arith)
      at (no g) (yes l) = absurd (let z = rises j i l a in omega arith)
      at (no g) (no l) = omega arith
