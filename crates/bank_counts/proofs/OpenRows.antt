-- The bank's open transactions are as many as the accepted openings that stand open: its open rows have their own
-- transactions, each of an accepted opening, and every opening that stands open has such a row.
use Prim.Native.Nat.{ℕ}
use mathlib.Core.Bool.{Bool, true}
use mathlib.Core.List.{List, ◌++◌, Memᴰ as In}
use mathlib.Core.Logic.{◌⊎◌, inl, inr}
use mathlib.Core.Path.{◌≡◌, refl, sym, ap, ◌∙◌, subst}
use native.Mathlib.Omega.{arith}
use lib.Dec.{eqb}
use lib.ListN.{length-append}
use Rattle.frame_table.specs.declared.fields.Bits128.{Bits128}
use Rattle.octets.proofs.Tests.{never}
use Rattle.bank_state.specs.declared.state.Download.{Download}
use Rattle.bank_state.specs.declared.state.Place.{Place}
use Rattle.bank_state.specs.Rows.{count_of}
use Rattle.bank_state.specs.Search.{is_open, open_count}
use Rattle.bank_state.specs.State.{BankState, no_place, no_download, place_at}
use Rattle.message.specs.declared.directions.Direction.{Direction}
use Rattle.bank_admitted.proofs.Held.{open-in-use, downloads-apart}
use Rattle.bank_history.specs.History.{Exchange}
use Rattle.bank_history.specs.Invariant.{Invariant}
use Rattle.bank_history.specs.Status.{
  Status,
  NotOpened,
  Open,
  Booked,
  Fetched,
  Skipped,
  EndedByReceipt,
  Cancelled,
  Dropped,
  openings,
  OpenAs,
  upload,
  download,
}
use Rattle.bank_history.proofs.Drops.{in_left, in_right, in_either, open-listed, opened-numbered}
use Rattle.bank_history.proofs.Statuses.{Told, open-shown}
use Rattle.bank_counts.specs.Counts.{way_of}
use Rattle.bank_counts.proofs.Laws.{Apart, apart-append, count-exact}
use Rattle.bank_counts.proofs.Rows.{ids, length_ids, in_ids, ids-in, ids-apart}

-- ---- open by the rows, open by the ways

open-way : (x : Status) → eqb (way_of x) 0 ≡ true → (d : Direction) × (s : ℕ) × (last : ℕ) × (x ≡ Open d s last)
open-way NotOpened z = never z
open-way (Open d s last) z = (d, s, last, refl)
open-way Booked z = never z
open-way Fetched z = never z
open-way Skipped z = never z
open-way EndedByReceipt z = never z
open-way Cancelled z = never z
open-way Dropped z = never z

module _ (w : BankState) (h : List Exchange) (v : Invariant w h) (σ : Bits128 → Status) (told : Told w σ) where
  abbrev placed : Place → Bool
  placed p = is_open p.used

  abbrev place_id : Place → Bits128
  place_id p = p.transaction

  abbrev taken : Download → Bool
  taken e = e.used

  abbrev download_id : Download → Bits128
  download_id e = e.transaction

  abbrev upload_ids : List Bits128
  upload_ids = ids placed place_id no_place w.bank.places

  abbrev download_ids : List Bits128
  download_ids = ids taken download_id no_download w.bank.downloads

  listed : {t : Bits128} {d : Direction} {s last : ℕ} → σ t ≡ Open d s last →
      In t (openings h) × (eqb (way_of (σ t)) 0 ≡ true)
  listed z = (open-listed w h v (open-shown told z), ap (λ (x : Status). eqb (way_of x) 0) z)

  inside : (t : Bits128) → In t (upload_ids ++ download_ids) → In t (openings h) × (eqb (way_of (σ t)) 0 ≡ true)
  inside t i = at (in_either upload_ids download_ids i)
    where
      at : In t upload_ids ⊎ In t download_ids → In t (openings h) × (eqb (way_of (σ t)) 0 ≡ true)
      at (inl j) =
          let k = in_ids placed place_id no_place w.bank.places j in
          let l = v.state.sizes.places in
          listed (ap σ (sym k.same) ∙ told.places k.row (omega arith) k.used)
      at (inr j) =
          let k = in_ids taken download_id no_download w.bank.downloads j in
          listed (ap σ (sym k.same) ∙ told.downloads k.row k.used)

  found : {t : Bits128} {d : Direction} {s last : ℕ} → OpenAs w t d s last → In t (upload_ids ++ download_ids)
  found (upload u) =
      subst (λ (i : Bits128). In i (upload_ids ++ download_ids)) u.transaction
      (in_left upload_ids download_ids
      (ids-in placed place_id no_place w.bank.places u.place
      (let l = v.state.sizes.places in let b = u.inside in omega arith) (ap is_open u.used)))
  found (download u) =
      subst (λ (i : Bits128). In i (upload_ids ++ download_ids)) u.transaction
      (in_right upload_ids download_ids
      (ids-in taken download_id no_download w.bank.downloads u.row
      (let l = v.state.sizes.downloads in let b = u.inside in omega arith) u.used))

  all : (t : Bits128) → In t (openings h) → eqb (way_of (σ t)) 0 ≡ true → In t (upload_ids ++ download_ids)
  all t i z = found (open-shown told (open-way (σ t) z).3)

  apart : Apart (upload_ids ++ download_ids)
  apart =
      apart-append
      (ids-apart placed place_id no_place w.bank.places
      (λ i j a b f g z. let l = v.state.sizes.places in
      v.state.places_apart i j (omega arith) (omega arith) (open-in-use (place_at w.bank i).used f)
      (open-in-use (place_at w.bank j).used g) (inl z)))
      (ids-apart taken download_id no_download w.bank.downloads
      (λ i j a b f g z. downloads-apart w v.state i j f g z))
      (λ t u i j z.
      let k = in_ids placed place_id no_place w.bank.places i in
      let m = in_ids taken download_id no_download w.bank.downloads j in
      v.state.apart k.row m.row (let l = v.state.sizes.places in omega arith)
      (open-in-use (place_at w.bank k.row).used k.used) m.used
      (ap (λ (x : Bits128). x.low) k.same ∙ (z ∙ sym (ap (λ (x : Bits128). x.low) m.same))))

  -- the rows in use are counted by the openings that stand open
  pub open-count : open_count w.bank ≡ count_of (λ (t : Bits128). eqb (way_of (σ t)) 0) (openings h)
  unfolding open_count
  open-count =
      let c = count-exact (opened-numbered v.sound).0 (λ (t : Bits128). eqb (way_of (σ t)) 0) apart inside all in
      let a = length-append upload_ids download_ids in
      let p = length_ids placed place_id no_place w.bank.places in
      let d = length_ids taken download_id no_download w.bank.downloads in
      omega arith
