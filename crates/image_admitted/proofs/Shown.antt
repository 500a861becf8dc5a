-- What it is for an image's numbers to show a bank and a journal, record by record. Assumes nothing.
use Prim.Native.Nat.{ℕ, ◌≤◌, ◌<◌}
use mathlib.Core.Bool.{Bool, true, false}
use mathlib.Core.List.{List}
use mathlib.Core.Path.{◌≡◌, refl, sym, ap, ◌∙◌}
use lib.Dec.{ltb}
use lib.ListN.{length, get_or}
use borrow.Author.Tests.{ltb-true, ltb-false, le-leb}
use Rattle.octets.proofs.Tests.{never}
use Rattle.journal.specs.Events.{record_count, no_event}
use Rattle.journal.specs.Row.{Journal}
use Rattle.bank_state.specs.declared.state.Download.{Download}
use Rattle.bank_state.specs.declared.state.Place.{Place}
use Rattle.bank_state.specs.declared.state.Use.{Use}
use Rattle.bank_state.specs.Limits.{place_count, nonce_count}
use Rattle.bank_state.specs.State.{Bank, Nonce, no_download, no_nonce, place_at, download_at}
use Rattle.bank_rows.specs.Records.{number_of_use}
use Rattle.bank_rows.specs.State.{nonce_at}
use Rattle.image_records.specs.declared.layout.NonceRecord.{NonceRecord}
use Rattle.image_records.specs.declared.layout.DownloadRecord.{DownloadRecord}
use Rattle.image_records.specs.declared.layout.PlaceRecord.{PlaceRecord}
use Rattle.image_records.specs.Shapes.{up_to}
use Rattle.image_records.specs.Layout as image
use Rattle.image_numbers.proofs.Records.{event_in}

-- the parts of a record
abbrev pub nonce_parts : Nonce → NonceRecord
nonce_parts e = record { high = e.value.high; low = e.value.low; timestamp = e.timestamp }

abbrev pub download_parts : Download → DownloadRecord
download_parts e = record {
  subscriber = e.subscriber;
  high = e.transaction.high;
  low = e.transaction.low;
  delivered = e.delivered;
  attempts = e.attempts;
  last = e.last;
}

abbrev pub place_parts : Use → Place → PlaceRecord
place_parts u p = record {
  state = number_of_use u;
  subscriber = p.subscriber;
  high = p.transaction.high;
  low = p.transaction.low;
  order = p.number;
  segments = p.segments;
  taken = p.taken;
  attempts = p.attempts;
  last = p.last;
  length = p.length;
  signers = p.signers;
}

-- the numbers xs show the bank b, with d open downloads and n nonces, and the journal j
pub record Shown (xs : List ℕ) (b : Bank) (j : Journal) (d n : ℕ) : Type 0 where
  pub clock : image.clock xs ≡ b.clock
  pub openings : image.openings xs ≡ b.openings
  pub long_series : length b.series ≡ place_count
  pub counter : (i : ℕ) → i < place_count → image.counter_at xs i ≡ get_or b.series i 0
  pub events : image.events xs ≡ j.events
  pub nonce_total : get_or xs image.nonce_count_at 0 ≡ n
  pub few_nonces : n ≤ nonce_count
  pub long_nonces : length b.nonces ≡ nonce_count
  pub used_nonce : (i : ℕ) → i < n → (nonce_at b i).used ≡ true
  pub free_nonce : (i : ℕ) → n ≤ i → nonce_at b i ≡ no_nonce
  pub nonce : (i : ℕ) → i < n → image.nonce_at xs i ≡ nonce_parts (nonce_at b i)
  pub download_total : get_or xs image.download_count_at 0 ≡ d
  pub few_downloads : d ≤ place_count
  pub long_downloads : length b.downloads ≡ place_count
  pub used_download : (i : ℕ) → i < d → (download_at b i).used ≡ true
  pub free_download : (i : ℕ) → d ≤ i → download_at b i ≡ no_download
  pub download : (i : ℕ) → i < d → image.download_at xs i ≡ download_parts (download_at b i)
  pub long_places : length b.places ≡ place_count
  pub place : (i : ℕ) → i < place_count → image.place_at xs i ≡ place_parts (place_at b i).used (place_at b i)
  pub long_files : length b.files ≡ place_count
  pub file : (i : ℕ) → i < place_count → image.file_at xs i ≡ get_or b.files i 0
  pub long_row : length j.row ≡ record_count
  pub event : (i : ℕ) → i < record_count → image.event_at xs i ≡ event_in (get_or j.row i no_event)

pub up-to-few : (most n : ℕ) → n ≤ most → up_to most n ≡ n
up-to-few most n h = rw (le-leb n most h)

module _ {xs : List ℕ} {b : Bank} {j : Journal} {d n : ℕ} (v : Shown xs b j d n) where
  pub nonces-are : image.nonces xs ≡ n
  nonces-are = ap (up_to nonce_count) v.nonce_total ∙ up-to-few nonce_count n v.few_nonces

  pub downloads-are : image.downloads xs ≡ d
  downloads-are = ap (up_to place_count) v.download_total ∙ up-to-few place_count d v.few_downloads

  -- what is used is one of those counted
  pub nonce-used : (i : ℕ) → (nonce_at b i).used ≡ true → i < n
  nonce-used i u = at (ltb i n) refl
    where
      at : (t : Bool) → ltb i n ≡ t → i < n
      at true e = ltb-true i n e
      at false e = never (sym (ap (λ (x : Nonce). x.used) (v.free_nonce i (ltb-false i n e))) ∙ u)

  pub download-used : (i : ℕ) → (download_at b i).used ≡ true → i < d
  download-used i u = at (ltb i d) refl
    where
      at : (t : Bool) → ltb i d ≡ t → i < d
      at true e = ltb-true i d e
      at false e = never (sym (ap (λ (x : Download). x.used) (v.free_download i (ltb-false i d e))) ∙ u)
