-- "In images no time exceeds the bound": the times of a session that passes the list. Assumes nothing.
use Prim.Native.Nat.{ℕ, ◌-◌, ◌≤◌, ◌<◌}
use mathlib.Core.Bool.{true}
use mathlib.Core.List.{List}
use mathlib.Core.Path.{◌≡◌}
use native.Mathlib.Omega.{arith}
use borrow.Author.Tests.{leb-true}
use Rattle.octets.proofs.Tests.{and-true}
use Rattle.frame_table.specs.Table.{last_time}
use Rattle.bank_state.specs.Limits.{place_count}
use Rattle.image_records.specs.Layout as image
use Rattle.image_records.specs.Records as records
use Rattle.image_conditions.specs.Conditions as list
use Rattle.image_records.proofs.Shapes.{every-at}
use Rattle.image_records.proofs.OneRecord.{nonce-time, download-time, place-listed, place-time, event-listed, event-time}
use Rattle.image_conditions.proofs.Listed.{listed}

-- no time of these numbers exceeds the bound
pub record InTime (xs : List ℕ) : Type 0 where
  pub clock : image.clock xs ≤ last_time
  pub nonces : (i : ℕ) → i < image.nonces xs → (image.nonce_at xs i).timestamp ≤ last_time
  pub downloads : (i : ℕ) → i < image.downloads xs → (image.download_at xs i).last ≤ last_time
  pub places : (i : ℕ) → i < place_count → (image.place_at xs i).last ≤ last_time
  pub events : (i : ℕ) → i < image.used_events xs → (image.event_at xs i).clock ≤ last_time

pub times-bounded : (xs orders mailboxes : List ℕ) → list.admitted xs orders mailboxes ≡ true
    → InTime xs
unfolding list.every_nonce list.every_download list.every_place list.every_event list.nonce_test list.download_test
    list.place_test list.event_test
times-bounded xs orders mailboxes h =
    let l = listed xs orders mailboxes h in
    let now = image.clock xs in
    let opened = image.openings xs in
    let bounded : now ≤ last_time = leb-true now last_time l.clock in
    record {
      clock = bounded;
      nonces = λ i k.
          nonce-time now (image.nonce_at xs i) (every-at (list.nonce_test xs) (image.nonces xs) i l.nonces k);
      downloads = λ i k.
          let d = image.download_at xs i in
          let file = image.file_of xs d.subscriber in
          let t = every-at (list.download_test xs) (image.downloads xs) i l.downloads k in
          let n = download-time now opened file d (and-true (records.download_holds now opened file d) _ t).0 in omega arith;
      places = λ i k.
          let p = image.place_at xs i in
          let t = every-at (list.place_test xs orders) place_count i l.places k in
          let held = (and-true (records.place_holds now opened p) _ t).0 in
          let n = place-time now opened p (place-listed now opened p held) in omega arith;
      events = λ i k.
          let t = every-at (list.event_test xs) (image.used_events xs) i l.journal k in
          let e = image.event_at xs i in
          let before = image.event_at xs (i - 1) in
          let entered = image.events xs in
          let n = event-time now opened entered i before e (event-listed now opened entered i before e t) in omega arith;
    }
