-- What a session may hold fits the parts of its image. Assumes nothing.
use Prim.Native.Nat.{ℕ, ◌^◌, ◌≤◌, ◌<◌}
use mathlib.Core.Bool.{Bool, true, false}
use mathlib.Core.List.{List}
use mathlib.Core.Path.{◌≡◌, refl, sym, subst}
use native.Mathlib.Omega.{arith}
use lib.Dec.{ltb}
use lib.ListN.{length, length-take}
use borrow.Author.Tests.{ltb-true, ltb-false}
use Rattle.frame_table.specs.Table.{last_time}
use Rattle.message.specs.Limits.{max_segments}
use Rattle.message.specs.Segments.{segments_of}
use Rattle.journal.specs.declared.event.Kind.{Kind}
use Rattle.journal.specs.declared.event.Kind.TheVariants.{Unused, Opened, Booked, Cancelled, Dropped, Signed}
use Rattle.journal.specs.declared.event.Event.{Event}
use Rattle.journal.specs.Places.{used_after}
use Rattle.journal.specs.Row.{Journal}
use Rattle.bank_state.specs.declared.state.Download.{Download}
use Rattle.bank_state.specs.declared.state.Place.{Place}
use Rattle.bank_state.specs.declared.state.Use.{Use}
use Rattle.bank_state.specs.declared.state.Use.TheVariants as use-of
use Rattle.bank_state.specs.Limits.{place_count, nonce_count}
use Rattle.bank_state.specs.Search.{is_free}
use Rattle.bank_state.specs.State.{BankState, Nonce, place_at, download_at}
use Rattle.bank_state.specs.Store.{part_at, file_of}
use Rattle.bank_rows.specs.Records.{number_of_use}
use Rattle.bank_rows.specs.State.{nonce_at}
use Rattle.bank_admitted.specs.State.{mailbox_file, PlaceHolds, DownloadHolds}
use Rattle.bank_admitted.specs.Session.{signers_given, record_at, SessionHolds}
use Rattle.bank_admitted.proofs.Signers.{given-most}
use Rattle.image_records.specs.Layout as image
use Rattle.image_numbers.specs.Numbers.{number_of_kind}
use Rattle.image_numbers.proofs.Records.{event_in}
use Rattle.image.specs.Table.{time_bytes}
use Rattle.image.specs.Items.{image_items}
use Rattle.image.specs.Image.{fits}
use Rattle.image_admitted.proofs.Fits.{
  Group,
  head_widths,
  count_widths,
  nonce-group,
  download-group,
  place-group,
  event-group,
  groups-fit,
}
use Rattle.image_admitted.proofs.Journal.{used-few}
use Rattle.image_admitted.proofs.Shown.{nonce_parts, download_parts, place_parts, Shown}

-- a file of a mailbox has no more segments than an order
file-short : (w : BankState) (s : ℕ) → segments_of (length (mailbox_file w s)) ≤ max_segments
unfolding mailbox_file file_of part_at segments_of
file-short w s = simp length-take (omega arith)

use-small : (u : Use) → number_of_use u < 256 ^ 1
use-small use-of.Free = omega arith
use-small use-of.Open = omega arith
use-small use-of.Booked = omega arith

kind-small : (k : Kind) → number_of_kind k < 256 ^ 1
kind-small Unused = omega arith
kind-small Opened = omega arith
kind-small Booked = omega arith
kind-small Cancelled = omega arith
kind-small Dropped = omega arith
kind-small Signed = omega arith

-- the columns of a place but its transaction
abbrev SmallPlace : Place → Type 0
SmallPlace p =
    (p.subscriber < 256 ^ 2) × (p.number < 256 ^ 4) × (p.segments < 256 ^ 2) × (p.taken < 256 ^ 2)
    × (p.attempts < 256 ^ 1) × (p.last < 256 ^ time_bytes) × (p.length < 256 ^ 2) × (p.signers < 256 ^ 1)

small-place : (u : Use) (clock openings : ℕ) (p : Place) (bytes : List ℕ) → clock ≤ last_time
    → PlaceHolds u clock openings p bytes → (is_free u ≡ false → p.number < 256 ^ 4) → SmallPlace p
small-place use-of.Free clock openings p bytes k h f = subst SmallPlace (sym h.empty) (omega arith)
small-place use-of.Open clock openings p bytes k h f = omega (arith, h, f refl)
small-place use-of.Booked clock openings p bytes k h f = omega (arith, h, f refl)

-- the columns of a download but its transaction
abbrev SmallDownload : Download → Type 0
SmallDownload e =
    (e.subscriber < 256 ^ 2) × (e.delivered < 256 ^ 2) × (e.attempts < 256 ^ 1) × (e.last < 256 ^ time_bytes)

small-download : (u : Bool) (clock openings : ℕ) (file : List ℕ) (e : Download) → clock ≤ last_time
    → segments_of (length file) ≤ max_segments → DownloadHolds u clock openings file e → SmallDownload e
small-download true clock openings file e k s h = omega (arith, h)
small-download false clock openings file e k s h = subst SmallDownload (sym h) (omega arith)

abbrev SmallNonce : Nonce → Type 0
SmallNonce e = (e.value.high < 256 ^ 8) × (e.value.low < 256 ^ 8) × (e.timestamp < 256 ^ time_bytes)

-- the parts of an event but its kind
abbrev SmallEvent : Event → Type 0
SmallEvent e =
    (e.number < 256 ^ 8) × (e.clock < 256 ^ time_bytes) × (e.subscriber < 256 ^ 2) × (e.order_type < 256 ^ 3)
    × (e.order < 256 ^ 4) × (e.high < 256 ^ 8) × (e.low < 256 ^ 8)

module _ (w : BankState) {xs : List ℕ} {j : Journal} {d n : ℕ} (v : Shown xs w.bank j d n) (o : SessionHolds w j) where
  small-nonce : (i : ℕ) (t : Bool) → ltb i n ≡ t → SmallNonce (nonce_at w.bank i)
  small-nonce i true e =
      let h = o.nonces.each i (v.used_nonce i (ltb-true i n e)) in
      (h.words.high, h.words.low, omega (arith, h.last))
  small-nonce i false e = subst SmallNonce (sym (v.free_nonce i (ltb-false i n e))) (omega arith)

  -- eight signers of each place at most
  given-few : signers_given w.bank.places ≤ 64
  given-few = omega (arith, given-most w.bank.places, o.state.sizes.places)

  small-event : (i : ℕ) (t : Bool) → ltb i (used_after j.events) ≡ t → SmallEvent (record_at j i)
  small-event i true e =
      let k = ltb-true i (used_after j.events) e in
      let h = o.journal.each i k in
      let number = o.journal.numbered i k in
      let few = used-few j.events in (
        omega (arith, o.events, o.state.numbers, given-few),
        omega (arith, h.current, o.clock),
        omega (arith, h.most),
        omega (arith, h.typed),
        omega (arith, h.ordered),
        h.lent,
        omega (arith, h.counted, o.state.numbers),
      )
  small-event i false e =
      subst SmallEvent (sym (o.journal.unused i (ltb-false i (used_after j.events) e))) (omega arith)

  module _ (nonces : (i : ℕ) → i < nonce_count → image.nonce_at xs i ≡ nonce_parts (nonce_at w.bank i))
      (downloads : (i : ℕ) → i < place_count → image.download_at xs i ≡ download_parts (download_at w.bank i))
      (counts : (i : ℕ) → i < image.count_size → image.count_at xs i ≤ w.bank.openings) where
    head-group : Group xs image.clock_at head_widths 0
    head-group = ((tt, omega (arith, v.clock, o.clock)), omega (arith, v.openings, o.state.numbers))

    counts-group : Group xs image.events_at count_widths 0
    counts-group = (
      (tt, omega (arith, v.events, o.events, o.state.numbers, given-few)),
      omega (arith, v.nonce_total, v.few_nonces),
    )

    -- an order's number is one of A000 to ZZZZ
    order_small : (i : ℕ) → i < place_count → is_free (place_at w.bank i).used ≡ false → (place_at w.bank i).number < 256 ^ 4
    order_small i k f = omega (arith, o.state.orders i k f)

    pub numbers_fit : fits image_items xs ≡ true
    numbers_fit =
        groups-fit xs head-group
        (λ i k. omega (arith, v.counter i k, o.state.series.limited i k))
        counts-group
        (λ i k.
        let f = small-nonce i (ltb i n) refl in
        nonce-group xs i (nonce_parts (nonce_at w.bank i)) (nonces i k) f.0 f.1 f.2)
        (omega (arith, v.download_total, v.few_downloads))
        (λ i k.
        let e = download_at w.bank i in
        let f = small-download e.used w.bank.clock w.bank.openings (mailbox_file w e.subscriber) e o.clock
        (file-short w e.subscriber) (o.state.downloads i) in
        let words = o.downloads i in
        download-group xs i (download_parts e) (downloads i k) f.0 words.high words.low f.1 f.2 f.3)
        (λ i k.
        let p = place_at w.bank i in
        let f = small-place p.used w.bank.clock w.bank.openings p (part_at w.orders i) o.clock
        (o.state.places i k) (order_small i k) in
        let words = o.places i k in
        place-group xs i (place_parts p.used p) (v.place i k) (use-small p.used) f.0 words.high words.low
        f.1 f.2 f.3 f.4 f.5 f.6 f.7)
        (λ i k. omega (arith, v.file i k, (o.state.mailboxes_hold i k).room))
        (λ i k.
        let e = record_at j i in
        let f = small-event i (ltb i (used_after j.events)) refl in
        event-group xs i (event_in e) (v.event i k) f.0 f.1 f.2 f.3 f.4 f.5 f.6 (kind-small e.kind))
        (λ i k. omega (arith, counts i k, o.state.numbers))
