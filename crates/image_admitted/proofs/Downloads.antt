-- Open downloads: the conditions on each, and that they rise, are what a session's downloads may hold. Assumes nothing.
use Prim.Native.Nat.{ℕ, zero, suc, ◌+◌, ◌-◌, ◌≤◌, ◌<◌}
use mathlib.Core.Bool.{Bool, true, false, ◌&&◌}
use mathlib.Core.List.{List, [], ◌∷◌}
use mathlib.Core.Path.{◌≡◌, refl, sym, ◌∙◌, subst}
use native.Mathlib.Omega.{arith}
use lib.Dec.{leb, ltb}
use lib.ListN.{length, get_or}
use borrow.Author.Tests.{leb-true, le-leb, ltb-true, ltb-false, lt-ltb}
use Rattle.octets.proofs.Tests.{and-true}
use Rattle.message.specs.Limits.{subscribers, file_bytes, max_attempts}
use Rattle.message.specs.Segments.{segments_of}
use Rattle.journal.specs.Row.{Journal}
use Rattle.bank_state.specs.declared.state.Download.{Download}
use Rattle.bank_state.specs.Limits.{place_count, store_bytes, idle_limit}
use Rattle.bank_state.specs.State.{BankState, no_download, download_at, file_length}
use Rattle.bank_admitted.specs.Packed.{AllFree, none, more, Packed, rest, one}
use Rattle.bank_admitted.specs.State.{mailbox_file, OpenRecord, DownloadHolds}
use Rattle.bank_state.proofs.Stores.{kept-long}
use Rattle.bank_admitted.proofs.Rows.{packed-rises}
use Rattle.image_records.specs.declared.layout.DownloadRecord.{DownloadRecord}
use Rattle.image_records.specs.Layout as image
use Rattle.image_records.specs.Records.{download_holds}
use Rattle.image_conditions.specs.Conditions.{download_rises, download_test, every_download}
use Rattle.image_records.proofs.Shapes.{every-at, every-from}
use Rattle.image_records.proofs.General.{and_both, implied, implies-from}
use Rattle.image_admitted.proofs.Shown.{download_parts, Shown, downloads-are, download-used}

abbrev low_of : Download → ℕ
low_of e = e.transaction.low

-- open downloads stand first, in the order of their openings
abbrev InOrder : ℕ → List Download → Type 0
InOrder m l = Packed (λ (e : Download). e.used) no_download low_of (λ (e : Download). suc (low_of e)) m l

-- ---- the test of one download

module _ (now openings file : ℕ) (r : DownloadRecord) where
  abbrev Facts : Type 0
  Facts =
      (1 ≤ r.subscriber) × (r.subscriber ≤ subscribers) × (1 ≤ r.delivered) × (r.delivered ≤ segments_of file)
      × (r.attempts ≤ max_attempts) × (r.last ≤ now) × (now ≤ r.last + idle_limit) × (r.low < openings)

  told : download_holds now openings file r ≡ true → Facts
  told h =
      let a = and-true (leb 1 r.subscriber && leb r.subscriber subscribers) _ h in
      let b = and-true (leb 1 r.delivered && leb r.delivered (segments_of file)) _ a.1 in
      let c = and-true (leb r.attempts max_attempts) _ b.1 in
      let d = and-true (leb r.last now && leb now (r.last + idle_limit)) _ c.1 in
      let e = and-true (ltb r.low openings) _ d.1 in
      let known = and-true (leb 1 r.subscriber) _ a.0 in
      let delivered = and-true (leb 1 r.delivered) _ b.0 in
      let time = and-true (leb r.last now) _ d.0 in (
        leb-true _ _ known.0,
        leb-true _ _ known.1,
        leb-true _ _ delivered.0,
        leb-true _ _ delivered.1,
        leb-true _ _ c.0,
        leb-true _ _ time.0,
        leb-true _ _ time.1,
        ltb-true _ _ e.0,
      )

  tested : Facts → download_holds now openings file r ≡ true
  tested f =
      rw (
        le-leb _ _ f.0,
        le-leb _ _ f.1,
        le-leb _ _ f.2,
        le-leb _ _ f.3,
        le-leb _ _ f.4,
        le-leb _ _ f.5,
        le-leb _ _ f.6,
        lt-ltb _ _ f.7,
      )

-- a file of some segments has some bytes
some_byte : (size k : ℕ) → 1 ≤ k → k ≤ segments_of size → 1 ≤ size
unfolding segments_of
some_byte size k a b = omega arith

-- ---- rising records

all-free : (l : List Download) → ((i : ℕ) → get_or l i no_download ≡ no_download) → AllFree no_download l
all-free [] f = none
all-free (x ∷ l) f = more (f 0) (all-free l (λ i. f (suc i)))

in_order_lem : (l : List Download) (n m : ℕ) → ((i : ℕ) → i < n → (get_or l i no_download).used ≡ true)
    → (0 < n → m ≤ low_of (get_or l 0 no_download))
    → ((i : ℕ) → suc i < n → low_of (get_or l i no_download) < low_of (get_or l (suc i) no_download))
    → ((i : ℕ) → n ≤ i → get_or l i no_download ≡ no_download) → InOrder m l
in_order_lem [] n m used low rise free = rest none
in_order_lem (x ∷ l) zero m used low rise free = rest (all-free (x ∷ l) (λ i. free i (omega arith)))
in_order_lem (x ∷ l) (suc n) m used low rise free =
    one (used 0 (omega arith)) (low (omega arith))
    (in_order_lem l n (suc (low_of x)) (λ i h. used (suc i) (omega arith)) (λ h. rise 0 (omega arith))
    (λ i h. rise (suc i) (omega arith)) (λ i h. free (suc i) (omega arith)))

module _ (w : BankState) {xs : List ℕ} {j : Journal} {d n : ℕ} (v : Shown xs w.bank j d n) where
  -- the length of a subscriber's file
  file-of : (s : ℕ) → 1 ≤ s → s ≤ subscribers → image.file_of xs s ≡ file_length s w.bank.files
  unfolding image.file_of file_length
  file-of s first most = rw (le-leb 1 s first, le-leb s subscribers most) (v.file (s - 1) (omega arith))

  module _ (whole : length w.mailboxes ≡ store_bytes)
      (rooms : (i : ℕ) → i < place_count → get_or w.bank.files i 0 ≤ file_bytes) where
    -- ---- from the tests

    module _ (h : every_download xs ≡ true) where
      download-tests : (i : ℕ) → i < d
          → (download_holds w.bank.clock w.bank.openings (image.file_of xs (download_at w.bank i).subscriber)
          (download_parts (download_at w.bank i)) ≡ true) × (download_rises xs i ≡ true)
      unfolding every_download download_test
      download-tests i k =
          let t = every-at (download_test xs) (image.downloads xs) i h (rw (downloads-are v) k) in
          let r = image.download_at xs i in
          let a = and-true (download_holds (image.clock xs) (image.openings xs) (image.file_of xs r.subscriber) r) _ t in
          (rw (v.clock, v.openings, v.download i k) at a.0, a.1)

      facts : (i : ℕ) → i < d
          → Facts w.bank.clock w.bank.openings (image.file_of xs (download_at w.bank i).subscriber)
          (download_parts (download_at w.bank i))
      facts i k = told w.bank.clock w.bank.openings _ (download_parts (download_at w.bank i)) (download-tests i k).0

      open-record : (i : ℕ) → i < d
          → OpenRecord w.bank.clock w.bank.openings (mailbox_file w (download_at w.bank i).subscriber)
          (download_at w.bank i)
      open-record i k =
          let e = download_at w.bank i in
          let f = facts i k in
          let size = file-of e.subscriber f.0 f.1 ∙ sym (kept-long w whole rooms e.subscriber f.0 f.1) in
          let most = rw size at f.3 in
          record {
            counted = f.7;
            known = f.0;
            most = f.1;
            tries = f.4;
            some = f.2;
            within = most;
            full = some_byte (length (mailbox_file w e.subscriber)) e.delivered f.2 most;
            current = f.5;
          }

      pub downloads-hold : (i : ℕ)
          → DownloadHolds (download_at w.bank i).used w.bank.clock w.bank.openings
          (mailbox_file w (download_at w.bank i).subscriber) (download_at w.bank i)
      downloads-hold i = at (ltb i d) refl
        where
          e : Download
          e = download_at w.bank i

          at : (t : Bool) → ltb i d ≡ t
              → DownloadHolds e.used w.bank.clock w.bank.openings (mailbox_file w e.subscriber) e
          at true f =
              let k = ltb-true i d f in
              subst (λ (u : Bool). DownloadHolds u w.bank.clock w.bank.openings (mailbox_file w e.subscriber) e)
              (sym (v.used_download i k)) (open-record i k)
          at false f =
              subst (λ (x : Download). DownloadHolds x.used w.bank.clock w.bank.openings (mailbox_file w x.subscriber) x)
              (sym (v.free_download i (ltb-false i d f))) refl

      pub download-not-idle : (i : ℕ) → (download_at w.bank i).used ≡ true
          → w.bank.clock ≤ (download_at w.bank i).last + idle_limit
      download-not-idle i u = (facts i (download-used v i u)).6

      rises : (i : ℕ) → suc i < d → low_of (download_at w.bank i) < low_of (download_at w.bank (suc i))
      unfolding download_rises
      rises i k =
          let e : suc i - 1 ≡ i = omega arith in
          let t = implied (download-tests (suc i) k).1 (lt-ltb 0 (suc i) (omega arith)) in
          ltb-true _ _ (rw (e, v.download i (omega arith), v.download (suc i) k) at t)

      pub downloads-rise : InOrder 0 w.bank.downloads
      downloads-rise = in_order_lem w.bank.downloads d 0 v.used_download (λ h. omega arith) rises v.free_download

    -- ---- and to them

    pub every-download : ((i : ℕ)
        → DownloadHolds (download_at w.bank i).used w.bank.clock w.bank.openings
        (mailbox_file w (download_at w.bank i).subscriber) (download_at w.bank i))
        → ((i : ℕ) → (download_at w.bank i).used ≡ true → w.bank.clock ≤ (download_at w.bank i).last + idle_limit)
        → InOrder 0 w.bank.downloads → every_download xs ≡ true
    unfolding every_download download_test download_rises
    every-download f idle order =
        every-from (download_test xs) (image.downloads xs)
        (λ i h.
        let k : i < d = rw (downloads-are v) at h in
        and_both (holds i k) (rising i k))
      where
        opened : (i : ℕ) → i < d
            → OpenRecord w.bank.clock w.bank.openings (mailbox_file w (download_at w.bank i).subscriber)
            (download_at w.bank i)
        opened i k =
            let e = download_at w.bank i in
            subst (λ (u : Bool). DownloadHolds u w.bank.clock w.bank.openings (mailbox_file w e.subscriber) e)
            (v.used_download i k) (f i)

        holds : (i : ℕ) → i < d
            → download_holds (image.clock xs) (image.openings xs) (image.file_of xs (image.download_at xs i).subscriber)
            (image.download_at xs i) ≡ true
        holds i k =
            let e = download_at w.bank i in
            let o = opened i k in
            let size = file-of e.subscriber o.known o.most ∙ sym (kept-long w whole rooms e.subscriber o.known o.most) in
            rw (v.clock, v.openings, v.download i k, size)
            (tested w.bank.clock w.bank.openings _ (download_parts e)
            (o.known, o.most, o.some, o.within, o.tries, o.current, idle i (v.used_download i k), o.counted))

        rising : (i : ℕ) → i < d → download_rises xs i ≡ true
        rising i k =
            implies-from (ltb 0 i)
            (λ more.
            let p = ltb-true 0 i more in
            let up = packed-rises (λ (e : Download). e.used) no_download low_of (λ (e : Download). suc (low_of e)) refl
            (λ x. omega arith) order (i - 1) i (omega arith) (v.used_download i k) in
            rw (v.download (i - 1) (omega arith), v.download i k) (lt-ltb _ _ up))
