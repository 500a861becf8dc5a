-- What a request does to the open transactions, to the book and to the openings, by its verdict: as the verdict moves the
-- counts. Assumes nothing.
use Prim.Native.Nat.{ℕ, zero, suc, ◌+◌, ◌-◌, ◌≤◌, ◌<◌}
use mathlib.Core.Bool.{Bool, true, false, not, cond, ◌&&◌}
use mathlib.Core.List.{List, [], ◌∷◌, ◌++◌}
use mathlib.Core.Path.{◌≡◌, refl, sym, ap, ◌∙◌}
use native.Mathlib.Omega.{arith}
use lib.ListN.{length, get_or, set, replicate}
use borrow.Author.Tests.{eq-eqb, not-true}
use Rattle.octets.proofs.Tests.{never, and-true}
use Rattle.frame_table.specs.declared.fields.Bits128.{Bits128}
use Rattle.frame_table.specs.declared.fields.Fields.{Fields}
use Rattle.frame_table.specs.Names.{subscriber, transaction}
use Rattle.frame_table.proofs.Bits.{bits-same}
use Rattle.bank_state.specs.declared.clock.Ended.{Ended}
use Rattle.bank_state.specs.declared.clock.Ended.TheVariants as ending
use Rattle.bank_state.specs.declared.state.Download.{Download}
use Rattle.bank_state.specs.declared.state.Place.{Place}
use Rattle.bank_state.specs.declared.state.Use.{Use}
use Rattle.bank_state.specs.declared.state.Use.TheVariants as uses
use Rattle.bank_state.specs.Clock.{ends, end_downloads}
use Rattle.bank_state.specs.Limits.{place_count}
use Rattle.bank_state.specs.Rows.{count_of, keep, keep_only}
use Rattle.bank_state.specs.Search.{is_free, is_open, is_booked, is_download, free_place, free_download, open_count}
use Rattle.bank_state.specs.State.{Bank, BankState, no_place, no_download, place_at, download_at, with_place, with_downloads}
use Rattle.bank_state.proofs.Found.{upload-found, download-found}
use Rattle.bank_state.proofs.Rows.{first_passes}
use Rattle.bank_verdicts.specs.declared.verdict.TransactionRequest.{TransactionRequest}
use Rattle.bank_verdicts.specs.declared.verdict.UploadAction.{UploadAction}
use Rattle.bank_verdicts.specs.declared.verdict.UploadAction.TheVariants as up
use Rattle.bank_verdicts.specs.declared.verdict.DownloadAction.{DownloadAction}
use Rattle.bank_verdicts.specs.declared.verdict.DownloadAction.TheVariants as down
use Rattle.bank_verdicts.specs.declared.verdict.Action.{Action}
use Rattle.bank_verdicts.specs.declared.verdict.Action.TheVariants as action
use Rattle.bank_verdicts.specs.declared.verdict.Verdict.{Verdict}
use Rattle.bank_verdicts.specs.declared.verdict.Verdict.TheVariants as verdict
use Rattle.bank_verdicts.specs.Judgement.{mailbox_segments, order_at, upload_at, download_of}
use Rattle.bank_verdicts.proofs.Sound.{
  UploadSound,
  took,
  took_last,
  upload_point,
  abort,
  underrun,
  exceeded,
  DownloadSound,
  delivered,
  sent_again,
  download_point,
  cancelled,
  confirmed,
  declined,
}
use Rattle.opening_counts.specs.declared.seven.Counts.{Counts}
use Rattle.opening_counts.specs.Counts.{counts_after}
use Rattle.opening_counts.proofs.Laws.{opens_by, ends_by}
use Rattle.bank_signing.specs.Signings.{sign, signed_place}
use Rattle.bank_openings.specs.Openings.{counted, counted_upload, new_place, open_upload, new_download, open_download}
use Rattle.bank_uploads.specs.Uploads.{grown, booked, attempted}
use Rattle.bank_downloads.specs.Downloads as downloads
use Rattle.bank_steps.specs.Steps.{emptied, upload_acts, download_acts, carry_out}
use Rattle.bank_steps.proofs.Cases.{
  ToUpload,
  ToDownload,
  ToOrder,
  Happens,
  unreadable,
  refused,
  opens_upload,
  opens_download,
  to_upload,
  to_download,
  signs,
}
use Rattle.bank_admitted.specs.Packed.{AllFree, none, more, Packed, rest, one}
use Rattle.bank_admitted.specs.State.{StateHolds}
use Rattle.bank_admitted.specs.Counts.{booked_orders}
use Rattle.bank_admitted.proofs.Openings.{free-inside-open}
use Rattle.bank_admitted.proofs.Rows.{count_set, used-inside}
use Rattle.bank_admitted.proofs.Signers.{open-not-booked, free-not-booked}

abbrev unit : Bool → ℕ
unit t = cond t 1 0

-- ---- downloads that end

abbrev used : Download → Bool
used e = e.used

abbrev gone : Ended → Download → Bool
gone which e = e.used && ends which e

used-behind : (n : ℕ) → count_of used (replicate n no_download) ≡ 0
unfolding count_of
used-behind zero = refl
used-behind (suc n) = let h = used-behind n in omega (arith, h)

used-front : (l : List Download) (n : ℕ) → count_of used (l ++ replicate n no_download) ≡ count_of used l
unfolding count_of
used-front [] n = used-behind n
used-front (e ∷ l) n = ap (λ (k : ℕ). unit (used e) + k) (used-front l n)

used-kept : (which : Ended) (l : List Download) →
    count_of used (keep (λ (e : Download). e.used && not (ends which e)) l) + count_of (gone which) l ≡ count_of used l
unfolding count_of keep
used-kept which [] = refl
used-kept which (e ∷ l) = at e.used (ends which e) refl (used-kept which l)
  where
    kept : List Download
    kept = keep (λ (x : Download). x.used && not (ends which x)) l

    at : (u t : Bool) → e.used ≡ u → count_of used kept + count_of (gone which) l ≡ count_of used l →
        count_of used (cond (u && not t) (e ∷ kept) kept) + (unit (u && t) + count_of (gone which) l) ≡ unit u + count_of used l
    at true true z h = omega (arith, h)
    at true false z h = let y = ap unit z in omega (arith, h, y)
    at false t z h = omega (arith, h)

-- those that end, and those that stay
ended-fall : (which : Ended) (l : List Download) →
    count_of used (end_downloads which l) + count_of (gone which) l ≡ count_of used l
unfolding end_downloads keep_only
ended-fall which l =
    let f = used-front (keep (λ (e : Download). e.used && not (ends which e)) l)
    (length l - length (keep (λ (e : Download). e.used && not (ends which e)) l)) in
    omega (arith, f, used-kept which l)

-- a record that passes is counted
some-counted : (p : Download → Bool) → p no_download ≡ false → (l : List Download) (i : ℕ) →
    p (get_or l i no_download) ≡ true → 1 ≤ count_of p l
unfolding count_of
some-counted p free [] i z = never (sym free ∙ z)
some-counted p free (x ∷ l) zero z = let y = ap unit z in omega (arith, y)
some-counted p free (x ∷ l) (suc i) z = let h = some-counted p free l i z in omega (arith, h)

-- in a row without gaps, of one running number there is one record at most
abbrev Row : ℕ → List Download → Type 0
Row m l =
    Packed (λ (e : Download). e.used) no_download (λ (e : Download). e.transaction.low)
    (λ (e : Download). suc e.transaction.low) m l

module _ (n : ℕ) (p : Download → Bool) (is : (e : Download) → p e ≡ true → (e.used ≡ true) × (e.transaction.low ≡ n)) where
  free-none : {l : List Download} → AllFree no_download l → count_of p l ≡ 0
  unfolding count_of
  free-none none = refl
  free-none (more {x = x} {l = l} q r) = at (p x) refl (free-none r)
    where
      at : (t : Bool) → p x ≡ t → count_of p l ≡ 0 → unit t + count_of p l ≡ 0
      at true z h = never (sym (ap used q) ∙ (is x z).0)
      at false z h = omega (arith, h)

  later-none : {m : ℕ} {l : List Download} → Row m l → n < m → count_of p l ≡ 0
  unfolding count_of
  later-none (rest f) h = free-none f
  later-none (one {x = x} {l = l} u k r) h = at (p x) refl (later-none r (omega (arith, k, h)))
    where
      at : (t : Bool) → p x ≡ t → count_of p l ≡ 0 → unit t + count_of p l ≡ 0
      at true z y = absurd (omega (arith, k, h, (is x z).1))
      at false z y = omega (arith, y)

  one-most : {m : ℕ} {l : List Download} → Row m l → count_of p l ≤ 1
  unfolding count_of
  one-most (rest f) = let y = free-none f in omega (arith, y)
  one-most (one {x = x} {l = l} u k r) = at (p x) refl (one-most r)
    where
      at : (t : Bool) → p x ≡ t → count_of p l ≤ 1 → unit t + count_of p l ≤ 1
      at true z h = let y = later-none r (omega (arith, (is x z).1)) in omega (arith, y)
      at false z h = omega (arith, h)

-- ---- what a verdict books

abbrev books : Action → ℕ
books (action.Upload (up.Opened n)) = 0
books (action.Upload up.Took) = 0
books (action.Upload up.TookLast) = 1
books (action.Upload (up.Point k)) = 0
books (action.Upload (up.Cancelled r)) = 0
books (action.Download a) = 0

abbrev pub books_by : Verdict → ℕ
books_by verdict.Unreadable = 0
books_by (verdict.Refused r) = 0
books_by (verdict.Of t a) = books a
books_by (verdict.Signed o added) = 0

pub after-booked : (v : Verdict) (dropped others : ℕ) (c : Counts) →
    (counts_after v dropped others c).booked ≡ c.booked + books_by v
after-booked verdict.Unreadable dropped others c = omega arith
after-booked (verdict.Refused r) dropped others c = omega arith
after-booked (verdict.Of t (action.Upload (up.Opened n))) dropped others c = omega arith
after-booked (verdict.Of t (action.Upload up.Took)) dropped others c = omega arith
after-booked (verdict.Of t (action.Upload up.TookLast)) dropped others c = omega arith
after-booked (verdict.Of t (action.Upload (up.Point k))) dropped others c = omega arith
after-booked (verdict.Of t (action.Upload (up.Cancelled r))) dropped others c = omega arith
after-booked (verdict.Of t (action.Download (down.Opened n))) dropped others c = omega arith
after-booked (verdict.Of t (action.Download (down.Delivered n))) dropped others c = omega arith
after-booked (verdict.Of t (action.Download (down.SentAgain n))) dropped others c = omega arith
after-booked (verdict.Of t (action.Download (down.Point d))) dropped others c = omega arith
after-booked (verdict.Of t (action.Download down.Cancelled)) dropped others c = omega arith
after-booked (verdict.Of t (action.Download down.Confirmed)) dropped others c = omega arith
after-booked (verdict.Of t (action.Download down.Declined)) dropped others c = omega arith
after-booked (verdict.Signed o added) dropped others c = omega arith

-- ---- a request

-- the bank before and after a verdict
pub record Moved (b c : Bank) (v : Verdict) : Type 0 where
  pub pending : open_count c + ends_by v (open_count b - open_count c - 1) ≡ open_count b + opens_by v
  pub few : ends_by v (open_count b - open_count c - 1) ≤ open_count b
  pub booked : booked_orders c ≡ booked_orders b + books_by v
  pub openings : c.openings ≡ b.openings + opens_by v

free-not-open : (u : Use) → is_free u ≡ true → is_open u ≡ false
free-not-open uses.Free e = refl
free-not-open uses.Open e = never e
free-not-open uses.Booked e = never e

module _ (w : BankState) (v : StateHolds w) (q : Fields) (d : List ℕ) where
  abbrev b : Bank
  b = w.bank

  unmoved : Moved b b verdict.Unreadable
  unmoved = record { pending = omega arith; few = omega arith; booked = omega arith; openings = omega arith }

  -- a place changed: the open uploads and the book
  module _ (i : ℕ) (inside : i < place_count) (p : Place) where
    open-set : count_of (λ (r : Place). is_open r.used) (set b.places i p) + unit (is_open (place_at b i).used)
        ≡ count_of (λ (r : Place). is_open r.used) b.places + unit (is_open p.used)
    open-set =
        count_set (λ (r : Place). is_open r.used) b.places i p no_place (let n = v.sizes.places in omega arith)

    booked-set : count_of (λ (r : Place). is_booked r.used) (set b.places i p) + unit (is_booked (place_at b i).used)
        ≡ count_of (λ (r : Place). is_booked r.used) b.places + unit (is_booked p.used)
    booked-set =
        count_set (λ (r : Place). is_booked r.used) b.places i p no_place (let n = v.sizes.places in omega arith)

  -- ---- openings

  upload-opened : (t : Bits128) (n : ℕ) → free_place b < place_count →
      Moved b (open_upload t n q b) (verdict.Of t (action.Upload (up.Opened n)))
  unfolding open_upload counted_upload counted free_place open_count
  upload-opened t n inside =
      let i = free_place b in
      let p = new_place t n b.clock q in
      let free = first_passes (λ (r : Place). is_free r.used) b.places no_place
      (let l = v.sizes.places in omega arith) in
      let o = ap unit (free-not-open (place_at b i).used free) in
      let k = ap unit (free-not-booked (place_at b i).used free) in
      let x = open-set i inside p in
      let y = booked-set i inside p in
      record {
        pending = omega (arith, o, x);
        few = omega arith;
        booked = omega (arith, k, y);
        openings = refl;
      }

  download-opened : (t : Bits128) (n : ℕ) → free_download b < length b.downloads →
      Moved b (open_download t q b) (verdict.Of t (action.Download (down.Opened n)))
  unfolding open_download counted free_download open_count
  download-opened t n inside =
      let e = new_download t b.clock q in
      let free = first_passes (λ (r : Download). not r.used) b.downloads no_download inside in
      let o = ap unit (not-true (download_at b (free_download b)).used free) in
      let x = count_set used b.downloads (free_download b) e no_download inside in
      record {
        pending = omega (arith, o, x);
        few = omega arith;
        booked = omega arith;
        openings = refl;
      }

  -- ---- a request to an open upload

  module _ (r : TransactionRequest) (a : UploadAction) (c : ToUpload w q d r a) where
    abbrev i : ℕ
    i = upload_at b q

    abbrev p : Place
    p = place_at b i

    is_open_lem : is_open p.used ≡ true
    is_open_lem = ap is_open (upload-found (subscriber q) (transaction q) p c.found).0

    stays : (n : Place) → n.used ≡ p.used →
        (open_count (with_place i n b) ≡ open_count b) × (booked_orders (with_place i n b) ≡ booked_orders b)
    unfolding open_count
    stays n same =
        let f = ap (λ (u : Use). unit (is_open u)) same in
        let g = ap (λ (u : Use). unit (is_booked u)) same in
        (omega (arith, f, open-set i c.inside n), omega (arith, g, booked-set i c.inside n))

    goes : (n : Place) → is_open n.used ≡ false →
        (open_count (with_place i n b) + 1 ≡ open_count b)
        × (booked_orders (with_place i n b) ≡ booked_orders b + unit (is_booked n.used))
    unfolding open_count
    goes n over =
        let f = ap unit over in
        let o = ap unit is_open_lem in
        let k = ap unit (open-not-booked p.used is_open_lem) in
        (omega (arith, f, o, open-set i c.inside n), omega (arith, k, booked-set i c.inside n))

    upload-moved : {x : UploadAction} (t : Bits128) → UploadSound r p q x →
        Moved b (upload_acts x t w q d).bank (verdict.Of t (action.Upload x))
    unfolding grown booked attempted
    upload-moved t (took y below early) =
        let s = stays (grown b.clock (length d) p) refl in
        record { pending = omega (arith, s.0); few = omega arith; booked = omega (arith, s.1); openings = omega arith }
    upload-moved t (took_last y last mark) =
        let s = goes (booked (length d) p) refl in
        record {
          pending = omega (arith, s.0);
          few = omega (arith, s.0);
          booked = omega (arith, s.1);
          openings = omega arith;
        }
    upload-moved t (upload_point fits few) =
        let s = stays (attempted p) refl in
        record { pending = omega (arith, s.0); few = omega arith; booked = omega (arith, s.1); openings = omega arith }
    upload-moved t (abort fits many) =
        let s = goes no_place refl in
        record {
          pending = omega (arith, s.0);
          few = omega (arith, s.0);
          booked = omega (arith, s.1);
          openings = omega arith;
        }
    upload-moved t (underrun y below mark) =
        let s = goes no_place refl in
        record {
          pending = omega (arith, s.0);
          few = omega (arith, s.0);
          booked = omega (arith, s.1);
          openings = omega arith;
        }
    upload-moved t (exceeded y last mark) =
        let s = goes no_place refl in
        record {
          pending = omega (arith, s.0);
          few = omega (arith, s.0);
          booked = omega (arith, s.1);
          openings = omega arith;
        }

  -- ---- a request to an open download

  module _ (r : TransactionRequest) (a : DownloadAction) (c : ToDownload w q d r a) where
    abbrev j : ℕ
    j = download_of b q

    abbrev e : Download
    e = download_at b j

    is-used : e.used ≡ true
    is-used = (download-found (subscriber q) (transaction q) e c.found).0

    keeps : (n : Download) → n.used ≡ e.used → open_count (with_downloads (set b.downloads j n) b) ≡ open_count b
    unfolding open_count
    keeps n same =
        let f = ap unit same in
        let x = count_set used b.downloads j n no_download
        (used-inside used no_download refl b.downloads j is-used) in
        omega (arith, f, x)

    -- the others stay where this one ends
    one-ends : open_count (with_downloads (end_downloads (ending.Transaction (subscriber q) (transaction q)) b.downloads) b) + 1
        ≡ open_count b
    unfolding open_count ends
    one-ends =
        let which = ending.Transaction (subscriber q) (transaction q) in
        let f = ended-fall which b.downloads in
        let most = one-most (transaction q).low (gone which)
        (λ x z. let k = and-true x.used (is_download (subscriber q) (transaction q) x) z in (
          k.0,
          ap (λ (t : Bits128). t.low)
              (bits-same x.transaction (transaction q) (download-found (subscriber q) (transaction q) x k.1).2),
        ))
        v.in_order in
        let least = some-counted (gone which) refl b.downloads j (rw (is-used, c.found)) in
        omega (arith, f, most, least)

    -- of its mailbox at least this one ends
    some_end : open_count (emptied (subscriber q) w).bank + 1 ≤ open_count b
    unfolding open_count ends
    some_end =
        let which = ending.Mailbox (subscriber q) in
        let f = ended-fall which b.downloads in
        let own = (download-found (subscriber q) (transaction q) e c.found).1 in
        let least = some-counted (gone which) refl b.downloads j (rw (is-used, eq-eqb e.subscriber (subscriber q) own)) in
        omega (arith, f, least)

    download-moved : {x : DownloadAction} (t : Bits128) → DownloadSound r e (mailbox_segments (subscriber q) b) q x →
        Moved b (download_acts x t w q).bank (verdict.Of t (action.Download x))
    download-moved t (delivered y next most) =
        let s = keeps (downloads.advanced_to b.clock e) refl in
        record { pending = omega (arith, s); few = omega arith; booked = omega arith; openings = omega arith }
    download-moved t (sent_again y some most few) =
        let s = keeps (downloads.attempted e) refl in
        record { pending = omega (arith, s); few = omega arith; booked = omega arith; openings = omega arith }
    download-moved t (download_point fits few) =
        let s = keeps (downloads.attempted e) refl in
        record { pending = omega (arith, s); few = omega arith; booked = omega arith; openings = omega arith }
    download-moved t (cancelled fits many) =
        record {
          pending = omega (arith, one-ends);
          few = omega (arith, one-ends);
          booked = omega arith;
          openings = omega arith;
        }
    download-moved t (confirmed y last code) =
        record {
          pending = omega (arith, some_end);
          few = omega (arith, some_end);
          booked = omega arith;
          openings = omega arith;
        }
    download-moved t (declined y last code) =
        record {
          pending = omega (arith, one-ends);
          few = omega (arith, one-ends);
          booked = omega arith;
          openings = omega arith;
        }

  -- ---- a signing

  signed-moved : (c : ToOrder w q d) (u : Verdict) → opens_by u ≡ 0 → ((n : ℕ) → ends_by u n ≡ 0) → books_by u ≡ 0 →
      Moved b (sign q b) u
  unfolding sign open_count
  signed-moved c u o n k =
      let i = order_at b q in
      let p = signed_place (subscriber q) (place_at b i) in
      let x = open-set i c.signable.inside p in
      let y = booked-set i c.signable.inside p in
      let m = n (open_count b - open_count (sign q b) - 1) in
      record {
        pending = omega (arith, o, m, x);
        few = omega (arith, m);
        booked = omega (arith, k, y);
        openings = omega (arith, o);
      }

  -- ---- every request

  pub request-moved : {first : ℕ} {u : Verdict} → Happens first w q d u → Moved b (carry_out u w q d).bank u
  request-moved unreadable = unmoved
  request-moved (refused c z) = record { pending = omega arith; few = omega arith; booked = omega arith; openings = omega arith }
  request-moved (opens_upload e a g n inside own) = upload-opened _ _ inside
  request-moved (opens_download e a g n) = download-opened _ _ (free-inside-open b v.sizes.downloads g.of_all)
  request-moved (to_upload r a c) = upload-moved r a c _ c.sound
  request-moved (to_download r a c) = download-moved r a c _ c.sound
  request-moved (signs c) = signed-moved c _ refl (λ n. refl) refl
