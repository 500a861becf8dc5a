-- A request and a file leave a bank in range in range. Assumes nothing.
use Prim.Native.Nat.{ℕ, zero, suc, ◌*◌, ◌-◌, ◌≤◌, ◌<◌}
use mathlib.Core.Bool.{Bool, true, false, not}
use mathlib.Core.List.{List, [], ◌∷◌}
use mathlib.Core.Path.{◌≡◌, refl, sym, ap, subst}
use native.Mathlib.Omega.{arith}
use lib.Dec.{eqb}
use lib.ListN.{length, get_or, set}
use lib.Seq.{get_or-set_other}
use borrow.Author.Tests.{eqb-true, eqb-false, not-true}
use Rattle.frame_table.specs.declared.fields.Fields.{Fields}
use Rattle.frame_table.specs.Names.{subscriber}
use Rattle.octets.proofs.Tests.{never, and-true}
use Rattle.message.specs.Limits.{file_bytes, segment_bytes, max_segments, subscribers}
use Rattle.message.specs.Segments.{segments_of}
use Rattle.message.proofs.SegmentNumbers.{some-segment}
use Rattle.bank_state.specs.declared.clock.Ended.TheVariants as ending
use Rattle.bank_state.specs.State.{Bank}
use Rattle.bank_state.specs.declared.state.Download.{Download}
use Rattle.bank_state.specs.declared.state.Place.{Place}
use Rattle.bank_state.specs.Clock.{ends}
use Rattle.bank_state.specs.Limits.{place_count, all_signers}
use Rattle.bank_state.specs.Search.{is_open, free_place, free_download}
use Rattle.bank_state.specs.State.{BankState, bank_state, no_place, no_download, place_at, download_at, file_length}
use Rattle.bank_state.specs.State.{with_place, with_download, with_files}
use Rattle.bank_state.proofs.Drops.{each-end_downloads}
use Rattle.bank_sound.specs.Sound.{InRange}
use Rattle.bank_rows.specs.State.{Held}
use Rattle.bank_sound.proofs.Range.{upload-room, ended-range}
use Rattle.bank_verdicts.specs.declared.verdict.Context.{Context}
use Rattle.message.specs.declared.directions.Direction.{Direction}
use Rattle.bank_verdicts.specs.declared.verdict.DownloadAction.{DownloadAction}
use Rattle.bank_verdicts.specs.declared.verdict.TransactionRequest.{TransactionRequest}
use Rattle.bank_verdicts.specs.declared.verdict.UploadAction.{UploadAction}
use Rattle.bank_verdicts.specs.declared.verdict.Verdict.{Verdict}
use Rattle.bank_verdicts.specs.Judgement.{mailbox_segments, opening_number, order_at, judge_download, upload_at, download_of, judge}
use Rattle.bank_verdicts.proofs.Sound.{Readable, OpeningSound, UploadSound, DownloadSound}
use Rattle.bank_verdicts.proofs.Sound.{judged-upload, judged-download}
use Rattle.bank_verdicts.proofs.Sound as sound
use Rattle.bank_verdicts.proofs.Signing.{SigningSound}
use Rattle.bank_verdicts.proofs.Signing as signing
use Rattle.bank_openings.specs.Openings.{remembered, counted, counted_upload, open_upload, open_download}
use Rattle.bank_signing.specs.Signings.{signed_place, sign}
use Rattle.bank_signing.proofs.Signed.{signers-few}
use Rattle.bank_downloads.specs.Downloads.{download_after}
use Rattle.bank_uploads.specs.Uploads.{grown, booked, attempted, place_after}
use Rattle.bank_steps.specs.Steps.{emptied, on_download, carry_out, upload_verdict, download_verdict}
use Rattle.bank_steps.proofs.Carried.{upload-acts, download-acts}
use Rattle.bank_steps.proofs.Held.{upload-open, download-open}
use Rattle.bank_steps.proofs.Judged.{judged-each}

-- ---- one part changed

-- what holds of a new element and of each holds of each after it is set
module _ {A : Type 0} (P : A → Type 0) (none new : A) (x : P new) where
  set-each : (l : List A) (i j : ℕ) → P (get_or l j none) → P (get_or (set l i new) j none)
  set-each [] i j p = p
  set-each (y ∷ l) zero zero p = x
  set-each (y ∷ l) zero (suc j) p = p
  set-each (y ∷ l) (suc i) zero p = p
  set-each (y ∷ l) (suc i) (suc j) p = set-each l i j p

-- a place in range
record PlaceRange (p : Place) : Type 0 where
  size : p.length ≤ file_bytes
  signers : p.signers ≤ all_signers
  few : is_open p.used ≡ true → p.segments ≤ max_segments
  below : is_open p.used ≡ true → p.taken < p.segments
  largest : is_open p.used ≡ true → p.length ≤ p.taken * segment_bytes

-- a download in range, over these files
record DownloadRange (files : List ℕ) (e : Download) : Type 0 where
  known : 1 ≤ e.subscriber
  most : e.subscriber ≤ subscribers
  within : e.delivered ≤ segments_of (file_length e.subscriber files)

freed-range : PlaceRange no_place
freed-range = record { size = omega arith; signers = omega arith; few = never; below = never; largest = never }

module _ {b : Bank} (r : InRange b) where
  place-range : (i : ℕ) (p : Place) → PlaceRange p → InRange (with_place i p b)
  place-range i p k = record {
    files = r.files;
    lengths =
        λ j h. set-each (λ (x : Place). x.length ≤ file_bytes) no_place p k.size b.places i j (r.lengths j h);
    signers =
        λ j h. set-each (λ (x : Place). x.signers ≤ all_signers) no_place p k.signers b.places i j (r.signers j h);
    few = each (λ (x : Place). x.segments ≤ max_segments) k.few r.few;
    below = each (λ (x : Place). x.taken < x.segments) k.below r.below;
    largest = each (λ (x : Place). x.length ≤ x.taken * segment_bytes) k.largest r.largest;
    known = r.known;
    most = r.most;
    within = r.within;
  }
    where
      each : (P : Place → Type 0) → (is_open p.used ≡ true → P p)
          → ((j : ℕ) → is_open (place_at b j).used ≡ true → P (place_at b j)) → (j : ℕ) →
          let x = place_at (with_place i p b) j in
          is_open x.used ≡ true → P x
      each P new old j = set-each (λ (x : Place). is_open x.used ≡ true → P x) no_place p new b.places i j (old j)

  download-range : (j : ℕ) (e : Download) → DownloadRange b.files e → InRange (with_download j e b)
  download-range j e k = record {
    files = r.files;
    lengths = r.lengths;
    signers = r.signers;
    few = r.few;
    below = r.below;
    largest = r.largest;
    known = each (λ (x : Download). 1 ≤ x.subscriber) k.known r.known;
    most = each (λ (x : Download). x.subscriber ≤ subscribers) k.most r.most;
    within =
        each (λ (x : Download). x.delivered ≤ segments_of (file_length x.subscriber b.files))
        k.within r.within;
  }
    where
      each : (P : Download → Type 0) → P e → ((i : ℕ) → (download_at b i).used ≡ true → P (download_at b i)) → (i : ℕ) →
          let x = download_at (with_download j e b) i in
          x.used ≡ true → P x
      each P new old i =
          set-each (λ (x : Download). x.used ≡ true → P x) no_download e (λ _. new) b.downloads j i (old i)

  counted-range : (q : Fields) → InRange (counted q b)
  unfolding counted
  counted-range q = record {
    files = r.files;
    lengths = r.lengths;
    signers = r.signers;
    few = r.few;
    below = r.below;
    largest = r.largest;
    known = r.known;
    most = r.most;
    within = r.within;
  }

  counted-upload-range : (number : ℕ) (q : Fields) → InRange (counted_upload number q b)
  unfolding counted_upload counted
  counted-upload-range number q = record {
    files = r.files;
    lengths = r.lengths;
    signers = r.signers;
    few = r.few;
    below = r.below;
    largest = r.largest;
    known = r.known;
    most = r.most;
    within = r.within;
  }

  -- ---- a signing

  remembered-range : (q : Fields) → InRange (remembered q b)
  remembered-range q = record {
    files = r.files;
    lengths = r.lengths;
    signers = r.signers;
    few = r.few;
    below = r.below;
    largest = r.largest;
    known = r.known;
    most = r.most;
    within = r.within;
  }

  signed-place-range : (i s : ℕ) → i < place_count → PlaceRange (signed_place s (place_at b i))
  signed-place-range i s h = record {
    size = r.lengths i h;
    signers = signers-few s (place_at b i).signers (r.signers i h);
    few = r.few i;
    below = r.below i;
    largest = r.largest i;
  }

  -- ---- an open upload

  upload-range : (i n clock : ℕ) → i < place_count → is_open (place_at b i).used ≡ true → n ≤ segment_bytes
      → (t : TransactionRequest) (q : Fields) (a : UploadAction) → UploadSound t (place_at b i) q a
      → PlaceRange (place_after a clock n (place_at b i))
  unfolding grown booked attempted
  upload-range i n clock h o short t q a (sound.took fits other mark) = record {
    size = upload-room r i n o short;
    signers = r.signers i h;
    few = λ _. r.few i o;
    below = λ _. omega (arith, r.below i o, fits.next, other);
    largest = λ _. omega (arith, r.largest i o);
  }
  upload-range i n clock h o short t q a (sound.took_last fits last mark) =
      record { size = upload-room r i n o short; signers = omega arith; few = never; below = never; largest = never }
  upload-range i n clock h o short t q a (sound.upload_point none few) =
      record { size = r.lengths i h; signers = r.signers i h; few = r.few i; below = r.below i; largest = r.largest i }
  upload-range i n clock h o short t q a (sound.abort none many) = freed-range
  upload-range i n clock h o short t q a (sound.underrun fits below mark) = freed-range
  upload-range i n clock h o short t q a (sound.exceeded fits last mark) = freed-range

  -- ---- an open download

  stays-range : (j clock : ℕ) (q : Fields) → (download_at b j).used ≡ true → (download_at b j).subscriber ≡ subscriber q
      → (t : TransactionRequest) (a : DownloadAction)
      → DownloadSound t (download_at b j) (mailbox_segments (subscriber q) b) q a
      → DownloadRange b.files (download_after a clock (download_at b j))
  stays-range j clock q u own t a (sound.delivered asked next most) = record {
    known = r.known j u;
    most = r.most j u;
    within = rw own (omega (arith, next, most));
  }
  stays-range j clock q u own t a (sound.sent_again asked some most few) =
      record { known = r.known j u; most = r.most j u; within = r.within j u }
  stays-range j clock q u own t a (sound.download_point none few) =
      record { known = r.known j u; most = r.most j u; within = r.within j u }
  stays-range j clock q u own t a (sound.cancelled none many) =
      record { known = r.known j u; most = r.most j u; within = r.within j u }
  stays-range j clock q u own t a (sound.confirmed asked all code) =
      record { known = r.known j u; most = r.most j u; within = r.within j u }
  stays-range j clock q u own t a (sound.declined asked all code) =
      record { known = r.known j u; most = r.most j u; within = r.within j u }

  -- a mailbox's file replaced where each download left is another's, or within the new one
  file-range : (s n : ℕ) → n ≤ file_bytes
      → ((i : ℕ) → (download_at b i).used ≡ true
      → (download_at b i).delivered ≤ segments_of (file_length (download_at b i).subscriber (set b.files (s - 1) n)))
      → InRange (with_files (set b.files (s - 1) n) b)
  file-range s n h f = record {
    files = λ i k. set-each (λ (x : ℕ). x ≤ file_bytes) 0 n h b.files (s - 1) i (r.files i k);
    lengths = r.lengths;
    signers = r.signers;
    few = r.few;
    below = r.below;
    largest = r.largest;
    known = r.known;
    most = r.most;
    within = f;
  }

-- "mailbox emptied, every download of that mailbox ended"
emptied-range : {b : Bank} → InRange b → (s : ℕ) → 1 ≤ s → (o m : List ℕ) → InRange (emptied s (bank_state b o m)).bank
unfolding ends file_length
emptied-range {b} r s h o m =
    file-range (ended-range r (ending.Mailbox s)) s 0 (omega arith)
    (each-end_downloads
    (λ (e : Download). e.used ≡ true
    → e.delivered ≤ segments_of (file_length e.subscriber (set b.files (s - 1) 0)))
    (λ u. never u) (ending.Mailbox s) b.downloads
    (λ k _ g u.
    let e = download_at b k in
    let apart = eqb-false e.subscriber s (not-true _ (and-true e.used (not (eqb e.subscriber s)) g).1) in
    let other = get_or-set_other b.files (s - 1) (e.subscriber - 1) 0 0 (λ x. apart (omega (arith, r.known k u))) in
    rw other (r.within k u)))

-- a file goes into an empty mailbox
pub stored-range : {b : Bank} → InRange b → (s n : ℕ) → n ≤ file_bytes → file_length s b.files ≡ 0
    → InRange (with_files (set b.files (s - 1) n) b)
unfolding file_length segments_of
stored-range {b} r s n h free = file-range r s n h (λ i u. by i u (eqb ((download_at b i).subscriber - 1) (s - 1)) refl)
  where
    by : (i : ℕ) → (download_at b i).used ≡ true → (t : Bool) → eqb ((download_at b i).subscriber - 1) (s - 1) ≡ t
        → (download_at b i).delivered ≤ segments_of (file_length (download_at b i).subscriber (set b.files (s - 1) n))
    by i u true e =
        let same = eqb-true ((download_at b i).subscriber - 1) (s - 1) e in
        omega (arith, r.within i u, ap (λ (j : ℕ). get_or b.files j 0) same, free)
    by i u false e =
        rw (get_or-set_other b.files (s - 1) ((download_at b i).subscriber - 1) n 0
        (eqb-false ((download_at b i).subscriber - 1) (s - 1) e)) (r.within i u)

-- "the subscriber becomes a signer"
signed_range : {b : Bank} → InRange b → (q : Fields) → order_at b q < place_count → InRange (sign q b)
unfolding sign
signed_range {b} r q h =
    remembered-range
    (place-range r (order_at b q) (signed_place (subscriber q) (place_at b (order_at b q)))
    (signed-place-range r (order_at b q) (subscriber q) h)) q

-- ---- every request

module _ (b : Bank) (k : Held b) (r : InRange b) (q : Fields) (o m d : List ℕ) where
  abbrev w : BankState
  w = bank_state b o m

  abbrev P : Verdict → Type 0
  P v = InRange (carry_out v w q d).bank

  opening-range : Readable q (length d) → (first : ℕ) (dir : Direction) (v : Verdict)
      → OpeningSound first b q dir v → P v
  unfolding open_upload open_download counted_upload counted
  opening-range s first dir v (sound.refused e c h) = r
  opening-range s first dir v (sound.upload acc some free below) =
      place-range (counted-upload-range r (opening_number b q) q) (free_place b) _ (record {
        size = omega arith;
        signers = omega arith;
        few = λ _. acc.few;
        below = λ _. omega (arith, some);
        largest = λ _. omega arith;
      })
  opening-range s first dir v (sound.download acc full) =
      download-range (counted-range r q) (free_download b) _ (record {
        known = s.known;
        most = s.most;
        within = some-segment (file_length (subscriber q) b.files) (omega (arith, full));
      })

  signing-range : (v : Verdict) → SigningSound b q v → P v
  signing-range v (signing.unsigned c h) = r
  signing-range v (signing.signs a) = signed_range r q a.inside

  upload-left : Readable q (length d) → (t : TransactionRequest) → upload_at b q < place_count
      → P (upload_verdict t (upload_at b q) b q)
  upload-left s t h =
      let i = upload_at b q in
      let p = place_at b i in
      subst (λ (x : BankState). InRange x.bank) (sym (upload-acts p.transaction w q d t p))
      (place-range r i _
      (upload-range r i (length d) b.clock h (upload-open b k q refl h) s.short t q _ (judged-upload t p q)))

  module _ (s : Readable q (length d)) (t : TransactionRequest) (h : download_of b q < place_count) where
    abbrev e : Download
    e = download_at b (download_of b q)

    abbrev n : ℕ
    n = mailbox_segments (subscriber q) b

    stayed : (a : DownloadAction) → DownloadSound t e n q a
        → InRange (with_download (download_of b q) (download_after a b.clock e) b)
    stayed a x =
        let found = download-open b k q refl h in
        download-range r (download_of b q) _ (stays-range r (download_of b q) b.clock q found.0 found.1 t a x)

    on-download-range : (a : DownloadAction) → DownloadSound t e n q a
        → InRange (on_download a (download_of b q) w q).bank
    on-download-range a (sound.delivered asked next most) = stayed a (sound.delivered asked next most)
    on-download-range a (sound.sent_again asked some most few) = stayed a (sound.sent_again asked some most few)
    on-download-range a (sound.download_point none few) = stayed a (sound.download_point none few)
    on-download-range a (sound.cancelled none many) = ended-range r _
    on-download-range a (sound.confirmed asked all code) = emptied-range r (subscriber q) s.known o m
    on-download-range a (sound.declined asked all code) = ended-range r _

    download-left : P (download_verdict t (download_of b q) b q)
    download-left =
        subst (λ (x : BankState). InRange x.bank) (sym (download-acts e.transaction w q d t e n))
        (on-download-range (judge_download t e n q) (judged-download e n q t))

  pub range-judged : (context : Context) → P (judge context b q (length d))
  range-judged context =
      judged-each context b q (length d) P r (λ c. r) (λ s dir v x _. opening-range s context.prefix dir v x)
      (λ _. signing-range) upload-left download-left
