-- The verdicts on a request, each with the facts that led to it. Assumes nothing.
use Prim.Native.Nat.{ℕ, ◌+◌, ◌<◌, ◌≤◌}
use mathlib.Core.Bool.{Bool, true, false, not, ◌&&◌, ◌||◌}
use mathlib.Core.List.{List, []}
use mathlib.Core.Path.{◌≡◌, refl, sym, ◌∙◌}
use lib.Dec.{ltb, leb, eqb}
use borrow.Author.Tests.{
  eqb-true,
  eqb-false,
  ltb-true,
  ltb-false,
  leb-true,
  leb-false,
  not-true,
  not-false,
  lt-ltb,
  eq-eqb,
}
use Rattle.frame_table.specs.declared.fields.Fields.{Fields}
use Rattle.frame_table.specs.Names.{
  subscriber,
  order_type,
  nonce,
  timestamp,
  segments,
  segment,
  last_mark,
  receipt_code,
  order_number,
  form,
}
use Rattle.frame_table.specs.Table.{is_request_form}
use Rattle.octets.proofs.Tests.{never, and-true, or-neither}
use Rattle.message.specs.declared.codes.ReturnCode.{ReturnCode}
use Rattle.message.specs.declared.codes.ReturnCode.TheVariants as code
use Rattle.message.specs.Limits.{fdl, subscribers, segment_bytes, max_segments, max_attempts}
use Rattle.message.specs.declared.editions.Edition.{Edition}
use Rattle.message.specs.declared.editions.Edition.TheVariants as edition
use Rattle.message.specs.Editions.{edition_of}
use Rattle.message.specs.OrderNumbers.{is_order_number}
use Rattle.message.proofs.OrderNumbers.{said-number}
use Rattle.message.proofs.Verdicts.{by-test, and-false}
use Rattle.bank_state.specs.State.{Bank}
use Rattle.bank_state.specs.declared.state.Download.{Download}
use Rattle.bank_state.specs.declared.state.Place.{Place}
use Rattle.bank_state.specs.Limits.{place_count, nonce_count, window, max_open, max_open_per_subscriber}
use Rattle.bank_state.specs.Limits.{max_openings, series_limit}
use Rattle.bank_state.specs.Search.{free_place, free_nonce, open_count, open_count_of, is_remembered}
use Rattle.bank_state.specs.Numbers.{next_number}
use Rattle.bank_state.specs.State.{file_length}
use Rattle.bank_verdicts.specs.declared.verdict.Context.{Context}
use Rattle.message.specs.declared.directions.Direction.{Direction}
use Rattle.message.specs.declared.directions.Direction.TheVariants as direction
use Rattle.bank_verdicts.specs.declared.verdict.TransactionRequest.{TransactionRequest}
use Rattle.bank_verdicts.specs.declared.verdict.TransactionRequest.TheVariants as asked
use Rattle.bank_verdicts.specs.declared.verdict.UploadAction.{UploadAction}
use Rattle.bank_verdicts.specs.declared.verdict.UploadAction.TheVariants as up
use Rattle.bank_verdicts.specs.declared.verdict.DownloadAction.{DownloadAction}
use Rattle.bank_verdicts.specs.declared.verdict.DownloadAction.TheVariants as down
use Rattle.bank_verdicts.specs.declared.verdict.Verdict.{Verdict}
use Rattle.bank_verdicts.specs.declared.verdict.Verdict.TheVariants.{Unreadable, Refused, Of, Signed}
use Rattle.bank_verdicts.specs.Refusals.{Row, cancels, no_subscriber, long_data, request_rows, bad_number, no_order_number, many_segments, in_time, is_replay, is_held, many_open, no_place_free, numbering_ended, series_ended, is_full, no_share, opening_rows, not_open, transaction_rows, fits_upload, upload_attempt, is_underrun, is_exceeded, segment_rows, upload_rows, fits_download, is_sent_again, download_attempt, is_receipt, receipt_rows, download_rows}
use Rattle.bank_verdicts.specs.Judgement.{judged, number_by, opening_number, accepted, judge_opening, takes, judge_upload, judge_download}
use Rattle.bank_verdicts.proofs.Lines.{Fail, end, line, judged-by, each-such}

-- ---- every request, with n bytes of data

-- a request that no line for every request refuses
pub record Readable (q : Fields) (n : ℕ) : Type 0 where
  pub request : is_request_form (form q) ≡ true
  pub known : 1 ≤ subscriber q
  pub most : subscriber q ≤ subscribers
  pub short : n ≤ segment_bytes

pub judged-request : (P : Verdict → Type 0) (q : Fields) (n : ℕ) (v : Verdict) →
    (is_request_form (form q) ≡ false → P Unreadable) → ((c : ReturnCode) → cancels c ≡ false → P (Refused c)) →
    (Readable q n → P v) → P (judged (request_rows q n) v)
unfolding request_rows no_subscriber long_data
judged-request P q n v unreadable refuses readable =
    judged-by P (request_rows q n) v
    (line (λ h _. unreadable (not-true (is_request_form (form q)) h))
    (line (λ _ _. refuses code.UserUnknown refl)
    (line (λ _ _. refuses code.SegmentSizeExceeded refl)
    end)))
    (λ failed.
    let bounds = or-neither (ltb (subscriber q) 1) (ltb subscribers (subscriber q)) (failed code.UserUnknown) in
    readable (record {
      request = not-false (is_request_form (form q)) (failed code.InvalidXml);
      known = ltb-false (subscriber q) 1 bounds.0;
      most = ltb-false subscribers (subscriber q) bounds.1;
      short = ltb-false segment_bytes n (failed code.SegmentSizeExceeded);
    }))

-- ---- an opening

pub record Acceptable (b : Bank) (q : Fields) : Type 0 where
  pub few : segments q ≤ max_segments
  pub timely : leb b.clock (timestamp q + window) ≡ true
  pub ahead : timestamp q ≤ b.clock + window
  pub unseen : is_remembered (nonce q) b ≡ false
  pub of_subscriber : open_count_of (subscriber q) b < max_open_per_subscriber
  pub of_all : open_count b < max_open
  pub memory : free_nonce b < nonce_count
  pub numbers : b.openings < max_openings

-- an upload's number is one of A000 to ZZZZ; where its opening brings it, it is spelled so there and not held
pub record Numbered (b : Bank) (q : Fields) : Type 0 where
  pub below : opening_number b q < series_limit
  pub spelled : no_order_number q ≡ false
  pub unheld : is_held b q ≡ false

pub data OpeningSound (first : ℕ) (b : Bank) (q : Fields) : Direction → Verdict → Type 0 where
  refused : (d : Direction) (c : ReturnCode) → cancels c ≡ false → OpeningSound first b q d (Refused c)
  upload : Acceptable b q → (segments q ≡ 0 → ⊥) → free_place b < place_count →
      Numbered b q → OpeningSound first b q direction.Upload (accepted direction.Upload first b q)
  download : Acceptable b q → (file_length (subscriber q) b.files ≡ 0 → ⊥) →
      OpeningSound first b q direction.Download (accepted direction.Download first b q)

-- a refusal that cancels nothing
abbrev pub is_harmless : Verdict → Bool
is_harmless Unreadable = false
is_harmless (Refused c) = not (cancels c)
is_harmless (Of t a) = false
is_harmless (Signed n added) = false

module _ (b : Bank) (q : Fields) where
  in-time : in_time (timestamp q) b.clock ≡ true →
      (leb (timestamp q) (b.clock + window) ≡ true) × (leb b.clock (timestamp q + window) ≡ true)
  unfolding in_time
  in-time h = and-true (leb (timestamp q) (b.clock + window)) (leb b.clock (timestamp q + window)) h

  -- what line 091103 lets pass is in time, and its nonce is not remembered
  pub no-replay : is_replay b q ≡ false →
      (leb (timestamp q) (b.clock + window) ≡ true) × (leb b.clock (timestamp q + window) ≡ true) ×
      (is_remembered (nonce q) b ≡ false)
  unfolding is_replay
  no-replay h =
      let replay = or-neither (not (in_time (timestamp q) b.clock)) (is_remembered (nonce q) b) h in
      let time = in-time (not-false (in_time (timestamp q) b.clock) replay.0) in
      (time.0, time.1, replay.1)

  number-below : (e : Edition) → bad_number e q ≡ false → numbering_ended e b q ≡ false → number_by e b q < series_limit
  number-below edition.V24 good left = (said-number (order_number q) (not-false (is_order_number (order_number q)) good)).0
  number-below edition.V25 good left = leb-false series_limit (next_number (subscriber q) b) left

  numbered : no_order_number q ≡ false → is_held b q ≡ false → series_ended direction.Upload b q ≡ false → Numbered b q
  unfolding opening_number
  numbered good free left =
      record { below = number-below (edition_of q) good left; spelled = good; unheld = free }

module _ (x : Context) (b : Bank) (q : Fields) where
  abbrev first : ℕ
  first = x.prefix

  harmless : (d : Direction) (v : Verdict) → is_harmless v ≡ true → OpeningSound first b q d v
  harmless d Unreadable h = never h
  harmless d (Refused c) h = refused d c (not-true (cancels c) h)
  harmless d (Of t a) h = never h
  harmless d (Signed n added) h = never h

  pub place-and-numbers : (d : Direction) → is_full d b q ≡ false →
      (leb max_open (open_count b) ≡ false) × (no_place_free d b ≡ false) × (leb nonce_count (free_nonce b) ≡ false) ×
      (series_ended d b q ≡ false) × (leb max_openings b.openings ≡ false)
  unfolding is_full
  place-and-numbers d h =
      let a = or-neither (leb max_open (open_count b)) _ h in
      let p = or-neither (no_place_free d b) _ a.1 in
      let m = or-neither (leb nonce_count (free_nonce b)) _ p.1 in
      let n = or-neither (series_ended d b q) (leb max_openings b.openings) m.1 in
      (a.0, p.0, m.0, n.0, n.1)

  acceptable : (d : Direction) → Fail (opening_rows d x.others b q) → Acceptable b q
  unfolding opening_rows many_segments many_open
  acceptable d failed =
      let fresh = no-replay b q (failed code.MessageReplay) in
      let room = place-and-numbers d (or-neither (is_full d b q) (no_share x.others b) (failed code.InternalError)).0 in
      record {
        few = ltb-false max_segments (segments q) (failed code.MaxSegmentsExceeded);
        timely = fresh.1;
        ahead = leb-true (timestamp q) (b.clock + window) fresh.0;
        unseen = fresh.2;
        of_subscriber = leb-false max_open_per_subscriber (open_count_of (subscriber q) b) (failed code.MaxTransactionsExceeded);
        of_all = leb-false max_open (open_count b) room.0;
        memory = leb-false nonce_count (free_nonce b) room.2;
        numbers = leb-false max_openings b.openings room.4;
      }

  accepting : (d : Direction) → Fail (opening_rows d x.others b q) → OpeningSound first b q d (accepted d first b q)
  unfolding opening_rows
  accepting direction.Upload failed =
      let kind = or-neither (eqb (order_type q) fdl) (eqb (segments q) 0 || no_order_number q) (failed code.InvalidRequest) in
      let brought = or-neither (eqb (segments q) 0) (no_order_number q) kind.1 in
      let room = place-and-numbers direction.Upload (or-neither (is_full direction.Upload b q) (no_share x.others b) (failed code.InternalError)).0 in
      upload (acceptable direction.Upload failed) (eqb-false (segments q) 0 brought.0)
      (leb-false place_count (free_place b) room.1)
      (numbered b q brought.1 (failed code.OrderIdAlreadyExists) room.3)
  accepting direction.Download failed =
      download (acceptable direction.Download failed)
      (eqb-false (file_length (subscriber q) b.files) 0 (failed code.NoDownloadDataAvailable))

  pub judged-opening : (d : Direction) → OpeningSound first b q d (judge_opening d x b q)
  unfolding judge_opening opening_rows
  judged-opening d =
      let rows : List (Row Verdict) = opening_rows d x.others b q in
      judged-by P rows (accepted d first b q) (each-such P is_harmless (harmless d) [] rows refl) (accepting d)
    where
      P : Verdict → Type 0
      P v = OpeningSound first b q d v

-- ---- a request to a transaction

pub judged-transaction : (P : Verdict → Type 0) (b : Bank) (q : Fields) (v : Verdict) →
    P (Refused code.UnknownTransaction) → (not_open b q ≡ false → P v) → P (judged (transaction_rows b q) v)
unfolding transaction_rows
judged-transaction P b q v refuses found =
    judged-by P (transaction_rows b q) v (line (λ _ _. refuses) end) (λ failed. found (failed code.UnknownTransaction))

-- ---- a request to the open upload in the place p

-- "only segment k + 1 fits"
pub record UploadFits (r : TransactionRequest) (p : Place) (q : Fields) : Type 0 where
  pub transfer : r ≡ asked.UploadTransfer
  pub next : segment q ≡ p.taken + 1

-- a segment with the right last mark is taken; 061101 to the first five attempts; the codes that cancel
pub data UploadSound (r : TransactionRequest) (p : Place) (q : Fields) : UploadAction → Type 0 where
  took : UploadFits r p q → (segment q ≡ p.segments → ⊥) → (segment q < p.segments → last_mark q ≡ 1 → ⊥) →
      UploadSound r p q up.Took
  took_last : UploadFits r p q → segment q ≡ p.segments → (last_mark q ≡ 0 → ⊥) → UploadSound r p q up.TookLast
  upload_point : fits_upload r p q ≡ false → p.attempts < max_attempts → UploadSound r p q (up.Point p.taken)
  abort : fits_upload r p q ≡ false → max_attempts ≤ p.attempts → UploadSound r p q (up.Cancelled code.TransactionAbort)
  underrun : UploadFits r p q → segment q < p.segments → last_mark q ≡ 1 →
      UploadSound r p q (up.Cancelled code.SegmentNumberUnderrun)
  exceeded : UploadFits r p q → segment q ≡ p.segments → last_mark q ≡ 0 →
      UploadSound r p q (up.Cancelled code.SegmentNumberExceeded)

pub upload-fits : (r : TransactionRequest) (p : Place) (q : Fields) → fits_upload r p q ≡ true → UploadFits r p q
upload-fits asked.UploadTransfer p q h = record { transfer = refl; next = eqb-true (segment q) (p.taken + 1) h }
upload-fits asked.DownloadTransfer p q h = never h
upload-fits asked.Receipt p q h = never h

module _ (r : TransactionRequest) (p : Place) (q : Fields) where
  abbrev P : UploadAction → Type 0
  P a = UploadSound r p q a

  attempt : upload_attempt r p q ≡ true → P (up.Point p.taken)
  unfolding upload_attempt
  attempt h =
      let a = and-true (not (fits_upload r p q)) (ltb p.attempts max_attempts) h in
      upload_point (not-true (fits_upload r p q) a.0) (ltb-true p.attempts max_attempts a.1)

  sixth : not (fits_upload r p q) ≡ true → upload_attempt r p q ≡ false → P (up.Cancelled code.TransactionAbort)
  unfolding upload_attempt
  sixth h e =
      abort (not-true (fits_upload r p q) h)
      (ltb-false p.attempts max_attempts (and-false (not (fits_upload r p q)) (ltb p.attempts max_attempts) e h))

  fitting : not (fits_upload r p q) ≡ false → UploadFits r p q
  fitting h = upload-fits r p q (not-false (fits_upload r p q) h)

  early : UploadFits r p q → is_underrun p q ≡ true → P (up.Cancelled code.SegmentNumberUnderrun)
  unfolding is_underrun
  early fits h =
      let a = and-true (ltb (segment q) p.segments) (eqb (last_mark q) 1) h in
      underrun fits (ltb-true (segment q) p.segments a.0) (eqb-true (last_mark q) 1 a.1)

  missing : UploadFits r p q → is_exceeded p q ≡ true → P (up.Cancelled code.SegmentNumberExceeded)
  unfolding is_exceeded
  missing fits h =
      let a = and-true (eqb (segment q) p.segments) (eqb (last_mark q) 0) h in
      exceeded fits (eqb-true (segment q) p.segments a.0) (eqb-true (last_mark q) 0 a.1)

  not-early : is_underrun p q ≡ false → segment q < p.segments → last_mark q ≡ 1 → ⊥
  unfolding is_underrun
  not-early e h =
      eqb-false (last_mark q) 1 (and-false (ltb (segment q) p.segments) (eqb (last_mark q) 1) e (lt-ltb _ _ h))

  not-missing : is_exceeded p q ≡ false → segment q ≡ p.segments → last_mark q ≡ 0 → ⊥
  unfolding is_exceeded
  not-missing e h =
      eqb-false (last_mark q) 0 (and-false (eqb (segment q) p.segments) (eqb (last_mark q) 0) e (eq-eqb _ _ h))

  taken : Fail (upload_rows r p q) → P (takes p)
  unfolding upload_rows segment_rows takes
  taken failed =
      let fits = fitting (failed code.TransactionAbort) in
      by-test P (eqb (p.taken + 1) p.segments)
      (λ h. let last = fits.next ∙ eqb-true (p.taken + 1) p.segments h in
      took_last fits last (not-missing (failed code.SegmentNumberExceeded) last))
      (λ h. took fits (λ e. eqb-false (p.taken + 1) p.segments h (sym fits.next ∙ e))
      (not-early (failed code.SegmentNumberUnderrun)))

  pub judged-upload : UploadSound r p q (judge_upload r p q)
  unfolding judge_upload upload_rows segment_rows
  judged-upload =
      judged-by P (upload_rows r p q) (takes p)
      (line (λ h _. attempt h)
      (line (λ h above. sixth h (above code.RecoverySync))
      (line (λ h above. early (fitting (above code.TransactionAbort)) h)
      (line (λ h above. missing (fitting (above code.TransactionAbort)) h)
      end))))
      taken

-- ---- a request to the open download e of n segments

pub data DownloadSound (r : TransactionRequest) (e : Download) (n : ℕ) (q : Fields) : DownloadAction → Type 0 where
  delivered : r ≡ asked.DownloadTransfer → segment q ≡ e.delivered + 1 → segment q ≤ n →
      DownloadSound r e n q (down.Delivered n)
  sent_again : r ≡ asked.DownloadTransfer → 0 < segment q → segment q ≤ e.delivered → e.attempts < max_attempts →
      DownloadSound r e n q (down.SentAgain n)
  download_point : (fits_download r e n q ≡ false) × (is_sent_again r e q ≡ false) → e.attempts < max_attempts →
      DownloadSound r e n q (down.Point e.delivered)
  cancelled : fits_download r e n q ≡ false → max_attempts ≤ e.attempts → DownloadSound r e n q down.Cancelled
  confirmed : r ≡ asked.Receipt → e.delivered ≡ n → receipt_code q ≡ 0 → DownloadSound r e n q down.Confirmed
  declined : r ≡ asked.Receipt → e.delivered ≡ n → (receipt_code q ≡ 0 → ⊥) → DownloadSound r e n q down.Declined

module _ (e : Download) (n : ℕ) (q : Fields) where
  next_fits : (r : TransactionRequest) → not (fits_download r e n q) ≡ false → is_receipt r ≡ false →
      DownloadSound r e n q (down.Delivered n)
  next_fits asked.UploadTransfer h k = never (sym h)
  next_fits asked.DownloadTransfer h k =
      let a = and-true (eqb (segment q) (e.delivered + 1)) (leb (segment q) n) (not-false _ h) in
      delivered refl (eqb-true (segment q) (e.delivered + 1) a.0) (leb-true (segment q) n a.1)
  next_fits asked.Receipt h k = never (sym k)

  receipt-fits : (r : TransactionRequest) → not (fits_download r e n q) ≡ false → is_receipt r ≡ true →
      (r ≡ asked.Receipt) × (e.delivered ≡ n)
  receipt-fits asked.UploadTransfer h k = never k
  receipt-fits asked.DownloadTransfer h k = never k
  receipt-fits asked.Receipt h k = (refl, eqb-true e.delivered n (not-false _ h))

  again : (r : TransactionRequest) → is_sent_again r e q ≡ true → e.attempts < max_attempts →
      DownloadSound r e n q (down.SentAgain n)
  again asked.UploadTransfer h few = never h
  again asked.DownloadTransfer h few =
      let a = and-true (ltb 0 (segment q)) (leb (segment q) e.delivered) h in
      sent_again refl (ltb-true 0 (segment q) a.0) (leb-true (segment q) e.delivered a.1) few
  again asked.Receipt h few = never h

  module _ (r : TransactionRequest) where
    -- an attempt that is answered is one of the first five
    attempted : download_attempt r e n q ≡ true → (fits_download r e n q ≡ false) × (e.attempts < max_attempts)
    unfolding download_attempt
    attempted h =
        let a = and-true (not (fits_download r e n q)) (ltb e.attempts max_attempts) h in
        (not-true (fits_download r e n q) a.0, ltb-true e.attempts max_attempts a.1)

    neither : (t s : Bool) → t && not s ≡ false → t && s ≡ false → t ≡ false
    neither true true h k = k
    neither true false h k = h
    neither false s h k = refl

    last-attempt : not (fits_download r e n q) ≡ true → download_attempt r e n q ≡ false →
        DownloadSound r e n q down.Cancelled
    unfolding download_attempt
    last-attempt h k =
        let many = and-false (not (fits_download r e n q)) (ltb e.attempts max_attempts) k h in
        cancelled (not-true (fits_download r e n q) h) (ltb-false e.attempts max_attempts many)

    pub judged-download : DownloadSound r e n q (judge_download r e n q)
    unfolding judge_download download_rows receipt_rows
    judged-download =
        judged-by (λ (a : DownloadAction). DownloadSound r e n q a) (download_rows r e n q) (down.Delivered n)
        (line (λ h _.
        let b = and-true (download_attempt r e n q) (not (is_sent_again r e q)) h in
        let a = attempted b.0 in
        download_point (a.0, not-true (is_sent_again r e q) b.1) a.1)
        (line (λ h _.
        let a = and-true (download_attempt r e n q) (is_sent_again r e q) h in
        again r a.1 (attempted a.0).1)
        (line (λ h above.
        let many = neither (download_attempt r e n q) (is_sent_again r e q) (above code.RecoverySync) (above code.Ok) in
        last-attempt h many)
        (line (λ h above.
        let a = and-true (is_receipt r) (eqb (receipt_code q) 0) h in
        let k = receipt-fits r (above code.TransactionAbort) a.0 in
        confirmed k.0 k.1 (eqb-true (receipt_code q) 0 a.1))
        (line (λ h above.
        let k = receipt-fits r (above code.TransactionAbort) h in
        let other = and-false (is_receipt r) (eqb (receipt_code q) 0) (above code.DownloadPostprocessDone) h in
        declined k.0 k.1 (eqb-false (receipt_code q) 0 other))
        end)))))
        (λ failed. next_fits r (failed code.TransactionAbort) (failed code.DownloadPostprocessSkipped))
