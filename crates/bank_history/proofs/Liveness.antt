-- The main results on transactions that stay open, for the crates above: over one call, and for the requests that fit.
use Prim.Native.Nat.{ℕ, suc, ◌+◌, ◌≤◌, ◌<◌, max}
use mathlib.Core.Bool.{false, cond}
use mathlib.Core.List.{List, ◌∷◌}
use mathlib.Core.Logic.{◌⊎◌, inl, inr}
use mathlib.Core.Path.{◌≡◌, refl, sym, ap, ◌∙◌, subst}
use native.Mathlib.Omega.{arith}
use lib.Dec.{eqb}
use lib.ListN.{length}
use Rattle.frame_table.specs.declared.fields.Bits128.{Bits128}
use Rattle.frame_table.specs.declared.fields.Fields.{Fields}
use Rattle.frame_table.specs.Forms as forms
use Rattle.octets.specs.Bytes.{number}
use Rattle.frame_table.specs.Names.{subscriber, transaction, segments, segment, last_mark, receipt_code, form}
use Rattle.frame_reader.specs.Reader.{read_request}
use Rattle.frame_row.specs.Row.{data_of}
use Rattle.message.specs.Limits.{segment_bytes}
use Rattle.message.specs.Segments.{segments_of, last_mark_of}
use Rattle.bank_state.specs.Clock.{advanced}
use Rattle.bank_state.specs.Limits.{idle_limit}
use Rattle.bank_state.specs.State.{BankState, place_at, download_at, file_length}
use Rattle.bank_verdicts.specs.declared.verdict.UploadAction.TheVariants as up
use Rattle.bank_verdicts.specs.declared.verdict.DownloadAction.{DownloadAction}
use Rattle.bank_verdicts.specs.declared.verdict.DownloadAction.TheVariants as down
use Rattle.bank_verdicts.specs.declared.verdict.Action.TheVariants as action
use Rattle.bank_verdicts.specs.declared.verdict.Verdict.{Verdict}
use Rattle.bank_verdicts.specs.declared.verdict.Verdict.TheVariants as verdict
use Rattle.bank_verdicts.specs.Judgement.{mailbox_segments, upload_at}
use Rattle.bank_signing.specs.Signings.{sign}
use Rattle.bank_openings.specs.Openings.{counted, counted_upload, open_upload, open_download}
use Rattle.bank_steps.specs.Steps.{download_acts, carry_out}
use Rattle.bank.specs.Call.{context_of, respond, FrameInput}
use Rattle.bank_history.specs.History.{Exchange, Past, BankCall, Frame, File, is_action, did, exchange_of, after, file_at_opening}
use Rattle.bank_history.specs.Invariant.{Invariant, Holds}
use Rattle.bank_admitted.proofs.Files.{filled}
use Rattle.bank_history.specs.Transactions.{Filled, UploadAt, DownloadAt, UploadUnlessIdle, DownloadUnlessIdle, answered}
use Rattle.bank_steps.proofs.Cases.{
  Happens,
  unreadable,
  refused,
  opens_upload,
  opens_download,
  signs,
  to_upload,
  to_download,
  upload-acts,
  happens,
}
use Rattle.bank_admitted.proofs.Clock.{advanced-clock}
use Rattle.bank_history.proofs.Clock.{advanced-keeps}
use Rattle.bank_admitted.proofs.Held.{file-long}
use Rattle.bank_history.proofs.Downloads.{download-open}
use Rattle.bank_history.proofs.Changes.{after_frame_lem, after-file}
use Rattle.bank_history.proofs.OpenUploads as uploads
use Rattle.bank_history.proofs.OpenDownloads as downloads
use Rattle.bank_history.proofs.UploadRequests as own
use Rattle.bank_history.proofs.DownloadRequests as own_download

-- a request does not move the clock that its call has set
download-clock : (w : BankState) (q : Fields) (t : Bits128) (a : DownloadAction) → (download_acts a t w q).bank.clock ≡ w.bank.clock
unfolding open_download counted
download-clock w q t (down.Opened n) = refl
download-clock w q t (down.Delivered n) = refl
download-clock w q t (down.SentAgain n) = refl
download-clock w q t (down.Point d) = refl
download-clock w q t down.Cancelled = refl
download-clock w q t down.Confirmed = refl
download-clock w q t down.Declined = refl

case-clock : {first : ℕ} {w : BankState} {q : Fields} {d : List ℕ} {x : Verdict} → Happens first w q d x →
    (carry_out x w q d).bank.clock ≡ w.bank.clock
unfolding open_upload counted_upload open_download counted sign
case-clock unreadable = refl
case-clock (refused c e) = refl
case-clock (signs c) = refl
case-clock (opens_upload asked a g n inside below) = refl
case-clock (opens_download asked a g n) = refl
case-clock {w = w} {q = q} (to_upload r a c) =
    ap (λ (z : BankState). z.bank.clock) (upload-acts (place_at w.bank (upload_at w.bank q)).transaction c)
case-clock {w = w} {q = q} (to_download r a c) = download-clock w q _ a

-- what is true of the past before and of each past that a call can leave is true after the call
pub by_call : (P : Past → Type 0) (c : BankCall) (p : Past) → Holds p → P p →
    ((a : FrameInput) → c ≡ Frame a → after c p ≡ answered a p →
    P (answered a p)) →
    ((mailbox : ℕ) (file : List ℕ) → c ≡ File mailbox file →
    P (record { bank_state = filled mailbox file p.bank_state; history = p.history })) → P (after c p)
by_call P (Frame a) p holds same answers files = at (after_frame_lem a p)
  where
    at : (after (Frame a) p ≡ p) ⊎ (after (Frame a) p ≡ answered a p) →
        P (after (Frame a) p)
    at (inl e) = subst P (sym e) same
    at (inr e) = subst P (sym e) (answers a refl e)
by_call P (File mailbox file) p holds same answers files = at (after-file mailbox file p holds)
  where
    at : (after (File mailbox file) p ≡ p)
        ⊎ ((after (File mailbox file) p ≡ record { bank_state = filled mailbox file p.bank_state; history = p.history }) × Filled p.bank_state
        (filled mailbox file p.bank_state) mailbox file) →
        P (after (File mailbox file) p)
    at (inl e) = subst P (sym e) same
    at (inr e) = subst P (sym e.0) (files mailbox file refl)

-- an answered frame: the bank as the request is judged, the exchange, the invariant, the case
module _ (a : FrameInput) (p : Past) (holds : Holds p) where
  abbrev pub judged : BankState
  judged = advanced a.time p.bank_state

  abbrev pub newest : Exchange
  newest = exchange_of (context_of a) judged (read_request a.frame) (data_of a.frame)

  judged-holds : Invariant judged p.history
  judged-holds = advanced-keeps a.time p.bank_state p.history holds.invariant

  the-case : Happens (number a.ids) judged (read_request a.frame) (data_of a.frame) newest.verdict
  unfolding exchange_of respond
  the-case = happens (context_of a) judged (read_request a.frame) (data_of a.frame)
      judged-holds.state.sizes.places
      judged-holds.state.sizes.downloads

  pub answered-clock : (answered a p).bank_state.bank.clock ≡ max p.bank_state.bank.clock a.time
  unfolding exchange_of respond
  answered-clock = case-clock the-case ∙ advanced-clock a.time p.bank_state

  -- ---- the requests of an upload that fit

  -- its opening
  pub upload-opens : (t : Bits128) (m : ℕ) → newest.verdict ≡ verdict.Of t (action.Upload (up.Opened m)) →
      UploadAt (answered a p).bank_state t (subscriber (read_request a.frame)) 0 (segments (read_request a.frame))
      (max p.bank_state.bank.clock a.time)
  unfolding exchange_of respond
  upload-opens t m e = subst (UploadAt (answered a p).bank_state t (subscriber (read_request a.frame)) 0
      (segments (read_request a.frame))) (advanced-clock a.time p.bank_state)
      (own.opened-open (number a.ids) judged p.history judged-holds (read_request a.frame)
      (data_of a.frame) t m the-case e)

  -- its next segment, within the idle hour
  module _ (t : Bits128) (s k n last : ℕ) (before : UploadUnlessIdle p.bank_state t s k n last)
      (asked : form (read_request a.frame) ≡ forms.UploadTransfer)
      (from : subscriber (read_request a.frame) ≡ s) (to : transaction (read_request a.frame) ≡ t)
      (next : segment (read_request a.frame) ≡ suc k)
      (mark : last_mark (read_request a.frame) ≡ last_mark_of (segment (read_request a.frame)) n)
      (short : length (data_of a.frame) ≤ segment_bytes)
      (not_idle : max p.bank_state.bank.clock a.time ≤ last + idle_limit) where
    there : UploadAt judged t s k n last
    there = uploads.advanced-open t s k n last a.time p.bank_state holds.invariant.state.sizes before
        (let c = advanced-clock a.time p.bank_state in omega arith)

    pub upload-current : last ≤ max p.bank_state.bank.clock a.time
    upload-current =
        let u = there in
        let m = (own.upload-is-open judged p.history judged-holds t s k n last u).0.current in
        let b = u.fitting in
        let c = advanced-clock a.time p.bank_state in omega arith

    pub upload-takes : newest.verdict ≡ verdict.Of t (action.Upload (cond (eqb (k + 1) n) up.TookLast up.Took))
    unfolding exchange_of respond
    upload-takes =
        own.own-verdict (context_of a) judged p.history judged-holds t s k n last there (read_request a.frame)
        (data_of a.frame)
        asked from to next mark short

    pub upload-goes-on : suc k < n →
        UploadAt (answered a p).bank_state t s (suc k) n (max p.bank_state.bank.clock a.time)
    upload-goes-on below =
        subst (UploadAt (answered a p).bank_state t s (suc k) n) (advanced-clock a.time p.bank_state)
        (own.own_open (context_of a) judged p.history judged-holds t s k n last there (read_request a.frame)
        (data_of a.frame) asked from to
        next mark short below)

  -- ---- the requests of a download that fit

  pub download-opens : (t : Bits128) (n : ℕ) → newest.verdict ≡ verdict.Of t (action.Download (down.Opened n)) →
      DownloadAt (answered a p).bank_state t (subscriber (read_request a.frame)) 1
      (max p.bank_state.bank.clock a.time)
  unfolding exchange_of respond
  download-opens t n e = subst (DownloadAt (answered a p).bank_state t (subscriber (read_request a.frame)) 1)
      (advanced-clock a.time p.bank_state)
      (own_download.opened-open (number a.ids) judged p.history judged-holds (read_request a.frame)
      (data_of a.frame) t n the-case e)

  module _ (t : Bits128) (s d last : ℕ) (before : DownloadUnlessIdle p.bank_state t s d last)
      (from : subscriber (read_request a.frame) ≡ s)
      (to : transaction (read_request a.frame) ≡ t) (short : length (data_of a.frame) ≤ segment_bytes)
      (not_idle : max p.bank_state.bank.clock a.time ≤ last + idle_limit) where
    there-download : DownloadAt judged t s d last
    there-download =
        downloads.advanced-open t s d last a.time p.bank_state holds.invariant.state.sizes.downloads before
        (let c = advanced-clock a.time p.bank_state in omega arith)

    pub download-current : last ≤ max p.bank_state.bank.clock a.time
    download-current =
        let u = there-download in
        let m = (download-open judged p.history judged-holds u.row u.used).0.current in
        let b = u.fitting in
        let c = advanced-clock a.time p.bank_state in omega arith

    -- N is still that of the file at its opening
    pub download-segments : mailbox_segments (subscriber (read_request a.frame)) judged.bank
        ≡ segments_of (length (file_at_opening t p.history))
    download-segments =
        let u = there-download in
        let o = download-open judged p.history judged-holds u.row u.used in
        let own : subscriber (read_request a.frame) ≡ (download_at judged.bank u.row).subscriber =
        from ∙ sym u.subscriber in
        ap (λ (m : ℕ). segments_of (file_length m judged.bank.files)) own
        ∙ ap segments_of (sym (file-long judged judged-holds.state _ o.0.known o.0.most))
        ∙ ap (λ (f : List ℕ). segments_of (length f)) (sym o.1.unchanged)
        ∙ ap (λ (i : Bits128). segments_of (length (file_at_opening i p.history))) u.transaction

    -- its next segment
    module _ (asked : form (read_request a.frame) ≡ forms.DownloadTransfer)
        (next : segment (read_request a.frame) ≡ suc d)
        (within : segment (read_request a.frame) ≤ mailbox_segments (subscriber (read_request a.frame))
        judged.bank) where
      pub download-delivers : newest.verdict
          ≡ verdict.Of t
          (action.Download (down.Delivered (mailbox_segments (subscriber (read_request a.frame)) judged.bank)))
      unfolding exchange_of respond
      download-delivers =
          own_download.deliver-verdict (context_of a) judged p.history judged-holds t s d last there-download
          (read_request a.frame)
          (data_of a.frame) from to short asked next within

      pub download-goes-on : DownloadAt (answered a p).bank_state t s (suc d)
          (max p.bank_state.bank.clock a.time)
      download-goes-on =
          subst (DownloadAt (answered a p).bank_state t s (suc d)) (advanced-clock a.time p.bank_state)
          (own_download.deliver-open (context_of a) judged p.history judged-holds t s d last there-download
          (read_request a.frame)
          (data_of a.frame) from to short asked next within)

    -- its receipt
    pub download-confirms : form (read_request a.frame) ≡ forms.Receipt →
        d ≡ mailbox_segments (subscriber (read_request a.frame)) judged.bank →
        receipt_code (read_request a.frame) ≡ 0 →
        newest.verdict ≡ verdict.Of t (action.Download down.Confirmed)
    unfolding exchange_of respond
    download-confirms =
        own_download.receipt-verdict (context_of a) judged p.history judged-holds t s d last there-download
        (read_request a.frame) (data_of a.frame) from to short

-- ---- whatever comes from elsewhere

-- an upload stays, unless the call's request is to it
pub upload-stays : (t : Bits128) (s k n last : ℕ) (c : BankCall) (p : Past) → Holds p → UploadUnlessIdle p.bank_state t s k n last →
    ((e : Exchange) → (after c p).history ≡ e ∷ p.history → did is_action t e.verdict ≡ false) →
    UploadUnlessIdle (after c p).bank_state t s k n last
unfolding exchange_of respond
upload-stays t s k n last c p holds before no_action =
    by_call (λ (r : Past). UploadUnlessIdle r.bank_state t s k n last) c p holds before frames
    (λ m f e h. uploads.upload-moved (before h) refl)
  where
    frames : (a : FrameInput) → c ≡ Frame a → after c p ≡ answered a p →
        UploadUnlessIdle (answered a p).bank_state t s k n last
    frames a e z h =
        uploads.case_open t s k n last (advanced a.time p.bank_state) p.history (judged-holds a p holds)
        (uploads.advanced-open t s k n last a.time p.bank_state holds.invariant.state.sizes before
        (let m = case-clock (the-case a p holds) in omega arith))
        (number a.ids) (read_request a.frame) (data_of a.frame) (the-case a p holds)
        (no_action (newest a p holds) (ap (λ (r : Past). r.history) z))

-- a download stays, unless the call's request is to it or is a receipt of its subscriber answered 011000
pub download-stays : (t : Bits128) (s d last : ℕ) (c : BankCall) (p : Past) → Holds p → DownloadUnlessIdle p.bank_state t s d last →
    ((e : Exchange) → (after c p).history ≡ e ∷ p.history → did is_action t e.verdict ≡ false) →
    ((e : Exchange) (id : Bits128) → (after c p).history ≡ e ∷ p.history →
    e.verdict ≡ verdict.Of id (action.Download down.Confirmed) → subscriber e.request ≡ s → ⊥) →
    DownloadUnlessIdle (after c p).bank_state t s d last
unfolding exchange_of respond
download-stays t s d last c p holds before no_action kept =
    by_call (λ (r : Past). DownloadUnlessIdle r.bank_state t s d last) c p holds before frames
    (λ m f e h. let u = before h in downloads.record-moved u u.row u.inside refl)
  where
    frames : (a : FrameInput) → c ≡ Frame a → after c p ≡ answered a p →
        DownloadUnlessIdle (answered a p).bank_state t s d last
    frames a e z h =
        downloads.case_open t s d last (advanced a.time p.bank_state) p.history (judged-holds a p holds)
        (downloads.advanced-open t s d last a.time p.bank_state holds.invariant.state.sizes.downloads before
        (let m = case-clock (the-case a p holds) in omega arith))
        (number a.ids) (read_request a.frame) (data_of a.frame) (the-case a p holds)
        (no_action (newest a p holds) (ap (λ (r : Past). r.history) z))
        (λ id. kept (newest a p holds) id (ap (λ (r : Past). r.history) z))

-- the clock never goes back
pub clock-grows : (c : BankCall) (p : Past) → Holds p → p.bank_state.bank.clock ≤ (after c p).bank_state.bank.clock
clock-grows c p holds =
    by_call (λ (r : Past). p.bank_state.bank.clock ≤ r.bank_state.bank.clock) c p holds (omega arith)
    (λ a e z. let m = answered-clock a p holds in omega arith) (λ m f e. omega arith)
