-- A request to an open download keeps the invariant, whatever the verdict.
use Prim.Native.Nat.{ℕ, suc, ◌+◌, ◌-◌, ◌≤◌, ◌<◌}
use mathlib.Core.Bool.{true, false, cond}
use mathlib.Core.List.{List, [], ◌∷◌}
use mathlib.Core.Path.{◌≡◌, refl, sym, ap, ◌∙◌, subst}
use native.Mathlib.Omega.{arith}
use lib.ListN.{length, set}
use lib.Dec.{eqb, leb, ltb}
use borrow.Author.Tests.{eq-eqb, eqb-false, leb-false, lt-ltb}
use Rattle.frame_table.specs.declared.fields.Fields.{Fields}
use Rattle.frame_table.specs.Forms as forms
use Rattle.frame_table.specs.Names.{subscriber, transaction, segment, receipt_code, form}
use Rattle.message.proofs.Verdicts.{and-false}
use Rattle.frame_table.proofs.Bits.{bits-same}
use Rattle.message.specs.Segments.{segments_of, segment_of}
use Rattle.bank_state.specs.declared.clock.Ended.TheVariants as ending
use Rattle.bank_state.specs.declared.state.Download.{Download}
use Rattle.bank_state.specs.Clock.{ends}
use Rattle.bank_state.specs.Search.{is_download}
use Rattle.bank_state.specs.State.{BankState, download_at, file_length}
use Rattle.bank_state.specs.Store.{zeroed}
use Rattle.bank_verdicts.specs.declared.verdict.TransactionRequest.{TransactionRequest}
use Rattle.bank_verdicts.specs.declared.verdict.TransactionRequest.TheVariants as asks_for
use Rattle.bank_verdicts.specs.declared.verdict.DownloadAction.{DownloadAction}
use Rattle.bank_verdicts.specs.declared.verdict.DownloadAction.TheVariants as down
use Rattle.bank_verdicts.specs.declared.verdict.Action.TheVariants as action
use Rattle.bank_verdicts.specs.declared.verdict.Verdict.{Verdict}
use Rattle.bank_verdicts.specs.declared.verdict.Verdict.TheVariants as verdict
use Rattle.bank_downloads.specs.Downloads.{moved_to}
use Rattle.bank_verdicts.specs.Refusals.{fits_download, is_sent_again}
use Rattle.bank_verdicts.specs.Judgement.{mailbox_segments, download_of}
use Rattle.bank_steps.specs.Steps.{ended, carry_out}
use Rattle.bank.specs.Call.{mailbox_segment}
use Rattle.bank_admitted.specs.State.{mailbox_file, StateHolds}
use Rattle.bank_admitted.proofs.DownloadChange.{besides}
use Rattle.bank_admitted.proofs.Downloads as admitted
use Rattle.bank_history.specs.History.{Exchange, download_kind, is_delivery, times}
use Rattle.bank_history.specs.Signatures.{is_signing_form}
use Rattle.bank_history.specs.Sound.{SoundRequest, SoundDownload, SoundData, SoundReceipt, SoundDownloadAction}
use Rattle.bank_history.specs.Invariant.{Invariant}
use Rattle.bank_history.proofs.Parts.{OpenDownload}
use Rattle.bank_state.proofs.Found.{download-found}
use Rattle.bank_verdicts.proofs.Sound.{
  Readable,
  DownloadSound,
  delivered,
  sent_again,
  download_point,
  cancelled,
  confirmed,
  declined,
}
use Rattle.bank_steps.proofs.Cases.{request_form, ToDownload}
use Rattle.bank_history.proofs.Records.{download-moved}
use Rattle.bank_history.proofs.Signatures.{unsigned-form, transaction-form}
use Rattle.bank_history.proofs.Uploads.{entry, bare}
use Rattle.bank.proofs.WrittenReplies.{carried-segment}
use Rattle.bank_history.proofs.Downloads.{download-open, moved-step, ended-step}

module _ (w : BankState) (h : List Exchange) (v : Invariant w h) (q : Fields) (d : List ℕ) (readable : Readable q (length d))
    (found : is_download (subscriber q) (transaction q) (download_at w.bank (download_of w.bank q)) ≡ true)
    (other : is_signing_form (form q) ≡ false) where
  abbrev j : ℕ
  j = download_of w.bank q

  abbrev old : Download
  old = download_at w.bank j

  -- the number of segments of its mailbox
  abbrev n : ℕ
  n = mailbox_segments (subscriber q) w.bank

  is-used : old.used ≡ true
  is-used = (download-found (subscriber q) (transaction q) old found).0

  owned : old.subscriber ≡ subscriber q
  owned = (download-found (subscriber q) (transaction q) old found).1

  is_open' : OpenDownload w.bank.clock w.bank.openings h (mailbox_file w old.subscriber) old
  is_open' = download-open w h v j is-used

  -- N is the number of segments of the file
  count-now : n ≡ segments_of (length (mailbox_file w old.subscriber))
  count-now = admitted.count-now w v.state q d readable found

  -- the verdict of an action, what it leaves, and its exchange
  abbrev by : DownloadAction → Verdict
  by a = verdict.Of old.transaction (action.Download a)

  abbrev left : DownloadAction → BankState
  left a = carry_out (by a) w q d

  abbrev now : DownloadAction → Exchange
  now a = entry (by a) w q d

  sound-request : (a : DownloadAction) → SoundRequest old.transaction (now a) h
  sound-request a = record {
    same = bits-same old.transaction (transaction q) (download-found (subscriber q) (transaction q) old found).2;
    owner = is_open'.1.owner ∙ owned;
    going = is_open'.1.going;
    unbooked = is_open'.1.unbooked;
  }

  sound-download : (a : DownloadAction) → SoundDownload n old.transaction (now a) h
  sound-download a = record {
    request = sound-request a;
    opened = is_open'.1.opened;
    same = ap (mailbox_file w) (sym owned) ∙ sym is_open'.1.unchanged;
    count = count-now ∙ ap (λ (f : List ℕ). segments_of (length f)) (sym is_open'.1.unchanged);
  }

  sound-data : (a : DownloadAction) → form q ≡ forms.DownloadTransfer → 1 ≤ segment q → segment q ≤ n →
      (now a).reply_data ≡ mailbox_segment w (subscriber q) (segment q) → SoundData n old.transaction (now a) h
  sound-data a asked some within carries = record {
    download = sound-download a;
    asked = asked;
    some = some;
    within = within;
    part = carries ∙ (carried-segment w (subscriber q) (segment q) some
        ∙ ap (λ (f : List ℕ). segment_of f (segment q)) (sound-download a).same);
  }

  -- it stays open, moved by an action that neither opens nor ends it
  moves : (a : DownloadAction) → (download_kind a).opens_upload ≡ false → (download_kind a).opens_download ≡ false →
      (download_kind a).books ≡ false → (download_kind a).ends ≡ false → (m attempts last : ℕ) →
      let after = besides w.bank.clock w.bank.openings (set w.bank.downloads j (moved_to m attempts last old)) w.bank.nonces
      w.bank.files w.mailboxes w in StateHolds after →
      cond (download_kind a).delivers (suc old.delivered) old.delivered ≡ m → SoundDownloadAction a old.transaction (now a) h →
      Invariant after (now a ∷ h)
  moves a up opens books ends m attempts last state count sound =
      moved-step w h v j is-used (action.Download a) (rw (up, opens) refl) books (now a) refl (unsigned-form (now a) other)
      m attempts last state
      (download-moved (now a) h _ old (action.Download a) m attempts last refl opens (rw (up, opens) refl) books ends count is_open'.1)
      (record { reply = refl; verdict = sound })

  delivered-keeps : StateHolds (left (down.Delivered n)) → form q ≡ forms.DownloadTransfer → segment q ≡ old.delivered + 1 →
      segment q ≤ n → Invariant (left (down.Delivered n)) (now (down.Delivered n) ∷ h)
  delivered-keeps state asked next within =
      moves (down.Delivered n) refl refl refl refl (old.delivered + 1) old.attempts w.bank.clock state (omega arith)
      (record {
        carried = sound-data (down.Delivered n) asked (omega arith) within refl;
        next = let z = is_open'.1.deliveries in omega arith;
      })

  sent-again-keeps : StateHolds (left (down.SentAgain n)) → form q ≡ forms.DownloadTransfer → 0 < segment q →
      segment q ≤ old.delivered → Invariant (left (down.SentAgain n)) (now (down.SentAgain n) ∷ h)
  sent-again-keeps state asked some again =
      let within : old.delivered ≤ n = (let z = count-now in let y = is_open'.0.within in omega arith) in
      moves (down.SentAgain n) refl refl refl refl old.delivered (old.attempts + 1) old.last state refl
      (record {
        carried = sound-data (down.SentAgain n) asked (omega arith) (omega arith) refl;
        again = let z = is_open'.1.deliveries in omega arith;
      })

  -- a recovery point: no segment 1 to d + 1 up to N is asked for
  unfit : (r : TransactionRequest) → form q ≡ request_form r → fits_download r old n q ≡ false → is_sent_again r old q ≡ false →
      form q ≡ forms.DownloadTransfer → 1 ≤ segment q → segment q ≤ suc old.delivered → segment q ≤ n → ⊥
  unfit asks_for.UploadTransfer asked fits unsent e some next most = let z : ◌≡◌ {A = ℕ} 0 1 = cc in omega arith
  unfit asks_for.DownloadTransfer asked fits unsent e some next most =
      let m = segment q in
      let z = leb-false m old.delivered (and-false (ltb 0 m) (leb m old.delivered) unsent (lt-ltb 0 m some)) in
      let y = leb-false m n (and-false (eqb m (old.delivered + 1)) (leb m n) fits (eq-eqb m (old.delivered + 1) (omega arith))) in
      omega arith
  unfit asks_for.Receipt asked fits unsent e some next most = let z : ◌≡◌ {A = ℕ} 0 1 = cc in omega arith

  -- and no receipt that fits
  early : (r : TransactionRequest) → form q ≡ request_form r → fits_download r old n q ≡ false → form q ≡ forms.Receipt →
      old.delivered < n
  early asks_for.UploadTransfer asked fits e = absurd (let z : ◌≡◌ {A = ℕ} 0 1 = cc in omega arith)
  early asks_for.DownloadTransfer asked fits e = absurd (let z : ◌≡◌ {A = ℕ} 0 1 = cc in omega arith)
  early asks_for.Receipt asked fits e =
      let z = eqb-false old.delivered n fits in let c = count-now in let y = is_open'.0.within in omega arith

  point-keeps : (r : TransactionRequest) → form q ≡ request_form r → fits_download r old n q ≡ false → is_sent_again r old q ≡ false →
      let a = down.Point old.delivered in StateHolds (left a) → Invariant (left a) (now a ∷ h)
  point-keeps r asked fits unsent state =
      let told = is_open'.1.deliveries in
      let count = (sound-download (down.Point old.delivered)).count in
      moves (down.Point old.delivered) refl refl refl refl old.delivered (old.attempts + 1) old.last state refl
      (record {
        request = sound-request (down.Point old.delivered);
        opened = is_open'.1.opened;
        point = sym is_open'.1.deliveries;
        unfit = λ e some next most. unfit r asked fits unsent e some (omega arith) (omega arith);
        early = λ e. let z = early r asked fits e in omega arith;
        bare = bare w (subscriber q);
      })

  -- this transaction ends
  ends-keeps : (a : DownloadAction) → (download_kind a).opens_upload ≡ false → (download_kind a).opens_download ≡ false →
      (download_kind a).books ≡ false → StateHolds (ended q w) → SoundDownloadAction a old.transaction (now a) h →
      Invariant (ended q w) (now a ∷ h)
  unfolding mailbox_file file_length ends
  ends-keeps a up opens books state sound =
      ended-step w h v j is-used (action.Download a) (rw (up, opens) refl) books (now a) refl (unsigned-form (now a) other)
      (ending.Transaction (subscriber q) (transaction q)) w.bank.files w.mailboxes
      found (λ i a f. refl) state (record { reply = refl; verdict = sound })

  sound-receipt : (a : DownloadAction) → form q ≡ forms.Receipt → old.delivered ≡ n → (now a).reply_data ≡ [] →
      SoundReceipt old.transaction (now a) h
  sound-receipt a asked whole none = record {
    download =
        let z : n ≡ times is_delivery old.transaction h = sym whole ∙ sym is_open'.1.deliveries in
        subst (λ (m : ℕ). SoundDownload m old.transaction (now a) h) z (sound-download a);
    asked = asked;
    bare = none;
  }

  -- the mailbox is emptied and all its downloads end
  confirmed-keeps : StateHolds (left down.Confirmed) → form q ≡ forms.Receipt → old.delivered ≡ n → receipt_code q ≡ 0 →
      Invariant (left down.Confirmed) (now down.Confirmed ∷ h)
  unfolding ends
  confirmed-keeps state asked whole taken =
      ended-step w h v j is-used (action.Download down.Confirmed) refl refl (now down.Confirmed) refl
      (unsigned-form (now down.Confirmed) other) (ending.Mailbox (subscriber q))
      (set w.bank.files (subscriber q - 1) 0) (zeroed w.mailboxes (subscriber q - 1))
      (eq-eqb old.subscriber (subscriber q) owned) (admitted.others-kept w v.state q d readable found) state
      (record {
        reply = refl;
        verdict = record { receipt = sound-receipt down.Confirmed asked whole (bare w (subscriber q)); taken = taken };
      })

  download-sound-keeps : {r : TransactionRequest} {a : DownloadAction} → form q ≡ request_form r → DownloadSound r old n q a →
      StateHolds (left a) → Invariant (left a) (now a ∷ h)
  download-sound-keeps asked (delivered t next within) state = delivered-keeps state (asked ∙ ap request_form t) next within
  download-sound-keeps asked (sent_again t some again few) state = sent-again-keeps state (asked ∙ ap request_form t) some again
  download-sound-keeps {r} asked (download_point fits few) state = point-keeps r asked fits.0 fits.1 state
  download-sound-keeps asked (cancelled fits many) state = ends-keeps down.Cancelled refl refl refl state
      (record { request = sound-request down.Cancelled; cancelling = refl; bare = bare w (subscriber q) })
  download-sound-keeps asked (confirmed t whole taken) state = confirmed-keeps state (asked ∙ ap request_form t) whole taken
  download-sound-keeps asked (declined t whole other) state = ends-keeps down.Declined refl refl refl state
      (sound-receipt down.Declined (asked ∙ ap request_form t) whole (bare w (subscriber q)))

pub download-keeps : (w : BankState) (h : List Exchange) → Invariant w h → (q : Fields) (d : List ℕ) (r : TransactionRequest)
    (a : DownloadAction) → ToDownload w q d r a →
    let v = verdict.Of (download_at w.bank (download_of w.bank q)).transaction (action.Download a) in
    Invariant (carry_out v w q d) (entry v w q d ∷ h)
download-keeps w h v q d r a t =
    download-sound-keeps w h v q d t.readable t.found (ap is_signing_form t.asked ∙ transaction-form r) t.asked t.sound
    (admitted.download-keeps w v.state q d r a t)
