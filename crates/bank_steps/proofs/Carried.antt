-- What a verdict on a request leaves alone, and what it does where its transaction is open. Assumes nothing.
use Prim.Native.Nat.{ℕ, ◌<◌, ◌≤◌}
use mathlib.Core.Bool.{Bool, false}
use mathlib.Core.List.{List}
use mathlib.Core.Path.{◌≡◌, refl, sym, ap, ◌∙◌}
use Rattle.std.proofs.Common.{◌≢◌}
use native.Mathlib.Omega.{arith}
use borrow.Author.Tests.{lt-ltb, le-ltb, lt-leb, le-leb}
use Rattle.frame_table.specs.declared.fields.Bits128.{Bits128}
use Rattle.frame_table.specs.declared.fields.Fields.{Fields}
use Rattle.frame_table.specs.Names.{subscriber}
use Rattle.octets.proofs.Tests.{never}
use Rattle.message.specs.declared.codes.ReturnCode.TheVariants as code
use Rattle.bank_state.specs.State.{Bank}
use Rattle.bank_state.specs.declared.state.Download.{Download}
use Rattle.bank_state.specs.declared.state.Place.{Place}
use Rattle.bank_state.specs.Limits.{place_count}
use Rattle.bank_state.specs.State.{BankState, bank_state, place_at, download_at, with_place}
use Rattle.bank_state.specs.Store.{part_at, with_part}
use Rattle.bank_verdicts.specs.declared.verdict.Context.{Context}
use Rattle.bank_verdicts.specs.declared.verdict.Action.{Action}
use Rattle.bank_verdicts.specs.declared.verdict.Action.TheVariants as action
use Rattle.message.specs.declared.directions.Direction.{Direction}
use Rattle.message.specs.declared.directions.Direction.TheVariants as direction
use Rattle.bank_verdicts.specs.declared.verdict.DownloadAction.{DownloadAction}
use Rattle.bank_verdicts.specs.declared.verdict.DownloadAction.TheVariants as down
use Rattle.bank_verdicts.specs.declared.verdict.TransactionRequest.{TransactionRequest}
use Rattle.bank_verdicts.specs.declared.verdict.UploadAction.{UploadAction}
use Rattle.bank_verdicts.specs.declared.verdict.SignedOrder.{SignedOrder}
use Rattle.bank_verdicts.specs.declared.verdict.UploadAction.TheVariants as up
use Rattle.bank_verdicts.specs.declared.verdict.Verdict.{Verdict}
use Rattle.bank_verdicts.specs.declared.verdict.Verdict.TheVariants as verdict
use Rattle.bank_verdicts.specs.Judgement.{transaction_of, mailbox_segments, opening_number, accepted, opened_number}
use Rattle.bank_verdicts.specs.Judgement.{judge_opening, judge_signing}
use Rattle.bank_verdicts.specs.Judgement.{judge_upload, judge_download, upload_at, download_of, judge_open, judge_transaction}
use Rattle.bank_verdicts.specs.Refusals.{not_open, transaction_rows}
use Rattle.bank_verdicts.proofs.Sound.{OpeningSound, UploadSound, DownloadSound}
use Rattle.bank_verdicts.proofs.Sound.{judged-opening, judged-upload, judged-download}
use Rattle.bank_verdicts.proofs.Sound as sound
use Rattle.bank_verdicts.proofs.Signing.{is_acted, is_signed}
use Rattle.bank_openings.specs.Openings.{open_upload, open_download}
use Rattle.bank_signing.specs.Signings.{sign}
use Rattle.bank_uploads.specs.Uploads.{UploadStep, upload_step}
use Rattle.bank_steps.specs.Steps.{on_upload, upload_acts, staying, on_download, download_acts, carry_out}
use Rattle.bank_steps.specs.Steps.{upload_verdict, download_verdict}

-- a verdict that is of no transaction and signs nothing changes nothing
pub of_none : (v : Verdict) (w : BankState) (q : Fields) (d : List ℕ) → is_acted v ≡ false → is_signed v ≡ false
    → w ≡ carry_out v w q d
of_none verdict.Unreadable w q d a s = refl
of_none (verdict.Refused c) w q d a s = refl
of_none (verdict.Of t x) w q d a s = never (sym a)
of_none (verdict.Signed n added) w q d a s = never (sym s)

-- the verdicts that are of no transaction, and those that sign nothing
pub unacted : (v : Verdict) → ((t : Bits128) (a : Action) → v ≢ verdict.Of t a) → is_acted v ≡ false
unacted verdict.Unreadable k = refl
unacted (verdict.Refused c) k = refl
unacted (verdict.Of t a) k = absurd (k t a refl)
unacted (verdict.Signed n added) k = refl

pub unsigned : (v : Verdict) → ((n : SignedOrder) (added : Bool) → v ≢ verdict.Signed n added) → is_signed v ≡ false
unsigned verdict.Unreadable k = refl
unsigned (verdict.Refused c) k = refl
unsigned (verdict.Of t a) k = refl
unsigned (verdict.Signed n added) k = absurd (k n added refl)

-- ---- an opening of a transaction

module _ (context : Context) (b : Bank) (q : Fields) {t : Bits128} {a : Action} where
  opens_by_lem : (dir : Direction) (v : Verdict) → OpeningSound context.prefix b q dir v → v ≡ verdict.Of t a
      → v ≡ accepted dir context.prefix b q
  opens_by_lem dir v (sound.refused d c h) e = absurd (let z : ◌≡◌ {A = ℕ} 0 1 = cc in omega arith)
  opens_by_lem dir v (sound.upload acc some free below) e = refl
  opens_by_lem dir v (sound.download acc full) e = refl

  -- one that acts on a transaction is accepted
  opens : (dir : Direction) → judge_opening dir context b q ≡ verdict.Of t a
      → judge_opening dir context b q ≡ accepted dir context.prefix b q
  opens dir e = opens_by_lem dir (judge_opening dir context b q) (judged-opening context b q dir) e

  module _ (o m d : List ℕ) where
    pub upload-opened : judge_opening direction.Upload context b q ≡ verdict.Of t a
        → bank_state (open_upload t (opened_number a) q b) o m
        ≡ carry_out (judge_opening direction.Upload context b q) (bank_state b o m) q d
    upload-opened e =
        let known = opens direction.Upload e in
        let same : t ≡ transaction_of context.prefix b = cc in
        let own : a ≡ action.Upload (up.Opened (opening_number b q)) = cc in
        ap (λ (id : Bits128). bank_state (open_upload id (opened_number a) q b) o m) same
        ∙ ap (λ (x : Action). bank_state (open_upload (transaction_of context.prefix b) (opened_number x) q b) o m) own
        ∙ sym (ap (λ (v : Verdict). carry_out v (bank_state b o m) q d) known)

    pub download-opened : judge_opening direction.Download context b q ≡ verdict.Of t a
        → bank_state (open_download t q b) o m
        ≡ carry_out (judge_opening direction.Download context b q) (bank_state b o m) q d
    download-opened e =
        let known = opens direction.Download e in
        let same : t ≡ transaction_of context.prefix b = cc in
        ap (λ (id : Bits128). bank_state (open_download id q b) o m) same
        ∙ sym (ap (λ (v : Verdict). carry_out v (bank_state b o m) q d) known)

-- ---- a signing that signs

pub signing-carried : (b : Bank) (q : Fields) (o m d : List ℕ) {n : SignedOrder} {added : Bool}
    → judge_signing b q ≡ verdict.Signed n added
    → bank_state (sign q b) o m ≡ carry_out (judge_signing b q) (bank_state b o m) q d
signing-carried b q o m d e = sym (ap (λ (v : Verdict). carry_out v (bank_state b o m) q d) e)

-- ---- a request to an open transaction opens none

module _ (t : Bits128) (w : BankState) (q : Fields) (d : List ℕ) where
  upload-acts-by : (r : TransactionRequest) (p : Place) (a : UploadAction) → UploadSound r p q a →
      upload_acts a t w q d ≡ on_upload a (upload_at w.bank q) w d
  upload-acts-by r p a (sound.took fits other mark) = refl
  upload-acts-by r p a (sound.took_last fits last mark) = refl
  upload-acts-by r p a (sound.upload_point none few) = refl
  upload-acts-by r p a (sound.abort none many) = refl
  upload-acts-by r p a (sound.underrun fits below mark) = refl
  upload-acts-by r p a (sound.exceeded fits last mark) = refl

  pub upload-acts : (r : TransactionRequest) (p : Place) →
      upload_acts (judge_upload r p q) t w q d ≡ on_upload (judge_upload r p q) (upload_at w.bank q) w d
  upload-acts r p = upload-acts-by r p (judge_upload r p q) (judged-upload r p q)

  download-acts-by : (r : TransactionRequest) (e : Download) (n : ℕ) (a : DownloadAction) → DownloadSound r e n q a →
      download_acts a t w q ≡ on_download a (download_of w.bank q) w q
  download-acts-by r e n a (sound.delivered asked next most) = refl
  download-acts-by r e n a (sound.sent_again asked some most few) = refl
  download-acts-by r e n a (sound.download_point none few) = refl
  download-acts-by r e n a (sound.cancelled none many) = refl
  download-acts-by r e n a (sound.confirmed asked all zero) = refl
  download-acts-by r e n a (sound.declined asked all other) = refl

  pub download-acts : (r : TransactionRequest) (e : Download) (n : ℕ) →
      download_acts (judge_download r e n q) t w q ≡ on_download (judge_download r e n q) (download_of w.bank q) w q
  download-acts r e n = download-acts-by r e n (judge_download r e n q) (judged-download e n q r)

-- the step of the upload in place i, put back
pub landed : (i : ℕ) (w : BankState) (r : TransactionRequest) (q : Fields) (d : List ℕ) {s : UploadStep}
    → s ≡ upload_step w.bank.clock r (place_at w.bank i) q d (part_at w.orders i)
    → bank_state (with_place i s.place w.bank) (with_part w.orders i s.bytes) w.mailboxes
    ≡ on_upload (judge_upload r (place_at w.bank i) q) i w d
unfolding upload_step
landed i w r q d h =
    ap (λ (s : UploadStep).
    bank_state (with_place i s.place w.bank) (with_part w.orders i s.bytes) w.mailboxes) h

-- what a request to the open transaction that was found does
pub upload-acts-at : (i : ℕ) (w : BankState) (r : TransactionRequest) (q : Fields) (d : List ℕ)
    → i ≡ upload_at w.bank q
    → on_upload (judge_upload r (place_at w.bank i) q) i w d ≡ carry_out (upload_verdict r i w.bank q) w q d
upload-acts-at i w r q d e =
    let p = place_at w.bank i in
    ap (λ (k : ℕ). on_upload (judge_upload r p q) k w d) e ∙ sym (upload-acts p.transaction w q d r p)

pub download-acts-at : (j : ℕ) (w : BankState) (r : TransactionRequest) (q : Fields) (d : List ℕ)
    → j ≡ download_of w.bank q → let e = download_at w.bank j in
    on_download (judge_download r e (mailbox_segments (subscriber q) w.bank) q) j w q
    ≡ carry_out (download_verdict r j w.bank q) w q d
download-acts-at j w r q d e =
    let x = download_at w.bank j in
    let n = mailbox_segments (subscriber q) w.bank in
    ap (λ (k : ℕ). on_download (judge_download r x n q) k w q) e ∙ sym (download-acts x.transaction w q d r x n)

-- the actions that keep a download open, and an opening's
pub stays : (a : DownloadAction) (j : ℕ) (w : BankState) (q : Fields) → a ≢ down.Cancelled → a ≢ down.Confirmed
    → a ≢ down.Declined → staying a j w ≡ on_download a j w q
stays (down.Opened n) j w q k l m = refl
stays (down.Delivered n) j w q k l m = refl
stays (down.SentAgain n) j w q k l m = refl
stays (down.Point d) j w q k l m = refl
stays down.Cancelled j w q k l m = absurd (k refl)
stays down.Confirmed j w q k l m = absurd (l refl)
stays down.Declined j w q k l m = absurd (m refl)

-- ---- where a transaction is found, its verdict

module _ (r : TransactionRequest) (b : Bank) (q : Fields) (n : ℕ) where
  pub in-upload : {i : ℕ} → i ≡ upload_at b q → i < place_count → judge_transaction r b q ≡ upload_verdict r i b q
  unfolding judge_transaction transaction_rows not_open judge_open
  in-upload {i} e h =
      rw (← e, lt-leb place_count i h, lt-ltb i place_count h)

  module _ {i j : ℕ} (e : i ≡ upload_at b q) (h : place_count ≤ i) (f : j ≡ download_of b q) where
    pub in-download : j < place_count → judge_transaction r b q ≡ download_verdict r j b q
    unfolding judge_transaction transaction_rows not_open judge_open
    in-download k = rw (← e, ← f, le-leb place_count i h, lt-leb place_count j k, le-ltb i place_count h)

    pub in-none : place_count ≤ j → judge_transaction r b q ≡ verdict.Refused code.UnknownTransaction
    unfolding judge_transaction transaction_rows not_open judge_open
    in-none k = rw (← e, ← f, le-leb place_count i h, le-leb place_count j k)
