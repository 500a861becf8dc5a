-- What a request comes to: its verdict, case by case, each with the tests that led there; its step is `step_by` of the
-- verdict. The other proofs take these cases only.
use Prim.Native.Nat.{ℕ, ◌<◌}
use mathlib.Core.Bool.{true, false}
use mathlib.Core.List.{List}
use mathlib.Core.Path.{◌≡◌, refl, sym, ap, ◌∙◌}
use native.Mathlib.Omega.{arith}
use lib.Dec.{ltb, leb}
use lib.ListN.{length}
use borrow.Author.Tests.{ltb-true, ltb-false, leb-false, le-leb}
use Rattle.frame_table.specs.declared.fields.Bits128.{Bits128}
use Rattle.frame_table.specs.declared.fields.Fields.{Fields}
use Rattle.frame_table.specs.declared.table.Form.{Form}
use Rattle.frame_table.specs.declared.table.Form.TheVariants.{NoForm, Request, Reply}
use Rattle.frame_table.specs.declared.table.RequestForm.{RequestForm}
use Rattle.frame_table.specs.declared.table.RequestForm.TheVariants as requests
use Rattle.frame_table.specs.Forms as forms
use Rattle.frame_table.specs.Names.{subscriber, transaction, segments, order_number, owner, form}
use Rattle.message.specs.declared.codes.ReturnCode.{ReturnCode}
use Rattle.message.specs.declared.codes.ReturnCode.TheVariants as code
use Rattle.message.specs.Editions.{form_edition, edition_of, opening_form}
use Rattle.message.proofs.Verdicts.{by-test, and-false}
use Rattle.bank_state.specs.Limits.{place_count}
use Rattle.bank_state.specs.Search.{free_place, is_upload, find_upload, is_download, find_download}
use Rattle.bank_state.specs.State.{BankState, place_at, download_at, file_length}
use Rattle.bank_state.proofs.Rows.{first_passes}
use Rattle.bank_verdicts.specs.declared.verdict.Context.{Context}
use Rattle.message.specs.declared.directions.Direction.TheVariants as direction
use Rattle.bank_verdicts.specs.declared.verdict.TransactionRequest.{TransactionRequest}
use Rattle.bank_verdicts.specs.declared.verdict.TransactionRequest.TheVariants as asked
use Rattle.bank_verdicts.specs.declared.verdict.UploadAction.{UploadAction}
use Rattle.bank_verdicts.specs.declared.verdict.UploadAction.TheVariants as up
use Rattle.bank_verdicts.specs.declared.verdict.DownloadAction.{DownloadAction}
use Rattle.bank_verdicts.specs.declared.verdict.DownloadAction.TheVariants as down
use Rattle.bank_verdicts.specs.declared.verdict.Action.TheVariants as action
use Rattle.bank_verdicts.specs.declared.verdict.Verdict.{Verdict}
use Rattle.bank_verdicts.specs.declared.verdict.Verdict.TheVariants as verdict
use Rattle.bank_verdicts.specs.Refusals.{is_order, find_order, not_open, cancels}
use Rattle.bank_verdicts.specs.Judgement.{
  transaction_of,
  opening_number,
  mailbox_segments,
  upload_at,
  download_of,
  order_at,
  signed,
  judge_open,
  judge_transaction,
  judge_request,
  judge_form,
  judge,
}
use Rattle.bank_steps.specs.Steps.{on_upload, upload_acts}
use Rattle.bank_verdicts.proofs.Sound.{
  Readable,
  Acceptable,
  Numbered,
  UploadSound,
  took,
  took_last,
  upload_point,
  abort,
  underrun,
  exceeded,
  DownloadSound,
  OpeningSound,
  judged-request,
  judged-opening,
  judged-transaction,
  judged-upload,
  judged-download,
}
use Rattle.bank_verdicts.proofs.Sound as opening
use Rattle.bank_verdicts.proofs.Signing.{Signable, SigningSound, judged-signing}
use Rattle.bank_verdicts.proofs.Signing as signing

-- the form of a request to a transaction
abbrev pub request_form : TransactionRequest → Form
request_form asked.UploadTransfer = forms.UploadTransfer
request_form asked.DownloadTransfer = forms.DownloadTransfer
request_form asked.Receipt = forms.Receipt

-- a request to the open upload that is found
pub record ToUpload (w : BankState) (q : Fields) (d : List ℕ) (r : TransactionRequest) (a : UploadAction) : Type 0 where
  pub readable : Readable q (length d)
  pub asked : form q ≡ request_form r
  pub inside : upload_at w.bank q < place_count
  pub found : is_upload (subscriber q) (transaction q) (place_at w.bank (upload_at w.bank q)) ≡ true
  pub sound : UploadSound r (place_at w.bank (upload_at w.bank q)) q a

-- a request to the open download that is found
pub record ToDownload (w : BankState) (q : Fields) (d : List ℕ) (r : TransactionRequest) (a : DownloadAction) : Type 0 where
  pub readable : Readable q (length d)
  pub asked : form q ≡ request_form r
  pub inside : download_of w.bank q < place_count
  pub found : is_download (subscriber q) (transaction q) (download_at w.bank (download_of w.bank q)) ≡ true
  pub sound : DownloadSound r (download_at w.bank (download_of w.bank q)) (mailbox_segments (subscriber q) w.bank) q a

-- a signing of the booked order that is found
pub record ToOrder (w : BankState) (q : Fields) (d : List ℕ) : Type 0 where
  pub readable : Readable q (length d)
  pub asked : form q ≡ forms.Signing
  pub signable : Signable w.bank q
  pub found : is_order (owner q) (order_number q) (place_at w.bank (order_at w.bank q)) ≡ true

-- what an action leaves of the upload that is found
pub upload-acts : {w : BankState} {q : Fields} {d : List ℕ} {r : TransactionRequest} {a : UploadAction} (t : Bits128) → ToUpload w q d r a →
    upload_acts a t w q d ≡ on_upload a (upload_at w.bank q) w d
upload-acts {w} {q} {d} {r} {a} t c = at c.sound
  where
    at : {b : UploadAction} → UploadSound r (place_at w.bank (upload_at w.bank q)) q b →
        upload_acts b t w q d ≡ on_upload b (upload_at w.bank q) w d
    at (took f below early) = refl
    at (took_last f last mark) = refl
    at (upload_point fits few) = refl
    at (abort fits many) = refl
    at (underrun f below mark) = refl
    at (exceeded f last mark) = refl

pub data Happens (first : ℕ) (w : BankState) (q : Fields) (d : List ℕ) : Verdict → Type 0 where
  unreadable : Happens first w q d verdict.Unreadable
  refused : (c : ReturnCode) → cancels c ≡ false → Happens first w q d (verdict.Refused c)
  opens_upload : form q ≡ opening_form (edition_of q) → Readable q (length d) → Acceptable w.bank q →
      (segments q ≡ 0 → ⊥) → free_place w.bank < place_count → Numbered w.bank q →
      Happens first w q d
      (verdict.Of (transaction_of first w.bank) (action.Upload (up.Opened (opening_number w.bank q))))
  opens_download : form q ≡ forms.DownloadOpening → Readable q (length d) → Acceptable w.bank q →
      (file_length (subscriber q) w.bank.files ≡ 0 → ⊥) →
      Happens first w q d
      (verdict.Of (transaction_of first w.bank) (action.Download (down.Opened (mailbox_segments (subscriber q) w.bank))))
  to_upload : (r : TransactionRequest) (a : UploadAction) → ToUpload w q d r a →
      Happens first w q d (verdict.Of (place_at w.bank (upload_at w.bank q)).transaction (action.Upload a))
  to_download : (r : TransactionRequest) (a : DownloadAction) → ToDownload w q d r a →
      Happens first w q d (verdict.Of (download_at w.bank (download_of w.bank q)).transaction (action.Download a))
  signs : ToOrder w q d → Happens first w q d (signed w.bank q)

module _ (k : Context) (w : BankState) (q : Fields) (d : List ℕ) (rowed : length w.bank.places ≡ place_count)
    (listed : length w.bank.downloads ≡ place_count) where
  abbrev Comes : Verdict → Type 0
  Comes v = Happens k.prefix w q d v

  abbrev i : ℕ
  i = upload_at w.bank q

  abbrev j : ℕ
  j = download_of w.bank q

  found-upload : i < place_count → is_upload (subscriber q) (transaction q) (place_at w.bank i) ≡ true
  unfolding find_upload
  found-upload h = first_passes (is_upload (subscriber q) (transaction q)) w.bank.places _ (omega arith)

  found-download : j < place_count → is_download (subscriber q) (transaction q) (download_at w.bank j) ≡ true
  unfolding find_download
  found-download h = first_passes (is_download (subscriber q) (transaction q)) w.bank.downloads _ (omega arith)

  -- what is open for this subscriber and is no upload is a download
  open-download : not_open w.bank q ≡ false → ltb i place_count ≡ false → j < place_count
  unfolding not_open
  open-download some n =
      leb-false place_count j
      (and-false (leb place_count i) (leb place_count j) some (le-leb place_count i (ltb-false i place_count n)))

  transaction-happens : (r : TransactionRequest) → Readable q (length d) → form q ≡ request_form r →
      Comes (judge_transaction r w.bank q)
  unfolding judge_transaction judge_open
  transaction-happens r a f =
      judged-transaction Comes w.bank q _ (refused code.UnknownTransaction refl)
      (λ some. by-test Comes (ltb i place_count)
      (λ h. to_upload r _ (record {
        readable = a;
        asked = f;
        inside = ltb-true i place_count h;
        found = found-upload (ltb-true i place_count h);
        sound = judged-upload r (place_at w.bank i) q;
      }))
      (λ n. to_download r _ (record {
        readable = a;
        asked = f;
        inside = open-download some n;
        found = found-download (open-download some n);
        sound = judged-download (download_at w.bank j) (mailbox_segments (subscriber q) w.bank) q r;
      })))

  upload-happens : {v : Verdict} → form q ≡ opening_form (edition_of q) → Readable q (length d) →
      OpeningSound k.prefix w.bank q direction.Upload v → Comes v
  upload-happens f a (opening.refused d c e) = refused c e
  upload-happens f a (opening.upload g n p own) = opens_upload f a g n p own

  download-happens : {v : Verdict} → form q ≡ forms.DownloadOpening → Readable q (length d) →
      OpeningSound k.prefix w.bank q direction.Download v → Comes v
  download-happens f a (opening.refused d c e) = refused c e
  download-happens f a (opening.download g n) = opens_download f a g n

  found-order : order_at w.bank q < place_count
      → is_order (owner q) (order_number q) (place_at w.bank (order_at w.bank q)) ≡ true
  unfolding find_order
  found-order h = first_passes (is_order (owner q) (order_number q)) w.bank.places _ (omega arith)

  signing-happens : {v : Verdict} → form q ≡ forms.Signing → Readable q (length d) → SigningSound w.bank q v → Comes v
  signing-happens f a (signing.unsigned c e) = refused c e
  signing-happens f a (signing.signs g) =
      signs (record { readable = a; asked = f; signable = g; found = found-order g.inside })

  request-happens : (x : RequestForm) → form q ≡ Request x → Readable q (length d) → Comes (judge_request x k w.bank q)
  request-happens requests.UploadOpening e a =
      upload-happens (e ∙ sym (ap (λ (x : Form). opening_form (form_edition x)) e)) a (judged-opening k w.bank q direction.Upload)
  request-happens requests.DownloadOpening e a = download-happens e a (judged-opening k w.bank q direction.Download)
  request-happens requests.UploadTransfer e a = transaction-happens asked.UploadTransfer a e
  request-happens requests.DownloadTransfer e a = transaction-happens asked.DownloadTransfer a e
  request-happens requests.Receipt e a = transaction-happens asked.Receipt a e
  request-happens requests.Signing e a = signing-happens e a (judged-signing w.bank q)
  request-happens requests.ChosenOpening e a =
      upload-happens (e ∙ sym (ap (λ (x : Form). opening_form (form_edition x)) e)) a
      (judged-opening k w.bank q direction.Upload)

  form-happens : (f : Form) → form q ≡ f → Readable q (length d) → Comes (judge_form f k w.bank q)
  form-happens NoForm e a = unreadable
  form-happens (Request x) e a = request-happens x e a
  form-happens (Reply x) e a = unreadable

  -- every request comes to one of these cases
  pub happens : Happens k.prefix w q d (judge k w.bank q (length d))
  unfolding judge
  happens = judged-request Comes q (length d) _ (λ _. unreadable) refused (form-happens (form q) refl)
