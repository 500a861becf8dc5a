-- What the tests ask of a reply, the bank's replies that fit, and what they lead to. Assumes nothing.
use Prim.Native.Nat.{ℕ, ◌≤◌}
use mathlib.Core.Bool.{Bool, true, false, not, ◌&&◌}
use mathlib.Core.List.{List}
use mathlib.Core.Path.{◌≡◌, refl, sym, ap, ◌∙◌}
use native.Mathlib.Omega.{arith}
use lib.Dec.{eqb}
use lib.ListN.{length}
use borrow.Author.Tests.{le-leb, eq-eqb, ne_eqb, eqb-false}
use Rattle.frame_table.specs.declared.fields.Bits128.{Bits128}
use Rattle.frame_table.specs.declared.fields.Fields.{Fields}
use Rattle.frame_table.specs.declared.table.Form.{Form}
use Rattle.frame_table.specs.Forms as forms
use Rattle.frame_table.specs.Names.{
  phase,
  exchange,
  segments,
  transaction,
  segment,
  last_mark,
  return_code,
  order_number,
  form,
}
use Rattle.frame_table.specs.Table.{is_reply_form, row_fits, find_form, form_of}
use Rattle.message.specs.declared.codes.ReturnCode.{ReturnCode}
use Rattle.message.specs.declared.codes.ReturnCode.TheVariants as code
use Rattle.message.specs.Codes.{code_field}
use Rattle.message.specs.Limits.{segment_bytes, max_segments, initialisation_phase, transfer_phase, receipt_phase}
use Rattle.message.specs.Replies.{upload_opened, chosen_opened, download_opened, segment_taken, download_segment, receipt_answered}
use Rattle.message.specs.Segments.{segments_of, segment_of, last_mark_of}
use Rattle.client_run.specs.declared.run.ClientRun.{ClientRun}
use Rattle.client_run.specs.declared.run.Decision.TheVariants.{Opened, Advance, Close}
use Rattle.message.specs.declared.directions.Direction.{Direction}
use Rattle.message.specs.declared.directions.Direction.TheVariants.{Upload, Download}
use Rattle.client_run.specs.declared.run.Step.{Step}
use Rattle.client_run.specs.declared.run.Step.TheVariants as step
use Rattle.client_run.specs.declared.run.Word.TheVariants as word
use Rattle.client_rules.specs.Decisions.{
  form_index,
  says,
  is_own,
  answers_segment,
  fits_data,
  fits_segment,
  opens_upload,
  opens_download,
  lodges,
  takes_segment,
  brings_segment,
  confirms,
  on_upload,
  on_download,
  on_answer,
  is_answer,
  on_reply,
}
use Rattle.client_history.proofs.Files.{segment-some, segment-most, segment-full}

-- ---- what the tests ask

pub and_intro : {a b : Bool} → a ≡ true → b ≡ true → a && b ≡ true
and_intro {a} {b} e f = rw (e, f)

pub and-false : (a b : Bool) → b ≡ false → a && b ≡ false
and-false true b e = e
and-false false b e = refl

says-true : (x : Form) (c : ReturnCode) (p : ℕ) (r : Fields) → form r ≡ x → return_code r ≡ code_field c → phase r ≡ p
    → says x c p r ≡ true
unfolding says
says-true x c p r a b e = and_intro (and_intro (eq-eqb _ _ (ap form_index a)) (eq-eqb _ _ b)) (eq-eqb _ _ e)

pub own-true : (c : ClientRun) (r : Fields) → transaction r ≡ c.transaction → is_own c r ≡ true
unfolding is_own
own-true c r e = and_intro (eq-eqb _ _ (ap (λ (t : Bits128). t.high) e)) (eq-eqb _ _ (ap (λ (t : Bits128). t.low) e))

-- a reply under the outstanding exchange number, of a reply form but the unreadable request's
answer-true : (c : ClientRun) (r : Fields) → is_reply_form (form r) ≡ true
    → (form_index (form r) ≡ form_index forms.Unreadable → ⊥)
    → exchange r ≡ c.exchange → is_answer c r ≡ true
unfolding is_answer
answer-true c r a b e = and_intro (and_intro a (ap not (ne_eqb _ _ b))) (eq-eqb _ _ e)

-- a reply of this form, code and phase under the exchange number n
pub record Fits (x : Form) (k : ReturnCode) (ph n : ℕ) (r : Fields) : Type 0 where
  pub form-is : form r ≡ x
  pub code_is : return_code r ≡ code_field k
  pub phase-is : phase r ≡ ph
  pub number : exchange r ≡ n

module _ {x : Form} {k : ReturnCode} {ph : ℕ} (c : ClientRun) (r : Fields) (f : Fits x k ph c.exchange r) where
  pub fits-says : says x k ph r ≡ true
  fits-says = says-true x k ph r f.form-is f.code_is f.phase-is

  pub fits-answer : is_reply_form x ≡ true → (form_index x ≡ form_index forms.Unreadable → ⊥) → is_answer c r ≡ true
  fits-answer a b =
      answer-true c r (ap is_reply_form f.form-is ∙ a) (λ e. b (sym (ap form_index f.form-is) ∙ e)) f.number

pub answers-true : (x : Form) (c : ClientRun) (r : Fields) → Fits x code.Ok transfer_phase c.exchange r
    → transaction r ≡ c.transaction
    → segment r ≡ c.segment → answers_segment x c r ≡ true
unfolding answers_segment
answers-true x c r f o j = and_intro (and_intro (fits-says c r f) (own-true c r o)) (eq-eqb _ _ j)

-- ---- the replies of the bank

module _ (x n j mark : ℕ) (t : Bits128) where
  pub opened-fits : Fits forms.UploadOpened code.Ok initialisation_phase x (upload_opened x t n)
  unfolding upload_opened form_of find_form row_fits
  opened-fits = record { form-is = refl; code_is = refl; phase-is = refl; number = refl }

  pub chosen-fits : Fits forms.ReceiptAnswered code.Ok initialisation_phase x (chosen_opened x t)
  unfolding chosen_opened form_of find_form row_fits
  chosen-fits = record { form-is = refl; code_is = refl; phase-is = refl; number = refl }

  pub taken-fits : Fits forms.SegmentTaken code.Ok transfer_phase x (segment_taken x t j)
  unfolding segment_taken form_of find_form row_fits
  taken-fits = record { form-is = refl; code_is = refl; phase-is = refl; number = refl }

  pub download-fits : Fits forms.DownloadOpened code.Ok initialisation_phase x (download_opened x n t mark)
  unfolding download_opened form_of find_form row_fits
  download-fits = record { form-is = refl; code_is = refl; phase-is = refl; number = refl }

  pub segment-fits : Fits forms.DownloadSegment code.Ok transfer_phase x (download_segment x t j mark)
  unfolding download_segment form_of find_form row_fits
  segment-fits = record { form-is = refl; code_is = refl; phase-is = refl; number = refl }

  pub receipt-fits : Fits forms.ReceiptAnswered code.DownloadPostprocessDone receipt_phase x
      (receipt_answered x t code.DownloadPostprocessDone)
  unfolding receipt_answered form_of find_form row_fits
  receipt-fits = record { form-is = refl; code_is = refl; phase-is = refl; number = refl }

  pub opened-fields : (transaction (upload_opened x t n) ≡ t) × (order_number (upload_opened x t n) ≡ n)
  unfolding upload_opened
  opened-fields = (refl, refl)

  pub chosen-fields : transaction (chosen_opened x t) ≡ t
  unfolding chosen_opened
  chosen-fields = refl

  pub taken-fields : (transaction (segment_taken x t j) ≡ t) × (segment (segment_taken x t j) ≡ j)
  unfolding segment_taken
  taken-fields = (refl, refl)

  pub download-fields :
      (transaction (download_opened x n t mark) ≡ t) × (segments (download_opened x n t mark) ≡ n)
      × (segment (download_opened x n t mark) ≡ 1)
      × (last_mark (download_opened x n t mark) ≡ mark)
  unfolding download_opened
  download-fields = (refl, refl, refl, refl)

  pub segment-fields :
      (transaction (download_segment x t j mark) ≡ t) × (segment (download_segment x t j mark) ≡ j)
      × (last_mark (download_segment x t j mark) ≡ mark)
  unfolding download_segment
  segment-fields = (refl, refl, refl)

  pub receipt-fields : transaction (receipt_answered x t code.DownloadPostprocessDone) ≡ t
  unfolding receipt_answered
  receipt-fields = refl

-- ---- a segment of the file fits

data-at : (s n d : ℕ) (b : Bool) → eqb s n ≡ b → 1 ≤ d → d ≤ segment_bytes → ((s ≡ n → ⊥) → d ≡ segment_bytes)
    → fits_data s n d ≡ true
unfolding fits_data
data-at s n d true e a b f = rw e (and_intro (le-leb 1 d a) (le-leb d segment_bytes b))
data-at s n d false e a b f = rw e (eq-eqb d segment_bytes (f (eqb-false s n e)))

pub file-fits : (f : List ℕ) (j n : ℕ) (r : Fields) (d : List ℕ) → 1 ≤ j → j ≤ n → n ≤ max_segments
    → n ≡ segments_of (length f)
    → d ≡ segment_of f j
    → last_mark r ≡ last_mark_of j n → fits_segment j n (length d) r ≡ true
unfolding fits_segment
file-fits f j n r d a b m e g k =
    let w : j ≤ segments_of (length f) = omega arith in
    let h = ap length g in
    let some = segment-some f j a w in
    let most = segment-most f j a w in
    and_intro (and_intro (and_intro (and_intro (le-leb 1 j a) (le-leb j n b)) (le-leb n max_segments m)) (eq-eqb _ _ k))
    (data-at j n (length d) (eqb j n) refl (omega arith) (omega arith)
    (λ z. h ∙ segment-full f j a w (λ y. z (y ∙ sym e))))

-- ---- what a fitting reply leads to

module _ (c : ClientRun) (r : Fields) (n : ℕ) (a : is_answer c r ≡ true) where
  pub upload-decision : c.direction ≡ Upload → (s : Step) → c.step ≡ s → on_reply c r n ≡ on_upload s c r
  unfolding on_reply
  upload-decision w s e = rw a (ap (λ (z : Direction). on_answer z c r n) w ∙ ap (λ (z : Step). on_upload z c r) e)

  pub download-decision : c.direction ≡ Download → (s : Step) → c.step ≡ s → on_reply c r n ≡ on_download s c r n
  unfolding on_reply
  download-decision w s e = rw a (ap (λ (z : Direction). on_answer z c r n) w ∙ ap (λ (z : Step). on_download z c r n) e)

module _ (c : ClientRun) (r : Fields) (n : ℕ) where
  pub to-opened : opens_upload c r ≡ true → on_upload step.Opening c r ≡ Opened
  unfolding on_upload
  to-opened h = rw h

  pub to-lodged : lodges c r ≡ true → on_upload step.Segment c r ≡ Close word.Lodged
  unfolding on_upload
  to-lodged h = rw h

  pub to-next : lodges c r ≡ false → takes_segment c r ≡ true → on_upload step.Segment c r ≡ Advance
  unfolding on_upload
  to-next g h = rw (g, h)

  pub to-download : opens_download n r ≡ true → on_download step.Opening c r n ≡ Opened
  unfolding on_download
  to-download h = rw h

  pub to-brought : brings_segment c r n ≡ true → on_download step.Segment c r n ≡ Advance
  unfolding on_download
  to-brought h = rw h

  pub to-fetched : confirms c r ≡ true → on_download step.Receipt c r n ≡ Close word.Fetched
  unfolding on_download
  to-fetched h = rw h
