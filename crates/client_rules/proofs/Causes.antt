-- What led to a decision: each rule of the definitions as a case, and what its tests tell. Assumes nothing.
use Prim.Native.Nat.{ℕ, ◌<◌, ◌≤◌}
use mathlib.Core.Bool.{Bool, true, false}
use mathlib.Core.Logic.{◌⊎◌, inl, inr}
use mathlib.Core.Path.{◌≡◌, refl, sym, subst}
use native.Mathlib.Omega.{arith}
use lib.Dec.{ltb, leb, eqb}
use borrow.Author.Tests.{ltb-true, leb-true, eqb-true}
use Rattle.frame_table.specs.declared.fields.Fields.{Fields}
use Rattle.frame_table.specs.declared.table.Form.{Form}
use Rattle.frame_table.specs.Forms as forms
use Rattle.frame_table.specs.Names.{segments, segment, last_mark}
use Rattle.octets.proofs.Tests.{and-true}
use Rattle.message.specs.declared.codes.ReturnCode.TheVariants as code
use Rattle.message.specs.Limits.{segment_bytes, max_segments, max_attempts, initialisation_phase, transfer_phase}
use Rattle.message.specs.Segments.{last_mark_of}
use Rattle.message.proofs.Verdicts.{by-test}
use Rattle.client_run.specs.declared.run.ClientRun.{ClientRun}
use Rattle.client_run.specs.declared.run.Decision.{Decision}
use Rattle.client_run.specs.declared.run.Decision.TheVariants.{Ignore, Opened, Advance, Return, Repeat, Close}
use Rattle.message.specs.declared.directions.Direction.{Direction}
use Rattle.message.specs.declared.directions.Direction.TheVariants.{Upload, Download}
use Rattle.client_run.specs.declared.run.Step.{Step}
use Rattle.client_run.specs.declared.run.Step.TheVariants as step
use Rattle.client_run.specs.declared.run.Word.TheVariants as word
use Rattle.client_rules.specs.Decisions.{
  says,
  is_own,
  rest_word,
  may_repeat,
  ends_upload,
  answers_segment,
  fits_data,
  fits_segment,
  is_point,
  upload_returns,
  opens_upload,
  opens_download,
  lodges,
  takes_segment,
  brings_segment,
  confirms,
  is_answer,
  on_upload,
  on_download,
  on_answer,
  on_reply,
  on_no_reply,
}

-- the rule by which a reply with the fields r and d bytes of data, or no reply, led to a decision
pub data Cause (c : ClientRun) (r : Fields) (d : ℕ) : Decision → Type 0 where
  not-answered : is_answer c r ≡ false → Cause c r d Ignore
  upload-opened : c.direction ≡ Upload → c.step ≡ step.Opening → is_answer c r ≡ true
      → opens_upload c r ≡ true → Cause c r d Opened
  lodged : c.direction ≡ Upload → c.step ≡ step.Segment → is_answer c r ≡ true → lodges c r ≡ true
      → Cause c r d (Close word.Lodged)
  segment-taken : c.direction ≡ Upload → c.step ≡ step.Segment → is_answer c r ≡ true → takes_segment c r ≡ true
      → Cause c r d Advance
  upload-returned : c.direction ≡ Upload → c.step ≡ step.Segment → is_answer c r ≡ true → upload_returns c r ≡ true
      → Cause c r d (Return (segment r))
  upload-refused : c.direction ≡ Upload → c.step ≡ step.Segment → is_answer c r ≡ true → ends_upload r ≡ true
      → Cause c r d (Close word.NotLodged)
  download-opened : c.direction ≡ Download → c.step ≡ step.Opening → is_answer c r ≡ true → opens_download d r ≡ true
      → Cause c r d Opened
  segment-brought : c.direction ≡ Download → c.step ≡ step.Segment → is_answer c r ≡ true → brings_segment c r d ≡ true
      → Cause c r d Advance
  fetched : c.direction ≡ Download → c.step ≡ step.Receipt → is_answer c r ≡ true → confirms c r ≡ true
      → Cause c r d (Close word.Fetched)
  -- any other or ill-fitting reply, and the sixth repeat or return
  rest : Cause c r d (Close (rest_word c))
  no-reply : may_repeat c ≡ true → Cause c r d Repeat

module _ (c : ClientRun) (r : Fields) (d : ℕ) where
  by-upload : c.direction ≡ Upload → is_answer c r ≡ true → (at : Step) → c.step ≡ at → Cause c r d (on_upload at c r)
  unfolding on_upload
  by-upload direction a step.Opening s =
      by-test (Cause c r d) (opens_upload c r) (upload-opened direction s a) (λ _. rest)
  by-upload direction a step.Segment s =
      by-test (Cause c r d) (lodges c r) (lodged direction s a) λ _.
      by-test (Cause c r d) (takes_segment c r) (segment-taken direction s a) λ _.
      by-test (Cause c r d) (upload_returns c r) (upload-returned direction s a) λ _.
      by-test (Cause c r d) (ends_upload r) (upload-refused direction s a) (λ _. rest)
  by-upload direction a step.Receipt s = rest

  by-download : c.direction ≡ Download → is_answer c r ≡ true → (at : Step) → c.step ≡ at
      → Cause c r d (on_download at c r d)
  unfolding on_download
  by-download direction a step.Opening s =
      by-test (Cause c r d) (opens_download d r) (download-opened direction s a) (λ _. rest)
  by-download direction a step.Segment s =
      by-test (Cause c r d) (brings_segment c r d) (segment-brought direction s a) (λ _. rest)
  by-download direction a step.Receipt s =
      by-test (Cause c r d) (confirms c r) (fetched direction s a) (λ _. rest)

  by_answer : is_answer c r ≡ true → (direction : Direction) → c.direction ≡ direction
      → Cause c r d (on_answer direction c r d)
  by_answer a Upload direction = by-upload direction a c.step refl
  by_answer a Download direction = by-download direction a c.step refl

  pub by-reply : Cause c r d (on_reply c r d)
  unfolding on_reply
  by-reply = by-test (Cause c r d) (is_answer c r) (λ a. by_answer a c.direction refl) not-answered

  pub by-no-reply : Cause c r d (on_no_reply c)
  unfolding on_no_reply
  by-no-reply = by-test (Cause c r d) (may_repeat c) no-reply (λ _. rest)

  pub cause : {decision : Decision} → (decision ≡ on_reply c r d) ⊎ (decision ≡ on_no_reply c) → Cause c r d decision
  cause (inl e) = subst (Cause c r d) (sym e) by-reply
  cause (inr e) = subst (Cause c r d) (sym e) by-no-reply

-- ---- what the tests tell

pub repeats-left : (c : ClientRun) → may_repeat c ≡ true → c.repeats < max_attempts
unfolding may_repeat
repeats-left c h = ltb-true c.repeats max_attempts h

-- an upload goes on from r
pub record Point (c : ClientRun) (r : Fields) : Type 0 where
  pub below : segment r < c.segments
  pub reached : segment r ≤ c.issued
  pub left : c.repeats < max_attempts
  pub point : is_point c r ≡ true

pub upload-point : (c : ClientRun) (r : Fields) → upload_returns c r ≡ true → Point c r
unfolding upload_returns
upload-point c r h =
    let a = and-true _ (may_repeat c) h in
    let b = and-true _ (leb (segment r) c.issued) a.0 in
    let e = and-true (is_point c r) (ltb (segment r) c.segments) b.0 in record {
      below = ltb-true (segment r) c.segments e.1;
      reached = leb-true (segment r) c.issued b.1;
      left = repeats-left c a.1;
      point = e.0;
    }

-- d bytes are segment s of n
pub record Whole (s n d : ℕ) : Type 0 where
  pub some : 1 ≤ d
  pub most : d ≤ segment_bytes
  pub full : (s ≡ n → ⊥) → d ≡ segment_bytes

whole-at : (s n d : ℕ) (b : Bool) → eqb s n ≡ b → fits_data s n d ≡ true → Whole s n d
unfolding fits_data
whole-at s n d true e h =
    let a = and-true (leb 1 d) (leb d segment_bytes) (rw e at h) in
    record {
      some = leb-true 1 d a.0;
      most = leb-true d segment_bytes a.1;
      full = λ x. absurd (x (eqb-true s n e));
    }
whole-at s n d false e h =
    let a = eqb-true d segment_bytes (rw e at h) in
    record { some = omega arith; most = omega arith; full = λ x. a }

-- the reply has segment s of n
pub record HasSegment (s n d : ℕ) (r : Fields) : Type 0 where
  pub some : 1 ≤ s
  pub within : s ≤ n
  pub most : n ≤ max_segments
  pub mark : last_mark r ≡ last_mark_of s n
  pub bytes : Whole s n d

pub has-segment : (s n d : ℕ) (r : Fields) → fits_segment s n d r ≡ true → HasSegment s n d r
unfolding fits_segment
has-segment s n d r h =
    let a = and-true _ (fits_data s n d) h in
    let b = and-true _ (eqb (last_mark r) (last_mark_of s n)) a.0 in
    let e = and-true _ (leb n max_segments) b.0 in
    let g = and-true (leb 1 s) (leb s n) e.0 in record {
      some = leb-true 1 s g.0;
      within = leb-true s n g.1;
      most = leb-true n max_segments e.1;
      mark = eqb-true (last_mark r) (last_mark_of s n) b.1;
      bytes = whole-at s n d (eqb s n) refl a.1;
    }

-- the reply answers the outstanding segment
pub record Answers (x : Form) (c : ClientRun) (r : Fields) : Type 0 where
  pub said : says x code.Ok transfer_phase r ≡ true
  pub own : is_own c r ≡ true
  pub number : segment r ≡ c.segment

pub answers : (x : Form) (c : ClientRun) (r : Fields) → answers_segment x c r ≡ true → Answers x c r
unfolding answers_segment
answers x c r h =
    let a = and-true _ (eqb (segment r) c.segment) h in
    let b = and-true (says x code.Ok transfer_phase r) (is_own c r) a.0 in
    record { said = b.0; own = b.1; number = eqb-true (segment r) c.segment a.1 }

pub taken-below : (c : ClientRun) (r : Fields) → takes_segment c r ≡ true
    → Answers forms.SegmentTaken c r × (c.segment < c.segments)
unfolding takes_segment
taken-below c r h =
    let a = and-true (answers_segment forms.SegmentTaken c r) (ltb c.segment c.segments) h in
    (answers forms.SegmentTaken c r a.0, ltb-true c.segment c.segments a.1)

pub brought : (c : ClientRun) (r : Fields) (d : ℕ) → brings_segment c r d ≡ true
    → Answers forms.DownloadSegment c r × HasSegment c.segment c.segments d r
unfolding brings_segment
brought c r d h =
    let a = and-true (answers_segment forms.DownloadSegment c r) (fits_segment c.segment c.segments d r) h in
    (answers forms.DownloadSegment c r a.0, has-segment c.segment c.segments d r a.1)

-- a download is opened with segment 1 of N
pub record OpensDownload (r : Fields) (d : ℕ) : Type 0 where
  pub first : segment r ≡ 1
  pub segment-1 : HasSegment 1 (segments r) d r

pub opens : (r : Fields) (d : ℕ) → opens_download d r ≡ true → OpensDownload r d
unfolding opens_download
opens r d h =
    let a = and-true _ (fits_segment 1 (segments r) d r) h in
    let b = and-true (says forms.DownloadOpened code.Ok initialisation_phase r) (eqb (segment r) 1) a.0 in record {
      first = eqb-true (segment r) 1 b.1;
      segment-1 = has-segment 1 (segments r) d r a.1;
    }
