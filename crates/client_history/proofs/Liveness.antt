-- An order in turn: each fitting answer leads to the next step, the receipt, or the closing word.
use Rattle.number_table.specs.declared.table.WrongLength.{WrongLength}
use Rattle.std.specs.Prelude.{Err, Ok, Result}
use Prim.Native.Nat.{ℕ, ◌+◌, ◌<◌, ◌≤◌}
use mathlib.Core.Bool.{true, false}
use mathlib.Core.List.{List}
use mathlib.Core.Path.{◌≡◌, refl, sym, ap, ◌∙◌, subst}
use native.Mathlib.Omega.{arith}
use lib.ListN.{length}
use borrow.Author.Tests.{lt-ltb, eq-eqb, ne_eqb}
use Rattle.frame_table.specs.declared.fields.Bits128.{Bits128}
use Rattle.frame_table.specs.declared.fields.Fields.{Fields}
use Rattle.frame_table.specs.Forms as forms
use Rattle.frame_table.specs.Names.{return_code, segments, transaction, segment, last_mark, order_number}
use Rattle.frame_reader.specs.Reader.{read_reply}
use Rattle.frame_row.specs.Row.{data_of}
use Rattle.message.specs.declared.codes.ReturnCode.TheVariants as code
use Rattle.message.specs.Codes.{code_field}
use Rattle.message.specs.Limits.{max_segments, file_bytes, initialisation_phase}
use Rattle.message.specs.Replies.{upload_opened, chosen_opened, download_opened, segment_taken, download_segment, receipt_answered}
use Rattle.message.specs.Segments.{segments_of, segment_of, last_mark_of}
use Rattle.client_run.specs.declared.run.ClientRun.{ClientRun}
use Rattle.client_run.specs.declared.run.Decision.{Decision}
use Rattle.client_run.specs.declared.run.Decision.TheVariants.{Ignore, Opened, Advance, Close}
use Rattle.message.specs.declared.directions.Direction.{Direction}
use Rattle.message.specs.declared.directions.Direction.TheVariants.{Upload, Download}
use Rattle.message.specs.declared.editions.Edition.{Edition}
use Rattle.message.specs.declared.editions.Edition.TheVariants.{V24, V25}
use Rattle.message.specs.Editions.{opened_form}
use Rattle.client_run.specs.declared.run.Refusal.{Refusal}
use Rattle.client_run.specs.declared.run.Refusal.TheVariants.{
  TimeTooHigh,
  WrongBuffer,
  ExchangeTooHigh,
  NoSubscriber,
  WrongStage,
}
use Rattle.client_run.specs.declared.run.RunParameters.{RunParameters}
use Rattle.client_run.specs.declared.run.Stage.TheVariants as stage
use Rattle.client_run.specs.declared.run.Step.{Step}
use Rattle.client_run.specs.declared.run.Step.TheVariants as step
use Rattle.client_run.specs.declared.run.Word.{Word}
use Rattle.client_run.specs.declared.run.Word.TheVariants as word
use Rattle.client.specs.Calls.{
  if_written,
  call_of,
  outcome_of,
  is_written,
  request_with,
  issued,
  taken,
  carry_out,
  if_admitted,
  admitted_begin,
  admitted_reply,
  begin_call,
  reply_call,
}
use Rattle.client_run.specs.NextRun.{begun, step_after, go_on, learned_number, learned, holding, file_with, ended}
use Rattle.client_run.specs.Run.{Lent, ClientCall, lengths_of, refusal_number, answer_number, chosen_number}
use Rattle.client_rules.specs.Decisions.{
  answers_segment,
  fits_segment,
  opens_upload,
  opens_download,
  lodges,
  takes_segment,
  brings_segment,
  confirms,
  is_answer,
  says,
  rest_word,
  on_upload,
  on_download,
  on_answer,
  on_reply,
}
use Rattle.client_rules.specs.Rulings.{is_begun, begin_ruling, run_ruling}
use Rattle.client_history.specs.History.{Begin, Reply, Past, issuing, left, after, Kept}
use Rattle.client_history.specs.InTurn.{InTurn}
use Rattle.client_history.proofs.Files.{most-segments}
use Rattle.message.proofs.SegmentNumbers.{some-segment}
use Rattle.client_rules.proofs.Accepted as rulings
use Rattle.message.proofs.Verdicts.{by-test}
use Rattle.client_rules.proofs.Replies.{said, opened-says}
use Rattle.client_history.proofs.Fitting.{
  and_intro,
  and-false,
  own-true,
  Fits,
  fits-says,
  fits-answer,
  answers-true,
  opened-fits,
  chosen-fits,
  taken-fits,
  download-fits,
  segment-fits,
  receipt-fits,
  opened-fields,
  chosen-fields,
  taken-fields,
  download-fields,
  segment-fields,
  receipt-fields,
  file-fits,
  upload-decision,
  download-decision,
  to-opened,
  to-lodged,
  to-next,
  to-download,
  to-brought,
  to-fetched,
}

-- ---- a call given no number

pub numbered : {A : Type 0} (x : Refusal) → refusal_number x ≡ 0 → A
numbered TimeTooHigh h = absurd (omega arith)
numbered WrongBuffer h = absurd (omega arith)
numbered ExchangeTooHigh h = absurd (omega arith)
numbered NoSubscriber h = absurd (omega arith)
numbered WrongStage h = absurd (omega arith)

-- a request issued
by-issued : (P : Past → Type 0) (c next : ClientRun) (file : List ℕ) (l : Lent) (p : Past)
    → P (issuing next l.payload file l.time l.nonce p.issues)
    → answer_number (issued c next file l).answer ≡ 0
    → P (left (issued c next file l).answer (issued c next file l) l p)
unfolding issued
by-issued P c next file l p new = go (is_written next l)
  where
    go : (w : Result ℕ WrongLength) → let k = call_of (outcome_of w c next) (if_written w file l.file) (request_with next l) in
        answer_number k.answer ≡ 0 → P (left k.answer k l p)
    go (Ok n) h = new
    go (Err e) h = numbered WrongBuffer h

-- a reply's call by the decision that the reply leads to
by-decision : (P : Past → Type 0) (p : Past) (frame : List ℕ) (l : Lent) (decision : Decision)
    → on_reply p.run (read_reply frame) (length (data_of frame)) ≡ decision
    → (let k = carry_out decision p.run (read_reply frame) (data_of frame) l in
    answer_number k.answer ≡ 0 → P (left k.answer k l p))
    → answer_number (reply_call p.run frame l).answer ≡ 0 → P (after (Reply frame l) p)
unfolding after reply_call
by-decision P p frame l decision e f = go (run_ruling p.run l.time (lengths_of l))
  where
    Goal : ClientCall → Type 0
    Goal k = answer_number k.answer ≡ 0 → P (left k.answer k l p)

    go : (u : Result (Unit {0}) Refusal)
        → Goal (if_admitted u p.run l (admitted_reply p.run frame l))
    go (Err x) = numbered x
    go (Ok u) = subst (λ (z : Decision). Goal (carry_out z p.run (read_reply frame) (data_of frame) l)) (sym e) f

-- ---- where the run stands then

-- the run k with the request after its outstanding segment, answered with the data d, issued
unfoldable next : ClientRun → List ℕ → ClientRun
next k d = go_on k.segment k.repeats (holding (length d) k)

next-in-turn : (k : ClientRun) (direction : Direction) (j : ℕ) (d payload file : List ℕ) (l : Lent) (p : Past)
    → k.stage ≡ stage.Running
    → k.direction ≡ direction → k.segment ≡ j → k.repeats ≡ 0
    → InTurn (issuing (next k d) payload file l.time l.nonce p.issues) direction
    (step_after direction j k.segments) (j + 1)
    (k.exchange + 1)
unfolding next go_on
next-in-turn k direction j d payload file l p running w e z =
    record {
      running = running;
      direction = w;
      step =
          ap (λ (x : Direction). step_after x k.segment k.segments) w
          ∙ ap (λ (x : ℕ). step_after direction x k.segments) e;
      segment = ap (λ (x : ℕ). x + 1) e;
      repeats = z;
      number = refl;
    }

next_known : (k : ClientRun) (d : List ℕ)
    → ((next k d).transaction ≡ k.transaction) × ((next k d).number ≡ k.number) × ((next k d).segments ≡ k.segments)
unfolding next go_on
next_known k d = (refl, refl, refl)

module _ (p : Past) (frame : List ℕ) (l : Lent) (done : answer_number (reply_call p.run frame l).answer ≡ 0) where
  abbrev c : ClientRun
  c = p.run

  abbrev r : Fields
  r = read_reply frame

  abbrev d : List ℕ
  d = data_of frame

  abbrev then : Past
  then = after (Reply frame l) p

  -- an answered step leads to the next
  by_next : (P : Past → Type 0) (k : ClientRun)
      → P (issuing (next k d) l.payload (file_with k d l.file) l.time l.nonce p.issues)
      → answer_number (taken c k d l).answer ≡ 0 → P (left (taken c k d l).answer (taken c k d l) l p)
  unfolding taken next
  by_next P k new h = by-issued P c (next k d) (file_with k d l.file) l p new h

  by-opened : (P : Past → Type 0) (direction : Direction) → c.direction ≡ direction → on_reply c r (length d) ≡ Opened
      → P (issuing (next (learned direction r c) d) l.payload (file_with (learned direction r c) d l.file)
      l.time l.nonce p.issues)
      → P then
  by-opened P direction w e new =
      by-decision P p frame l Opened e
      (subst
      (λ (x : Direction). let k = taken c (learned x r c) d l in
      answer_number k.answer ≡ 0 → P (left k.answer k l p))
      (sym w)
      (by_next P (learned direction r c) new)) done

  by-advanced : (P : Past → Type 0) → on_reply c r (length d) ≡ Advance
      → P (issuing (next c d) l.payload (file_with c d l.file) l.time l.nonce p.issues) → P then
  by-advanced P e new = by-decision P p frame l Advance e (by_next P c new) done

  by-closed : (w : Word) → on_reply c r (length d) ≡ Close w → then.run.stage ≡ stage.Ended w
  unfolding ended
  by-closed w e = by-decision (λ (q : Past). q.run.stage ≡ stage.Ended w) p frame l (Close w) e (λ h. refl) done

  -- ---- UPLOAD

  -- the opening's answer leads to segment 1, under the transaction that it brings and this order number
  abbrev OpensWith : Bits128 → ℕ → Type 0
  OpensWith t n =
      InTurn then Upload step.Segment 1 (c.exchange + 1) × (then.run.transaction ≡ t) × (then.run.number ≡ n)
      × (then.run.segments ≡ c.segments)

  opens-with : (j x n : ℕ) (t : Bits128) → InTurn p Upload step.Opening j x → is_answer c r ≡ true → opens_upload c r ≡ true
      → transaction r ≡ t → learned_number c.terms.edition c.terms r ≡ n → OpensWith t n
  opens-with j x n t i a o e m =
      let k = learned Upload r c in
      let g = next_known k d in
      by-opened
      (λ (q : Past). InTurn q Upload step.Segment 1 (c.exchange + 1) × (q.run.transaction ≡ t) × (q.run.number ≡ n)
      × (q.run.segments ≡ c.segments)) Upload i.direction
      (upload-decision c r (length d) a i.direction step.Opening i.step ∙ to-opened c r (length d) o) (
        next-in-turn k Upload 0 d _ _ l p i.running i.direction refl i.repeats,
        g.0 ∙ e,
        g.1 ∙ m,
        g.2,
      )

  -- in edition 2.5 the reply brings the number
  pub upload-opens : (j x n : ℕ) (t : Bits128) → c.terms.edition ≡ V25 → InTurn p Upload step.Opening j x
      → r ≡ upload_opened c.exchange t n → OpensWith t n
  upload-opens j x n t v i e =
      let f = subst (Fits _ _ _ _) (sym e) (opened-fits c.exchange n 0 0 t) in
      opens-with j x n t i (fits-answer c r f refl (λ z. omega arith))
      (ap (λ (u : Edition). says (opened_form u) code.Ok initialisation_phase r) v ∙ fits-says c r f)
      (ap transaction e ∙ (opened-fields c.exchange n 0 0 t).0)
      (ap (λ (u : Edition). learned_number u c.terms r) v ∙ ap order_number e ∙ (opened-fields c.exchange n 0 0 t).1)

  -- in edition 2.4 the run has it from its begin
  pub chosen-opens : (j x : ℕ) (t : Bits128) → c.terms.edition ≡ V24 → InTurn p Upload step.Opening j x
      → r ≡ chosen_opened c.exchange t → OpensWith t (chosen_number c.terms)
  chosen-opens j x t v i e =
      let f = subst (Fits _ _ _ _) (sym e) (chosen-fits c.exchange 0 0 0 t) in
      opens-with j x (chosen_number c.terms) t i (fits-answer c r f refl (λ z. omega arith))
      (ap (λ (u : Edition). says (opened_form u) code.Ok initialisation_phase r) v ∙ fits-says c r f)
      (ap transaction e ∙ chosen-fields c.exchange 0 0 0 t) (ap (λ (u : Edition). learned_number u c.terms r) v)

  module _ (j x : ℕ) (i : InTurn p Upload step.Segment j x)
      (e : r ≡ segment_taken c.exchange c.transaction j) where
    taken-answer : is_answer c r ≡ true
    taken-answer =
        fits-answer c r (subst (Fits _ _ _ _) (sym e) (taken-fits c.exchange 0 j 0 c.transaction)) refl
        (λ z. omega arith)

    taken-answers : answers_segment forms.SegmentTaken c r ≡ true
    taken-answers =
        answers-true _ c r (subst (Fits _ _ _ _) (sym e) (taken-fits c.exchange 0 j 0 c.transaction))
        (ap transaction e ∙ (taken-fields c.exchange 0 j 0 c.transaction).0)
        (ap segment e ∙ (taken-fields c.exchange 0 j 0 c.transaction).1 ∙ sym i.segment)

    -- segment j < N taken leads to segment j + 1
    pub upload-advances : j < c.segments → InTurn then Upload step.Segment (j + 1) (c.exchange + 1)
    unfolding lodges takes_segment
    upload-advances h =
        let s = i.segment in
        by-advanced (λ (q : Past). InTurn q Upload step.Segment (j + 1) (c.exchange + 1))
        (upload-decision c r (length d) taken-answer i.direction step.Segment i.step
        ∙ to-next c r (length d)
        (and-false (answers_segment forms.SegmentTaken c r) _ (ne_eqb c.segment c.segments (λ z. omega arith)))
        (and_intro taken-answers (lt-ltb c.segment c.segments (omega arith))))
        (next-in-turn c Upload j d _ _ l p i.running i.direction s i.repeats)

    -- segment N taken: lodged
    pub upload-lodges : j ≡ c.segments → then.run.stage ≡ stage.Ended word.Lodged
    unfolding lodges
    upload-lodges h =
        by-closed word.Lodged
        (upload-decision c r (length d) taken-answer i.direction step.Segment i.step
        ∙ to-lodged c r (length d) (and_intro taken-answers (eq-eqb c.segment c.segments (i.segment ∙ h))))

  -- ---- DOWNLOAD

  -- the opening's answer, with segment 1 of the file f, leads to segment 2 or to the receipt
  pub download-opens : (j x n : ℕ) (t : Bits128) (f : List ℕ) → InTurn p Download step.Opening j x
      → r ≡ download_opened c.exchange n t (last_mark_of 1 n) → n ≡ segments_of (length f) → 0 < length f
      → length f ≤ file_bytes
      → d ≡ segment_of f 1
      → InTurn then Download (step_after Download 1 n) 2 (c.exchange + 1) × (then.run.transaction ≡ t)
      × (then.run.segments ≡ n)
  unfolding opens_download
  download-opens j number n t f i e m least most g =
      let x = subst (Fits _ _ _ _) (sym e) (download-fits c.exchange n 0 (last_mark_of 1 n) t) in
      let y = download-fields c.exchange n 0 (last_mark_of 1 n) t in
      let a = fits-answer c r x refl (λ z. omega arith) in
      let sn : segments r ≡ n = ap segments e ∙ y.1 in
      let some : 1 ≤ segments r = let z = some-segment (length f) least in omega arith in
      let few : segments r ≤ max_segments = let z = most-segments (length f) most in omega arith in
      let whole =
      file-fits f 1 (segments r) r d (omega arith) some few (sn ∙ m) g
      (ap last_mark e ∙ y.3 ∙ ap (last_mark_of 1) (sym sn)) in
      let fits = and_intro (and_intro (fits-says c r x) (eq-eqb (segment r) 1 (ap segment e ∙ y.2))) whole in
      let k = learned Download r c in
      let h = next_known k d in
      by-opened
      (λ (q : Past). InTurn q Download (step_after Download 1 n) 2 (c.exchange + 1) × (q.run.transaction ≡ t)
      × (q.run.segments ≡ n))
      Download i.direction
      (download-decision c r (length d) a i.direction step.Opening i.step ∙ to-download c r (length d) fits) (
        subst (λ (u : ℕ). InTurn
            (issuing (next k d) l.payload (file_with k d l.file) l.time l.nonce p.issues) Download
            (step_after Download 1 u) 2 (c.exchange + 1))
            sn (next-in-turn k Download 1 d _ _ l p i.running i.direction refl i.repeats),
        h.0 ∙ ap transaction e ∙ y.0,
        h.2 ∙ sn,
      )

  -- segment j of the file f leads to segment j + 1 or to the receipt
  pub download-advances : (j x : ℕ) (f : List ℕ) → InTurn p Download step.Segment j x → 1 ≤ j → j ≤ c.segments
      → r ≡ download_segment c.exchange c.transaction j (last_mark_of j c.segments)
      → c.segments ≡ segments_of (length f)
      → length f ≤ file_bytes
      → d ≡ segment_of f j → InTurn then Download (step_after Download j c.segments) (j + 1) (c.exchange + 1)
  unfolding brings_segment
  download-advances j number f i least within e m most g =
      let mark = last_mark_of j c.segments in
      let x = subst (Fits _ _ _ _) (sym e) (segment-fits c.exchange 0 j mark c.transaction) in
      let y = segment-fields c.exchange 0 j mark c.transaction in
      let few : c.segments ≤ max_segments = let z = most-segments (length f) most in omega arith in
      let s = sym i.segment in
      let whole = file-fits f j c.segments r d least within few m g (ap last_mark e ∙ y.2) in
      let fits =
      and_intro (answers-true _ c r x (ap transaction e ∙ y.0) (ap segment e ∙ y.1 ∙ s))
      (subst (λ (z : ℕ). fits_segment z c.segments (length d) r ≡ true) s whole) in
      by-advanced (λ (q : Past). InTurn q Download (step_after Download j c.segments) (j + 1) (c.exchange + 1))
      (download-decision c r (length d) (fits-answer c r x refl (λ z. omega arith)) i.direction step.Segment
      i.step
      ∙ to-brought c r (length d) fits)
      (next-in-turn c Download j d _ _ l p i.running i.direction i.segment i.repeats)

  -- the receipt's answer: fetched
  pub download-fetches : (j x : ℕ) → InTurn p Download step.Receipt j x
      → r ≡ receipt_answered c.exchange c.transaction code.DownloadPostprocessDone
      → then.run.stage ≡ stage.Ended word.Fetched
  unfolding confirms
  download-fetches j number i e =
      let x = subst (Fits _ _ _ _) (sym e) (receipt-fits c.exchange 0 0 0 c.transaction) in
      by-closed word.Fetched
      (download-decision c r (length d) (fits-answer c r x refl (λ z. omega arith)) i.direction step.Receipt
      i.step
      ∙ to-fetched c r (length d)
      (and_intro (fits-says c r x)
      (own-true c r (ap transaction e ∙ receipt-fields c.exchange 0 0 0 c.transaction))))

  -- ---- A REPLY TO AN EARLIER REQUEST

  -- a reply that is ignored leaves all as it was
  pub ignored-stays : Kept l p → is_answer c r ≡ false → then ≡ p
  unfolding on_reply
  ignored-stays k h =
      by-decision (λ (q : Past). q ≡ p) p frame l Ignore (rw h)
      (λ z. let y = k.payload in let f = k.file in
      λ i. record { run = c; payload = y i; file = f i; issues = p.issues }) done

-- ---- AN OPENING REFUSED

-- a reply to the opening with another code than 000000 is ignored or ends the run
at-opening : (P : Decision → Type 0) (c : ClientRun) (r : Fields) (n : ℕ) → c.step ≡ step.Opening
    → (return_code r ≡ code_field code.Ok → ⊥)
    → P Ignore → P (Close (rest_word c)) → P (on_reply c r n)
unfolding on_reply on_upload on_download
at-opening P c r n at other ignored closed = by-test P (is_answer c r) (λ _. by c.direction) (λ _. ignored)
  where
    by : (w : Direction) → P (on_answer w c r n)
    by Upload = subst (λ (s : Step). P (on_upload s c r)) (sym at)
        (by-test P (opens_upload c r)
        (λ h. absurd (other (said _ _ _ r h).code_is)) (λ _. closed))
    by Download = subst (λ (s : Step). P (on_download s c r n)) (sym at)
        (by-test P (opens_download n r) (λ h. absurd (other (opened-says n r h).code_is)) (λ _. closed))

-- so it issues nothing
pub opening-refused : (p : Past) (frame : List ℕ) (l : Lent) → answer_number (reply_call p.run frame l).answer ≡ 0
    → is_begun p.run.stage ≡ true → p.run.step ≡ step.Opening
    → (return_code (read_reply frame) ≡ code_field code.Ok → ⊥)
    → let q = after (Reply frame l) p in
    (q.issues ≡ p.issues) × (q.run.step ≡ step.Opening) × (q.run.exchange ≡ p.run.exchange)
    × (is_begun q.run.stage ≡ true)
unfolding ended
opening-refused p frame l done b at other =
    at-opening
    (λ (x : Decision). on_reply p.run (read_reply frame) (length (data_of frame)) ≡ x → Goal (after (Reply frame l) p))
    p.run
    (read_reply frame) (length (data_of frame)) at other
    (λ e. by-decision Goal p frame l Ignore e (λ h. (refl, at, refl, b)) done)
    (λ e. by-decision Goal p frame l (Close (rest_word p.run)) e (λ h. (refl, at, refl, refl)) done) refl
  where
    Goal : Past → Type 0
    Goal q = (q.issues ≡ p.issues) × (q.run.step ≡ step.Opening) × (q.run.exchange ≡ p.run.exchange)
        × (is_begun q.run.stage ≡ true)

-- ---- THE BEGIN

-- a begin leaves the opening outstanding under the first exchange number
pub begins : (p : Past) (params : RunParameters) (l : Lent) → answer_number (begin_call p.run params l).answer ≡ 0
    → let q = after (Begin params l) p in
    InTurn q params.direction step.Opening 0 params.first × (q.run.subscriber ≡ params.subscriber)
    × (q.payload ≡ l.payload) × (q.run.terms ≡ params.terms)
unfolding after begin_call begun
begins p params l = go (begin_ruling p.run params l.time (lengths_of l))
  where
    Goal : Past → Type 0
    Goal q =
        InTurn q params.direction step.Opening 0 params.first × (q.run.subscriber ≡ params.subscriber)
        × (q.payload ≡ l.payload) × (q.run.terms ≡ params.terms)

    go : (u : Result (Unit {0}) Refusal) → let k = if_admitted u p.run l (admitted_begin p.run params l) in
        answer_number k.answer ≡ 0 → Goal (left k.answer k l p)
    go (Err x) = numbered x
    go (Ok u) =
        by-issued Goal p.run _ l.file l p (
          record {
            running = refl;
            direction = refl;
            step = refl;
            segment = refl;
            repeats = refl;
            number = refl;
          },
          refl,
          refl,
          refl,
        )

-- a run already begun is not begun again
pub begin-fresh : (c : ClientRun) (params : RunParameters) (l : Lent) → answer_number (begin_call c params l).answer ≡ 0
    → is_begun c.stage ≡ false
unfolding begin_call
begin-fresh c params l = go (begin_ruling c params l.time (lengths_of l)) refl
  where
    go : (u : Result (Unit {0}) Refusal) → begin_ruling c params l.time (lengths_of l) ≡ u
        → answer_number (if_admitted u c l (admitted_begin c params l)).answer ≡ 0
        → is_begun c.stage ≡ false
    go (Err x) e h = numbered x h
    go (Ok u) e h = (rulings.begins c params l e).fresh
