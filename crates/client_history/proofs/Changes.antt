-- What a fair event makes of a past: nothing, a begin, the next request issued, or the run's end. Assumes nothing.
use Rattle.client_run.specs.declared.run.Refusal.{Refusal}
use Rattle.number_table.specs.declared.table.WrongLength.{WrongLength}
use Rattle.std.specs.Prelude.{Err, Ok, Result}
use Prim.Native.Nat.{ℕ, ◌+◌}
use mathlib.Core.Bool.{true}
use mathlib.Core.List.{List, [], Memᴰ as In}
use mathlib.Core.Path.{◌≡◌, refl, sym, subst}
use lib.ListN.{length}
use Rattle.frame_table.specs.declared.fields.Fields.{Fields}
use Rattle.frame_table.specs.Names.{segment}
use Rattle.frame_reader.specs.Reader.{read_reply}
use Rattle.frame_table.specs.Names.{no_fields}
use Rattle.frame_row.specs.Row.{data_of}
use Rattle.frame_table.specs.Table.{row_fits, find_form, form_of}
use Rattle.octets.proofs.Tests.{never}
use Rattle.client_run.specs.declared.run.Answer.{Answer}
use Rattle.client_run.specs.declared.run.Answer.TheVariants as answer
use Rattle.client_run.specs.declared.run.ClientRun.{ClientRun}
use Rattle.client_run.specs.declared.run.Decision.{Decision}
use Rattle.message.specs.declared.directions.Direction.{Direction}
use Rattle.message.specs.declared.directions.Direction.TheVariants.{Upload, Download}
use Rattle.client_run.specs.declared.run.RunParameters.{RunParameters}
use Rattle.client_run.specs.declared.run.Step.TheVariants as step
use Rattle.client_run.specs.declared.run.Word.{Word}
use Rattle.client_run.specs.declared.run.Word.TheVariants as word
use Rattle.client.specs.Calls.{
  if_written,
  call_of,
  outcome_of,
  is_written,
  request_with,
  issued,
  taken,
  carry_out,
  if_admitted,
  admitted_begin,
  begin_call,
  reply_call,
  no_reply_call,
}
use Rattle.client_run.specs.NextRun.{begin_length, begun, go_on, repeated, learned, holding, file_with, ended}
use Rattle.client_run.specs.Run.{Lent, ClientCall, lengths_of, answer_number}
use Rattle.client_rules.specs.Decisions.{
  rest_word,
  may_repeat,
  ends_upload,
  upload_returns,
  opens_upload,
  opens_download,
  lodges,
  takes_segment,
  brings_segment,
  confirms,
  is_answer,
  on_reply,
  on_no_reply,
}
use Rattle.client_rules.specs.Rulings.{begin_ruling, run_ruling}
use Rattle.client_history.specs.History.{
  Issue,
  Event,
  Begin,
  Reply,
  NoReply,
  Past,
  issuing,
  left,
  after,
  Kept,
  Fair,
}
use Rattle.client_rules.proofs.Accepted.{Accepted, accepted, Begins, begins}
use Rattle.client_rules.proofs.Causes.{Cause, by-reply, by-no-reply}
use Rattle.client_rules.proofs.Causes as cause
use Rattle.client_history.proofs.NextRuns.{holding-upload, file-upload}

-- the run ended with a word
abbrev pub ending : Word → Past → Past
ending w p = record { run = ended w p.run; payload = p.payload; file = p.file; issues = p.issues }

-- a request issued, or refused by the writer
pub by-issue : (P : Past → Type 0) (c next : ClientRun) (file : List ℕ) (l : Lent) (p : Past) → P p
    → P (issuing next l.payload file l.time l.nonce p.issues)
    → P (left (issued c next file l).answer (issued c next file l) l p)
unfolding issued
by-issue P c next file l p same new = go (is_written next l)
  where
    go : (w : Result ℕ WrongLength) → let k = call_of (outcome_of w c next) (if_written w file l.file) (request_with next l) in
        P (left k.answer k l p)
    go (Ok n) = new
    go (Err e) = same

module _ (Given : Fields → List ℕ → Fields → List ℕ → Type 0) where
  -- a reply with the fields r and the data d answers the run, and was given to a request that it issued
  pub record Answering (p : Past) (r : Fields) (d : List ℕ) : Type 0 where
    pub answers : is_answer p.run r ≡ true
    pub issue : Issue
    pub own : In issue p.issues
    pub given : Given issue.request issue.request_data r d

  -- the next run and file buffer where a request is issued
  pub data Move (p : Past) : ClientRun → List ℕ → Type 0 where
    upload-opens : {r : Fields} {d : List ℕ} → p.run.direction ≡ Upload → p.run.step ≡ step.Opening
        → Answering p r d
        → opens_upload p.run r ≡ true
        → Move p (go_on 0 p.run.repeats (learned Upload r p.run)) p.file
    takes : {r : Fields} {d : List ℕ} → p.run.direction ≡ Upload → p.run.step ≡ step.Segment → Answering p r d
        → takes_segment p.run r ≡ true → Move p (go_on p.run.segment p.run.repeats p.run) p.file
    upload-returns : {r : Fields} {d : List ℕ} → p.run.direction ≡ Upload → p.run.step ≡ step.Segment
        → Answering p r d
        → upload_returns p.run r ≡ true → Move p (go_on (segment r) (p.run.repeats + 1) p.run) p.file
    download-opens : {r : Fields} {d : List ℕ} → p.run.direction ≡ Download → p.run.step ≡ step.Opening
        → Answering p r d
        → opens_download (length d) r ≡ true
        → Move p (go_on 1 p.run.repeats (holding (length d) (learned Download r p.run)))
        (file_with (learned Download r p.run) d p.file)
    brings : {r : Fields} {d : List ℕ} → p.run.direction ≡ Download → p.run.step ≡ step.Segment → Answering p r d
        → brings_segment p.run r (length d) ≡ true
        → Move p (go_on p.run.segment p.run.repeats (holding (length d) p.run))
        (file_with p.run d p.file)
    repeats : may_repeat p.run ≡ true → Move p (repeated p.run) p.file

  -- the word of a run that ends
  pub data Ends (p : Past) : Word → Type 0 where
    last_taken : {r : Fields} {d : List ℕ} → p.run.direction ≡ Upload → p.run.step ≡ step.Segment → Answering p r d
        → lodges p.run r ≡ true → Ends p word.Lodged
    cancelled : {r : Fields} {d : List ℕ} → p.run.direction ≡ Upload → p.run.step ≡ step.Segment → Answering p r d
        → ends_upload r ≡ true → Ends p word.NotLodged
    confirmed : {r : Fields} {d : List ℕ} → p.run.direction ≡ Download → p.run.step ≡ step.Receipt → Answering p r d
        → confirms p.run r ≡ true → Ends p word.Fetched
    otherwise : Ends p (rest_word p.run)

  pub data Change (p : Past) : Past → Type 0 where
    nothing : Change p p
    begins-with : (params : RunParameters) (l : Lent) → Begins p.run params l
        → Change p (issuing (begun params (begin_length params.direction (lengths_of l))) l.payload l.file
        l.time l.nonce p.issues)
    goes : {next : ClientRun} {file : List ℕ} (l : Lent) → Accepted p.run l → Kept l p → Move p next file
        → Change p (issuing next p.payload file l.time l.nonce p.issues)
    closes : {w : Word} (l : Lent) → Accepted p.run l → Kept l p → Ends p w → Change p (ending w p)

  -- ---- the calls

  by-kept : (P : List ℕ → List ℕ → Type 0) {l : Lent} {p : Past} → Kept l p → P p.payload p.file
      → P l.payload l.file
  by-kept P {l} {p} k h =
      subst (P l.payload) (sym k.file) (subst (λ (y : List ℕ). P y p.file) (sym k.payload) h)

  module _ (p : Past) (l : Lent) (k : Kept l p) (a : Accepted p.run l) where
    abbrev Leads : ClientCall → Type 0
    Leads x = Change p (left x.answer x l p)

    -- a request issued with the file buffer that g makes of the lent one
    moves : (next : ClientRun) (g : List ℕ → List ℕ) → Move p next (g p.file)
        → Leads (issued p.run next (g l.file) l)
    moves next g m =
        by-issue (Change p) p.run next (g l.file) l p nothing
        (by-kept (λ (y f : List ℕ). Change p (issuing next y (g f) l.time l.nonce p.issues)) k (goes l a k m))

    -- the segment that c has outstanding is answered
    after-segment : (c : ClientRun) (d : List ℕ)
        → Move p (go_on c.segment c.repeats (holding (length d) c)) (file_with c d p.file)
        → Leads (taken p.run c d l)
    unfolding taken
    after-segment c d m = moves (go_on c.segment c.repeats (holding (length d) c)) (file_with c d) m

    after-upload : (c : ClientRun) (d : List ℕ) → c.direction ≡ Upload
        → Move p (go_on c.segment c.repeats c) p.file
        → Leads (taken p.run c d l)
    after-upload c d up m =
        after-segment c d
        (subst (Move p (go_on c.segment c.repeats (holding (length d) c))) (sym (file-upload c up d p.file))
        (subst (λ (n : ClientRun). Move p (go_on c.segment c.repeats n) p.file)
        (sym (holding-upload c up (length d))) m))

    opened : (direction : Direction) (r : Fields) (d : List ℕ) → p.run.direction ≡ direction
        → Leads (taken p.run (learned direction r p.run) d l)
        → Leads (taken p.run (learned p.run.direction r p.run) d l)
    opened direction r d e h = subst (λ (w : Direction). Leads (taken p.run (learned w r p.run) d l)) (sym e) h

    ends : {w : Word} → Ends p w
        → Change p (record { run = ended w p.run; payload = l.payload; file = l.file; issues = p.issues })
    ends {w} m =
        by-kept
        (λ (y g : List ℕ). Change p (record { run = ended w p.run; payload = y; file = g; issues = p.issues })) k
        (closes l a k m)

    carried : {r : Fields} {d : List ℕ} {decision : Decision} → (is_answer p.run r ≡ true → Answering p r d)
        → Cause p.run r (length d) decision → Leads (carry_out decision p.run r d l)
    carried f (cause.not-answered h) =
        by-kept (λ (y g : List ℕ). Change p (record { run = p.run; payload = y; file = g; issues = p.issues })) k
        nothing
    carried {r} {d} f (cause.upload-opened w s h t) =
        opened Upload r d w (after-upload (learned Upload r p.run) d w (upload-opens w s (f h) t))
    carried f (cause.lodged w s h t) = ends (last_taken w s (f h) t)
    carried {r} {d} f (cause.segment-taken w s h t) = after-upload p.run d w (takes w s (f h) t)
    carried f (cause.upload-returned w s h t) = moves _ (λ g. g) (upload-returns w s (f h) t)
    carried f (cause.upload-refused w s h t) = ends (cancelled w s (f h) t)
    carried {r} {d} f (cause.download-opened w s h t) =
        opened Download r d w (after-segment (learned Download r p.run) d (download-opens w s (f h) t))
    carried f (cause.segment-brought w s h t) = after-segment p.run _ (brings w s (f h) t)
    carried f (cause.fetched w s h t) = ends (confirmed w s (f h) t)
    carried f cause.rest = ends otherwise
    carried f (cause.no-reply h) = moves _ (λ g. g) (repeats h)

  -- no reply answers nothing
  unanswered : {A : Type 0} (c : ClientRun) → is_answer c no_fields ≡ true → A
  unfolding is_answer form_of find_form row_fits
  unanswered c h = never h

  -- a call given a number changes nothing
  by_number : (p : Past) (l : Lent) (k : ClientCall) (x : Result Answer Refusal) → (answer_number x ≡ 0 → Change p (left x k l p))
      → Change p (left x k l p)
  by_number p l k (Ok (answer.Request n)) f = f refl
  by_number p l k (Ok answer.Ignored) f = f refl
  by_number p l k (Ok (answer.Closed w)) f = f refl
  by_number p l k (Err r) f = nothing

  module _ (p : Past) (l : Lent) (r : Fields) (d : List ℕ) (decision : Decision)
      (z : Cause p.run r (length d) decision) where
    -- where the ruling gives no number, the decision is carried out
    ruled : (u : Result (Unit {0}) Refusal) → run_ruling p.run l.time (lengths_of l) ≡ u
        → let k = if_admitted u p.run l (carry_out decision p.run r d l) in
        (answer_number k.answer ≡ 0 → Kept l p × (is_answer p.run r ≡ true → Answering p r d))
        → Change p (left k.answer k l p)
    ruled (Err x) e f = nothing
    ruled (Ok u) e f =
        let k = carry_out decision p.run r d l in
        by_number p l k k.answer (λ n. carried p l (f n).0 (accepted p.run l e) (f n).1 z)

  begins-change : (p : Past) (params : RunParameters) (l : Lent) (u : Result (Unit {0}) Refusal)
      → begin_ruling p.run params l.time (lengths_of l) ≡ u
      → let k = if_admitted u p.run l (admitted_begin p.run params l) in Change p (left k.answer k l p)
  begins-change p params l (Err x) e = nothing
  begins-change p params l (Ok u) e =
      by-issue (Change p) p.run _ l.file l p nothing
      (begins-with params l (begins p.run params l e))

  pub changes : (p : Past) (e : Event) → Fair Given e p → Change p (after e p)
  unfolding after begin_call reply_call no_reply_call
  changes p (Begin params l) f = begins-change p params l (begin_ruling p.run params l.time (lengths_of l)) refl
  changes p (Reply frame l) f =
      let r = read_reply frame in
      let d = data_of frame in
      ruled p l r d (on_reply p.run r (length d)) (by-reply p.run r (length d)) _ refl
      (λ n.
      let g = f n in
      (g.0, λ h. record { answers = h; issue = g.1.issue; own = g.1.own; given = g.1.given }))
  changes p (NoReply l) f =
      ruled p l no_fields [] (on_no_reply p.run) (by-no-reply p.run no_fields 0) _ refl
      (λ n. (f n, λ h. unanswered p.run h))
