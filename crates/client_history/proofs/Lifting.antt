-- The invariant stays as more replies are given and more transactions are opened.
use Prim.Native.Nat.{ℕ}
use mathlib.Core.Bool.{true}
use mathlib.Core.List.{List}
use mathlib.Core.Logic.{inl, inr}
use mathlib.Core.Path.{◌≡◌, refl, sym, ap, subst}
use native.Mathlib.Omega.{arith}
use Rattle.frame_table.specs.declared.fields.Bits128.{Bits128}
use Rattle.frame_table.specs.declared.fields.Fields.{Fields}
use Rattle.frame_table.specs.declared.table.Form.{Form}
use Rattle.message.specs.declared.codes.ReturnCode.{ReturnCode}
use Rattle.client_run.specs.declared.run.ClientRun.{ClientRun}
use Rattle.client_run.specs.declared.run.RunTerms.{RunTerms}
use Rattle.client_run.specs.declared.run.Stage.{Stage}
use Rattle.client_run.specs.declared.run.Stage.TheVariants as stage
use Rattle.client_run.specs.declared.run.Step.{Step}
use Rattle.client_run.specs.declared.run.Step.TheVariants as step
use Rattle.client_run.specs.declared.run.Word.{Word}
use Rattle.client_run.specs.declared.run.Word.TheVariants as word
use Rattle.client_history.specs.History.{Issue, Past, held_count}
use Rattle.client_history.specs.Invariant.{
  is_open,
  DownloadIssue,
  Got,
  OpenedAs,
  UploadStep,
  UploadWord,
  UploadStage,
  UploadRun,
  Brought,
  HeldFile,
  FileHeld,
  DownloadStep,
  DownloadWord,
  DownloadStage,
  DownloadRun,
  Invariant,
  not-begun,
  upload,
  download,
}
use Rattle.client_history.proofs.Downloads.{unasked}

module _ (Given Later : Fields → List ℕ → Fields → List ℕ → Type 0)
    (up : (q r : Fields) (d e : List ℕ) → Given q d r e → Later q d r e) where
  abbrev got-up : {l : List Issue} {x y : Form} {c : ReturnCode} → Got Given l x y c → Got Later l x y c
  got-up g = record {
    issue = g.issue;
    own = g.own;
    asked = g.asked;
    reply = g.reply;
    bytes = g.bytes;
    given = up _ _ _ _ g.given;
    answered = g.answered;
    code = g.code;
  }

  -- ---- upload

  open_up : {terms : RunTerms} {t : Bits128} {n : ℕ} {l : List Issue} → OpenedAs Given terms t n l
      → OpenedAs Later terms t n l
  open_up o = record { got = got-up o.got; phase-1 = o.phase-1; id = o.id; number = o.number }

  module _ (c : ClientRun) (payload : List ℕ) (l : List Issue) (u : UploadRun Given c payload l) where
    upload-step-up : (s : Step) → UploadStep Given s c l → UploadStep Later s c l
    upload-step-up step.Opening k = k
    upload-step-up step.Segment k = open_up k
    upload-step-up step.Receipt k = k

    upload-word-up : (w : Word) → UploadWord Given w c l → UploadWord Later w c l
    upload-word-up word.Lodged k =
        record { got = got-up k.got; last = k.last; id = k.id; opened = open_up k.opened }
    upload-word-up word.NotLodged (inl k) = inl k
    upload-word-up word.NotLodged (inr k) =
        inr (record { why = k.why; one = k.one; got = got-up k.got; phase-2 = k.phase-2; id = k.id })
    upload-word-up word.Unclear k = k
    upload-word-up word.Fetched k = k
    upload-word-up word.HeldUnconfirmed k = k
    upload-word-up word.NotFetched k = k

    upload-stage-up : (s : Stage) → UploadStage Given s c l → UploadStage Later s c l
    upload-stage-up stage.NotBegun k = k
    upload-stage-up stage.Running k = k
    upload-stage-up (stage.Ended w) k = upload-word-up w k

    upload-up : UploadRun Later c payload l
    upload-up = record {
      direction = u.direction;
      size = u.size;
      each = u.each;
      step = upload-step-up c.step u.step;
      stage = upload-stage-up c.stage u.stage;
    }

  -- ---- download, its transaction's file the same once it is open

  brought-up : {t : Bits128} {n : ℕ} → Brought Given t n → Brought Later t n
  brought-up b = record {
    request = b.request;
    request_data = b.request_data;
    reply = b.reply;
    bytes = b.bytes;
    given = up _ _ _ _ b.given;
    formed = b.formed;
    id = b.id;
    number = b.number;
  }

  held_up : {f : List ℕ} {t : Bits128} {n held size : ℕ} {file : List ℕ} {l : List Issue}
      → HeldFile Given f t n held size file l
      → HeldFile Later f t n held size file l
  held_up h = record {
    got = got-up h.got;
    id = h.id;
    number = h.number;
    least = h.least;
    most = h.most;
    some = h.some;
    top = h.top;
    last = brought-up h.last;
    end = h.end;
    bytes = h.bytes;
  }

  module _ (file_at file_later : Bits128 → List ℕ) where
    module _ (c : ClientRun) (file : List ℕ) (l : List Issue) (u : DownloadRun Given file_at c file l)
        (f : is_open c.step ≡ true → file_at c.transaction ≡ file_later c.transaction) where
      file-up : is_open c.step ≡ true → FileHeld Given file_at c file l → FileHeld Later file_later c file l
      file-up o h =
          subst (λ (g : List ℕ). HeldFile Later g c.transaction c.segments (held_count c) c.length file l) (f o)
          (held_up h)

      step-up : (s : Step) → is_open s ≡ is_open c.step → DownloadStep Given file_at s c file l
          → DownloadStep Later file_later s c file l
      step-up step.Opening e k = k
      step-up step.Segment e k = file-up (sym e) k
      step-up step.Receipt e k = file-up (sym e) k

      -- a run that holds a segment is open
      open_by : (s : Step) → DownloadStep Given file_at s c file l → FileHeld Given file_at c file l → is_open s ≡ true
      open_by step.Opening k h = absurd (let a = k.0 in let b = h.some in omega arith)
      open_by step.Segment k h = refl
      open_by step.Receipt k h = refl

      word-up : (w : Word) → DownloadWord Given file_at w c file l → DownloadWord Later file_later w c file l
      word-up word.Lodged k = k
      word-up word.NotLodged k = k
      word-up word.Unclear k = k
      word-up word.Fetched k = record {
        held = file-up (open_by c.step u.step k.held) k.held;
        whole = k.whole;
        got = got-up k.got;
        id = k.id;
      }
      word-up word.HeldUnconfirmed k = k
      word-up word.NotFetched k = k

      stage-up : (s : Stage) → DownloadStage Given file_at s c file l → DownloadStage Later file_later s c file l
      stage-up stage.NotBegun k = k
      stage-up stage.Running k = k
      stage-up (stage.Ended w) k = word-up w k

      abbrev Issued : List ℕ → Issue → Type 0
      Issued g x = DownloadIssue c.subscriber c.segments c.transaction c.step c.segment g x

      each-up : (s : Step) → c.step ≡ s → DownloadStep Given file_at s c file l → (x : Issue)
          → Issued (file_at c.transaction) x
          → Issued (file_later c.transaction) x
      each-up step.Opening e k x i = unasked e k.0 i
      each-up step.Segment e k x i = subst (λ (g : List ℕ). Issued g x) (f (ap is_open e)) i
      each-up step.Receipt e k x i = subst (λ (g : List ℕ). Issued g x) (f (ap is_open e)) i

      download-up : DownloadRun Later file_later c file l
      download-up = record {
        direction = u.direction;
        each = λ x m. each-up c.step refl u.step x (u.each x m);
        step = step-up c.step refl u.step;
        stage = stage-up c.stage u.stage;
      }

    pub lifted : (p : Past)
        → (is_open p.run.step ≡ true → file_at p.run.transaction ≡ file_later p.run.transaction)
        → Invariant Given file_at p → Invariant Later file_later p
    lifted p f (not-begun e g) = not-begun e g
    lifted p f (upload b u) = upload b (upload-up p.run p.payload p.issues u)
    lifted p f (download b u) = download b (download-up p.run p.file p.issues u f)
