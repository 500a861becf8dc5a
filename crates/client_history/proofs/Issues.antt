-- What a run of either direction keeps: exchange numbers, the newest issue, and that a reply that counts answers the
-- outstanding request.
use Prim.Native.Nat.{ℕ, ◌+◌, ◌<◌}
use mathlib.Core.List.Memᴰ.{head as here}
use mathlib.Core.List.Memᴰ.{not-nil as in-none}
use mathlib.Core.List.Memᴰ.{tail as there}
use mathlib.Core.List.{
  List,
  ◌∷◌,
  Memᴰ as In,
}
use mathlib.Core.Path.{◌≡◌, refl, sym, ap, ◌∙◌, subst}
use native.Mathlib.Omega.{arith}
use Rattle.frame_table.specs.declared.fields.Bits128.{Bits128}
use Rattle.frame_table.specs.declared.fields.Fields.{Fields}
use Rattle.frame_table.specs.declared.table.Form.{Form}
use Rattle.frame_table.specs.Names.{exchange, form}
use Rattle.message.specs.declared.codes.ReturnCode.{ReturnCode}
use Rattle.client_run.specs.declared.run.ClientRun.{ClientRun}
use Rattle.message.specs.declared.directions.Direction.{Direction}
use Rattle.message.specs.declared.directions.Direction.TheVariants.{Upload, Download}
use Rattle.client_run.specs.declared.run.Step.{Step}
use Rattle.client_run.specs.declared.run.Step.TheVariants as step
use Rattle.client_run.specs.declared.run.Word.{Word}
use Rattle.client_run.specs.NextRun.{ended}
use Rattle.client_run.specs.Requests.{upload_request, download_request, request_by, data_by, outstanding, outstanding_data}
use Rattle.client_history.specs.History.{Issue, Past, held_of, issue_of, issuing, BankReplies}
use Rattle.client_history.specs.Bounds.{Numbered, none, more}
use Rattle.client_history.specs.Invariant.{Newest, Begun, Answered, Got}
use Rattle.client_history.proofs.Changes.{Answering, ending}
use Rattle.client_rules.proofs.Replies.{Says, is-answer}

-- ---- exchange numbers

pub below : {first n : ℕ} {l : List Issue} {x : Issue} → Numbered first n l → In x l → exchange x.request < n
below none m = absurd (in-none m)
below (more e f k) (here i) = let j = ap (λ (y : Issue). exchange y.request) i in omega arith
below (more e f k) (there m) = let j = below k m in omega arith

-- no two issues under one exchange number
pub one_number : {first n : ℕ} {l : List Issue} {x y : Issue} → Numbered first n l → In x l → In y l
    → exchange x.request ≡ exchange y.request
    → x ≡ y
one_number none m k e = absurd (in-none m)
one_number (more a b c) (here i) (here j) e = i ∙ sym j
one_number (more a b c) (here i) (there k) e =
    absurd (let j = below c k in let h = ap (λ (z : Issue). exchange z.request) i in omega arith)
one_number (more a b c) (there m) (here j) e =
    absurd (let i = below c m in let h = ap (λ (z : Issue). exchange z.request) j in omega arith)
one_number (more a b c) (there m) (there k) e = one_number c m k e

older-below : {n first : ℕ} {l : List Issue} {y x : Issue} → Numbered first (n + 1) (y ∷ l) → In x l
    → exchange x.request < n
older-below (more e f k) m = let j = below k m in omega arith

-- ---- the end of a run changes no request

module _ (w : Word) (c : ClientRun) (time : ℕ) (nonce payload : List ℕ) where
  upload-ended : (s : Step) → upload_request s (ended w c) time nonce ≡ upload_request s c time nonce
  unfolding ended
  upload-ended step.Opening = refl
  upload-ended step.Segment = refl
  upload-ended step.Receipt = refl

  download-ended : (s : Step) → download_request s (ended w c) time nonce ≡ download_request s c time nonce
  unfolding ended
  download-ended step.Opening = refl
  download-ended step.Segment = refl
  download-ended step.Receipt = refl

  request-ended : (direction : Direction)
      → request_by direction (ended w c) time nonce ≡ request_by direction c time nonce
  unfolding ended
  request-ended Upload = upload-ended c.step
  request-ended Download = download-ended c.step

  data-ended : (direction : Direction) → data_by direction (ended w c) payload ≡ data_by direction c payload
  unfolding ended
  data-ended Upload = refl
  data-ended Download = refl

  pub issue-ended : (file : List ℕ) → issue_of (ended w c) payload file time nonce ≡ issue_of c payload file time nonce
  unfolding outstanding outstanding_data ended
  issue-ended file =
      let q = request-ended c.direction in
      let d = data-ended c.direction in
      λ i. record { request = q i; request_data = d i; file = held_of c file }

-- ---- the newest issue

pub newest-issued : (next : ClientRun) (payload file : List ℕ) (time : ℕ) (nonce : List ℕ) (issues : List Issue)
    → Newest (issuing next payload file time nonce issues)
newest-issued next payload file time nonce issues = record { time = time; nonce = nonce; older = issues; are = refl }

pub newest-ended : (w : Word) (p : Past) → Newest p → Newest (ending w p)
newest-ended w p n = record {
  time = n.time;
  nonce = n.nonce;
  older = n.older;
  are =
      n.are
      ∙ ap (λ (x : Issue). x ∷ n.older) (sym (issue-ended w p.run n.time n.nonce p.payload p.file));
}

-- ---- a reply that counts was given to the outstanding request

module _ (Given : Fields → List ℕ → Fields → List ℕ → Type 0) where
  module _ (file_at : Bits128 → List ℕ) (bank : BankReplies Given file_at) where
    pub answered : (p : Past) (r : Fields) (d : List ℕ) → Begun p → Answering Given p r d → Answered Given p r d
    answered p r d b a = go (subst (In a.issue) n.are a.own)
      where
        n : Newest p
        n = b.newest

        same : exchange a.issue.request ≡ p.run.exchange
        same =
            let k = is-answer p.run r a.answers in sym
            (bank.same_exchange a.given k.reply k.readable) ∙ k.number

        go : In a.issue (issue_of p.run p.payload p.file n.time n.nonce ∷ n.older)
            → Answered Given p r d
        go (here e) = record {
          time = n.time;
          nonce = n.nonce;
          own = subst (λ (x : Issue). In x p.issues) e a.own;
          given = subst (λ (x : Issue). Given x.request x.request_data r d) e a.given;
        }
        go (there m) =
            let k = older-below
            (subst (Numbered b.bounded.first (p.run.exchange + 1)) n.are b.bounded.numbers) m in
            absurd (omega (arith, same))

  -- it was got by the outstanding request
  abbrev pub got : {p : Past} {r : Fields} {d : List ℕ} {x y : Form} {c : ReturnCode} {phase : ℕ}
      → (a : Answered Given p r d)
      → form (outstanding p.run a.time a.nonce) ≡ x → Says y c phase r → Got Given p.issues x y c
  got {p} {r} {d} a f s = record {
    issue = issue_of p.run p.payload p.file a.time a.nonce;
    own = a.own;
    asked = f;
    reply = r;
    bytes = d;
    given = a.given;
    answered = s.form-is;
    code = s.code_is;
  }

  -- and stays so as more is issued
  abbrev pub got_in : {l m : List Issue} {x y : Form} {c : ReturnCode} → ((i : Issue) → In i l → In i m)
      → Got Given l x y c
      → Got Given m x y c
  got_in f g = record {
    issue = g.issue;
    own = f g.issue g.own;
    asked = g.asked;
    reply = g.reply;
    bytes = g.bytes;
    given = g.given;
    answered = g.answered;
    code = g.code;
  }
