-- What an upload run keeps.
use Prim.Native.Nat.{ℕ, ◌+◌, ◌≤◌, max}
use mathlib.Core.Bool.{true}
use mathlib.Core.List.Memᴰ.{head as here}
use mathlib.Core.List.Memᴰ.{not-nil as in-none}
use mathlib.Core.List.Memᴰ.{tail as there}
use mathlib.Core.List.{
  List,
  [],
  ◌∷◌,
  Memᴰ as In,
}
use mathlib.Core.Logic.{inl, inr}
use mathlib.Core.Path.{◌≡◌, refl, sym, ap, ◌∙◌, subst}
use native.Mathlib.Omega.{arith}
use lib.Dec.{ltb, eqb}
use lib.ListN.{length}
use borrow.Author.Tests.{ltb-true, ltb-false, eqb-true}
use Rattle.frame_table.specs.declared.fields.Bits128.{Bits128}
use Rattle.frame_table.specs.declared.fields.Fields.{Fields}
use Rattle.frame_table.specs.Forms as forms
use Rattle.frame_table.specs.Names.{transaction, segment, form}
use Rattle.octets.proofs.Tests.{and-true}
use Rattle.message.specs.Requests.{upload_transfer}
use Rattle.message.specs.Segments.{segments_of, last_mark_of}
use Rattle.client_run.specs.declared.run.ClientRun.{ClientRun}
use Rattle.message.specs.declared.directions.Direction.{Direction}
use Rattle.message.specs.declared.directions.Direction.TheVariants.{Upload}
use Rattle.client_run.specs.declared.run.RunTerms.{RunTerms}
use Rattle.message.specs.Editions.{order_opened}
use Rattle.client_run.specs.declared.run.Stage.{Stage}
use Rattle.client_run.specs.declared.run.Stage.TheVariants as stage
use Rattle.client_run.specs.declared.run.Step.{Step}
use Rattle.client_run.specs.declared.run.Step.TheVariants as step
use Rattle.client_run.specs.declared.run.Word.{Word}
use Rattle.client_run.specs.declared.run.Word.TheVariants as word
use Rattle.client_run.specs.NextRun.{begun, step_after, go_on, repeated, learned, ended}
use Rattle.client_run.specs.Requests.{nonce_of, outstanding}
use Rattle.client_run.specs.Run.{parameters_of}
use Rattle.client_rules.specs.Decisions.{opens_upload, answers_segment, closing_word, rest_word, ends_upload, lodges}
use Rattle.client_history.specs.History.{Issue, Past, issue_of}
use Rattle.client_history.specs.Invariant.{
  UploadIssue,
  upload_opens,
  sends,
  Answered,
  OpenedAs,
  UploadOpen,
  UploadStep,
  UploadWord,
  UploadStage,
  UploadRun,
}
use Rattle.message.proofs.Verdicts.{by-test}
use Rattle.client_rules.proofs.Causes.{Answers, answers}
use Rattle.client_history.proofs.Course.{UploadAt}
use Rattle.client_history.proofs.Issues.{got, got_in}
use Rattle.client_rules.proofs.Replies.{said, cancels}
use Rattle.client_history.proofs.Requests.{
  form-opening,
  form-upload_transfer,
  segment-upload_transfer,
  id-upload_transfer,
  number-opening,
  is-upload_opening,
  is-upload_transfer,
  data-opening,
  data-transfer,
}

-- ---- the requests issued, as the run goes on

higher : {terms : RunTerms} {s n top more : ℕ} {t : Bits128} {payload : List ℕ} {x : Issue} → top ≤ more → UploadIssue terms s n t top payload x
    → UploadIssue terms s n t more payload x
higher h (upload_opens number time nonce q d) = upload_opens number time nonce q d
higher h (sends number j a b q d) = sends number j a (omega arith) q d

-- with no segment issued the transaction is open to choice
unsent : {terms : RunTerms} {s n top more : ℕ} {t u : Bits128} {payload : List ℕ} {x : Issue} → top ≡ 0 → UploadIssue terms s n t top payload x
    → UploadIssue terms s n u more payload x
unsent h (upload_opens number time nonce q d) = upload_opens number time nonce q d
unsent h (sends number j a b q d) = absurd (omega arith)

-- "lodged (segment N answered 000000)"
lodged-last : (c : ClientRun) (r : Fields) → lodges c r ≡ true
    → Answers forms.SegmentTaken c r × (c.segment ≡ c.segments)
unfolding lodges
lodged-last c r h =
    let a = and-true (answers_segment forms.SegmentTaken c r) (eqb c.segment c.segments) h in
    (answers forms.SegmentTaken c r a.0, eqb-true c.segment c.segments a.1)

module _ (Given : Fields → List ℕ → Fields → List ℕ → Type 0) where
  open-for : {terms : RunTerms} {t : Bits128} {n : ℕ} {l m : List Issue} → ((x : Issue) → In x l → In x m)
      → OpenedAs Given terms t n l → OpenedAs Given terms t n m
  open-for f o =
      record { got = got_in Given f o.got; phase-1 = o.phase-1; id = o.id; number = o.number }

  -- the outstanding request is one that the run may issue
  outstanding-issue : (c : ClientRun) (payload file : List ℕ) (time : ℕ) (nonce : List ℕ) (issues : List Issue)
      → c.direction ≡ Upload
      → (s : Step) → c.step ≡ s → UploadAt s c → UploadStep Given s c issues
      → UploadIssue c.terms c.subscriber c.segments c.transaction c.issued payload
      (issue_of c payload file time nonce)
  outstanding-issue c payload file time nonce issues up step.Opening e p k =
      upload_opens c.exchange time (nonce_of nonce c.exchange) (is-upload_opening c time nonce payload up e)
      (data-opening c time nonce payload up e)
  outstanding-issue c payload file time nonce issues up step.Segment e p k =
      sends c.exchange c.segment p.0 p.1 (is-upload_transfer c time nonce payload up e)
      (data-transfer c time nonce payload up e)
  outstanding-issue c payload file time nonce issues up step.Receipt e p k = absurd k

  -- an open upload that runs
  record Ready (c : ClientRun) (payload : List ℕ) (issues : List Issue) : Type 0 where
    direction : c.direction ≡ Upload
    running : c.stage ≡ stage.Running
    size : c.length ≡ length payload
    each : (x : Issue) → In x issues → UploadIssue c.terms c.subscriber c.segments c.transaction c.issued payload x
    opened : UploadOpen Given c issues

  goes_on : (c : ClientRun) (payload file : List ℕ) (issues : List Issue) (k repeats time : ℕ) (nonce : List ℕ)
      → Ready c payload issues
      → UploadRun Given (go_on k repeats c) payload (issue_of (go_on k repeats c) payload file time nonce ∷ issues)
  unfolding go_on
  goes_on c payload file issues k repeats time nonce r =
      record {
        direction = r.direction;
        size = r.size;
        each = each;
        step = subst (λ (s : Step). UploadStep Given s next (new ∷ issues)) (sym at) stepped;
        stage = subst (λ (s : Stage). UploadStage Given s next (new ∷ issues)) (sym r.running) tt;
      }
    where
      next : ClientRun
      next = go_on k repeats c

      new : Issue
      new = issue_of next payload file time nonce

      at : step_after c.direction k c.segments ≡ step.Segment
      at = ap (λ (w : Direction). step_after w k c.segments) r.direction

      stepped : UploadStep Given step.Segment next (new ∷ issues)
      stepped = open-for (λ x m. there m) r.opened

      each : (x : Issue) → In x (new ∷ issues)
          → UploadIssue c.terms c.subscriber c.segments c.transaction (max c.issued (k + 1)) payload x
      each x (here e) =
          subst (UploadIssue _ _ _ _ _ _) (sym e)
          (outstanding-issue next payload file time nonce (new ∷ issues) r.direction step.Segment at
          (omega arith, omega arith) stepped)
      each x (there m) = higher (omega arith) (r.each x m)

  module _ (c : ClientRun) (payload file : List ℕ) (issues : List Issue) (u : UploadRun Given c payload issues)
      (running : c.stage ≡ stage.Running) where
    ready : c.step ≡ step.Segment → Ready c payload issues
    ready e = record {
      direction = u.direction;
      running = running;
      size = u.size;
      each = u.each;
      opened = subst (λ (s : Step). UploadStep Given s c issues) e u.step;
    }

    -- ---- the next request

    module _ (time : ℕ) (nonce : List ℕ) where
      abbrev Goes : ClientRun → Type 0
      Goes next = UploadRun Given next payload (issue_of next payload file time nonce ∷ issues)

      pub next-run : c.step ≡ step.Segment → (k repeats : ℕ) → Goes (go_on k repeats c)
      next-run e k repeats = goes_on c payload file issues k repeats time nonce (ready e)

      pub repeated-run : UploadAt c.step c → Goes (repeated c)
      unfolding repeated
      repeated-run place = record {
        direction = u.direction;
        size = u.size;
        each = each;
        step = stepped c.step u.step;
        stage = subst (λ (s : Stage). UploadStage Given s next (new ∷ issues)) (sym running) tt;
      }
        where
          next : ClientRun
          next = repeated c

          new : Issue
          new = issue_of next payload file time nonce

          placed : (s : Step) → UploadAt s c → UploadAt s next
          placed step.Opening k = k
          placed step.Segment k = k
          placed step.Receipt k = k

          stepped : (s : Step) → UploadStep Given s c issues → UploadStep Given s next (new ∷ issues)
          stepped step.Opening k = k
          stepped step.Segment k = open-for (λ x m. there m) k
          stepped step.Receipt k = k

          each : (x : Issue) → In x (new ∷ issues)
              → UploadIssue c.terms c.subscriber c.segments c.transaction c.issued payload x
          each x (here e) =
              subst (UploadIssue _ _ _ _ _ _) (sym e)
              (outstanding-issue next payload file time nonce (new ∷ issues) u.direction c.step refl
              (placed c.step place) (stepped c.step u.step))
          each x (there m) = u.each x m

    -- ---- the opening's answer

    abbrev p : Past
    p = record { run = c; payload = payload; file = file; issues = issues }

    pub opened-run : (r : Fields) (d : List ℕ) (time : ℕ) (nonce : List ℕ) → c.step ≡ step.Opening
        → Answered Given p r d
        → opens_upload c r ≡ true
        → Goes time nonce (go_on 0 c.repeats (learned Upload r c))
    opened-run r d time nonce e a h =
        goes_on (learned Upload r c) payload file issues 0 c.repeats time nonce
        (record {
          direction = u.direction;
          running = running;
          size = u.size;
          each = λ x m. unsent (subst (λ (s : Step). UploadStep Given s c issues) e u.step) (u.each x m);
          opened = record {
            got =
                got Given {p = p} a
                (ap form (is-upload_opening c a.time a.nonce payload u.direction e)
                ∙ form-opening c.terms.edition _ _ _ _ _ _)
                (said _ _ _ r h);
            phase-1 = (said _ _ _ r h).phase-is;
            id = refl;
            number =
                ap (λ (q : Fields). order_opened q r)
                (is-upload_opening c a.time a.nonce payload u.direction e)
                ∙ number-opening c.terms.edition c.terms _ _ _ _ _ r;
          };
        })

    -- ---- the closing words

    abbrev Closes : Word → Type 0
    Closes w = UploadRun Given (ended w c) payload issues

    ended-with : (w : Word) → UploadWord Given w (ended w c) issues → Closes w
    unfolding ended
    ended-with w k = record {
      direction = u.direction;
      size = u.size;
      each = u.each;
      step = stepped c.step u.step;
      stage = k;
    }
      where
        stepped : (s : Step) → UploadStep Given s c issues → UploadStep Given s (ended w c) issues
        stepped step.Opening k = k
        stepped step.Segment k = open-for (λ x m. m) k
        stepped step.Receipt k = k

    pub rest-run : Closes (rest_word c)
    unfolding rest_word ended
    rest-run =
        subst (λ (w : Direction). Closes (closing_word w c)) (sym u.direction)
        (by-test Closes (ltb c.issued c.segments)
        (λ h. ended-with word.NotLodged (inl (ltb-true c.issued c.segments h)))
        (λ h. ended-with word.Unclear (ltb-false c.issued c.segments h)))

    module _ (r : Fields) (d : List ℕ) (e : c.step ≡ step.Segment) (a : Answered Given p r d) where
      asked : outstanding c a.time a.nonce
          ≡ upload_transfer c.subscriber c.exchange c.transaction c.segment
          (last_mark_of c.segment c.segments)
      asked = is-upload_transfer c a.time a.nonce payload u.direction e

      asked-form : form (outstanding c a.time a.nonce) ≡ forms.UploadTransfer
      asked-form = ap form asked ∙ form-upload_transfer _ _ _ _ _

      asked-id : transaction (outstanding c a.time a.nonce) ≡ c.transaction
      asked-id = ap transaction asked ∙ id-upload_transfer _ _ _ _ _

      pub lodged-run : lodges c r ≡ true → Closes word.Lodged
      unfolding ended
      lodged-run h =
          let k = lodged-last c r h in
          ended-with word.Lodged
          (record {
            got = got Given {p = p} a asked-form (said _ _ _ r k.0.said);
            last = ap segment asked ∙ segment-upload_transfer _ _ _ _ _ ∙ k.1;
            id = asked-id;
            opened = open-for (λ x m. m) (ready e).opened;
          })

      pub cancelled-run : ends_upload r ≡ true → Closes word.NotLodged
      unfolding ended
      cancelled-run h =
          let k = cancels r h in
          ended-with word.NotLodged
          (inr (record {
            why = k.why;
            one = k.one;
            got = got Given {p = p} a asked-form k.says_so;
            phase-2 = k.says_so.phase-is;
            id = asked-id;
          }))

  -- ---- the begin

  pub begun-run : (s first : ℕ) (terms : RunTerms) (time : ℕ) (nonce payload file : List ℕ) (issues : List Issue) → issues ≡ []
      → let next = begun (parameters_of Upload s first terms) (length payload) in
      UploadRun Given next payload (issue_of next payload file time nonce ∷ issues)
  unfolding begun
  begun-run s first terms time nonce payload file issues z =
      record {
        direction = refl;
        size = refl;
        each = each;
        step = refl;
        stage = tt;
      }
    where
      next : ClientRun
      next = begun (parameters_of Upload s first terms) (length payload)

      new : Issue
      new = issue_of next payload file time nonce

      each : (x : Issue) → In x (new ∷ issues)
          → UploadIssue terms s (segments_of (length payload)) next.transaction 0 payload x
      each x (here e) =
          subst (UploadIssue _ _ _ _ _ _) (sym e)
          (outstanding-issue next payload file time nonce (new ∷ issues) refl step.Opening refl tt refl)
      each x (there m) = absurd (in-none (subst (In x) z m))
