-- The request that a run has outstanding, among those that the bank received, and replies to other requests. Assumes nothing.
use Rattle.client_run.specs.declared.run.Refusal.{Refusal}
use Rattle.std.specs.Prelude.{Err, Ok, Result}
use Prim.Native.Nat.{ℕ}
use mathlib.Core.Bool.{Bool, true, false}
use mathlib.Core.List.Memᴰ.{head as here}
use mathlib.Core.List.{List, Memᴰ as In}
use mathlib.Core.Path.{◌≡◌, refl, sym, ap, ◌∙◌, subst}
use Rattle.frame_table.specs.Names.{exchange}
use Rattle.frame_reader.specs.Reader.{read_request, read_reply}
use Rattle.frame_row.specs.Row.{data_of}
use Rattle.client_run.specs.declared.run.Answer.TheVariants as answer
use Rattle.client_run.specs.declared.run.ClientRun.{ClientRun}
use Rattle.client_run.specs.declared.run.Stage.TheVariants as stage
use Rattle.client.specs.Calls.{if_admitted, admitted_reply, reply_call}
use Rattle.client_run.specs.Requests.{outstanding, outstanding_data}
use Rattle.client_run.specs.Run.{Lent, lengths_of, answer_number}
use Rattle.client_rules.specs.Decisions.{is_answer, on_reply}
use Rattle.client_rules.specs.Rulings.{is_begun, run_ruling}
use Rattle.client_rules.proofs.Accepted.{accepted}
use Rattle.client_rules.proofs.Replies.{is-answer}
use Rattle.client_history.specs.History.{Reply, issue_of, GivenTo}
use Rattle.client_history.specs.History as history
use Rattle.client_history.proofs.Liveness.{numbered}
use Rattle.client_history.proofs.Requests.{outstanding-exchange}
use Rattle.client_history.proofs.Theorems.{newest-outstanding, ignored-stays}
use Rattle.exchange.specs.Course.{Issue, Exchange, Course}
use Rattle.exchange.specs.Terms.{IssuedBy}
use Rattle.exchange.specs.Demand3.{OneExchangeNumber}
use Rattle.exchange.proofs.Told.{Gave, file_in, bank-replies}
use Rattle.exchange.proofs.Bank.{found}
use Rattle.exchange.proofs.Clients.{as_issue, run_past, issued-in, issue-of, Parts, own_past, begun-same}
use Rattle.exchange.proofs.Issues.{number_of, one-issue}

-- a copy of the run's request under its exchange number is a copy of the outstanding request
pub record Asked (s : Course) (v : Parts s) (i : ℕ) (frame : List ℕ) : Type 0 where
  pub time : ℕ
  pub nonce : List ℕ
  pub request : read_request frame ≡ outstanding (own_past v i).run time nonce
  pub bytes : data_of frame ≡ outstanding_data (own_past v i).run (s.payloads i)

-- the issue of the request that a begun run has outstanding
pub record Pending (s : Course) (v : Parts s) (i : ℕ) : Type 0 where
  pub time : ℕ
  pub nonce : List ℕ
  pub issue : Issue
  pub own : In issue s.issued
  pub run : issue.run ≡ i
  pub same : as_issue issue ≡ issue_of (own_past v i).run (s.payloads i) (s.files i) time nonce
  pub number : number_of issue ≡ (s.runs i).exchange

pub outstanding-issue : (s : Course) (v : Parts s) (i : ℕ) → is_begun (s.runs i).stage ≡ true → Pending s v i
outstanding-issue s v i begun =
    let h = v.bank.past.history in
    let n = newest-outstanding (Gave h) (file_in h) (bank-replies h v.bank.holds.invariant.sound v.bank.proper) (own_past v i)
    (v.runs i).own (begun-same s v i ∙ begun) in
    let o : history.Issue = issue_of (own_past v i).run (s.payloads i) (s.files i) n.time n.nonce in
    let y = issue-of i s.issued (subst (In o) (sym n.are) (here refl)) in
    record {
      time = n.time;
      nonce = n.nonce;
      issue = y.issue;
      own = y.own;
      run = y.run;
      same = y.same;
      number = ap (λ (u : history.Issue). exchange u.request) y.same
          ∙ outstanding-exchange (own_past v i).run n.time n.nonce (s.payloads i);
    }

pub own-outstanding : (s : Course) (v : Parts s) → OneExchangeNumber s → (i : ℕ) (frame : List ℕ) → is_begun (s.runs i).stage ≡ true →
    IssuedBy i frame s → exchange (read_request frame) ≡ (s.runs i).exchange → Asked s v i frame
own-outstanding s v numbers i frame begun (x, m, r, f) number =
    let y = outstanding-issue s v i begun in
    let same : y.issue ≡ x =
    one-issue s numbers y.own m (y.number ∙ sym number ∙ ap (λ (l : List ℕ). exchange (read_request l)) (sym f)) in
    record {
      time = y.time;
      nonce = y.nonce;
      request = ap read_request (sym f) ∙ ap (λ (u : Issue). read_request u.frame) (sym same)
          ∙ ap (λ (u : history.Issue). u.request) y.same;
      bytes = ap data_of (sym f) ∙ ap (λ (u : Issue). data_of u.frame) (sym same) ∙ ap (λ (u : history.Issue). u.request_data) y.same;
    }

-- ---- A REPLY

-- a reply that the bank gave to a copy of a request of run i
abbrev pub GivenFor : ℕ → List ℕ → Course → Type 0
GivenFor i reply s = (e : Exchange) × In e s.exchanged × (e.reply ≡ reply) × IssuedBy i e.request s

-- as the run's part has it
pub given_to : (s : Course) (v : Parts s) (i : ℕ) (reply : List ℕ) → GivenFor i reply s →
    GivenTo (Gave v.bank.past.history) reply (run_past s i)
given_to s v i reply (e, m, z, (x, n, r, c)) =
    let f = found v.bank.entries m in
    record {
      issue = as_issue x;
      own = issued-in i n r;
      given = record {
        exchange = f.exchange;
        before = f.before;
        stands = f.stands;
        request = sym f.same.request ∙ ap read_request (sym c);
        request_data = sym f.same.request_data ∙ ap data_of (sym c);
        reply = sym f.same.reply ∙ ap read_reply z;
        reply_data = sym f.same.reply_data ∙ ap data_of z;
      };
    }

-- a call of a reply that is given no number comes to a run that goes on
reply-running : (c : ClientRun) (reply : List ℕ) (l : Lent) → answer_number (reply_call c reply l).answer ≡ 0 → c.stage ≡ stage.Running
unfolding reply_call
reply-running c reply l = go (run_ruling c l.time (lengths_of l)) refl
  where
    go : (u : Result (Unit {0}) Refusal) → run_ruling c l.time (lengths_of l) ≡ u →
        answer_number (if_admitted u c l (admitted_reply c reply l)).answer ≡ 0 →
        c.stage ≡ stage.Running
    go (Err x) e h = numbered x h
    go (Ok u) e h = (accepted c l e).running

-- and its answer is Ignored if the reply does not answer the outstanding request
reply-ignored : (c : ClientRun) (reply : List ℕ) (l : Lent) → answer_number (reply_call c reply l).answer ≡ 0 →
    is_answer c (read_reply reply) ≡ false → (reply_call c reply l).answer ≡ Ok answer.Ignored
unfolding reply_call on_reply
reply-ignored c reply l done other = go (run_ruling c l.time (lengths_of l)) done
  where
    go : (u : Result (Unit {0}) Refusal) →
        answer_number (if_admitted u c l (admitted_reply c reply l)).answer ≡ 0 →
        (if_admitted u c l (admitted_reply c reply l)).answer ≡ Ok answer.Ignored
    go (Err x) h = numbered x h
    go (Ok u) h = rw other

-- "A reply that ... lacks the outstanding request's exchange number is ignored": such is every reply to another run's request
module _ (s : Course) (v : Parts s) (numbers : OneExchangeNumber s) (i : ℕ) (reply : List ℕ) where
  pub other-no-answer : is_begun (s.runs i).stage ≡ true → (j : ℕ) → (j ≡ i → ⊥) → GivenFor j reply s →
      is_answer (s.runs i) (read_reply reply) ≡ false
  unfolding given_to
  other-no-answer begun j other (e, m, z, (x, n, r, f)) = at (is_answer (s.runs i) (read_reply reply)) refl
    where
      at : (b : Bool) → is_answer (s.runs i) (read_reply reply) ≡ b → b ≡ false
      at false a = refl
      at true a = absurd (
          let h = v.bank.past.history in
          let k = is-answer (s.runs i) (read_reply reply) a in
          let y = outstanding-issue s v i begun in
          let number = (bank-replies h v.bank.holds.invariant.sound v.bank.proper).same_exchange
          (given_to s v j reply (e, m, z, (x, n, r, f))).given k.reply k.readable in
          let same : x ≡ y.issue = one-issue s numbers n y.own (sym number ∙ k.number ∙ sym y.number) in
          other (sym r ∙ ap (λ (u : Issue). u.run) same ∙ y.run))

  module _ (l : Lent) (done : answer_number (reply_call (s.runs i) reply l).answer ≡ 0)
      (left : (l.payload ≡ s.payloads i) × (l.file ≡ s.files i)) (j : ℕ) (other : j ≡ i → ⊥) (source : GivenFor j reply s) where
    no_answer : is_answer (s.runs i) (read_reply reply) ≡ false
    no_answer = other-no-answer (ap is_begun (reply-running (s.runs i) reply l done)) j other source

    pub other-ignored : (reply_call (s.runs i) reply l).answer ≡ Ok answer.Ignored
    other-ignored = reply-ignored (s.runs i) reply l done no_answer

    pub other-stays : history.after (Reply reply l) (run_past s i) ≡ run_past s i
    other-stays = ignored-stays (run_past s i) reply l done (record { payload = left.0; file = left.1 }) no_answer
