-- What a call leaves of the view that one run has: its requests that the bank received, and the replies to it. Assumes nothing.
use Rattle.std.specs.Prelude.{Result, Ok, Err}
use Rattle.client_run.specs.declared.run.Refusal.{Refusal}
use Prim.Native.Nat.{ℕ}
use mathlib.Core.List.Memᴰ.{head as here}
use mathlib.Core.List.Memᴰ.{tail as there}
use mathlib.Core.List.{List, ◌∷◌, Memᴰ as In}
use mathlib.Core.Logic.{◌⊎◌, inl, inr}
use mathlib.Core.Path.{◌≡◌, sym, ap, ◌∙◌, subst}
use native.Mathlib.Omega.{arith}
use Rattle.frame_table.specs.declared.fields.Fields.{Fields}
use Rattle.frame_table.specs.Names.{subscriber, exchange, form}
use Rattle.frame_reader.specs.Reader.{read_request}
use Rattle.client_run.specs.declared.run.Answer.{Answer}
use Rattle.client_run.specs.declared.run.Answer.TheVariants as answer
use Rattle.client_run.specs.Run.{Lent, ClientCall}
use Rattle.exchange.specs.Course.{Call, Issue, Exchange, Arrival, Course, issued_by, after_run, exec}
use Rattle.exchange.specs.Terms.{IssuedBy, Received}
use Rattle.exchange.specs.Demand3.{is_named, Allowed, OneExchangeNumber}
use Rattle.exchange.proofs.Clients.{run_past, issued-in, other-past, Parts}
use Rattle.exchange.proofs.Issues.{in-more, run-issues, call-issues, one-issue}
use Rattle.exchange.proofs.Courses.{Copied, call-keeps, copied-call}
use Rattle.exchange.proofs.Joint.{counts}
use Rattle.exchange.proofs.Outcome.{request-of}

-- a frame answered before a call is a copy of a request issued before it
module _ (k : Call) (s : Course) (v : Parts s) (copies : Copied s) (q : Allowed k s) (numbers : OneExchangeNumber (exec k s))
    (i : ℕ) where
  pub received-earlier : (e : Exchange) → In e s.exchanged → IssuedBy i e.request (exec k s) → IssuedBy i e.request s
  received-earlier e m (x, n, r, f) =
      let w = call-keeps k s v numbers q in
      let c = copied-call k s copies q in
      let y = request-of (exec k s) w c numbers i (issued-in i n r) in
      let z : read_request x.frame ≡ read_request e.request = ap read_request f in
      let g = ap subscriber z in
      let o = copies e m (counts (exec k s) w c numbers e.request (ap (λ (a : Fields). is_named (form a)) (sym z) ∙ y.0)
      (let l = y.1 in omega arith) (let l = y.2 in omega arith)) in
      let same : o.1.0 ≡ x =
      one-issue (exec k s) numbers (in-more (call-issues k s) o.1.1) n
      (ap (λ (l : List ℕ). exchange (read_request l)) (o.1.3 ∙ sym f)) in
      (o.1.0, o.1.1, ap (λ (u : Issue). u.run) same ∙ r, o.1.3)

-- a reply that the bank gave to a request of another run
pub record ToAnother (i : ℕ) (reply : List ℕ) (s : Course) : Type 0 where
  pub run : ℕ
  pub other : run ≡ i → ⊥
  pub exchange : Exchange
  pub received : Received run exchange s
  pub given : exchange.reply ≡ reply

pub another-more : {i : ℕ} {s t : Course} {reply : List ℕ} → ((j : ℕ) (e : Exchange) → Received j e s → Received j e t) →
    ToAnother i reply s → ToAnother i reply t
another-more keeps o = record {
  run = o.run;
  other = o.other;
  exchange = o.exchange;
  received = keeps o.run o.exchange o.received;
  given = o.given;
}

pub or-another : {A B : Type 0} {i : ℕ} {s t : Course} {reply : List ℕ} → (A → B) →
    ((j : ℕ) (e : Exchange) → Received j e s → Received j e t) → A ⊎ ToAnother i reply s → B ⊎ ToAnother i reply t
or-another f keeps (inl a) = inl (f a)
or-another f keeps (inr o) = inr (another-more keeps o)

-- a request that the bank received, among these requests of the run
abbrev Copied-in : ℕ → Exchange → List Issue → Type 0
Copied-in j e l = (y : Issue) × In y l × (y.run ≡ j) × (y.frame ≡ e.request)

-- the run, its requests received, its requests issued and the replies to them that reached it are the same in both courses
pub record Same (i : ℕ) (s t : Course) : Type 0 where
  pub past : run_past t i ≡ run_past s i
  pub received : (e : Exchange) → Received i e t → Received i e s
  pub keeps : (j : ℕ) (e : Exchange) → Received j e s → Received j e t
  pub arrivals : (a : Arrival) → In a t.arrived → a.run ≡ i → In a s.arrived ⊎ ToAnother i a.reply t
  pub arrived : (a : Arrival) → In a s.arrived → In a t.arrived
  pub issued : (x : Issue) → In x t.issued → x.run ≡ i → In x s.issued

-- the call touches no run's view
pub same_view : {i : ℕ} {s t : Course} → run_past t i ≡ run_past s i → t.exchanged ≡ s.exchanged → t.issued ≡ s.issued →
    t.arrived ≡ s.arrived → Same i s t
same_view {i} {s} {t} past exchanges issues arrivals = record {
  past = past;
  received = λ e c. (subst (In e) exchanges c.0, subst (Copied-in i e) issues c.1);
  keeps = λ j e c. (subst (In e) (sym exchanges) c.0, subst (Copied-in j e) (sym issues) c.1);
  arrivals = λ a m r. inl (subst (In a) arrivals m);
  arrived = λ a m. subst (In a) (sym arrivals) m;
  issued = λ x m r. subst (In x) issues m;
}

-- the call of another run
module _ (s : Course) (i j : ℕ) (d : i ≡ j → ⊥) (k : ClientCall) (l : Lent) where
  other-issued : (a : Result Answer Refusal) (x : Issue) → In x (issued_by a j k s) → x.run ≡ i → In x s.issued
  other-issued (Ok (answer.Request n)) x (here e) r = absurd (d (sym r ∙ ap (λ (u : Issue). u.run) e))
  other-issued (Ok (answer.Request n)) x (there m) r = m
  other-issued (Ok answer.Ignored) x m r = m
  other-issued (Ok (answer.Closed w)) x m r = m
  other-issued (Err f) x m r = m

  pub other-same : Same i s (after_run j k l.payload s)
  other-same = record {
    past = other-past s j k l i d;
    received = λ e c. (c.0, (c.1.0, other-issued k.answer c.1.0 c.1.1 c.1.2, c.1.2, c.1.3));
    keeps = λ n e c. (c.0, (c.1.0, in-more (run-issues s j k k.answer) c.1.1, c.1.2, c.1.3));
    arrivals = λ b m r. inl m;
    arrived = λ b m. m;
    issued = other-issued k.answer;
  }

-- a frame that is no copy of a request of the run
pub foreign-same : {i : ℕ} {s t : Course} {e : Exchange} {frame : List ℕ} → t.exchanged ≡ e ∷ s.exchanged → e.request ≡ frame →
    t.issued ≡ s.issued →
    t.arrived ≡ s.arrived → run_past t i ≡ run_past s i → (IssuedBy i frame s → ⊥) → Same i s t
foreign-same {i} {s} {t} {e} {frame} entered asked issues arrivals past foreign = record {
  past = past;
  received = λ x c. at x (back x.request c.1) (subst (In x) entered c.0);
  keeps = λ j x c. (
    subst (In x) (sym entered) (there c.0),
    subst
        (λ (l : List Issue). (y : Issue) × In y l × (y.run ≡ j) × (y.frame ≡ x.request)) (sym issues) c.1,
  );
  arrivals = λ a m r. inl (subst (In a) arrivals m);
  arrived = λ a m. subst (In a) (sym arrivals) m;
  issued = λ x m r. subst (In x) issues m;
}
  where
    back : (f : List ℕ) → IssuedBy i f t → IssuedBy i f s
    back f c = subst (λ (l : List Issue). (y : Issue) × In y l × (y.run ≡ i) × (y.frame ≡ f)) issues c

    at : (x : Exchange) → IssuedBy i x.request s → In x (e ∷ s.exchanged) → Received i x s
    at x c (here z) = absurd (foreign (c.0, c.1, c.2, c.3 ∙ ap (λ (y : Exchange). y.request) z ∙ asked))
    at x c (there m) = (m, c)

-- a reply to another run's request, which the run ignores
pub ignored-same : {i : ℕ} {s t : Course} {reply : List ℕ} → t.exchanged ≡ s.exchanged → t.issued ≡ s.issued →
    t.arrived ≡ record { run = i; reply = reply } ∷ s.arrived → run_past t i ≡ run_past s i → ToAnother i reply s → Same i s t
ignored-same {i} {s} {t} {reply} exchanges issues arrivals past another = record {
  past = past;
  received = λ e c. (subst (In e) exchanges c.0, subst (Copied-in i e) issues c.1);
  keeps = keeps;
  arrivals = λ a m r. at a (subst (In a) arrivals m);
  arrived = λ a m. subst (In a) (sym arrivals) (there m);
  issued = λ x m r. subst (In x) issues m;
}
  where
    keeps : (j : ℕ) (e : Exchange) → Received j e s → Received j e t
    keeps j e c = (subst (In e) (sym exchanges) c.0, subst (Copied-in j e) (sym issues) c.1)

    at : (a : Arrival) → In a (record { run = i; reply = reply } ∷ s.arrived) → In a s.arrived ⊎ ToAnother i a.reply t
    at a (here z) = inr (subst (λ (l : List ℕ). ToAnother i l t) (ap (λ (u : Arrival). u.reply) (sym z)) (another-more keeps another))
    at a (there m) = inl m
