-- A run of an order in turn begins, and gets the reply to its outstanding request: where the order stands then. Assumes nothing.
use Prim.Native.Nat.{ℕ, ◌+◌, ◌<◌, ◌≤◌}
use mathlib.Core.Bool.{Bool, true, false, cond}
use mathlib.Core.List.Memᴰ.{head as here}
use mathlib.Core.List.Memᴰ.{tail as there}
use mathlib.Core.List.{List, ◌∷◌, Memᴰ as In}
use mathlib.Core.Logic.{◌⊎◌, inl, inr}
use mathlib.Core.Path.{◌≡◌, refl, sym, ap, ◌∙◌, subst}
use native.Mathlib.Decide.{ℕ_discrete}
use native.Mathlib.Omega.{arith}
use lib.Dec.{eqb}
use lib.ListN.{length}
use borrow.Author.Tests.{eq-eqb, eqb-true, eqb-false}
use Rattle.frame_table.specs.declared.fields.Bits128.{Bits128}
use Rattle.frame_table.specs.Forms as forms
use Rattle.frame_table.specs.Names.{exchange, transaction, segments, segment, return_code, form}
use Rattle.frame_reader.specs.Reader.{read_request, read_reply}
use Rattle.frame_row.specs.Row.{data_of}
use Rattle.octets.proofs.Tests.{never}
use Rattle.message.specs.declared.editions.Edition.{Edition}
use Rattle.message.specs.declared.editions.Edition.TheVariants.{V24, V25}
use Rattle.message.specs.Limits.{file_bytes}
use Rattle.message.specs.Segments.{segments_of, segment_of, last_mark_of}
use Rattle.bank_state.specs.State.{BankState}
use Rattle.bank_history.specs.History as bank
use Rattle.client_run.specs.declared.run.ClientRun.{ClientRun}
use Rattle.message.specs.declared.directions.Direction.{Direction}
use Rattle.message.specs.declared.directions.Direction.TheVariants.{Upload, Download}
use Rattle.client_run.specs.declared.run.RunParameters.{RunParameters}
use Rattle.client_run.specs.declared.run.Stage.TheVariants as stage
use Rattle.client_run.specs.declared.run.Step.{Step}
use Rattle.client_run.specs.declared.run.Step.TheVariants as step
use Rattle.client_run.specs.declared.run.Word.{Word}
use Rattle.client_run.specs.declared.run.Word.TheVariants.{Lodged, Fetched}
use Rattle.client.specs.Calls.{begin_call, reply_call}
use Rattle.client_run.specs.NextRun.{step_after}
use Rattle.client_run.specs.Run.{Lent, answer_number}
use Rattle.client_rules.specs.Rulings.{is_begun}
use Rattle.client_rules.proofs.Replies.{is-answer}
use Rattle.client_history.specs.History.{Begin, Reply, Past, issue_of, GivenTo}
use Rattle.client_history.specs.History as history
use Rattle.client_history.specs.InTurn.{InTurn}
use Rattle.client_history.specs.Invariant.{is_open, Newest, Steady}
use Rattle.message.proofs.SegmentNumbers.{some-segment}
use Rattle.client_history.proofs.Fitting.{download-fits, segment-fits, download-fields, segment-fields}
use Rattle.client_history.proofs.Requests.{outstanding-exchange}
use Rattle.client_history.proofs.Stays.{ended-stays}
use Rattle.client_history.proofs.Theorems.{newest-outstanding, steady, upload-segments, file-held, begin-fresh}
use Rattle.client_history.proofs.Liveness as client_turn
use Rattle.exchange.specs.Course.{Call, begins, reply_arrives, Issue, Exchange, Arrival, Course, call_number, exec}
use Rattle.exchange.specs.Terms.{IssuedBy, Received}
use Rattle.exchange.specs.Demand3.{Left, Allowed, OneExchangeNumber}
use Rattle.exchange.proofs.Told.{Gave, file_in, bank-replies}
use Rattle.exchange.proofs.Calls.{carried}
use Rattle.exchange.proofs.Clients.{as_issue, issues_of, run_past, Parts, own_past, begun-same}
use Rattle.exchange.proofs.Issues.{Issues, same, one, in-more, call-issues, issued-more, number_of, one-issue}
use Rattle.exchange.proofs.Courses.{Copied, call-keeps}
use Rattle.exchange.proofs.Received.{received-earlier, ToAnother, another-more, or-another}
use Rattle.exchange.proofs.OrderStates.{
  Messages,
  Open,
  open_stays,
  Before,
  opened_with,
  Behind,
  Told,
  told-answers,
  Refused,
  State,
  idle,
  asks,
  told,
  refused,
  closed,
}
use Rattle.exchange.proofs.Outstanding.{Pending, outstanding-issue, GivenFor, given_to}
use Rattle.exchange.proofs.OwnRequests.{issued-begun}
use Rattle.exchange.proofs.Runs.{begin-past, reply-past}
use Rattle.exchange.proofs.OpenTransactions.{OpenUnlessIdle}

-- ---- what a run's call leaves

-- the bank and the exchanges stay
record Leaves (s t : Course) : Type 0 where
  exchanged : t.exchanged ≡ s.exchanged
  bank : t.bank ≡ s.bank

-- the request that a call adds is the newest
added : {i : ℕ} {x : Issue} {l m : List Issue} {o : history.Issue} {older : List history.Issue} → Issues l m → In x m → x.run ≡ i →
    issues_of i m ≡ o ∷ older → In x l ⊎ (as_issue x ≡ o)
unfolding issues_of
added same n r e = inl n
added one (there n) r e = inl n
added {i} {x} {o = o} {older = older} (one {x = y}) (here z) r e =
    inr (ap as_issue z ∙ first (rw (eq-eqb y.run i (ap (λ (u : Issue). u.run) (sym z) ∙ r)) at e))
  where
    first : {a b : history.Issue} {l m : List history.Issue} → a ∷ l ≡ b ∷ m → a ≡ b
    first q = cc

open-as : {direction : Direction} {s : Course} {i k u u' n n' : ℕ} {t t' : Bits128} → u ≡ u' → t ≡ t' → n ≡ n' → Open direction s i u t n k →
    Open direction s i u' t' n' k
open-as {direction} {s} {i} {k} {u} {u'} {n} {n'} {t} {t'} a b c o =
    subst (λ (x : ℕ). Open direction s i x t' n' k) a (subst (λ (x : Bits128). Open direction s i u x n' k) b
    (subst (λ (x : ℕ). Open direction s i u t x k) c o))

-- a call of the run
module _ (k : Call) (s : Course) (v : Parts s) (copies : Copied s) (q : Allowed k s) (numbers : OneExchangeNumber s)
    (later : OneExchangeNumber (exec k s)) (leaves : Leaves s (exec k s)) (i : ℕ) where
  abbrev t : Course
  t = exec k s

  received-back : (e : Exchange) → Received i e (exec k s) → Received i e s
  received-back e c = let m = subst (In e) leaves.exchanged c.0 in (m, received-earlier k s v copies q later i e m c.1)

  received_more : (j : ℕ) (e : Exchange) → Received j e s → Received j e (exec k s)
  received_more j e c = (subst (In e) (sym leaves.exchanged) c.0, issued-more k s c.1)

  exchange-more : (x : Issue) → (e : Exchange) × In e s.exchanged × (e.request ≡ x.frame) →
      (e : Exchange) × In e (exec k s).exchanged × (e.request ≡ x.frame)
  exchange-more x (e, m, z) = (e, subst (In e) (sym leaves.exchanged) m, z)

  open_more : {direction : Direction} {u n d : ℕ} {id : Bits128} → Open direction s i u id n d → Open direction (exec k s) i u id n d
  open_more {direction} {u} {n} {d} {id} o =
      open_stays (received_more i) received-back (λ last a. subst (λ (w : BankState). OpenUnlessIdle direction w id u d n last) (sym leaves.bank) a) o

  -- a request of the run now: one issued before, or the outstanding one
  issued-new : is_begun ((exec k s).runs i).stage ≡ true → (x : Issue) → In x (exec k s).issued → x.run ≡ i →
      In x s.issued ⊎ (number_of x ≡ ((exec k s).runs i).exchange)
  issued-new b x m r = at (added (call-issues k s) m r n.are)
    where
      w : Parts (exec k s)
      w = call-keeps k s v later q

      h : List bank.Exchange
      h = w.bank.past.history

      n : Newest (own_past w i)
      n = newest-outstanding (Gave h) (file_in h) (bank-replies h w.bank.holds.invariant.sound w.bank.proper)
          (own_past w i) (w.runs i).own (begun-same (exec k s) w i ∙ b)

      at : In x s.issued ⊎ (as_issue x ≡ issue_of (own_past w i).run ((exec k s).payloads i) ((exec k s).files i) n.time n.nonce) →
          In x s.issued ⊎ (number_of x ≡ ((exec k s).runs i).exchange)
      at (inl y) = inl y
      at (inr e) = inr (ap (λ (u : history.Issue). exchange u.request) e
          ∙ outstanding-exchange (own_past w i).run n.time n.nonce ((exec k s).payloads i))

-- ---- THE BEGIN

module _ (s : Course) (v : Parts s) (copies : Copied s) (numbers : OneExchangeNumber s) (i : ℕ) (c : ClientRun) (params : RunParameters)
    (l : Lent) (q : Allowed (begins i c params l) s) (later : OneExchangeNumber (exec (begins i c params l) s))
    (own : c ≡ s.runs i) (done : call_number (begins i c params l) ≡ 0) where
  abbrev begin : Call
  begin = begins i c params l

  done-run : answer_number (begin_call (s.runs i) params l).answer ≡ 0
  done-run = subst (λ (x : ClientRun). answer_number (begin_call x params l).answer ≡ 0) own done

  begin-left : Leaves s (exec (begins i c params l) s) × ((exec (begins i c params l) s).arrived ≡ s.arrived)
  begin-left =
      subst (λ (t : Course). Leaves s t × (t.arrived ≡ s.arrived)) (sym (carried begin s done))
      (record { exchanged = refl; bank = refl }, refl)

  not-again : {A : Type 0} → is_begun (s.runs i).stage ≡ true → A
  not-again b = never (sym (begin-fresh (s.runs i) params l done-run) ∙ b)

  begin-first : (s.runs i).stage ≡ stage.NotBegun → ((a : Arrival) → In a s.arrived → a.run ≡ i → ToAnother i a.reply s) →
      State (exec (begins i c params l) s) i (history.after (Begin params l) (run_past s i))
  begin-first e none = asks (record {
    direction = params.direction;
    at = step.Opening;
    j = 0;
    turn = record {
      running = turn.running;
      direction = turn.direction;
      step = turn.step;
      segment = turn.segment;
      repeats = turn.repeats;
      number = refl;
    };
    messages = record {
      received = λ x m. absurd (nothing-received x m);
      all = λ x m r b. at x r b (issued-new begin s v copies q numbers later begin-left.0 i begun x m r);
      arrived = λ a m r. inr (another-more (received_more begin s v copies q numbers later begin-left.0 i)
          (none a (subst (In a) begin-left.1 m) r));
      replied = λ x m b. absurd (nothing-received x m);
    };
    before = nothing-received;
  })
    where
      then : Past
      then = history.after (Begin params l) (run_past s i)

      past : run_past (exec begin s) i ≡ then
      past = begin-past s i c own params l done

      turn : InTurn then params.direction step.Opening 0 params.first
      turn = (client_turn.begins (run_past s i) params l done-run).0

      begun : is_begun ((exec begin s).runs i).stage ≡ true
      begun = ap (λ (p : Past). is_begun p.run.stage) past ∙ ap is_begun turn.running

      fresh : {frame : List ℕ} → IssuedBy i frame s → ⊥
      fresh o = never (sym (ap is_begun e) ∙ issued-begun s v copies numbers i o)

      nothing-received : (x : Exchange) → Received i x (exec begin s) → ⊥
      nothing-received x m = fresh (received-back begin s v copies q numbers later begin-left.0 i x m).1

      at : (x : Issue) → x.run ≡ i → number_of x < then.run.exchange →
          In x s.issued ⊎ (number_of x ≡ ((exec begin s).runs i).exchange) →
          (y : Exchange) × In y (exec begin s).exchanged × (y.request ≡ x.frame)
      at x r b (inl m) = absurd (fresh (x, m, r, refl))
      at x r b (inr z) = absurd (let w = ap (λ (p : Past). p.run.exchange) past in omega arith)

  pub begin-moves : State s i (run_past s i) → State (exec (begins i c params l) s) i (run_past (exec (begins i c params l) s) i)
  begin-moves z = subst (State (exec begin s) i) (sym (begin-past s i c own params l done)) (at z)
    where
      at : State s i (run_past s i) → State (exec begin s) i (history.after (Begin params l) (run_past s i))
      at (idle e none) = begin-first e none
      at (asks a) = not-again (ap is_begun a.turn.running)
      at (told a) = not-again (ap is_begun a.turn.running)
      at (refused a) = not-again a.begun
      at (closed (inl w)) = not-again (ap is_begun w)
      at (closed (inr w)) = not-again (ap is_begun w)

-- ---- A REPLY

module _ (s : Course) (v : Parts s) (copies : Copied s) (numbers : OneExchangeNumber s) (i : ℕ) (c : ClientRun) (reply : List ℕ) (l : Lent)
    (q : Allowed (reply_arrives i c reply l) s) (later : OneExchangeNumber (exec (reply_arrives i c reply l) s))
    (done : call_number (reply_arrives i c reply l) ≡ 0) (left : Left i c l s)
    (source : GivenFor i reply s)
    (fresh : (a : Arrival) → In a s.arrived → a.run ≡ i → a.reply ≡ reply → ⊥) where
  abbrev arrives : Call
  arrives = reply_arrives i c reply l

  abbrev run : ClientRun
  run = s.runs i

  abbrev p : Past
  p = run_past s i

  abbrev then : Past
  then = history.after (Reply reply l) (run_past s i)

  abbrev h : List bank.Exchange
  h = v.bank.past.history

  done-reply : answer_number (reply_call (s.runs i) reply l).answer ≡ 0
  done-reply = subst (λ (x : ClientRun). answer_number (reply_call x reply l).answer ≡ 0) left.0 done

  reply-left : Leaves s (exec (reply_arrives i c reply l) s)
      × ((exec (reply_arrives i c reply l) s).arrived ≡ record { run = i; reply = reply } ∷ s.arrived)
  reply-left =
      subst (λ (t : Course). Leaves s t × (t.arrived ≡ record { run = i; reply = reply } ∷ s.arrived)) (sym (carried arrives s done))
      (record { exchanged = refl; bank = refl }, refl)

  past : run_past (exec (reply_arrives i c reply l) s) i ≡ history.after (Reply reply l) (run_past s i)
  past = reply-past s i c left.0 reply l done

  given : GivenTo (Gave v.bank.past.history) reply (run_past s i)
  given = given_to s v i reply source

  steady_then : is_begun (s.runs i).stage ≡ true → Steady (run_past s i) (history.after (Reply reply l) (run_past s i))
  steady_then b = steady (Gave h) (file_in h) (bank-replies h v.bank.holds.invariant.sound v.bank.proper) p (Reply reply l)
      (λ _. (record { payload = left.1; file = left.2 }, given)) b

  -- the source is one of the run's requests received
  received-source : Received i source.0 s
  received-source = (source.1, source.3)

  -- a reply to an earlier request would be a second arrival
  not-twice : {A : Type 0} {top : ℕ} → Messages s i top (s.runs i).exchange →
      exchange (read_request source.0.request) < (s.runs i).exchange → A
  not-twice m b = let o = m.replied source.0 received-source b in absurd (fresh o.0 o.1 o.2 (o.3 ∙ source.2))

  -- the run's opening was refused
  refused-moves : Refused s i (run_past s i) →
      State (exec (reply_arrives i c reply l) s) i (history.after (Reply reply l) (run_past s i))
  refused-moves a = refused (record {
    begun = after.3;
    at = after.1;
    all = λ x m r. exchange-more arrives s v copies q numbers later reply-left.0 i x (a.all x (old x m r) r);
    none = λ e k. a.none e (received-back arrives s v copies q numbers later reply-left.0 i e k);
  })
    where
      after : (then.issues ≡ p.issues) × (then.run.step ≡ step.Opening) × (then.run.exchange ≡ p.run.exchange)
          × (is_begun then.run.stage ≡ true)
      after = client_turn.opening-refused p reply l done-reply a.begun a.at
          (λ z. a.none source.0 received-source (ap (λ (x : List ℕ). return_code (read_reply x)) source.2 ∙ z))

      begun : is_begun ((exec arrives s).runs i).stage ≡ true
      begun = ap (λ (x : Past). is_begun x.run.stage) past ∙ after.3

      held : Pending s v i
      held = outstanding-issue s v i a.begun

      by : (x : Issue) → In x (exec arrives s).issued → In x s.issued ⊎ (number_of x ≡ ((exec arrives s).runs i).exchange) →
          In x s.issued
      by x m (inl y) = y
      by x m (inr z) =
          subst (λ (y : Issue). In y s.issued) (one-issue (exec arrives s) later
          (in-more (call-issues arrives s) held.own) m
          (held.number ∙ sym (z ∙ ap (λ (y : Past). y.run.exchange) past ∙ after.2))) held.own

      old : (x : Issue) → In x (exec arrives s).issued → x.run ≡ i → In x s.issued
      old x m r = by x m (issued-new arrives s v copies q numbers later reply-left.0 i begun x m r)

  -- the reply to the outstanding request
  module _ (a : Told s i (run_past s i)) where
    is-it : reply ≡ a.reply
    is-it = at (ℕ_discrete (exchange (read_request source.0.request)) (s.runs i).exchange)
      where
        at : Dec (exchange (read_request source.0.request) ≡ (s.runs i).exchange) → reply ≡ a.reply
        at (yes z) = sym source.2 ∙ a.given source.0 received-source z
        at (no n) = not-twice a.messages (let b = a.messages.received source.0 received-source in omega arith)

    begun : is_begun (s.runs i).stage ≡ true
    begun = ap is_begun a.turn.running

    number : exchange (read_reply reply) ≡ (s.runs i).exchange
    number = ap (λ (x : List ℕ). exchange (read_reply x)) is-it ∙ (is-answer run (read_reply a.reply) (told-answers s i p a)).number

    -- the next request is outstanding
    module _ (direction : Direction) (at : Step) (j : ℕ) (turn : InTurn then direction at j ((s.runs i).exchange + 1)) where
      begun-now : is_begun ((exec (reply_arrives i c reply l) s).runs i).stage ≡ true
      begun-now = ap (λ (x : Past). is_begun x.run.stage) past ∙ ap is_begun turn.running

      messages-next : Messages (exec (reply_arrives i c reply l) s) i then.run.exchange then.run.exchange
      messages-next = record {
        received = λ e k.
            let b = a.messages.received e (received-back arrives s v copies q numbers later reply-left.0 i e k) in
            let y = turn.number in omega arith;
        all = λ x m r b. all-by x r b (issued-new arrives s v copies q numbers later reply-left.0 i begun-now x m r);
        arrived = λ y m r. arrived-by y r (subst (In y) reply-left.1 m);
        replied = λ e k b. replied-by e (received-back arrives s v copies q numbers later reply-left.0 i e k)
            (ℕ_discrete (exchange (read_request e.request)) (s.runs i).exchange);
      }
        where
          all-by : (x : Issue) → x.run ≡ i → number_of x < then.run.exchange →
              In x s.issued ⊎ (number_of x ≡ ((exec arrives s).runs i).exchange) →
              (e : Exchange) × In e (exec arrives s).exchanged × (e.request ≡ x.frame)
          all-by x r b (inl m) =
              exchange-more arrives s v copies q numbers later reply-left.0 i x
              (a.messages.all x m r (let y = turn.number in omega arith))
          all-by x r b (inr z) = absurd (let y = ap (λ (w : Past). w.run.exchange) past in omega arith)

          arrived-by : (y : Arrival) → y.run ≡ i → In y (record { run = i; reply = reply } ∷ s.arrived) →
              (exchange (read_reply y.reply) < then.run.exchange) ⊎ ToAnother i y.reply (exec arrives s)
          arrived-by y r (here z) =
              let b = ap (λ (w : Arrival). exchange (read_reply w.reply)) z in
              let m = number in let w = turn.number in inl (omega arith)
          arrived-by y r (there m) =
              or-another (λ b. let w = turn.number in omega arith) (received_more arrives s v copies q numbers later reply-left.0 i)
              (a.messages.arrived y m r)

          replied-by : (e : Exchange) → Received i e s → Dec (exchange (read_request e.request) ≡ (s.runs i).exchange) →
              (y : Arrival) × In y (exec arrives s).arrived × (y.run ≡ i) × (y.reply ≡ e.reply)
          replied-by e k (yes z) = (
            record { run = i; reply = reply },
            subst (In _) (sym reply-left.1) (here refl),
            refl,
            is-it ∙ sym (a.given e k z),
          )
          replied-by e k (no n) =
              let b = a.messages.received e k in
              let o = a.messages.replied e k (omega arith) in
              (o.0, subst (In o.0) (sym reply-left.1) (there o.1), o.2, o.3)

      next-asks : Before direction at j (exec (reply_arrives i c reply l) s) i then.run →
          State (exec (reply_arrives i c reply l) s) i (history.after (Reply reply l) (run_past s i))
      next-asks b = asks (record {
        direction = direction;
        at = at;
        j = j;
        turn = record {
          running = turn.running;
          direction = turn.direction;
          step = turn.step;
          segment = turn.segment;
          repeats = turn.repeats;
          number = refl;
        };
        messages = messages-next;
        before = b;
      })

    -- the transaction, as the run then knows it
    open-then : {direction : Direction} {id : Bits128} {n k : ℕ} → Open direction s i (s.runs i).subscriber id n k → id ≡ then.run.transaction →
        n ≡ then.run.segments →
        Open direction (exec (reply_arrives i c reply l) s) i then.run.subscriber then.run.transaction then.run.segments k
    open-then o e f =
        open-as (sym (steady_then begun).subscriber-same) e f (open_more arrives s v copies q numbers later reply-left.0 i o)

    open-known : {direction : Direction} {k : ℕ} → is_open (s.runs i).step ≡ true →
        Open direction s i (s.runs i).subscriber (s.runs i).transaction (s.runs i).segments k →
        Open direction (exec (reply_arrives i c reply l) s) i then.run.subscriber then.run.transaction then.run.segments k
    open-known known o =
        let y = steady_then begun in open-then o (sym (y.transaction-same known)) (sym (y.segments known))

    abbrev Next : Type 0
    Next = State (exec (reply_arrives i c reply l) s) i (history.after (Reply reply l) (run_past s i))

    -- behind segment k of a download: the next segment, or the receipt
    download-next : (k n : ℕ) → InTurn then Download (step_after Download k n) (k + 1) ((s.runs i).exchange + 1) → n ≡ then.run.segments →
        k ≤ n →
        Open Download (exec (reply_arrives i c reply l) s) i then.run.subscriber then.run.transaction then.run.segments k → Next
    download-next k n turn count within o = at (eqb k n) refl turn
      where
        at : (b : Bool) → eqb k n ≡ b → InTurn then Download (cond b step.Receipt step.Segment) (k + 1) ((s.runs i).exchange + 1) → Next
        at true e z = next-asks Download step.Receipt (k + 1) z (
          refl,
          subst (Open Download (exec arrives s) i then.run.subscriber then.run.transaction then.run.segments)
              (eqb-true k n e ∙ count) o,
        )
        at false e z =
            next-asks Download step.Segment (k + 1) z (k, omega arith, (let d = eqb-false k n e in omega arith), o)

    -- the opening accepted, in either edition: segment 1 is next, under its transaction
    opened-turn : (x : Edition) → (s.runs i).terms.edition ≡ x → (j n : ℕ) (id : Bits128) →
        InTurn p Upload step.Opening j (s.runs i).exchange → read_reply reply ≡ opened_with x (s.runs i).exchange id n →
        InTurn then Upload step.Segment 1 ((s.runs i).exchange + 1) × (then.run.transaction ≡ id)
        × (then.run.segments ≡ (s.runs i).segments)
    opened-turn V24 e j n id turn r =
        let z = client_turn.chosen-opens p reply l done-reply j (s.runs i).exchange id e turn r in (z.0, z.1, z.3)
    opened-turn V25 e j n id turn r =
        let z = client_turn.upload-opens p reply l done-reply j (s.runs i).exchange n id e turn r in (z.0, z.1, z.3)

    told-by : (direction : Direction) (at : Step) (j : ℕ) → InTurn p direction at j (s.runs i).exchange →
        Behind direction at j s i (s.runs i) (read_reply reply) → Next
    told-by Upload step.Opening j turn (id, n, r, o) =
        let z = opened-turn (s.runs i).terms.edition refl j n id turn r in
        let some = (upload-segments (Gave h) (file_in h) (bank-replies h v.bank.holds.invariant.sound v.bank.proper) (own_past v i) (v.runs i).own
        (begun-same s v i ∙ begun)
        turn.direction).1 in
        next-asks Upload step.Segment 1 z.0 (0, refl, (let y = z.2 in omega arith), open-then o (sym z.1) (sym z.2))
    told-by Upload step.Segment j turn (r, within, o) = at (ℕ_discrete j (s.runs i).segments)
      where
        at : Dec (j ≡ (s.runs i).segments) → Next
        at (yes z) = closed (inl (client_turn.upload-lodges p reply l done-reply j (s.runs i).exchange turn r z))
        at (no z) =
            let below : j < (s.runs i).segments = omega arith in
            let y = (steady_then begun).segments (ap is_open turn.step) in
            next-asks Upload step.Segment (j + 1)
            (client_turn.upload-advances p reply l done-reply j (s.runs i).exchange turn r below)
            (j, omega arith, omega arith, open-known (ap is_open turn.step) (o below))
    told-by Upload step.Receipt j turn b = absurd b
    told-by Download step.Opening j turn (id, n, r, o) =
        let f = file_in h id in
        let b = bank-replies h v.bank.holds.invariant.sound v.bank.proper in
        let y = download-fits (s.runs i).exchange n 0 (last_mark_of 1 n) id in
        let g = download-fields (s.runs i).exchange n 0 (last_mark_of 1 n) id in
        let kind : form (read_reply reply) ≡ forms.DownloadOpened = ap form r ∙ y.form-is in
        let own : file_in h (transaction (read_reply reply)) ≡ f = ap (file_in h) (ap transaction r ∙ g.0) in
        let long = ap length own in
        let count : n ≡ segments_of (length f) =
        sym (ap segments r ∙ g.1) ∙ b.number given.given kind ∙ ap (λ (x : List ℕ). segments_of (length x)) own in
        let some : 0 < length f = let w = b.some given.given kind in omega arith in
        let most : length f ≤ file_bytes = let w = b.most given.given kind in omega arith in
        let z = client_turn.download-opens p reply l done-reply j (s.runs i).exchange n id f turn r count some most
        (b.first given.given kind ∙ ap (λ (x : List ℕ). segment_of x 1) own) in
        download-next 1 n z.0 (sym z.2) (let w = some-segment (length f) some in omega arith)
        (open-then o (sym z.1) (sym z.2))
    told-by Download step.Segment j turn (r, least, within, o) =
        let b = bank-replies h v.bank.holds.invariant.sound v.bank.proper in
        let known = ap is_open turn.step in
        let f = file_in h (s.runs i).transaction in
        let held = file-held (Gave h) (file_in h) b (own_past v i) (v.runs i).own (begun-same s v i ∙ begun) turn.direction known in
        let mark = last_mark_of j (s.runs i).segments in
        let y = segment-fits (s.runs i).exchange 0 j mark (s.runs i).transaction in
        let g = segment-fields (s.runs i).exchange 0 j mark (s.runs i).transaction in
        let bytes : data_of reply ≡ segment_of f j =
        b.part given.given (ap form r ∙ y.form-is) ∙ ap (λ (x : Bits128). segment_of (file_in h x) (segment (read_reply reply)))
        (ap transaction r ∙ g.0) ∙ ap (segment_of f) (ap segment r ∙ g.1) in
        download-next j (s.runs i).segments
        (client_turn.download-advances p reply l done-reply j (s.runs i).exchange f turn least within r held.number held.most bytes)
        (sym ((steady_then begun).segments known)) within (open-known known o)
    told-by Download step.Receipt j turn r = closed (inr (client_turn.download-fetches p reply l done-reply j (s.runs i).exchange turn r))

    told-moves : State (exec (reply_arrives i c reply l) s) i (history.after (Reply reply l) (run_past s i))
    told-moves = told-by a.direction a.at a.j a.turn
        (subst (λ (x : List ℕ). Behind a.direction a.at a.j s i (s.runs i) (read_reply x)) (sym is-it) a.behind)

  -- a reply that reaches the run moves the order on
  pub reply-moves : State s i (run_past s i) → State (exec (reply_arrives i c reply l) s) i (run_past (exec (reply_arrives i c reply l) s) i)
  reply-moves z = subst (State (exec arrives s) i) (sym past) (at z)
    where
      ended-then : (w : Word) → (s.runs i).stage ≡ stage.Ended w → then.run.stage ≡ stage.Ended w
      ended-then w e = ap (λ (x : Past). x.run.stage) (ended-stays (run_past s i) w e (Reply reply l)) ∙ e

      at : State s i (run_past s i) → State (exec arrives s) i then
      at (idle e none) = never (sym (ap is_begun e) ∙ issued-begun s v copies numbers i source.3)
      at (asks a) = not-twice a.messages (a.messages.received source.0 received-source)
      at (told a) = told-moves a
      at (refused a) = refused-moves a
      at (closed (inl e)) = closed (inl (ended-then Lodged e))
      at (closed (inr e)) = closed (inr (ended-then Fetched e))
