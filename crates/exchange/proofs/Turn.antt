-- "an order in turn closes as lodged or fetched". Assumes nothing.
use Prim.Native.Nat.{ℕ, ◌<◌}
use mathlib.Core.List.Memᴰ.{not-nil as in-none}
use mathlib.Core.List.{List, [], ◌∷◌}
use mathlib.Core.Logic.{◌⊎◌, inl, inr}
use mathlib.Core.Path.{◌≡◌, refl, sym, ap, ◌∙◌, subst}
use native.Mathlib.Omega.{arith}
use Rattle.frame_table.specs.Names.{exchange, return_code}
use Rattle.frame_reader.specs.Reader.{read_request, read_reply}
use Rattle.octets.proofs.Tests.{never}
use Rattle.client_run.specs.declared.run.Stage.TheVariants as stage
use Rattle.client_run.specs.declared.run.Word.TheVariants.{Lodged, Unclear, Fetched}
use Rattle.client_rules.specs.Rulings.{is_begun}
use Rattle.client_rules.proofs.Replies.{is-answer}
use Rattle.exchange.specs.Course.{Call, frame_arrives, Arrival, Course, start, exec, after}
use Rattle.exchange.specs.Terms.{InTurn, Received, Accepted, Alone, AllInTurn, Settled}
use Rattle.exchange.specs.Demand3.{Allowed, AllAllowed, OneExchangeNumber, ClosesInTurn}
use Rattle.exchange.proofs.Clients.{run_past, Parts}
use Rattle.exchange.proofs.Courses.{
  call-keeps,
  parts,
  parts-start,
  Copied,
  copied-call,
  copied,
  copied-start,
  frame-runs,
}
use Rattle.exchange.proofs.Issues.{numbers-before}
use Rattle.exchange.proofs.Received.{ToAnother}
use Rattle.exchange.proofs.Handed.{unclear-upload, unclear-left}
use Rattle.exchange.proofs.Outcome.{copied-reply}
use Rattle.exchange.proofs.Concerns.{Concern, elsewhere, own-frame, own-begin, own-reply, own-journal, concern}
use Rattle.exchange.proofs.OrderStates.{told-answers, State, idle, asks, told, refused, closed, state-same}
use Rattle.exchange.proofs.Outstanding.{outstanding-issue, other-no-answer}
use Rattle.exchange.proofs.OwnRequests.{issued-begun, request-moves}
use Rattle.exchange.proofs.OwnReplies.{begin-moves, reply-moves}

-- ---- over one call, and over a list

module _ (i : ℕ) where
  -- the run of an order in turn is never unclear: its opening was answered 000000, so it was not refused
  never-unclear : (s : Course) (v : Parts s) → Copied s → OneExchangeNumber s → State s i (run_past s i) →
      (s.runs i).stage ≡ stage.Ended Unclear → ⊥
  never-unclear s v copies numbers (idle z none) e = let y : ◌≡◌ {A = ℕ} 0 1 = cc in omega arith
  never-unclear s v copies numbers (asks a) e =
      let z = a.turn.running in let y : ◌≡◌ {A = ℕ} 0 1 = cc in omega arith
  never-unclear s v copies numbers (told a) e =
      let z = a.turn.running in let y : ◌≡◌ {A = ℕ} 0 1 = cc in omega arith
  never-unclear s v copies numbers (refused a) e =
      let g = (unclear-upload s v i (unclear-left s v i e)).1.got in
      let c = copied-reply s v copies numbers g.own g.given in
      a.none c.exchange (c.given, c.copy) (ap return_code (c.same.reply ∙ g.given.reply) ∙ g.code)
  never-unclear s v copies numbers (closed (inl z)) e = let y : ◌≡◌ {A = ℕ} 0 1 = cc in omega arith
  never-unclear s v copies numbers (closed (inr z)) e = let y : ◌≡◌ {A = ℕ} 0 1 = cc in omega arith

  call-moves : (k : Call) (s : Course) (v : Parts s) → Copied s → OneExchangeNumber s → OneExchangeNumber (exec k s) → Allowed k s →
      InTurn i k s → Alone i s → State s i (run_past s i) → State (exec k s) i (run_past (exec k s) i)
  call-moves k s v copies numbers later q turn alone z = at k q later (concern s v copies numbers i k q turn)
    where
      at : (k : Call) → Allowed k s → OneExchangeNumber (exec k s) → Concern s v i k → State (exec k s) i (run_past (exec k s) i)
      at k q later (elsewhere same untouched) =
          subst (State (exec k s) i) (sym same.past) (state-same same v untouched (run_past s i) alone z)
      at k q later (own-frame {m = m} {a = a} en own new hour issued arrivals) =
          subst (State (exec (frame_arrives m a) s) i) (sym (frame-runs s m a i))
          (request-moves s v copies numbers i a (exec (frame_arrives m a) s) en own new hour issued
          arrivals z)
      at k q later (own-begin {c = c} {params = params} {l = l} own done) =
          begin-moves s v copies numbers i c params l q later own done z
      at k q later (own-reply {c = c} {reply = reply} {l = l} done left source fresh) =
          reply-moves s v copies numbers i c reply l q later done left source fresh z
      at k q later (own-journal e) = absurd (never-unclear s v copies numbers z e)

  order-state : (ks : List Call) (s : Course) → Parts s → Copied s → AllAllowed ks s → OneExchangeNumber (after ks s) → AllInTurn i ks s →
      State s i (run_past s i) → State (after ks s) i (run_past (after ks s) i)
  unfolding after
  order-state [] s v copies a n turn z = z
  order-state (k ∷ ks) s v copies a n turn z =
      let later = numbers-before ks (exec k s) n in
      let now = numbers-before (k ∷ ks) s n in
      order-state ks (exec k s) (call-keeps k s v later a.0) (copied-call k s copies a.0) a.1 n turn.2
      (call-moves k s v copies now later a.0 turn.1 turn.0 z)

  first-state : State start i (run_past start i)
  unfolding start
  first-state = idle refl (λ a m r. absurd (in-none m))

  -- ---- once none of its messages is under way

  -- the outstanding request is not received, or its reply has not arrived: a message is under way
  settled-closed : (t : Course) (v : Parts t) → Copied t → OneExchangeNumber t → State t i (run_past t i) → Accepted i t → Settled t i →
      ((t.runs i).stage ≡ stage.Ended Lodged) ⊎ ((t.runs i).stage ≡ stage.Ended Fetched)
  settled-closed t v copies numbers (idle e none) (x, c, kind, ok) settled =
      never (sym (ap is_begun e) ∙ issued-begun t v copies numbers i c.1)
  settled-closed t v copies numbers (asks a) accepted settled = absurd (
      let o = outstanding-issue t v i (ap is_begun a.turn.running) in
      let f = settled.requests o.issue o.own o.run in
      let b = a.messages.received f.0 (f.1, (o.issue, o.own, o.run, sym f.2)) in
      let n = ap (λ (l : List ℕ). exchange (read_request l)) f.2 in
      let m = o.number in omega arith)
  settled-closed t v copies numbers (told a) accepted settled =
      let o = outstanding-issue t v i (ap is_begun a.turn.running) in
      let f = a.messages.all o.issue o.own o.run (let m = o.number in omega arith) in
      let c : Received i f.0 t = (f.1, (o.issue, o.own, o.run, sym f.2)) in
      let g = settled.replies f.0 c in
      let same = a.given f.0 c (ap (λ (l : List ℕ). exchange (read_request l)) f.2 ∙ o.number) in
      absurd (at g.0 (g.3 ∙ same) (a.messages.arrived g.0 g.1 g.2))
    where
      at : (y : Arrival) → y.reply ≡ a.reply → (exchange (read_reply y.reply) < (t.runs i).exchange) ⊎ ToAnother i y.reply t → ⊥
      at y z (inl b) =
          let n = ap (λ (l : List ℕ). exchange (read_reply l)) z in
          let m = (is-answer (t.runs i) (read_reply a.reply) (told-answers t i (run_past t i) a)).number in omega arith
      at y z (inr o) =
          never (sym (other-no-answer t v numbers i a.reply (ap is_begun a.turn.running) o.run o.other
          (o.exchange, o.received.0, o.given ∙ z, o.received.1)) ∙ told-answers t i (run_past t i) a)
  settled-closed t v copies numbers (refused a) (x, c, kind, ok) settled = absurd (a.none x c ok)
  settled-closed t v copies numbers (closed w) accepted settled = w

-- "an order whose opening is accepted and whose messages each arrive once, in turn, ... has closed as lodged or fetched"
pub closes-in-turn : (ks : List Call) → AllAllowed ks start → OneExchangeNumber (after ks start) → ClosesInTurn ks
closes-in-turn ks a n i turn accepted settled =
    settled-closed i (after ks start) (parts ks start parts-start a n) (copied ks start copied-start a) n
    (order-state i ks start parts-start copied-start a n turn (first-state i)) accepted settled
