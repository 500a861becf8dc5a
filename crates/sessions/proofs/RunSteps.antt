-- `U`, `D`, `R`, `N`: the run that the record names is what its call leaves, in the unit and in the course; a call given
-- a number leaves both as they were; the other runs and the bank stay.
use Rattle.std.specs.Prelude.{Result, Ok, Err}
use Rattle.client_run.specs.declared.run.Refusal.{Refusal}
use Prim.Native.Nat.{ℕ, ◌≤◌, ◌<◌}
use mathlib.Core.Bool.{Bool, true, false, cond}
use mathlib.Core.List.{List, []}
use mathlib.Core.Path.{◌≡◌, refl, sym, ap, ◌∙◌, subst}
use native.Mathlib.Decide.{ℕ_discrete}
use native.Mathlib.Omega.{arith}
use lib.ListN.{length, take, length-set}
use lib.Seq.{get_or-set_same, get_or-set_other}
use borrow.Author.Tests.{eq-eqb, ne_eqb}
use Rattle.message.specs.Limits.{file_bytes}
use Rattle.journal.specs.declared.event.OrderName.{OrderName}
use Rattle.bank_state.specs.Store.{file_of}
use Rattle.client_run.specs.declared.run.Answer as client
use Rattle.client_run.specs.declared.run.Answer.TheVariants as answer
use Rattle.client_run.specs.declared.run.ClientRun.{ClientRun}
use Rattle.client_run.specs.declared.run.Word.{Word}
use Rattle.client_run.specs.Run.{Lent, ClientCall, lent_of, answer_number, order_name}
use Rattle.client_rules.specs.Rulings.{is_begun}
use Rattle.exchange.specs.Course.{Call, Course, call_number, changed, carry_out, exec}
use Rattle.exchange.proofs.Calls.{numbered-stays, carried}
use Rattle.unit_state.specs.declared.answer.Answer.TheVariants.{Closed}
use Rattle.unit_state.specs.declared.record.Event.{Event}
use Rattle.unit_state.specs.declared.record.Event.TheVariants.{Upload, Download, Reply, NoReply}
use Rattle.unit_state.specs.declared.record.Kind.TheVariants as kind
use Rattle.unit_state.specs.declared.state.Run.{Run}
use Rattle.unit_state.specs.Records.{time_of, nonce_of, body_of, run_count}
use Rattle.unit_state.specs.State.{rooms_bytes, run_at}
use Rattle.unit.specs.State.{State}
use Rattle.unit.specs.Call.{run_answer, index_of, event_call, room_call, keeps, next_run, kept_payloads, run_call, run_step}
use Rattle.unit.specs.Call as unit
use Rattle.unit.proofs.Begins.{kept-fits}
use Rattle.unit.proofs.Named.{run-named}
use Rattle.sessions.specs.Sessions.{
  client_at,
  payload_at,
  file_at,
  lent_to,
  run_call_of,
  run_of,
  told,
  told_by_run,
  told_by,
  Given,
  SameRun,
}
use Rattle.sessions.proofs.ClientCalls.{event-keeps, refusal-numbered, reply-begun, no-reply-begun, event-ends}
use Rattle.sessions.proofs.ClientCalls as calls
use Rattle.sessions.proofs.Rooms.{length_part, length-room, room-file, room-part, room-other}
use Rattle.sessions.proofs.Standing.{SameRunAt, Standing, Tells, Stepped}

-- ---- a call of a run in the course

module _ (i : ℕ) (c : ClientRun) (r : List ℕ) (l : Lent) where
  number_is : (e : Event) → call_number (run_call_of e i c r l) ≡ answer_number (event_call e c r l).answer
  number_is Upload = refl
  number_is Download = refl
  number_is Reply = refl
  number_is NoReply = refl

  told_is : (e : Event) → told_by_run (event_call e c r l) ≡ told_by (run_call_of e i c r l)
  told_is Upload = refl
  told_is Download = refl
  told_is Reply = refl
  told_is NoReply = refl

  -- what a call of run i given no number changes
  record Carried (s t : Course) (o : ClientCall) : Type 0 where
    bank : t.bank ≡ s.bank
    journal : t.journal ≡ s.journal
    runs : t.runs ≡ changed s.runs i o.run
    payloads : t.payloads ≡ changed s.payloads i l.payload
    files : t.files ≡ changed s.files i o.file

  run-carried : (e : Event) (s : Course) → Carried s (carry_out (run_call_of e i c r l) s) (event_call e c r l)
  run-carried Upload s = record { bank = refl; journal = refl; runs = refl; payloads = refl; files = refl }
  run-carried Download s = record { bank = refl; journal = refl; runs = refl; payloads = refl; files = refl }
  run-carried Reply s = record { bank = refl; journal = refl; runs = refl; payloads = refl; files = refl }
  run-carried NoReply s = record { bank = refl; journal = refl; runs = refl; payloads = refl; files = refl }

-- its answer has its bytes in the buffer
run-told : (a : Result client.Answer Refusal) (c : ClientRun) (buffer room : List ℕ) → told (run_answer a c) buffer room ≡ told (run_answer a c) buffer []
run-told (Ok (answer.Request n)) c buffer room = refl
run-told (Ok answer.Ignored) c buffer room = refl
run-told (Ok (answer.Closed w)) c buffer room = refl
run-told (Err x) c buffer room = refl

module _ {A : Type 0} (f : ℕ → A) (i : ℕ) (a : A) where
  pub changed-own : changed f i a i ≡ a
  changed-own = ap (λ (b : Bool). cond b a (f i)) (eq-eqb i i refl)

  pub changed-other : (j : ℕ) → (j ≡ i → ⊥) → changed f i a j ≡ f j
  changed-other j other = ap (λ (b : Bool). cond b a (f j)) (ne_eqb j i other)

-- the same run by equal parts
pub by_parts : {a a' c c' : ClientRun} {p p' f f' q q' g g' : List ℕ} → a ≡ a' → p ≡ p' → f ≡ f' → c ≡ c' → q ≡ q' → g ≡ g' →
    SameRun a' p' f' c' q' g' → SameRun a p f c q g
by_parts ea ep ef ec eq eg h =
    let begun = ap (λ (x : ClientRun). is_begun x.stage) (sym ec) in
    record {
      client = ea ∙ h.client ∙ sym ec;
      payload = λ b. ep ∙ h.payload (begun ∙ b) ∙ sym eq;
      file = λ b. ef ∙ h.file (begun ∙ b) ∙ sym eg;
    }

-- ---- what the call gets

module _ {u : State} {s : Course} (v : Standing u s) (r : List ℕ) (inside : index_of r < run_count) where
  abbrev j : ℕ
  j = index_of r

  begun : is_begun (client_at u j).stage ≡ true → is_begun (s.runs j).stage ≡ true
  begun b = ap (λ (x : ClientRun). is_begun x.stage) (sym (v.runs j inside).client) ∙ b

  run-given : (e : Event) → call_number (run_of e u r) ≡ 0 → Given (run_of e u r) s
  unfolding lent_to
  run-given Upload z = (v.runs j inside).client
  run-given Download z = (v.runs j inside).client
  run-given Reply z =
      let b = begun (reply-begun (client_at u j) (lent_to Reply j u r) _ z) in
      let h = v.runs j inside in
      (h.client, h.payload b, h.file b)
  run-given NoReply z =
      let b = begun (no-reply-begun (client_at u j) (lent_to NoReply j u r) z) in
      let h = v.runs j inside in
      (h.client, h.payload b, h.file b)

-- ---- what a call keeps of the record

next-client : (kept : Bool) (run : Run) (c : ClientRun) (nonce : List ℕ) (n : ℕ) → (next_run kept run c nonce n).client.run ≡ c
next-client true run c nonce n = refl
next-client false run c nonce n = refl

module _ (d : List ℕ) (whole : length d ≡ rooms_bytes) (i : ℕ) (inside : i < run_count) (body : List ℕ) where
  kept-room : (kept : Bool) → (kept ≡ true → length body ≤ file_bytes) → length (kept_payloads kept d i body) ≡ rooms_bytes
  kept-room true fits = length-room d whole i inside body (fits refl)
  kept-room false fits = whole

  kept-own : (kept : Bool) → (kept ≡ true → length body ≤ file_bytes) → (run : Run) (c : ClientRun) (nonce : List ℕ) →
      file_of (kept_payloads kept d i body) i (next_run kept run c nonce (length body)).payload
      ≡ cond kept body (file_of d i run.payload)
  kept-own true fits run c nonce = room-file d whole i inside body (fits refl)
  kept-own false fits run c nonce = refl

  kept-other : (kept : Bool) → (kept ≡ true → length body ≤ file_bytes) → (j n : ℕ) → (j ≡ i → ⊥) →
      file_of (kept_payloads kept d i body) j n ≡ file_of d j n
  unfolding file_of
  kept-other true fits j n other = ap (take n) (room-other d whole i inside body (fits refl) j other)
  kept-other false fits j n other = refl

-- ---- the step

module _ {u : State} {s : Course} (v : Standing u s) (r : List ℕ) (e : Event) (inside : index_of r < run_count) where
  abbrev i : ℕ
  i = index_of r

  abbrev run : Run
  run = run_at u.unit.runs i

  abbrev l : Lent
  l = lent_to e i u r

  abbrev o : ClientCall
  o = event_call e run.client.run r l

  abbrev body : List ℕ
  body = body_of (kind.Run e) r

  abbrev kept : Bool
  kept = keeps (unit.begins e) o.answer

  abbrev next : State
  next = (run_step e u r).state

  file-whole : length l.file ≡ file_bytes
  unfolding lent_to
  file-whole = length_part u.memory.files v.files i inside

  known : calls.Keeps run.client.run l o
  known = event-keeps run.client.run l file-whole e r

  left-whole : length o.file ≡ file_bytes
  left-whole = known.long ∙ file-whole

  fits : kept ≡ true → length body ≤ file_bytes
  unfolding lent_to room_call
  fits h =
      let nonce = cond (unit.begins e) (nonce_of r) run.nonce in
      let held = payload_at u i in
      let lent = lent_of (time_of r) nonce (cond (unit.begins e) body held) u.memory.files u.memory.buffer in
      kept-fits e run.client.run i r lent body held (unit.begins e) kept (room_call e run.client.run i r lent) refl refl
      refl refl refl h

  -- the run itself
  run-set : run_at next.unit.runs i
      ≡ next_run kept run o.run l.nonce (length body)
  unfolding run_step run_call room_call lent_to
  run-set = get_or-set_same u.unit.runs i _ _ (let n = v.count in omega arith)

  own-client : client_at next i ≡ o.run
  own-client = ap (λ (x : Run). x.client.run) run-set ∙ next-client kept run o.run l.nonce (length body)

  own-payload : payload_at next i ≡ cond kept body (payload_at u i)
  unfolding run_step run_call room_call lent_to
  own-payload =
      ap (λ (x : Run). file_of (kept_payloads kept u.memory.payloads i body) i x.payload) run-set
      ∙ kept-own u.memory.payloads v.payloads i inside body kept fits run o.run l.nonce

  own-file : file_at next i ≡ o.file
  unfolding run_step run_call room_call lent_to
  own-file =
      room-part u.memory.files v.files i inside o.file (let w = left-whole in omega arith) left-whole

  -- the other runs
  module _ (j : ℕ) (other : j ≡ i → ⊥) where
    other-set : run_at next.unit.runs j ≡ run_at u.unit.runs j
    unfolding run_step
    other-set = get_or-set_other u.unit.runs i j _ _ other

    other-client : client_at next j ≡ client_at u j
    other-client = ap (λ (x : Run). x.client.run) other-set

    other-payload : payload_at next j ≡ payload_at u j
    unfolding run_step run_call room_call lent_to
    other-payload =
        ap (λ (x : Run). file_of (kept_payloads kept u.memory.payloads i body) j x.payload) other-set
        ∙ kept-other u.memory.payloads v.payloads i inside body kept fits j _ other

    other-file : file_at next j ≡ file_at u j
    unfolding run_step run_call room_call lent_to
    other-file =
        room-other u.memory.files v.files i inside o.file (let w = left-whole in omega arith) j other

  -- a course with the same bank and these runs
  stands : (t : Course) → t.bank ≡ s.bank → t.journal ≡ s.journal → ((j : ℕ) → j < run_count → SameRunAt next t j) → Standing next t
  unfolding run_step run_call room_call lent_to
  stands t same events runs = record {
    listed = v.listed;
    stores = v.stores;
    bank = v.bank ∙ sym same;
    journal = v.journal ∙ sym events;
    count = length-set u.unit.runs i _ ∙ v.count;
    payloads = kept-room u.memory.payloads v.payloads i inside body kept fits;
    files =
        length-room u.memory.files v.files i inside o.file (let w = left-whole in omega arith);
    room = v.room;
    image = v.image;
    line-rows = v.line-rows;
    line-stores = v.line-stores;
    runs = runs;
  }

  -- given a number: nothing changed
  stays : kept ≡ false → (o.run ≡ run.client.run) × (o.file ≡ l.file) → Standing next s
  unfolding lent_to
  stays zero same = stands s refl refl (λ j h. at j h (ℕ_discrete j i))
    where
      own : SameRunAt next s i
      own =
          let h = v.runs i inside in
          by_parts (own-client ∙ same.0) (own-payload ∙ ap (λ (b : Bool). cond b body (payload_at u i)) zero)
          (own-file ∙ same.1) refl refl refl h

      at : (j : ℕ) → j < run_count → Dec (j ≡ i) → SameRunAt next s j
      at j h (yes z) = subst (λ (n : ℕ). SameRunAt next s n) (sym z) own
      at j h (no z) =
          by_parts (other-client j z) (other-payload j z) (other-file j z) refl refl refl (v.runs j h)

  -- given none: run i is what the call leaves
  moves : kept ≡ unit.begins e → (t : Course) → Carried i run.client.run r l s t o → Standing next t
  unfolding lent_to
  moves is t k = stands t k.bank k.journal (λ j h. at j h (ℕ_discrete j i))
    where
      own : SameRunAt next t i
      own =
          by_parts own-client (own-payload ∙ ap (λ (b : Bool). cond b body (payload_at u i)) is) own-file
          (ap (λ (f : ℕ → ClientRun). f i) k.runs ∙ changed-own s.runs i o.run)
          (ap (λ (f : ℕ → List ℕ). f i) k.payloads ∙ changed-own s.payloads i l.payload)
          (ap (λ (f : ℕ → List ℕ). f i) k.files ∙ changed-own s.files i o.file)
          (record { client = refl; payload = λ _. refl; file = λ _. refl })

      at : (j : ℕ) → j < run_count → Dec (j ≡ i) → SameRunAt next t j
      at j h (yes z) = subst (λ (n : ℕ). SameRunAt next t n) (sym z) own
      at j h (no z) =
          by_parts (other-client j z) (other-payload j z) (other-file j z)
          (ap (λ (f : ℕ → ClientRun). f j) k.runs ∙ changed-other s.runs i o.run j z)
          (ap (λ (f : ℕ → List ℕ). f j) k.payloads ∙ changed-other s.payloads i l.payload j z)
          (ap (λ (f : ℕ → List ℕ). f j) k.files ∙ changed-other s.files i o.file j z)
          (v.runs j h)

  run-standing : Standing next (exec (run_of e u r) s)
  run-standing = at o.answer refl
    where
      k : Call
      k = run_of e u r

      given-none : kept ≡ unit.begins e → answer_number o.answer ≡ 0 → Standing next (exec (run_of e u r) s)
      given-none is z =
          subst (Standing next) (sym (carried (run_of e u r) s (number_is i run.client.run r l e ∙ z)))
          (moves is (carry_out (run_of e u r) s) (run-carried i run.client.run r l e s))

      at : (a : Result client.Answer Refusal) → o.answer ≡ a → Standing next (exec (run_of e u r) s)
      at (Ok (answer.Request n)) z = given-none (ap (keeps (unit.begins e)) z) (ap answer_number z)
      at (Ok answer.Ignored) z = given-none (ap (keeps (unit.begins e)) z) (ap answer_number z)
      at (Ok (answer.Closed w)) z = given-none (ap (keeps (unit.begins e)) z) (ap answer_number z)
      at (Err x) z =
          subst (Standing next)
          (sym (numbered-stays (run_of e u r) s
          (λ n. refusal-numbered x (sym (number_is i run.client.run r l e ∙ ap answer_number z) ∙ n))))
          (stays (ap (keeps (unit.begins e)) z) (known.refused x z))

  pub run_step_lem : Stepped s (run_of e u r) (run_step e u r)
  unfolding run_step run_call room_call lent_to
  run_step_lem = record {
    given = run-given v r inside e;
    standing = run-standing;
    answer = run-told o.answer o.run o.request u.memory.room ∙ told_is i run.client.run r l e;
  }

  -- its closing word and its name are the run's
  pub run-closed : (w : Word) (name : OrderName) → (run_step e u r).answer ≡ Closed w name → Tells w name (client_at next i)
  unfolding run_step run_call room_call lent_to
  run-closed w name h =
      let x = run-named o.run w name o.answer h in
      record {
        ended = ap (λ (c : ClientRun). c.stage) own-client ∙ event-ends run.client.run l r e w x.0;
        name = x.1 ∙ ap (λ (c : ClientRun). order_name c) (sym own-client);
      }
