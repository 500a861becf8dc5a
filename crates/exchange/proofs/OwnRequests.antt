-- The outstanding request of an order in turn comes to the bank: what it answers, and where the order stands then. Assumes nothing.
use Prim.Native.Nat.{ℕ, suc, ◌+◌, ◌<◌, ◌≤◌, max}
use mathlib.Core.Bool.{Bool, true, false, cond}
use mathlib.Core.List.Memᴰ.{head as here}
use mathlib.Core.List.Memᴰ.{tail as there}
use mathlib.Core.List.{List, [], ◌∷◌, Memᴰ as In}
use mathlib.Core.Logic.{◌⊎◌, inl, inr}
use mathlib.Core.Path.{◌≡◌, refl, sym, ap, ◌∙◌, subst}
use native.Mathlib.Decide.{ℕ_discrete}
use native.Mathlib.Omega.{arith}
use lib.Dec.{eqb}
use lib.ListN.{length}
use Rattle.frame_table.specs.declared.fields.Bits128.{Bits128}
use Rattle.frame_table.specs.declared.fields.Fields.{Fields}
use Rattle.frame_table.specs.Forms as forms
use Rattle.frame_table.specs.Names.{subscriber, exchange, transaction, segments, segment, last_mark, receipt_code, return_code, form}
use Rattle.frame_reader.specs.Reader.{read_request, read_reply}
use Rattle.frame_row.specs.Row.{data_of}
use Rattle.octets.proofs.Tests.{never}
use Rattle.message.specs.declared.codes.ReturnCode.TheVariants as code
use Rattle.message.specs.Codes.{code_field}
use Rattle.message.specs.declared.editions.Edition.{Edition}
use Rattle.message.specs.declared.editions.Edition.TheVariants.{V24, V25}
use Rattle.message.specs.Editions.{form_edition, edition_of, opening_form}
use Rattle.message.specs.Limits.{segment_bytes}
use Rattle.message.specs.Replies.{download_opened, segment_taken, download_segment, receipt_answered}
use Rattle.message.specs.Requests.{download_opening, upload_transfer, download_transfer, receipt}
use Rattle.message.specs.Segments.{last_mark_of}
use Rattle.bank_state.specs.Clock.{advanced}
use Rattle.bank_state.specs.Limits.{idle_limit}
use Rattle.bank_state.specs.State.{BankState}
use Rattle.message.specs.OrderNumbers.{order_number_of}
use Rattle.bank_verdicts.specs.declared.verdict.UploadAction.TheVariants as up
use Rattle.bank_verdicts.specs.declared.verdict.DownloadAction.TheVariants as down
use Rattle.bank_verdicts.specs.declared.verdict.Action.{Action}
use Rattle.bank_verdicts.specs.declared.verdict.Action.TheVariants as action
use Rattle.bank_verdicts.specs.declared.verdict.SignedOrder.{SignedOrder}
use Rattle.bank_verdicts.specs.declared.verdict.Verdict.{Verdict}
use Rattle.bank_verdicts.specs.declared.verdict.Verdict.TheVariants as verdict
use Rattle.bank_verdicts.specs.Judgement.{mailbox_segments}
use Rattle.bank_verdicts.specs.Replies.{opened_reply, reply_to}
use Rattle.bank.specs.Call.{FrameInput}
use Rattle.bank_history.specs.History.{newest, is_opening, exchange_of, call_exchange}
use Rattle.bank_history.specs.History as bank
use Rattle.bank_history.specs.Transactions.{UploadAt, DownloadAt, UploadUnlessIdle, DownloadUnlessIdle, answered}
use Rattle.bank_history.proofs.Liveness as bank_turn
use Rattle.bank_history.proofs.Positions.{action-sound, signing-sound}
use Rattle.bank_history.proofs.Theorems.{reply-is}
use Rattle.client_run.specs.declared.run.ClientRun.{ClientRun}
use Rattle.message.specs.declared.directions.Direction.{Direction}
use Rattle.message.specs.declared.directions.Direction.TheVariants.{Upload, Download}
use Rattle.client_run.specs.declared.run.Step.{Step}
use Rattle.client_run.specs.declared.run.Step.TheVariants as step
use Rattle.client_run.specs.Requests.{nonce_of, terms_opening}
use Rattle.client_rules.specs.Rulings.{is_begun}
use Rattle.client_history.specs.History.{Past}
use Rattle.client_history.specs.InTurn.{InTurn}
use Rattle.client_history.specs.Invariant.{is_open}
use Rattle.client_history.proofs.Files.{segment-most}
use Rattle.client_history.proofs.Fitting.{
  download-fits,
  download-fields,
}
use Rattle.client_history.proofs.Issues as issues
use Rattle.client_history.proofs.Requests.{
  form-opening,
  segments-opening,
  form-download_opening,
  form-upload_transfer,
  form-download_transfer,
  form-receipt,
  outstanding-subscriber,
  is-upload_opening,
  is-download_opening,
  is-upload_transfer,
  is-download_transfer,
  is-receipt,
  data-transfer,
  data-download,
}
use Rattle.client_history.proofs.Theorems.{exchange-numbers, upload-segments, file-held, not-opening}
use Rattle.client_history.proofs.Theorems as client
use Rattle.exchange.specs.Course.{Issue, Exchange, Arrival, Course}
use Rattle.exchange.specs.Terms.{IssuedBy, Received, NoIdleHour}
use Rattle.exchange.specs.Demand3.{OneExchangeNumber}
use Rattle.exchange.proofs.Told.{opening-action, opening-edition, Gave, file_in, bank-replies, by_code}
use Rattle.exchange.proofs.Bank.{Entered}
use Rattle.exchange.proofs.Clients.{run_past, issued-in, Parts, own_past, begun-same}
use Rattle.exchange.proofs.Issues.{number_of, one-issue}
use Rattle.exchange.proofs.Courses.{Copied}
use Rattle.exchange.proofs.Foreign.{Opens, under-not, case-of}
use Rattle.exchange.proofs.OrderStates.{OpensAs, opened_with, accepted-fits, accepted-id, Messages, Open, Before, Behind, State, idle, asks, told, refused, closed}
use Rattle.exchange.proofs.Outstanding.{Asked, own-outstanding}
use Rattle.exchange.proofs.Received.{or-another}
use Rattle.exchange.proofs.OpenTransactions.{OpenUnlessIdle}

-- ---- the fields of the requests

transfer-fields : (s x : ℕ) (t : Bits128) (j mark : ℕ) → let q = upload_transfer s x t j mark in
    (subscriber q ≡ s) × (transaction q ≡ t) × (segment q ≡ j) × (last_mark q ≡ mark)
unfolding upload_transfer
transfer-fields s x t j mark = (refl, refl, refl, refl)

asking-fields : (s x : ℕ) (t : Bits128) (j : ℕ) → let q = download_transfer s x t j in
    (subscriber q ≡ s) × (transaction q ≡ t) × (segment q ≡ j)
unfolding download_transfer
asking-fields s x t j = (refl, refl, refl)

receipt-fields : (s x : ℕ) (t : Bits128) (n : ℕ) → let q = receipt s x t n in
    (subscriber q ≡ s) × (transaction q ≡ t) × (receipt_code q ≡ n)
unfolding receipt
receipt-fields s x t n = (refl, refl, refl)

-- the bank's reply to an accepted opening
opened-reply : (x : Edition) (m : ℕ) (id : Bits128) (q : Fields) → opened_reply x m id q ≡ opened_with x (exchange q) id (order_number_of m)
opened-reply V24 m id q = refl
opened-reply V25 m id q = refl

module _ (s : Course) (v : Parts s) (copies : Copied s) (numbers : OneExchangeNumber s) (i : ℕ) where
  abbrev p : Past
  p = run_past s i

  abbrev c : ClientRun
  c = s.runs i

  abbrev h : List bank.Exchange
  h = v.bank.past.history

  -- a run that issued something has begun
  pub issued-begun : {frame : List ℕ} → IssuedBy i frame s → is_begun (s.runs i).stage ≡ true
  issued-begun (x, m, r, f) =
      sym (begun-same s v i) ∙ client.issued-begun (Gave h) (file_in h) (bank-replies h v.bank.holds.invariant.sound v.bank.proper)
      (own_past v i) (v.runs i).own _ (issued-in i m r)

  -- its numbers go up to the outstanding one
  pub issued-below : {x : Issue} → In x s.issued → x.run ≡ i → number_of x < (s.runs i).exchange + 1
  issued-below {x} m r =
      let b = issued-begun (x, m, r, refl) in
      issues.below (exchange-numbers (Gave h) (file_in h)
      (bank-replies h v.bank.holds.invariant.sound v.bank.proper) (own_past v i) (v.runs i).own
      (begun-same s v i ∙ b)).1 (issued-in i m r)

  -- a frame of the run that was not received before
  module _ (a : FrameInput) (t : Course) (en : Entered s v.bank a t) (own : IssuedBy i a.frame s)
      (new : (e : Exchange) → In e s.exchanged → e.request ≡ a.frame → ⊥)
      (hour : NoIdleHour i t.bank.bank.clock s)
      (issued : t.issued ≡ s.issued) (arrivals : t.arrived ≡ s.arrived) where
    abbrev x : bank.Exchange
    x = call_exchange v.bank.past.bank_state a

    abbrev f : Exchange
    f = en.exchange

    -- ---- the messages

    received-cases : (e : Exchange) → Received i e t → (e ≡ en.exchange) ⊎ Received i e s
    received-cases e k = at (subst (In e) en.exchanged k.0)
      where
        back : IssuedBy i e.request s
        back = subst (λ (l : List Issue). (y : Issue) × In y l × (y.run ≡ i) × (y.frame ≡ e.request)) issued k.1

        at : In e (en.exchange ∷ s.exchanged) → (e ≡ en.exchange) ⊎ Received i e s
        at (here z) = inl z
        at (there m) = inr (m, back)

    received_more : (j : ℕ) (e : Exchange) → Received j e s → Received j e t
    received_more j e k = (
      subst (In e) (sym en.exchanged) (there k.0),
      subst (λ (l : List Issue). (y : Issue) × In y l × (y.run ≡ j) × (y.frame ≡ e.request)) (sym issued) k.1,
    )

    received-now : Received i en.exchange t
    received-now = (
      subst (In en.exchange) (sym en.exchanged) (here refl),
      subst (λ (l : List Issue). (y : Issue) × In y l × (y.run ≡ i) × (y.frame ≡ en.exchange.request)) (sym issued)
          (own.0, own.1, own.2, own.3 ∙ sym en.request),
    )

    -- where requests below the outstanding one are received, the frame is the outstanding one
    module _ (m : Messages s i (s.runs i).exchange (s.runs i).exchange) where
      is-outstanding : exchange (read_request a.frame) ≡ (s.runs i).exchange
      is-outstanding = at (ℕ_discrete (number_of own.0) (s.runs i).exchange)
        where
          same : exchange (read_request a.frame) ≡ number_of own.0
          same = ap (λ (l : List ℕ). exchange (read_request l)) (sym own.3)

          at : Dec (number_of own.0 ≡ (s.runs i).exchange) → exchange (read_request a.frame) ≡ (s.runs i).exchange
          at (yes z) = same ∙ z
          at (no n) =
              let b = issued-below own.1 own.2 in
              let y = m.all own.0 own.1 own.2 (omega arith) in
              absurd (new y.0 y.1 (y.2 ∙ own.3))

      asked : Asked s v i a.frame
      asked = own-outstanding s v numbers i a.frame (issued-begun own) own is-outstanding

      now-number : {e : Exchange} → e ≡ en.exchange → exchange (read_request e.request) ≡ (s.runs i).exchange
      now-number z =
          ap (λ (u : Exchange). exchange (read_request u.request)) z ∙ ap (λ (l : List ℕ). exchange (read_request l)) en.request
          ∙ is-outstanding

      -- every request of the run is received
      all-received : (y : Issue) → In y t.issued → y.run ≡ i → (e : Exchange) × In e t.exchanged × (e.request ≡ y.frame)
      all-received y k r = at (ℕ_discrete (number_of y) (s.runs i).exchange)
        where
          old : In y s.issued
          old = subst (In y) issued k

          at : Dec (number_of y ≡ (s.runs i).exchange) → (e : Exchange) × In e t.exchanged × (e.request ≡ y.frame)
          at (yes z) =
              let one : own.0 ≡ y = one-issue s numbers own.1 old
              (ap (λ (l : List ℕ). exchange (read_request l)) own.3 ∙ is-outstanding ∙ sym z) in
              (en.exchange, received-now.0, en.request ∙ sym own.3 ∙ ap (λ (u : Issue). u.frame) one)
          at (no n) =
              let b = issued-below old r in
              let o = m.all y old r (omega arith) in
              (o.0, subst (In o.0) (sym en.exchanged) (there o.1), o.2)

      messages-now : Messages t i ((s.runs i).exchange + 1) (s.runs i).exchange
      messages-now = record {
        received = λ e k. at-received e (received-cases e k);
        all = λ y k r b. all-received y k r;
        arrived = λ a k r. or-another (λ b. b) received_more (m.arrived a (subst (In a) arrivals k) r);
        replied = λ e k b. at-replied e b (received-cases e k);
      }
        where
          at-received : (e : Exchange) → (e ≡ en.exchange) ⊎ Received i e s → exchange (read_request e.request) < (s.runs i).exchange + 1
          at-received e (inl z) = let n = now-number z in omega arith
          at-received e (inr k) = let n = m.received e k in omega arith

          at-replied : (e : Exchange) → exchange (read_request e.request) < (s.runs i).exchange → (e ≡ en.exchange) ⊎ Received i e s →
              (a : Arrival) × In a t.arrived × (a.run ≡ i) × (a.reply ≡ e.reply)
          at-replied e b (inl z) = absurd (let n = now-number z in omega arith)
          at-replied e b (inr k) = let o = m.replied e k b in (o.0, subst (In o.0) (sym arrivals) o.1, o.2, o.3)

      given-now : (e : Exchange) → Received i e t → exchange (read_request e.request) ≡ (s.runs i).exchange →
          e.reply ≡ en.exchange.reply
      given-now e k n = at (received-cases e k)
        where
          at : (e ≡ en.exchange) ⊎ Received i e s → e.reply ≡ en.exchange.reply
          at (inl z) = ap (λ (u : Exchange). u.reply) z
          at (inr y) = absurd (let b = m.received e y in omega arith)

      -- ---- the reply

      replies : (z : Verdict) → x.verdict ≡ z → read_reply en.exchange.reply ≡ reply_to z (read_request a.frame)
      unfolding exchange_of
      replies z e =
          en.same.reply ∙ reply-is en.sound newest ∙ ap (λ (u : Verdict). reply_to u (read_request a.frame)) e

      told-by : (direction : Direction) (at : Step) (j : ℕ) → InTurn p direction at j c.exchange → Behind direction at j t i c (read_reply f.reply) →
          State t i p
      told-by direction at j turn b = told (record {
        direction = direction;
        at = at;
        j = j;
        turn = turn;
        messages = messages-now;
        reply = f.reply;
        given = given-now;
        behind = b;
      })

      -- ---- the clock and the bank now

      clock-is : max v.bank.past.bank_state.bank.clock a.time ≡ t.bank.bank.clock
      clock-is =
          sym (ap (λ (w : BankState). w.bank.clock) en.bank
          ∙ bank_turn.answered-clock a v.bank.past v.bank.holds)

      -- the latest of the order's requests
      latest-now : (last : ℕ) → ((e : Exchange) → Received i e s → e.clock ≤ last) → last ≤ t.bank.bank.clock →
          (e : Exchange) → Received i e t → e.clock ≤ t.bank.bank.clock
      latest-now last b l e k = at (received-cases e k)
        where
          at : (e ≡ en.exchange) ⊎ Received i e s → e.clock ≤ t.bank.bank.clock
          at (inl z) = let n = ap (λ (u : Exchange). u.clock) z in let y = en.clock in omega arith
          at (inr y) = let n = b e y in omega arith

      not-idle : (o : (last : ℕ) × ((e : Exchange) → Received i e s → e.clock ≤ last) × ((e : Exchange) × Received i e s)) →
          max v.bank.past.bank_state.bank.clock a.time ≤ o.0 + idle_limit
      not-idle (last, latest, some) = at hour
        where
          at : NoIdleHour i t.bank.bank.clock s →
              max v.bank.past.bank_state.bank.clock a.time ≤ last + idle_limit
          at (inl (e, k, l)) = let n = latest e k in let y = clock-is in omega arith
          at (inr none) = absurd (none some.0 some.1)

      open-now : (direction : Direction) (id : Bits128) (u n k : ℕ) (o : Exchange) → Received i o t →
          OpensAs direction (form (read_reply o.reply)) →
          return_code (read_reply o.reply) ≡ code_field code.Ok → transaction (read_reply o.reply) ≡ id →
          ((e : Exchange) → Received i e t → e.clock ≤ t.bank.bank.clock) →
          OpenUnlessIdle direction (answered a v.bank.past).bank_state id u k n
          (max v.bank.past.bank_state.bank.clock a.time) →
          Open direction t i u id n k
      open-now direction id u n k o received formed b d latest z = record {
        opening = o;
        received = received;
        opened = formed;
        ok = b;
        id = d;
        last = t.bank.bank.clock;
        latest = latest;
        standing = subst (λ (w : BankState). OpenUnlessIdle direction w id u k n t.bank.bank.clock) (sym en.bank)
            (subst (OpenUnlessIdle direction (answered a v.bank.past).bank_state id u k n) clock-is z);
      }

      -- the transaction goes on from an earlier request
      open-on : {direction : Direction} {id : Bits128} {u n k : ℕ} (o : Open direction s i u id n k) (m : ℕ) →
          o.last ≤ max v.bank.past.bank_state.bank.clock a.time →
          OpenUnlessIdle direction (answered a v.bank.past).bank_state id u m n
          (max v.bank.past.bank_state.bank.clock a.time) →
          Open direction t i u id n m
      open-on {direction} {id} {u} {n} o m l z =
          open-now direction id u n m o.opening (received_more i o.opening o.received) o.opened o.ok o.id
          (latest-now o.last o.latest (let y = clock-is in omega arith)) z

      in-hour : {direction : Direction} {id : Bits128} {u n k : ℕ} (o : Open direction s i u id n k) →
          max v.bank.past.bank_state.bank.clock a.time ≤ o.last + idle_limit
      in-hour o = not-idle (o.last, o.latest, (o.opening, o.received))

      -- ---- the opening

      -- its code is another than 000000
      opening-lost : c.step ≡ step.Opening → ((e : Exchange) → Received i e s → ⊥) →
          (return_code (read_reply f.reply) ≡ code_field code.Ok → ⊥) → State t i p
      opening-lost at first other = refused (record {
        begun = issued-begun own;
        at = at;
        all = all-received;
        none = λ e k z. by e z (received-cases e k);
      })
        where
          by : (e : Exchange) → return_code (read_reply e.reply) ≡ code_field code.Ok → (e ≡ en.exchange) ⊎ Received i e s → ⊥
          by e z (inl y) = other (ap (λ (u : Exchange). return_code (read_reply u.reply)) (sym y) ∙ z)
          by e z (inr k) = first e k

      -- its code is 000000: it opened a transaction
      opening-done : Opens (read_request a.frame) →
          return_code (read_reply f.reply) ≡ code_field code.Ok →
          (id : Bits128) × (k : Action) × (x.verdict ≡ verdict.Of id k) × (is_opening k ≡ true)
      opening-done kind ok =
          let b = by_code en.sound newest en.proper code.Ok refl (sym (ap return_code en.same.reply) ∙ ok) unsigned in
          (b.0, b.1, b.2, at b.2 (is_opening b.1) refl)
        where
          other : Opens (read_request a.frame) → form (read_request a.frame) ≡ forms.Signing → ⊥
          other (inl (w, o)) f = let y = not-opening w (λ z. cc) (λ z. cc) (sym f ∙ o) in omega arith
          other (inr o) f = let y : ◌≡◌ {A = ℕ} 0 1 = cc in omega arith

          unsigned : (n : SignedOrder) (added : Bool) → x.verdict ≡ verdict.Signed n added → ⊥
          unsigned n added own =
              other kind (ap (λ (l : List ℕ). form (read_request l)) (sym en.request) ∙ ap form en.same.request
              ∙ (signing-sound en.sound newest own).asked)

          at : {id : Bits128} {k : Action} → x.verdict ≡ verdict.Of id k → (z : Bool) → is_opening k ≡ z → z ≡ true
          at e true z = refl
          at e false z = under-not (case-of s v copies numbers a (λ _. (i, own)) en.sound e z) kind

      alone-now : ((e : Exchange) → Received i e s → ⊥) → (e : Exchange) → Received i e t → e.clock ≤ t.bank.bank.clock
      alone-now first = latest-now 0 (λ e k. absurd (first e k)) (omega arith)

      upload-opening : (j : ℕ) → InTurn p Upload step.Opening j c.exchange → ((e : Exchange) → Received i e s → ⊥) →
          return_code (read_reply f.reply) ≡ code_field code.Ok → State t i p
      unfolding exchange_of
      upload-opening j turn first ok = at (opening-done (inl (c.terms.edition, asks-form)) ok)
        where
          request : read_request a.frame
              ≡ terms_opening c.terms c.subscriber c.exchange (nonce_of asked.nonce c.exchange) asked.time c.segments
          request = asked.request ∙ is-upload_opening (own_past v i).run asked.time asked.nonce [] turn.direction turn.step

          asks-form : form (read_request a.frame) ≡ opening_form c.terms.edition
          asks-form = ap form request ∙ form-opening c.terms.edition _ _ _ _ _ _

          edition : edition_of (read_request a.frame) ≡ c.terms.edition
          edition = ap form_edition asks-form ∙ opening-edition c.terms.edition

          opened : (id : Bits128) (m : ℕ) → x.verdict ≡ verdict.Of id (action.Upload (up.Opened m)) → State t i p
          opened id m e =
              let w = c.terms.edition in
              let r = replies (verdict.Of id (action.Upload (up.Opened m))) e
              ∙ ap (λ (x : Edition). opened_reply x m id (read_request a.frame)) edition ∙ opened-reply w m id (read_request a.frame)
              ∙ ap (λ (n : ℕ). opened_with w n id (order_number_of m)) is-outstanding in
              let y = accepted-fits c.exchange (order_number_of m) id w in
              let there = bank_turn.upload-opens a v.bank.past v.bank.holds id m e in
              told-by Upload step.Opening j turn (
                id,
                order_number_of m,
                r,
                open-now Upload id c.subscriber c.segments 0 f received-now (w, ap form r ∙ y.form-is) ok
                    (ap transaction r ∙ accepted-id c.exchange (order_number_of m) id w) (alone-now first)
                    (λ _. subst (λ (u : ℕ). UploadAt (answered a v.bank.past).bank_state id u 0 c.segments
                    (max v.bank.past.bank_state.bank.clock a.time))
                    (ap subscriber asked.request ∙ outstanding-subscriber (own_past v i).run asked.time asked.nonce [])
                    (subst (λ (n : ℕ). UploadAt (answered a v.bank.past).bank_state id
                    (subscriber (read_request a.frame)) 0 n
                    (max v.bank.past.bank_state.bank.clock a.time))
                    (ap segments request ∙ segments-opening c.terms.edition _ _ _ _ _ _) there)),
              )

          at : (id : Bits128) × (k : Action) × (x.verdict ≡ verdict.Of id k) × (is_opening k ≡ true) → State t i p
          at (id, k, e, z) = by (opening-action k z)
            where
              by : ((n : ℕ) × (k ≡ action.Upload (up.Opened n))) ⊎ ((n : ℕ) × (k ≡ action.Download (down.Opened n))) → State t i p
              by (inl (m, y)) = opened id m (e ∙ ap (verdict.Of id) y)
              by (inr (n, y)) = absurd (
                  let a = (action-sound en.sound newest (e ∙ ap (verdict.Of id) y)).opening.asked in
                  let w = not-opening c.terms.edition (λ z. cc) (λ z. cc) (sym a ∙ asks-form) in omega arith)

      download-opening : (j : ℕ) → InTurn p Download step.Opening j c.exchange → ((e : Exchange) → Received i e s → ⊥) →
          return_code (read_reply f.reply) ≡ code_field code.Ok → State t i p
      unfolding exchange_of
      download-opening j turn first ok = at (opening-done (inr asks-form) ok)
        where
          request : read_request a.frame ≡ download_opening c.subscriber c.exchange
              (nonce_of asked.nonce c.exchange) asked.time
          request = asked.request ∙ is-download_opening (own_past v i).run asked.time asked.nonce [] turn.direction turn.step

          asks-form : form (read_request a.frame) ≡ forms.DownloadOpening
          asks-form = ap form request ∙ form-download_opening _ _ _ _

          opened : (id : Bits128) (n : ℕ) → x.verdict ≡ verdict.Of id (action.Download (down.Opened n)) → State t i p
          opened id n e =
              let r = replies (verdict.Of id (action.Download (down.Opened n))) e
              ∙ ap (λ (m : ℕ). download_opened m n id (last_mark_of 1 n)) is-outstanding in
              let y = download-fits c.exchange n 0 (last_mark_of 1 n) id in
              let there = bank_turn.download-opens a v.bank.past v.bank.holds id n e in
              told-by Download step.Opening j turn (
                id,
                n,
                r,
                open-now Download id c.subscriber n 1 f received-now (ap form r ∙ y.form-is) ok
                    (ap transaction r ∙ (download-fields c.exchange n 0 (last_mark_of 1 n) id).0) (alone-now first)
                    (λ _. subst (λ (u : ℕ). DownloadAt (answered a v.bank.past).bank_state id u 1
                    (max v.bank.past.bank_state.bank.clock a.time))
                    (ap subscriber asked.request ∙ outstanding-subscriber (own_past v i).run asked.time asked.nonce []) there),
              )

          at : (id : Bits128) × (k : Action) × (x.verdict ≡ verdict.Of id k) × (is_opening k ≡ true) → State t i p
          at (id, k, e, z) = by (opening-action k z)
            where
              by : ((n : ℕ) × (k ≡ action.Upload (up.Opened n))) ⊎ ((n : ℕ) × (k ≡ action.Download (down.Opened n))) → State t i p
              by (inr (n, y)) = opened id n (e ∙ ap (verdict.Of id) y)
              by (inl (m, y)) = absurd (
                  let a = (action-sound en.sound newest (e ∙ ap (verdict.Of id) y)).opening.asked in
                  let w = not-opening (edition_of x.request) (λ z. cc) (λ z. cc) (sym asks-form ∙ a) in omega arith)

      -- ---- a segment of an upload

      take-reply : (id : Bits128) (b : Bool) (q : Fields) →
          reply_to (verdict.Of id (action.Upload (cond b up.TookLast up.Took))) q ≡ segment_taken (exchange q) id (segment q)
      take-reply id true q = refl
      take-reply id false q = refl

      upload-segment : (j : ℕ) → InTurn p Upload step.Segment j c.exchange → Before Upload step.Segment j s i c → State t i p
      upload-segment j turn (k, next, within, o) =
          told-by Upload step.Segment j turn (
            r,
            within,
            λ below. open-on o j current (λ _. subst (λ (m : ℕ). UploadAt (answered a v.bank.past).bank_state
                c.transaction c.subscriber m c.segments
                (max v.bank.past.bank_state.bank.clock a.time)) (sym next)
                (bank_turn.upload-goes-on a v.bank.past v.bank.holds c.transaction c.subscriber k
                c.segments
                o.last
                before kind from to next-segment mark short (in-hour o) (omega arith))),
          )
        where
          request : read_request a.frame
              ≡ upload_transfer c.subscriber c.exchange c.transaction c.segment (last_mark_of c.segment c.segments)
          request = asked.request ∙ is-upload_transfer (own_past v i).run asked.time asked.nonce [] turn.direction turn.step

          fields : let q =
              upload_transfer c.subscriber c.exchange c.transaction c.segment (last_mark_of c.segment c.segments) in
              (subscriber q ≡ c.subscriber) × (transaction q ≡ c.transaction) × (segment q ≡ c.segment)
              × (last_mark q ≡ last_mark_of c.segment c.segments)
          fields = transfer-fields _ _ _ _ _

          kind : form (read_request a.frame) ≡ forms.UploadTransfer
          kind = ap form request ∙ form-upload_transfer _ _ _ _ _

          from : subscriber (read_request a.frame) ≡ c.subscriber
          from = ap subscriber request ∙ fields.0

          to : transaction (read_request a.frame) ≡ c.transaction
          to = ap transaction request ∙ fields.1

          is-segment : segment (read_request a.frame) ≡ c.segment
          is-segment = ap segment request ∙ fields.2

          next-segment : segment (read_request a.frame) ≡ suc k
          next-segment = is-segment ∙ turn.segment ∙ next

          mark : last_mark (read_request a.frame) ≡ last_mark_of (segment (read_request a.frame)) c.segments
          mark = ap last_mark request ∙ fields.3 ∙ ap (λ (m : ℕ). last_mark_of m c.segments) (sym is-segment)

          short : length (data_of a.frame) ≤ segment_bytes
          short =
              let bytes = asked.bytes ∙ data-transfer (own_past v i).run 0 [] (s.payloads i) turn.direction turn.step in
              let count = (upload-segments (Gave h) (file_in h) (bank-replies h v.bank.holds.invariant.sound v.bank.proper) (own_past v i) (v.runs i).own
              (begun-same s v i ∙ issued-begun own) turn.direction).0 in
              let z = turn.segment in
              let m = segment-most (s.payloads i) c.segment (omega arith) (omega arith) in
              let l = ap length bytes in omega arith

          before : UploadUnlessIdle v.bank.past.bank_state c.transaction c.subscriber k c.segments o.last
          before = subst (λ (w : BankState). UploadUnlessIdle w c.transaction c.subscriber k c.segments o.last)
              (sym v.bank.bank_state)
              o.standing

          current : o.last ≤ max v.bank.past.bank_state.bank.clock a.time
          current = bank_turn.upload-current a v.bank.past v.bank.holds c.transaction c.subscriber k
              c.segments
              o.last before kind from to next-segment mark short (in-hour o)

          r : read_reply f.reply ≡ segment_taken c.exchange c.transaction j
          r =
              replies _ (bank_turn.upload-takes a v.bank.past v.bank.holds c.transaction c.subscriber k
              c.segments
              o.last before kind from to next-segment mark short (in-hour o))
              ∙ take-reply c.transaction (eqb (k + 1) c.segments) (read_request a.frame)
              ∙ ap (λ (n : ℕ). segment_taken n c.transaction (segment (read_request a.frame))) is-outstanding
              ∙ ap (segment_taken c.exchange c.transaction) (is-segment ∙ turn.segment)

      -- ---- a segment and the receipt of a download

      module _ (turn-direction : c.direction ≡ Download) (known : is_open c.step ≡ true) (d : ℕ)
          (o : Open Download s i c.subscriber c.transaction c.segments d)
          (from : subscriber (read_request a.frame) ≡ c.subscriber)
          (to : transaction (read_request a.frame) ≡ c.transaction) where
        before-download : DownloadUnlessIdle v.bank.past.bank_state c.transaction c.subscriber d o.last
        before-download = subst (λ (w : BankState). DownloadUnlessIdle w c.transaction c.subscriber d o.last) (sym v.bank.bank_state)
            o.standing

        short-download : length (data_of a.frame) ≤ segment_bytes
        short-download = let l = ap length (asked.bytes ∙ data-download (own_past v i).run 0 [] (s.payloads i) turn-direction) in omega arith

        current-download : o.last ≤ max v.bank.past.bank_state.bank.clock a.time
        current-download =
            bank_turn.download-current a v.bank.past v.bank.holds c.transaction c.subscriber d o.last
            before-download from to short-download (in-hour o)

        -- N as the run knows it
        count-now : mailbox_segments (subscriber (read_request a.frame))
            (advanced a.time v.bank.past.bank_state).bank ≡ c.segments
        count-now =
            bank_turn.download-segments a v.bank.past v.bank.holds c.transaction c.subscriber d o.last
            before-download from to short-download (in-hour o)
            ∙ sym (file-held (Gave h) (file_in h) (bank-replies h v.bank.holds.invariant.sound v.bank.proper) (own_past v i) (v.runs i).own
            (begun-same s v i ∙ issued-begun own) turn-direction known).number

      download-segment : (j : ℕ) → InTurn p Download step.Segment j c.exchange → Before Download step.Segment j s i c → State t i p
      download-segment j turn (k, next, within, o) =
          told-by Download step.Segment j turn (
            r,
            omega arith,
            within,
            open-on o j (current-download turn.direction (ap is_open turn.step) k o from to)
                (λ _. subst
                (λ (m : ℕ). DownloadAt (answered a v.bank.past).bank_state c.transaction c.subscriber m
                (max v.bank.past.bank_state.bank.clock a.time)) (sym next)
                (bank_turn.download-goes-on a v.bank.past v.bank.holds c.transaction c.subscriber k
                o.last
                (before-download turn.direction (ap is_open turn.step) k o from to) from to
                (short-download turn.direction (ap is_open turn.step) k o from to) (in-hour o) kind next-segment reach)),
          )
        where
          request : read_request a.frame ≡ download_transfer c.subscriber c.exchange c.transaction
              c.segment
          request = asked.request ∙ is-download_transfer (own_past v i).run asked.time asked.nonce [] turn.direction turn.step

          fields : let q = download_transfer c.subscriber c.exchange c.transaction c.segment in
              (subscriber q ≡ c.subscriber) × (transaction q ≡ c.transaction) × (segment q ≡ c.segment)
          fields = asking-fields _ _ _ _

          kind : form (read_request a.frame) ≡ forms.DownloadTransfer
          kind = ap form request ∙ form-download_transfer _ _ _ _

          from : subscriber (read_request a.frame) ≡ c.subscriber
          from = ap subscriber request ∙ fields.0

          to : transaction (read_request a.frame) ≡ c.transaction
          to = ap transaction request ∙ fields.1

          is-segment : segment (read_request a.frame) ≡ j
          is-segment = ap segment request ∙ fields.2 ∙ turn.segment

          next-segment : segment (read_request a.frame) ≡ suc k
          next-segment = is-segment ∙ next

          count : mailbox_segments (subscriber (read_request a.frame))
              (advanced a.time v.bank.past.bank_state).bank ≡ c.segments
          count = count-now turn.direction (ap is_open turn.step) k o from to

          reach : segment (read_request a.frame) ≤ mailbox_segments (subscriber (read_request a.frame))
              (advanced a.time v.bank.past.bank_state).bank
          reach = let a = is-segment in let b = count in omega arith

          r : read_reply f.reply ≡ download_segment c.exchange c.transaction j (last_mark_of j c.segments)
          r =
              replies _ (bank_turn.download-delivers a v.bank.past v.bank.holds c.transaction
              c.subscriber k
              o.last (before-download turn.direction (ap is_open turn.step) k o from to) from to
              (short-download turn.direction (ap is_open turn.step) k o from to) (in-hour o) kind next-segment reach)
              ∙ ap (λ (n : ℕ). download_segment n c.transaction (segment (read_request a.frame))
              (last_mark_of (segment (read_request a.frame))
              (mailbox_segments (subscriber (read_request a.frame))
              (advanced a.time v.bank.past.bank_state).bank))) is-outstanding
              ∙ ap (λ (m : ℕ). download_segment c.exchange c.transaction m (last_mark_of m
              (mailbox_segments (subscriber (read_request a.frame))
              (advanced a.time v.bank.past.bank_state).bank))) is-segment
              ∙ ap (λ (n : ℕ). download_segment c.exchange c.transaction j (last_mark_of j n)) count

      download-receipt : (j : ℕ) → InTurn p Download step.Receipt j c.exchange → Before Download step.Receipt j s i c → State t i p
      download-receipt j turn (direction, o) =
          told-by Download step.Receipt j turn r
        where
          request : read_request a.frame ≡ receipt c.subscriber c.exchange c.transaction 0
          request = asked.request ∙ is-receipt (own_past v i).run asked.time asked.nonce [] turn.direction turn.step

          fields : let q = receipt c.subscriber c.exchange c.transaction 0 in
              (subscriber q ≡ c.subscriber) × (transaction q ≡ c.transaction) × (receipt_code q ≡ 0)
          fields = receipt-fields _ _ _ _

          from : subscriber (read_request a.frame) ≡ c.subscriber
          from = ap subscriber request ∙ fields.0

          to : transaction (read_request a.frame) ≡ c.transaction
          to = ap transaction request ∙ fields.1

          r : read_reply f.reply ≡ receipt_answered c.exchange c.transaction code.DownloadPostprocessDone
          r =
              replies _ (bank_turn.download-confirms a v.bank.past v.bank.holds c.transaction c.subscriber
              c.segments o.last (before-download turn.direction (ap is_open turn.step) c.segments o from to) from to
              (short-download turn.direction (ap is_open turn.step) c.segments o from to) (in-hour o)
              (ap form request ∙ form-receipt _ _ _ _)
              (sym (count-now turn.direction (ap is_open turn.step) c.segments o from to)) (ap receipt_code request ∙ fields.2))
              ∙ ap (λ (n : ℕ). receipt_answered n c.transaction code.DownloadPostprocessDone) is-outstanding

      by-step : (direction : Direction) (at : Step) (j : ℕ) → InTurn p direction at j c.exchange → Before direction at j s i c → State t i p
      by-step direction step.Opening j turn first = at (ℕ_discrete (return_code (read_reply f.reply)) (code_field code.Ok))
        where
          go : (w : Direction) → InTurn p w step.Opening j c.exchange →
              return_code (read_reply f.reply) ≡ code_field code.Ok → State t i p
          go Upload z ok = upload-opening j z first ok
          go Download z ok = download-opening j z first ok

          at : Dec (return_code (read_reply f.reply) ≡ code_field code.Ok) → State t i p
          at (yes ok) = go direction turn ok
          at (no other) = opening-lost turn.step first other
      by-step Upload step.Segment j turn b = upload-segment j turn b
      by-step Download step.Segment j turn b = download-segment j turn b
      by-step Upload step.Receipt j turn b = absurd (let z = b.0 in let w : ◌≡◌ {A = ℕ} 0 1 = cc in omega arith)
      by-step Download step.Receipt j turn b = download-receipt j turn b

    -- a copy of the run's request moves the order on
    pub request-moves : State s i p → State t i p
    request-moves (idle e none) = never (sym (ap is_begun e) ∙ issued-begun own)
    request-moves (asks a) = by-step a.messages a.direction a.at a.j a.turn a.before
    request-moves (told a) =
        let o = a.messages.all own.0 own.1 own.2 (issued-below own.1 own.2) in absurd (new o.0 o.1 (o.2 ∙ own.3))
    request-moves (refused a) = let o = a.all own.0 own.1 own.2 in absurd (new o.0 o.1 (o.2 ∙ own.3))
    request-moves (closed w) = closed w
