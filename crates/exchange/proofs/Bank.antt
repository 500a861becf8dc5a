-- The bank's part of a course: a past of the bank's calls, whose history says the course's exchanges one by one. Assumes nothing.
use Rattle.bank.specs.declared.mailbox.FileRefusal.{FileRefusal}
use Rattle.number_table.specs.declared.table.WrongLength.{WrongLength}
use Rattle.std.specs.Prelude.{Err, Ok, Result}
use Prim.Native.Nat.{ℕ, ◌≤◌, ◌-◌}
use mathlib.Core.Bool.{Bool, true, false, cond}
use mathlib.Core.List.Memᴰ.{head as here}
use mathlib.Core.List.Memᴰ.{not-nil as in-none}
use mathlib.Core.List.Memᴰ.{tail as there}
use mathlib.Core.List.{List, [], ◌∷◌, Memᴰ as In}
use mathlib.Core.Logic.{◌⊎◌, inl, inr}
use mathlib.Core.Path.{◌≡◌, refl, sym, ap, ◌∙◌, subst}
use native.Mathlib.Omega.{arith}
use lib.Dec.{eqb}
use lib.ListN.{take, get_or-replicate}
use borrow.Author.Tests.{eqb-true, eqb-false}
use Rattle.frame_table.specs.declared.fields.Bits128.{Bits128}
use Rattle.frame_table.specs.declared.fields.Fields.{Fields}
use Rattle.frame_table.specs.Names.{subscriber, transaction, return_code, form}
use Rattle.frame_reader.specs.Reader.{read_request, read_reply}
use Rattle.frame_row.specs.Row.{data_of}
use Rattle.frame_table.specs.Table.{is_reply_form}
use Rattle.frame_writer.specs.Writer.{write_answer, write_buffer}
use Rattle.frame.proofs.RoundTrip.{Sized}
use Rattle.message.specs.declared.codes.ReturnCode.TheVariants as code
use Rattle.message.specs.Codes.{code_field}
use Rattle.message.specs.Limits.{subscribers}
use Rattle.message.specs.Verdicts.{decide}
use Rattle.journal.specs.Row.{Journal}
use Rattle.bank_state.specs.State.{Bank}
use Rattle.bank_state.specs.Clock.{advanced}
use Rattle.bank_state.specs.Limits.{place_count}
use Rattle.bank_state.specs.State.{BankState, bank_state, fresh, file_length}
use Rattle.bank_state.specs.Store.{part_at, file_of}
use Rattle.bank_rows.specs.State.{bank_of}
use Rattle.bank_steps.specs.Lent.{state_of}
use Rattle.bank_session.specs.Session.{LentSession, bank_rows, bank_in, journal_in}
use Rattle.bank.specs.Call.{context_of, Step, FrameCall, replied, answer_of, lent_right, respond, frame_call, FrameInput, frame_refused}
use Rattle.bank.specs.Mailbox.{FileCall, file_call, carry_out_file, file_refusals, file_number}
use Rattle.bank_history.proofs.Answers.{step_of}
use Rattle.bank_verdicts.specs.declared.verdict.DownloadAction.TheVariants as down
use Rattle.bank_verdicts.specs.declared.verdict.Action.TheVariants as action
use Rattle.bank_verdicts.specs.declared.verdict.Verdict.{Verdict}
use Rattle.bank_verdicts.specs.declared.verdict.Verdict.TheVariants as verdict
use Rattle.bank_admitted.specs.State.{mailbox_file}
use Rattle.bank_history.specs.History.{BankCall, past_of, Past, Frame, File, Stands, newest, older, entered, placed, exchange_of, call_exchange}
use Rattle.bank_history.specs.History as history
use Rattle.bank_history.specs.Invariant.{Invariant, Holds}
use Rattle.bank_history.specs.Sound.{AllSound}
use Rattle.bank.specs.Journal.{journal_after, journal_by}
use Rattle.bank_history.specs.Journal.{journal_over, journal_of}
use Rattle.bank_history.specs.JournalOrders.{NeverBooked}
use Rattle.bank_admitted.proofs.Files.{filled}
use Rattle.bank_history.specs.Transactions.{answered, Emptied}
use Rattle.bank_admitted.proofs.Clock.{advanced-clock}
use Rattle.bank_history.proofs.Clock.{advanced-keeps}
use Rattle.bank_steps.proofs.Cases.{happens}
use Rattle.bank_admitted.proofs.Files.{FileSound, rejected, done, judged-file, filled-same, filled-other}
use Rattle.bank_history.proofs.Replies.{verdict_code, reply-form}
use Rattle.bank_history.proofs.Theorems.{frame-mailbox, after_holds, past-holds, reply-is}
use Rattle.bank_history.proofs.Liveness.{answered-clock}
use Rattle.exchange.specs.Course.{
  frame_arrives,
  file_put,
  Exchange,
  Course,
  start,
  mailbox_of,
  changed,
  emptied,
  call_number,
  reply_in,
  after_frame,
  after_file,
  carry_out,
  with_journal,
}
use Rattle.exchange.proofs.Calls.{file-done}
use Rattle.bank_session.proofs.Host.{frame-answered}
use Rattle.exchange.proofs.Host.{frame_left, host-frame, file_left, file-answered, host-file}
use Rattle.frame.proofs.Theorems.{data-read, reply-read}
use Rattle.bank_history.proofs.Refusing.{verdict-refuses}
use Rattle.exchange.proofs.Events.{mailbox-short, case-empties}
use Rattle.exchange.proofs.Told.{Proper, AllProper, coded, done-confirmed}
use Rattle.exchange.proofs.Told.{none as no-entry, more as one_more}
use Rattle.exchange.proofs.Journal.{never-more}

-- ---- entry by entry

-- the exchange of the course is that of the history
pub record Entry (e : Exchange) (f : history.Exchange) : Type 0 where
  pub request : read_request e.request ≡ f.request
  pub request_data : data_of e.request ≡ f.request_data
  pub reply : read_reply e.reply ≡ f.reply
  pub reply_data : data_of e.reply ≡ f.reply_data
  pub clock : e.clock ≡ f.clock
  pub box : e.box ≡ f.file

pub data Entries : List Exchange → List history.Exchange → Type 0 where
  none : Entries [] []
  more : {e : Exchange} {f : history.Exchange} {l : List Exchange} {h : List history.Exchange} → Entry e f → Entries l h →
      Entries (e ∷ l) (f ∷ h)

-- an exchange of the course stands in the history, and the other way round
pub record Found (e : Exchange) (h : List history.Exchange) : Type 0 where
  pub exchange : history.Exchange
  pub before : List history.Exchange
  pub stands : Stands exchange before h
  pub same : Entry e exchange

pub found : {e : Exchange} {l : List Exchange} {h : List history.Exchange} → Entries l h → In e l → Found e h
found none m = absurd (in-none m)
found {h = f ∷ h} (more {l = l} s r) (here z) =
    record { exchange = f; before = h; stands = newest; same = subst (λ (x : Exchange). Entry x f) (sym z) s }
found (more s r) (there m) = let o = found r m in record {
  exchange = o.exchange;
  before = o.before;
  stands = older o.stands;
  same =
      o.same;
}

pub listed : {f : history.Exchange} {g : List history.Exchange} {l : List Exchange} {h : List history.Exchange} → Entries l h →
    Stands f g h →
    (e : Exchange) × In e l × Entry e f
listed (more {e = e} s r) newest = (e, here refl, s)
listed (more s r) (older p) = let o = listed r p in (o.0, there o.1, o.2)
listed {f = f} {g = g} none x4 = elim x4 [ ]

-- ---- the bank's part

-- of the bank, its journal, the exchanges and the file last put into each mailbox
pub record BankEnd (bank : BankState) (journal : Journal) (exchanged : List Exchange) (last_put : ℕ → List ℕ) : Type 0 where
  -- the calls of the bank that were given no number, and what they leave
  pub calls : List BankCall
  pub past : Past
  pub since : past ≡ past_of calls
  pub entered-events : journal_of calls ≡ journal
  pub holds : Holds past
  pub bank_state : past.bank_state ≡ bank
  pub entries : Entries exchanged past.history
  pub proper : AllProper past.history
  -- "The bank's mailbox holds exactly the file last put in by a call given no number, until ..."
  pub mailboxes : (m : ℕ) → 1 ≤ m → m ≤ subscribers → mailbox_of bank m ≡ last_put m

-- of a course: no call of a run touches it
abbrev pub BankPart : Course → Type 0
BankPart s = BankEnd s.bank s.journal s.exchanged s.mailboxes

-- a call enters at most one exchange
pub data Grows (h : List history.Exchange) : List history.Exchange → Type 0 where
  stays : Grows h h
  grows : {x : history.Exchange} → Grows h (x ∷ h)

-- the bank's part after a call
pub record Later (s : Course) (b : BankPart s) (t : Course) : Type 0 where
  pub bank : BankPart t
  pub more : Grows b.past.history bank.past.history
  pub never : (u : Bits128) → NeverBooked b.calls u → NeverBooked bank.calls u

pub same-mailbox : (w : BankState) (m : ℕ) → mailbox_of w m ≡ mailbox_file w m
unfolding mailbox_of mailbox_file
same-mailbox w m = refl

-- ---- a frame answered

-- the call's bank, buffer and answer are those of the request's step
record Replied (k : FrameCall) (s : Step) (buffer : List ℕ) (n : ℕ) : Type 0 where
  bank_state : k.bank_state ≡ s.bank_state
  lent : k.buffer ≡ write_buffer s.reply s.reply_data buffer
  written : write_answer s.reply s.reply_data buffer ≡ Ok n

replied-by : (w : BankState) (a : FrameInput) (n : ℕ) →
    (frame_call w a).answer ≡ Ok n →
    Replied (frame_call w a) (step_of w a) a.buffer n
unfolding frame_call
replied-by w a n = go (lent_right w a)
  where
    s : Step
    s = step_of w a

    out : (a : Result ℕ WrongLength) → answer_of a ≡ Ok n → a ≡ Ok n
    out (Ok m) h = cc
    out (Err e) h = absurd (let z : ◌≡◌ {A = ℕ} 0 1 = cc in omega arith)

    go : (b : Bool) → let k = cond b (replied s a.buffer)
        (frame_refused w a) in
        k.answer ≡ Ok n → Replied k s a.buffer n
    go true h =
        record { bank_state = refl; lent = refl; written = out (write_answer s.reply s.reply_data a.buffer) h }
    go false h = absurd (let z : ◌≡◌ {A = ℕ} 0 1 = cc in omega arith)

module _ (s : Course) (b : BankPart s) (a : FrameInput) (n : ℕ) where
  abbrev p : Past
  p = b.past

  abbrev k : FrameCall
  k = frame_call b.past.bank_state a

  abbrev x : history.Exchange
  x = call_exchange b.past.bank_state a

  module _ (h : (frame_call b.past.bank_state a).answer ≡ Ok n) where
    told : Replied k (step_of p.bank_state a) a.buffer n
    told = replied-by p.bank_state a n h

    pub next-is : history.after (Frame a) p ≡ answered a p
    unfolding history.after
    next-is =
        ap (λ (a : Result ℕ WrongLength). entered a k.bank_state x p) h
        ∙ ap (λ (w : BankState). record { bank_state = w; history = x ∷ p.history }) told.bank_state

    next-holds : Holds (answered a p)
    next-holds = subst Holds next-is (after_holds (Frame a) p b.holds)

    next-sound : AllSound (x ∷ p.history)
    next-sound = next-holds.invariant.sound

    next-proper : Proper x
    unfolding exchange_of respond
    next-proper = record {
      refuses = verdict-refuses (context_of a) (advanced a.time p.bank_state) (read_request a.frame)
          (data_of a.frame);
      short = mailbox-short (advanced a.time p.bank_state) (subscriber (read_request a.frame));
    }

    replied-form : Sized x.reply × (is_reply_form (form x.reply) ≡ true)
    replied-form =
        subst (λ (f : Fields). Sized f × (is_reply_form (form f) ≡ true)) (sym (reply-is next-sound newest))
        (reply-form x.verdict x.request)

    next-clock : k.bank_state.bank.clock ≡ (advanced a.time p.bank_state).bank.clock
    next-clock =
        ap (λ (w : BankState). w.bank.clock) told.bank_state ∙ answered-clock a p b.holds
        ∙ sym (advanced-clock a.time p.bank_state)

    next-reply : read_reply (take n k.buffer) ≡ x.reply
    unfolding exchange_of
    next-reply =
        let r = replied-form in
        ap (λ (l : List ℕ). read_reply (take n l)) told.lent
        ∙ reply-read x.reply x.reply_data a.buffer n r.0 told.written
        r.1

    next-data : data_of (take n k.buffer) ≡ x.reply_data
    unfolding exchange_of
    next-data =
        ap (λ (l : List ℕ). data_of (take n l)) told.lent
        ∙ data-read x.reply x.reply_data a.buffer n replied-form.0
        told.written

    module _ (m : ℕ) (low : 1 ≤ m) (high : m ≤ subscribers) where
      was : mailbox_file p.bank_state m ≡ s.mailboxes m
      was = sym (same-mailbox p.bank_state m) ∙ ap (λ (w : BankState). mailbox_of w m) b.bank_state ∙ b.mailboxes m low high

      now : mailbox_of k.bank_state m ≡ mailbox_file (answered a p).bank_state m
      now = same-mailbox k.bank_state m ∙ ap (λ (w : BankState). mailbox_file w m) told.bank_state

      emptied-own : x.verdict ≡ verdict.Of (transaction x.request) (action.Download down.Confirmed) →
          m ≡ subscriber (read_request a.frame) →
          mailbox_file (answered a p).bank_state m ≡ []
      unfolding exchange_of respond
      emptied-own own e =
          let v = advanced-keeps a.time p.bank_state p.history b.holds.invariant in
          ap (mailbox_file (answered a p).bank_state) e
          ∙ (case-empties
          (happens (context_of a) (advanced a.time p.bank_state) (read_request a.frame) (data_of a.frame)
          v.state.sizes.places
          v.state.sizes.downloads)
          v.state.sizes own).empty

      kept-other : (Emptied (answered a p).bank_state m x → ⊥) →
          mailbox_file (answered a p).bank_state m ≡ s.mailboxes m
      kept-other not = at (frame-mailbox a p m b.holds low)
        where
          at : (mailbox_file (answered a p).bank_state m ≡ mailbox_file p.bank_state m) ⊎ Emptied
              (answered a p).bank_state m x →
              mailbox_file (answered a p).bank_state m ≡ s.mailboxes m
          at (inl e) = e ∙ was
          at (inr e) = absurd (not e)

      next-mailbox : mailbox_of k.bank_state m ≡ emptied a.frame (take n k.buffer) s.mailboxes m
      unfolding emptied exchange_of
      next-mailbox = now ∙ at (eqb (return_code (read_reply (take n k.buffer))) (code_field code.DownloadPostprocessDone)) refl
        where
          own : (d : Bool) → eqb m (subscriber (read_request a.frame)) ≡ d →
              x.verdict ≡ verdict.Of (transaction x.request) (action.Download down.Confirmed) →
              mailbox_file (answered a p).bank_state m ≡ cond d [] (s.mailboxes m)
          own true e c = emptied-own c (eqb-true m (subscriber (read_request a.frame)) e)
          own false e c = kept-other (λ z. eqb-false m (subscriber (read_request a.frame)) e (sym z.owner))

          at : (c : Bool) → eqb (return_code (read_reply (take n k.buffer))) (code_field code.DownloadPostprocessDone) ≡ c →
              mailbox_file (answered a p).bank_state m
              ≡ cond c (changed s.mailboxes (subscriber (read_request a.frame)) []) s.mailboxes m
          at true e =
              let z = sym (ap return_code next-reply) ∙ eqb-true _ (code_field code.DownloadPostprocessDone) e in
              own (eqb m (subscriber (read_request a.frame))) refl (done-confirmed next-sound newest next-proper z).0
          at false e = kept-other (λ z. eqb-false _ (code_field code.DownloadPostprocessDone) e
              (ap return_code next-reply ∙ coded next-sound newest ∙ ap (λ (v : Verdict). code_field (verdict_code v)) z.confirmed))

    next-journal : journal_of (Frame a ∷ b.calls) ≡ journal_after p.bank_state a s.journal
    unfolding journal_of journal_over
    next-journal =
        ap (λ (r : Past). journal_over (Frame a) r (journal_of b.calls)) (sym b.since)
        ∙ ap (λ (j : Journal). journal_over (Frame a) p j) b.entered-events
        ∙ ap (λ (x : Result ℕ WrongLength). journal_by x (journal_after p.bank_state a s.journal) s.journal) h

    -- the course behind the answered frame
    frame-part : BankPart (with_journal (journal_after p.bank_state a s.journal)
        (after_frame (take n k.buffer) k.bank_state (advanced a.time p.bank_state) a.frame s))
    unfolding exchange_of past_of
    frame-part = record {
      calls = Frame a ∷ b.calls;
      past = answered a p;
      since = sym next-is ∙ ap (history.after (Frame a)) b.since;
      entered-events = next-journal;
      holds = next-holds;
      bank_state = sym told.bank_state;
      entries =
          more (record {
            request = refl;
            request_data = refl;
            reply = next-reply;
            reply_data = next-data;
            clock = next-clock;
            box = same-mailbox (advanced a.time p.bank_state) (subscriber (read_request a.frame));
          }) b.entries;
      proper = one_more next-proper b.proper;
      mailboxes = next-mailbox;
    }

-- what an answered frame leaves: its exchange entered, and the bank as its history says
pub record Entered (s : Course) (b : BankPart s) (a : FrameInput) (t : Course) : Type 0 where
  pub exchange : Exchange
  pub exchanged : t.exchanged ≡ exchange ∷ s.exchanged
  pub request : exchange.request ≡ a.frame
  pub same : Entry exchange (call_exchange b.past.bank_state a)
  pub clock : exchange.clock ≡ t.bank.bank.clock
  pub next : history.after (Frame a) b.past ≡ answered a b.past
  pub bank : t.bank ≡ (answered a b.past).bank_state
  pub sound : AllSound (call_exchange b.past.bank_state a ∷ b.past.history)
  pub proper : Proper (call_exchange b.past.bank_state a)

entered_by_lem : (s : Course) (b : BankPart s) (a : FrameInput) (n : ℕ)
    (h : (frame_call b.past.bank_state a).answer ≡ Ok n) →
    Entered s b a
    (let k = frame_call b.past.bank_state a in
    with_journal (journal_after b.past.bank_state a s.journal)
    (after_frame (take n k.buffer) k.bank_state (advanced a.time b.past.bank_state) a.frame s))
unfolding exchange_of
entered_by_lem s b a n h = record {
  exchange = _;
  exchanged = refl;
  request = refl;
  same = record {
    request = refl;
    request_data = refl;
    reply = next-reply s b a n h;
    reply_data = next-data s b a n h;
    clock = next-clock s b a n h;
    box = same-mailbox (advanced a.time b.past.bank_state) (subscriber (read_request a.frame));
  };
  clock = refl;
  next = next-is s b a n h;
  bank = (told s b a n h).bank_state;
  sound = next-sound s b a n h;
  proper = next-proper s b a n h;
}

-- ---- a file put

module _ (s : Course) (b : BankPart s) (mailbox : ℕ) (file : List ℕ) where
  abbrev bank_before : Bank
  bank_before = b.past.bank_state.bank

  abbrev boxes_before : List ℕ
  boxes_before = b.past.bank_state.mailboxes

  abbrev put : FileCall
  put = carry_out_file (Ok tt) b.past.bank_state.bank mailbox file b.past.bank_state.mailboxes

  file-by : FileSound bank_before mailbox file boxes_before (Ok tt) →
      Holds (placed (Ok tt) put.bank put.mailboxes b.past) →
      history.after (File mailbox file) b.past ≡ placed (Ok tt) put.bank put.mailboxes b.past →
      Later s b (after_file put.bank put.mailboxes mailbox file s)
  unfolding mailbox_of journal_of journal_over past_of
  file-by (rejected l) holds next = absurd (omega arith)
  file-by (done known most some short empty) holds next = record {
    bank = record {
      calls = File mailbox file ∷ b.calls;
      since = sym next ∙ ap (history.after (File mailbox file)) b.since;
      entered-events = b.entered-events;
      past = record { bank_state = filled mailbox file b.past.bank_state; history = b.past.history };
      holds = holds;
      bank_state = ap (λ (w : BankState). bank_state put.bank w.orders put.mailboxes) b.bank_state;
      entries = b.entries;
      proper = b.proper;
      mailboxes = λ m low high. same-mailbox _ m ∙ at m low high (eqb m mailbox) refl;
    };
    more = stays;
    never = λ u. never-more (File mailbox file);
  }
    where
      v : Invariant b.past.bank_state b.past.history
      v = b.holds.invariant

      at : (m : ℕ) → 1 ≤ m → m ≤ subscribers → (c : Bool) → eqb m mailbox ≡ c →
          mailbox_file (filled mailbox file b.past.bank_state) m ≡ cond c file (s.mailboxes m)
      at m low high true e =
          ap (mailbox_file (filled mailbox file b.past.bank_state)) (eqb-true m mailbox e)
          ∙ filled-same b.past.bank_state v.state mailbox file known most some short empty
      at m low high false e =
          filled-other b.past.bank_state v.state mailbox file known most some short empty m
          (λ z. eqb-false m mailbox e (omega arith))
          ∙ sym (same-mailbox b.past.bank_state m) ∙ ap (λ (w : BankState). mailbox_of w m) b.bank_state ∙ b.mailboxes m low high

  file-part : file_number (file_call bank_before mailbox file boxes_before).answer ≡ 0 →
      Later s b (file_left bank_before boxes_before mailbox file s)
  unfolding file_call history.after
  file-part h =
      let a = decide (file_refusals bank_before mailbox file boxes_before) (Ok tt) in
      let e : a ≡ (Ok tt) = file-done a bank_before mailbox file boxes_before h in
      let k : Result (Unit {0}) FileRefusal → FileCall = λ x. carry_out_file x bank_before mailbox file boxes_before in
      subst (λ (x : Result (Unit {0}) FileRefusal). FileSound bank_before mailbox file boxes_before x →
      Holds (placed (k x).answer (k x).bank (k x).mailboxes b.past) →
      history.after (File mailbox file) b.past ≡ placed (k x).answer (k x).bank (k x).mailboxes b.past →
      Later s b (after_file (k x).bank (k x).mailboxes mailbox file s)) (sym e) file-by
      (judged-file bank_before mailbox file boxes_before) (after_holds (File mailbox file) b.past b.holds) refl

-- ---- what calls given no number leave

module _ (s : Course) (b : BankPart s) (m : LentSession) (a : FrameInput) (same : state_of (bank_in m) ≡ s.bank)
    (lent : journal_in m ≡ s.journal) (done : call_number (frame_arrives m a) ≡ 0) where
  -- what holds after the frame is answered to the bank and the journal as they were left holds after the call
  answered-so : (P : Course → Type 0) → ((n : ℕ) → let k = frame_call b.past.bank_state a in
      k.answer ≡ Ok n →
      P (with_journal (journal_after b.past.bank_state a s.journal)
      (after_frame (take n k.buffer) k.bank_state (advanced a.time b.past.bank_state) a.frame s))) →
      P (carry_out (frame_arrives m a) s)
  answered-so P f =
      subst P (sym (host-frame m a done s))
      (subst (λ (j : Journal). P (frame_left (state_of (bank_in m)) j a s)) (sym lent)
      (subst (λ (v : BankState). (n : ℕ) × ((frame_call v a).answer ≡ Ok n) → P (frame_left v s.journal a s))
      (b.bank_state ∙ sym same) at (frame-answered m a done)))
    where
      k : FrameCall
      k = frame_call b.past.bank_state a

      at : (n : ℕ) × (k.answer ≡ Ok n) → P (frame_left b.past.bank_state s.journal a s)
      at (n, e) =
          subst (λ (r : Result ℕ WrongLength). P (with_journal (journal_after b.past.bank_state a s.journal)
          (after_frame (reply_in r k.buffer) k.bank_state (advanced a.time b.past.bank_state) a.frame s)))
          (sym e) (f n e)

  -- a frame call, lent the bank and the journal as they were left
  pub frame-keeps : Later s b (carry_out (frame_arrives m a) s)
  unfolding frame-part
  frame-keeps = answered-so (Later s b) (λ n h. record {
    bank = frame-part s b a n h;
    more = grows;
    never = λ u. never-more (Frame a);
  })

  pub frame-enters : Entered s b a (carry_out (frame_arrives m a) s)
  frame-enters = answered-so (Entered s b a) (λ n h. entered_by_lem s b a n h)

-- a file call, lent the bank and the mailboxes as they were left
pub file-keeps : (s : Course) (b : BankPart s) (rows mailboxes : List ℕ) (m : ℕ) (file : List ℕ) →
    (bank_of (bank_rows rows) ≡ s.bank.bank) × (mailboxes ≡ s.bank.mailboxes) →
    call_number (file_put rows mailboxes m file) ≡ 0 → Later s b (carry_out (file_put rows mailboxes m file) s)
file-keeps s b rows mailboxes m file same z =
    subst (Later s b) (sym (host-file rows mailboxes m file z s))
    (subst (λ (c : Bank). P c mailboxes) (ap (λ (w : BankState). w.bank) b.bank_state ∙ sym same.0)
    (subst (P b.past.bank_state.bank) (ap (λ (w : BankState). w.mailboxes) b.bank_state ∙ sym same.1)
    (file-part s b m file)) (file-answered rows mailboxes m file z))
  where
    P : Bank → List ℕ → Type 0
    P c l = file_number (file_call c m file l).answer ≡ 0 → Later s b (file_left c l m file s)

-- before the first call
fresh-mailbox : (m : ℕ) → 1 ≤ m → m ≤ subscribers → mailbox_of start.bank m ≡ []
unfolding start mailbox_of file_of file_length fresh
fresh-mailbox m low high = ap (λ (n : ℕ). take n (part_at start.bank.mailboxes (m - 1)))
    (get_or-replicate place_count (m - 1) 0 0 (omega arith))

pub bank-start : BankPart start
unfolding start past_of history.start journal_of
bank-start = record {
  calls = [];
  since = refl;
  entered-events = refl;
  past = past_of [];
  holds = past-holds [];
  bank_state = refl;
  entries = none;
  proper = no-entry;
  mailboxes = fresh-mailbox;
}
