-- `F` and `M`: the session keeps what the call on the bank leaves, and the course's bank and journal are the same; no run
-- changes.
use Rattle.bank.specs.declared.mailbox.FileRefusal.{FileRefusal}
use Rattle.number_table.specs.declared.table.WrongLength.{WrongLength}
use Rattle.std.specs.Prelude.{Err, Ok, Result}
use Prim.Native.Nat.{ℕ}
use mathlib.Core.Bool.{cond}
use mathlib.Core.List.{List, []}
use mathlib.Core.Path.{◌≡◌, refl, sym, ap, ◌∙◌, subst}
use native.Mathlib.Omega.{arith}
use lib.Dec.{eqb}
use lib.ListN.{length, drop}
use Rattle.octets.specs.Bytes.{Bytes}
use Rattle.octets.proofs.Numbers.{bytes_take, bytes_drop}
use Rattle.message.specs.Verdicts.{decide}
use Rattle.bank_state.specs.Limits.{id_bytes}
use Rattle.bank_state.specs.State.{Bank, BankState, bank_state}
use Rattle.bank_admitted.specs.Session.{Brought}
use Rattle.bank.specs.declared.mailbox.FileRefusal.TheVariants as put
use Rattle.bank.specs.Call.{FrameInput, frame_input, frame_number, frame_call}
use Rattle.bank.specs.Mailbox.{FileCall, file_number, file_refusals, carry_out_file, file_call}
use Rattle.bank.specs.Lent.{LentFileCall, kept_file, lent_file_call}
use Rattle.bank.proofs.Kept.{frame-state, file-state}
use Rattle.bank_steps.specs.Lent as bank
use Rattle.bank_session.specs.Session.{
  LentSession,
  session_size,
  bank_rows,
  bank_in,
  journal_in,
  SessionFrameCall,
  session_frame_call,
  session_file_call,
}
use Rattle.bank_session.proofs.Session.{takes-length}
use Rattle.bank_session.proofs.Laws.{frame-bank, frame-unchanged, file-bank, file-events}
use Rattle.bank_history.proofs.OnRows.{on-rows}
use Rattle.image_admitted.proofs.Theorems.{frame-admitted, file-admitted}
use Rattle.exchange.specs.Course.{Call, Course, frame_arrives, file_put, after_file, exec}
use Rattle.exchange.proofs.Calls.{numbered-stays, carried, by_number}
use Rattle.bank_session.proofs.Host.{frame-numbered, frame-kept}
use Rattle.exchange.proofs.Host.{file-exec}
use Rattle.unit_state.specs.declared.record.Kind.{Kind}
use Rattle.unit_state.specs.declared.record.Kind.TheVariants as kind
use Rattle.unit_state.specs.Records.{ids_at, head_of, bank_time_of, ids_of, mailbox_of, size_of, body_of}
use Rattle.unit.specs.State.{State, session_in}
use Rattle.unit.specs.Call.{frame_answer, file_answer, frame_step, file_step}
use Rattle.sessions.specs.Sessions.{bank_at, journal_at, frame_of, put_of, told}
use Rattle.sessions.proofs.MemoryBytes.{StoresHold, frame-holds, file-holds}
use Rattle.sessions.proofs.Standing.{SameRunAt, Standing, Stepped, rows-sound, taken}

pub body_bytes : (k : Kind) (r : List ℕ) → Bytes r → Bytes (body_of k r)
unfolding body_of
body_bytes k r b = bytes_take (size_of k r) (drop (head_of k) r) (bytes_drop (head_of k) r b)

-- a frame's answer has its bytes in the buffer
frame-told : (x : Result ℕ WrongLength) (buffer room : List ℕ) → told (frame_answer x) buffer room ≡ told (frame_answer x) buffer []
frame-told (Ok n) buffer room = refl
frame-told (Err e) buffer room = refl

-- a file's answer has none
file-told : (x : Result (Unit {0}) FileRefusal) (buffer room : List ℕ) → told (file_answer x) buffer room ≡ told (file_answer x) [] []
file-told (Ok u) buffer room = refl
file-told (Err put.WrongLength) buffer room = refl
file-told (Err put.NoMailbox) buffer room = refl
file-told (Err put.WrongFile) buffer room = refl
file-told (Err put.MailboxFull) buffer room = refl

-- ---- a frame

module _ {u : State} {s : Course} (v : Standing u s) (r : List ℕ) (b : Bytes r) where
  abbrev input : FrameInput
  input = frame_input (bank_time_of r) (ids_of r) (body_of kind.Frame r) u.memory.buffer

  abbrev m : LentSession
  m = session_in u

  abbrev k : Call
  k = frame_arrives (session_in u) input

  abbrev o : SessionFrameCall
  o = session_frame_call (session_in u) input

  brought : Brought input
  brought = record {
    ids = bytes_take id_bytes (drop ids_at r) (bytes_drop ids_at r b);
    frame = body_bytes kind.Frame r b;
  }

  -- the bank that the session keeps
  bank-next : bank.state_of (bank_in o.session) ≡ (frame_call (bank_at u) input).bank_state
  bank-next = ap bank.state_of (frame-bank m input (taken v)) ∙ frame-state (bank_in m) input (rows-sound v)

  number_is : o.number ≡ frame_number o.answer
  number_is =
      let kept = frame-kept m input (taken v) (rows-sound v) in
      ap (λ (c : SessionFrameCall). c.number) kept ∙ (frame-numbered (bank_at u) input
      ∙ ap (λ (c : SessionFrameCall). frame_number c.answer) (sym kept))

  -- a call given number 1 leaves the session
  refused-stays : o.number ≡ 1 → o.session ≡ m
  refused-stays one =
      ap (λ (c : SessionFrameCall). c.session)
      (frame-unchanged m input (on-rows.unchanged (record { ids = brought.ids; frame = brought.frame })) one)

  -- the session and the course have one bank and one journal
  left_by_lem : (x : Result ℕ WrongLength) → o.answer ≡ x →
      (bank_at (frame_step u r).state ≡ (exec k s).bank) × (journal_at (frame_step u r).state ≡ (exec k s).journal)
  unfolding frame_step
  left_by_lem (Ok n) e =
      let now = carried k s (number_is ∙ ap frame_number e) in
      (sym (ap (λ (t : Course). t.bank) now), sym (ap (λ (t : Course). t.journal) now))
  left_by_lem (Err x) e =
      let one = number_is ∙ ap frame_number e in
      let stays = refused-stays one in
      let now = numbered-stays k s (λ z. let n = sym one ∙ z in omega arith) in (
        ap (λ (x : LentSession). bank.state_of (bank_in x)) stays ∙ (v.bank ∙ sym (ap (λ (t : Course). t.bank) now)),
        ap journal_in stays ∙ (v.journal ∙ sym (ap (λ (t : Course). t.journal) now)),
      )

  frame-standing : Standing (frame_step u r).state (exec (frame_of u r) s)
  unfolding frame_step frame_of
  frame-standing =
      let left = left_by_lem o.answer refl in
      record {
        listed = frame-admitted (session_in u) v.listed.0 v.listed.1 input brought;
        stores = subst StoresHold (sym bank-next) (frame-holds (bank_at u) input (body_bytes kind.Frame r b) v.stores);
        bank = left.0;
        journal = left.1;
        count = v.count;
        payloads = v.payloads;
        files = v.files;
        room = v.room;
        image = v.image;
        line-rows = v.line-rows;
        line-stores = v.line-stores;
        runs = λ i h. by_number k s (λ (t : Course). SameRunAt u t i) (v.runs i h) (λ _. v.runs i h);
      }

  pub frame_step_lem : Stepped s (frame_of u r) (frame_step u r)
  unfolding frame_step frame_of
  frame_step_lem = record {
    given = λ _. (v.bank, v.journal);
    standing = frame-standing;
    answer = frame-told o.answer o.buffer u.memory.room;
  }

-- ---- a file

module _ {u : State} {s : Course} (v : Standing u s) (r : List ℕ) (b : Bytes r) where
  abbrev mailbox : ℕ
  mailbox = mailbox_of r

  abbrev file : List ℕ
  file = body_of kind.File r

  abbrev rows : List ℕ
  rows = u.memory.bank.rows

  abbrev boxes : List ℕ
  boxes = u.memory.bank.mailboxes

  abbrev w : BankState
  w = bank_at u

  abbrev c : FileCall
  c = file_call w.bank mailbox file w.mailboxes

  long : length rows ≡ session_size
  long = takes-length (session_in u) (taken v)

  file-inner : lent_file_call (bank_rows rows) mailbox file boxes ≡ kept_file (bank_rows rows) c
  unfolding lent_file_call
  file-inner = rw (rows-sound v)

  file-next : bank_at (file_step u r).state ≡ bank_state c.bank w.orders c.mailboxes
  unfolding file_step
  file-next =
      ap bank.state_of (file-bank rows mailbox file boxes long u.memory.bank.orders)
      ∙ (ap (λ (x : Bank). bank_state x w.orders (lent_file_call (bank_rows rows) mailbox file boxes).mailboxes)
      (file-state (bank_rows rows) mailbox file boxes (rows-sound v))
      ∙ ap (λ (x : LentFileCall). bank_state c.bank w.orders x.mailboxes) file-inner)

  -- and the course's
  course-next : (exec (file_put rows boxes mailbox file) s).bank ≡ bank_state c.bank w.orders c.mailboxes
  unfolding file_call
  course-next =
      ap (λ (t : Course). t.bank) (file-exec rows boxes mailbox file long (rows-sound v) s)
      ∙ at (decide (file_refusals w.bank mailbox file w.mailboxes) (Ok tt))
    where
      by : Result (Unit {0}) FileRefusal → FileCall
      by x = carry_out_file x w.bank mailbox file w.mailboxes

      at : (x : Result (Unit {0}) FileRefusal) →
          (cond (eqb (file_number (by x).answer) 0) (after_file (by x).bank (by x).mailboxes mailbox file s) s).bank
          ≡ bank_state (by x).bank w.orders (by x).mailboxes
      at (Ok u) = ap (λ (y : BankState). bank_state (by (Ok tt)).bank y.orders (by (Ok tt)).mailboxes) (sym v.bank)
      at (Err put.WrongLength) = sym v.bank
      at (Err put.NoMailbox) = sym v.bank
      at (Err put.WrongFile) = sym v.bank
      at (Err put.MailboxFull) = sym v.bank

  file-journal : journal_at (file_step u r).state ≡ journal_at u
  unfolding file_step
  file-journal = ap (λ (n : ℕ). record { events = n; row = u.unit.journal }) (file-events rows mailbox file boxes long)

  file-standing : Standing (file_step u r).state (exec (put_of u r) s)
  unfolding file_step put_of
  file-standing =
      let k = file_put rows boxes mailbox file in
      record {
        listed = file-admitted (session_in u) v.listed.0 v.listed.1 mailbox file;
        stores = subst StoresHold (sym file-next) (record {
          orders = v.stores.orders;
          mailboxes = file-holds w.bank mailbox file boxes (body_bytes kind.File r b) v.stores.mailboxes;
        });
        bank = file-next ∙ sym course-next;
        journal = file-journal ∙ by_number k s (λ (t : Course). journal_at u ≡ t.journal) v.journal (λ _. v.journal);
        count = v.count;
        payloads = v.payloads;
        files = v.files;
        room = v.room;
        image = v.image;
        line-rows = v.line-rows;
        line-stores = v.line-stores;
        runs = λ i h. by_number k s (λ (t : Course). SameRunAt u t i) (v.runs i h) (λ _. v.runs i h);
      }

  pub file-step : Stepped s (put_of u r) (file_step u r)
  unfolding file_step put_of
  file-step = record {
    given = λ _. (ap (λ (x : BankState). x.bank) v.bank, ap (λ (x : BankState). x.mailboxes) v.bank);
    standing = file-standing;
    answer = file-told (session_file_call rows mailbox file boxes).answer u.memory.buffer u.memory.room;
  }
