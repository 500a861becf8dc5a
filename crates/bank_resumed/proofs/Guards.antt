-- What the premise leaves free: a premise that grew stronger is refused here. A host that keeps one session meets it,
-- whatever comes, since each call leaves a session of card 2's list, or leaves it as it was. Assumes nothing.
use Rattle.bank.specs.declared.mailbox.FileRefusal.{FileRefusal}
use Rattle.number_table.specs.declared.table.WrongLength.{WrongLength}
use Rattle.std.specs.Prelude.{Err, Ok, Result}
use Prim.Native.Nat.{ℕ, ◌≤◌}
use mathlib.Core.Bool.{Bool, true, cond}
use mathlib.Core.List.Memᴰ.{head as here}
use mathlib.Core.List.{List, [], ◌∷◌, Memᴰ as In}
use mathlib.Core.Path.{◌≡◌, refl, sym, ap, ◌∙◌, subst}
use native.Mathlib.Decide.{ℕ_discrete}
use lib.ListN.{length, replicate}
use borrow.Author.Tests.{eq-eqb, ne_eqb}
use Rattle.message.specs.Verdicts.{decide}
use Rattle.journal.specs.Row.{Journal}
use Rattle.bank_state.specs.Limits.{store_bytes}
use Rattle.bank_state.specs.State.{Bank, BankState, bank_state}
use Rattle.bank_rows.specs.State.{bank_of}
use Rattle.bank_rows.proofs.State.{fresh-rows}
use Rattle.bank_sound.specs.Sound.{is_sound}
use Rattle.bank_steps.specs.Lent.{state_of}
use Rattle.bank.specs.declared.mailbox.FileRefusal.TheVariants as answers
use Rattle.bank.specs.Call.{FrameInput, frame_number, frame_call}
use Rattle.bank.specs.Mailbox.{file_refusals, carry_out_file, file_call}
use Rattle.bank_session.specs.Session.{
  LentSession,
  session_size,
  counts_in,
  bank_rows,
  bank_in,
  journal_in,
  SessionFrameCall,
  session_frame_call,
  session_file_call,
}
use Rattle.bank_session.proofs.Laws.{file-events, file-counts}
use Rattle.bank_session.proofs.Host.{frame-numbered, frame-kept, file-numbered, file-number, file-bank-left}
use Rattle.bank_admitted.specs.Session.{Brought}
use Rattle.bank_history.specs.History.{start}
use Rattle.bank_history.specs.Journal.{journal_of}
use Rattle.bank_history.proofs.OnSessions.{on-sessions}
use Rattle.image.specs.declared.codec.ImageRefusal.TheVariants as up_answer
use Rattle.image_calls.specs.Calls.{image_length, lengths_right, PutAway, TakeUp, take_up_of, take_up}
use Rattle.image_calls.proofs.Theorems.{session-written}
use Rattle.image_calls.proofs.Again.{put-taken}
use Rattle.image_admitted.specs.Fresh.{fresh_session}
use Rattle.image_admitted.specs.Reached.{InList, after_file}
use Rattle.image_admitted.proofs.Holds.{lengths-told}
use Rattle.image_admitted.proofs.Theorems.{
  fresh-admitted,
  admitted-sound,
  admitted-takes,
  frame-admitted,
  file-admitted,
}
use Rattle.bank_resumed.specs.Calls.{
  HostCall,
  frame_arrives,
  file_put,
  puts_away,
  takes_up,
  Left,
  call_number,
  image_put,
  carry_out,
  exec,
  left_by,
  Standing,
  Allowed,
  none,
  more,
}
use Rattle.bank_resumed.specs.Host.{Keeps, Covered}
use Rattle.bank_resumed.specs.Host as keeps

-- ---- one call

-- "a call given a number may be lent others", and leaves all as it was
pub numbered-allowed : (k : HostCall) (s : Left) → (call_number k ≡ 0 → ⊥) → Allowed k s
numbered-allowed k s n z = absurd (n z)

numbered-stays : (k : HostCall) (s : Left) → (call_number k ≡ 0 → ⊥) → exec k s ≡ s
unfolding exec
numbered-stays k s n = ap (λ (b : Bool). cond b (carry_out k s) s) (ne_eqb (call_number k) 0 n)

carried : (k : HostCall) (s : Left) → call_number k ≡ 0 → exec k s ≡ carry_out k s
unfolding exec
carried k s z = ap (λ (b : Bool). cond b (carry_out k s) s) (eq-eqb (call_number k) 0 z)

-- any frame and any file, to the session that stands
pub frame-allowed : (s : Left) (m : LentSession) (a : FrameInput) → Standing m s → Allowed (frame_arrives m a) s
frame-allowed s m a g _ = g

pub file-allowed : (s : Left) (m : LentSession) (mailbox : ℕ) (file : List ℕ) → Standing m s →
    Allowed (file_put m.rows m.mailboxes mailbox file) s
file-allowed s m mailbox file g _ =
    (ap (λ (w : BankState). w.bank) g.0, ap (λ (w : BankState). w.mailboxes) g.0)

-- ---- a host that keeps one session

-- memory that is all zero is the session that stands at the start
fresh-stands : Standing fresh_session (left_by [])
unfolding left_by fresh_session start journal_of
fresh-stands = (ap (λ (b : Bank). bank_state b (replicate store_bytes 0) (replicate store_bytes 0)) fresh-rows, refl, refl)

-- a frame call given a number is given number 1
number-one : (r : Result ℕ WrongLength) → (frame_number r ≡ 0 → ⊥) → frame_number r ≡ 1
number-one (Ok n) z = absurd (z refl)
number-one (Err e) z = refl

-- a file call given a number leaves the bank and the mailboxes
file-refused : (r : Result (Unit {0}) FileRefusal) (b : Bank) (mailbox : ℕ) (file mailboxes orders : List ℕ) →
    let k = carry_out_file r b mailbox file mailboxes in
    (k.number ≡ 0 → ⊥) → bank_state k.bank orders k.mailboxes ≡ bank_state b orders mailboxes
file-refused (Ok u) b mailbox file mailboxes orders n = absurd (n refl)
file-refused (Err answers.WrongLength) b mailbox file mailboxes orders n = refl
file-refused (Err answers.NoMailbox) b mailbox file mailboxes orders n = refl
file-refused (Err answers.WrongFile) b mailbox file mailboxes orders n = refl
file-refused (Err answers.MailboxFull) b mailbox file mailboxes orders n = refl

module _ {m : LentSession} {ks : List HostCall} (c : Covered m ks) where
  abbrev s : Left
  s = left_by ks

  abbrev w : BankState
  w = state_of (bank_in m)

  sound : is_sound (bank_rows m.rows) ≡ true
  sound = admitted-sound m c.admitted.0 c.admitted.1

  -- a frame
  module _ (a : FrameInput) (brought : Brought a) where
    abbrev answered : SessionFrameCall
    answered = session_frame_call m a

    frame-number : answered.number ≡ frame_number (frame_call w a).answer
    frame-number =
        ap (λ (k : SessionFrameCall). k.number)
        (frame-kept m a (admitted-takes m c.admitted.0 c.admitted.1) sound)
        ∙ frame-numbered w a

    frame-away : (answered.number ≡ 0 → ⊥) → answered.session ≡ m
    frame-away n =
        let one = number-one (frame_call w a).answer (λ z. n (frame-number ∙ z)) in
        ap (λ (k : SessionFrameCall). k.session) (on-sessions.unchanged brought (frame-number ∙ one))

    frame-standing : Dec (answered.number ≡ 0) → Standing answered.session (exec (frame_arrives m a) s)
    frame-standing (yes z) = subst (Standing answered.session) (sym (carried (frame_arrives m a) s z)) (refl, refl, refl)
    frame-standing (no n) =
        subst (Standing answered.session) (sym (numbered-stays (frame_arrives m a) s n))
        (subst (λ (x : LentSession). Standing x s) (sym (frame-away n)) c.standing)

    frame-covered : Covered answered.session (frame_arrives m a ∷ ks)
    unfolding left_by
    frame-covered = record {
      allowed = more (frame-allowed s m a c.standing) c.allowed;
      standing = frame-standing (ℕ_discrete answered.number 0);
      admitted = frame-admitted m c.admitted.0 c.admitted.1 a brought;
    }

  -- a file
  module _ (mailbox : ℕ) (file : List ℕ) where
    abbrev put : HostCall
    put = file_put m.rows m.mailboxes mailbox file

    long : length m.rows ≡ session_size
    long = (lengths-told m c.admitted.0).rows

    file-journal : journal_in (after_file m mailbox file) ≡ s.journal
    file-journal =
        let of : ℕ → Journal = λ (n : ℕ). record { events = n; row = m.row } in
        ap of (file-events m.rows mailbox file m.mailboxes long) ∙ c.standing.1

    file-counted : counts_in (after_file m mailbox file).rows ≡ s.counts
    file-counted = file-counts m.rows mailbox file m.mailboxes long ∙ c.standing.2

    file-away : (call_number put ≡ 0 → ⊥) → state_of (bank_in (after_file m mailbox file)) ≡ w
    unfolding file_call
    file-away n =
        let b = bank_of (bank_rows m.rows) in
        let is = file-number m.rows m.mailboxes mailbox file long sound
        ∙ sym (file-numbered b mailbox file m.mailboxes) in
        file-bank-left m.rows m.mailboxes mailbox file long sound m.orders
        ∙ file-refused (decide (file_refusals b mailbox file m.mailboxes) (Ok tt)) b mailbox file m.mailboxes
        m.orders (λ z. n (is ∙ z))

    file-standing : Dec (call_number put ≡ 0) → Standing (after_file m mailbox file) (exec put s)
    file-standing (yes z) =
        let k = session_file_call m.rows mailbox file m.mailboxes in
        subst (Standing (after_file m mailbox file)) (sym (carried put s z)) (
          ap (λ (v : BankState). bank_state (bank_of (bank_rows k.rows)) v.orders k.mailboxes) c.standing.0,
          file-journal,
          file-counted,
        )
    file-standing (no n) =
        subst (Standing (after_file m mailbox file)) (sym (numbered-stays put s n))
        (file-away n ∙ c.standing.0, file-journal, file-counted)

    file-covered : Covered (after_file m mailbox file) (put ∷ ks)
    unfolding left_by
    file-covered = record {
      allowed = more (file-allowed s m mailbox file c.standing) c.allowed;
      standing = file-standing (ℕ_discrete (call_number put) 0);
      admitted = file-admitted m c.admitted.0 c.admitted.1 mailbox file;
    }

  -- both calls are given no number, and the session taken up is the one put away
  module _ (buffer : List ℕ) (room : image_length ≤ length buffer) (n : LentSession) (long : lengths_right n ≡ true) where
    abbrev away : HostCall
    away = puts_away m buffer

    abbrev up : HostCall
    up = takes_up n (image_put m buffer)

    pub away-unnumbered : call_number away ≡ 0
    away-unnumbered = ap (λ (k : PutAway). k.number) (session-written m c.admitted.0 c.admitted.1 buffer room)

    pub up-taken : take_up n (image_put m buffer) ≡ take_up_of (Ok tt) m
    up-taken = put-taken m buffer away-unnumbered n long

    up-unnumbered : call_number up ≡ 0
    up-unnumbered = ap (λ (k : TakeUp). k.number) up-taken

    resumed-covered : Covered (take_up n (image_put m buffer)).session (up ∷ away ∷ ks)
    unfolding left_by
    resumed-covered = record {
      allowed = more
          (λ _. subst (λ (t : Left). In (image_put m buffer) t.images) (sym (carried away s away-unnumbered))
          (here refl))
          (more (λ _. c.standing) c.allowed);
      standing = subst (Standing (take_up n (image_put m buffer)).session)
          (sym (carried up (exec away s) up-unnumbered)) (refl, refl, refl);
      admitted = subst InList (sym (ap (λ (k : TakeUp). k.session) up-taken)) c.admitted;
    }

pub keeps-covered : {m : LentSession} {ks : List HostCall} → Keeps m ks → Covered m ks
keeps-covered keeps.fresh = record { allowed = none; standing = fresh-stands; admitted = fresh-admitted }
keeps-covered (keeps.frame k a brought) = frame-covered (keeps-covered k) a brought
keeps-covered (keeps.file k mailbox file) = file-covered (keeps-covered k) mailbox file
keeps-covered (keeps.resumed k buffer room n long) = resumed-covered (keeps-covered k) buffer room n long
