-- A session taken up is the one that stands, since each image is of it until the bank moves; a frame or file call given
-- no number is the bank's call on it. So the bank's calls alone leave what the list leaves. Assumes nothing.
use Rattle.bank.specs.declared.mailbox.FileRefusal.{FileRefusal}
use Rattle.number_table.specs.declared.table.WrongLength.{WrongLength}
use Rattle.std.specs.Prelude.{Ok, Result}
use Prim.Native.Nat.{ℕ}
use mathlib.Core.Bool.{Bool, true, false, cond}
use mathlib.Core.List.Memᴰ.{head as here}
use mathlib.Core.List.Memᴰ.{not-nil as in-none}
use mathlib.Core.List.Memᴰ.{tail as there}
use mathlib.Core.List.{
  List,
  [],
  ◌∷◌,
  Memᴰ as In,
}
use mathlib.Core.Path.{◌≡◌, refl, sym, ap, ◌∙◌, subst, subst₂}
use lib.Dec.{eqb}
use borrow.Author.Tests.{eqb-true, eq-eqb}
use Rattle.journal.specs.Row.{Journal}
use Rattle.bank_state.specs.State.{BankState, bank_state}
use Rattle.bank_rows.specs.State.{bank_of}
use Rattle.bank_steps.specs.Lent.{state_of}
use Rattle.bank.specs.Call.{FrameInput, frame_call}
use Rattle.bank.specs.Journal.{journal_after, journal_by}
use Rattle.bank.specs.Mailbox.{file_call}
use Rattle.opening_counts.specs.declared.seven.Counts.{Counts}
use Rattle.bank_session.specs.Session.{LentSession, bank_rows, counts_in, bank_in, journal_in}
use Rattle.bank_session.specs.Counts.{counts_over, counts_by}
use Rattle.bank_session.proofs.Host.{
  frame-answered,
  frame-bank-left,
  frame-journal-left,
  frame-counts-left,
  file-long,
  file-sound,
  file-answered,
  file-bank-left,
}
use Rattle.image_calls.proofs.Again.{Resumes, put-resumes}
use Rattle.bank_history.specs.History.{
  Exchange,
  BankCall,
  Frame,
  File,
  Past,
  call_exchange,
  entered,
  placed,
  after,
  past_of,
}
use Rattle.bank_history.specs.Journal.{journal_over, journal_of}
use Rattle.bank_history.specs.FalseEconomies.{Next}
use Rattle.bank_counts.specs.Counts.{carried_by, carried}
use Rattle.bank_resumed.specs.Calls.{
  HostCall,
  frame_arrives,
  file_put,
  puts_away,
  takes_up,
  Left,
  past_with,
  left,
  call_number,
  image_put,
  carry_out,
  exec,
  left_by,
  Standing,
  Premise,
  Allowed,
  AllAllowed,
  none,
  more,
  bank_call,
  bank_calls,
}
use Rattle.bank_resumed.specs.Resumed.{NextFrame, Resumed}

-- ---- the bank's own steps

module _ (p : Past) (a : FrameInput) {n : ℕ} (e : (frame_call p.bank_state a).answer ≡ Ok n) where
  frame-after : after (Frame a) p
      ≡ past_with (frame_call p.bank_state a).bank_state (call_exchange p.bank_state a ∷ p.history)
  unfolding after
  frame-after =
      ap (λ (r : Result ℕ WrongLength). entered r (frame_call p.bank_state a).bank_state (call_exchange p.bank_state a) p) e

  frame-over : (j : Journal) → journal_over (Frame a) p j ≡ journal_after p.bank_state a j
  unfolding journal_over
  frame-over j = ap (λ (r : Result ℕ WrongLength). journal_by r (journal_after p.bank_state a j) j) e

module _ (p : Past) (mailbox : ℕ) (file : List ℕ) where
  file-after : let c = file_call p.bank_state.bank mailbox file p.bank_state.mailboxes in c.answer ≡ Ok tt →
      after (File mailbox file) p
      ≡ past_with (bank_state c.bank p.bank_state.orders c.mailboxes) p.history
  unfolding after
  file-after e =
      let c = file_call p.bank_state.bank mailbox file p.bank_state.mailboxes in
      ap (λ (r : Result (Unit {0}) FileRefusal). placed r c.bank c.mailboxes p) e

-- ---- one call

-- what is left is what the bank's calls leave, and each image is of the session that stands
record Same (s : Left) (calls : List BankCall) : Type 0 where
  pub past : s.past ≡ past_of calls
  pub journal : s.journal ≡ journal_of calls
  pub counts : s.counts ≡ carried calls
  pub written : (image : List ℕ) → In image s.images → Resumes s.past.bank_state s.journal s.counts image

module _ {s : Left} {calls : List BankCall} (k : Same s calls) where
  -- a bank with its stores, and the answered frames so far
  abbrev so_far : BankState → Past
  so_far w = past_with w s.past.history

  -- the bank that stands
  past_is : {w : BankState} → w ≡ s.past.bank_state → so_far w ≡ past_of calls
  past_is e = ap so_far e ∙ k.past

  frame_same : (m : LentSession) (a : FrameInput) → Standing m s → call_number (frame_arrives m a) ≡ 0 →
      Same (carry_out (frame_arrives m a) s) (Frame a ∷ calls)
  unfolding past_of journal_of carried
  frame_same m a g z =
      let w = state_of (bank_in m) in
      let c = counts_in m.rows in
      let (n, e) = frame-answered m a z in
      record {
        past = ap (λ (v : BankState). past_with v (call_exchange w a ∷ s.past.history)) (frame-bank-left m a z)
            ∙ (sym (frame-after (so_far w) a e) ∙ ap (after (Frame a)) (past_is g.0));
        journal = frame-journal-left m a z ∙ (sym (frame-over (so_far w) a e (journal_in m))
            ∙ (ap (λ (p : Past). journal_over (Frame a) p (journal_in m)) (past_is g.0)
            ∙ ap (journal_over (Frame a) (past_of calls)) (g.1 ∙ k.journal)));
        counts = frame-counts-left m a z ∙ (sym (ap (λ (r : Result ℕ WrongLength). counts_by r (counts_over w a c) c) e)
            ∙ (ap (λ (p : Past). carried_by (Frame a) p c) (past_is g.0)
            ∙ ap (carried_by (Frame a) (past_of calls)) (g.2 ∙ k.counts)));
        written = λ image i. absurd (in-none i);
      }

  file-same : (rows mailboxes : List ℕ) (mailbox : ℕ) (file : List ℕ) → let c = file_put rows mailboxes mailbox file in
      Premise c s → call_number c ≡ 0 → Same (carry_out c s) (File mailbox file ∷ calls)
  unfolding past_of journal_of journal_over carried
  file-same rows mailboxes mailbox file g z =
      let orders = s.past.bank_state.orders in
      let w = bank_state (bank_of (bank_rows rows)) orders mailboxes in
      let same : w ≡ s.past.bank_state = λ i. bank_state (g.0 i) orders (g.1 i) in
      record {
        past = ap so_far (file-bank-left rows mailboxes mailbox file (file-long rows mailboxes mailbox file z)
            (file-sound rows mailboxes mailbox file z) orders)
            ∙ (sym (file-after (so_far w) mailbox file (file-answered rows mailboxes mailbox file z))
            ∙ ap (after (File mailbox file)) (past_is same));
        journal = k.journal;
        counts = k.counts;
        written = λ image i. absurd (in-none i);
      }

  away-same : (m : LentSession) (buffer : List ℕ) → Standing m s → call_number (puts_away m buffer) ≡ 0 →
      Same (carry_out (puts_away m buffer) s) calls
  away-same m buffer g z = record { past = k.past; journal = k.journal; counts = k.counts; written = at }
    where
      at : (image : List ℕ) → In image (image_put m buffer ∷ s.images) →
          Resumes s.past.bank_state s.journal s.counts image
      at image (here e) =
          subst (Resumes s.past.bank_state s.journal s.counts) (sym e)
          (subst (λ (c : Counts). Resumes s.past.bank_state s.journal c (image_put m buffer)) g.2
          (subst₂ (λ (w : BankState) (j : Journal). Resumes w j (counts_in m.rows) (image_put m buffer)) g.0 g.1
          (put-resumes m buffer z)))
      at image (there i) = k.written image i

  -- the session taken up is the one that stands
  up-stays : (m : LentSession) (image : List ℕ) → In image s.images → call_number (takes_up m image) ≡ 0 →
      carry_out (takes_up m image) s ≡ s
  up-stays m image i z =
      let e = k.written image i m z in
      λ x. left (so_far (e.0 x)) (e.1 x) (e.2 x) s.images

  call_same : (c : HostCall) → Premise c s → call_number c ≡ 0 → Same (carry_out c s) (bank_call c calls)
  call_same (frame_arrives m a) g z = frame_same m a g z
  call_same (file_put rows mailboxes mailbox file) g z = file-same rows mailboxes mailbox file g z
  call_same (puts_away m buffer) g z = away-same m buffer g z
  call_same (takes_up m image) g z = subst (λ (t : Left). Same t calls) (sym (up-stays m image g z)) k

  -- a call given a number leaves all as it was
  exec-same : (c : HostCall) → Allowed c s →
      Same (exec c s) (cond (eqb (call_number c) 0) (bank_call c calls) calls)
  unfolding exec
  exec-same c g = at (eqb (call_number c) 0) refl
    where
      at : (b : Bool) → eqb (call_number c) 0 ≡ b → Same (cond b (carry_out c s) s) (cond b (bank_call c calls) calls)
      at true e = let z = eqb-true (call_number c) 0 e in call_same c (g z) z
      at false e = k

-- ---- every allowed list

start-same : Same (left_by []) []
unfolding left_by past_of carried
start-same = record { past = refl; journal = refl; counts = refl; written = λ image i. absurd (in-none i) }

all_same : {ks : List HostCall} → AllAllowed ks → Same (left_by ks) (bank_calls ks)
unfolding left_by bank_calls
all_same none = start-same
all_same (more {k = c} {ks = ks} g r) = exec-same (all_same r) c g

-- the list before the newest call
pub before : {c : HostCall} {ks : List HostCall} → AllAllowed (c ∷ ks) → AllAllowed ks × Allowed c (left_by ks)
before (more g r) = (r, g)

next-same : {ks : List HostCall} {e : Exchange} → NextFrame ks e → Next (bank_calls ks) e
unfolding past_of
next-same {ks} n =
    let a = n.input in
    let w = state_of (bank_in n.lent) in
    let b = before n.allowed in
    let k = all_same b.0 in
    let is = past_is k (b.1 n.answered).0 in
    record {
      input = a;
      entered = ap (λ (p : Past). (after (Frame a) p).history) (sym is)
          ∙ (ap (λ (p : Past). p.history) (frame-after (so_far k w) a (frame-answered n.lent a n.answered).1)
          ∙ (λ i. n.is i ∷ (is i).history));
    }

next-joins : {ks : List HostCall} {e : Exchange} (n : NextFrame ks e) →
    bank_calls (frame_arrives n.lent n.input ∷ ks) ≡ Frame n.input ∷ bank_calls ks
unfolding bank_calls
next-joins {ks} n =
    let number = call_number (frame_arrives n.lent n.input) in
    ap (λ (b : Bool). cond b (Frame n.input ∷ bank_calls ks) (bank_calls ks)) (eq-eqb number 0 n.answered)

pub resumed : Resumed
unfolding next-same
resumed = record {
  past = λ r. (all_same r).past;
  journal = λ r. (all_same r).journal;
  counts = λ r. (all_same r).counts;
  next = next-same;
  input = λ n. refl;
  joins = next-joins;
  holds = λ P f ks r. subst₂ P (sym (all_same r).past) (sym (all_same r).journal) (f (bank_calls ks));
  holds_next = λ P f ks e n.
      subst (λ (p : Past). P p.history e) (sym (all_same (before n.allowed).0).past)
      (f (bank_calls ks) e (next-same n));
}
