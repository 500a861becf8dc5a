-- What "over lines" leaves free, and what is asked besides it: a premise that grew stronger is refused here. Assumes
-- nothing.
use Prim.Native.Nat.{ℕ}
use mathlib.Core.Bool.{Bool, true, false, cond}
use mathlib.Core.List.Memᴰ.{append_left as in_left}
use mathlib.Core.List.{List, [], ◌∷◌, ◌++◌, Memᴰ as In}
use mathlib.Core.Path.{◌≡◌, refl, subst}
use lib.Dec.{eqb, leb}
use lib.ListN.{length}
use borrow.Author.Tests.{eqb-true}
use Rattle.frame_table.specs.Forms as forms
use Rattle.frame_table.specs.Names.{form}
use Rattle.frame_table.specs.Table.{is_request_form}
use Rattle.frame_reader.specs.Reader.{read_request}
use Rattle.line.specs.Line.{Message, message_bytes, put, out_of}
use Rattle.bank_steps.specs.Lent.{state_of}
use Rattle.bank.specs.Call.{FrameInput}
use Rattle.bank_session.specs.Session.{LentSession, bank_in, journal_in}
use Rattle.client_run.specs.declared.run.ClientRun.{ClientRun}
use Rattle.client_run.specs.Run.{Lent}
use Rattle.exchange.specs.Course.{Call, frame_arrives, reply_arrives, Course, exec}
use Rattle.exchange.specs.Demand3.{is_subscribers, Left, Premise}
use Rattle.exchange_lines.specs.Lines.{
  InUse,
  carry,
  Net,
  Move,
  to_bank,
  other,
  call_of,
  Sent,
  send_all,
  requests_sent,
  replies_sent,
  next,
  net_after,
}
use Rattle.exchange_lines.specs.Claims.{OverLine, Others}

-- ---- what came out may be handed on at any time after it, and again

module _ (m : Message) where
  carry-out : (x : Message) (u : InUse) → In m u.out → In m (carry x u).out
  unfolding carry
  carry-out x u i = at (leb (length x) message_bytes)
    where
      at : (b : Bool) → In m (cond b (record { line = (put u.line x).next; out = u.out ++ out_of x (put u.line x) }) u).out
      at true = in_left (out_of x (put u.line x)) i
      at false = i

  sent-out : (xs : List Sent) (us : ℕ → InUse) (j : ℕ) → In m (us j).out → In m (send_all xs us j).out
  sent-out [] us j i = i
  sent-out (x ∷ xs) us j i = at (send_all xs us) (sent-out xs us j i) (eqb j x.run) refl
    where
      at : (vs : ℕ → InUse) → In m (vs j).out → (b : Bool) → eqb j x.run ≡ b →
          In m (cond b (carry x.message (vs x.run)) (vs j)).out
      at vs k true e = carry-out x.message (vs x.run) (subst (λ (y : ℕ). In m (vs y).out) (eqb-true j x.run e) k)
      at vs k false e = k

  requests-stay : (ms : List Move) (n : Net) (j : ℕ) → In m (n.lines.requests j).out → In m ((net_after ms n).lines.requests j).out
  unfolding net_after next
  requests-stay [] n j i = i
  requests-stay (k ∷ ms) n j i =
      let s = n.course in requests-stay ms (next k n) j (sent-out (requests_sent s (exec (call_of k) s)) n.lines.requests j i)

  replies-stay : (ms : List Move) (n : Net) (j : ℕ) → In m (n.lines.replies j).out → In m ((net_after ms n).lines.replies j).out
  unfolding net_after next
  replies-stay [] n j i = i
  replies-stay (k ∷ ms) n j i =
      let s = n.course in replies-stay ms (next k n) j (sent-out (replies_sent k s (exec (call_of k) s)) n.lines.replies j i)

module _ (n : Net) (ms : List Move) (i : ℕ) where
  pub request-later : (m : LentSession) (a : FrameInput) → In a.frame (n.lines.requests i).out →
      OverLine (to_bank i m a) (net_after ms n)
  request-later m a o = requests-stay a.frame ms n i o

  pub reply-later : (c : ClientRun) (bytes : List ℕ) (l : Lent) → In bytes (n.lines.replies i).out →
      OverLine (other (reply_arrives i c bytes l)) (net_after ms n)
  reply-later c bytes l o = replies-stay bytes ms n i o

-- ---- frames that are no message of a run may come to the bank besides, over no line

module _ (n : Net) (m : LentSession) (a : FrameInput) where
  -- an unreadable frame
  pub unreadable-besides : is_request_form (form (read_request a.frame)) ≡ false → OverLine (other (frame_arrives m a)) n
  unfolding is_subscribers
  unreadable-besides f = rw f

  -- a signing of an order that was lodged over lines
  pub signing-besides : form (read_request a.frame) ≡ forms.Signing → OverLine (other (frame_arrives m a)) n
  unfolding is_subscribers
  signing-besides f = rw f refl

-- ---- demand 3's other premises are those on what a call is lent, and on images

module _ (s : Course) where
  pub frame-others : (m : LentSession) (a : FrameInput) → state_of (bank_in m) ≡ s.bank → journal_in m ≡ s.journal →
      Others (frame_arrives m a) s
  frame-others m a bank journal = λ copied. (bank, journal, copied)

  pub reply-others : (i : ℕ) (c : ClientRun) (bytes : List ℕ) (l : Lent) → Left i c l s → Others (reply_arrives i c bytes l) s
  reply-others i c bytes l left = λ copied. (left, copied)

  pub call-others : (k : Call) → Premise k s → Others k s
  call-others k premise = λ _. premise
