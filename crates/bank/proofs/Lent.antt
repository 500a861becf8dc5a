-- The bank's calls on lent rows: the rows after a call are those of the bank that the definition leaves. Assumes nothing.
use Rattle.number_table.specs.declared.table.WrongLength.{WrongLength}
use Rattle.std.specs.Prelude.{Result}
use Prim.Native.Nat.{ℕ}
use mathlib.Core.Bool.{Bool, true, false, cond}
use mathlib.Core.List.{List}
use mathlib.Core.Path.{◌≡◌, refl, sym, ap, ◌∙◌, subst}
use native.Mathlib.Omega.{arith}
use lib.ListN.{length}
use Rattle.frame_table.specs.declared.fields.Fields.{Fields}
use Rattle.frame_table.specs.Names.{subscriber}
use Rattle.frame_reader.specs.Reader.{read_request}
use Rattle.frame_row.specs.Row.{data_of}
use Rattle.bank_verdicts.specs.declared.verdict.Context.{Context}
use Rattle.bank_state.specs.Clock.{advanced}
use Rattle.bank_state.specs.Limits.{place_count, store_bytes}
use Rattle.bank_state.specs.State.{Bank, BankState, bank_state, file_length}
use Rattle.bank_state.proofs.Drops.{advanced-at-clock}
use Rattle.bank_sound.specs.Sound.{is_sound, InRange}
use Rattle.bank_rows.specs.State.{bank_of, stored, Laid, Held, StoredWith}
use Rattle.bank_rows.proofs.Calls.{Within, within-own, within-at-clock, within-drops, laid_next}
use Rattle.bank_sound.proofs.Range.{advanced-range}
use Rattle.bank_rows.proofs.State.{stored_back, stored-twice}
use Rattle.bank_sound.proofs.Test.{sound-laid}
use Rattle.bank_verdicts.specs.declared.verdict.Action.TheVariants as action
use Rattle.bank_verdicts.specs.declared.verdict.DownloadAction.TheVariants as down
use Rattle.bank_verdicts.specs.declared.verdict.Verdict.{Verdict}
use Rattle.bank_verdicts.specs.declared.verdict.Verdict.TheVariants as verdict
use Rattle.bank_verdicts.specs.Replies.{reply_to, segment_in}
use Rattle.bank_steps.specs.Steps.{carry_out}
use Rattle.bank_steps.specs.Lent.{Lent, lent, state_of, kept_in, Prepared}
use Rattle.bank_steps.proofs.Held.{held-judged}
use Rattle.bank_steps.proofs.Lent.{unchanged}
use Rattle.bank.specs.Call.{file_segment, mailbox_segment, step_by, respond}
use Rattle.bank.specs.Call.{frame_number, SentAs, replied, FrameInput, context_of, lent_right}
use Rattle.bank.specs.Call.{FrameCall, frame_refused, frame_call}
use Rattle.bank.specs.Lent.{LentFrameCall, kept_frame, frame_turned_away, lent_frame_call, lent_respond}

-- ---- the reply

-- a verdict whose reply carries a segment leaves the mailboxes
pub same-segment : (v : Verdict) (w : BankState) (q : Fields) (d : List ℕ) (s size : ℕ) →
    file_segment (carry_out v w q d).mailboxes s size (segment_in v q) ≡ file_segment w.mailboxes s size (segment_in v q)
same-segment verdict.Unreadable w q d s size = refl
same-segment (verdict.Refused c) w q d s size = refl
same-segment (verdict.Of t (action.Upload a)) w q d s size = refl
same-segment (verdict.Of t (action.Download (down.Opened n))) w q d s size = refl
same-segment (verdict.Of t (action.Download (down.Delivered n))) w q d s size = refl
same-segment (verdict.Of t (action.Download (down.SentAgain n))) w q d s size = refl
same-segment (verdict.Of t (action.Download (down.Point k))) w q d s size = refl
same-segment (verdict.Of t (action.Download down.Cancelled)) w q d s size = refl
same-segment (verdict.Of t (action.Download down.Confirmed)) w q d s size = refl
same-segment (verdict.Of t (action.Download down.Declined)) w q d s size = refl
same-segment (verdict.Signed n added) w q d s size = refl

pub respond-kept : (m : Lent) (v : Verdict) (q : Fields) (d : List ℕ) {u : Verdict} {x : Lent} {n k : ℕ}
    {buffer after : List ℕ} {a : Result ℕ WrongLength} → u ≡ v → x ≡ kept_in m (carry_out v (state_of m) q d)
    → n ≡ file_length (subscriber q) (bank_of m.rows).files
    → SentAs (reply_to u q) (file_segment x.mailboxes (subscriber q) n (segment_in u q)) buffer a k after
    → ◌≡◌ {A = LentFrameCall} (record { lent = x; buffer = after; answer = a; number = frame_number a; code = k })
    (kept_frame m (replied (step_by v (state_of m) q d) buffer))
unfolding mailbox_segment
respond-kept m v q d {n = n} e f g sent =
    rw (sent.answered, sent.written, sent.coded, e, f, g, same-segment v (state_of m) q d (subscriber q))

-- ---- the whole call

state-same : {a b : Bank} {o p m n : List ℕ} → a ≡ b → o ≡ p → m ≡ n → bank_state a o m ≡ bank_state b p n
state-same x y z = rw (x, y, z)

-- what a call leaves, with these rows
abbrev with_rows : FrameCall → List ℕ → LentFrameCall
with_rows c rows = record {
  lent = lent rows c.bank_state.orders c.bank_state.mailboxes;
  buffer = c.buffer;
  answer = c.answer;
  number = c.number;
  code = c.code;
}

module _ (s o m : List ℕ) (l : Laid s) (time : ℕ) where
  abbrev pub old : BankState
  old = bank_state (bank_of s) o m

  pub advanced-within : Within s (advanced time old).bank
  unfolding advanced
  advanced-within = within-drops s place_count _ (within-at-clock s _ (within-own s l))

  module _ (t p : List ℕ) (e : StoredWith (advanced time old) s t p) where
    pub advanced-laid : Laid t
    advanced-laid = laid_next s l (advanced time old).bank advanced-within t e.rows

    pub advanced-back : bank_of t ≡ (advanced time old).bank
    advanced-back = ap bank_of e.rows ∙ stored_back (advanced time old).bank advanced-within.held s l

    advanced-state : state_of (lent t p m) ≡ advanced time old
    advanced-state = state-same advanced-back e.store (sym (advanced-at-clock time old).mailboxes)

    pub advanced-prepared : InRange (bank_of s) → length p ≡ store_bytes → length m ≡ store_bytes → Prepared t p m
    advanced-prepared r f g = record {
      laid = advanced-laid;
      range = subst InRange (sym advanced-back) (advanced-range time old r);
      places = f;
      mailbox_store = g;
    }

    -- the step of the clock and the request's are stored as one
    pub responded : (context : Context) (q : Fields) (d buffer : List ℕ) → lent_respond context (lent t p m) q d buffer
        ≡ kept_frame (lent s o m) (replied (respond context (advanced time old) q d) buffer)
    unfolding respond
    responded context q d buffer =
        let c : BankState → FrameCall = λ (w : BankState). replied (respond context w q d) buffer in
        let after = c (advanced time old) in
        let few = advanced-within in
        let v = advanced time old in
        let held : Held after.bank_state.bank =
        held-judged v.bank few.held q v.orders v.mailboxes d context in
        let once = ap (stored after.bank_state.bank) e.rows
        ∙ stored-twice (advanced time old).bank after.bank_state.bank s few.held held l
        (omega (arith, few.downloads)) (omega (arith, few.nonces)) in
        ap (λ (w : BankState). kept_frame (lent t p m) (c w)) advanced-state
        ∙ ap (with_rows after) once

-- ---- number 1

module _ (m : Lent) (a : FrameInput) where
  refused-by : (t : Bool) → is_sound m.rows ≡ t
      → cond t (kept_frame m (frame_refused (state_of m) a)) (frame_turned_away m a) ≡ frame_turned_away m a
  refused-by true e =
      ap (λ (x : Lent). frame_turned_away x a)
      (sym (unchanged m.rows (sound-laid m.rows e) m.orders m.mailboxes))
  refused-by false e = refl

  -- a wrong length or a late time, whatever the rows are
  pub lent-refused : lent_right (state_of m) a ≡ false → lent_frame_call m a ≡ frame_turned_away m a
  unfolding lent_frame_call frame_call
  lent-refused h = rw h (refused-by (is_sound m.rows) refl)

  -- rows that no call leaves
  pub rows-refused : is_sound m.rows ≡ false → lent_frame_call m a ≡ frame_turned_away m a
  unfolding lent_frame_call
  rows-refused h = rw h

  -- the call on rows that are a bank's is the bank's call
  pub lent-frame : is_sound m.rows ≡ true → lent_frame_call m a ≡ kept_frame m (frame_call (state_of m) a)
  unfolding lent_frame_call
  lent-frame h = rw h

  -- the clock, the reading and the step
  pub frame-carried : is_sound m.rows ≡ true → lent_right (state_of m) a ≡ true
      → (t p : List ℕ) → StoredWith (advanced a.time (state_of m)) m.rows t p
      → {context : Context} {q : Fields} {d : List ℕ} {x : LentFrameCall} → context ≡ context_of a → q ≡ read_request a.frame
      → d ≡ data_of a.frame → x ≡ lent_respond context (lent t p m.mailboxes) q d a.buffer → x ≡ lent_frame_call m a
  unfolding lent_frame_call frame_call
  frame-carried sound right t p e {context} {q} {d} x y z f =
      let l = sound-laid m.rows sound in
      f ∙ responded m.rows m.orders m.mailboxes l a.time t p e context q d a.buffer
      ∙ rw (x, y, z, sound, right)
