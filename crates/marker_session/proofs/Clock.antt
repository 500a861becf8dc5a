-- The clock that a call leaves: the larger of its old value and the time given, and so at most the last time. Assumes
-- nothing.
use Rattle.std.specs.Prelude.{Ok}
use Prim.Native.Nat.{ℕ, ◌≤◌}
use mathlib.Core.Bool.{Bool, true, false}
use mathlib.Core.List.{List}
use mathlib.Core.Path.{◌≡◌, refl, sym, ap, ◌∙◌}
use native.Mathlib.Omega.{arith}
use lib.ListN.{length, replicate}
use Rattle.frame_table.specs.declared.fields.Fields.{Fields}
use Rattle.frame_table.specs.Table.{last_time}
use Rattle.frame_reader.specs.Reader.{read_request}
use Rattle.frame_row.specs.Row.{data_of}
use Rattle.bank_state.specs.Clock.{advanced}
use Rattle.bank_state.specs.State.{BankState, fresh}
use Rattle.bank_state.proofs.Drops.{advanced-at-clock}
use Rattle.bank_rows.specs.Layout.{state_size}
use Rattle.bank_rows.specs.State.{bank_of}
use Rattle.bank_rows.proofs.State.{fresh-rows}
use Rattle.bank_sound.proofs.Range.{zeros-sound}
use Rattle.bank_openings.specs.Openings.{counted, counted_upload, open_upload, open_download}
use Rattle.bank_signing.specs.Signings.{sign}
use Rattle.bank_verdicts.specs.declared.verdict.Action.TheVariants as action
use Rattle.bank_verdicts.specs.declared.verdict.DownloadAction.TheVariants as down
use Rattle.bank_verdicts.specs.declared.verdict.UploadAction.TheVariants as up
use Rattle.bank_verdicts.specs.declared.verdict.Verdict.{Verdict}
use Rattle.bank_verdicts.specs.declared.verdict.Verdict.TheVariants as verdict
use Rattle.bank_verdicts.specs.Judgement.{judge}
use Rattle.bank_steps.specs.Lent.{Lent, state_of}
use Rattle.bank_steps.specs.Steps.{carry_out}
use Rattle.bank.specs.Call.{context_of, FrameInput, respond, lent_right, frame_call}
use Rattle.bank.specs.Journal.{clock_by}
use Rattle.bank.specs.Lent.{LentFrameCall, lent_frame_call}
use Rattle.bank.proofs.Kept.{frame-sound, frame-state}
use Rattle.bank.proofs.Lent.{lent-frame}
use Rattle.bank.proofs.Right.{right-told}
use Rattle.marker_session.specs.Marking.{MarkerState, input_of, call_of, called, offset_clock, Clocked}

-- "beyond clock and drops only what is named changes": no verdict moves the clock
carried-clock : (v : Verdict) (w : BankState) (q : Fields) (d : List ℕ) → (carry_out v w q d).bank.clock ≡ w.bank.clock
unfolding open_upload open_download counted counted_upload sign
carried-clock verdict.Unreadable w q d = refl
carried-clock (verdict.Refused c) w q d = refl
carried-clock (verdict.Of t (action.Upload (up.Opened n))) w q d = refl
carried-clock (verdict.Of t (action.Upload up.Took)) w q d = refl
carried-clock (verdict.Of t (action.Upload up.TookLast)) w q d = refl
carried-clock (verdict.Of t (action.Upload (up.Point k))) w q d = refl
carried-clock (verdict.Of t (action.Upload (up.Cancelled c))) w q d = refl
carried-clock (verdict.Of t (action.Download (down.Opened n))) w q d = refl
carried-clock (verdict.Of t (action.Download (down.Delivered n))) w q d = refl
carried-clock (verdict.Of t (action.Download (down.SentAgain n))) w q d = refl
carried-clock (verdict.Of t (action.Download (down.Point k))) w q d = refl
carried-clock (verdict.Of t (action.Download down.Cancelled)) w q d = refl
carried-clock (verdict.Of t (action.Download down.Confirmed)) w q d = refl
carried-clock (verdict.Of t (action.Download down.Declined)) w q d = refl
carried-clock (verdict.Signed n added) w q d = refl

-- a call that its lengths and its time pass sets the clock, and any other leaves it
module _ (w : BankState) (a : FrameInput) where
  right-clock : lent_right w a ≡ true → (frame_call w a).bank_state.bank.clock ≡ clock_by w a
  unfolding frame_call respond
  right-clock h =
      let v = advanced a.time w in
      let q = read_request a.frame in
      let d = data_of a.frame in
      rw h
      (carried-clock (judge (context_of a) v.bank q (length d)) v q d ∙ (advanced-at-clock a.time w).clock)

  -- an answered call is one that passes them
  answered-clock : (b : Bool) → lent_right w a ≡ b → (n : ℕ) → (frame_call w a).answer ≡ Ok n
      → (frame_call w a).bank_state.bank.clock ≡ clock_by w a
  unfolding frame_call
  answered-clock true e n h = right-clock e
  answered-clock false e n h = let z : ◌≡◌ {A = ℕ} 0 1 = cc in absurd (omega arith)

  clock-most : (b : Bool) → lent_right w a ≡ b → w.bank.clock ≤ last_time
      → (frame_call w a).bank_state.bank.clock ≤ last_time
  unfolding frame_call
  clock-most true e h = omega (arith, right-clock e, (right-told w a e).2.in_time)
  clock-most false e h = rw e h

-- the same on rows
module _ (m : Lent) (a : FrameInput) (k : Clocked m.rows) where
  left-clock : (bank_of (lent_frame_call m a).lent.rows).clock ≡ (frame_call (state_of m) a).bank_state.bank.clock
  left-clock = ap (λ (w : BankState). w.bank.clock) (frame-state m a k.sound)

  -- "A call first sets the clock to the larger of its old value and the time given"
  pub clock-set : (n : ℕ) → (lent_frame_call m a).answer ≡ Ok n
      → (bank_of (lent_frame_call m a).lent.rows).clock ≡ clock_by (state_of m) a
  clock-set n h =
      let told = ap (λ (c : LentFrameCall). c.answer) (lent-frame m a k.sound) in
      left-clock ∙ answered-clock (state_of m) a (lent_right (state_of m) a) refl n (sym told ∙ h)

  pub clocked-next : Clocked (lent_frame_call m a).lent.rows
  clocked-next = record {
    sound = frame-sound m a k.sound;
    in_time = rw left-clock (clock-most (state_of m) a (lent_right (state_of m) a) refl k.in_time);
  }

-- the same of a call told by an equation
pub left-clocked : (m : Lent) (a : FrameInput) → Clocked m.rows → (c : LentFrameCall) → c ≡ lent_frame_call m a
    → Clocked c.lent.rows
left-clocked m a k c e = rw e (clocked-next m a k)

-- a fresh bank's rows
pub clocked-fresh : Clocked (replicate state_size 0)
unfolding fresh
clocked-fresh = record { sound = zeros-sound; in_time = rw fresh-rows (omega arith) }

-- the clock of an offset is the one that the call leaves
pub offset-clock : (s : MarkerState) → Clocked s.lent.rows → (n : ℕ) → (call_of s).answer ≡ Ok n
    → offset_clock s ≡ (bank_of (called s).lent.rows).clock
unfolding call_of called
offset-clock s k n h = sym (clock-set s.lent (input_of s) k n h)
