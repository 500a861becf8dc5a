-- The counts after the bank's call: the code's numbers are those of the definition. Assumes nothing.
use Rattle.number_table.specs.declared.table.WrongLength.{WrongLength}
use Rattle.std.specs.Prelude.{Err, Ok, Result}
use Prim.Native.Nat.{ℕ, ◌-◌, ◌≤◌, max}
use mathlib.Core.Bool.{true}
use mathlib.Core.List.{List}
use mathlib.Core.Path.{◌≡◌, refl, sym, ap, ◌∙◌}
use native.Mathlib.Omega.{arith}
use lib.ListN.{length}
use Rattle.bank_state.specs.declared.state.Place.{Place}
use Rattle.bank_state.specs.Search.{is_open, open_count}
use Rattle.bank_state.specs.State.{Bank, BankState}
use Rattle.bank_state.proofs.Rows.{count-le}
use Rattle.bank_rows.specs.State.{bank_of, Laid}
use Rattle.bank_rows.proofs.Reading.{length-places-of, open-downloads}
use Rattle.bank_clock.specs.Idle.{idle_count}
use Rattle.bank_clock.proofs.Falls.{advanced-falls, gone-is}
use Rattle.bank_sound.specs.Sound.{is_sound}
use Rattle.bank_sound.proofs.Test.{sound-laid}
use Rattle.bank_verdicts.specs.declared.verdict.Verdict.{Verdict}
use Rattle.opening_counts.specs.declared.seven.Counts.{Counts}
use Rattle.opening_counts.specs.Counts.{most_moved, counts_after}
use Rattle.bank_steps.specs.Lent.{Lent, lent, state_of}
use Rattle.bank.specs.declared.call.FrameOut.{FrameOut}
use Rattle.bank.specs.Call.{FrameInput, frame_call, call_verdict, verdict_by}
use Rattle.bank.specs.Lent.{no_reply, LentFrameCall, lent_frame_call_of, lent_frame_call}
use Rattle.bank.proofs.Kept.{frame-sound, frame-state}
use Rattle.bank_session.specs.Counts.{gone_by, others_by, counts_over, counts_by}

-- no more are open than there are places and downloads
pub open-few : (s : List ℕ) → Laid s → open_count (bank_of s) ≤ most_moved
unfolding open_count
open-few s l =
    omega (
      arith,
      count-le (λ (p : Place). is_open p.used) (bank_of s).places,
      length-places-of s,
      open-downloads s,
      l.downloads,
    )

-- the counts of a call given number 1
pub none-counted : {o : FrameOut} {x : Counts} → o ≡ no_reply → (c : Counts) → x ≡ c → (after : Counts)
    → x ≡ counts_by o.answer after c
none-counted e c f after = rw e f

module _ (m : Lent) (a : FrameInput) (sound : is_sound m.rows ≡ true) where
  abbrev w : BankState
  w = state_of m

  abbrev b : Bank
  b = bank_of m.rows

  abbrev at : ℕ
  at = max b.clock a.time

  places-long : length w.bank.places ≡ 8
  places-long = length-places-of m.rows

  -- those that the clock drops
  pub gone-told : {n : ℕ} → n ≡ idle_count at b → n ≡ gone_by w a
  gone-told e = e ∙ sym (gone-is a.time w places-long)

  pub gone-few : {n : ℕ} → n ≡ idle_count at b → n ≤ most_moved
  gone-few e = omega (arith, advanced-falls a.time w places-long, open-few m.rows (sound-laid m.rows sound))

  -- the bank that is left
  module _ {out : FrameOut} {x o y buffer : List ℕ}
      (done : lent_frame_call_of out (lent x o y) buffer ≡ lent_frame_call m a) where
    rows_left : x ≡ (lent_frame_call m a).lent.rows
    rows_left = ap (λ (c : LentFrameCall). c.lent.rows) done

    pub left_laid : Laid x
    left_laid = rw rows_left (sound-laid (lent_frame_call m a).lent.rows (frame-sound m a sound))

    left_is : bank_of x ≡ (frame_call w a).bank_state.bank
    left_is = ap bank_of rows_left ∙ ap (λ (v : BankState). v.bank) (frame-state m a sound)

    module _ {before gone left others : ℕ} (f : before ≡ open_count b) (g : gone ≡ idle_count at b)
        (h : left ≡ open_count (bank_of x)) (k : others ≡ before - gone - left - 1) where
      others-told : others ≡ others_by w a
      others-told =
          let l = h ∙ ap open_count left_is in
          let e = advanced-falls a.time w places-long in
          omega arith

      -- the counts, by the answer
      pub counted-by : (r : Result ℕ WrongLength) {v : Verdict} → v ≡ verdict_by r (call_verdict w a) → (c : Counts)
          → counts_by r (counts_after v gone others c) c ≡ counts_by r (counts_over w a c) c
      unfolding counts_over
      counted-by (Ok n) e c = rw (e, gone-told g, others-told)
      counted-by (Err x) e c = refl

-- fewer than there were
pub others-few : {s : List ℕ} → Laid s → {before others : ℕ} (gone left : ℕ) → before ≡ open_count (bank_of s)
    → others ≡ before - gone - left - 1 → others ≤ most_moved
others-few {s} l gone left e f = omega (arith, open-few s l)
