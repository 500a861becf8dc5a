-- Number 1 where the rows are no bank's; else the open transactions are counted before the bank's call and after it.
use Prim.Native.Nat.{ℕ, max}
use mathlib.Core.Bool.{true}
use mathlib.Core.Path.{◌≡◌, sym, ap, ◌∙◌}
use Rattle.bank_rows.specs.State.{bank_of}
use Rattle.bank_clock.specs.Idle.{idle_count}
use Rattle.bank_sound.specs.Sound.{is_sound}
use Rattle.bank_sound.proofs.Test.{sound-laid}
use Rattle.bank_steps.specs.Lent.{Lent, lent}
use Rattle.bank.specs.declared.call.FrameOut.{FrameOut}
use Rattle.bank.specs.Call.{FrameInput, frame_input}
use Rattle.bank.specs.Lent.{lent_frame_call_of}
use Rattle.bank.proofs.Entered.{none-entered}
use Rattle.bank.proofs.Lent.{rows-refused}
use Rattle.bank_session.proofs.Counts.{none-counted, gone-few, others-few, left_laid, counted-by}
use Rattle.bank_session.proofs.counted.answer_counted.Goals as goal

pub returns-then-not-is_sound : goal.returns-then-not-is_sound
returns-then-not-is_sound c =
    let memory : Lent = lent c.args.rows.now c.args.orders.now c.args.mailboxes.now in
    let a = c.args in
    let wrong = c.if-not-is_sound.true in
    let away = c.unanswered.ensures in (
      ap (λ (o : FrameOut). lent_frame_call_of o (memory) a.buffer.now) away.0
          ∙ sym (rows-refused _ _ (sym c.is_sound.ensures ∙ wrong)),
      none-entered away.0 away.1 _,
      none-counted away.0 a.c away.2 _,
    )

pub open_count-before-requires : goal.open_count-before-requires
open_count-before-requires c =
    let sound : is_sound c.args.rows.now ≡ true = sym c.is_sound.ensures ∙ c.if-not-is_sound.false in
    sound-laid _ (sound)

pub clock-requires : goal.clock-requires
clock-requires c =
    let sound : is_sound c.args.rows.now ≡ true = sym c.is_sound.ensures ∙ c.if-not-is_sound.false in
    sound-laid _ (sound)

pub idle_count-gone-requires : goal.idle_count-gone-requires
idle_count-gone-requires c =
    let sound : is_sound c.args.rows.now ≡ true = sym c.is_sound.ensures ∙ c.if-not-is_sound.false in
    sound-laid _ (sound)

pub answer_sound-step-requires : goal.answer_sound-step-requires
answer_sound-step-requires c =
    let sound : is_sound c.args.rows.now ≡ true = sym c.is_sound.ensures ∙ c.if-not-is_sound.false in
    sound

pub open_count-left-requires : goal.open_count-left-requires
open_count-left-requires c =
    let memory : Lent = lent c.args.rows.now c.args.orders.now c.args.mailboxes.now in
    let input : FrameInput = frame_input c.args.time c.args.ids.now c.args.frame.now c.args.buffer.now in
    let sound : is_sound c.args.rows.now ≡ true = sym c.is_sound.ensures ∙ c.if-not-is_sound.false in
    left_laid (memory) (input) (sound) c.answer_sound-step.ensures.0

pub moved-counts-requires : goal.moved-counts-requires
moved-counts-requires c =
    let memory : Lent = lent c.args.rows.now c.args.orders.now c.args.mailboxes.now in
    let input : FrameInput = frame_input c.args.time c.args.ids.now c.args.frame.now c.args.buffer.now in
    let sound : is_sound c.args.rows.now ≡ true = sym c.is_sound.ensures ∙ c.if-not-is_sound.false in
    let idle : let b = bank_of c.args.rows.now in
    c.idle_count-gone.result ≡ idle_count (max b.clock c.args.time) b = c.idle_count-gone.ensures
    ∙ ap (λ (n : ℕ). idle_count n (bank_of c.args.rows.now))
    (c.larger.ensures ∙ ap (λ (n : ℕ). max n c.args.time) c.clock.ensures) in (
      c.requires,
      gone-few (memory) (input) (sound) (idle),
      others-few (sound-laid _ (sound)) _ _ c.open_count-before.ensures c.others_of-others.ensures,
    )

pub returns : goal.returns
returns c =
    let memory : Lent = lent c.args.rows.now c.args.orders.now c.args.mailboxes.now in
    let input : FrameInput = frame_input c.args.time c.args.ids.now c.args.frame.now c.args.buffer.now in
    let sound : is_sound c.args.rows.now ≡ true = sym c.is_sound.ensures ∙ c.if-not-is_sound.false in
    let idle : let b = bank_of c.args.rows.now in
    c.idle_count-gone.result ≡ idle_count (max b.clock c.args.time) b = c.idle_count-gone.ensures
    ∙ ap (λ (n : ℕ). idle_count n (bank_of c.args.rows.now))
    (c.larger.ensures ∙ ap (λ (n : ℕ). max n c.args.time) c.clock.ensures) in (
      c.answer_sound-step.ensures.0,
      c.answer_sound-step.ensures.1,
      c.moved-counts.ensures
          ∙ counted-by (memory) (input) (sound) c.answer_sound-step.ensures.0 c.open_count-before.ensures
          (idle) c.open_count-left.ensures c.others_of-others.ensures c.answer_sound-step.result.out.answer
          c.answer_sound-step.ensures.2 c.args.c,
    )
