-- Number 1 where the rows are no bank's; else the bank's call.
use mathlib.Core.Path.{sym, ap, ◌∙◌}
use Rattle.bank.specs.declared.call.FrameOut.{FrameOut}
use Rattle.bank.specs.Lent.{lent_frame_call_of}
use Rattle.bank_steps.specs.Lent.{lent}
use Rattle.bank.proofs.Entered.{none-entered, none-judged}
use Rattle.bank.proofs.Lent.{rows-refused}
use Rattle.bank.proofs.call.answer_frame.Goals as goal

pub returns-then-not-is_sound : goal.returns-then-not-is_sound
returns-then-not-is_sound c =
    let a = c.args in
    let wrong = c.if-not-is_sound.true in
    let away = c.turned_away.ensures in (
      ap (λ (o : FrameOut). lent_frame_call_of o (lent a.rows.now a.orders.now a.mailboxes.now) a.buffer.now)
          away.0 ∙ sym (rows-refused _ _ (sym c.is_sound.ensures ∙ wrong)),
      none-entered away.0 away.1 _,
      none-judged away.0 away.2 _,
    )

pub answer_sound-requires : goal.answer_sound-requires
answer_sound-requires c =
    sym c.is_sound.ensures ∙ c.if-not-is_sound.false
