-- Number 1 where a lent length or the time is wrong; else clock and step, as in the definition, for each frame that says
-- the request.
use Prim.Native.Nat.{ℕ}
use mathlib.Core.Bool.{true}
use mathlib.Core.List.{List, []}
use mathlib.Core.Path.{◌≡◌, sym, ap, ◌∙◌, subst}
use native.Mathlib.Omega.{arith}
use lib.ListN.{length}
use Rattle.bank_state.specs.Limits.{store_bytes, idle_others}
use Rattle.bank_verdicts.specs.declared.verdict.Context.{Context}
use Rattle.bank_sound.specs.Sound.{is_sound}
use Rattle.bank_sound.proofs.Test.{sound-laid, sound-range}
use Rattle.journal.specs.declared.event.Entry.{Entry}
use Rattle.bank_events.specs.Entries.{Holds}
use Rattle.bank.specs.declared.call.FrameOut.{FrameOut}
use Rattle.bank.specs.Call.{RightInput, lent_right, verdict_by, frame_input}
use Rattle.bank.specs.Journal.{if_answered}
use Rattle.bank.specs.Lent.{lent_frame_call_of}
use Rattle.bank_steps.specs.Lent.{lent, state_of}
use Rattle.bank.proofs.Entered.{none-entered, none-judged, frame-entered, frame-judged}
use Rattle.bank.proofs.Lent.{advanced-prepared, lent-refused, frame-carried}
use Rattle.bank.proofs.Right.{right-told}
use Rattle.bank.proofs.call.answer_request.Goals as goal

abbrev context : ℕ → Context
context n = record { prefix = n; others = idle_others }

-- the context by the number of the ID bytes
at-context : {n m : ℕ} → n ≡ m → context n ≡ context m
at-context e = ap context e

pub returns-then-not-lent_right : goal.returns-then-not-lent_right
unfolding lent_right
returns-then-not-lent_right c frame e d =
    let a = c.args in
    let wrong = c.if-not-lent_right.true in
    let away = c.turned_away.ensures in (
      ap (λ (o : FrameOut). lent_frame_call_of o (lent a.rows.now a.orders.now a.mailboxes.now) a.buffer.now)
          away.0 ∙ sym (lent-refused _ _ (sym c.lent_right.ensures ∙ wrong)),
      none-entered away.0 away.1 _,
      none-judged away.0 away.2 _,
    )

pub drops-dropped-requires : goal.drops-dropped-requires
drops-dropped-requires c =
    let sound : is_sound c.args.rows.now ≡ true = c.requires.0 in
    sound-laid _ (sound)

pub advance-requires : goal.advance-requires
unfolding lent_right
advance-requires c =
    let sound : is_sound c.args.rows.now ≡ true = c.requires.0 in
    let right : (frame : List ℕ) → let a = c.args in
    (length a.orders.now ≡ store_bytes) × (length a.mailboxes.now ≡ store_bytes)
    × RightInput (frame_input a.time a.ids.now frame a.buffer.now) = λ frame. let a = c.args in
    let told = c.if-not-lent_right.false in
    right-told (state_of (lent a.rows.now a.orders.now a.mailboxes.now)) _
    (sym c.lent_right.ensures ∙ told) in
    (sound-laid _ (sound), (right []).0)

pub number-requires : goal.number-requires
unfolding lent_right
number-requires c =
    let right : (frame : List ℕ) → let a = c.args in
    (length a.orders.now ≡ store_bytes) × (length a.mailboxes.now ≡ store_bytes)
    × RightInput (frame_input a.time a.ids.now frame a.buffer.now) = λ frame. let a = c.args in
    let told = c.if-not-lent_right.false in
    right-told (state_of (lent a.rows.now a.orders.now a.mailboxes.now)) _
    (sym c.lent_right.ensures ∙ told) in
    omega (arith, (right []).2.ids)

pub respond-requires : goal.respond-requires
unfolding lent_right
respond-requires c =
    let sound : is_sound c.args.rows.now ≡ true = c.requires.0 in
    let right : (frame : List ℕ) → let a = c.args in
    (length a.orders.now ≡ store_bytes) × (length a.mailboxes.now ≡ store_bytes)
    × RightInput (frame_input a.time a.ids.now frame a.buffer.now) = λ frame. let a = c.args in
    let told = c.if-not-lent_right.false in
    right-told (state_of (lent a.rows.now a.orders.now a.mailboxes.now)) _
    (sym c.lent_right.ensures ∙ told) in
    let a = c.args in
    let m = a.mailboxes.now in
    let s = sound in (
      advanced-prepared a.rows.now a.orders.now m (sound-laid _ s) a.time _ _
          (c.advance.ensures m)
          (sound-range _ s) (c.orders-1.given ∙ (right []).0) (right []).1,
      c.drops-dropped.ensures.0,
      c.requires.1,
      (right []).2.room,
    )

pub returns : goal.returns
unfolding lent_right
returns c frame e d =
    let sound : is_sound c.args.rows.now ≡ true = c.requires.0 in
    let a = c.args in
    let m = lent a.rows.now a.orders.now a.mailboxes.now in
    let input = frame_input a.time a.ids.now frame a.buffer.now in
    let lengths = sym c.lent_right.ensures ∙ c.if-not-lent_right.false in
    let stored = c.advance.ensures m.mailboxes in
    let given = at-context c.number.ensures.0 in
    let entered = frame-entered m input (sound) _ _ stored given e d c.drops-dropped.ensures.1.entries in (
      frame-carried m input (sound) lengths _ _ stored given e d c.respond.ensures.0,
      subst (λ (es : List Entry). Holds c.respond.result.batch (if_answered c.respond.result.out.answer es)) entered
          c.respond.ensures.1,
      c.respond.ensures.2
          ∙ ap (verdict_by c.respond.result.out.answer) (frame-judged m input (sound) _ _ stored given e d),
    )
