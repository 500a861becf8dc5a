-- The unit after the calls on lines, from what each part of the call leaves. Assumes nothing.
use Rattle.line.specs.declared.calls.MakeRefusal.{MakeRefusal}
use Rattle.std.specs.Prelude.{Result}
use Prim.Native.Nat.{ℕ}
use mathlib.Core.Bool.{Bool, true, false, not}
use mathlib.Core.List.{List}
use mathlib.Core.Path.{◌≡◌, refl, sym, ◌∙◌}
use borrow.Author.Tests.{not-true, not-false}
use Rattle.bank_steps.specs.Lent.{Lent}
use Rattle.number_table.specs.declared.table.WrongLength.{WrongLength}
use Rattle.line.specs.declared.calls.Delivery.{Delivery}
use Rattle.unit_state.specs.declared.record.Kind.{Kind}
use Rattle.unit_state.specs.declared.record.Kind.TheVariants as kind
use Rattle.unit_state.specs.declared.answer.Answer.{Answer}
use Rattle.unit_state.specs.declared.answer.Answer.TheVariants.{NoCall}
use Rattle.unit_state.specs.declared.state.UnitState.{UnitState}
use Rattle.unit_state.specs.Records.{line_of, seed_of, body_of, is_line, call_of}
use Rattle.unit_rows.specs.Lines.{Lines, row_at, is_made, made_at_of, made_at, put_at_of, put_at}
use Rattle.unit.specs.State.{memory, state_of}
use Rattle.unit.specs.Call.{after_call, line_answer, out_answer, line_index, make_step, put_step, put_in_step}
use Rattle.unit_state.proofs.Parts.{callable}

-- a record that makes a line, or puts a message into one, names one of the lines
pub line-made-named : (r : List ℕ) (k : Kind) → k ≡ call_of r → k ≡ kind.MakeLine → is_line (line_of r) ≡ true
line-made-named r k ek told = (callable r kind.MakeLine refl (sym ek ∙ told)).within

pub line-put-named : (r : List ℕ) (k : Kind) → k ≡ call_of r → k ≡ kind.PutIn → is_line (line_of r) ≡ true
line-put-named r k ek told = (callable r kind.PutIn refl (sym ek ∙ told)).within

module _ (u : UnitState) (bank : Lent) (p f b room : List ℕ) (l : Lines) (r : List ℕ) (i : ℕ) (at : i ≡ line_index r) where
  -- the line is made
  pub line_made : (l' : Lines) (seed : ℕ) (a : Result (Unit {0}) MakeRefusal) (answer : Answer)
      → seed ≡ seed_of r → made_at_of a l' ≡ made_at l i seed → answer ≡ line_answer a
      → after_call u (memory bank p f b room l') answer ≡ make_step (state_of u (memory bank p f b room l)) r
  unfolding make_step
  line_made l' seed a answer es em ea = rw (ea, ← at, ← es, ← em)

  module _ (t : Bool) (et : t ≡ is_made (row_at l.rows i)) where
    -- the message is put in
    pub message-put : (l' : Lines) (b' body : List ℕ) (a : Result Delivery WrongLength) (answer : Answer)
        → not t ≡ false → body ≡ body_of kind.PutIn r → put_at_of a l' b' ≡ put_at l i body b → answer ≡ out_answer a
        → after_call u (memory bank p f b' room l') answer ≡ put_in_step (state_of u (memory bank p f b room l)) r
    unfolding put_in_step put_step
    message-put l' b' body a answer h ey ep ea = rw (ea, ← at, ← et, not-false t h, ← ey, ← ep)

    -- the line is not made
    pub not_made : not t ≡ true
        → after_call u (memory bank p f b room l) NoCall ≡ put_in_step (state_of u (memory bank p f b room l)) r
    unfolding put_in_step
    not_made h = rw (← at, ← et, not-true t h)
