-- What the calls on images ask of the image room, and what they leave. Assumes nothing.
use Prim.Native.Nat.{ℕ, ◌+◌, ◌≤◌}
use mathlib.Core.List.{List, ◌++◌}
use mathlib.Core.Path.{◌≡◌, refl, sym, ◌∙◌}
use native.Mathlib.Nat.{zero-add}
use native.Mathlib.Omega.{arith}
use lib.ListN.{length, take, drop}
use borrow.Author.Tests.{leb-true}
use Rattle.std.specs.Prelude.{Result}
use Rattle.octets.specs.Bytes.{overwrite}
use Rattle.image.specs.declared.codec.ImageRefusal.{ImageRefusal}
use Rattle.bank_steps.specs.Lent.{Lent}
use Rattle.image_calls.specs.Calls.{put_away_of, put_away}
use Rattle.unit_state.specs.declared.record.Kind.{Kind}
use Rattle.unit_state.specs.declared.record.Kind.TheVariants as kind
use Rattle.unit_state.specs.declared.answer.Answer.{Answer}
use Rattle.unit_state.specs.declared.state.UnitState.{UnitState}
use Rattle.unit_state.specs.Records.{lent_length_of, offset_of, size_of, room_bytes, call_of}
use Rattle.unit_rows.specs.Lines.{Lines}
use Rattle.unit.specs.State.{memory, state_of, session_in}
use Rattle.unit.specs.Call.{after_call, away_answer, away_step}
use Rattle.unit_state.proofs.Parts.{callable}

-- the bytes of the image room that a record names are there
module _ (r room : List ℕ) (k : Kind) (long : length room ≡ room_bytes) (ek : k ≡ call_of r) where
  pub away-within : k ≡ kind.Away → lent_length_of r ≤ length room
  away-within told =
      let within = leb-true (0 + lent_length_of r) room_bytes (callable r kind.Away refl (sym ek ∙ told)).within in
      omega (arith, within, long)

  pub image-within : k ≡ kind.Image → offset_of r + size_of kind.Image r ≤ length room
  image-within told =
      let within = leb-true (offset_of r + size_of kind.Image r) room_bytes (callable r kind.Image refl (sym ek ∙ told)).within in
      omega (arith, within, long)

-- the front of the room, lent and come back as x
front-back : (room x : List ℕ) (n : ℕ) → length x ≡ n → x ++ drop n room ≡ overwrite room 0 x
unfolding overwrite
front-back room x n e = rw (zero-add, e)

-- the session put away into the front of the room
pub away-left : (u : UnitState) (bank : Lent) (p f b room : List ℕ) (l : Lines) (r x : List ℕ) (n : ℕ) (out : Result ℕ ImageRefusal) (answer : Answer)
    → n ≡ lent_length_of r → length x ≡ n
    → put_away_of out x ≡ put_away (session_in (state_of u (memory bank p f b room l))) (take n room) → answer ≡ away_answer out
    → after_call u (memory bank p f b (x ++ drop n room) l) answer ≡ away_step (state_of u (memory bank p f b room l)) r
unfolding away_step
away-left u bank p f b room l r x n out answer en ex eo ea = rw (front-back room x n ex, ea, ← en, ← eo)
