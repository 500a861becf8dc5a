-- The line's call on the parts of the record, and what its answer says; a seed of four bytes has 32 bits. Assumes nothing.
use native.Mathlib.Omega.{arith}
use Rattle.unit_state.specs.Records.{seed_at, seed_bytes}
use Rattle.unit_state.proofs.Parts.{number_at-most}
use Rattle.unit.proofs.LineSteps.{line_made}
use Rattle.unit.proofs.lines.make_call.Goals as goal

pub overflow_cast-seed : goal.overflow_cast-seed
overflow_cast-seed c =
    let most = number_at-most c.args.«record».now (λ i. omega (arith, c.type_inv.record i)) seed_at seed_bytes in
    omega (arith, c.number_at-seed.ensures, most)

pub returns : goal.returns
returns c =
    λ u bank p f b room.
    line_made u bank p f b room _ _ _ c.line_index-i.ensures.0 _ _ _ _ c.number_at-seed.ensures
    c.make_at-answer.ensures c.line_answer.ensures
