-- Its use, its subscriber, then its number, as the definition's "and" has them.
use native.Mathlib.Omega.{arith}
use Rattle.bank_state.specs.Search.{holds_number}
use Rattle.bank_rows.proofs.Records.{free-is}
use Rattle.bank_rows.proofs.Reading.{place_read}
use Rattle.bank_rows.proofs.places.holds_number_at.Goals as goal

pub returns-then-rows-at : goal.returns-then-rows-at
unfolding holds_number
returns-then-rows-at c =
    let read = place_read c.args.rows.now c.args.i c.requires.1 in
    rw (read, free-is) (grind arith)

pub returns-else-rows-at : goal.returns-else-rows-at
unfolding holds_number
returns-else-rows-at c =
    let read = place_read c.args.rows.now c.args.i c.requires.1 in
    rw (read, free-is) (grind arith)
