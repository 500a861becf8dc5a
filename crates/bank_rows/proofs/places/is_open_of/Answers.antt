-- Its use, then its subscriber.
use native.Mathlib.Omega.{arith}
use Rattle.bank_rows.proofs.Records.{open_is}
use Rattle.bank_rows.proofs.Reading.{place_read}
use Rattle.bank_rows.proofs.places.is_open_of.Goals as goal

pub returns-then-rows-at-eq-OPEN : goal.returns-then-rows-at-eq-OPEN
returns-then-rows-at-eq-OPEN c =
    let read = place_read c.args.rows.now c.args.i c.requires.1 in
    rw (read, open_is) (grind arith)

pub returns-else-rows-at-eq-OPEN : goal.returns-else-rows-at-eq-OPEN
returns-else-rows-at-eq-OPEN c =
    let read = place_read c.args.rows.now c.args.i c.requires.1 in
    rw (read, open_is) (grind arith)
