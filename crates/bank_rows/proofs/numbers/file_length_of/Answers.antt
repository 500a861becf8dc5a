-- A subscriber from 1 to 8 has a mailbox; after the eight the definition gives 0, as the code does.
use mathlib.Core.Path.{sym}
use native.Mathlib.Omega.{arith}
use lib.ListN.{get_or-eq_default}
use Rattle.bank_state.specs.State.{file_length}
use Rattle.bank_rows.specs.State.{bank_of}
use Rattle.bank_rows.proofs.State.{held_rows}
use Rattle.bank_rows.proofs.numbers.file_length_of.Goals as goal

pub returns-then-i-lt-PLACE_COUNT : goal.returns-then-i-lt-PLACE_COUNT
unfolding file_length
returns-then-i-lt-PLACE_COUNT c = rw c.index_of-i.ensures at c.file_length.ensures

pub returns-else-i-lt-PLACE_COUNT : goal.returns-else-i-lt-PLACE_COUNT
unfolding file_length
returns-else-i-lt-PLACE_COUNT c =
    let long = (held_rows c.args.rows.now c.requires).files in
    sym (get_or-eq_default (bank_of c.args.rows.now).files 0 (omega arith))
