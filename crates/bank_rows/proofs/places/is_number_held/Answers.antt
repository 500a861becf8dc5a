-- A number is held where the search finds a place. Assumes nothing.
use Rattle.bank_state.specs.Search.{is_number_held}
use Rattle.bank_rows.proofs.places.is_number_held.Goals as goal

pub returns : goal.returns
unfolding is_number_held
returns c = rw c.find_number.ensures
