-- The order number is that of field 0E. Assumes nothing.
use Rattle.driver_print.proofs.tables.name_of.Goals as goal

pub returns : goal.returns
returns c = rw c.order_number_of.ensures
