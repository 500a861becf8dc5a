-- The sixteen bytes of the ID in hexadecimal. Assumes nothing.
use Rattle.driver_print.specs.Tables.{transaction_text}
use Rattle.driver_print.proofs.tables.put_transaction.Goals as goal

pub returns : goal.returns
unfolding transaction_text
returns c =
    rw (← c.digits.ensures.0) c.put_hex.ensures
