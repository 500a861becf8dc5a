-- The memory that a session lends to the bank.
use Rattle.bank_steps.specs.Lent.{Lent, lent}
use Rattle.marker_session.specs.declared.memory.Memory.{Memory}

-- what of it the bank keeps between calls
abbrev pub lent_of : Memory → Lent
lent_of m = lent m.rows m.orders m.mailboxes
