-- Where all rows stay, so do their numbers. Else of the rows passed those that stay stand at the front; then the rows
-- after them are wiped.
use Rattle.bank_rows.specs.Layout.{nonce_width}
use Rattle.bank_rows.specs.Records.{nonce_of, nonce_row, stays_remembered}
use Rattle.bank_lists.proofs.Keeping.{Keeping}
use Rattle.bank_rows.proofs.Records.{nonce-wide, nonce-row}
use Rattle.bank_lists.proofs.nonces.keep_nonces.Given as goal

abbrev pub invariant-loop-row : goal.invariant-loop-row
invariant-loop-row l = Keeping nonce_width nonce_of nonce_row (stays_remembered l.clock) nonce-wide nonce-row l.initial.area l.area l.n l.kept l.row
