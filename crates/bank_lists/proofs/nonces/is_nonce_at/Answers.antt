-- The low half first; the tests say the same in any order.
use native.Mathlib.Omega.{arith}
use Rattle.bank_rows.proofs.Reading.{nonce-read}
use Rattle.bank_lists.proofs.nonces.is_nonce_at.Goals as goal

pub returns-then-rows-at : goal.returns-then-rows-at
returns-then-rows-at c = rw (nonce-read c.args.rows.now c.requires.0 c.args.i c.requires.1) (grind arith)

pub returns-else-rows-at : goal.returns-else-rows-at
returns-else-rows-at c = rw (nonce-read c.args.rows.now c.requires.0 c.args.i c.requires.1) (grind arith)
