-- The next row is written and the count is one more.
use mathlib.Core.Path.{refl}
use Rattle.bank_rows.specs.Records.{bits, nonce_record}
use Rattle.bank_rows.proofs.Reading.{free-nonce}
use Rattle.bank_rows.proofs.Writing.{nonce-add}
use Rattle.bank_lists.proofs.nonces.add_nonce.Goals as goal

pub returns : goal.returns
returns c =
    let a = c.args in
    let s = a.rows.now in
    rw (c.put.ensures, free-nonce s) (nonce-add s c.requires.0 (nonce_record (bits a.high a.low) a.timestamp) refl c.requires.1)
