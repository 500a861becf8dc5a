-- The low half of the ID tells most places apart, so it is looked at first; the tests say the same in any order.
use native.Mathlib.Omega.{arith}
use Rattle.bank_rows.proofs.Reading.{upload-read}
use Rattle.bank_rows.proofs.places.is_upload_at.Goals as goal

pub returns-then-rows-at-3 : goal.returns-then-rows-at-3
returns-then-rows-at-3 c =
    let a = c.args in
    grind (arith, upload-read a.rows.now a.i c.requires.1 a.subscriber a.high a.low)

pub returns-else-rows-at-3 : goal.returns-else-rows-at-3
returns-else-rows-at-3 c =
    let a = c.args in
    grind (arith, upload-read a.rows.now a.i c.requires.1 a.subscriber a.high a.low)
