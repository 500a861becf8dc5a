-- The search passes the nonces that are others; a free record is none.
use Rattle.std.proofs.Common.{true, false, ◌≡◌, refl, rules, tests, arith}
use Rattle.std.proofs.lemmas.Iterator.{cases_from_any, YieldsList-from_range}
use Rattle.bank_state.specs.State.{no_nonce}
use Rattle.bank_rows.specs.Records.{bits}
use Rattle.bank_rows.specs.State.{bank_of, nonce_count_of}
use Rattle.bank_rows.proofs.Ranges.{row_passes, any-found}
use Rattle.bank_rows.proofs.Reading.{is_nonce, length-nonces-of, any-nonce}
use Rattle.bank_lists.proofs.nonces.is_remembered.Goals as goal

pub returns : goal.returns
returns c =
    let a = c.args in
    let s = a.rows.now in
    let value = bits a.high a.low in
    let nonces = (bank_of s).nonces in
    let n = nonce_count_of s in
    let test = row_passes (is_nonce s value) nonces no_nonce in
    any-nonce s value c.requires _
    (any-found (is_nonce s value) nonces no_nonce n (omega (arith, c.requires.nonces, length-nonces-of s c.requires)) _
    (cases_from_any _ _ _ (λ i. test i ≡ true) (λ i. test i ≡ false) c.any.ensures.ran (YieldsList-from_range 0 n n refl (omega arith))
    (λ x q k. search (rules, tests)) (λ x q k. search (rules, tests))))
