-- The numbers and the nonce bytes of the run are written over its own. Assumes nothing.
use mathlib.Core.Path.{◌≡◌}
use native.Mathlib.Omega.{arith}
use lib.ListN.{length}
use Rattle.client_run.specs.Run.{nonce_bytes}
use Rattle.unit_rows.proofs.Rows.{run-set}
use Rattle.unit_rows.proofs.runs.set_run.Goals as goal

pub copy-requires : goal.copy-requires
copy-requires c =
    let twelve : length c.args.run.nonce ≡ nonce_bytes = c.well_formed.1.1.1.0.1.1.1.0.1.0.1 in
    omega (arith, c.requires, twelve, c.copy-arg-1.given)

pub returns : goal.returns
returns c =
    let twelve : length c.args.run.nonce ≡ nonce_bytes = c.well_formed.1.1.1.0.1.1.1.0.1.0.1 in
    let a = c.args in
    rw (c.copy.ensures, c.put_run.ensures.1)
    (run-set a.runs.now a.nonces.now a.i c.requires a.run c.put_run.ensures.0
    (omega (arith, c.copy-arg-1.given)) (twelve))
