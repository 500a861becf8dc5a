-- `nonce_of` meets its contract: the record's nonce bytes over as many. Assumes nothing.
use native.Mathlib.Omega.{arith}
use mathlib.Core.Path.{◌≡◌, ap, ◌∙◌}
use lib.ListN.{length, length-take, length-drop}
use Rattle.octets.proofs.Numbers.{overwrite-all}
use Rattle.client_run.specs.Run.{nonce_bytes}
use Rattle.unit.proofs.call.nonce_of.Goals as goal

pub copy-requires : goal.copy-requires
copy-requires c = omega (arith, simp length-take at (ap length c.bytes_at.ensures))

pub returns : goal.returns
returns c =
    let n : length c.bytes_at.result.now ≡ nonce_bytes =
    ap length c.bytes_at.ensures ∙ simp (length-take, length-drop) (omega (arith, c.requires)) in
    c.copy.ensures ∙ overwrite-all _ _ (omega (arith, n)) ∙ c.bytes_at.ensures
