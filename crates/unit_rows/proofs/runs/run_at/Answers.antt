-- The run's numbers and its nonce bytes. Assumes nothing.
use Prim.Native.Nat.{◌*◌}
use mathlib.Core.Path.{◌≡◌, sym, ap, ◌∙◌}
use native.Mathlib.Omega.{arith}
use lib.ListN.{length, take, drop, length-take, length-drop}
use Rattle.octets.proofs.Numbers.{overwrite-all}
use Rattle.client_run.specs.Run.{nonce_bytes}
use Rattle.unit_rows.specs.Rows.{run_width, run_of}
use Rattle.unit_rows.proofs.Rows.{run-read, number_at}
use Rattle.unit_rows.proofs.runs.run_at.Goals as goal

pub copy-requires : goal.copy-requires
copy-requires c = omega (arith, simp length-take at (ap length c.bytes_at.ensures))

pub returns : goal.returns
returns c =
    let a = c.args in
    let n : length c.bytes_at.result.now ≡ nonce_bytes =
    ap length c.bytes_at.ensures ∙ simp (length-take, length-drop) (omega (arith, c.requires)) in
    rw (
      c.client_at.ensures,
      ← number_at run_width a.i 15 a.runs.now (omega arith),
    )
    (ap (run_of (take run_width (drop (run_width * a.i) a.runs.now)))
    (c.copy.ensures ∙ overwrite-all _ _ (omega (arith, n)) ∙ c.bytes_at.ensures)
    ∙ sym (run-read a.runs.now a.nonces.now a.i c.requires))
