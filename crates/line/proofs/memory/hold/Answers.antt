-- The message goes after the bytes held, and its length after theirs.
use mathlib.Core.Path.{ap, ◌∙◌}
use Prim.Native.Nat.{ℕ}
use native.Mathlib.Omega.{arith}
use lib.ListN.{length-set}
use Rattle.octets.specs.Bytes.{overwrite}
use Rattle.line.proofs.Rows.{held_fits, row-hold, store-hold}
use Rattle.line.proofs.memory.hold.Goals as goal

pub bytes_held-end-requires : goal.bytes_held-end-requires
bytes_held-end-requires c = c.requires.0

pub copy-requires : goal.copy-requires
copy-requires c =
    let p = c.requires in
    omega (arith, held_fits c.args.row.now p.0 p.1, c.bytes_held-end.ensures)

pub bounds-row-1-2 : goal.bounds-row-1-2
bounds-row-1-2 c = simp length-set (omega (arith, c.requires.0.long))

pub returns : goal.returns
returns c =
    let row = c.args.row.now in
    let store = c.args.store.now in
    let m = c.args.message.now in
    let p = c.requires in (
      row-hold row p.0 store p.2 m p.1,
      c.copy.ensures
          ∙ ap (λ (i : ℕ). overwrite store i m) c.bytes_held-end.ensures ∙ store-hold row p.0 store p.2 m p.1 p.3,
    )
