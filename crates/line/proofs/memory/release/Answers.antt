-- The first bytes are copied out, the others close up, and so do their lengths.
use mathlib.Core.List.{List}
use mathlib.Core.Path.{sym, ap, ◌∙◌}
use Prim.Native.Nat.{ℕ, ◌-◌}
use native.Mathlib.Omega.{arith}
use lib.ListN.{length, get_or, take, drop, set}
use lib.Seq.{length-take-le}
use Rattle.octets.specs.Bytes.{overwrite}
use Rattle.line.specs.Memory.{lengths_at, count_of}
use Rattle.line.proofs.Rows.{held-within, first-within, oldest-is, row-release, store-release}
use Rattle.line.proofs.memory.release.Goals as goal

pub bytes_held-end-requires : goal.bytes_held-end-requires
bytes_held-end-requires c = c.requires.0

pub slice_bounds-copy-end : goal.slice_bounds-copy-end
slice_bounds-copy-end c =
    omega (arith, first-within c.args.row.now c.requires.0 c.requires.1)

pub slice_bounds-copy-end-2 : goal.slice_bounds-copy-end-2
slice_bounds-copy-end-2 c =
    let f = first-within c.args.row.now c.requires.0 c.requires.1 in
    sym (length-take-le _ _ (omega arith))

pub copy-requires : goal.copy-requires
copy-requires c =
    let f = first-within c.args.row.now c.requires.0 c.requires.1 in
    let e = length-take-le (get_or c.args.row.now lengths_at 0) c.args.store.now (omega arith) in
    omega arith

pub close_up-requires : goal.close_up-requires
close_up-requires c =
    let f = first-within c.args.row.now c.requires.0 c.requires.1 in
    omega (arith, held-within c.args.row.now c.requires.0, c.bytes_held-end.ensures)

pub returns : goal.returns
returns c =
    let row = c.args.row.now in
    let store = c.args.store.now in
    let p = c.requires in
    let n = get_or row lengths_at 0 in
    let o = oldest-is row p.0 store p.2 p.1 in
    let f = first-within row p.0 p.1 in
    let w = held-within row p.0 in
    record {
      long = sym (ap length o ∙ length-take-le n store (omega arith));
      row =
          ap (λ (r : List ℕ). set r 1 (count_of row - 1)) c.drop_length.ensures
          ∙ row-release row p.0 store p.2 p.1;
      bytes =
          c.close_up.ensures
          ∙ ap (λ (i : ℕ). overwrite store 0 (take (i - n) (drop n store))) c.bytes_held-end.ensures
          ∙ store-release row p.0 store p.2 p.1;
      buffer = c.copy.ensures ∙ ap (overwrite c.args.out.now 0) (sym o);
    }
