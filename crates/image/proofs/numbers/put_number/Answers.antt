-- `put_number` meets its contract. The loop's invariant: the first i bytes of the rest are left to write. Assumes nothing.
use Prim.Native.Nat.{ℕ, ◌-◌}
use mathlib.Core.Path.{◌≡◌, sym, ap, ◌∙◌}
use native.Mathlib.Omega.{arith}
use Rattle.octets.specs.Bytes.{bytes_of, overwrite}
use Rattle.octets.proofs.Numbers.{overwrite-nil}
use Rattle.image.proofs.Bytes.{bytes_of-turn}
use Rattle.image.proofs.numbers.put_number.Goals as goal

pub loop-i-preserved : goal.loop-i-preserved
loop-i-preserved c =
    let l = c.loop-i in
    l.invariant ∙ bytes_of-turn l.out c.args.at l.i (l.i - 1) l.rest (omega arith) (omega arith)

pub returns : goal.returns
unfolding bytes_of
returns c =
    let l = c.loop-i in
    let e : l.i ≡ 0 = omega arith in
    sym (l.invariant ∙ ap (λ (n : ℕ). overwrite l.out c.args.at (bytes_of n l.rest)) e ∙ overwrite-nil l.out c.args.at)
