-- `fits_width` meets its contract: every number has eight bytes at most; else the shift gives the bound. Assumes nothing.
use Prim.Native.Nat.{ℕ}
use mathlib.Core.Path.{sym, ap, ◌∙◌}
use native.Mathlib.Omega.{arith}
use lib.Dec.{ltb}
use borrow.Author.Tests.{lt-ltb, le-leb}
use Rattle.image.proofs.Bytes.{eight-bytes, shifted-bound}
use Rattle.image.proofs.numbers.fits_width.Goals as goal

pub returns-then-w-ge8 : goal.returns-then-w-ge8
returns-then-w-ge8 c =
    le-leb 8 c.args.w c.if-w-ge8.true ∙ sym (lt-ltb _ _ (eight-bytes c.args.w c.args.x c.if-w-ge8.true (omega arith)))

pub returns-else-w-ge8 : goal.returns-else-w-ge8
returns-else-w-ge8 c = ap (λ (n : ℕ). ltb c.args.x n) (shifted-bound c.args.w c.if-w-ge8.false)
