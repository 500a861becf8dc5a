-- `copy` meets its contract: the first i bytes are copied.
use mathlib.Core.List.{List}
use native.Mathlib.Numerals.{add-one}
use Rattle.octets.proofs.Numbers.{overwrite-paste}
use lib.ListN.{get_or, set, length-set}
use mathlib.Core.Path.{◌≡◌, refl, sym, ap, ◌∙◌}
use Prim.Native.Nat.{ℕ, ◌+◌}
use native.Mathlib.Omega.{arith}
use borrow.Author.Rules.{rules}
use lib.ListN.{length}
use lib.Seq.{paste, paste-zero, paste-suc}
use Rattle.octets.proofs.bytes.copy.Goals as goal

pub loop-i-init : goal.loop-i-init
loop-i-init c = (paste-zero c.args.dst.now c.args.at c.args.src.now, refl)

pub loop-i-preserved : goal.loop-i-preserved
loop-i-preserved c =
    let l = c.loop-i in
    let a = c.args in (
      ap (λ (d : List ℕ). set d (a.at + l.i) (get_or a.src.now l.i 0)) l.invariant.0
          ∙ paste-suc a.dst.now a.at a.src.now l.i 0 (omega arith) (omega arith)
          ∙ ap (paste a.dst.now a.at a.src.now) (sym (add-one l.i)),
      simp length-set (search rules),
    )

pub returns : goal.returns
returns c =
    let l = c.loop-i in
    let a = c.args in
    let e : l.i ≡ length a.src.now = omega arith in
    l.invariant.0 ∙ ap (paste a.dst.now a.at a.src.now) e ∙ overwrite-paste a.dst.now a.at a.src.now
