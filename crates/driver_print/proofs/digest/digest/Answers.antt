-- The loop's invariant: x is the digest of the first bytes. Assumes nothing.
use mathlib.Core.Path.{sym, ap, ◌∙◌}
use Prim.Native.Nat.{ℕ, ◌+◌, ◌*◌, ◌%◌}
use borrow.Author.Rules.{rules}
use lib.ListN.{take}
use lib.Seq.{take_all}
use Rattle.driver_print.specs.Line.{digest}
use Rattle.driver_print.proofs.Texts.{digest-nil, digest-next}
use Rattle.driver_print.proofs.digest.digest.Goals as goal

pub loop-b-init : goal.loop-b-init
loop-b-init c = (sym digest-nil, search rules)

pub loop-b-preserved : goal.loop-b-preserved
loop-b-preserved c =
    let s = c.args.bytes.now in (
      ap (λ (y : ℕ). (y * 256 + c.from.result) % 4294967291) c.loop-b.invariant.0
          ∙ ap (λ (b : ℕ). (digest (take c.loop-b.b-index s) * 256 + b) % 4294967291) c.from.ensures
          ∙ sym (digest-next s c.loop-b.b-index (search rules)),
      search rules,
    )

pub returns : goal.returns
returns c =
    c.loop-b.invariant.0 ∙ ap digest (take_all c.loop-b.b-index c.args.bytes.now (search rules))
