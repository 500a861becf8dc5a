-- `number` meets its contract: one byte more at a time.
use Rattle.std.proofs.Common.{ℕ, ◌+◌, ◌*◌, ap, sym, ◌∙◌, take, arith}
use Rattle.octets.specs.Bytes.{number}
use Rattle.octets.proofs.Numbers.{number-nil, number-take, byte_more, seven-bytes}
use Rattle.octets.proofs.bytes.number.Goals as goal

pub loop-b-init : goal.loop-b-init
loop-b-init c = (sym number-nil, omega arith)

pub overflow_mul-x : goal.overflow_mul-x
overflow_mul-x c = omega (arith, seven-bytes c.loop-b.b-index (omega arith))

pub overflow_add-x : goal.overflow_add-x
overflow_add-x c =
    let l = c.loop-b in
    omega (arith, seven-bytes l.b-index (omega arith), c.type_inv.s l.b-index)

pub loop-b-preserved : goal.loop-b-preserved
loop-b-preserved c =
    let l = c.loop-b in
    let s = c.args.s.now in (
      ap (λ (y : ℕ). y * 256 + c.from.result) l.invariant.0
          ∙ ap (λ (b : ℕ). number (take l.b-index s) * 256 + b) c.from.ensures
          ∙ sym (number-take s l.b-index (omega arith)),
      byte_more l.b-index l.x c.from.result l.invariant.1 (omega (arith, c.type_inv.s l.b-index)),
    )
