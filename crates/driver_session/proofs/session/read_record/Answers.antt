-- `read_record` is safe: a head and a length of two bytes. Assumes nothing.
use native.Mathlib.Omega.{arith}
use Rattle.unit_state.proofs.Parts.{size_of-most, head-within}
use Rattle.driver_session.proofs.session.read_record.Goals as goal

pub overflow_add-end : goal.overflow_add-end
overflow_add-end g c =
    let kind = c.kind_of-kind.result in
    let size = size_of-most kind c.read_part-2.new.input (λ i. omega (arith, c.slice_known-3-1.given i)) in
    omega (arith, c.size_of.ensures, size, c.head_of-head.ensures, head-within kind)
