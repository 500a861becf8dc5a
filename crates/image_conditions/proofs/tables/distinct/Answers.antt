-- Two that do not differ are found, and else all differ. Assumes nothing.
use Rattle.std.proofs.Common.{arith, sym, ◌∙◌, ◌<◌, true}
use borrow.Author.Tests.{not-true}
use Rattle.image_records.proofs.General.{distinct_from}
use Rattle.image_conditions.proofs.Loops.{some-same}
use Rattle.image_conditions.proofs.tables.distinct.Goals as goal

pub returns-then-not-differ : goal.returns-then-not-differ
returns-then-not-differ g c same each =
    let i = c.loop-i.i in
    let j = c.loop-j.j in
    let e = each i j c.differ.result (omega arith) (omega arith) c.differ.ensures in
    sym (some-same same c.args.n i j (omega arith) (omega arith) (sym e ∙ c.if-not-differ.true))

pub returns : goal.returns
returns g c same each =
    sym
    (distinct_from same c.args.n
    (λ i j below less.
    let done : i < c.loop-i.i = omega arith in
    not-true (same i j) (sym (each i j true below less (c.loop-i.invariant i j done less)))))
