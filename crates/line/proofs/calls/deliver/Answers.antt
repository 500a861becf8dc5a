-- With none held the copies come out alone.
use borrow.Author.Rules.{rules}
use Rattle.line.proofs.Carrying.{none-released, one-released}
use Rattle.line.proofs.calls.deliver.Goals as goal

pub returns-then-row-eq0 : goal.returns-then-row-eq0
returns-then-row-eq0 c =
    let a = c.args in
    let p = c.requires in
    none-released a.row.now a.store.now p.0 p.1 a.out.now a.copies c.if-row-eq0.true

pub release-n-requires : goal.release-n-requires
release-n-requires c =
    let p = c.requires in
    (p.0, search rules, p.1, p.2)

pub returns : goal.returns
returns c =
    let a = c.args in
    let p = c.requires in
    one-released a.row.now a.store.now p.0 p.1 a.out.now _ _ _ a.copies _ (search rules) c.release-n.ensures
