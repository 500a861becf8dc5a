-- `next` meets its contract: the step tells the item and the place behind it. Assumes nothing.
use mathlib.Core.Path.{sym}
use borrow.Author.Rules.{rules}
use Rattle.image.proofs.Walking.{step-head, step_part, step-narrow, step-store, step-done, shorter}
use Rattle.image.proofs.walk.CursorIterator.next.Goals as goal

pub returns-in-Head : goal.returns-in-Head
returns-in-Head c =
    let e = step-head c.next.ensures c.in-Head.is in
    let less = shorter e in
    record { steps = (sym e, tt); goes = search (rules, less) }

pub returns-in-Part : goal.returns-in-Part
returns-in-Part c =
    let e = step_part c.next.ensures c.in-Part.is in
    let less = shorter e in
    record { steps = (sym e, step-narrow c.next.ensures c.in-Part.is); goes = search (rules, less) }

pub returns-in-Store : goal.returns-in-Store
returns-in-Store c =
    let e = step-store c.next.ensures c.in-Store.is in
    let less = shorter e in
    record { steps = (sym e, tt); goes = search (rules, less) }

pub returns-in-Done : goal.returns-in-Done
returns-in-Done c =
    let e = sym (step-done c.next.ensures c.in-Done.is) in
    record { steps = ((e, e), tt); goes = search rules }
