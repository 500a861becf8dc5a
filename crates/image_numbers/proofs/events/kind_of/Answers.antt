-- `kind_of` meets its contract, number by number. Assumes nothing.
use mathlib.Core.Path.{sym, ap}
use Rattle.image_numbers.specs.Numbers.{kind_of}
use Rattle.image_numbers.proofs.Journal.{kind-else}
use Rattle.image_numbers.proofs.events.kind_of.Goals as goal

pub returns-in-0 : goal.returns-in-0
returns-in-0 c = ap kind_of (sym c.in-0.is)

pub returns-in-1 : goal.returns-in-1
returns-in-1 c = ap kind_of (sym c.in-1.is)

pub returns-in-2 : goal.returns-in-2
returns-in-2 c = ap kind_of (sym c.in-2.is)

pub returns-in-3 : goal.returns-in-3
returns-in-3 c = ap kind_of (sym c.in-3.is)

pub returns-in-4 : goal.returns-in-4
returns-in-4 c = ap kind_of (sym c.in-4.is)

pub returns-in_default : goal.returns-in_default
returns-in_default c =
    let r = c.in_default.in_default-own.rest in
    kind-else _ r.0.0.0.0.1 r.0.0.0.1 r.0.0.1 r.0.1 r.1
