-- `fits_all` meets its contract. The loop's invariant: what is left to test is the answer. Assumes nothing.
use mathlib.Core.Path.{sym, ◌∙◌}
use native.Mathlib.Omega.{arith}
use Rattle.image.proofs.Walking.{walked-part, parts-part}
use Rattle.image.proofs.Loops.{fitting-no, fitting-part, fitting-other, fitting-end}
use borrow.Author.Rules.{rules}
use Rattle.image.proofs.codec.fits_all.Goals as goal

pub bounds-numbers-k : goal.bounds-numbers-k
bounds-numbers-k c =
    let e = walked-part _ c.in-Some.ensures.steps.0 c.in-Part.is in
    omega (arith, c.loop-entry.invariant.2.room, parts-part e)

pub returns-then-not-fits_width : goal.returns-then-not-fits_width
returns-then-not-fits_width c =
    fitting-no c.loop-entry.invariant.2 (walked-part _ c.in-Some.ensures.steps.0 c.in-Part.is) (sym c.fits_width.ensures ∙ c.if-not-fits_width.true)

pub loop-entry-preserved-in-Part : goal.loop-entry-preserved-in-Part
loop-entry-preserved-in-Part c = (
  search rules,
  search rules,
  fitting-part c.loop-entry.invariant.2 (walked-part _ c.in-Some.ensures.steps.0 c.in-Part.is) (sym c.fits_width.ensures ∙ c.if-not-fits_width.false),
)

pub loop-entry-preserved : goal.loop-entry-preserved
loop-entry-preserved c = (
  search rules,
  search rules,
  fitting-other c.loop-entry.invariant.2 c.in-Some.entry c.in-Some.ensures.steps.0 c.in_default.not-Part,
)

pub returns : goal.returns
returns c = fitting-end c.loop-entry.invariant.2 (sym c.in-None.ensures.steps.0.0)
