-- `fits_all` meets its contract. The loop's invariant: what is left to test is the answer. Assumes nothing.
use Rattle.image.specs.Walk.{rest}
use Rattle.image.specs.Image.{fits}
use Rattle.image.proofs.Loops.{Fitting}
use Rattle.image.proofs.codec.fits_all.Given as goal

abbrev pub invariant-loop-entry : goal.invariant-loop-entry
invariant-loop-entry l =
    goal.iterator-loop-entry.can_next l.entry-iterator
    × goal.iterator-loop-entry.is_finite l.entry-iterator
    × Fitting (rest l.entry-iterator) l.numbers l.k (fits (rest l.fn.from) l.numbers)
