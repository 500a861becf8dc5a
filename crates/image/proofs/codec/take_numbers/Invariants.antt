-- `take_numbers` meets its contract. The loop's invariant: what is left to read is what the answer lacks. Assumes nothing.
use lib.ListN.{length}
use Rattle.image.specs.Walk.{rest}
use Rattle.image.specs.Image.{numbers_of}
use Rattle.image.proofs.Reading.{Taking}
use Rattle.image.proofs.codec.take_numbers.Given as goal

abbrev pub invariant-loop-entry : goal.invariant-loop-entry
invariant-loop-entry l =
    goal.iterator-loop-entry.can_next l.entry-iterator
    × goal.iterator-loop-entry.is_finite l.entry-iterator
    × Taking (rest l.entry-iterator) l.image l.numbers l.at l.k (length l.initial.numbers) (numbers_of (rest l.fn.from) l.image)
