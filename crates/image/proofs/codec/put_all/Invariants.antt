-- `put_all` meets its contract. The loop's invariant: what is left to write is what the answer lacks. Assumes nothing.
use lib.ListN.{length}
use Rattle.octets.specs.Bytes.{overwrite}
use Rattle.image.specs.Walk.{rest}
use Rattle.image.specs.Image.{pack, stores}
use Rattle.image.proofs.Loops.{Putting}
use Rattle.image.proofs.codec.put_all.Given as goal

abbrev pub invariant-loop-entry : goal.invariant-loop-entry
invariant-loop-entry l =
    goal.iterator-loop-entry.can_next l.entry-iterator
    × goal.iterator-loop-entry.is_finite l.entry-iterator
    × Putting (rest l.entry-iterator) l.numbers (stores l.orders l.mailboxes) l.buffer l.k l.n l.at (length l.initial.buffer)
    (overwrite l.initial.buffer 0 (pack (rest l.fn.from) l.numbers (stores l.orders l.mailboxes)))
