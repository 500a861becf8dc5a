-- `frame_length` meets its contract. The loop's invariant: the fields passed are writable, `length` their bytes. Assumes nothing.
use Rattle.std.proofs.Common.{◌≡◌, ◌+◌, ◌-◌, ◌*◌, ◌≤◌, length}
use Rattle.frame_table.specs.Table.{tag_count}
use Rattle.frame_writer.specs.Writer.{frame_of, fields_writable}
use Rattle.frame_writer.proofs.Loops.{rest_from}
use Rattle.frame_writer.proofs.writer.frame_length.Given as goal

abbrev pub invariant-loop-tag : goal.invariant-loop-tag
invariant-loop-tag l =
    (fields_writable tag_count 0 l.fields l.data ≡ fields_writable (tag_count - l.tag) l.tag l.fields l.data)
    × (l.length + length (rest_from l.fields l.data l.tag) ≡ length (frame_of l.fields l.data)) × (l.length ≤ l.tag * 1027)
