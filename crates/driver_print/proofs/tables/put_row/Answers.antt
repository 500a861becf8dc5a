-- Table by table: each row by its own function, on what the unit and the stores have for it. Assumes nothing.
use Prim.Native.Nat.{◌<◌}
use mathlib.Core.Path.{◌≡◌}
use native.Mathlib.Omega.{arith}
use lib.ListN.{length}
use Rattle.journal.specs.Events.{record_count}
use Rattle.bank_state.specs.Limits.{place_count}
use Rattle.unit_state.specs.Records.{run_count}
use Rattle.driver_print.proofs.Texts.{count_most, file-fits, word_of, file-of}
use borrow.Author.Rules.{rules}
use Rattle.driver_print.proofs.tables.put_row.Goals as goal

pub overflow_add-n : goal.overflow_add-n
overflow_add-n c =
    omega (arith, c.requires.1, count_most c.args.t)

pub place_at-p-requires : goal.place_at-p-requires
place_at-p-requires c =
    let place-below : c.args.i < place_count = rw c.in-Book.is at c.requires.1 in
    (search rules, place-below)

pub put_order-requires : goal.put_order-requires
put_order-requires c = (rw c.in-Book.is at c.requires.0, rw c.file_of.ensures (file-fits _ _ _))

pub file_length-length-requires : goal.file_length-length-requires
file_length-length-requires c =
    let mailbox-below : c.args.i < place_count = rw c.in-Mailboxes.is at c.requires.1 in
    (search rules, mailbox-below)

pub put_file-requires : goal.put_file-requires
put_file-requires c = (rw c.in-Mailboxes.is at c.requires.0, rw c.file_of-in-Mailboxes.ensures (file-fits _ _ _))

pub offset_bounds-shown-i : goal.offset_bounds-shown-i
offset_bounds-shown-i c =
    let run-below : c.args.i < run_count = rw c.in-Words.is at c.requires.1 in
    omega (arith, run-below)

pub bounds-shown-i : goal.bounds-shown-i
bounds-shown-i c =
    let run-below : c.args.i < run_count = rw c.in-Words.is at c.requires.1 in
    omega (arith, run-below)

pub put_word-requires : goal.put_word-requires
put_word-requires c = rw c.in-Words.is at c.requires.0

pub offset_bounds-shown-i-in-Files : goal.offset_bounds-shown-i-in-Files
offset_bounds-shown-i-in-Files c =
    let run-below-2 : c.args.i < run_count = rw c.in-Files.is at c.requires.1 in
    omega (arith, run-below-2)

pub bounds-shown-i-in-Files : goal.bounds-shown-i-in-Files
bounds-shown-i-in-Files c =
    let run-below-2 : c.args.i < run_count = rw c.in-Files.is at c.requires.1 in
    omega (arith, run-below-2)

pub put_file-requires-in-Files : goal.put_file-requires-in-Files
put_file-requires-in-Files c = (rw c.in-Files.is at c.requires.0, rw c.file_of-in-Files.ensures (file-fits _ _ _))

pub offset_bounds-shown-i-in-Journal : goal.offset_bounds-shown-i-in-Journal
offset_bounds-shown-i-in-Journal c =
    let record-below : c.args.i < record_count = rw c.in-Journal.is at c.requires.1 in
    omega (arith, record-below)

pub bounds-shown-i-in-Journal : goal.bounds-shown-i-in-Journal
bounds-shown-i-in-Journal c =
    let record-below : c.args.i < record_count = rw c.in-Journal.is at c.requires.1 in
    omega (arith, record-below)

pub put_event-requires : goal.put_event-requires
put_event-requires c = rw c.in-Journal.is at c.requires.0

pub returns-in-Book : goal.returns-in-Book
returns-in-Book c =
    rw (c.in-Book.is, ← c.place_at-p.ensures)
    (rw c.file_of.ensures at c.put_order.ensures)

pub returns-in-Mailboxes : goal.returns-in-Mailboxes
returns-in-Mailboxes c =
    rw (c.in-Mailboxes.is, ← c.file_length-length.ensures)
    (rw c.file_of-in-Mailboxes.ensures at c.put_file.ensures)

pub returns-in-Words : goal.returns-in-Words
returns-in-Words c =
    let run-below : c.args.i < run_count = rw c.in-Words.is at c.requires.1 in
    let sixteen : length c.args.shown.now.unit.runs ≡ run_count = search rules in
    let h : c.args.i < length c.args.shown.now.unit.runs = omega (arith, run-below, sixteen) in
    rw c.in-Words.is (word_of c.args.shown.now.unit.runs c.args.i _ h c.put_word.ensures)

pub returns-in-Files : goal.returns-in-Files
returns-in-Files c =
    let run-below-2 : c.args.i < run_count = rw c.in-Files.is at c.requires.1 in
    let sixteen : length c.args.shown.now.unit.runs ≡ run_count = search rules in
    let h : c.args.i < length c.args.shown.now.unit.runs = omega (arith, run-below-2, sixteen) in
    rw c.in-Files.is
    (file-of c.args.shown.now.unit.runs c.args.i _ h c.args.shown.now.files.now
    (rw (c.file_of-in-Files.ensures, c.held_by.ensures) at c.put_file-in-Files.ensures))

pub returns-in-Journal : goal.returns-in-Journal
returns-in-Journal c = rw c.in-Journal.is c.put_event.ensures
