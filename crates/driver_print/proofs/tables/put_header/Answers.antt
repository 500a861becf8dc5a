-- Table by table; the book's header goes on with its last column. Assumes nothing.
use Rattle.print.proofs.Texts.{put_then}
use Rattle.driver_print.proofs.tables.put_header.Goals as goal

pub returns-in-Book : goal.returns-in-Book
returns-in-Book c =
    rw c.in-Book.is
    (put_then c.put_book_header-a.ensures c.put_text.ensures)

pub returns-in-Mailboxes : goal.returns-in-Mailboxes
returns-in-Mailboxes c = rw c.in-Mailboxes.is c.put_text-in-Mailboxes.ensures

pub returns-in-Words : goal.returns-in-Words
returns-in-Words c = rw c.in-Words.is c.put_text-in-Words.ensures

pub returns-in-Files : goal.returns-in-Files
returns-in-Files c = rw c.in-Files.is c.put_text-in-Files.ensures

pub returns-in-Journal : goal.returns-in-Journal
returns-in-Journal c = rw c.in-Journal.is c.put_text-in-Journal.ensures
