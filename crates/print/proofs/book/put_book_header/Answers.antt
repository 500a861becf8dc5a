-- The names, then the byte after them. Assumes nothing.
use Rattle.print.proofs.Texts.{put_then}
use Rattle.print.proofs.book.put_book_header.Goals as goal

pub returns : goal.returns
returns c =
    put_then c.put_text-a.ensures c.put_byte.ensures
