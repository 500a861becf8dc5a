-- The header, then the lines. Assumes nothing.
use native.Mathlib.Omega.{arith}
use Rattle.print.specs.Book.{book_of, book_room}
use Rattle.print.proofs.Texts.{put-length, put_then, printed-put, printed-none}
use Rattle.print.proofs.book.book.Goals as goal

pub returns-then-output-lt-BOOK_ROOM : goal.returns-then-output-lt-BOOK_ROOM
returns-then-output-lt-BOOK_ROOM c = printed-none _ _ _ c.if-output-lt-BOOK_ROOM.true

pub put_orders-requires : goal.put_orders-requires
put_orders-requires c =
    omega (arith, c.put_book_header-at.ensures.place, put-length c.put_book_header-at.ensures, c.if-output-lt-BOOK_ROOM.false)

pub returns : goal.returns
unfolding book_of
returns c =
    printed-put book_room c.if-output-lt-BOOK_ROOM.false (put_then c.put_book_header-at.ensures c.put_orders.ensures)
