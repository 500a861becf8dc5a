-- The book: "order subscriber type bytes", "in place order"; document 02, card 8: "Book (last columns "signers", a
-- count, and "released", yes or no)".
use Rattle.std.specs.Prelude.{ℕ, ◌+◌, ◌*◌, Bool, true, false, cond, List, [], ◌∷◌, ◌++◌}
use Rattle.bank_state.specs.State.{Bank}
use Rattle.bank_state.specs.declared.state.Place.{Place}
use Rattle.bank_state.specs.Limits.{place_count}
use Rattle.bank_state.specs.Search.{is_booked}
use Rattle.bank_state.specs.State.{place_at}
use Rattle.message.specs.Limits.{ful}
use Rattle.message.specs.OrderNumbers.{order_number_of}
use Rattle.signers.specs.Signers.{signer_count, is_released}
use Rattle.print.specs.Text.{ascii, order_characters, order_number_text, type_column, type_room, space, newline}
use Rattle.print.specs.Text.{column, column_room, rows_to}

-- the names of the columns, and the byte after them: a newline, or a space where more columns follow
abbrev pub book_header : ℕ → List ℕ
book_header end = ascii "order subscriber type bytes signers released" ++ (end ∷ [])

-- "released", yes or no
abbrev pub released_text : Bool → List ℕ
released_text true = ascii "yes"
released_text false = ascii "no"

-- the columns of an order's signers, and the byte after them: "signers", a count, and "released"
unfoldable pub signer_columns : ℕ → ℕ → List ℕ
signer_columns set end = column (signer_count set) space ++ (released_text (is_released set) ++ (end ∷ []))

-- the columns of an order of so many bytes, and the byte after them; an order in the book is of the type of uploads
unfoldable pub order_columns : Place → ℕ → ℕ → List ℕ
order_columns p bytes end =
    order_number_text (order_number_of p.number)
    ++ (space ∷ column p.subscriber space
    ++ (type_column ful ++ (column bytes space ++ signer_columns p.signers end)))

-- the line of a place; one that holds no booked order has none
unfoldable pub order_line : Place → List ℕ
order_line p = cond (is_booked p.used) (order_columns p p.length newline) []

-- "the book follows in place order"
abbrev pub line_at : Bank → ℕ → List ℕ
line_at b i = order_line (place_at b i)

unfoldable pub book_of : Bank → List ℕ
book_of b = book_header newline ++ rows_to (line_at b) place_count

-- the most bytes of the columns' names with the byte after them, of "yes or no", of an order's last two columns, of all
-- its columns, and of the book
abbrev pub book_header_room : ℕ
book_header_room = 44 + 1

abbrev pub released_room : ℕ
released_room = 3

abbrev pub signer_columns_room : ℕ
signer_columns_room = column_room + released_room + 1

abbrev pub order_columns_room : ℕ
order_columns_room = order_characters + 1 + column_room + type_room + column_room + signer_columns_room

abbrev pub book_room : ℕ
book_room = book_header_room + place_count * order_columns_room
