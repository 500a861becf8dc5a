-- How long a day, an order's name, a closing word, an order's line, and the seven counts are at most. Assumes nothing.
use Prim.Native.Nat.{ℕ, ◌≤◌}
use mathlib.Core.Bool.{Bool, true, false}
use mathlib.Core.List.{[], ◌∷◌, ◌++◌}
use native.Mathlib.Omega.{arith}
use lib.ListN.{length, length-append}
use Rattle.calendar.specs.declared.dates.Date.{Date}
use Rattle.journal.specs.declared.event.OrderName.{OrderName}
use Rattle.client_run.specs.declared.run.Word.{Word}
use Rattle.client_run.specs.declared.run.Word.TheVariants.{Lodged, NotLodged, Unclear, Fetched, HeldUnconfirmed, NotFetched}
use Rattle.bank_state.specs.declared.state.Place.{Place}
use Rattle.bank_state.specs.Search.{is_booked}
use Rattle.message.specs.Limits.{ful}
use Rattle.message.specs.OrderNumbers.{order_number_of}
use Rattle.signers.specs.Signers.{signer_count, is_released}
use Rattle.opening_counts.specs.declared.seven.Counts.{Counts}
use Rattle.print.specs.Text.{hyphen, order_characters, order_number_text, type_column, space, newline, decimal, column}
use Rattle.print.proofs.Digits.{length-digits_in, decimal-most, type-column-most, column-most}
use Rattle.print.proofs.Texts.{cond-most}
use Rattle.print.specs.Day.{last_digits, day_text, day_room}
use Rattle.print.specs.Name.{order_name_text, order_name_room}
use Rattle.print.specs.Closing.{closing_text, closing_room}
use Rattle.print.specs.Book.{released_text, released_room, signer_columns, signer_columns_room}
use Rattle.print.specs.Book.{order_columns, order_columns_room, order_line}
use Rattle.print.specs.Seven.{counts_text, counts_room}

pub day-most : (d : Date) → length (day_text d) ≤ day_room
unfolding day_text
day-most d =
    let day = hyphen ∷ last_digits 2 d.day in
    omega (
      arith,
      length-append (last_digits 4 d.year) (hyphen ∷ (last_digits 2 d.month ++ day)),
      length-append (last_digits 2 d.month) day,
      length-digits_in 10 48 4 d.year,
      length-digits_in 10 48 2 d.month,
      length-digits_in 10 48 2 d.day,
    )

pub order-name-most : (o : OrderName) → length (order_name_text o) ≤ order_name_room
unfolding order_name_text
order-name-most o =
    let subscriber = column o.subscriber space in
    let rest = type_column o.order_type ++ order_number_text o.number in
    omega (
      arith,
      length-append subscriber rest,
      length-append (type_column o.order_type) (order_number_text o.number),
      column-most o.subscriber space,
      type-column-most o.order_type,
      length-digits_in 256 0 order_characters o.number,
    )

pub closing-most : (w : Word) (o : OrderName) → length (closing_text w o) ≤ closing_room
closing-most Lodged o = omega (arith, order-name-most o)
closing-most NotLodged o = omega arith
closing-most Unclear o = omega arith
closing-most Fetched o = omega arith
closing-most HeldUnconfirmed o = omega arith
closing-most NotFetched o = omega arith

pub released-most : (t : Bool) → length (released_text t) ≤ released_room
released-most true = omega arith
released-most false = omega arith

pub signers-most : (set end : ℕ) → length (signer_columns set end) ≤ signer_columns_room
unfolding signer_columns
signers-most set end =
    let released = released_text (is_released set) in
    omega (
      arith,
      length-append (column (signer_count set) space) (released ++ (end ∷ [])),
      length-append released (end ∷ []),
      column-most (signer_count set) space,
      released-most (is_released set),
    )

pub columns-most : (p : Place) (bytes end : ℕ) → length (order_columns p bytes end) ≤ order_columns_room
unfolding order_columns
columns-most p bytes end =
    let number = order_number_of p.number in
    let subscriber = column p.subscriber space in
    let signed = column bytes space ++ signer_columns p.signers end in
    omega (
      arith,
      length-append (order_number_text number) (space ∷ subscriber ++ (type_column ful ++ signed)),
      length-append subscriber (type_column ful ++ signed),
      length-append (type_column ful) signed,
      length-append (column bytes space) (signer_columns p.signers end),
      length-digits_in 256 0 order_characters number,
      column-most p.subscriber space,
      type-column-most ful,
      column-most bytes space,
      signers-most p.signers end,
    )

pub order-most : (p : Place) → length (order_line p) ≤ order_columns_room
unfolding order_line
order-most p =
    cond-most (is_booked p.used) (order_columns p p.length newline) [] order_columns_room (columns-most p p.length newline)
    (omega arith)

pub counts-most : (c : Counts) → length (counts_text c) ≤ counts_room
unfolding counts_text
counts-most c =
    let five = column c.cancelled space ++ decimal c.dropped in
    let four = column c.ended space ++ five in
    let three = column c.skipped space ++ four in
    let two = column c.fetched space ++ three in
    let one = column c.booked space ++ two in
    omega (
      arith,
      length-append (column c.pending space) one,
      length-append (column c.booked space) two,
      length-append (column c.fetched space) three,
      length-append (column c.skipped space) four,
      length-append (column c.ended space) five,
      length-append (column c.cancelled space) (decimal c.dropped),
      column-most c.pending space,
      column-most c.booked space,
      column-most c.fetched space,
      column-most c.skipped space,
      column-most c.ended space,
      column-most c.cancelled space,
      decimal-most c.dropped,
    )
