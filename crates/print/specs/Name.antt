-- The name of an order: "subscriber, type and number together", as in `1 FUL A000`.
use Rattle.std.specs.Prelude.{ℕ, ◌+◌, List, ◌++◌}
use Rattle.journal.specs.declared.event.OrderName.{OrderName}
use Rattle.print.specs.Text.{order_characters, order_number_text, space, type_column, type_room, column, column_room}

unfoldable pub order_name_text : OrderName → List ℕ
order_name_text o = column o.subscriber space ++ (type_column o.order_type ++ order_number_text o.number)

-- the most bytes that it takes
abbrev pub order_name_room : ℕ
order_name_room = column_room + type_room + order_characters
