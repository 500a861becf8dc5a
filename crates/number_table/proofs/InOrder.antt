-- The papers count their rows from 1 on, so a row's place in the list says its number: by computation.
use mathlib.Core.Path.{◌≡◌, refl}
use lib.ListN.{length}
use Rattle.number_table.specs.Table.{table, counted_from}

pub numbers-in-order : table ≡ counted_from 1 (length table)
unfolding counted_from
numbers-in-order = refl
