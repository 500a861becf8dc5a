-- "`lodged 1 FUL A000` in place of `lodged A000`", "`not lodged`, `unclear`, `fetched`, `held, unconfirmed` or `not
-- fetched`"
use Rattle.std.specs.Prelude.{ℕ, ◌+◌, List, ◌∷◌, ◌++◌}
use Rattle.journal.specs.declared.event.OrderName.{OrderName}
use Rattle.client_run.specs.declared.run.Word.{Word}
use Rattle.client_run.specs.declared.run.Word.TheVariants.{Lodged, NotLodged, Unclear, Fetched, HeldUnconfirmed}
use Rattle.client_run.specs.declared.run.Word.TheVariants.{NotFetched}
use Rattle.client_run.specs.Run.{word_text}
use Rattle.print.specs.Text.{space}
use Rattle.print.specs.Name.{order_name_text, order_name_room}

-- a closing word; the one of a lodged order "names subscriber, type and number together"
abbrev pub closing_text : Word → OrderName → List ℕ
closing_text Lodged o = word_text Lodged ++ (space ∷ order_name_text o)
closing_text NotLodged o = word_text NotLodged
closing_text Unclear o = word_text Unclear
closing_text Fetched o = word_text Fetched
closing_text HeldUnconfirmed o = word_text HeldUnconfirmed
closing_text NotFetched o = word_text NotFetched

-- the most bytes that it takes: "lodged" with its order is the longest
abbrev pub closing_room : ℕ
closing_room = 7 + order_name_room
