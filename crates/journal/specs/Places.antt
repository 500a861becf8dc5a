-- How `enter` goes through the row: the places that change, from the first to the last.
use Rattle.std.specs.Prelude.{ℕ, ◌+◌, ◌-◌, cond, ltb, leb}
use Rattle.journal.specs.declared.places.Places.{Places}
use Rattle.journal.specs.Events.{record_count, count_of}
use Rattle.journal.specs.Row.{takes_events}

-- how many records are in use after n events
unfoldable pub used_after : ℕ → ℕ
used_after n = cond (ltb n record_count) n record_count

-- how many events are entered
unfoldable pub entered_count : ℕ → ℕ → ℕ → ℕ
entered_count records n count = cond (takes_events records n) (count_of count) 0

-- u records in use, and then events as far as `end`: where there is no room for all, the records move up
unfoldable pub places_for : ℕ → ℕ → Places
places_for u end = cond (leb end record_count)
    (record { by = 0; first = u; start = u; end = end })
    (record { by = end - record_count; first = 0; start = u - (end - record_count); end = record_count })

-- the places that change in a row of so many records, where `count` events more are entered after n others
unfoldable pub places_of : ℕ → ℕ → ℕ → Places
places_of records n count = places_for (used_after n) (used_after n + entered_count records n count)
