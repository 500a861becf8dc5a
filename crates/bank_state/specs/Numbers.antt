-- Card 11, "The bank's own numbering ... skips numbers held by that subscriber's open or booked uploads".
use Rattle.std.specs.Prelude.{ℕ, zero, suc, ◌+◌, cond}
use Rattle.bank_state.specs.Limits.{place_count}
use Rattle.bank_state.specs.Search.{is_number_held}
use Rattle.bank_state.specs.State.{Bank, series_of}

-- the first number from n on that no upload of subscriber s holds, k of them looked at
unfoldable pub first_unheld : ℕ → ℕ → ℕ → Bank → ℕ
first_unheld zero s n b = n
first_unheld (suc k) s n b = cond (is_number_held s n b) (first_unheld k s (n + 1) b) n

-- the first from the subscriber's counter on; the places hold no more numbers than there are places
unfoldable pub next_number : ℕ → Bank → ℕ
next_number s b = first_unheld place_count s (series_of s b.series) b
