-- Where the numbers of the bank's state stand in the rows. Each has the same name in src/layout.rt.
use Rattle.std.specs.Prelude.{ℕ, ◌+◌, ◌*◌}
use Rattle.bank_state.specs.Limits.{place_count, nonce_count}

abbrev pub clock_at : ℕ
clock_at = 0

-- the openings accepted
abbrev pub openings_at : ℕ
openings_at = clock_at + 1

-- the lengths of the files in the mailboxes
abbrev pub files_at : ℕ
files_at = openings_at + 1

-- how far the numbering of each subscriber's uploads has come
abbrev pub series_at : ℕ
series_at = files_at + place_count

-- how many downloads are open, and how many nonces are remembered
abbrev pub download_count_at : ℕ
download_count_at = series_at + place_count

abbrev pub nonce_count_at : ℕ
nonce_count_at = download_count_at + 1

-- an order place's numbers: its use, the transaction ID's halves, and its other columns as `Place` has them
abbrev pub places_at : ℕ
places_at = nonce_count_at + 1

abbrev pub place_use : ℕ
place_use = 0

abbrev pub place_high : ℕ
place_high = 1

abbrev pub place_low : ℕ
place_low = 2

abbrev pub place_subscriber : ℕ
place_subscriber = 3

abbrev pub place_number : ℕ
place_number = 4

abbrev pub place_segments : ℕ
place_segments = 5

abbrev pub place_taken : ℕ
place_taken = 6

abbrev pub place_attempts : ℕ
place_attempts = 7

abbrev pub place_last : ℕ
place_last = 8

abbrev pub place_length : ℕ
place_length = 9

abbrev pub place_signers : ℕ
place_signers = 10

abbrev pub place_width : ℕ
place_width = 11

abbrev pub places_size : ℕ
places_size = place_width * place_count

-- an open download's numbers
abbrev pub downloads_at : ℕ
downloads_at = places_at + places_size

abbrev pub download_high : ℕ
download_high = 0

abbrev pub download_low : ℕ
download_low = 1

abbrev pub download_subscriber : ℕ
download_subscriber = 2

abbrev pub download_delivered : ℕ
download_delivered = 3

abbrev pub download_attempts : ℕ
download_attempts = 4

abbrev pub download_last : ℕ
download_last = 5

abbrev pub download_width : ℕ
download_width = 6

abbrev pub downloads_size : ℕ
downloads_size = download_width * place_count

-- a remembered nonce's numbers
abbrev pub nonces_at : ℕ
nonces_at = downloads_at + downloads_size

abbrev pub nonce_high : ℕ
nonce_high = 0

abbrev pub nonce_low : ℕ
nonce_low = 1

abbrev pub nonce_timestamp : ℕ
nonce_timestamp = 2

abbrev pub nonce_width : ℕ
nonce_width = 3

abbrev pub nonces_size : ℕ
nonces_size = nonce_width * nonce_count

-- all numbers of the state
abbrev pub state_size : ℕ
state_size = nonces_at + nonces_size
