-- The bank's own numbers of document 01.
use Rattle.std.specs.Prelude.{ℕ, ◌*◌}
pub use Rattle.frame_writer.specs.Writer.{reply_room}

-- "Lent: 8 order places and 8 mailboxes"
abbrev pub place_count : ℕ
place_count = 8

-- card 6: "stores of 63,488"
abbrev pub store_bytes : ℕ
store_bytes = 63488

-- "8 bytes for the transaction ID"
abbrev pub id_bytes : ℕ
id_bytes = 8

-- "open at 3,600,000, gone at 3,600,001" milliseconds
abbrev pub idle_limit : ℕ
idle_limit = 3600000

-- "differs from the clock by at most 300,000" milliseconds
abbrev pub window : ℕ
window = 300000

-- "8 transactions open"; "the subscriber has 4 open transactions"
abbrev pub max_open : ℕ
max_open = 8

abbrev pub max_open_per_subscriber : ℕ
max_open_per_subscriber = 4

-- card 13: "They share 16 open transactions, of which each bank is sure of two"
abbrev pub shared_open : ℕ
shared_open = 16

abbrev pub sure_open : ℕ
sure_open = 2

-- what three idle banks count in the sum: each at least those that it is sure of
abbrev pub idle_others : ℕ
idle_others = 3 * sure_open

-- "64 nonces remembered"
abbrev pub nonce_count : ℕ
nonce_count = 64

-- running numbers are "allowed up to 4,294,967,295": so many openings are accepted
abbrev pub max_openings : ℕ
max_openings = 4294967296

-- "The limit of 1,213,056 ... holds per series"
abbrev pub series_limit : ℕ
series_limit = 1213056

-- card 8: "Signers are a set over the 8 subscribers", a bit for each; the largest set is that of all
abbrev pub all_signers : ℕ
all_signers = 255
