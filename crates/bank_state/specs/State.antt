-- The bank's state with its two stores, a fresh bank, and the state with one part changed.
use Rattle.std.specs.Prelude.{ℕ, ◌-◌, Bool, false, List, replicate, set, get_or}
use Rattle.frame_table.specs.declared.fields.Bits128.{Bits128}
use Rattle.bank_state.specs.declared.state.Use.TheVariants.{Free}
use Rattle.bank_state.specs.declared.state.Place.{Place}
use Rattle.bank_state.specs.declared.state.Download.{Download}
use Rattle.bank_state.specs.Limits.{place_count, nonce_count}

-- the nonce of an accepted opening, with its timestamp
pub record Nonce : Type 0 where
  pub used : Bool
  pub value : Bits128
  pub timestamp : ℕ

-- The bank's state. `series` has how far the bank's own numbering of each subscriber's uploads has come. Open downloads and nonces
-- stand in the order of their openings, without gaps; `files` has the length of each mailbox's file, 0 where it is empty
pub record Bank : Type 0 where
  pub clock : ℕ
  pub openings : ℕ
  pub series : List ℕ
  pub places : List Place
  pub downloads : List Download
  pub nonces : List Nonce
  pub files : List ℕ

-- The bank and the bytes lent to it that it keeps between calls: the order places' store and the mailboxes' store
pub record BankState : Type 0 where
  pub bank : Bank
  pub orders : List ℕ
  pub mailboxes : List ℕ

abbrev pub bank_state : Bank → List ℕ → List ℕ → BankState
bank_state b o m = record { bank = b; orders = o; mailboxes = m }

-- what is free is zero
abbrev pub no_bits : Bits128
no_bits = record { high = 0; low = 0 }

abbrev pub no_place : Place
no_place = record {
  used = Free;
  transaction = no_bits;
  subscriber = 0;
  number = 0;
  segments = 0;
  taken = 0;
  attempts = 0;
  last = 0;
  length = 0;
  signers = 0;
}

abbrev pub no_download : Download
no_download = record { used = false; transaction = no_bits; subscriber = 0; delivered = 0; attempts = 0; last = 0 }

abbrev pub no_nonce : Nonce
no_nonce = record { used = false; value = no_bits; timestamp = 0 }

-- "Fresh means clock 0, no opening accepted, nothing open, booked or remembered"; each series counts "from A000 on"
unfoldable pub fresh : Bank
fresh = record {
  clock = 0;
  openings = 0;
  series = replicate place_count 0;
  places = replicate place_count no_place;
  downloads = replicate place_count no_download;
  nonces = replicate nonce_count no_nonce;
  files = replicate place_count 0;
}

-- one part of the state changed

abbrev pub with_clock : ℕ → Bank → Bank
with_clock t b = record {
  clock = t;
  openings = b.openings;
  series = b.series;
  places = b.places;
  downloads = b.downloads;
  nonces = b.nonces;
  files = b.files;
}

abbrev pub with_openings : ℕ → Bank → Bank
with_openings n b = record {
  clock = b.clock;
  openings = n;
  series = b.series;
  places = b.places;
  downloads = b.downloads;
  nonces = b.nonces;
  files = b.files;
}

abbrev pub with_series : List ℕ → Bank → Bank
with_series l b = record {
  clock = b.clock;
  openings = b.openings;
  series = l;
  places = b.places;
  downloads = b.downloads;
  nonces = b.nonces;
  files = b.files;
}

abbrev pub with_places : List Place → Bank → Bank
with_places l b = record {
  clock = b.clock;
  openings = b.openings;
  series = b.series;
  places = l;
  downloads = b.downloads;
  nonces = b.nonces;
  files = b.files;
}

abbrev pub with_downloads : List Download → Bank → Bank
with_downloads l b = record {
  clock = b.clock;
  openings = b.openings;
  series = b.series;
  places = b.places;
  downloads = l;
  nonces = b.nonces;
  files = b.files;
}

abbrev pub with_nonces : List Nonce → Bank → Bank
with_nonces l b = record {
  clock = b.clock;
  openings = b.openings;
  series = b.series;
  places = b.places;
  downloads = b.downloads;
  nonces = l;
  files = b.files;
}

abbrev pub with_files : List ℕ → Bank → Bank
with_files l b = record {
  clock = b.clock;
  openings = b.openings;
  series = b.series;
  places = b.places;
  downloads = b.downloads;
  nonces = b.nonces;
  files = l;
}

abbrev pub place_at : Bank → ℕ → Place
place_at b i = get_or b.places i no_place

abbrev pub download_at : Bank → ℕ → Download
download_at b i = get_or b.downloads i no_download

-- the length of the file in a subscriber's mailbox, 0 where it is empty
unfoldable pub file_length : ℕ → List ℕ → ℕ
file_length s files = get_or files (s - 1) 0

-- "Uploads of a subscriber ... now count from A000 on their own": how far a subscriber's have come
unfoldable pub series_of : ℕ → List ℕ → ℕ
series_of s series = get_or series (s - 1) 0

abbrev pub with_place : ℕ → Place → Bank → Bank
with_place i p b = with_places (set b.places i p) b

abbrev pub with_download : ℕ → Download → Bank → Bank
with_download i e b = with_downloads (set b.downloads i e) b
