-- The bank that the rows are, and the rows after a call.
use Rattle.std.specs.Prelude.{ℕ, ◌+◌, ◌*◌, ◌≤◌, ◌<◌, List, [], ◌∷◌, ◌++◌, ◌≡◌, length, get_or, take, drop}
use Rattle.bank_state.specs.declared.state.Download.{Download}
use Rattle.bank_state.specs.State.{Nonce}
use Rattle.bank_state.specs.State.{Bank}
use Rattle.bank_state.specs.Limits.{place_count, nonce_count}
use Rattle.bank_state.specs.Rows.{keep, keep_only}
use Rattle.bank_state.specs.State.{BankState, no_download, no_nonce}
use Rattle.bank_rows.specs.Layout.{
  clock_at,
  openings_at,
  files_at,
  series_at,
  download_count_at,
  nonce_count_at,
  places_at,
  place_use,
  place_width,
  places_size,
  downloads_at,
  download_width,
  downloads_size,
  nonces_at,
  nonce_width,
  nonces_size,
  state_size,
}
use Rattle.bank_rows.specs.Rows.{rows_of, rows_in_use, numbers_of, written}
use Rattle.bank_rows.specs.Records.{place_of, place_row, download_of, download_row, nonce_of, nonce_row}

-- the rows' parts
abbrev pub places_part : List ℕ → List ℕ
places_part s = take places_size (drop places_at s)

abbrev pub downloads_part : List ℕ → List ℕ
downloads_part s = take downloads_size (drop downloads_at s)

abbrev pub nonces_part : List ℕ → List ℕ
nonces_part s = take nonces_size (drop nonces_at s)

abbrev pub download_count_of : List ℕ → ℕ
download_count_of s = get_or s download_count_at 0

abbrev pub nonce_count_of : List ℕ → ℕ
nonce_count_of s = get_or s nonce_count_at 0

-- the bank that the rows are
unfoldable pub bank_of : List ℕ → Bank
bank_of s = record {
  clock = get_or s clock_at 0;
  openings = get_or s openings_at 0;
  series = take place_count (drop series_at s);
  places = rows_of place_width place_of place_count (places_part s);
  downloads = rows_in_use download_width download_of no_download place_count (download_count_of s) (downloads_part s);
  nonces = rows_in_use nonce_width nonce_of no_nonce nonce_count (nonce_count_of s) (nonces_part s);
  files = take place_count (drop files_at s);
}

abbrev pub nonce_at : Bank → ℕ → Nonce
nonce_at b i = get_or b.nonces i no_nonce

-- the records in use, in the order of their openings
abbrev pub open_downloads : Bank → List Download
open_downloads b = keep (λ (e : Download). e.used) b.downloads

abbrev pub remembered_nonces : Bank → List Nonce
remembered_nonces b = keep (λ (e : Nonce). e.used) b.nonces

-- the numbers before the places
abbrev pub head_of : Bank → List ℕ
head_of b =
    b.clock ∷ b.openings ∷ (b.files ++ (b.series ++ (length (open_downloads b) ∷ length (remembered_nonces b) ∷ [])))

-- the four parts of the rows, one after another
unfoldable pub joined : List ℕ → List ℕ → List ℕ → List ℕ → List ℕ
joined head places downloads nonces = head ++ (places ++ (downloads ++ nonces))

-- the rows `old` after a call that leaves the bank b: every number
unfoldable pub stored : Bank → List ℕ → List ℕ
stored b old =
    joined
    (head_of b)
    (numbers_of place_row b.places)
    (written (download_width * download_count_of old) (numbers_of download_row (open_downloads b)) (downloads_part old))
    (written (nonce_width * nonce_count_of old) (numbers_of nonce_row (remembered_nonces b)) (nonces_part old))

-- the rows and the orders' store after a call that leaves the bank_state w
pub record StoredWith (w : BankState) (old new orders : List ℕ) : Type 0 where
  pub rows : new ≡ stored w.bank old
  pub store : orders ≡ w.orders

-- rows that are a bank's: their length, both counts within their rows, and each place's use one of the three
pub record Laid (s : List ℕ) : Type 0 where
  pub long : length s ≡ state_size
  pub downloads : download_count_of s ≤ place_count
  pub nonces : nonce_count_of s ≤ nonce_count
  pub uses : (i : ℕ) → i < place_count → get_or s (places_at + (place_width * i + place_use)) 0 ≤ 2

-- a bank that rows can hold: its lists have their lengths, and the records in use stand first
pub record Held (b : Bank) : Type 0 where
  pub places : length b.places ≡ place_count
  pub downloads : length b.downloads ≡ place_count
  pub nonces : length b.nonces ≡ nonce_count
  pub files : length b.files ≡ place_count
  pub series : length b.series ≡ place_count
  pub downloads_first : keep_only (λ (e : Download). e.used) no_download b.downloads ≡ b.downloads
  pub nonces_first : keep_only (λ (e : Nonce). e.used) no_nonce b.nonces ≡ b.nonces
