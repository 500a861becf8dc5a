-- The numbers of rows that are no record's in use: "records from the count on are 0".
use Rattle.std.specs.Prelude.{ℕ, ◌+◌, ◌*◌, ◌≤◌, ◌<◌, List, ◌≡◌, get_or}
use Rattle.bank_rows.specs.Layout.{
  downloads_at,
  download_width,
  downloads_size,
  nonces_at,
  nonce_width,
  nonces_size,
}
use Rattle.bank_rows.specs.State.{download_count_of, nonce_count_of}

-- "zero what is not used"
pub record Wiped (s : List ℕ) : Type 0 where
  pub downloads : (j : ℕ) → download_width * download_count_of s ≤ j → j < downloads_size → get_or s (downloads_at + j) 0 ≡ 0
  pub nonces : (j : ℕ) → nonce_width * nonce_count_of s ≤ j → j < nonces_size → get_or s (nonces_at + j) 0 ≡ 0
