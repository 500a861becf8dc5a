-- The one test of the rows: what no call leaves is told by it.
use Rattle.std.specs.Prelude.{ℕ, ◌+◌, ◌-◌, ◌*◌, ◌≤◌, ◌<◌, Bool, true, cond, ◌&&◌, List, ◌≡◌, eqb, ltb, leb, length, get_or}
use Rattle.message.specs.Limits.{file_bytes, segment_bytes, max_segments, subscribers}
use Rattle.message.specs.Segments.{segments_of}
use Rattle.bank_state.specs.State.{Bank}
use Rattle.bank_state.specs.Limits.{place_count, nonce_count, all_signers}
use Rattle.bank_state.specs.Search.{is_open}
use Rattle.bank_state.specs.State.{place_at, download_at, file_length}
use Rattle.bank_rows.specs.Layout.{
  files_at,
  places_at,
  place_use,
  place_segments,
  place_taken,
  place_length,
  place_signers,
  place_width,
  downloads_at,
  download_subscriber,
  download_delivered,
  download_width,
  state_size,
}
use Rattle.bank_rows.specs.Rows.{all_below}
use Rattle.bank_rows.specs.State.{download_count_of, nonce_count_of}

-- "8 mailboxes", each of a file's bytes
abbrev pub is_sound_file : List ℕ → ℕ → Bool
is_sound_file s i = leb (get_or s (files_at + i) 0) file_bytes

-- the row of an open upload: not too many segments, the last one not taken, no "data over 256 bytes" in those taken
unfoldable pub is_sound_upload : List ℕ → ℕ → Bool
is_sound_upload s at =
    leb (get_or s (at + place_segments) 0) max_segments
    && (ltb (get_or s (at + place_taken) 0) (get_or s (at + place_segments) 0)
    && leb (get_or s (at + place_length) 0) (get_or s (at + place_taken) 0 * segment_bytes))

-- free, open or booked; "Signers are a set over the 8 subscribers"; "8 order places", each of a file's bytes; and what
-- is open
abbrev pub is_sound_place : List ℕ → ℕ → Bool
is_sound_place s i =
    let at = places_at + place_width * i in
    leb (get_or s (at + place_use) 0) 2
    && (leb (get_or s (at + place_signers) 0) all_signers
    && (leb (get_or s (at + place_length) 0) file_bytes
    && cond (eqb (get_or s (at + place_use) 0) 1) (is_sound_upload s at) true))

-- "Subscribers are 1 to 8, each with the mailbox of that number"; at most the segments of that mailbox delivered
abbrev pub is_sound_download : List ℕ → ℕ → Bool
is_sound_download s i =
    let at = downloads_at + download_width * i in
    let subscriber = get_or s (at + download_subscriber) 0 in
    leb 1 subscriber
    && (leb subscriber subscribers
    && leb (get_or s (at + download_delivered) 0) (segments_of (get_or s (files_at + (subscriber - 1)) 0)))

unfoldable pub is_sound : List ℕ → Bool
is_sound s =
    eqb (length s) state_size
    && (leb (download_count_of s) place_count
    && (leb (nonce_count_of s) nonce_count
    && (all_below (is_sound_file s) place_count
    && (all_below (is_sound_place s) place_count
    && all_below (is_sound_download s) (download_count_of s)))))

-- what it says of the bank
pub record InRange (b : Bank) : Type 0 where
  -- "8 order places and 8 mailboxes", each of a file's bytes
  pub files : (i : ℕ) → i < place_count → get_or b.files i 0 ≤ file_bytes
  pub lengths : (i : ℕ) → i < place_count → (place_at b i).length ≤ file_bytes
  -- "Signers are a set over the 8 subscribers"
  pub signers : (i : ℕ) → i < place_count → (place_at b i).signers ≤ all_signers
  -- an open upload, "With k segments taken of N": N is not too many
  pub few : (i : ℕ) → is_open (place_at b i).used ≡ true → (place_at b i).segments ≤ max_segments
  -- "Segment N books the order": k is below N
  pub below : (i : ℕ) → is_open (place_at b i).used ≡ true → (place_at b i).taken < (place_at b i).segments
  -- no "data over 256 bytes" in any of the k
  pub largest : (i : ℕ) → is_open (place_at b i).used ≡ true → (place_at b i).length ≤ (place_at b i).taken * segment_bytes
  -- an open download: "Subscribers are 1 to 8, each with the mailbox of that number"
  pub known : (i : ℕ) → (download_at b i).used ≡ true → 1 ≤ (download_at b i).subscriber
  pub most : (i : ℕ) → (download_at b i).used ≡ true → (download_at b i).subscriber ≤ subscribers
  -- "With d delivered, segment d + 1 (up to N) fits": d is at most the N of that mailbox's file
  pub within : (i : ℕ) → (download_at b i).used ≡ true →
      (download_at b i).delivered ≤ segments_of (file_length (download_at b i).subscriber b.files)
