-- What is open, in use and remembered.
use Rattle.std.specs.Prelude.{ℕ, ◌+◌, Bool, true, false, not, ◌&&◌, ltb, eqb}
use Rattle.frame_table.specs.declared.fields.Bits128.{Bits128}
use Rattle.frame_table.specs.Names.{same_bits}
use Rattle.bank_state.specs.declared.state.Use.{Use}
use Rattle.bank_state.specs.declared.state.Use.TheVariants.{Free, Open, Booked}
use Rattle.bank_state.specs.declared.state.Place.{Place}
use Rattle.bank_state.specs.declared.state.Download.{Download}
use Rattle.bank_state.specs.State.{Nonce}
use Rattle.bank_state.specs.State.{Bank}
use Rattle.bank_state.specs.Limits.{place_count, nonce_count}
use Rattle.bank_state.specs.Rows.{first_of, count_of}

abbrev pub is_free : Use → Bool
is_free Free = true
is_free Open = false
is_free Booked = false

abbrev pub is_open : Use → Bool
is_open Free = false
is_open Open = true
is_open Booked = false

abbrev pub is_booked : Use → Bool
is_booked Free = false
is_booked Open = false
is_booked Booked = true

-- "An upload takes the first place not in use"
unfoldable pub free_place : Bank → ℕ
free_place b = first_of (λ (p : Place). is_free p.used) b.places

-- card 11, "held by an open or booked upload of that subscriber": a place in use of this subscriber with this number
unfoldable pub holds_number : ℕ → ℕ → Place → Bool
holds_number s n p = not (is_free p.used) && eqb p.subscriber s && eqb p.number n

unfoldable pub find_number : ℕ → ℕ → Bank → ℕ
find_number s n b = first_of (holds_number s n) b.places

unfoldable pub is_number_held : ℕ → ℕ → Bank → Bool
is_number_held s n b = ltb (find_number s n b) place_count

-- the first free record of an open download
unfoldable pub free_download : Bank → ℕ
free_download b = first_of (λ (e : Download). not e.used) b.downloads

-- the first free record of a nonce
unfoldable pub free_nonce : Bank → ℕ
free_nonce b = first_of (λ (e : Nonce). not e.used) b.nonces

-- an upload open for this subscriber under this transaction ID, and where it is
unfoldable pub is_upload : ℕ → Bits128 → Place → Bool
is_upload subscriber transaction p = is_open p.used && eqb p.subscriber subscriber
    && same_bits p.transaction transaction

unfoldable pub find_upload : ℕ → Bits128 → Bank → ℕ
find_upload subscriber transaction b = first_of (is_upload subscriber transaction) b.places

-- a download open for this subscriber under this transaction ID, and where it is
unfoldable pub is_download : ℕ → Bits128 → Download → Bool
is_download subscriber transaction e = e.used && eqb e.subscriber subscriber && same_bits e.transaction transaction

unfoldable pub find_download : ℕ → Bits128 → Bank → ℕ
find_download subscriber transaction b = first_of (is_download subscriber transaction) b.downloads

-- the open transactions of all subscribers
unfoldable pub open_count : Bank → ℕ
open_count b = count_of (λ (p : Place). is_open p.used) b.places + count_of (λ (e : Download). e.used) b.downloads

-- the open transactions of one subscriber
unfoldable pub open_count_of : ℕ → Bank → ℕ
open_count_of s b =
    count_of (λ (p : Place). is_open p.used && eqb p.subscriber s) b.places
    + count_of (λ (e : Download). e.used && eqb e.subscriber s) b.downloads

-- "nonce remembered": of an accepted opening, against all subscribers
unfoldable pub is_remembered : Bits128 → Bank → Bool
is_remembered value b = ltb (first_of (λ (e : Nonce). e.used && same_bits e.value value) b.nonces) nonce_count
