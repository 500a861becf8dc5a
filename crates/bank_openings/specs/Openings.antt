-- "Opening.": what an accepted opening leaves.
use Rattle.std.specs.Prelude.{ℕ, ◌+◌, ◌-◌, ◌<◌, Bool, true, false, List, ◌≡◌, ltb, set}
use Rattle.frame_table.specs.declared.fields.Bits128.{Bits128}
use Rattle.frame_table.specs.declared.fields.Fields.{Fields}
use Rattle.frame_table.specs.Names.{subscriber, nonce, timestamp, segments}
use Rattle.bank_state.specs.State.{Bank}
use Rattle.bank_state.specs.declared.state.Download.{Download}
use Rattle.bank_state.specs.declared.state.Place.{Place}
use Rattle.bank_state.specs.declared.state.Use.TheVariants.{Open}
use Rattle.message.specs.declared.editions.Edition.{Edition}
use Rattle.message.specs.declared.editions.Edition.TheVariants as edition
use Rattle.message.specs.Editions.{edition_of}
use Rattle.bank_state.specs.Limits.{place_count, nonce_count, max_openings, series_limit}
use Rattle.bank_state.specs.Search.{free_place, free_download, free_nonce}
use Rattle.bank_state.specs.State.{with_openings, with_series, with_place, with_download, with_nonces}
use Rattle.message.specs.declared.directions.Direction.{Direction}
use Rattle.message.specs.declared.directions.Direction.TheVariants as direction
use Rattle.bank_verdicts.specs.Refusals.{series_ended}

-- the record that an opening of this direction takes
abbrev pub free_for : Direction → Bank → ℕ
free_for direction.Upload b = free_place b
free_for direction.Download b = free_download b

-- room for one opening more of this direction: a record free, not 64 nonces remembered, and neither the upload's series
-- nor the running number at its end
pub record Room (d : Direction) (b : Bank) (q : Fields) : Type 0 where
  pub place : free_for d b < place_count
  pub memory : free_nonce b < nonce_count
  pub series : series_ended d b q ≡ false
  pub numbers : b.openings < max_openings

abbrev pub UploadRoom : Bank → Fields → Type 0
UploadRoom b q = Room direction.Upload b q

abbrev pub DownloadRoom : Bank → Fields → Type 0
DownloadRoom b q = Room direction.Download b q

-- "An accepted opening's nonce is remembered"
abbrev pub remembered : Fields → Bank → Bank
remembered q b =
    with_nonces (set b.nonces (free_nonce b) (record { used = true; value = nonce q; timestamp = timestamp q })) b

-- "The accepted openings are numbered from 0", uploads and downloads together
unfoldable pub counted : Fields → Bank → Bank
counted q b = with_openings (b.openings + 1) (remembered q b)

-- the series after an upload of this number by its opening's edition: that of 2.4 does not move the bank's own numbering,
-- from 2.5 on it has come to the number after this one
abbrev pub moved_by : Edition → ℕ → Fields → List ℕ → List ℕ
moved_by edition.V24 number q series = series
moved_by edition.V25 number q series = set series (subscriber q - 1) (number + 1)

abbrev pub moved : ℕ → Fields → List ℕ → List ℕ
moved number q series = moved_by (edition_of q) number q series

-- a number that its series can come past
abbrev pub fits_series : Edition → ℕ → Bool
fits_series edition.V24 number = true
fits_series edition.V25 number = ltb number series_limit

-- "Uploads of a subscriber and type now count from A000 on their own": an upload with the bank's own number moves its series
unfoldable pub counted_upload : ℕ → Fields → Bank → Bank
counted_upload number q b = with_series (moved number q b.series) (counted q b)

-- the place of an upload just opened, with its transaction ID and its order's number
abbrev pub new_place : Bits128 → ℕ → ℕ → Fields → Place
new_place t number clock q = record {
  used = Open;
  transaction = t;
  subscriber = subscriber q;
  number = number;
  segments = segments q;
  taken = 0;
  attempts = 0;
  last = clock;
  length = 0;
  signers = 0;
}

-- "An upload takes the first place not in use"
unfoldable pub open_upload : Bits128 → ℕ → Fields → Bank → Bank
open_upload t number q b = with_place (free_place b) (new_place t number b.clock q) (counted_upload number q b)

-- a download just opened: "its opening delivered segment 1"
abbrev pub new_download : Bits128 → ℕ → Fields → Download
new_download t clock q = record {
  used = true;
  transaction = t;
  subscriber = subscriber q;
  delivered = 1;
  attempts = 0;
  last = clock;
}

-- "download opened ... (segment 1 is in it)"
unfoldable pub open_download : Bits128 → Fields → Bank → Bank
open_download t q b = with_download (free_download b) (new_download t b.clock q) (counted q b)
