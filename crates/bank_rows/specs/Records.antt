-- An order place, an open download and a nonce as the numbers of a row.
use Rattle.std.specs.Prelude.{ℕ, ◌+◌, ◌*◌, Bool, true, not, cond, ◌&&◌, List, [], ◌∷◌, eqb, leb, get_or, drop}
use Rattle.frame_table.specs.declared.fields.Bits128.{Bits128}
use Rattle.bank_state.specs.declared.clock.Ended.{Ended}
use Rattle.bank_state.specs.declared.state.Use.{Use}
use Rattle.bank_state.specs.declared.state.Use.TheVariants.{Free, Open, Booked}
use Rattle.bank_state.specs.declared.state.Place.{Place}
use Rattle.bank_state.specs.declared.state.Download.{Download}
use Rattle.bank_state.specs.State.{Nonce}
use Rattle.bank_state.specs.Clock.{ends}
use Rattle.bank_state.specs.Limits.{window}
use Rattle.bank_rows.specs.Layout.{
  place_use,
  place_high,
  place_low,
  place_subscriber,
  place_number,
  place_segments,
  place_taken,
  place_attempts,
  place_last,
  place_length,
  place_signers,
  download_high,
  download_low,
  download_subscriber,
  download_delivered,
  download_attempts,
  download_last,
  nonce_high,
  nonce_low,
  nonce_timestamp,
  nonce_width,
}

abbrev pub bits : ℕ → ℕ → Bits128
bits high low = record { high = high; low = low }

-- a place's use: 0 free, 1 open, 2 booked
abbrev pub use_of : ℕ → Use
use_of u = cond (eqb u 0) Free (cond (eqb u 1) Open Booked)

abbrev pub number_of_use : Use → ℕ
number_of_use Free = 0
number_of_use Open = 1
number_of_use Booked = 2

-- what the row at the front says, and the row that says it

abbrev pub place_of : List ℕ → Place
place_of s = record {
  used = use_of (get_or s place_use 0);
  transaction = bits (get_or s place_high 0) (get_or s place_low 0);
  subscriber = get_or s place_subscriber 0;
  number = get_or s place_number 0;
  segments = get_or s place_segments 0;
  taken = get_or s place_taken 0;
  attempts = get_or s place_attempts 0;
  last = get_or s place_last 0;
  length = get_or s place_length 0;
  signers = get_or s place_signers 0;
}

abbrev pub place_row : Place → List ℕ
place_row p =
    number_of_use p.used ∷ p.transaction.high ∷ p.transaction.low ∷ p.subscriber ∷ p.number ∷ p.segments
    ∷ p.taken ∷ p.attempts ∷ p.last ∷ p.length ∷ p.signers ∷ []

abbrev pub download_of : List ℕ → Download
download_of s = record {
  used = true;
  transaction = bits (get_or s download_high 0) (get_or s download_low 0);
  subscriber = get_or s download_subscriber 0;
  delivered = get_or s download_delivered 0;
  attempts = get_or s download_attempts 0;
  last = get_or s download_last 0;
}

abbrev pub download_row : Download → List ℕ
download_row e =
    e.transaction.high ∷ e.transaction.low ∷ e.subscriber ∷ e.delivered ∷ e.attempts ∷ e.last ∷ []

abbrev pub nonce_of : List ℕ → Nonce
nonce_of s = record {
  used = true;
  value = bits (get_or s nonce_high 0) (get_or s nonce_low 0);
  timestamp = get_or s nonce_timestamp 0;
}

abbrev pub nonce_row : Nonce → List ℕ
nonce_row e = e.value.high ∷ e.value.low ∷ e.timestamp ∷ []

abbrev pub nonce_record : Bits128 → ℕ → Nonce
nonce_record value timestamp = record { used = true; value = value; timestamp = timestamp }

-- the tests of `end_downloads` and of `forget`: what stays

abbrev pub stays_open : Ended → Download → Bool
stays_open which e = e.used && not (ends which e)

abbrev pub stays_remembered : ℕ → Nonce → Bool
stays_remembered clock e = e.used && leb clock (e.timestamp + window)

abbrev pub row_stays : ℕ → List ℕ → ℕ → Bool
row_stays clock area i = stays_remembered clock (nonce_of (drop (nonce_width * i) area))
