-- "Upload." and "Recovery (5.4).": what a request leaves of an open upload, by its action.
use Rattle.std.specs.Prelude.{ℕ, ◌+◌, List, length, replicate}
use Rattle.frame_table.specs.declared.fields.Fields.{Fields}
use Rattle.octets.specs.Bytes.{overwrite}
use Rattle.bank_state.specs.declared.state.Place.{Place}
use Rattle.bank_state.specs.declared.state.Use.TheVariants.{Booked}
use Rattle.bank_state.specs.State.{no_place}
use Rattle.bank_verdicts.specs.declared.verdict.TransactionRequest.{TransactionRequest}
use Rattle.bank_verdicts.specs.declared.verdict.UploadAction.{UploadAction}
use Rattle.bank_verdicts.specs.declared.verdict.UploadAction.TheVariants as up
use Rattle.bank_verdicts.specs.Judgement.{judge_upload}

-- a place with one segment of n bytes more
unfoldable pub grown : ℕ → ℕ → Place → Place
grown clock n p = record {
  used = p.used;
  transaction = p.transaction;
  subscriber = p.subscriber;
  number = p.number;
  segments = p.segments;
  taken = p.taken + 1;
  attempts = p.attempts;
  last = clock;
  length = p.length + n;
  signers = p.signers;
}

-- "Segment N books the order: subscriber, order number, length, bytes; the transaction ends, the place stays used"; it
-- keeps its transaction ID, what counted its steps is 0, and booking makes nobody a signer
unfoldable pub booked : ℕ → Place → Place
booked n p = record {
  used = Booked;
  transaction = p.transaction;
  subscriber = p.subscriber;
  number = p.number;
  segments = 0;
  taken = 0;
  attempts = 0;
  last = 0;
  length = p.length + n;
  signers = 0;
}

-- a place with one recovery attempt more
unfoldable pub attempted : Place → Place
attempted p = record {
  used = p.used;
  transaction = p.transaction;
  subscriber = p.subscriber;
  number = p.number;
  segments = p.segments;
  taken = p.taken;
  attempts = p.attempts + 1;
  last = p.last;
  length = p.length;
  signers = p.signers;
}

-- the place after a request with n bytes of data, at this clock
abbrev pub place_after : UploadAction → ℕ → ℕ → Place → Place
place_after (up.Opened number) clock n p = p
place_after up.Took clock n p = grown clock n p
place_after up.TookLast clock n p = booked n p
place_after (up.Point k) clock n p = attempted p
place_after (up.Cancelled c) clock n p = no_place

-- its bytes; "A fitting segment is written directly behind the bytes already in its place", "place zeroed and freed"
abbrev pub bytes_after : UploadAction → Place → List ℕ → List ℕ → List ℕ
bytes_after (up.Opened number) p segment_data bytes = bytes
bytes_after up.Took p segment_data bytes = overwrite bytes p.length segment_data
bytes_after up.TookLast p segment_data bytes = overwrite bytes p.length segment_data
bytes_after (up.Point k) p segment_data bytes = bytes
bytes_after (up.Cancelled c) p segment_data bytes = replicate (length bytes) 0

-- what a request leaves: the upload's place, the place's bytes, and the action
pub record UploadStep : Type 0 where
  pub place : Place
  pub bytes : List ℕ
  pub action : UploadAction

abbrev pub step_of : Place → List ℕ → UploadAction → UploadStep
step_of p b a = record { place = p; bytes = b; action = a }

-- an action carried out
abbrev pub carried_out : UploadAction → ℕ → Place → List ℕ → List ℕ → UploadStep
carried_out a clock p segment_data bytes =
    step_of (place_after a clock (length segment_data) p) (bytes_after a p segment_data bytes) a

-- a request to an open upload arrives
unfoldable pub upload_step : ℕ → TransactionRequest → Place → Fields → List ℕ → List ℕ → UploadStep
upload_step clock r p q segment_data bytes = carried_out (judge_upload r p q) clock p segment_data bytes
