-- A client run, its closing words and the numbers that its calls are given.
use Rattle.std.specs.Prelude.{Result, Ok, Err}
use Rattle.std.specs.Prelude.{ℕ, ◌%◌, ◌^◌, List, length}
use Rattle.number_table.specs.Table as numbers
pub use Rattle.frame_writer.specs.Writer.{request_room}
use Rattle.octets.specs.Texts.{ascii}
use Rattle.message.specs.Limits.{ful, fdl}
use Rattle.journal.specs.declared.event.OrderName.{OrderName}
use Rattle.client_run.specs.declared.run.ClientRun.{ClientRun}
use Rattle.message.specs.declared.directions.Direction.{Direction}
use Rattle.message.specs.declared.directions.Direction.TheVariants as direction
use Rattle.message.specs.declared.editions.Edition.TheVariants.{V25}
use Rattle.client_run.specs.declared.run.RunParameters.{RunParameters}
use Rattle.client_run.specs.declared.run.RunTerms.{RunTerms}
use Rattle.client_run.specs.declared.run.Stage.TheVariants as stage
use Rattle.client_run.specs.declared.run.Step.TheVariants as step
use Rattle.client_run.specs.declared.run.Word.{Word}
use Rattle.client_run.specs.declared.run.Word.TheVariants as word
use Rattle.client_run.specs.declared.run.Refusal.{Refusal}
use Rattle.client_run.specs.declared.run.Refusal.TheVariants.{
  TimeTooHigh,
  WrongBuffer,
  ExchangeTooHigh,
  NoSubscriber,
  WrongStage,
}
use Rattle.client_run.specs.declared.run.Answer.{Answer}
use Rattle.client_run.specs.declared.run.Answer.TheVariants as answer
use Rattle.client_run.specs.declared.run.Lengths.{Lengths}

-- card 6: "The highest first exchange number becomes 4,294,967,104"
abbrev pub max_first_exchange : ℕ
max_first_exchange = 4294967104

-- the highest exchange number: its field has 4 bytes
abbrev pub max_exchange : ℕ
max_exchange = 4294967295

-- document 01's numbers for the client's owner; card 3: "as bank or client time number 1"
abbrev pub refusal_number : Refusal → ℕ
refusal_number TimeTooHigh = numbers.wrong_length
refusal_number WrongBuffer = numbers.wrong_buffer
refusal_number ExchangeTooHigh = numbers.exchange_too_high
refusal_number NoSubscriber = numbers.no_subscriber
refusal_number WrongStage = numbers.wrong_stage

-- document 01's number for an answer, 0 where it is none
abbrev pub answer_number : Result Answer Refusal → ℕ
answer_number (Ok (answer.Request n)) = 0
answer_number (Ok answer.Ignored) = 0
answer_number (Ok (answer.Closed w)) = 0
answer_number (Err r) = refusal_number r

-- "Closing words", as document 01 writes them
abbrev pub word_text : Word → List ℕ
word_text word.Lodged = ascii "lodged"
word_text word.NotLodged = ascii "not lodged"
word_text word.Unclear = ascii "unclear"
word_text word.Fetched = ascii "fetched"
word_text word.HeldUnconfirmed = ascii "held, unconfirmed"
word_text word.NotFetched = ascii "not fetched"

-- the type of a run's order: "FUL is an upload, FDL a download"
abbrev pub order_type_of : Direction → ℕ
order_type_of direction.Upload = ful
order_type_of direction.Download = fdl

-- the order that "lodged" names: "subscriber, type and number together"
abbrev pub order_name : ClientRun → OrderName
order_name c =
    record { subscriber = c.subscriber; order_type = order_type_of c.direction; number = c.number }

-- "in 2.4 its number", any four bytes: those of the number that begin brought
unfoldable pub chosen_number : RunTerms → ℕ
chosen_number terms = terms.number % 2 ^ 32

-- the terms of a run in which the bank gives the number
abbrev pub terms_of25 : RunTerms
terms_of25 = record { edition = V25; number = 0 }

-- a run not begun
abbrev pub not_begun : ClientRun
not_begun = record {
  stage = stage.NotBegun;
  direction = direction.Upload;
  step = step.Opening;
  subscriber = 0;
  exchange = 0;
  repeats = 0;
  terms = terms_of25;
  transaction = record { high = 0; low = 0 };
  number = 0;
  length = 0;
  segments = 0;
  segment = 0;
  issued = 0;
}

-- what a run is begun with, by its parts
abbrev pub parameters_of : Direction → ℕ → ℕ → RunTerms → RunParameters
parameters_of direction subscriber first terms =
    record { direction = direction; subscriber = subscriber; first = first; terms = terms }

-- "a nonce is 12 lent bytes, then the exchange number"
abbrev pub nonce_bytes : ℕ
nonce_bytes = 12

-- what is lent to a call: the time, the nonce bytes, the payload, the file buffer and the request buffer
pub record Lent : Type 0 where
  pub time : ℕ
  pub nonce : List ℕ
  pub payload : List ℕ
  pub file : List ℕ
  pub request : List ℕ

abbrev pub lent_of : ℕ → List ℕ → List ℕ → List ℕ → List ℕ → Lent
lent_of time nonce payload file request =
    record { time = time; nonce = nonce; payload = payload; file = file; request = request }

-- the lengths of what is lent
abbrev pub lengths_of : Lent → Lengths
lengths_of l = record { payload = length l.payload; file = length l.file; request = length l.request }

-- what a call leaves: the next run, the file buffer, the request buffer, the answer, and document 01's number for it
pub record ClientCall : Type 0 where
  pub run : ClientRun
  pub file : List ℕ
  pub request : List ℕ
  pub answer : Result Answer Refusal
  pub number : ℕ
