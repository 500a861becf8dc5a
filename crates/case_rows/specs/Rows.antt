-- A table of cases: rows of a call and what is due, and that what comes is what is due. What the rows' requests share.
use Rattle.number_table.specs.declared.table.WrongLength.{WrongLength}
use Rattle.std.specs.Prelude.{Err, Ok, Result}
use Rattle.std.specs.Prelude.{ℕ, List, [], ◌∷◌, ◌≡◌, take}
use Rattle.frame_table.specs.declared.fields.Bits128.{Bits128}
use Rattle.frame_table.specs.declared.fields.Fields.{Fields}
use Rattle.frame_reader.specs.Reader.{read_reply}
use Rattle.message.specs.Codes.{ascii_digits}

-- a row: a call, and what is due
pub record Case (C A : Type 0) : Type 0 where
  pub call : C
  pub due : A

infixl 4 ◌gives◌
abbrev pub ◌gives◌ : {C A : Type 0} → C → A → Case C A
call gives due = record { call = call; due = due }

-- of every row's call comes what is due
pub data Holds {C A : Type 0} (come : C → A) : List (Case C A) → Type 0 where
  none : Holds come []
  row : {c : Case C A} {l : List (Case C A)} → come c.call ≡ c.due → Holds come l → Holds come (c ∷ l)

-- the bank time of the calls
abbrev pub clock : ℕ
clock = 1000000

-- the lent ID bytes being 0, the number of an accepted opening is the low half of its transaction ID
abbrev pub id_of : ℕ → Bits128
id_of n = record { high = 0; low = n }

-- the six digits of a code, as the number of field 0D
abbrev pub six : ℕ → ℕ
six n = ascii_digits 6 n

-- the reply in the buffer, none where the call was given a number, and its fields
abbrev pub bytes_in : Result ℕ WrongLength → List ℕ → List ℕ
bytes_in (Ok n) buffer = take n buffer
bytes_in (Err e) buffer = []

abbrev pub reply_in : Result ℕ WrongLength → List ℕ → Fields
reply_in a buffer = read_reply (bytes_in a buffer)
