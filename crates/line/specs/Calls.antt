-- The two calls on lent memory: the answer with its number, every number of the row and every lent byte. A call that is
-- given a number leaves all as it was.
use Rattle.line.specs.declared.calls.MakeRefusal.{MakeRefusal}
use Rattle.std.specs.Prelude.{Err, Ok, Result}
use Rattle.std.specs.Prelude.{ℕ, ◌≤◌, ◌<◌, Bool, cond, ◌&&◌, ◌≡◌, eqb, leb, length}
use mathlib.Core.List.{List, [], ◌∷◌, ◌++◌, Memᴰ as In}
use Rattle.number_table.specs.Table as numbers
use Rattle.octets.specs.Bytes.{overwrite}
use Rattle.line.specs.declared.calls.MakeRefusal.TheVariants as make
use Rattle.line.specs.declared.calls.Delivery.{Delivery}
use Rattle.number_table.specs.declared.table.WrongLength.{WrongLength}
use Rattle.number_table.specs.Numbers.{number_one}
use Rattle.std.specs.Prelude.{Option, Some, None}
use Rattle.line.specs.Generator.{value_limit}
use Rattle.line.specs.Line.{Message, most_held, message_bytes, Line, made, Put, put}
use Rattle.line.specs.Memory.{row_size, store_bytes, joined, line_of, row_of, store_of, is_line}

-- ---- a line is made

-- the papers' number for a refusal
abbrev pub make_refusal_number : MakeRefusal → ℕ
make_refusal_number make.WrongLength = numbers.wrong_length
make_refusal_number make.SeedZero = numbers.seed_zero

-- document 02's number for an answer, 0 where there is none
abbrev pub make_number : Result (Unit {0}) MakeRefusal → ℕ
make_number (Ok u) = 0
make_number (Err r) = make_refusal_number r

pub record MakeCall : Type 0 where
  pub answer : Result (Unit {0}) MakeRefusal
  pub number : ℕ
  pub row : List ℕ

abbrev pub make_call_of : Result (Unit {0}) MakeRefusal → List ℕ → MakeCall
make_call_of a row = record { answer = a; number = make_number a; row = row }

-- "It refuses seed 0 with number 11"; "number 1 for lengths, then 11" (reading 9.1). The store is only read
unfoldable pub make_call : List ℕ → List ℕ → ℕ → MakeCall
make_call row store seed =
    cond (eqb (length row) row_size && eqb (length store) store_bytes)
    (cond (eqb seed 0) (make_call_of (Err make.SeedZero) row) (make_call_of (Ok tt) (row_of (made seed))))
    (make_call_of (Err make.WrongLength) row)

-- ---- a message is put in

abbrev pub put_number : Result Delivery WrongLength → ℕ
put_number (Ok d) = 0
put_number (Err e) = numbers.wrong_length

-- so many copies, and after them the held one of this length, where one comes out
abbrev pub out_of : ℕ → Option ℕ → Delivery
out_of copies held = record { copies = copies; held = held }

-- the copies, and the length of the held one behind them
abbrev pub answer_for : ℕ → List Message → Result Delivery WrongLength
answer_for copies [] = Ok (out_of copies None)
answer_for copies (h ∷ hs) = Ok (out_of copies (Some (length h)))

pub record PutCall : Type 0 where
  pub answer : Result Delivery WrongLength
  pub number : ℕ
  pub row : List ℕ
  pub store : List ℕ
  pub out : List ℕ

abbrev pub put_call_of : Result Delivery WrongLength → List ℕ → List ℕ → List ℕ → PutCall
put_call_of a row store out = record { answer = a; number = put_number a; row = row; store = store; out = out }

-- what a message does, in the memory lent: the held one that comes out stands at the front of the buffer
abbrev pub put_left : Put → List ℕ → List ℕ → PutCall
put_left p store out =
    put_call_of (answer_for p.copies p.released) (row_of p.next) (store_of p.next store)
    (overwrite out 0 (joined p.released))

-- a row that calls leave, and lengths that a call takes: "longer ones get number 1"
unfoldable pub is_fit : List ℕ → ℕ → ℕ → ℕ → Bool
is_fit row store message out =
    is_line row && (eqb store store_bytes && (leb message message_bytes && leb message_bytes out))

-- "number 1 for a message over 1,024 or wrong lengths, generator not moved" (reading 9.1)
unfoldable pub put_call : List ℕ → List ℕ → Message → List ℕ → PutCall
put_call row store m out =
    cond (is_fit row (length store) (length m) (length out)) (put_left (put (line_of row store) m) store out)
    (put_call_of (Err number_one) row store out)

-- ---- calls one after another

-- a line that calls leave
pub record Proper (l : Line) : Type 0 where
  pub live : 0 < l.value
  pub word : l.value < value_limit
  pub most : length l.held ≤ most_held
  pub short : (m : Message) → In m l.held → length m ≤ message_bytes

-- lent memory is this line: the row, and the front of the store
pub record Lies (l : Line) (row store : List ℕ) : Type 0 where
  pub proper : Proper l
  pub is : row ≡ row_of l
  pub rest : List ℕ
  pub front : store ≡ joined l.held ++ rest
  pub long : length store ≡ store_bytes

-- what a call of `put_in` on a line's memory leaves: the line after the message, the answer, and the held one that
-- comes out in the buffer; number 1 and nothing changed where the message is over 1,024 bytes or the buffer under
pub record Follows (l : Line) (m : Message) (row store out : List ℕ) (k : PutCall) : Type 0 where
  pub carried : length m ≤ message_bytes → message_bytes ≤ length out →
      Lies (put l m).next k.row k.store
      × (k.answer ≡ answer_for (put l m).copies (put l m).released)
      × (k.out ≡ overwrite out 0 (joined (put l m).released))
  pub refused : ((length m ≤ message_bytes) × (message_bytes ≤ length out) → ⊥) → k ≡ put_call_of (Err number_one) row store out
