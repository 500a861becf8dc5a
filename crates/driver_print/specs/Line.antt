-- "One line for each call": the call's number from 1, a space, and what the call answered.
use Rattle.std.specs.Prelude.{ℕ, ◌+◌, ◌*◌, ◌/◌, ◌%◌, cond, List, [], ◌∷◌, ◌++◌, eqb, ltb, length, take}
use Rattle.octets.specs.Bytes.{number}
use Rattle.print.specs.Text.{ascii, max_digits, decimal, space, newline, column, column_room}
use Rattle.print.specs.Day.{day_text}
use Rattle.print.specs.Closing.{closing_text}
use Rattle.print.specs.Seven.{counts_text, counts_room}
use Rattle.unit_state.specs.declared.answer.Answer.{Answer}
use Rattle.unit_state.specs.declared.answer.Answer.TheVariants.{
  Frame,
  Put,
  Request,
  Ignored,
  Closed,
  Unchanged,
  Away,
  TakenUp,
  Room,
  Day,
  Line,
  Out,
  OutAndHeld,
  Counted,
  Number,
  NoCall,
}

-- "lower-case hexadecimal"
unfoldable pub hex_digit : ℕ → ℕ
hex_digit d = cond (ltb d 10) (48 + d) (87 + d)

unfoldable pub hex_of : List ℕ → List ℕ
hex_of [] = []
hex_of (b ∷ l) = hex_digit (b / 16) ∷ hex_digit (b % 16) ∷ hex_of l

-- "The bytes read as one number, high byte first, modulo 4,294,967,291 (the largest prime below 2^32)"
unfoldable pub digest : List ℕ → ℕ
digest l = number l % 4294967291

-- "`away LENGTH DIGEST`": "DIGEST is that of all the bytes lent after the call"
unfoldable pub away_text : ℕ → List ℕ → List ℕ
away_text n room = ascii "away " ++ (column n space ++ decimal (digest room))

-- "that message in lower-case hexadecimal, `-` if it is empty"
unfoldable pub message_text : List ℕ → List ℕ
message_text m = cond (eqb (length m) 0) (ascii "-") (hex_of m)

-- "`out COPIES`, and where a held message comes out behind them a space and that message"
unfoldable pub out_text : ℕ → List ℕ → List ℕ
out_text copies m = ascii "out " ++ (column copies space ++ message_text m)

-- what an answer says; the reply, the request or a held message stands in the buffer, and these bytes of the image room
-- were lent. No call says nothing.
abbrev pub answer_text : Answer → List ℕ → List ℕ → List ℕ
answer_text (Frame n) buffer room = ascii "frame " ++ hex_of (take n buffer)
answer_text Put buffer room = ascii "put"
answer_text (Request n) buffer room = ascii "request " ++ hex_of (take n buffer)
answer_text Ignored buffer room = ascii "ignored"
answer_text (Closed w o) buffer room = ascii "closed " ++ closing_text w o
answer_text Unchanged buffer room = ascii "unchanged"
answer_text (Away n) buffer room = away_text n room
answer_text TakenUp buffer room = ascii "taken up"
answer_text Room buffer room = ascii "room"
answer_text (Day d) buffer room = ascii "day " ++ day_text d
answer_text Line buffer room = ascii "line"
answer_text (Out n) buffer room = ascii "out " ++ decimal n
answer_text (OutAndHeld n k) buffer room = out_text n (take k buffer)
answer_text (Counted c) buffer room = ascii "counts " ++ counts_text c
answer_text (Number n) buffer room = ascii "number " ++ decimal n
answer_text NoCall buffer room = []

-- the line of call n
unfoldable pub line_of : ℕ → Answer → List ℕ → List ℕ → List ℕ
line_of n a buffer room = column n space ++ (answer_text a buffer room ++ (newline ∷ []))

-- the most bytes that an image's length and digest take, what comes out with a held message of n bytes, an answer with a
-- buffer of b bytes ("counts " and the seven are the longest words), and a line
abbrev pub away_room : ℕ
away_room = 5 + column_room + max_digits

abbrev pub out_room : ℕ → ℕ
out_room n = 4 + column_room + 1 + 2 * n

abbrev pub answer_room : ℕ → ℕ
answer_room b = 7 + counts_room + 2 * b

abbrev pub line_room : ℕ → ℕ
line_room b = column_room + answer_room b + 1
