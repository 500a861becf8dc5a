-- "The marker's print": a record of the input, and the line of a call. The book follows (`print`, `Book`).
use Rattle.number_table.specs.Numbers.{number_one}
use Rattle.number_table.specs.declared.table.WrongLength.{WrongLength}
use Rattle.std.specs.Prelude.{Err, Ok, Result}
use Rattle.std.specs.Prelude.{ℕ, ◌+◌, Bool, true, false, ◌&&◌, List, [], ◌∷◌, ◌++◌, leb, length, take, drop}
use Rattle.octets.specs.Bytes.{number}
use Rattle.frame_table.specs.Table.{timestamp_tag, width}
use Rattle.frame_table.specs.Names.{return_code}
use Rattle.frame_reader.specs.Reader.{read_request, read_reply}
use Rattle.print.specs.Text.{ascii, max_digits, code_digits, code_text, decimal, space, newline, column}
use Rattle.bank.specs.Call.{frame_number}
use Rattle.frame_table.specs.declared.fields.Fields.{Fields}
use Rattle.marker_column.specs.Offset.{request_offset, offset_room}

-- "records from standard input: time .., frame length (2), frame"; the time has the bytes of a timestamp (card 3: "8
-- bytes of milliseconds, as .. the marker's input"); s is the input from the record on
abbrev pub time_bytes : ℕ
time_bytes = width timestamp_tag

abbrev pub size_bytes : ℕ
size_bytes = 2

abbrev pub head_bytes : ℕ
head_bytes = time_bytes + size_bytes

unfoldable pub time_of : List ℕ → ℕ
time_of s = number (take time_bytes s)

unfoldable pub size_of : List ℕ → ℕ
size_of s = number (take size_bytes (drop time_bytes s))

unfoldable pub frame_in : List ℕ → List ℕ
frame_in s = take (size_of s) (drop head_bytes s)

-- "A record cut short ends the input"
unfoldable pub is_whole : List ℕ → Bool
is_whole s = leb head_bytes (length s) && leb (head_bytes + size_of s) (length s)

-- the code of the reply in the first n bytes of the buffer: its field 0D
unfoldable pub code_of : List ℕ → ℕ → List ℕ
code_of buffer n = code_text (return_code (read_reply (take n buffer)))

-- "a call given a number prints it in place of the code"
abbrev pub answer_text : Result ℕ WrongLength → List ℕ → List ℕ
answer_text (Ok n) buffer = code_of buffer n
answer_text (Err e) buffer = decimal (frame_number (Err number_one))

-- "each readable opening answered by a frame": whether a call is
abbrev pub is_answered : Result ℕ WrongLength → Bool
is_answered (Ok n) = true
is_answered (Err e) = false

-- the third column of a call that brought this frame and set this clock
abbrev pub offset_text : Result ℕ WrongLength → List ℕ → ℕ → List ℕ
offset_text a frame clock = request_offset (is_answered a) (read_request frame) clock

-- "Calls count from 1": the line of call n, which brought this frame and set this clock; the offset stands "in a third
-- column "offset" behind the code"
unfoldable pub line_of : ℕ → Result ℕ WrongLength → List ℕ → List ℕ → ℕ → List ℕ
line_of n a buffer frame clock =
    column n space ++ (answer_text a buffer ++ (space ∷ offset_text a frame clock ++ (newline ∷ [])))

-- the same text and line, from the return code of the reply and the request
abbrev pub coded_text : Result ℕ WrongLength → ℕ → List ℕ
coded_text (Ok n) code = code_text code
coded_text (Err e) code = decimal (frame_number (Err number_one))

unfoldable pub coded_line : ℕ → Result ℕ WrongLength → ℕ → Fields → ℕ → List ℕ
coded_line n a code q clock =
    column n space ++ (coded_text a code ++ (space ∷ request_offset (is_answered a) q clock ++ (newline ∷ [])))

-- the most bytes that a line takes: a number, a space, a return code, a space, an offset, a newline
abbrev pub line_room : ℕ
line_room = max_digits + 1 + code_digits + 1 + offset_room + 1

abbrev pub call_header : List ℕ
call_header = ascii "call code offset\n"

abbrev pub header_room : ℕ
header_room = 17
