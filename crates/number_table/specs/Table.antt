-- The numbers that a call is given where it is refused without a frame: document 01, "Who can cause which refusal", and
-- the cards of document 02. A row each, whose name every answer's definition of a number cites.
use Rattle.std.specs.Prelude.{ℕ, zero, suc, ◌+◌, List, [], ◌∷◌}

-- ---- *The host* ("a number, nothing changed, clock included")

-- "a lent length differs from the above or is too short for what is to be written"; of the frame writer "fields of no
-- form, values outside their list or too short a buffer"; card 3: a value over the last one "as bank or client time";
-- card 9: "longer ones get number 1"
abbrev pub wrong_length : ℕ
wrong_length = 1

-- "mailbox not 1 to 8"
abbrev pub no_mailbox : ℕ
no_mailbox = 2

-- "file of 0 or over 3,840 bytes", since card 6 over 7,936
abbrev pub wrong_file : ℕ
wrong_file = 3

-- "mailbox holds a file"
abbrev pub mailbox_full : ℕ
mailbox_full = 4

-- ---- *The client's owner* ("nothing changed")

-- "an upload's payload of 0 or over 3,840 bytes or of changed length, a download's file buffer not 3,840, request
-- buffer under 303 (upload runs ignore the file buffer, download runs the payload)", since card 6 with 7,936
abbrev pub wrong_buffer : ℕ
wrong_buffer = 5

-- "first exchange number over 4,294,967,200", since card 6 over 4,294,967,104
abbrev pub exchange_too_high : ℕ
exchange_too_high = 6

-- "subscriber not 1 to 8"
abbrev pub no_subscriber : ℕ
no_subscriber = 7

-- "the run has ended, begin comes to one already begun, or another call to one not begun"
abbrev pub wrong_stage : ℕ
wrong_stage = 8

-- ---- the cards

-- card 2: "It refuses, with number 9 after number 1, an image with a field outside that list or out of form, and leaves
-- the session unchanged"
abbrev pub not_admitted : ℕ
not_admitted = 9

-- card 7: "It refuses, with number 10, a booking time whose value day would lie after 2199"
abbrev pub too_late : ℕ
too_late = 10

-- card 9: "It refuses seed 0 with number 11"
abbrev pub seed_zero : ℕ
seed_zero = 11

-- ---- the table, in the papers' order; a card adds its row at the end

abbrev pub table : List ℕ
table =
    wrong_length ∷ no_mailbox ∷ wrong_file ∷ mailbox_full ∷ wrong_buffer ∷ exchange_too_high ∷ no_subscriber ∷ wrong_stage
    ∷ not_admitted ∷ too_late ∷ seed_zero ∷ []

-- so many numbers, one by one from the first on
unfoldable pub counted_from : ℕ → ℕ → List ℕ
counted_from first zero = []
counted_from first (suc n) = first ∷ counted_from (first + 1) n
