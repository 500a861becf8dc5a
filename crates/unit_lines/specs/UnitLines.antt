-- The unit's lines over every list of records: what each is by the records alone, and what lent memory is.
use Rattle.std.specs.Prelude.{ℕ, ◌≤◌, ◌<◌, Bool, true, false, cond, not, ◌&&◌, List, [], ◌∷◌, ◌++◌, ◌≡◌, eqb, leb, length, replicate}
use Rattle.number_table.specs.Table as numbers
use Rattle.octets.specs.Bytes.{Bytes, overwrite}
use Rattle.line.specs.Line.{Message, message_bytes, Line, made, put}
use Rattle.line.specs.Course.{after}
use Rattle.line.specs.Memory.{joined}
use Rattle.line.specs.Calls.{answer_for, Lies}
use Rattle.unit_state.specs.declared.answer.Answer.TheVariants.{Number, NoCall}
use Rattle.unit_state.specs.declared.record.Kind.{Kind}
use Rattle.unit_state.specs.declared.record.Kind.TheVariants as kind
use Rattle.unit_state.specs.Records.{seed_of, body_of, line_count, call_of}
use Rattle.unit_rows.specs.Lines.{lines_size, stores_bytes, Lines, lines_of, row_at, store_at, is_made}
use Rattle.unit.specs.State.{State}
use Rattle.unit.specs.Call.{out_answer, line_index, rooms_of, unit_call}

-- ---- BY THE RECORDS ALONE

-- a line of the unit: whether it is made, and what it is since
pub record Used : Type 0 where
  pub in_use : Bool
  pub line : Line

abbrev pub unused : Used
unused = record { in_use = false; line = made 0 }

abbrev pub used : Line → Used
used l = record { in_use = true; line = l }

-- `L`: "a line is made, afresh also where there is one"; "an `L` given a number leaves the line as it was"
abbrev pub made_by : ℕ → List ℕ → Used → Used
made_by i r u = cond (eqb (line_index r) i && not (eqb (seed_of r) 0)) (used (made (seed_of r))) u

-- `W`: "the message is put into that line"; "longer ones get number 1"
abbrev pub message_of : List ℕ → Message
message_of r = body_of kind.PutIn r

abbrev pub put_by : ℕ → List ℕ → Used → Used
put_by i r u =
    cond (eqb (line_index r) i && (u.in_use && leb (length (message_of r)) message_bytes))
    (used (put u.line (message_of r)).next) u

-- line i after a record of this kind
abbrev pub used_by : Kind → ℕ → List ℕ → Used → Used
used_by kind.Frame i r u = u
used_by kind.File i r u = u
used_by (kind.Run e) i r u = u
used_by kind.Journal i r u = u
used_by kind.Away i r u = u
used_by kind.TakeUp i r u = u
used_by kind.Image i r u = u
used_by kind.ValueDay i r u = u
used_by kind.MakeLine i r u = made_by i r u
used_by kind.PutIn i r u = put_by i r u
used_by kind.Counts i r u = u
used_by kind.NoCall i r u = u

-- line i after these records
unfoldable pub used_after : ℕ → List (List ℕ) → Used → Used
used_after i [] u = u
used_after i (r ∷ rs) u = used_after i rs (used_by (call_of r) i r u)

-- the messages that a record of this kind, and these records, put into line i
abbrev pub sent_by : Kind → ℕ → List ℕ → List Message
sent_by kind.Frame i r = []
sent_by kind.File i r = []
sent_by (kind.Run e) i r = []
sent_by kind.Journal i r = []
sent_by kind.Away i r = []
sent_by kind.TakeUp i r = []
sent_by kind.Image i r = []
sent_by kind.ValueDay i r = []
sent_by kind.MakeLine i r = []
sent_by kind.PutIn i r =
    cond (eqb (line_index r) i && leb (length (message_of r)) message_bytes) (message_of r ∷ []) []
sent_by kind.Counts i r = []
sent_by kind.NoCall i r = []

unfoldable pub sent_to : ℕ → List (List ℕ) → List Message
sent_to i [] = []
sent_to i (r ∷ rs) = sent_by (call_of r) i r ++ sent_to i rs

-- none of them makes line i afresh
abbrev pub kept_by : Kind → ℕ → List ℕ → Bool
kept_by kind.Frame i r = true
kept_by kind.File i r = true
kept_by (kind.Run e) i r = true
kept_by kind.Journal i r = true
kept_by kind.Away i r = true
kept_by kind.TakeUp i r = true
kept_by kind.Image i r = true
kept_by kind.ValueDay i r = true
kept_by kind.MakeLine i r = not (eqb (line_index r) i && not (eqb (seed_of r) 0))
kept_by kind.PutIn i r = true
kept_by kind.Counts i r = true
kept_by kind.NoCall i r = true

unfoldable pub kept_in : ℕ → List (List ℕ) → Bool
kept_in i [] = true
kept_in i (r ∷ rs) = kept_by (call_of r) i r && kept_in i rs

-- ---- IN LENT MEMORY

-- line i of the memory is this one
pub record IsUsed (u : Used) (m : Lines) (i : ℕ) : Type 0 where
  pub lies : u.in_use ≡ true → Lies u.line (row_at m.rows i) (store_at m.stores i)
  pub none : u.in_use ≡ false → is_made (row_at m.rows i) ≡ false

abbrev pub LinesAre : (ℕ → Used) → State → Type 0
LinesAre us s = (i : ℕ) → i < line_count → IsUsed (us i) s.memory.lines i

-- what is lent to the call of a record: bytes, rooms of their lengths, and a buffer for a held message
pub record LentTo (s : State) (r : List ℕ) : Type 0 where
  pub bytes : Bytes r
  pub rooms : rooms_of s.memory ≡ true
  pub buffer : message_bytes ≤ length s.memory.buffer

pub data Records : State → List (List ℕ) → Type 0 where
  none : {s : State} → Records s []
  more : {s : State} {r : List ℕ} {rs : List (List ℕ)} → LentTo s r → Records (unit_call s r).state rs →
      Records s (r ∷ rs)

-- the unit after the calls of these records
unfoldable pub unit_after : State → List (List ℕ) → State
unit_after s [] = s
unit_after s (r ∷ rs) = unit_after (unit_call s r).state rs

-- ---- THE CLAIMS

-- "none made" in a fresh unit
unfoldable pub FreshLines : Type 0
FreshLines = (s : State) → s.memory.lines ≡ lines_of (replicate lines_size 0) (replicate stores_bytes 0) →
    LinesAre (λ i. unused) s

-- after any records each line of the memory is what the records alone make of it
unfoldable pub UnitLines : Type 0
UnitLines = (s : State) (us : ℕ → Used) → LinesAre us s → (rs : List (List ℕ)) → Records s rs →
    LinesAre (λ i. used_after i rs (us i)) (unit_after s rs)

-- from one `L` to the next a line is after the messages put into it, so that `Lossy` speaks of what comes out
unfoldable pub UnitCourse : Type 0
UnitCourse = (i : ℕ) (l : Line) (rs : List (List ℕ)) → kept_in i rs ≡ true →
    used_after i rs (used l) ≡ used (after l (sent_to i rs))

-- what a `W` is answered: what comes out of that line, the held one in the buffer; number 1 for a message over 1,024
-- bytes; nothing where the line is not made
pub record Answered (u : Used) (s : State) (r : List ℕ) : Type 0 where
  pub out : u.in_use ≡ true → length (message_of r) ≤ message_bytes →
      let p = put u.line (message_of r) in
      ((unit_call s r).answer ≡ out_answer (answer_for p.copies p.released))
      × ((unit_call s r).state.memory.buffer ≡ overwrite s.memory.buffer 0 (joined p.released))
  pub long : u.in_use ≡ true → message_bytes < length (message_of r) →
      (unit_call s r).answer ≡ Number numbers.wrong_length
  pub none : u.in_use ≡ false → (unit_call s r).answer ≡ NoCall

unfoldable pub UnitAnswers : Type 0
UnitAnswers = (s : State) (us : ℕ → Used) → LinesAre us s → (r : List ℕ) → LentTo s r → call_of r ≡ kind.PutIn →
    Answered (us (line_index r)) s r
