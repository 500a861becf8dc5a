-- The course of a line, messages put in one after another, and what holds of every one.
use Rattle.std.specs.Prelude.{ℕ, zero, suc, ◌+◌, ◌%◌, ◌≤◌, ◌<◌, Bool, false, cond, ◌≡◌, eqb, length, get_or}
use mathlib.Core.List.{List, [], ◌∷◌, ◌++◌, map, Memᴰ as In}
use Rattle.line.specs.declared.decision.Decision.{Decision}
use Rattle.line.specs.declared.decision.Decision.TheVariants.{Lose, Hold, Deliver}
use Rattle.line.specs.Generator.{value_limit, moved}
use Rattle.line.specs.Line.{
  Message,
  most_held,
  Line,
  made,
  outcomes,
  delivered,
  stepped,
  decided,
  put,
  out_of,
}

-- the line after some messages
unfoldable pub after : Line → List Message → Line
after l [] = l
after l (m ∷ ms) = after (put l m).next ms

-- all that comes out, in its order
unfoldable pub course : Line → List Message → List Message
course l [] = []
course l (m ∷ ms) = out_of m (put l m) ++ course (put l m).next ms

-- the messages that the line takes to hold, in the order of holding
abbrev pub held_by : Decision → Message → List Message
held_by Lose m = []
held_by Hold m = m ∷ []
held_by (Deliver n) m = []

unfoldable pub holding : Line → List Message → List Message
holding l [] = []
holding l (m ∷ ms) = held_by (decided (stepped l)) m ++ holding (put l m).next ms

-- the held ones that come out, in their order
unfoldable pub releases : Line → List Message → List Message
releases l [] = []
releases l (m ∷ ms) = (put l m).released ++ releases (put l m).next ms

-- how many of a list a test picks
unfoldable pub times : (Message → Bool) → List Message → ℕ
times p [] = 0
times p (m ∷ ms) = cond (p m) 1 0 + times p ms

-- ---- messages told apart by the places at which they are put in, since two may have the same bytes

-- n messages from place i on, each of which is its place's number
unfoldable pub places_from : ℕ → ℕ → List Message
places_from i zero = []
places_from i (suc n) = (i ∷ []) ∷ places_from (suc i) n

-- the places of these messages
abbrev pub places : List Message → List Message
places ms = places_from 0 (length ms)

-- the message put in at a place
abbrev pub message_at : List Message → Message → Message
message_at ms [] = []
message_at ms (i ∷ is) = get_or ms i []

abbrev pub is_place : ℕ → Message → Bool
is_place i [] = false
is_place i (j ∷ js) = eqb j i

-- ---- WHAT HOLDS OF EVERY LIST OF MESSAGES PUT INTO A FRESH LINE

pub record Lossy (seed : ℕ) (ms : List Message) : Type 0 where
  -- "Only messages put in come out", and no others are held
  pub only : (m : Message) → In m (course (made seed) ms) → In m ms
  pub kept : (m : Message) → In m (after (made seed) ms).held → In m ms
  -- "one seed gives the same messages the same course": which places come out is told by the seed and the number of
  -- messages alone
  pub by_places : course (made seed) ms ≡ map (message_at ms) (course (made seed) (places ms))
  -- the message put in at a place comes out at most twice, and where it is taken to hold at most once
  pub twice : (i : ℕ) →
      times (is_place i) (course (made seed) (places ms)) + times (is_place i) (holding (made seed) (places ms)) ≤ 2
  -- "the one held longest comes out": held ones in the order of holding, first those that came out, then those held still
  pub in_order : holding (made seed) ms ≡ releases (made seed) ms ++ (after (made seed) ms).held
  -- "A line holds up to 8 messages"
  pub most : length (after (made seed) ms).held ≤ most_held
  -- "with 8 held, 2 delivers", and the one held longest comes out behind it
  pub full : (m : Message) → length (after (made seed) ms).held ≡ most_held →
      moved (after (made seed) ms).value % outcomes ≡ 2 →
      put (after (made seed) ms) m ≡ delivered 1 (stepped (after (made seed) ms))
  -- "at most three come out of one call" (reading 9.3)
  pub three : (m : Message) → length (out_of m (put (after (made seed) ms) m)) ≤ 3
  -- the generator stays within 32 bits, and never comes to 0
  pub live : 0 < seed → seed < value_limit →
      (0 < (after (made seed) ms).value) × ((after (made seed) ms).value < value_limit)
