-- Card 9's line: what it holds, and what a message put into it does.
use Rattle.std.specs.Prelude.{ℕ, ◌%◌, cond, ◌&&◌, List, [], ◌∷◌, ◌++◌, eqb, ltb, length, get_or, take, drop, replicate}
use Rattle.line.specs.declared.decision.Decision.{Decision}
use Rattle.line.specs.declared.decision.Decision.TheVariants.{Lose, Hold, Deliver}
use Rattle.line.specs.Generator.{moved}

-- a message is its bytes
abbrev pub Message : Type 0
Message = List ℕ

-- "A line holds up to 8 messages of at most 1,024 bytes"
abbrev pub most_held : ℕ
most_held = 8

abbrev pub message_bytes : ℕ
message_bytes = 1024

-- a line: the generator's value, and the messages held, the one held longest first
pub record Line : Type 0 where
  pub value : ℕ
  pub held : List Message

abbrev pub line : ℕ → List Message → Line
line value held = record { value = value; held = held }

-- a line from a seed
abbrev pub made : ℕ → Line
made seed = line seed []

-- "its value modulo 8 decides"
abbrev pub outcomes : ℕ
outcomes = 8

-- "0 lose, 1 deliver twice, 2 hold, others deliver"; "with 8 held, 2 delivers"
unfoldable pub decision : ℕ → ℕ → Decision
decision value count =
    cond (eqb (value % outcomes) 0) Lose
    (cond (eqb (value % outcomes) 1) (Deliver 2)
    (cond (eqb (value % outcomes) 2 && ltb count most_held) Hold
    (Deliver 1)))

-- what one message put in does: how many copies of it come out, the held one that comes out behind them, where there is
-- one, and the line after it
pub record Put : Type 0 where
  pub copies : ℕ
  pub released : List Message
  pub next : Line

-- the message held longest, where there is one
abbrev pub oldest : Line → Message
oldest l = get_or l.held 0 []

-- the line with a message more held, and without the one held longest
abbrev pub with_newest : Message → Line → Line
with_newest m l = line l.value (l.held ++ (m ∷ []))

abbrev pub without_oldest : Line → Line
without_oldest l = line l.value (drop 1 l.held)

-- "Behind each delivered message (once, behind both copies of one delivered twice) the one held longest comes out"
abbrev pub delivered : ℕ → Line → Put
delivered n l = record { copies = n; released = take 1 l.held; next = without_oldest l }

unfoldable pub carried_out : Decision → Line → Message → Put
carried_out Lose l m = record { copies = 0; released = []; next = l }
carried_out Hold l m = record { copies = 0; released = []; next = with_newest m l }
carried_out (Deliver n) l m = delivered n l

-- "for each one put in, the 32-bit generator of Marsaglia ... moves once"
unfoldable pub stepped : Line → Line
stepped l = line (moved l.value) l.held

-- "and its value modulo 8 decides": the value after the move (reading 9.2)
abbrev pub decided : Line → Decision
decided l = decision l.value (length l.held)

unfoldable pub put : Line → Message → Put
put l m = carried_out (decided (stepped l)) (stepped l) m

-- the messages that come out, in their order
unfoldable pub out_of : Message → Put → List Message
out_of m p = replicate p.copies m ++ p.released
