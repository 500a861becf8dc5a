-- A line in use and the calls of `line` on lent memory: what a call leaves and tells is what `carry` says.
use Rattle.std.specs.Prelude.{Result, Ok, Err, Option, Some, None}
use Rattle.std.specs.Prelude.{ℕ, ◌≤◌, ◌<◌, List, [], ◌∷◌, ◌++◌, ◌≡◌, length, take, replicate}
use Rattle.number_table.specs.declared.table.WrongLength.{WrongLength}
use Rattle.line.specs.declared.calls.Delivery.{Delivery}
use Rattle.line.specs.Generator.{value_limit}
use Rattle.line.specs.Line.{Message, message_bytes}
use Rattle.line.specs.Calls.{make_call, PutCall, put_call, Lies}
use Rattle.exchange_lines.specs.Lines.{InUse, unused, carry}

-- what came out, with the held one behind it
abbrev pub with_held : Option ℕ → List Message → List ℕ → List Message
with_held None out buffer = out
with_held (Some k) out buffer = out ++ (take k buffer ∷ [])

-- what an answer tells to have come out: copies of the message put in, and the held one at the front of the buffer
abbrev pub out_by : Result Delivery WrongLength → Message → List ℕ → List Message
out_by (Ok d) m buffer = with_held d.held (replicate d.copies m) buffer
out_by (Err e) m buffer = []

-- what a call on the memory of the line u leaves: the memory of the line w, and told as come out what w has more
pub record Carries (k : PutCall) (m : Message) (u w : InUse) : Type 0 where
  pub line : Lies w.line k.row k.store
  pub out : w.out ≡ u.out ++ out_by k.answer m k.out

-- a line that is made is a fresh one, and a message put into a line's memory is carried as between both ends
pub record LineCalls : Type 0 where
  pub fresh : (row store : List ℕ) (seed : ℕ) → seed < value_limit → (make_call row store seed).answer ≡ Ok tt →
      Lies (unused seed).line (make_call row store seed).row store
  pub carries : (u : InUse) (m : Message) (row store buffer : List ℕ) → Lies u.line row store →
      message_bytes ≤ length buffer → Carries (put_call row store m buffer) m u (carry m u)
