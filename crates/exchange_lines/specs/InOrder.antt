-- The narrow reading of card 9's "every message goes over lines": what came out of a line is handed on each once, in the
-- order in which it came out.
use Rattle.std.specs.Prelude.{ℕ, suc, ◌<◌, cond, false, List, [], ◌∷◌, ◌≡◌, eqb, length, get_or}
use Rattle.line.specs.Line.{Message}
use Rattle.exchange.specs.Course.{changed, call_number}
use Rattle.exchange.specs.Demand3.{is_subscribers}
use Rattle.exchange_lines.specs.Lines.{
  InUse,
  Lines,
  Net,
  Seeds,
  fresh_net,
  Move,
  call_of,
  Passed,
  request,
  reply,
  stray,
  none,
  passed,
  next,
}
use Rattle.exchange_lines.specs.Claims.{AtEach, OverLine}

-- how many messages of each line were handed on
pub record Handed : Type 0 where
  pub requests : ℕ → ℕ
  pub replies : ℕ → ℕ

abbrev pub none_handed : Handed
none_handed = record { requests = λ i. 0; replies = λ i. 0 }

abbrev pub handed_on : Passed → Handed → Handed
handed_on (request i m) h = record { requests = changed h.requests i (suc (h.requests i)); replies = h.replies }
handed_on (reply i m) h = record { requests = h.requests; replies = changed h.replies i (suc (h.replies i)) }
handed_on (stray m) h = h
handed_on none h = h

-- a call given a number hands nothing on
abbrev pub handed_after : Move → Handed → Handed
handed_after m h = cond (eqb (call_number (call_of m)) 0) (handed_on (passed m) h) h

-- the first that came out of the line after those handed on
abbrev pub FirstLeft : ℕ → Message → InUse → Type 0
FirstLeft handed m u = (handed < length u.out) × (get_or u.out handed [] ≡ m)

abbrev pub IsNext : Passed → Handed → Lines → Type 0
IsNext (request i m) h ls = FirstLeft (h.requests i) m (ls.requests i)
IsNext (reply i m) h ls = FirstLeft (h.replies i) m (ls.replies i)
IsNext (stray m) h ls = is_subscribers m ≡ false
IsNext none h ls = Unit {0}

-- each call given no number hands on the next message of its line, or none
abbrev pub AllNext : Handed → List Move → Net → Type 0
AllNext h [] n = Unit {0}
AllNext h (m ∷ ms) n = (call_number (call_of m) ≡ 0 → IsNext (passed m) h n.lines) × AllNext (handed_after m h) ms (next m n)

-- a list of calls read so is one whose messages go over lines
unfoldable pub OnceInOrder : Type 0
OnceInOrder = (seeds : Seeds) (ms : List Move) → AllNext none_handed ms (fresh_net seeds) → AtEach OverLine ms (fresh_net seeds)
