-- Lines meet demand 3's premises on requests and replies, and its clauses hold over them. Assumes nothing.
use mathlib.Core.List.{List, [], ◌∷◌, ◌++◌, map-append}
use mathlib.Core.Path.{◌≡◌, refl, sym, ◌∙◌, subst}
use Rattle.octets.proofs.Tests.{never}
use Rattle.exchange.specs.Course.{
  Call,
  frame_arrives,
  file_put,
  begins,
  reply_arrives,
  no_reply,
  journal_handed,
  puts_away,
  takes_up,
  start,
  call_number,
  after,
}
use Rattle.exchange.specs.Demand3.{AllAllowed, OneExchangeNumber, Demand3}
use Rattle.exchange.specs.Terms.{Booked}
use Rattle.exchange.proofs.Theorem.{demand3}
use Rattle.exchange_lines.specs.Lines.{Net, Seeds, fresh_net, Move, to_bank, other, call_of, calls_of, next, net_after}
use Rattle.exchange_lines.specs.Claims.{
  AtEach,
  of_call,
  OverLine,
  Copied,
  Others,
  Own,
  LinesAlone,
  OwnMessages,
  PremisesMet,
  LinesAllowed,
  LinesClose,
}
use Rattle.exchange_lines.proofs.Kept.{Kept, own, call-keeps, kept_fresh}

-- ---- each run's own

module _ (seeds : Seeds) where
  each-own : (ms : List Move) (n : Net) → Kept seeds n.course n.lines → AtEach OverLine ms n →
      AtEach Own ms n × Kept seeds (net_after ms n).course (net_after ms n).lines
  unfolding net_after
  each-own [] n k o = (tt, k)
  each-own (m ∷ ms) n k o =
      let first : call_number (call_of m) ≡ 0 → Own m n = λ z. own seeds m n k (o.0 z) in
      let r = each-own ms (next m n) (call-keeps seeds m n k first) o.1 in
      ((first, r.0), r.1)

pub lines-alone : LinesAlone
unfolding LinesAlone
lines-alone seeds ms o i =
    let k = (each-own seeds ms (fresh_net seeds) (kept_fresh seeds) o).1 in (k.requests i, k.replies i)

pub own-messages : OwnMessages
unfolding OwnMessages
own-messages seeds ms o = (each-own seeds ms (fresh_net seeds) (kept_fresh seeds) o).0

-- ---- requests and replies

own-copied : (m : Move) (n : Net) → Own m n → Copied (call_of m) n.course
own-copied (to_bank i m a) n o = λ _. (i, o)
own-copied (other (frame_arrives m a)) n o = λ named. never (sym o ∙ named)
own-copied (other (file_put rows mailboxes m file)) n o = o
own-copied (other (begins i c params l)) n o = o
own-copied (other (reply_arrives i c bytes l)) n (e, j, r, x) = (e, j, r, (i, x))
own-copied (other (no_reply i c l)) n o = o
own-copied (other (journal_handed i c row)) n o = o
own-copied (other (puts_away m buffer)) n o = o
own-copied (other (takes_up m image)) n o = o

each-copied : (ms : List Move) (n : Net) → AtEach Own ms n → AtEach (of_call Copied) ms n
each-copied [] n o = tt
each-copied (m ∷ ms) n o = (λ z. own-copied m n (o.0 z), each-copied ms (next m n) o.1)

pub premises-met : PremisesMet
unfolding PremisesMet OwnMessages
premises-met seeds ms o = each-copied ms (fresh_net seeds) (own-messages seeds ms o)

-- ---- an allowed list

all-allowed : (ms : List Move) (n : Net) → AtEach (of_call Copied) ms n → AtEach (of_call Others) ms n →
    AllAllowed (calls_of ms) n.course
unfolding next
all-allowed [] n c a = tt
all-allowed (m ∷ ms) n c a = (λ z. a.0 z (c.0 z), all-allowed ms (next m n) c.1 a.1)

pub lines-allowed : LinesAllowed
unfolding LinesAllowed PremisesMet fresh_net
lines-allowed seeds ms o a = all-allowed ms (fresh_net seeds) (premises-met seeds ms o) a

-- ---- demand 3

pub lines-close : LinesClose
unfolding LinesClose Demand3 LinesAllowed
lines-close seeds ms ls o a numbers =
    let split = map-append call_of ms ls in
    let d = demand3 (calls_of ms) (calls_of ls)
    (subst (λ (l : List Call). AllAllowed l start) split (lines-allowed seeds (ms ++ ls) o a))
    (subst (λ (l : List Call). OneExchangeNumber (after l start)) split numbers) in
    (d.0, d.1, λ i e b. d.2 i e (subst (λ (l : List Call). Booked (after l start) i) split b))

-- ---- the course of the net is the calls'

pub net-course : (ms : List Move) (n : Net) → (net_after ms n).course ≡ after (calls_of ms) n.course
unfolding net_after after next
net-course [] n = refl
net-course (m ∷ ms) n = net-course ms (next m n)
