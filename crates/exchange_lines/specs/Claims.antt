-- Document 02, card 9: "Where every message goes over lines, two fresh ones for each run, one each way, with its
-- requests and the replies to them alone, and no exchange number is shared, demand 3's premises on requests and replies
-- are met."
use Rattle.std.specs.Prelude.{ℕ, true, false, cond, ◌≡◌, eqb}
use mathlib.Core.List.{List, [], ◌∷◌, ◌++◌, Memᴰ as In}
use Rattle.line.specs.Line.{Message, made}
use Rattle.line.specs.Course as line
use Rattle.bank.specs.Call.{FrameInput}
use Rattle.bank_session.specs.Session.{LentSession, session_frame_call}
use Rattle.client_run.specs.declared.run.Stage.TheVariants as stage
use Rattle.client_run.specs.declared.run.Word.TheVariants.{NotLodged}
use Rattle.exchange.specs.Course.{
  Call,
  frame_arrives,
  file_put,
  begins,
  reply_arrives,
  no_reply,
  journal_handed,
  puts_away,
  takes_up,
  Issue,
  Exchange,
  Course,
  start,
  call_number,
  reply_in,
  after,
}
use Rattle.exchange.specs.Terms.{IssuedBy, Booked}
use Rattle.exchange.specs.Demand3.{is_subscribers, Premise, AllAllowed, OneExchangeNumber, Outcome, ClosesInTurn}
use Rattle.exchange_lines.specs.Lines.{
  InUse,
  unused,
  carry,
  Lines,
  Net,
  Seeds,
  fresh_net,
  Move,
  to_bank,
  call_of,
  calls_of,
  Passed,
  request,
  reply,
  stray,
  none,
  passed,
  next,
  net_after,
}

-- what is asked of each call given no number, in the net that the calls before it leave
abbrev pub AtEach : (Move → Net → Type 0) → List Move → Net → Type 0
AtEach P [] n = Unit {0}
AtEach P (m ∷ ms) n = (call_number (call_of m) ≡ 0 → P m n) × AtEach P ms (next m n)

-- asked of the call alone
abbrev pub of_call : (Call → Course → Type 0) → Move → Net → Type 0
of_call P m n = P (call_of m) n.course

-- ---- "WHERE EVERY MESSAGE GOES OVER LINES"

-- What goes to the bank from run i came out of its request line, and what goes to run i out of its reply line; when, how
-- often and in which order is left free. A frame that demand 3 does not name is no message of a run, and may come
-- besides: an unreadable one, one under no subscriber's number, a signing
abbrev pub IsOut : Passed → Lines → Type 0
IsOut (request i m) ls = In m (ls.requests i).out
IsOut (reply i m) ls = In m (ls.replies i).out
IsOut (stray m) ls = is_subscribers m ≡ false
IsOut none ls = Unit {0}

abbrev pub OverLine : Move → Net → Type 0
OverLine m n = IsOut (passed m) n.lines

-- ---- "DEMAND 3'S PREMISES ON REQUESTS AND REPLIES"

-- "A request that demand 3 names is a copy of one issued earlier in the list; a reply is a copy of one the bank gave
-- earlier for such a copy"
abbrev pub Copied : Call → Course → Type 0
Copied (frame_arrives m a) s = is_subscribers a.frame ≡ true → (i : ℕ) × IssuedBy i a.frame s
Copied (file_put rows mailboxes m file) s = Unit {0}
Copied (begins i c params l) s = Unit {0}
Copied (reply_arrives i c bytes l) s =
    (e : Exchange) × In e s.exchanged × (e.reply ≡ bytes) × ((j : ℕ) × IssuedBy j e.request s)
Copied (no_reply i c l) s = Unit {0}
Copied (journal_handed i c row) s = Unit {0}
Copied (puts_away m buffer) s = Unit {0}
Copied (takes_up m image) s = Unit {0}

-- its others, on what a call is lent and on images: what makes its premise whole once these are met
abbrev pub Others : Call → Course → Type 0
Others k s = Copied k s → Premise k s

-- ---- MORE THAN THESE: EACH RUN'S OWN

-- a reply that the bank gave to a request of run i
abbrev pub Answered : ℕ → Message → Course → Type 0
Answered i m s = (e : Exchange) × In e s.exchanged × (e.reply ≡ m) × IssuedBy i e.request s

-- a message out of run i's request line is one that run i issued, and one to run i the bank's reply to such a request
abbrev pub IsOwn : Passed → Course → Type 0
IsOwn (request i m) s = IssuedBy i m s
IsOwn (reply i m) s = Answered i m s
IsOwn (stray m) s = is_subscribers m ≡ false
IsOwn none s = Unit {0}

abbrev pub Own : Move → Net → Type 0
Own m n = IsOwn (passed m) n.course

-- a line in use from a seed: what it is and what came out of it is the course of some messages put in, each of which is
-- one that P tells
abbrev pub IsCourse : ℕ → (Message → Type 0) → InUse → Type 0
IsCourse seed P u = (ms : List Message) × ((m : Message) → In m ms → P m) × (u.line ≡ line.after (made seed) ms)
    × (u.out ≡ line.course (made seed) ms)

-- ---- ALL OF EACH RUN'S MESSAGES

-- the requests that run i issued, the newest first
abbrev pub requests_of : ℕ → List Issue → List Message
requests_of i [] = []
requests_of i (x ∷ l) = cond (eqb i x.run) (x.frame ∷ requests_of i l) (requests_of i l)

-- messages put in, the last one first
abbrev pub carry_all : List Message → InUse → InUse
carry_all [] u = u
carry_all (m ∷ ms) u = carry m (carry_all ms u)

-- over all seeds and every list of calls: each request that run i issued was put into its request line, in the order of
-- issuing
unfoldable pub RequestsWhole : Type 0
RequestsWhole = (seeds : Seeds) (ms : List Move) (i : ℕ) →
    let n = net_after ms (fresh_net seeds) in
    n.lines.requests i ≡ carry_all (requests_of i n.course.issued) (unused (seeds.requests i))

-- and the reply that the bank gives to a frame out of run i's request line is put into its reply line
unfoldable pub RepliesPut : Type 0
RepliesPut = (i : ℕ) (m : LentSession) (a : FrameInput) (n : Net) → call_number (frame_arrives m a) ≡ 0 →
    let k = session_frame_call m a in
    (next (to_bank i m a) n).lines.replies i ≡ carry (reply_in k.answer k.buffer) (n.lines.replies i)

-- ---- THE CLAIMS, over all seeds and every list of calls over lines

-- "with its requests and the replies to them alone"
unfoldable pub LinesAlone : Type 0
LinesAlone = (seeds : Seeds) (ms : List Move) → AtEach OverLine ms (fresh_net seeds) → (i : ℕ) →
    let n = net_after ms (fresh_net seeds) in
    IsCourse (seeds.requests i) (λ (m : Message). IssuedBy i m n.course) (n.lines.requests i)
    × IsCourse (seeds.replies i) (λ (m : Message). Answered i m n.course) (n.lines.replies i)

unfoldable pub OwnMessages : Type 0
OwnMessages = (seeds : Seeds) (ms : List Move) → AtEach OverLine ms (fresh_net seeds) → AtEach Own ms (fresh_net seeds)

-- "demand 3's premises on requests and replies are met"
unfoldable pub PremisesMet : Type 0
PremisesMet = (seeds : Seeds) (ms : List Move) → AtEach OverLine ms (fresh_net seeds) →
    AtEach (of_call Copied) ms (fresh_net seeds)

-- so that the list, its others met, is one that demand 3 allows
unfoldable pub LinesAllowed : Type 0
LinesAllowed = (seeds : Seeds) (ms : List Move) → AtEach OverLine ms (fresh_net seeds) →
    AtEach (of_call Others) ms (fresh_net seeds) → AllAllowed (calls_of ms) start

-- and demand 3's clauses hold of it, "and no exchange number is shared"; "not lodged" in every continuation
unfoldable pub LinesClose : Type 0
LinesClose = (seeds : Seeds) (ms ls : List Move) → AtEach OverLine (ms ++ ls) (fresh_net seeds) →
    AtEach (of_call Others) (ms ++ ls) (fresh_net seeds) →
    let s = after (calls_of ms) start in
    let end = after (calls_of (ms ++ ls)) start in
    OneExchangeNumber end →
    Outcome s
    × ClosesInTurn (calls_of ms)
    × ((i : ℕ) → (s.runs i).stage ≡ stage.Ended NotLodged → Booked end i → ⊥)
