-- Lists of calls whose premises are tests: to a list that passes them the theorem of demand 3 applies. Assumes nothing.
use Prim.Native.Nat.{ℕ, zero, suc, ◌+◌}
use mathlib.Core.Bool.{Bool, true, false, not, ◌&&◌, ◌||◌}
use mathlib.Core.List.Memᴰ.{head as here}
use mathlib.Core.List.Memᴰ.{tail as there}
use mathlib.Core.List.{
  List,
  [],
  ◌∷◌,
  map,
  append-nil,
  Memᴰ as In,
}
use mathlib.Core.Logic.{◌⊎◌, inl, inr}
use mathlib.Core.Path.{◌≡◌, refl, sym, ap, ◌∙◌, subst}
use lib.Dec.{eqb, leb}
use lib.ListN.{replicate}
use borrow.Author.Tests.{eq-eqb, eqb-true, leb-true}
use Rattle.frame_table.specs.Names.{exchange, return_code, form}
use Rattle.frame_reader.specs.Reader.{read_request, read_reply}
use Rattle.octets.proofs.Tests.{never, and-true, or-true}
use Rattle.message.specs.declared.codes.ReturnCode.TheVariants as code
use Rattle.message.specs.declared.editions.Edition.TheVariants.{V24}
use Rattle.message.specs.Codes.{code_field}
use Rattle.message.specs.Limits.{file_bytes}
use Rattle.bank_state.specs.Limits.{id_bytes, idle_limit, reply_room}
use Rattle.bank_state.specs.Search.{open_count_of}
use Rattle.bank.specs.Call.{FrameInput, frame_input}
use Rattle.bank_admitted.specs.State.{StateHolds}
use Rattle.image_calls.specs.Calls.{image_length}
use Rattle.message.specs.declared.directions.Direction.{Direction}
use Rattle.message.specs.declared.directions.Direction.TheVariants.{Upload}
use Rattle.client_run.specs.declared.run.RunParameters.{RunParameters}
use Rattle.client_run.specs.declared.run.Stage.TheVariants as stage
use Rattle.client_run.specs.declared.run.Word.TheVariants.{Lodged, Fetched}
use Rattle.client_run.specs.Run.{Lent, lent_of, parameters_of, terms_of25, request_room, nonce_bytes}
use Rattle.exchange.specs.Course.{
  Call,
  frame_arrives,
  file_put,
  begins,
  reply_arrives,
  no_reply,
  journal_handed,
  puts_away,
  takes_up,
  Issue,
  Exchange,
  Arrival,
  Course,
  start,
  call_number,
  exec,
  after,
}
use Rattle.exchange.specs.Terms.{IssuedBy, NoIdleHour, InTurn, IsOpened, Accepted, AllInTurn, Settled}
use Rattle.exchange.specs.Demand3.{is_subscribers, Allowed, AllAllowed, OneExchangeNumber, Outcome, ClosesInTurn, Demand3}
use Rattle.exchange.specs.Lists.{AtMostOne, skip, only, NoDup, none, more}
use Rattle.exchange.proofs.Calls.{carried}
use Rattle.exchange.proofs.Guards.{numbered-allowed, numbered-in-turn, stray-allowed, journal-allowed, put-allowed}
use Rattle.exchange.proofs.Theorem.{demand3}
use Rattle.exchange_examples.proofs.Standing.{
  standing,
  standing-numbers,
  standing-bank,
  standing-journal,
  Right,
  right-start,
  right-next,
}

-- ---- tests of lists

abbrev some : {A : Type 0} → (A → Bool) → List A → Bool
some f [] = false
some f (x ∷ l) = f x || some f l

abbrev every : {A : Type 0} → (A → Bool) → List A → Bool
every f [] = true
every f (x ∷ l) = f x && every f l

some_in : {A : Type 0} (f : A → Bool) (l : List A) → some f l ≡ true → (x : A) × In x l × (f x ≡ true)
some_in f [] h = never h
some_in {A} f (x ∷ l) h = at (f x) refl (some_in f l)
  where
    at : (b : Bool) → f x ≡ b → (some f l ≡ true → (y : A) × In y l × (f y ≡ true)) → (y : A) × In y (x ∷ l) × (f y ≡ true)
    at true e rest = (x, here refl, e)
    at false e rest = let o = rest (or-true (f x) (some f l) e h) in (o.0, there o.1, o.2)

every_in : {A : Type 0} (f : A → Bool) {x : A} {l : List A} → every f l ≡ true → In x l → f x ≡ true
every_in f h (here {x = y} {xs = l} e) = ap f e ∙ (and-true (f y) (every f l) h).0
every_in f h (there {x = y} {xs = l} m) = every_in f (and-true (f y) (every f l) h).1 m

-- "if a then b"
abbrev implies : Bool → Bool → Bool
implies a b = not a || b

then : (a b : Bool) → implies a b ≡ true → a ≡ true → b ≡ true
then true b h e = h
then false b h e = never e

pub not-both : {a : Bool} → not a ≡ true → a ≡ true → ⊥
not-both h e = never (sym (ap not e) ∙ h)

pub both : {a b : Bool} → a ≡ true → b ≡ true → a && b ≡ true
both e h = λ x. e x && h x

abbrev pub same_bytes : List ℕ → List ℕ → Bool
same_bytes [] [] = true
same_bytes [] (b ∷ m) = false
same_bytes (a ∷ l) [] = false
same_bytes (a ∷ l) (b ∷ m) = eqb a b && same_bytes l m

pub same_bytes_lem : (l m : List ℕ) → same_bytes l m ≡ true → l ≡ m
same_bytes_lem [] [] h = refl
same_bytes_lem [] (b ∷ m) h = never h
same_bytes_lem (a ∷ l) [] h = never h
same_bytes_lem (a ∷ l) (b ∷ m) h =
    let o = and-true (eqb a b) (same_bytes l m) h in
    let e = eqb-true a b o.0 in
    let r = same_bytes_lem l m o.1 in
    λ x. e x ∷ r x

bytes_same : (l m : List ℕ) → l ≡ m → same_bytes l m ≡ true
bytes_same l m e = ap (same_bytes l) (sym e) ∙ self l
  where
    self : (k : List ℕ) → same_bytes k k ≡ true
    self [] = refl
    self (a ∷ k) = rw (eq-eqb a a refl) (self k)

abbrev distinct : List ℕ → Bool
distinct [] = true
distinct (n ∷ l) = every (λ (m : ℕ). not (eqb n m)) l && distinct l

distinct-nodup : (l : List ℕ) → distinct l ≡ true → NoDup l
distinct-nodup [] h = none
distinct-nodup (n ∷ l) h =
    let a = and-true (every (λ (m : ℕ). not (eqb n m)) l) (distinct l) h in
    more (λ m. not-both (every_in (λ (k : ℕ). not (eqb n k)) a.0 m) (eq-eqb n n refl)) (distinct-nodup l a.1)

-- ---- calls, each lent what the calls before left

abbrev pub nth : {A : Type 0} → A → ℕ → List A → A
nth empty n [] = empty
nth empty zero (x ∷ l) = x
nth empty (suc n) (x ∷ l) = nth empty n l

abbrev pub has : {A : Type 0} → ℕ → List A → Bool
has n [] = false
has zero (x ∷ l) = true
has (suc n) (x ∷ l) = has n l

nth_in : {A : Type 0} (empty : A) (n : ℕ) (l : List A) → has n l ≡ true → In (nth empty n l) l
nth_in empty n [] h = never h
nth_in empty zero (x ∷ l) h = here refl
nth_in empty (suc n) (x ∷ l) h = there (nth_in empty n l h)

-- two elements at the front have the property
pub not-once : {A : Type 0} (empty : A) (P : A → Type 0) (l : List A) → has 1 l ≡ true → P (nth empty 0 l) → P (nth empty 1 l) →
    AtMostOne P l → ⊥
not-once empty P [] h p q r = never h
not-once empty P (x ∷ []) h p q r = never h
not-once empty P (x ∷ y ∷ l) h p q (skip f r) = f p
not-once empty P (x ∷ y ∷ l) h p q (only f) = f y (here refl) q

-- numbers count back from the newest, which is 0
pub data Move : Type 0 where
  -- that request issued comes to the bank, at a time
  comes : ℕ → ℕ → Move
  -- other bytes come to the bank, at a time
  stray : List ℕ → ℕ → Move
  -- a file into a mailbox
  puts : ℕ → List ℕ → Move
  -- run, time, parameters, payload
  begin_at : ℕ → ℕ → RunParameters → List ℕ → Move
  -- that reply given reaches a run
  reaches : ℕ → ℕ → Move
  -- no reply reaches a run
  silent : ℕ → Move
  -- a run is handed the journal
  hands : ℕ → Move
  -- the session is put away
  writes : Move
  -- that image is taken up, into memory of a fresh bank
  takes : ℕ → Move
  -- a call given a number
  numbered : Call → Move

-- run, direction, subscriber, first exchange number, payload
abbrev pub begin : ℕ → Direction → ℕ → ℕ → List ℕ → Move
begin i direction u first payload = begin_at i 1000 (parameters_of direction u first terms_of25) payload

-- an upload of edition 2.4: run, time, subscriber, first exchange number, order number chosen, payload
abbrev pub chooses : ℕ → ℕ → ℕ → ℕ → ℕ → List ℕ → Move
chooses i time u first n payload = begin_at i time (parameters_of Upload u first (record { edition = V24; number = n })) payload

-- what a run is lent at a time, and at the time of all calls but the late ones
abbrev pub lent_at : ℕ → List ℕ → List ℕ → Lent
lent_at time payload file = lent_of time (replicate nonce_bytes 0) payload file (replicate request_room 0)

abbrev pub lent : List ℕ → List ℕ → Lent
lent = lent_at 1000

abbrev pub request_at : ℕ → Course → List ℕ
request_at n s = (nth (record { run = 0; frame = []; file = []; box = [] }) n s.issued).frame

abbrev pub no_exchange : Exchange
no_exchange = record { request = []; reply = []; clock = 0; box = [] }

abbrev pub reply_at : ℕ → Course → List ℕ
reply_at n s = (nth no_exchange n s.exchanged).reply

-- what a frame call is lent besides the bank
abbrev pub input_at : ℕ → List ℕ → FrameInput
input_at time frame = frame_input time (replicate id_bytes 0) frame (replicate reply_room 0)

abbrev pub frame_called : List ℕ → ℕ → Course → Call
frame_called frame time s = frame_arrives (standing s) (input_at time frame)

-- what the session is put away into
abbrev pub room : List ℕ
room = replicate image_length 0

abbrev pub call_of : Move → Course → Call
call_of (comes n time) s = frame_called (request_at n s) time s
call_of (stray frame time) s = frame_called frame time s
call_of (puts m file) s = file_put (standing s).rows s.bank.mailboxes m file
call_of (begin_at i time params payload) s = begins i (s.runs i) params (lent_at time payload (replicate file_bytes 0))
call_of (reaches i n) s = reply_arrives i (s.runs i) (reply_at n s) (lent (s.payloads i) (s.files i))
call_of (silent i) s = no_reply i (s.runs i) (lent (s.payloads i) (s.files i))
call_of (hands i) s = journal_handed i (s.runs i) s.journal.row
call_of writes s = puts_away (standing s) room
call_of (takes n) s = takes_up (standing start) (nth [] n s.images)
call_of (numbered k) s = k

abbrev pub next : Move → Course → Course
next m s = exec (call_of m s) s

abbrev pub calls_of : List Move → Course → List Call
calls_of [] s = []
calls_of (m ∷ ms) s = call_of m s ∷ calls_of ms (next m s)

-- the course at the end, by these steps
abbrev pub end_by : (Move → Course → Course) → List Move → Course → Course
end_by step [] s = s
end_by step (m ∷ ms) s = end_by step ms (step m s)

abbrev pub end_of : List Move → Course → Course
end_of = end_by next

pub ends : (ms : List Move) (s : Course) → after (calls_of ms s) s ≡ end_of ms s
unfolding after
ends [] s = refl
ends (m ∷ ms) s = ends ms (next m s)

-- ---- allowed

abbrev pub is_issued : List ℕ → Course → Bool
is_issued frame s = some (λ (x : Issue). same_bytes x.frame frame) s.issued

issued : (frame : List ℕ) (s : Course) → is_issued frame s ≡ true → (i : ℕ) × IssuedBy i frame s
issued frame s h =
    let o = some_in (λ (x : Issue). same_bytes x.frame frame) s.issued h in
    (o.0.run, (o.0, o.1, refl, same_bytes_lem o.0.frame frame o.2))

abbrev pub is_allowed : Move → Course → Bool
is_allowed (comes n time) s = is_issued (request_at n s) s
is_allowed (stray frame time) s = not (is_subscribers frame)
is_allowed (puts m file) s = true
is_allowed (begin_at i time params payload) s = true
is_allowed (reaches i n) s = some (λ (e : Exchange). same_bytes e.reply (reply_at n s) && is_issued e.request s) s.exchanged
is_allowed (silent i) s = true
is_allowed (hands i) s = true
is_allowed writes s = true
is_allowed (takes n) s = has n s.images
is_allowed (numbered k) s = not (eqb (call_number k) 0)

-- what is no test: a session put away is given no number
abbrev pub asked : Move → Course → Type 0 → Type 0
asked (comes n time) s rest = rest
asked (stray frame time) s rest = rest
asked (puts m file) s rest = rest
asked (begin_at i time params payload) s rest = rest
asked (reaches i n) s rest = rest
asked (silent i) s rest = rest
asked (hands i) s rest = rest
asked writes s rest = (call_number (puts_away (standing s) room) ≡ 0) × rest
asked (takes n) s rest = rest
asked (numbered k) s rest = rest

-- asked at each writing of a list, by these steps
abbrev pub AskedBy : (Move → Course → Course) → List Move → Course → Type 0
AskedBy step [] s = Unit {0}
AskedBy step (m ∷ ms) s = asked m s (AskedBy step ms (step m s))

abbrev pub Asked : List Move → Course → Type 0
Asked = AskedBy next

-- what is asked, of another rest
pub asked-rest : (m : Move) (s : Course) (rest other : Type 0) → (rest → other) → asked m s rest → asked m s other
asked-rest (comes n time) s rest other f r = f r
asked-rest (stray frame time) s rest other f r = f r
asked-rest (puts m file) s rest other f r = f r
asked-rest (begin_at i time params payload) s rest other f r = f r
asked-rest (reaches i n) s rest other f r = f r
asked-rest (silent i) s rest other f r = f r
asked-rest (hands i) s rest other f r = f r
asked-rest writes s rest other f r = (r.0, f r.1)
asked-rest (takes n) s rest other f r = f r
asked-rest (numbered k) s rest other f r = f r

pub allowed : (m : Move) (s : Course) (rest : Type 0) → StateHolds s.bank → asked m s rest → is_allowed m s ≡ true →
    Allowed (call_of m s) s × rest
allowed (comes n time) s rest v r h =
    (λ _. (standing-bank s v, standing-journal s v, λ _. issued (request_at n s) s h), r)
allowed (stray frame time) s rest v r h =
    (stray-allowed s (standing s) (standing-bank s v) (standing-journal s v) (input_at time frame) (off (is_subscribers frame) h), r)
  where
    off : (b : Bool) → not b ≡ true → b ≡ false
    off true e = sym e
    off false e = refl
allowed (puts m file) s rest v r h = (λ _. (standing-numbers s v, refl), r)
allowed (begin_at i time params payload) s rest v r h = (λ _. refl, r)
allowed (reaches i n) s rest v r h = (
  λ _.
      let f : Exchange → Bool = λ e. same_bytes e.reply (reply_at n s) && is_issued e.request s in
      let o = some_in f s.exchanged h in
      let a = and-true (same_bytes o.0.reply (reply_at n s)) (is_issued o.0.request s) o.2 in
      ((refl, refl, refl), (o.0, o.1, same_bytes_lem o.0.reply (reply_at n s) a.0, issued o.0.request s a.1)),
  r,
)
allowed (silent i) s rest v r h = (λ _. (refl, refl, refl), r)
allowed (hands i) s rest v r h = (journal-allowed s i, r)
allowed writes s rest v r h = (put-allowed s (standing s) room (standing-bank s v) (standing-journal s v), r.1)
allowed (takes n) s rest v r h = (λ _. nth_in [] n s.images h, r)
allowed (numbered k) s rest v r h = (numbered-allowed k s (λ z. not-both h (eq-eqb (call_number k) 0 z)), r)

-- no two requests under one exchange number
abbrev pub is_numbered : Course → Bool
is_numbered s = distinct (map (λ (x : Issue). exchange (read_request x.frame)) s.issued)

pub one_number : (s : Course) → is_numbered s ≡ true → OneExchangeNumber s
unfolding OneExchangeNumber
one_number s h = distinct-nodup _ h

-- the test of a whole list, by these steps
abbrev pub is_met_by : (Move → Course → Course) → List Move → Course → Bool
is_met_by step [] s = is_numbered s
is_met_by step (m ∷ ms) s = is_allowed m s && is_met_by step ms (step m s)

abbrev pub is_met : List Move → Course → Bool
is_met = is_met_by next

pub all-allowed : (ms : List Move) (s : Course) → Right s → Asked ms s → is_met ms s ≡ true → AllAllowed (calls_of ms s) s
all-allowed [] s v r h = tt
all-allowed (m ∷ ms) s v r h =
    let a = and-true (is_allowed m s) (is_met ms (next m s)) h in
    let b = allowed m s (Asked ms (next m s)) v.state r a.0 in
    (b.0, all-allowed ms (next m s) (right-next (call_of m s) s v b.0) b.1 a.1)

numbers : (ms : List Move) (s : Course) → is_met ms s ≡ true → OneExchangeNumber (end_of ms s)
numbers [] s h = one_number s h
numbers (m ∷ ms) s h = numbers ms (next m s) (and-true (is_allowed m s) (is_met ms (next m s)) h).1

-- ---- in turn

-- reply n is an opening's
abbrev pub Opens : ℕ → Course → Type 0
Opens n s = IsOpened (form (read_reply (reply_at n s)))

module _ (i : ℕ) where
  abbrev pub is_own : List ℕ → Course → Bool
  is_own frame s = some (λ (x : Issue). eqb x.run i && same_bytes x.frame frame) s.issued

  pub own : (frame : List ℕ) (s : Course) → is_own frame s ≡ true → IssuedBy i frame s
  own frame s h =
      let o = some_in (λ (x : Issue). eqb x.run i && same_bytes x.frame frame) s.issued h in
      let a = and-true (eqb o.0.run i) (same_bytes o.0.frame frame) o.2 in
      (o.0, o.1, eqb-true o.0.run i a.0, same_bytes_lem o.0.frame frame a.1)

  abbrev not_own : List ℕ → Course → Bool
  not_own frame s = every (λ (x : Issue). not (eqb x.run i && same_bytes x.frame frame)) s.issued

  not_own_lem : (frame : List ℕ) (s : Course) → not_own frame s ≡ true → IssuedBy i frame s → ⊥
  not_own_lem frame s h (x, m, r, f) =
      not-both (every_in (λ (y : Issue). not (eqb y.run i && same_bytes y.frame frame)) h m)
      (both (eq-eqb x.run i r) (bytes_same x.frame frame f))

  abbrev is_new : List ℕ → Course → Bool
  is_new frame s = every (λ (e : Exchange). not (same_bytes e.request frame)) s.exchanged

  abbrev in_hour : ℕ → Course → Bool
  in_hour clock s = some (λ (e : Exchange). is_own e.request s && leb clock (e.clock + idle_limit)) s.exchanged

  abbrev none_received : Course → Bool
  none_received s = every (λ (e : Exchange). not_own e.request s) s.exchanged

  -- clock: as the frame comes
  abbrev frame_in_turn : List ℕ → ℕ → Course → Bool
  frame_in_turn frame clock s = not_own frame s || (is_new frame s && (in_hour clock s || none_received s))

  frame-in-turn : (frame : List ℕ) (clock : ℕ) (s : Course) → frame_in_turn frame clock s ≡ true → IssuedBy i frame s →
      ((e : Exchange) → In e s.exchanged → e.request ≡ frame → ⊥) × NoIdleHour i clock s
  frame-in-turn frame clock s h o = at (not_own frame s) refl
    where
      by-hour : (b : Bool) → in_hour clock s ≡ b → in_hour clock s || none_received s ≡ true → NoIdleHour i clock s
      by-hour true e k =
          let f : Exchange → Bool = λ x. is_own x.request s && leb clock (x.clock + idle_limit) in
          let x = some_in f s.exchanged e in
          let a = and-true (is_own x.0.request s) (leb clock (x.0.clock + idle_limit)) x.2 in
          inl (x.0, (x.1, own x.0.request s a.0), leb-true clock (x.0.clock + idle_limit) a.1)
      by-hour false e k =
          inr (λ x c. not_own_lem x.request s (every_in (λ (y : Exchange). not_own y.request s)
          (or-true (in_hour clock s) (none_received s) e k) c.0) c.1)

      at : (b : Bool) → not_own frame s ≡ b → ((e : Exchange) → In e s.exchanged → e.request ≡ frame → ⊥) × NoIdleHour i clock s
      at true e = absurd (not_own_lem frame s e o)
      at false e =
          let a = and-true (is_new frame s) (in_hour clock s || none_received s)
          (or-true (not_own frame s) (is_new frame s && (in_hour clock s || none_received s)) e h) in (
            λ x m z. not-both (every_in (λ (y : Exchange). not (same_bytes y.request frame)) a.0 m)
                (bytes_same x.request frame z),
            by-hour (in_hour clock s) refl a.1,
          )

  abbrev has_arrived : List ℕ → Course → Bool
  has_arrived reply s = some (λ (a : Arrival). eqb a.run i && same_bytes a.reply reply) s.arrived

  abbrev not_arrived : List ℕ → Course → Bool
  not_arrived reply s = every (λ (a : Arrival). not (eqb a.run i && same_bytes a.reply reply)) s.arrived

  -- clock: as the call has left it
  abbrev pub is_in_turn : Move → ℕ → Course → Bool
  is_in_turn (comes n time) clock s = frame_in_turn (request_at n s) clock s
  is_in_turn (stray frame time) clock s = frame_in_turn frame clock s
  is_in_turn (puts m file) clock s = true
  is_in_turn (begin_at j time params payload) clock s = true
  is_in_turn (reaches j n) clock s = implies (eqb j i) (not_arrived (reply_at n s) s)
  is_in_turn (silent j) clock s = not (eqb j i)
  is_in_turn (hands j) clock s = true
  is_in_turn writes clock s = true
  is_in_turn (takes n) clock s = true
  is_in_turn (numbered k) clock s = not (eqb (call_number k) 0)

  came-in-turn : (frame : List ℕ) (time : ℕ) (s : Course) → let k = frame_called frame time s in
      frame_in_turn frame (exec k s).bank.bank.clock s ≡ true → InTurn i k s
  came-in-turn frame time s h z =
      frame-in-turn frame _ s (subst (λ (t : Course). frame_in_turn frame t.bank.bank.clock s ≡ true)
      (carried (frame_called frame time s) s z) h)

  in-turn : (m : Move) (s : Course) → is_in_turn m (next m s).bank.bank.clock s ≡ true → InTurn i (call_of m s) s
  in-turn (comes n time) s h = came-in-turn (request_at n s) time s h
  in-turn (stray frame time) s h = came-in-turn frame time s h
  in-turn (puts m file) s h = λ _. tt
  in-turn (begin_at j time params payload) s h = λ _. tt
  in-turn (reaches j n) s h = λ _. λ same a m r z.
      not-both (every_in (λ (x : Arrival). not (eqb x.run i && same_bytes x.reply (reply_at n s)))
      (then (eqb j i) (not_arrived (reply_at n s) s) h (eq-eqb j i same)) m)
      (both (eq-eqb a.run i r) (bytes_same a.reply (reply_at n s) z))
  in-turn (silent j) s h = λ _. λ same. not-both h (eq-eqb j i same)
  in-turn (hands j) s h = λ _. tt
  in-turn writes s h = λ _. tt
  in-turn (takes n) s h = λ _. tt
  in-turn (numbered k) s h = numbered-in-turn i k s (λ z. not-both h (eq-eqb (call_number k) 0 z))

  abbrev is_alone : Course → Bool
  is_alone s = leb (open_count_of (s.runs i).subscriber s.bank.bank) 1

  -- ---- at the end

  abbrev is_settled : Course → Bool
  is_settled s =
      every (λ (x : Issue). implies (eqb x.run i) (some (λ (e : Exchange). same_bytes e.request x.frame) s.exchanged))
      s.issued
      && every (λ (e : Exchange). not_own e.request s || has_arrived e.reply s) s.exchanged

  settled : (s : Course) → is_settled s ≡ true → Settled s i
  settled s h =
      let came : Issue → Bool = λ x.
      implies (eqb x.run i) (some (λ (e : Exchange). same_bytes e.request x.frame) s.exchanged) in
      let told : Exchange → Bool = λ e. not_own e.request s || has_arrived e.reply s in
      let a = and-true (every came s.issued) (every told s.exchanged) h in
      record {
        requests = λ x m r.
            let f : Exchange → Bool = λ e. same_bytes e.request x.frame in
            let h = then (eqb x.run i) (some f s.exchanged) (every_in came a.0 m) (eq-eqb x.run i r) in
            let o = some_in f s.exchanged h in
            (o.0, o.1, same_bytes_lem o.0.request x.frame o.2);
        replies = λ e c. arrival e c.1 (every_in told a.1 c.0);
      }
    where
      arrival : (e : Exchange) → IssuedBy i e.request s → not_own e.request s || has_arrived e.reply s ≡ true →
          (a : Arrival) × In a s.arrived × (a.run ≡ i) × (a.reply ≡ e.reply)
      arrival e o k = at (not_own e.request s) refl
        where
          at : (b : Bool) → not_own e.request s ≡ b → (a : Arrival) × In a s.arrived × (a.run ≡ i) × (a.reply ≡ e.reply)
          at true z = absurd (not_own_lem e.request s z o)
          at false z =
              let f : Arrival → Bool = λ a. eqb a.run i && same_bytes a.reply e.reply in
              let x = some_in f s.arrived (or-true (not_own e.request s) (has_arrived e.reply s) z k) in
              let y = and-true (eqb x.0.run i) (same_bytes x.0.reply e.reply) x.2 in
              (x.0, x.1, eqb-true x.0.run i y.0, same_bytes_lem x.0.reply e.reply y.1)

  -- exchange n was given to a request of the run, with 000000
  abbrev is_taken : ℕ → Course → Bool
  is_taken n s = has n s.exchanged && is_own (nth no_exchange n s.exchanged).request s
      && eqb (return_code (read_reply (reply_at n s))) (code_field code.Ok)

  accepted : (n : ℕ) (s : Course) → is_taken n s ≡ true → Opens n s → Accepted i s
  accepted n s h kind =
      let e = nth no_exchange n s.exchanged in
      let ok = eqb (return_code (read_reply e.reply)) (code_field code.Ok) in
      let a = and-true (has n s.exchanged && is_own e.request s) ok h in
      let b = and-true (has n s.exchanged) (is_own e.request s) a.0 in
      (e, (nth_in no_exchange n s.exchanged b.0, own e.request s b.1), kind, eqb-true _ (code_field code.Ok) a.1)

  -- ---- the test of a whole list, whose opening is exchange n at its end

  abbrev is_done : ℕ → Course → Bool
  is_done n s = is_alone s && (is_settled s && is_taken n s)

  -- one call of it, and the course that it leaves
  abbrev pub is_one_more : Move → Course → Course → Bool
  is_one_more m s t = is_alone s && is_in_turn m t.bank.bank.clock s

  abbrev pub is_in_order_by : (Move → Course → Course) → ℕ → List Move → Course → Bool
  is_in_order_by step n [] s = is_numbered s && is_done n s
  is_in_order_by step n (m ∷ ms) s = is_allowed m s && (is_one_more m s (step m s) && is_in_order_by step n ms (step m s))

  abbrev pub is_in_order : ℕ → List Move → Course → Bool
  is_in_order = is_in_order_by next

  module _ (n : ℕ) where
    pub one_more : (step : Move → Course → Course) (m : Move) (ms : List Move) (s : Course) →
        is_in_order_by step n (m ∷ ms) s ≡ true →
        (is_allowed m s ≡ true) × (is_one_more m s (step m s) ≡ true) × (is_in_order_by step n ms (step m s) ≡ true)
    one_more step m ms s h =
        let a = and-true (is_allowed m s) (is_one_more m s (step m s) && is_in_order_by step n ms (step m s)) h in
        let b = and-true (is_one_more m s (step m s)) (is_in_order_by step n ms (step m s)) a.1 in
        (a.0, b.0, b.1)

    pub order-met : (ms : List Move) (s : Course) → is_in_order n ms s ≡ true → is_met ms s ≡ true
    order-met [] s h = (and-true (is_numbered s) (is_done n s) h).0
    order-met (m ∷ ms) s h = let a = one_more next m ms s h in both a.0 (order-met ms (next m s) a.2)

    all_done : (ms : List Move) (s : Course) → is_in_order n ms s ≡ true → is_done n (end_of ms s) ≡ true
    all_done [] s h = (and-true (is_numbered s) (is_done n s) h).1
    all_done (m ∷ ms) s h = all_done ms (next m s) (one_more next m ms s h).2

    all-in-turn : (ms : List Move) (s : Course) → is_in_order n ms s ≡ true → AllInTurn i (calls_of ms s) s
    all-in-turn [] s h = λ accepted running.
        leb-true _ 1 (and-true (is_alone s) (is_settled s && is_taken n s) (and-true (is_numbered s) (is_done n s) h).1).0
    all-in-turn (m ∷ ms) s h =
        let a = one_more next m ms s h in
        let b = and-true (is_alone s) (is_in_turn m (next m s).bank.bank.clock s) a.1 in
        (λ accepted running. leb-true _ 1 b.0, in-turn m s b.1, all-in-turn ms (next m s) a.2)

-- ---- the theorem applied

-- "has closed as lodged or fetched"
abbrev pub Closed : ℕ → Course → Type 0
Closed i s = ((s.runs i).stage ≡ stage.Ended Lodged) ⊎ ((s.runs i).stage ≡ stage.Ended Fetched)

module _ (ms : List Move) (held : Asked ms start) (met : is_met ms start ≡ true) where
  applied : Outcome (after (calls_of ms start) start) × ClosesInTurn (calls_of ms start)
  unfolding Demand3
  applied =
      let ks = calls_of ms start in
      let all = subst (λ (l : List Call). AllAllowed l start) (sym (append-nil ks)) (all-allowed ms start right-start held met) in
      let d = demand3 ks [] all (subst (λ (l : List Call). OneExchangeNumber (after l start)) (sym (append-nil ks))
      (subst OneExchangeNumber (sym (ends ms start)) (numbers ms start met))) in
      (d.0, d.1)

  pub outcome : Outcome (end_of ms start)
  outcome = subst Outcome (ends ms start) applied.0

-- "an order in turn closes as lodged or fetched"
pub closed : (i n : ℕ) (ms : List Move) → Asked ms start → is_in_order i n ms start ≡ true → Opens n (end_of ms start) →
    Closed i (end_of ms start)
closed i n ms held h kind =
    let end = end_of ms start in
    let met = order-met i n ms start h in
    let a = and-true (is_alone i end) (is_settled i end && is_taken i n end) (all_done i n ms start h) in
    let b = and-true (is_settled i end) (is_taken i n end) a.1 in
    subst (λ (s : Course). Accepted i s → Settled s i → Closed i s) (ends ms start)
    ((applied ms held met).1 i (all-in-turn i n ms start h)) (accepted i n end b.1 kind) (settled i end b.0)
