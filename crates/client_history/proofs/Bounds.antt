-- "An upload issues at most 6N + 1 requests", a download N + 6 (N is 0 while unknown), "on any replies": over every list
-- of events, whatever they bring and are lent. Each event keeps the bounds, as each step keeps the course.
-- Assumes nothing.
use Prim.Native.Nat.{ℕ, ◌+◌, ◌≤◌}
use mathlib.Core.Bool.{true}
use mathlib.Core.List.Memᴰ.{head as here}
use mathlib.Core.List.Memᴰ.{tail as there}
use mathlib.Core.List.{List, [], ◌∷◌, Memᴰ as In}
use mathlib.Core.List.Memᴰ.{not-nil as in-none}
use mathlib.Core.Path.{◌≡◌, refl, sym, ap, subst, ◌∙◌}
use native.Mathlib.Numerals.{add-one}
use native.Mathlib.Omega.{arith}
use lib.ListN.{length}
use Rattle.frame_table.specs.declared.fields.Fields.{Fields}
use Rattle.frame_table.specs.Names.{subscriber}
use Rattle.octets.proofs.Tests.{never}
use Rattle.message.specs.Limits.{max_segments}
use Rattle.client_run.specs.declared.run.ClientRun.{ClientRun}
use Rattle.client_run.specs.declared.run.Decision.{Decision}
use Rattle.message.specs.declared.directions.Direction.{Direction}
use Rattle.message.specs.declared.directions.Direction.TheVariants.{Upload, Download}
use Rattle.client_run.specs.declared.run.Lengths.{Lengths}
use Rattle.client_run.specs.declared.run.RunParameters.{RunParameters}
use Rattle.client_run.specs.declared.run.RunTerms.{RunTerms}
use Rattle.client_run.specs.declared.run.Step.{Step}
use Rattle.client_run.specs.declared.run.Step.TheVariants as step
use Rattle.client_run.specs.declared.run.Word.{Word}
use Rattle.client_run.specs.NextRun.{begin_length, begun, ended}
use Rattle.client_run.specs.Run.{Lent, lengths_of, parameters_of, max_exchange}
use Rattle.client_run.proofs.Apart.{not-both, not-new-running}
use Rattle.client_rules.specs.Rulings.{is_begun}
use Rattle.client_rules.proofs.Accepted.{Serves, Begins}
use Rattle.client_rules.proofs.Causes.{Cause}
use Rattle.client_history.specs.Bounds.{max_requests, Numbered, none, more, Course, Bounded, Bounds, fresh, going}
use Rattle.client_history.specs.History.{Issue, Event, Begin, Reply, NoReply, Past, held_count, after, past_of}
use Rattle.client_history.proofs.AnyEvent.{
  with_request,
  begun_by,
  AnyChange,
  nothing,
  begins-with,
  goes,
  closes,
  Reads,
  any-change,
}
use Rattle.client_history.proofs.Course.{
  course-ended,
  course-most,
  course-segments,
  DownloadAt,
  download-at,
  up_start,
  opening-start,
}
use Rattle.client_history.proofs.Decided.{Issuing, next_of, next-of, next-repeats, course-next}
use Rattle.client_history.proofs.Requests.{outstanding-exchange, outstanding-subscriber}

-- ---- one request more

-- the issues of the run next, of the subscriber s, and before it of the same
own-more : (next : ClientRun) (l : Lent) (file : List ℕ) (issues : List Issue) (s : ℕ) → next.subscriber ≡ s
    → ((x : Issue) → In x issues → subscriber x.request ≡ s)
    → (x : Issue) → In x (with_request next l file issues) → subscriber x.request ≡ next.subscriber
own-more next l file issues s e f x (here i) =
    ap (λ (y : Issue). subscriber y.request) i ∙ outstanding-subscriber next l.time l.nonce l.payload
own-more next l file issues s e f x (there m) = f x m ∙ sym e

begun-course : (direction : Direction) (subscriber first : ℕ) (terms : RunTerms) (l : Lengths) → Serves direction l
    → Course (begun (parameters_of direction subscriber first terms) (begin_length direction l)) 1
begun-course Upload subscriber first terms l s = up_start subscriber first terms l.payload s.0 s.1
begun-course Download subscriber first terms l s = opening-start subscriber first terms

pub bounded-begun : (c : ClientRun) (params : RunParameters) (l : Lent) (file : List ℕ) → Begins c params l
    → Bounded (begun_by params l) (with_request (begun_by params l) l file [])
unfolding begun
bounded-begun c params l file b =
    let next = begun_by params l in record {
      stage = refl;
      low = b.low;
      high = b.high;
      first = params.first;
      start = b.start;
      numbers = more (outstanding-exchange next l.time l.nonce l.payload) refl none;
      own = own-more next l file [] params.subscriber refl (λ x m. absurd (in-none m));
      repeats = omega arith;
      course = begun-course params.direction params.subscriber params.first params.terms (lengths_of l) b.buffers;
    }

module _ (c : ClientRun) (issues : List Issue) (b : Bounded c issues) where
  pub bounded-next : (decision : Decision) → Issuing decision → (r : Fields) (d : ℕ) → Cause c r d decision
      → (l : Lent) (file : List ℕ) → let next = next_of decision c r d in Bounded next (with_request next l file issues)
  bounded-next decision i r d k l file =
      let next = next_of decision c r d in
      let n = next-of decision i c r d in record {
        stage = ap is_begun n.stage ∙ b.stage;
        low = omega (arith, n.subscriber, b.low);
        high = omega (arith, n.subscriber, b.high);
        first = b.first;
        start = b.start;
        numbers =
            more (outstanding-exchange next l.time l.nonce l.payload) refl
            (subst (λ (x : ℕ). Numbered b.first x issues) (sym n.exchange) b.numbers);
        own = own-more next l file issues c.subscriber n.subscriber b.own;
        repeats = next-repeats decision i c r d k b.repeats;
        course =
            subst (Course next) (add-one (length issues))
            (course-next c (length issues) r d decision i k b.course);
      }

  bounded-ended : (w : Word) → Bounded (ended w c) issues
  unfolding ended
  bounded-ended w = record {
    stage = refl;
    low = b.low;
    high = b.high;
    first = b.first;
    start = b.start;
    numbers = b.numbers;
    own = b.own;
    repeats = b.repeats;
    course = course-ended c (length issues) w b.course;
  }

-- ---- every event keeps the bounds

pub bounded : {c : ClientRun} {issues : List Issue} → is_begun c.stage ≡ true → Bounds c issues → Bounded c issues
bounded b (fresh e z) = never (sym (ap (λ (k : ClientRun). is_begun k.stage) e) ∙ b)
bounded b (going g) = g

module _ (Read : Fields → Type 0) where
  bounds-by : {p : Past} {c : ClientRun} {issues : List Issue} → AnyChange Read p c issues → Bounds p.run p.issues
      → Bounds c issues
  bounds-by nothing s = s
  bounds-by {p} (begins-with params l file b) (fresh e z) =
      let next = begun_by params l in
      going
      (subst (λ (issues : List Issue). Bounded next (with_request next l file issues)) (sym z)
      (bounded-begun p.run params l file b))
  bounds-by (begins-with params l file b) (going g) = never (sym b.fresh ∙ g.stage)
  bounds-by (goes decision r d l file a i k read) (fresh e z) =
      not-new-running (ap (λ (x : ClientRun). x.stage) e) a.running
  bounds-by {p} (goes decision r d l file a i k read) (going g) =
      going (bounded-next p.run p.issues g decision i r (length d) k l file)
  bounds-by (closes w l a) (fresh e z) = not-new-running (ap (λ (x : ClientRun). x.stage) e) a.running
  bounds-by {p} (closes w l a) (going g) = going (bounded-ended p.run p.issues g w)

abbrev Any : Fields → Type 0
Any r = Unit {0}

any-read : (e : Event) → Reads Any e
any-read (Begin params l) = tt
any-read (Reply frame l) = tt
any-read (NoReply l) = tt

pub bounds-kept : (p : Past) (e : Event) → Bounds p.run p.issues → Bounds (after e p).run (after e p).issues
bounds-kept p e s = bounds-by Any (any-change Any p e (any-read e)) s

-- THE BOUNDS HOLD OF EVERY LIST OF EVENTS
pub bounds : (es : List Event) → Bounds (past_of es).run (past_of es).issues
unfolding past_of
bounds [] = fresh refl refl
bounds (e ∷ es) = bounds-kept (past_of es) e (bounds es)

-- ---- the results

most-by : {c : ClientRun} {issues : List Issue} → Bounds c issues
    → length issues ≤ max_requests c.direction c.segments
most-by (fresh e z) = omega (arith, ap length z)
most-by {c} {issues} (going b) = course-most c (length issues) b.course b.repeats

-- "An upload issues at most 6N + 1 requests", a download N + 6 (N is 0 while unknown), "on any replies"
pub requests-most : (es : List Event)
    → length (past_of es).issues ≤ max_requests (past_of es).run.direction (past_of es).run.segments
requests-most es = most-by (bounds es)

-- the most that a run of either direction issues, by which the highest first exchange number leaves room
most-fits : (direction : Direction) (n : ℕ) → n ≤ max_segments → max_requests direction n ≤ max_requests Upload max_segments
most-fits Upload n h = omega arith
most-fits Download n h = omega arith

numbered-length : {first n : ℕ} {l : List Issue} → Numbered first n l → n ≡ first + length l
numbered-length none = omega arith
numbered-length (more e f k) = let j = numbered-length k in omega arith

pub bounded-exchange : {c : ClientRun} {issues : List Issue} → Bounded c issues → c.exchange ≤ max_exchange
bounded-exchange {c} {issues} b =
    let few = most-by (going b) in
    let top = most-fits c.direction c.segments (course-segments c (length issues) b.course) in
    omega (arith, b.start, numbered-length b.numbers)

-- exchange numbers fit their field
exchange-by : {c : ClientRun} {issues : List Issue} → Bounds c issues → c.exchange ≤ max_exchange
exchange-by (fresh e z) = omega (arith, ap (λ (k : ClientRun). k.exchange) e)
exchange-by (going b) = bounded-exchange b

pub exchange-fits : (es : List Event) → (past_of es).run.exchange ≤ max_exchange
exchange-fits es = exchange-by (bounds es)

-- "Each request takes the next exchange number": an event moves a begun run's by as many as it issues requests
rises_by : {p : Past} {c : ClientRun} {issues : List Issue} → is_begun p.run.stage ≡ true → AnyChange Any p c issues
    → c.exchange + length p.issues ≡ p.run.exchange + length issues
unfolding ended
rises_by b nothing = refl
rises_by b (begins-with params l file g) = never (sym g.fresh ∙ b)
rises_by {p} b (goes decision r d l file a i k read) =
    let n = (next-of decision i p.run r (length d)).exchange in omega arith
rises_by b (closes w l a) = refl

pub exchange-rises : (p : Past) (e : Event) → is_begun p.run.stage ≡ true
    → (after e p).run.exchange + length p.issues ≡ p.run.exchange + length (after e p).issues
exchange-rises p e b = rises_by b (any-change Any p e (any-read e))

-- what the course of a download says of the outstanding request
at-by : {c : ClientRun} {issues : List Issue} (s : Step) → c.direction ≡ Download → c.step ≡ s → Bounds c issues
    → DownloadAt s c
at-by s w e (fresh n z) = not-both (ap (λ (k : ClientRun). k.direction) n) w
at-by s w e (going b) = download-at s e w b.course

-- a receipt is outstanding only where the segments 1 to N are held
pub all_held : (es : List Event) → (past_of es).run.direction ≡ Download → (past_of es).run.step ≡ step.Receipt
    → held_count (past_of es).run ≡ (past_of es).run.segments
all_held es w s = omega (arith, at-by step.Receipt w s (bounds es))

-- the guards of a download's replies tell nothing in a run from a begin: it asks for segments 1 to N alone, and N is no
-- more than an order has
pub guards-idle : (es : List Event) → let c = (past_of es).run in
    c.direction ≡ Download → c.step ≡ step.Segment
    → (1 ≤ c.segment) × (c.segment ≤ c.segments) × (c.segments ≤ max_segments)
guards-idle es w s = at-by step.Segment w s (bounds es)
