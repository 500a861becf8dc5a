-- What any events leave of a run, fair or not: how many requests it issues, under which numbers, and how far it is.
use Rattle.std.specs.Prelude.{Ok, Err}
use Rattle.client_run.specs.declared.run.Refusal.{Refusal}
use Rattle.std.specs.Prelude.{Result}
use Rattle.std.specs.Prelude.{ℕ, ◌+◌, ◌*◌, ◌≤◌, true, ◌⊎◌, ◌≡◌, length}
use mathlib.Core.List.{List, [], ◌∷◌, Memᴰ as In}
use Rattle.octets.specs.Bytes.{Bytes}
use Rattle.frame_table.specs.Names.{subscriber, exchange}
use Rattle.message.specs.Limits.{max_segments, max_attempts, file_bytes, subscribers}
use Rattle.message.specs.Segments.{segments_of}
use Rattle.client_run.specs.declared.run.Answer.{Answer}
use Rattle.client_run.specs.declared.run.Answer.TheVariants as answer
use Rattle.client_run.specs.declared.run.ClientRun.{ClientRun}
use Rattle.message.specs.declared.directions.Direction.{Direction}
use Rattle.message.specs.declared.directions.Direction.TheVariants.{Upload, Download}
use Rattle.client_run.specs.declared.run.RunParameters.{RunParameters}
use Rattle.client_run.specs.declared.run.Step.{Step}
use Rattle.client_run.specs.declared.run.Step.TheVariants as step
use Rattle.client_run.specs.Run.{Lent, lengths_of, nonce_bytes, not_begun, max_first_exchange, request_room}
use Rattle.client_rules.specs.Rulings.{is_begun, begin_ruling, run_ruling}
use Rattle.client_history.specs.History.{Issue, Event, Begin, Reply, NoReply}

-- "An upload issues at most 6N + 1 requests"; card 10: "Downloads then issue at most N + 6 requests" (N is 0 while unknown)
abbrev pub max_requests : Direction → ℕ → ℕ
max_requests Upload n = 6 * n + 1
max_requests Download n = n + 6

-- "Each request takes the next exchange number": the issues carry first, first + 1, ... up to before next, each once
pub data Numbered (first : ℕ) : ℕ → List Issue → Type 0 where
  none : Numbered first first []
  more : {n next : ℕ} {x : Issue} {l : List Issue} → exchange x.request ≡ n → next ≡ n + 1 → Numbered first n l
      → Numbered first next (x ∷ l)

-- ---- HOW FAR A RUN IS, WITH Q REQUESTS ISSUED

-- the step of an upload and the segment of its request
abbrev pub UploadPlace : Step → ℕ → Type 0
UploadPlace at s = ((at ≡ step.Opening) × (s ≡ 0)) ⊎ ((at ≡ step.Segment) × (1 ≤ s))

-- an upload: each return costs at most N requests more, and so does each repeat
pub record UploadCourse (c : ClientRun) (q : ℕ) : Type 0 where
  pub direction : c.direction ≡ Upload
  pub some : 1 ≤ c.length
  pub most : c.length ≤ file_bytes
  pub count : c.segments ≡ segments_of c.length
  pub place : UploadPlace c.step c.segment
  pub known : c.segment ≤ c.issued
  pub within : c.issued ≤ c.segments
  pub requests : q ≤ 1 + c.segment + c.repeats * c.segments

-- a download's opening is outstanding: it comes once, and once more with each repeat
pub record OpeningCourse (c : ClientRun) (q : ℕ) : Type 0 where
  pub direction : c.direction ≡ Download
  pub at : c.step ≡ step.Opening
  pub unknown : c.segments ≡ 0
  pub requests : q ≤ 1 + c.repeats

-- the step of an open download and the place of its request: segment N + 1 stands for the receipt
abbrev pub DownloadPlace : Step → ℕ → ℕ → Type 0
DownloadPlace at s n = ((at ≡ step.Segment) × (s ≤ n)) ⊎ ((at ≡ step.Receipt) × (s ≡ n + 1))

-- an open download, with segment 1 held: each segment is asked for once, and once more with each repeat
pub record DownloadCourse (c : ClientRun) (q : ℕ) : Type 0 where
  pub direction : c.direction ≡ Download
  pub most : c.segments ≤ max_segments
  pub first : 2 ≤ c.segment
  pub place : DownloadPlace c.step c.segment c.segments
  pub requests : q ≤ c.segment + c.repeats

pub data Course (c : ClientRun) (q : ℕ) : Type 0 where
  uploading : UploadCourse c q → Course c q
  opening : OpeningCourse c q → Course c q
  downloading : DownloadCourse c q → Course c q

-- ---- EITHER DIRECTION

-- a begun run and the requests that it issued
pub record Bounded (c : ClientRun) (issues : List Issue) : Type 0 where
  pub stage : is_begun c.stage ≡ true
  pub low : 1 ≤ c.subscriber
  pub high : c.subscriber ≤ subscribers
  pub first : ℕ
  pub start : first ≤ max_first_exchange
  pub numbers : Numbered first (c.exchange + 1) issues
  pub own : (x : Issue) → In x issues → subscriber x.request ≡ c.subscriber
  pub repeats : c.repeats ≤ max_attempts
  pub course : Course c (length issues)

pub data Bounds (c : ClientRun) (issues : List Issue) : Type 0 where
  fresh : c ≡ not_begun → issues ≡ [] → Bounds c issues
  going : Bounded c issues → Bounds c issues

-- ---- WHAT AN EVENT BRINGS, AND HOW IT IS RULED

-- what is lent is of the types of its parameters: 12 nonce bytes and slices of bytes
pub record TypedLent (l : Lent) : Type 0 where
  pub twelve : length l.nonce ≡ nonce_bytes
  pub nonce : Bytes l.nonce
  pub payload : Bytes l.payload

pub data Typed : Event → Type 0 where
  typed-begin : {params : RunParameters} {l : Lent} → TypedLent l → Typed (Begin params l)
  typed-reply : {frame : List ℕ} {l : Lent} → Bytes frame → TypedLent l → Typed (Reply frame l)
  typed-no-reply : {l : Lent} → TypedLent l → Typed (NoReply l)

pub data AllTyped : List Event → Type 0 where
  typed-none : AllTyped []
  typed-more : {e : Event} {es : List Event} → Typed e → AllTyped es → AllTyped (e ∷ es)

abbrev pub ruling_of : Event → ClientRun → Result (Unit {0}) Refusal
ruling_of (Begin params l) c = begin_ruling c params l.time (lengths_of l)
ruling_of (Reply frame l) c = run_ruling c l.time (lengths_of l)
ruling_of (NoReply l) c = run_ruling c l.time (lengths_of l)

-- no number, and a request of at most 303 bytes
abbrev pub Unrefused : Result Answer Refusal → Type 0
Unrefused (Ok (answer.Request n)) = n ≤ request_room
Unrefused (Ok answer.Ignored) = Unit {0}
Unrefused (Ok (answer.Closed w)) = Unit {0}
Unrefused (Err r) = ⊥
