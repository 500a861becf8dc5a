-- What is known of a call that is given no number by its ruling. Assumes nothing.
use Rattle.std.specs.Prelude.{Ok}
use Prim.Native.Nat.{ℕ, ◌≤◌}
use mathlib.Core.Bool.{false, not}
use mathlib.Core.Path.{◌≡◌, refl}
use native.Mathlib.Omega.{arith}
use lib.Dec.{ltb, eqb}
use borrow.Author.Tests.{ltb-false, eqb-true, eqb-false, not-false}
use Rattle.octets.proofs.Tests.{or-neither}
use Rattle.frame_table.specs.Table.{last_time}
use Rattle.message.specs.Limits.{file_bytes, subscribers}
use Rattle.client_run.specs.declared.run.ClientRun.{ClientRun}
use Rattle.message.specs.declared.directions.Direction.{Direction}
use Rattle.message.specs.declared.directions.Direction.TheVariants.{Upload, Download}
use Rattle.client_run.specs.declared.run.Lengths.{Lengths}
use Rattle.client_run.specs.declared.run.RunParameters.{RunParameters}
use Rattle.client_run.specs.declared.run.Stage.{Stage}
use Rattle.client_run.specs.declared.run.Stage.TheVariants as stage
use Rattle.client_run.specs.Run.{Lent, lengths_of, request_room, max_first_exchange, max_exchange}
use Rattle.client_rules.specs.Rulings.{
  wrong_buffers,
  changed_length,
  wrong_lengths,
  no_subscriber,
  is_begun,
  ruling_at_begin,
  begin_ruling,
  ruling_not_begun,
  ruling_running,
  ruling_ended,
  ruling_at_stage,
  run_ruling,
}
use Rattle.client_run.proofs.Apart.{not-both, not-accepted}
use Rattle.client_rules.proofs.Late.{passed, in-time}

-- the buffers serve the direction
abbrev pub Serves : Direction → Lengths → Type 0
Serves Upload l = (1 ≤ l.payload) × (l.payload ≤ file_bytes) × (request_room ≤ l.request)
Serves Download l = (l.file ≡ file_bytes) × (request_room ≤ l.request)

pub serves : (direction : Direction) (l : Lengths) → wrong_buffers direction l ≡ false → Serves direction l
serves Upload l h =
    let a = or-neither _ (ltb l.request request_room) h in
    let b = or-neither (eqb l.payload 0) (ltb file_bytes l.payload) a.0 in
    let some = eqb-false l.payload 0 b.0 in
    (omega arith, ltb-false file_bytes l.payload b.1, ltb-false l.request request_room a.1)
serves Download l h =
    let a = or-neither (not (eqb l.file file_bytes)) (ltb l.request request_room) h in
    (eqb-true l.file file_bytes (not-false _ a.0), ltb-false l.request request_room a.1)

-- "of changed length"
abbrev pub SameLength : Direction → ClientRun → Lengths → Type 0
SameLength Upload c l = l.payload ≡ c.length
SameLength Download c l = ℕ

same_length : (direction : Direction) (c : ClientRun) (l : Lengths) → changed_length direction c l ≡ false
    → SameLength direction c l
same_length Upload c l h = eqb-true l.payload c.length (not-false (eqb l.payload c.length) h)
same_length Download c l h = 0

-- a call to a run
pub record Accepted (c : ClientRun) (l : Lent) : Type 0 where
  pub time : l.time ≤ last_time
  pub running : c.stage ≡ stage.Running
  pub exchange : c.exchange ≤ max_exchange
  pub buffers : Serves c.direction (lengths_of l)
  pub length : SameLength c.direction c (lengths_of l)

accepted-at : (c : ClientRun) (l : Lent) (s : Stage) → c.stage ≡ s → l.time ≤ last_time
    → ruling_at_stage s c (lengths_of l) ≡ Ok tt → Accepted c l
unfolding ruling_not_begun ruling_running ruling_ended wrong_lengths
accepted-at c l stage.NotBegun e t h =
    not-accepted _ (passed (ltb (lengths_of l).request request_room) _ _ h).1
accepted-at c l stage.Running e t h =
    let n = lengths_of l in
    let a = passed (wrong_lengths c n) _ _ h in
    let b = or-neither (wrong_buffers c.direction n) (changed_length c.direction c n) a.0 in record {
      time = t;
      running = e;
      exchange = ltb-false max_exchange c.exchange (passed (ltb max_exchange c.exchange) _ _ a.1).0;
      buffers = serves c.direction n b.0;
      length = same_length c.direction c n b.1;
    }
accepted-at c l (stage.Ended w) e t h = not-accepted _ (passed (wrong_lengths c (lengths_of l)) _ _ h).1

pub accepted : (c : ClientRun) (l : Lent) → run_ruling c l.time (lengths_of l) ≡ Ok tt → Accepted c l
unfolding run_ruling
accepted c l h = let a = in-time l.time _ h in accepted-at c l c.stage refl a.0 a.1

-- begin
pub record Begins (c : ClientRun) (params : RunParameters) (l : Lent) : Type 0 where
  pub time : l.time ≤ last_time
  pub buffers : Serves params.direction (lengths_of l)
  pub start : params.first ≤ max_first_exchange
  pub low : 1 ≤ params.subscriber
  pub high : params.subscriber ≤ subscribers
  pub fresh : is_begun c.stage ≡ false

pub begins : (c : ClientRun) (params : RunParameters) (l : Lent)
    → begin_ruling c params l.time (lengths_of l) ≡ Ok tt → Begins c params l
unfolding begin_ruling ruling_at_begin no_subscriber
begins c params l h =
    let t = in-time l.time _ h in
    let a = passed (wrong_buffers params.direction (lengths_of l)) _ _ t.1 in
    let b = passed (ltb max_first_exchange params.first) _ _ a.1 in
    let s = params.subscriber in
    let e = passed (no_subscriber s) _ _ b.1 in
    let g = or-neither (ltb s 1) (ltb subscribers s) e.0 in record {
      time = t.0;
      buffers = serves params.direction (lengths_of l) a.0;
      start = ltb-false max_first_exchange params.first b.0;
      low = ltb-false s 1 g.0;
      high = ltb-false subscribers s g.1;
      fresh = (passed (is_begun c.stage) _ _ e.1).0;
    }

pub file-served : (direction : Direction) (l : Lengths) → Serves direction l → direction ≡ Download
    → l.file ≡ file_bytes
file-served Upload l s e = not-both refl e
file-served Download l s e = s.0

-- what an admitted call with a reply or with none may rely on
pub admitted : (c : ClientRun) (l : Lent) → run_ruling c l.time (lengths_of l) ≡ Ok tt
    → (c.exchange ≤ max_exchange) × (c.direction ≡ Download → (lengths_of l).file ≡ file_bytes)
admitted c l h =
    let known = accepted c l h in (known.exchange, file-served c.direction (lengths_of l) known.buffers)
