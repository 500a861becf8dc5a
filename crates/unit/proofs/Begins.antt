-- What is known of a begin that is given no number, and of rooms of the right lengths. Assumes nothing.
use Rattle.client_run.specs.declared.run.Refusal.{Refusal}
use Rattle.std.specs.Prelude.{Err, Ok, Result}
use Prim.Native.Nat.{ℕ, ◌≤◌}
use mathlib.Core.Bool.{Bool, true, false, cond}
use mathlib.Core.List.{List}
use mathlib.Core.Path.{◌≡◌, refl, sym, ap, ◌∙◌}
use native.Mathlib.Omega.{arith}
use lib.ListN.{length}
use lib.Dec.{eqb}
use borrow.Author.Tests.{eqb-true}
use Rattle.octets.proofs.Tests.{never, and-true}
use Rattle.message.specs.Limits.{file_bytes}
use Rattle.client_run.specs.declared.run.ClientRun.{ClientRun}
use Rattle.client_run.specs.declared.run.RunParameters.{RunParameters}
use Rattle.client_run.specs.Run.{Lent, ClientCall, lengths_of}
use Rattle.client_rules.specs.Rulings.{begin_ruling}
use Rattle.client.specs.Calls.{if_admitted, admitted_begin, begin_call}
use Rattle.client_run.specs.declared.run.Answer.{Answer}
use Rattle.client_run.specs.declared.run.Answer.TheVariants as answer
use Rattle.client_rules.proofs.Accepted as accepted
use Rattle.client_rules.proofs.Accepted.{Serves}
use Rattle.unit_state.specs.declared.record.Event.{Event}
use Rattle.unit_state.specs.declared.record.Event.TheVariants.{Upload, Download, Reply, NoReply}
use Rattle.unit_state.specs.declared.record.Kind.TheVariants.{Run}
use Rattle.unit_state.specs.Records.{head_of, size_of, body_of, room_bytes}
use Rattle.unit_state.specs.State.{rooms_bytes}
use Rattle.unit_rows.specs.Lines.{lines_size, stores_bytes}
use Rattle.unit.specs.Call.{begins, room_call, keeps, rooms_right}

module _ (c : ClientRun) (params : RunParameters) (l : Lent) where
  serves-at : (u : Result (Unit {0}) Refusal) → begin_ruling c params l.time (lengths_of l) ≡ u
      → keeps true (if_admitted u c l (admitted_begin c params l)).answer ≡ true → Serves params.direction (lengths_of l)
  serves-at (Err x) e h = never h
  serves-at (Ok u) e h = (accepted.begins c params l e).buffers

  kept-serves : keeps true (begin_call c params l).answer ≡ true → Serves params.direction (lengths_of l)
  unfolding begin_call
  kept-serves h = serves-at (begin_ruling c params l.time (lengths_of l)) refl h

only-begin : (begin : Bool) (a : Result Answer Refusal) → keeps begin a ≡ true → begin ≡ true
only-begin begin (Ok (answer.Request n)) h = h
only-begin begin (Ok answer.Ignored) h = h
only-begin begin (Ok (answer.Closed w)) h = h
only-begin begin (Err x) h = never h

kept-fits-at : (e : Event) (c : ClientRun) (i : ℕ) (r : List ℕ) (l : Lent) (body held : List ℕ)
    → l.payload ≡ cond (begins e) body held → body ≡ body_of (Run e) r → keeps (begins e) (room_call e c i r l).answer ≡ true
    → length body ≤ file_bytes
unfolding room_call body_of size_of
kept-fits-at Upload c i r l body held p q h = omega (arith, ap length p, (kept-serves c _ _ h).1)
kept-fits-at Download c i r l body held p q h = omega (arith, ap length q)
kept-fits-at Reply c i r l body held p q h = never (only-begin false (room_call Reply c i r l).answer h)
kept-fits-at NoReply c i r l body held p q h = never (only-begin false (room_call NoReply c i r l).answer h)

-- the payload that a begin keeps fits into its room
pub kept-fits : (e : Event) (c : ClientRun) (i : ℕ) (r : List ℕ) (l : Lent) (body held : List ℕ) (begin kept : Bool) (o : ClientCall)
    → begin ≡ begins e → l.payload ≡ cond begin body held → body ≡ body_of (Run e) r → o ≡ room_call e c i r l
    → kept ≡ keeps begin o.answer → kept ≡ true → length body ≤ file_bytes
kept-fits e c i r l body held begin kept o eb p q eo ek h =
    kept-fits-at e c i r l body held (rw eb at p) q (rw (eb, eo) at (sym ek ∙ h))

-- a begin has nonce bytes
pub begin-head : (e : Event) → begins e ≡ true → head_of (Run Download) ≤ head_of (Run e)
begin-head Upload h = omega arith
begin-head Download h = omega arith
begin-head Reply h = never h
begin-head NoReply h = never h

-- rooms of their lengths
pub record RoomsLengths (payloads files room lines stores : ℕ) : Type 0 where
  pub payload-rooms : payloads ≡ rooms_bytes
  pub file-rooms : files ≡ rooms_bytes
  pub image-room : room ≡ room_bytes
  pub line-rows : lines ≡ lines_size
  pub line-stores : stores ≡ stores_bytes

pub rooms-lengths : (payloads files room lines stores : ℕ) → rooms_right payloads files room lines stores ≡ true
    → RoomsLengths payloads files room lines stores
unfolding rooms_right
rooms-lengths payloads files room lines stores h =
    let a = and-true (eqb payloads rooms_bytes) _ h in
    let b = and-true (eqb files rooms_bytes) _ a.1 in
    let d = and-true (eqb room room_bytes) _ b.1 in
    let e = and-true (eqb lines lines_size) (eqb stores stores_bytes) d.1 in
    record {
      payload-rooms = eqb-true payloads rooms_bytes a.0;
      file-rooms = eqb-true files rooms_bytes b.0;
      image-room = eqb-true room room_bytes d.0;
      line-rows = eqb-true lines lines_size e.0;
      line-stores = eqb-true stores stores_bytes e.1;
    }
