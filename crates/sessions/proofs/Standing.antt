-- The unit and the course that its calls leave: the unit's session is one of the list of conditions, as the calls ask, and
-- is the course's bank and journal; the rooms and the lines' memory have their lengths, the image room holds bytes; each run is the course's.
use Prim.Native.Nat.{ℕ, ◌<◌}
use mathlib.Core.Bool.{true}
use mathlib.Core.List.{List}
use mathlib.Core.Path.{◌≡◌, refl, ap}
use lib.ListN.{length, replicate, length-replicate, get_or-replicate}
use borrow.Author.Tests.{eq-eqb}
use Rattle.octets.specs.Bytes.{Bytes}
use Rattle.octets.proofs.Tests.{never}
use Rattle.journal.specs.declared.event.OrderName.{OrderName}
use Rattle.journal.specs.Events.{record_count}
use Rattle.bank_state.specs.Limits.{store_bytes}
use Rattle.bank_state.specs.State.{Bank, bank_state}
use Rattle.bank_rows.proofs.State.{fresh-rows}
use Rattle.bank_sound.specs.Sound.{is_sound}
use Rattle.bank_session.specs.Session.{bank_rows, takes_frame}
use Rattle.image_admitted.specs.Fresh.{fresh_session}
use Rattle.image_admitted.proofs.Holds.{lengths-told}
use Rattle.image_admitted.specs.Reached.{InList}
use Rattle.image_admitted.proofs.Theorems.{fresh-admitted, admitted-sound, admitted-takes}
use Rattle.client_run.specs.declared.run.ClientRun.{ClientRun}
use Rattle.client_run.specs.declared.run.Stage.TheVariants as stage
use Rattle.client_run.specs.declared.run.Word.{Word}
use Rattle.client_run.specs.Run.{nonce_bytes, order_name}
use Rattle.exchange.specs.Course.{Call, Course, start, call_number, exec}
use Rattle.unit_state.specs.declared.record.Kind.{Kind}
use Rattle.unit_state.specs.declared.state.Run.{Run}
use Rattle.unit_state.specs.Records.{run_count, room_bytes, call_of}
use Rattle.unit_state.specs.State.{new_run, fresh, rooms_bytes}
use Rattle.unit.specs.State.{State, session_in}
use Rattle.unit_rows.specs.Lines.{lines_size, stores_bytes}
use Rattle.unit.specs.Call.{UnitCall, rooms_right, rooms_of, step_of, unit_call}
use Rattle.sessions.specs.Sessions.{
  fresh_unit,
  bank_at,
  journal_at,
  client_at,
  payload_at,
  file_at,
  told_of,
  told_by,
  Given,
  SameRun,
  Same,
}
use Rattle.sessions.proofs.MemoryBytes.{bytes-zeros, StoresHold}

abbrev pub SameRunAt : State → Course → ℕ → Type 0
SameRunAt u s i = SameRun (client_at u i) (payload_at u i) (file_at u i) (s.runs i) (s.payloads i) (s.files i)

pub record Standing (u : State) (s : Course) : Type 0 where
  -- the session is one of the list of conditions, and its stores hold bytes
  pub listed : InList (session_in u)
  pub stores : StoresHold (bank_at u)
  -- and it is the course's
  pub bank : bank_at u ≡ s.bank
  pub journal : journal_at u ≡ s.journal
  pub count : length u.unit.runs ≡ run_count
  pub payloads : length u.memory.payloads ≡ rooms_bytes
  pub files : length u.memory.files ≡ rooms_bytes
  pub room : length u.memory.room ≡ room_bytes
  pub image : Bytes u.memory.room
  pub line-rows : length u.memory.lines.rows ≡ lines_size
  pub line-stores : length u.memory.lines.stores ≡ stores_bytes
  pub runs : (i : ℕ) → i < run_count → SameRunAt u s i

-- the closing word and the name that the unit answers are those of the run c
pub record Tells (w : Word) (o : OrderName) (c : ClientRun) : Type 0 where
  pub ended : c.stage ≡ stage.Ended w
  pub name : o ≡ order_name c

-- a call k of the course s, which the unit makes by o
pub record Stepped (s : Course) (k : Call) (o : UnitCall) : Type 0 where
  pub given : call_number k ≡ 0 → Given k s
  pub standing : Standing o.state (exec k s)
  pub answer : told_of o ≡ told_by k

module _ {u : State} {s : Course} (v : Standing u s) where
  -- what the bank's calls ask of the rows
  pub rows-sound : is_sound (bank_rows u.memory.bank.rows) ≡ true
  rows-sound = admitted-sound (session_in u) v.listed.0 v.listed.1

  pub taken : takes_frame (session_in u) ≡ true
  taken = admitted-takes (session_in u) v.listed.0 v.listed.1

  -- "another length than 64 is number 1" does not come
  pub row-long : length u.unit.journal ≡ record_count
  row-long = (lengths-told (session_in u) v.listed.0).row

  pub same : Same u s
  same = record { bank = v.bank; journal = v.journal; runs = v.runs }

  -- "a lent length differs" does not come
  rooms-right : rooms_of u.memory ≡ true
  unfolding rooms_right
  rooms-right =
      rw (
        eq-eqb (length u.memory.payloads) rooms_bytes v.payloads,
        eq-eqb (length u.memory.files) rooms_bytes v.files,
        eq-eqb (length u.memory.room) room_bytes v.room,
        eq-eqb (length u.memory.lines.rows) lines_size v.line-rows,
        eq-eqb (length u.memory.lines.stores) stores_bytes v.line-stores,
      )

  pub made : (r : List ℕ) (k : Kind) → call_of r ≡ k → unit_call u r ≡ step_of k u r
  unfolding unit_call
  made r k e = rw rooms-right (ap (λ (g : Kind). step_of g u r) e)

-- ---- a fresh unit

fresh-bank : bank_at fresh_unit ≡ start.bank
unfolding fresh_unit fresh start
fresh-bank = ap (λ (b : Bank). bank_state b (replicate store_bytes 0) (replicate store_bytes 0)) fresh-rows

pub fresh-standing : Standing fresh_unit start
unfolding fresh_unit fresh start fresh_session
fresh-standing = record {
  listed = fresh-admitted;
  stores = record { orders = bytes-zeros store_bytes; mailboxes = bytes-zeros store_bytes };
  bank = fresh-bank;
  journal = refl;
  count = length-replicate {A = Run} run_count (new_run (replicate nonce_bytes 0));
  payloads = length-replicate {A = ℕ} rooms_bytes 0;
  files = length-replicate {A = ℕ} rooms_bytes 0;
  room = length-replicate {A = ℕ} room_bytes 0;
  image = bytes-zeros room_bytes;
  line-rows = length-replicate {A = ℕ} lines_size 0;
  line-stores = length-replicate {A = ℕ} stores_bytes 0;
  runs = λ i h. record {
    client = ap (λ (x : Run). x.client.run) (get_or-replicate run_count i _ _ h);
    payload = λ b. never b;
    file = λ b. never b;
  };
}
