-- `P`, `T` and `I`: the session is put away into the image room's front or taken up from it, in the unit and in the course;
-- the room keeps its length and holds bytes.
use Rattle.image.specs.declared.codec.ImageRefusal.{ImageRefusal}
use Rattle.std.specs.Prelude.{Err, Ok, Result}
use Prim.Native.Nat.{ℕ, zero, suc, ◌+◌, ◌≤◌}
use mathlib.Core.Bool.{Bool, true, false, cond, ◌&&◌}
use mathlib.Core.List.{List, []}
use mathlib.Core.Logic.{◌⊎◌, inl, inr}
use mathlib.Core.Path.{◌≡◌, refl, sym, ap, ◌∙◌, subst}
use native.Mathlib.Omega.{arith}
use lib.Dec.{leb}
use lib.ListN.{length, take, length-take}
use lib.Seq.{take-append-le}
use borrow.Author.Tests.{leb-true}
use Rattle.octets.specs.Bytes.{Bytes, overwrite}
use Rattle.octets.proofs.Numbers.{bytes_take, length-overwrite}
use Rattle.octets.proofs.Tests.{and-true}
use Rattle.bank_steps.specs.Lent as bank
use Rattle.bank_session.specs.Session.{LentSession, bank_in, journal_in}
use Rattle.image.specs.Items.{image_items}
use Rattle.image.specs.Image.{stores, image_of}
use Rattle.image.specs.declared.codec.ImageRefusal.TheVariants as refusal
use Rattle.image_calls.specs.Calls.{
  image_length,
  numbers_of,
  image_in,
  lengths_right,
  is_admitted,
  PutAway,
  put_away_of,
  put_away,
  take_up_of,
  take_up,
  is_admitted_image,
  store_from,
  session_from,
}
use Rattle.image_calls.proofs.Theorems.{image-long, put-away-done, refused-up, take-up-done, written_back}
use Rattle.image_admitted.specs.Reached.{InList}
use Rattle.exchange.specs.Course.{Call, Course, puts_away, takes_up, exec}
use Rattle.exchange.proofs.Calls.{numbered-stays, carried, by_number}
use Rattle.unit_state.specs.declared.record.Kind.TheVariants as kind
use Rattle.unit_state.specs.Records.{lent_length_of, offset_of, size_of, body_of, room_bytes, call_of}
use Rattle.unit.specs.State.{State, session_in}
use Rattle.unit.specs.Call.{away_answer, taken_up_answer, away_step, take_up_step, image_step}
use Rattle.unit_state.proofs.Parts.{callable}
use Rattle.sessions.specs.Sessions.{bank_at, journal_at, front_of, away_of, taken_of, told}
use Rattle.sessions.proofs.MemoryBytes.{
  bytes-overwrite,
  StoresHold,
  AllHold,
  packed-holds,
  stores-hold,
}
use Rattle.sessions.proofs.BankSteps.{body_bytes}
use Rattle.sessions.proofs.Standing.{SameRunAt, Standing, Stepped}

-- ---- what a writing leaves in the buffer

both_hold : (a b : List ℕ) → Bytes a → Bytes b → AllHold (stores a b)
both_hold a b h k zero i = h i
both_hold a b h k (suc zero) i = k i
both_hold a b h k (suc (suc n)) i = omega arith

module _ (m : LentSession) (buffer : List ℕ) where
  abbrev AwayBy : Bool → Bool → PutAway
  AwayBy b c =
      cond b
      (cond c (put_away_of (Ok image_length) (overwrite buffer 0 (image_in m))) (put_away_of (Err refusal.NotAdmitted) buffer))
      (put_away_of (Err refusal.WrongLength) buffer)

  -- the buffer as it was, or the image in its front
  abbrev Left : List ℕ → Type 0
  Left x = (x ≡ buffer) ⊎ ((x ≡ overwrite buffer 0 (image_in m)) × (length (image_in m) ≤ length buffer))

  left_by_lem : (b c : Bool) → lengths_right m && leb image_length (length buffer) ≡ b → is_admitted m ≡ c → Left (AwayBy b c).buffer
  left_by_lem true true e f =
      let h = and-true (lengths_right m) (leb image_length (length buffer)) e in
      let n = image-long m h.0 f in
      let k = leb-true image_length (length buffer) h.1 in
      inr (refl, omega arith)
  left_by_lem true false e f = inl refl
  left_by_lem false c e f = inl refl

  away-left : Left (put_away m buffer).buffer
  unfolding put_away
  away-left = left_by_lem (lengths_right m && leb image_length (length buffer)) (is_admitted m) refl refl

  -- it keeps its length
  away-length : length (put_away m buffer).buffer ≡ length buffer
  away-length = at away-left
    where
      at : {x : List ℕ} → Left x → length x ≡ length buffer
      at (inl e) = ap length e
      at (inr (e, h)) = ap length e ∙ length-overwrite buffer 0 (image_in m) (omega arith)

  -- and holds bytes
  image-bytes : Bytes m.orders → Bytes m.mailboxes → Bytes (image_in m)
  unfolding image_in image_of
  image-bytes o b =
      packed-holds image_items (numbers_of m) (stores m.orders m.mailboxes) (both_hold m.orders m.mailboxes o b)

  away-bytes : Bytes m.orders → Bytes m.mailboxes → Bytes buffer → Bytes (put_away m buffer).buffer
  away-bytes o b h = at away-left
    where
      at : {x : List ℕ} → Left x → Bytes x
      at (inl e) = subst Bytes (sym e) h
      at (inr (e, _)) = subst Bytes (sym e) (bytes-overwrite buffer 0 (image_in m) h (image-bytes o b))

-- the front of a room, read after it was written
front_read : (room x : List ℕ) (n : ℕ) → n ≤ length x → take n (overwrite room 0 x) ≡ take n x
unfolding overwrite
front_read room x n h = take-append-le n x _ h

-- the answer with its image: in the room, and in what the call left
away-told : (a : Result ℕ ImageRefusal) (buffer room x : List ℕ) → ((n : ℕ) → a ≡ Ok n → n ≤ length x) →
    told (away_answer a) buffer (overwrite room 0 x) ≡ told (away_answer a) [] x
away-told (Ok n) buffer room x h =
    ap (λ (l : List ℕ). record { answer = away_answer (Ok n); bytes = l }) (front_read room x n (h n refl))
away-told (Err refusal.WrongLength) buffer room x h = refl
away-told (Err refusal.NotAdmitted) buffer room x h = refl

-- ---- what a taking up leaves

taken-told : (a : Result (Unit {0}) ImageRefusal) (buffer room : List ℕ) → told (taken_up_answer a) buffer room ≡ told (taken_up_answer a) [] []
taken-told (Ok u) buffer room = refl
taken-told (Err refusal.WrongLength) buffer room = refl
taken-told (Err refusal.NotAdmitted) buffer room = refl

-- it is done, or it is given a number
done-or-not : (m : LentSession) (image : List ℕ) →
    (((take_up m image).number ≡ 0) × ((take_up m image).answer ≡ Ok tt)) ⊎ ((take_up m image).number ≡ 0 → ⊥)
unfolding take_up
done-or-not m image = at (lengths_right m) (is_admitted_image image)
  where
    at : (b c : Bool) →
        let k = cond b (cond c (take_up_of (Ok tt) (session_from image)) (take_up_of (Err refusal.NotAdmitted) m)) (take_up_of (Err refusal.WrongLength) m) in
        ((k.number ≡ 0) × (k.answer ≡ Ok tt)) ⊎ (k.number ≡ 0 → ⊥)
    at true true = inl (refl, refl)
    at true false = inr (λ z. omega arith)
    at false c = inr (λ z. omega arith)

from-hold : (image : List ℕ) → Bytes image → StoresHold (bank.state_of (bank_in (session_from image)))
unfolding session_from store_from
from-hold image h =
    let hold = stores-hold image_items image h in
    record { orders = hold 0; mailboxes = hold 1 }

-- ---- the steps

module _ {u : State} {s : Course} (v : Standing u s) (r : List ℕ) where
  abbrev front : List ℕ
  front = front_of u r

  front_bytes : Bytes front
  front_bytes = bytes_take (lent_length_of r) u.memory.room v.image

  abbrev left : List ℕ
  left = (put_away (session_in u) (front_of u r)).buffer

  left-within : length left ≤ length u.memory.room
  left-within =
      let e = away-length (session_in u) front in
      let k : length front ≤ length u.memory.room = simp length-take (omega arith) in
      omega arith

  away-standing : Standing (away_step u r).state (exec (away_of u r) s)
  unfolding away_step away_of
  away-standing =
      let k = puts_away (session_in u) (front_of u r) in
      record {
        listed = v.listed;
        stores = v.stores;
        bank = by_number k s (λ (t : Course). bank_at u ≡ t.bank) v.bank (λ _. v.bank);
        journal = by_number k s (λ (t : Course). journal_at u ≡ t.journal) v.journal (λ _. v.journal);
        count = v.count;
        payloads = v.payloads;
        files = v.files;
        room = length-overwrite u.memory.room 0 left (let h = left-within in omega arith) ∙ v.room;
        image = bytes-overwrite u.memory.room 0 left v.image
            (away-bytes (session_in u) front v.stores.orders v.stores.mailboxes front_bytes);
        line-rows = v.line-rows;
        line-stores = v.line-stores;
        runs = λ i h. by_number k s (λ (t : Course). SameRunAt u t i) (v.runs i h) (λ _. v.runs i h);
      }

  pub away-step : Stepped s (away_of u r) (away_step u r)
  unfolding away_step away_of
  away-step = record {
    given = λ _. (v.bank, v.journal);
    standing = away-standing;
    answer = away-told (put_away (session_in u) front).answer u.memory.buffer u.memory.room left
        (λ n e. let d = put-away-done (session_in u) front n e in let k = away-length (session_in u) front in
        let long = d.1 in let is = d.3 in omega arith);
  }

  abbrev now : LentSession
  now = (take_up (session_in u) (front_of u r)).session

  abbrev k : Call
  k = takes_up (session_in u) (front_of u r)

  -- the session taken up is one of the list, whoever wrote it
  up_done : (take_up (session_in u) front).number ≡ 0 → (take_up (session_in u) front).answer ≡ Ok tt →
      Standing (take_up_step u r).state (exec k s)
  unfolding take_up_step
  up_done z d =
      let w = written_back (session_in u) front d front_bytes in
      subst (Standing (take_up_step u r).state) (sym (carried k s z)) (record {
        listed = (w.0, w.1);
        stores = subst (λ (m : LentSession). StoresHold (bank.state_of (bank_in m))) (sym (take-up-done (session_in u) front d).2)
            (from-hold front front_bytes);
        bank = refl;
        journal = refl;
        count = v.count;
        payloads = v.payloads;
        files = v.files;
        room = v.room;
        image = v.image;
        line-rows = v.line-rows;
        line-stores = v.line-stores;
        runs = v.runs;
      })

  up-refused : ((take_up (session_in u) front).number ≡ 0 → ⊥) → Standing (take_up_step u r).state (exec k s)
  unfolding take_up_step
  up-refused n =
      let e = refused-up (session_in u) front n in
      subst (Standing (take_up_step u r).state) (sym (numbered-stays k s n)) (record {
        listed = subst InList (sym e) v.listed;
        stores = subst (λ (m : LentSession). StoresHold (bank.state_of (bank_in m))) (sym e) v.stores;
        bank = ap (λ (m : LentSession). bank.state_of (bank_in m)) e ∙ v.bank;
        journal = ap journal_in e ∙ v.journal;
        count = v.count;
        payloads = v.payloads;
        files = v.files;
        room = v.room;
        image = v.image;
        line-rows = v.line-rows;
        line-stores = v.line-stores;
        runs = v.runs;
      })

  up-standing : Standing (take_up_step u r).state (exec k s)
  up-standing = at (done-or-not (session_in u) front)
    where
      at : (((take_up (session_in u) front).number ≡ 0) × ((take_up (session_in u) front).answer ≡ Ok tt))
          ⊎ ((take_up (session_in u) front).number ≡ 0 → ⊥) → Standing (take_up_step u r).state (exec k s)
      at (inl (z, d)) = up_done z d
      at (inr n) = up-refused n

  pub taken_step : Stepped s (taken_of u r) (take_up_step u r)
  unfolding take_up_step taken_of
  taken_step = record {
    given = λ _. tt;
    standing = up-standing;
    answer = taken-told (take_up (session_in u) front).answer u.memory.buffer u.memory.room;
  }

  -- the host's bytes go into the room
  pub image-standing : Bytes r → call_of r ≡ kind.Image → Standing (image_step u r).state s
  unfolding image_step body_of
  image-standing b e =
      let x = body_of kind.Image r in
      let within = leb-true (offset_of r + size_of kind.Image r) room_bytes (callable r kind.Image refl e).within in
      let short : length x ≤ size_of kind.Image r = simp length-take (omega arith) in
      record {
        listed = v.listed;
        stores = v.stores;
        bank = v.bank;
        journal = v.journal;
        count = v.count;
        payloads = v.payloads;
        files = v.files;
        room = length-overwrite u.memory.room (offset_of r) x (let n = v.room in omega arith) ∙ v.room;
        image = bytes-overwrite u.memory.room (offset_of r) x v.image (body_bytes kind.Image r b);
        line-rows = v.line-rows;
        line-stores = v.line-stores;
        runs = v.runs;
      }
