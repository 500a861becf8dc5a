-- The test of a frame call's lent lengths and its time: what passes it, and that a late call changes nothing. Assumes
-- nothing.
use Prim.Native.Nat.{◌<◌}
use mathlib.Core.Bool.{Bool, true, false, ◌&&◌}
use mathlib.Core.Path.{◌≡◌, refl}
use lib.Dec.{eqb, leb}
use lib.ListN.{length}
use borrow.Author.Tests.{eq-eqb, eqb-true, le-leb, leb-true, lt-leb}
use Rattle.octets.proofs.Tests.{and-true}
use Rattle.frame_table.specs.Table.{last_time}
use Rattle.bank_state.specs.Limits.{store_bytes, id_bytes, reply_room}
use Rattle.bank_state.specs.State.{BankState}
use Rattle.bank_steps.specs.Lent.{Lent, state_of}
use Rattle.bank.specs.Call.{FrameInput, RightInput, lent_long, lent_right}
use Rattle.bank.specs.Lent.{frame_turned_away, lent_frame_call}
use Rattle.bank.proofs.Lent.{lent-refused}

pub and_last : (a b : Bool) → b ≡ false → a && b ≡ false
and_last true b e = e
and_last false b e = refl

-- a bank time over the last one gets number 1, and nothing changes
pub late-refused : (m : Lent) (a : FrameInput) → last_time < a.time → lent_frame_call m a ≡ frame_turned_away m a
unfolding lent_right
late-refused m a late =
    lent-refused m a (and_last (lent_long (state_of m) a) (leb a.time last_time) (lt-leb a.time last_time late))

module _ (w : BankState) (a : FrameInput) where
  -- the tests, from the last one on
  pub right-told : lent_right w a ≡ true
      → (length w.orders ≡ store_bytes) × (length w.mailboxes ≡ store_bytes) × RightInput a
  unfolding lent_right
  right-told h =
      let orders : Bool = eqb (length w.orders) store_bytes in
      let stores : Bool = orders && eqb (length w.mailboxes) store_bytes in
      let with_ids : Bool = stores && eqb (length a.ids) id_bytes in
      let room : Bool = leb reply_room (length a.buffer) in
      let timely = and-true (lent_long w a) (leb a.time last_time) h in
      let roomy = and-true with_ids room timely.0 in
      let ids = and-true stores (eqb (length a.ids) id_bytes) roomy.0 in
      let both = and-true orders (eqb (length w.mailboxes) store_bytes) ids.0 in (
        eqb-true _ store_bytes both.0,
        eqb-true _ store_bytes both.1,
        record {
          ids = eqb-true _ id_bytes ids.1;
          room = leb-true _ _ roomy.1;
          in_time = leb-true _ _ timely.1;
        },
      )

  pub right-tested : length w.orders ≡ store_bytes → length w.mailboxes ≡ store_bytes → RightInput a
      → lent_right w a ≡ true
  unfolding lent_right
  right-tested orders mailboxes right =
      rw (
        eq-eqb (length w.orders) store_bytes orders,
        eq-eqb (length w.mailboxes) store_bytes mailboxes,
        eq-eqb (length a.ids) id_bytes right.ids,
        le-leb reply_room (length a.buffer) right.room,
        le-leb a.time last_time right.in_time,
      )
