-- The calls of the rows in fewer steps: a lent row of n zeros is not walked to find that it has n. Assumes nothing.
use Rattle.std.specs.Prelude.{Err, Ok}
use Prim.Native.Nat.{ℕ}
use mathlib.Core.Bool.{Bool, true, false, cond, ◌&&◌}
use mathlib.Core.List.{List, []}
use mathlib.Core.Path.{◌≡◌, refl, ap}
use lib.Dec.{leb, eqb}
use lib.ListN.{length, replicate, length-replicate}
use Rattle.octets.specs.Bytes.{overwrite}
use Rattle.frame_table.specs.declared.fields.Fields.{Fields}
use Rattle.frame_table.specs.Table.{last_time}
use Rattle.frame_writer.specs.Writer.{frame_of}
use Rattle.signers.specs.Signers.{signer_count, is_released}
use Rattle.bank_state.specs.Limits.{store_bytes, id_bytes, reply_room}
use Rattle.bank_state.specs.State.{Bank}
use Rattle.bank_sound.specs.Sound.{is_sound}
use Rattle.bank_steps.specs.Lent.{state_of}
use Rattle.bank.specs.Call.{FrameCall, FrameInput, lent_right, frame_call}
use Rattle.bank.specs.Lent.{kept_frame, frame_turned_away, lent_frame_call}
use Rattle.bank_session.specs.Session.{LentSession, event_count, bank_in, SessionFrameCall, takes_frame, with_journal, session_turned_away, session_frame_call}
use Rattle.image.specs.Items.{image_items}
use Rattle.image.specs.Image.{fits}
use Rattle.image_conditions.specs.Conditions.{admitted}
use Rattle.image_numbers.specs.Numbers.{numbers_in}
use Rattle.image.specs.declared.codec.ImageRefusal.TheVariants as away
use Rattle.image_calls.specs.Calls.{
  image_length,
  image_in,
  lengths_right,
  is_admitted,
  PutAway,
  put_away_of,
  put_away,
}
use Rattle.case_rows.specs.Rows.{clock}
use Rattle.case_rows.proofs.Calls.{frame_by, frame-by}
use Rattle.bank_cases.specs.Table.{
  idle,
  lending,
  session_with,
  session_after,
  signers_in,
  first_under,
  asking,
  uploads,
  HostCall,
  code_with,
  signers_after,
  released_after,
  events_after,
  entered_under,
  asked,
  frame_with,
  file_with,
  take_up_with,
  put_away_with,
  come,
}

-- ---- a frame arrives

-- the session's call around the bank's
abbrev around : LentSession → FrameInput → FrameCall → SessionFrameCall
around m a c =
    cond (takes_frame m)
    (with_journal m a (cond (is_sound (bank_in m).rows) (kept_frame (bank_in m) c) (frame_turned_away (bank_in m) a)))
    (session_turned_away m a)

module _ (records orders mailboxes time ids buffer others : ℕ) (b : Bank) (frame : List ℕ) where
  abbrev m : LentSession
  m = lending records orders mailboxes b

  abbrev a : FrameInput
  a = asking time ids buffer others frame

  -- the lengths, by the numbers that they were made of
  abbrev is_right : Bool
  is_right =
      (eqb orders store_bytes && eqb mailboxes store_bytes && eqb ids id_bytes && leb reply_room buffer) && leb time last_time

  right : lent_right (state_of (bank_in m)) a ≡ is_right
  unfolding lent_right
  right =
      rw (
        length-replicate {A = ℕ} orders 0,
        length-replicate {A = ℕ} mailboxes 0,
        length-replicate {A = ℕ} ids 0,
        length-replicate {A = ℕ} buffer 0,
      )

  bank-call : frame_call (state_of (bank_in m)) a ≡ frame_by is_right (state_of (bank_in m)) a
  bank-call = frame-by (state_of (bank_in m)) a right

  abbrev quick_call : SessionFrameCall
  quick_call = around m a (frame_by is_right (state_of (bank_in m)) a)

  quick-call : session_frame_call m a ≡ quick_call
  unfolding session_frame_call lent_frame_call
  quick-call = ap (around m a) bank-call

-- ---- a session is put away

-- a session with a number that its part does not hold is not one of the list, whatever else it holds: that is asked first
other_way : (x y : Bool) → (x && y) ≡ (y && x)
other_way true true = refl
other_way true false = refl
other_way false true = refl
other_way false false = refl

abbrev admitted_by : LentSession → Bool
admitted_by m =
    let numbers = numbers_in m.rows m.row in
    fits image_items numbers && admitted numbers m.orders m.mailboxes

admitted-by : (m : LentSession) → is_admitted m ≡ admitted_by m
unfolding is_admitted
admitted-by m =
    let numbers = numbers_in m.rows m.row in
    other_way (admitted numbers m.orders m.mailboxes) (fits image_items numbers)

-- the call around that test
abbrev put_away_by : Bool → LentSession → List ℕ → PutAway
put_away_by listed m buffer =
    cond (lengths_right m && leb image_length (length buffer))
    (cond listed (put_away_of (Ok image_length) (overwrite buffer 0 (image_in m)))
    (put_away_of (Err away.NotAdmitted) buffer))
    (put_away_of (Err away.WrongLength) buffer)

quick-away : (m : LentSession) (buffer : List ℕ) → put_away m buffer ≡ put_away_by (admitted_by m) m buffer
unfolding put_away
quick-away m buffer = ap (λ (t : Bool). put_away_by t m buffer) (admitted-by m)

-- ---- every call of the table

abbrev quick_after : Bank → Fields → List ℕ → LentSession
quick_after b q d = (quick_call 64 63488 63488 clock 8 312 6 b (frame_of q d)).session

quick-after : (b : Bank) (q : Fields) (d : List ℕ) → session_after b q d ≡ quick_after b q d
quick-after b q d = ap (λ (c : SessionFrameCall). c.session) (quick-call 64 63488 63488 clock 8 312 6 b (frame_of q d))

abbrev pub quick : HostCall → ℕ
quick (code_with others b q d) = (quick_call 64 63488 63488 clock 8 312 others b (frame_of q d)).code
quick (signers_after b q d) = signer_count (signers_in (quick_after b q d))
quick (released_after b q d) = cond (is_released (signers_in (quick_after b q d))) 1 0
quick (events_after b q d) = event_count (quick_after b q d).rows
quick (entered_under b q d) = first_under (quick_after b q d)
quick (asked of time b frame) = of (quick_call 64 63488 63488 time 8 312 6 b frame)
quick (frame_with records orders mailboxes ids buffer time) =
    (quick_call records orders mailboxes time ids buffer 6 idle (frame_of (uploads 1) [])).number
quick (file_with numbers store mailbox n) = come (file_with numbers store mailbox n)
quick (take_up_with mailboxes) = come (take_up_with mailboxes)
quick (put_away_with b buffer) =
    (put_away_by (admitted_by (session_with b)) (session_with b) (replicate buffer 0)).number

pub same : (c : HostCall) → come c ≡ quick c
same (code_with others b q d) =
    ap (λ (c : SessionFrameCall). c.code) (quick-call 64 63488 63488 clock 8 312 others b (frame_of q d))
same (signers_after b q d) = ap (λ (m : LentSession). signer_count (signers_in m)) (quick-after b q d)
same (released_after b q d) = ap (λ (m : LentSession). cond (is_released (signers_in m)) 1 0) (quick-after b q d)
same (events_after b q d) = ap (λ (m : LentSession). event_count m.rows) (quick-after b q d)
same (entered_under b q d) = ap first_under (quick-after b q d)
same (asked of time b frame) = ap of (quick-call 64 63488 63488 time 8 312 6 b frame)
same (frame_with records orders mailboxes ids buffer time) =
    ap (λ (c : SessionFrameCall). c.number)
    (quick-call records orders mailboxes time ids buffer 6 idle (frame_of (uploads 1) []))
same (file_with numbers store mailbox n) = refl
same (take_up_with mailboxes) = refl
same (put_away_with b buffer) = ap (λ (c : PutAway). c.number) (quick-away (session_with b) (replicate buffer 0))
