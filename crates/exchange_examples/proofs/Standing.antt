-- The session as it stands, in memory: its rows are such as a call leaves, so that a host's call on it is the bank's
-- own on the bank and the journal that stand; its counts are some that fit the bank. Assumes nothing.
use Prim.Native.Nat.{ℕ, ◌+◌, ◌-◌, ◌≤◌, ◌^◌}
use mathlib.Core.Bool.{Bool, true, false, ◌&&◌}
use mathlib.Core.List.Memᴰ.{not-nil as in-none}
use mathlib.Core.List.{List, [], ◌∷◌}
use mathlib.Core.Path.{◌≡◌, refl, sym, ap, ◌∙◌, subst}
use native.Mathlib.Omega.{arith}
use lib.ListN.{length, replicate}
use borrow.Author.Tests.{lt-ltb}
use Rattle.journal.specs.Row.{Journal, takes_events}
use Rattle.bank_state.specs.declared.state.Place.{Place}
use Rattle.bank_state.specs.Limits.{max_openings}
use Rattle.bank_state.specs.Search.{is_booked, open_count}
use Rattle.bank_state.specs.State.{Bank, BankState, bank_state}
use Rattle.bank_state.proofs.Rows.{count-le}
use Rattle.bank_rows.specs.Layout.{state_size}
use Rattle.bank_rows.specs.State.{bank_of, stored, Laid, Held}
use Rattle.bank_rows.proofs.State.{stored_back, stored-laid}
use Rattle.bank_sound.specs.Sound.{is_sound}
use Rattle.bank_sound.proofs.Range.{zeros-sound}
use Rattle.bank_sound.proofs.Test.{sound-laid, stored-sound}
use Rattle.bank_steps.specs.Lent.{lent, state_of}
use Rattle.bank.specs.Call.{frame_call}
use Rattle.opening_counts.specs.declared.seven.Counts.{Counts}
use Rattle.opening_counts.specs.Counts.{most_moved, fits, can_grow}
use Rattle.bank_session.specs.Session.{LentSession, session_size, bank_rows, event_count, session_of, bank_in, journal_in}
use Rattle.bank_session.proofs.Rows.{bank-of-both, count-of-both, counts-of-both, both_long}
use Rattle.bank_admitted.specs.Counts.{booked_orders}
use Rattle.bank_admitted.specs.State.{StateHolds}
use Rattle.bank_admitted.proofs.Fresh.{fresh-state}
use Rattle.bank_admitted.proofs.InRange.{state-in-range}
use Rattle.bank_admitted.proofs.Keeps.{frame-keeps-state, file-keeps-state}
use Rattle.image_admitted.proofs.Held.{held-state}
use Rattle.exchange.specs.Course.{
  Call,
  frame_arrives,
  file_put,
  begins,
  reply_arrives,
  no_reply,
  journal_handed,
  puts_away,
  takes_up,
  Course,
  start,
  call_number,
  carry_out,
  exec,
  after,
}
use Rattle.exchange.specs.Demand3.{Premise, Allowed, AllAllowed}
use Rattle.exchange.proofs.Calls.{by_number}
use Rattle.exchange.proofs.Host.{grows, host-frame, host-file}
use Rattle.exchange.proofs.Images.{Written, put_written, taken-stays}

abbrev numbers : Course → List ℕ
numbers s = stored s.bank.bank (replicate state_size 0)

-- a course has no counts: these fit its bank, as if all that is neither open nor booked had been dropped
abbrev fitting : Bank → Counts
fitting b = record {
  pending = open_count b;
  booked = booked_orders b;
  fetched = 0;
  skipped = 0;
  ended = 0;
  cancelled = 0;
  dropped = b.openings - open_count b - booked_orders b;
}

abbrev pub standing : Course → LentSession
standing s = session_of (lent (numbers s) s.bank.orders s.bank.mailboxes) s.journal (fitting s.bank.bank)

and_yes : (t : Bool) → t && true ≡ t
and_yes true = refl
and_yes false = refl

one-fits : (n : ℕ) → n ≤ max_openings → fits n ≡ true
unfolding fits
one-fits n h = lt-ltb (n + most_moved) (2 ^ 64) (omega (arith, h))

module _ (s : Course) (v : StateHolds s.bank) where
  zeros-laid : Laid (replicate state_size 0)
  zeros-laid = sound-laid (replicate state_size 0) zeros-sound

  held : Held s.bank.bank
  held = held-state s.bank v

  long : length (numbers s) ≡ state_size
  long = (stored-laid s.bank.bank held (replicate state_size 0) zeros-laid).long

  rows_are : bank_rows (standing s).rows ≡ numbers s
  rows_are = bank-of-both (numbers s) long s.journal.events (fitting s.bank.bank)

  pub standing-long : length (standing s).rows ≡ session_size
  standing-long = both_long (numbers s) long s.journal.events (fitting s.bank.bank)

  fitting-grows : can_grow (fitting s.bank.bank) ≡ true
  unfolding can_grow
  fitting-grows =
      let b = s.bank.bank in
      let few = v.open_all in
      let most = count-le (λ (p : Place). is_booked p.used) b.places in
      let places = v.sizes.places in
      let opened = v.numbers in
      rw (
        one-fits (open_count b) (omega (arith, few)),
        one-fits (booked_orders b) (omega (arith, most, places)),
        one-fits 0 (omega arith),
        one-fits (b.openings - open_count b - booked_orders b) (omega (arith, opened)),
      )

  -- each of its counts can grow
  pub standing-grows : grows (standing s) ≡ takes_events (length (standing s).row) (event_count (standing s).rows)
  standing-grows =
      let room = takes_events (length (standing s).row) (event_count (standing s).rows) in
      let seven = counts-of-both (numbers s) long s.journal.events (fitting s.bank.bank) in
      ap (λ (u : Bool). room && u) (ap can_grow seven ∙ fitting-grows) ∙ and_yes room

  -- such as a call leaves
  pub standing-sound : is_sound (bank_rows (standing s).rows) ≡ true
  standing-sound =
      ap is_sound rows_are
      ∙ stored-sound s.bank.bank (replicate state_size 0) held zeros-laid (state-in-range s.bank v)

  pub standing-numbers : bank_of (bank_rows (standing s).rows) ≡ s.bank.bank
  standing-numbers = ap bank_of rows_are ∙ stored_back s.bank.bank held (replicate state_size 0) zeros-laid

  pub standing-bank : state_of (bank_in (standing s)) ≡ s.bank
  standing-bank = ap (λ (b : Bank). bank_state b s.bank.orders s.bank.mailboxes) standing-numbers

  pub standing-journal : journal_in (standing s) ≡ s.journal
  standing-journal =
      let of : ℕ → Journal = λ (n : ℕ). record { events = n; row = s.journal.row } in
      ap of (count-of-both (numbers s) long s.journal.events (fitting s.bank.bank))

-- ---- over allowed calls

-- what the bank and the images are after them
pub record Right (s : Course) : Type 0 where
  pub state : StateHolds s.bank
  pub images : Written s

pub right-start : Right start
unfolding start
right-start = record { state = fresh-state; images = λ image i. absurd (in-none i) }

right-carried : (k : Call) (s : Course) → Right s → Premise k s → call_number k ≡ 0 → Right (carry_out k s)
right-carried (frame_arrives m a) s v q z = record {
  state = subst (λ (t : Course). StateHolds t.bank) (sym (host-frame m a z s))
      (subst (λ (x : BankState). StateHolds (frame_call x a).bank_state) (sym q.0) (frame-keeps-state s.bank v.state a));
  images = λ image i. absurd (in-none i);
}
right-carried (file_put rows mailboxes m file) s v q z = record {
  state = subst (λ (t : Course). StateHolds t.bank) (sym (host-file rows mailboxes m file z s))
      (rw (q.0, q.1) (file-keeps-state s.bank v.state m file));
  images = λ image i. absurd (in-none i);
}
right-carried (begins i c params l) s v q z = record { state = v.state; images = v.images }
right-carried (reply_arrives i c reply l) s v q z = record { state = v.state; images = v.images }
right-carried (no_reply i c l) s v q z = record { state = v.state; images = v.images }
right-carried (journal_handed i c row) s v q z = record { state = v.state; images = v.images }
right-carried (puts_away m buffer) s v q z = record { state = v.state; images = put_written m buffer s v.images q z }
right-carried (takes_up m image) s v q z = subst Right (sym (taken-stays m image s v.images q z)) v

pub right-next : (k : Call) (s : Course) → Right s → Allowed k s → Right (exec k s)
right-next k s v a = by_number k s Right v (λ z. right-carried k s v (a z) z)

-- ---- after every list of allowed calls there is a session to lend: the premises of a frame and of a file can be met

right-after : (ks : List Call) (s : Course) → Right s → AllAllowed ks s → Right (after ks s)
unfolding after
right-after [] s v a = v
right-after (k ∷ ks) s v a = right-after ks (exec k s) (right-next k s v a.0) a.1

-- whose numbers are such as a call leaves
pub lendable : (ks : List Call) → AllAllowed ks start → let s = after ks start in
    (m : LentSession) × (state_of (bank_in m) ≡ s.bank) × (journal_in m ≡ s.journal) × (length m.rows ≡ session_size)
    × (is_sound (bank_rows m.rows) ≡ true)
lendable ks a =
    let s = after ks start in
    let v = (right-after ks start right-start a).state in
    (standing s, standing-bank s v, standing-journal s v, standing-long s v, standing-sound s v)
