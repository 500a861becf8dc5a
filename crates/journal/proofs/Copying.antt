-- What `held_row` and `replace_row` give: each of the records copied stands where it is to stand, and where none are
-- copied nothing changes. Assumes nothing.
use Prim.Native.Nat.{ℕ, ◌<◌}
use mathlib.Core.Path.{◌≡◌, refl, sym, ◌∙◌}
use mathlib.Core.Bool.{Bool, true, false, cond, ◌&&◌}
use mathlib.Core.List.{List}
use native.Mathlib.Omega.{arith}
use lib.Dec.{eqb}
use lib.ListN.{length, get_or, length-replicate}
use borrow.Author.Tests.{eq-eqb, eqb-true}
use Rattle.octets.proofs.Tests.{and-true}
use Rattle.journal.specs.declared.event.Event.{Event}
use Rattle.journal.specs.Events.{record_count, no_event}
use Rattle.journal.specs.Row.{empty_row, copied_count, held_row, replaced}
use Rattle.journal.proofs.Mixed.{mixed, mixed-none, mixed-back}

-- zs is xs with the first records of src in it
pub record Copying (end : ℕ) (src xs zs : List Event) : Type 0 where
  pub same : length zs ≡ length xs
  pub within : (i : ℕ) → i < end → (length src ≡ record_count) × (length xs ≡ record_count) × (i < record_count)
  pub given : (i : ℕ) → i < end → get_or src i no_event ≡ get_or zs i no_event
  pub ends : mixed end zs xs ≡ zs

all-or-none : (t : Bool) (src xs : List Event) → (t ≡ true → length src ≡ record_count) → (t ≡ true → length xs ≡ record_count) → Copying (cond t record_count 0) src xs (cond t src xs)
all-or-none true src xs e f = record {
  same = e refl ∙ sym (f refl);
  within = λ i l. (e refl, f refl, l);
  given = λ i l. refl;
  ends = mixed-back record_count src xs no_event (e refl ∙ sym (f refl)) (λ j l m. absurd (omega (arith, l, m, f refl)));
}
all-or-none false src xs e f = record {
  same = refl;
  within = λ i l. absurd (omega (arith, l));
  given = λ i l. absurd (omega (arith, l));
  ends = mixed-none xs xs;
}

pub holding : (xs : List Event) → Copying (copied_count true (length xs)) xs empty_row (held_row xs)
unfolding copied_count held_row empty_row
holding xs =
    all-or-none (eqb (length xs) record_count) xs empty_row (eqb-true (length xs) record_count) (λ _. length-replicate record_count no_event)

pub replacing : (taken : Bool) (held xs : List Event) → length held ≡ record_count → Copying (copied_count taken (length xs)) held xs (replaced taken held xs)
unfolding copied_count replaced
replacing taken held xs len =
    all-or-none (taken && eqb (length xs) record_count) held xs (λ _. len)
    (λ e. eqb-true (length xs) record_count (and-true taken (eqb (length xs) record_count) e).1)

-- a row of 64 records is held as it is
pub held_whole : (xs : List Event) → length xs ≡ record_count → held_row xs ≡ xs
unfolding held_row
held_whole xs len = rw (eq-eqb (length xs) record_count len)

pub held-length : (xs : List Event) → length (held_row xs) ≡ record_count
unfolding empty_row
held-length xs = (holding xs).same ∙ length-replicate record_count no_event
