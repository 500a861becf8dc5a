-- What the journal's row says of an upload, by its transaction ID. Assumes nothing.
use Prim.Native.Nat.{ℕ}
use mathlib.Core.Bool.{true}
use mathlib.Core.List.{List, [], ◌∷◌, ◌++◌, append_assoc}
use mathlib.Core.Logic.{inl, inr}
use mathlib.Core.Path.{◌≡◌, subst}
use native.Mathlib.Omega.{arith}
use Rattle.frame_table.specs.declared.fields.Bits128.{Bits128}
use Rattle.journal.specs.declared.event.Found.TheVariants as found
use Rattle.journal.specs.Records.{RecordedEnd}
use Rattle.journal.specs.Row.{lookup}
use Rattle.journal.proofs.Lookup.{booked-recorded, ended-recorded}
use Rattle.bank_history.specs.History.{BankCall, is_booking, ever, past_of}
use Rattle.bank_history.specs.Journal.{journal_of}
use Rattle.bank_history.specs.JournalOrders.{NeverBooked}
use Rattle.bank_history.proofs.JournalOrders.{journal-orders}

-- "never booked" stays so over a call more
pub never-more : (c : BankCall) {calls : List BankCall} {t : Bits128} → NeverBooked calls t → NeverBooked (c ∷ calls) t
never-more c {calls} {t} n = record {
  closed = λ more. rw append_assoc at (n.closed (more ++ (c ∷ [])));
  unbooked = λ more. rw append_assoc at (n.unbooked (more ++ (c ∷ [])));
}

-- the upload t
module _ (calls : List BankCall) (t : Bits128) where
  -- a booking of it
  pub row-booked : lookup t (journal_of calls).row ≡ found.Booked → ever is_booking t (past_of calls).history ≡ true
  row-booked z =
      let (e, i, n, k) = journal-orders.recorded calls (booked-recorded t (journal_of calls).row z)
      (λ u. (let y : ◌≡◌ {A = ℕ} 0 1 = cc in omega arith)) in
      subst (λ (x : Bits128). ever is_booking x (past_of calls).history ≡ true) n (journal-orders.booked calls e i k)

  -- "a cancellation or drop"
  pub row-ended : lookup t (journal_of calls).row ≡ found.Ended → NeverBooked calls t
  row-ended z = at (ended-recorded t (journal_of calls).row z)
    where
      at : RecordedEnd t (journal_of calls).row → NeverBooked calls t
      at (inl r) =
          let (e, i, n, k) = journal-orders.recorded calls r (λ u. (let y : ◌≡◌ {A = ℕ} 0 1 = cc in omega arith)) in
          subst (NeverBooked calls) n (journal-orders.ended calls e i (inl k))
      at (inr r) =
          let (e, i, n, k) = journal-orders.recorded calls r (λ u. (let y : ◌≡◌ {A = ℕ} 0 1 = cc in omega arith)) in
          subst (NeverBooked calls) n (journal-orders.ended calls e i (inr k))
