-- What a file that is not refused tells. Assumes nothing.
use Rattle.bank.specs.declared.mailbox.FileRefusal.{FileRefusal}
use Rattle.std.specs.Prelude.{Err, Ok, Result}
use Prim.Native.Nat.{ℕ, ◌≤◌, ◌<◌}
use mathlib.Core.Bool.{Bool, true, false}
use mathlib.Core.List.{List}
use mathlib.Core.Path.{◌≡◌, refl, ap}
use lib.Dec.{eqb, ltb}
use lib.ListN.{length}
use borrow.Author.Tests.{eqb-true, ltb-false, not-false}
use Rattle.octets.proofs.Tests.{or-neither}
use Rattle.message.specs.Limits.{subscribers, file_bytes}
use Rattle.message.specs.Verdicts.{decide}
use Rattle.bank_state.specs.State.{Bank}
use Rattle.bank_state.specs.Limits.{store_bytes}
use Rattle.bank_state.specs.State.{file_length}
use Rattle.message.proofs.Verdicts.{all-failed}
use Rattle.bank_steps.proofs.Accepted.{numbered}
use Rattle.bank.specs.declared.mailbox.FileRefusal.TheVariants.{WrongLength, NoMailbox}
use Rattle.bank.specs.declared.mailbox.FileRefusal.TheVariants.{WrongFile, MailboxFull}
use Rattle.bank.specs.Mailbox.{file_refusals}

abbrev is_done : Result (Unit {0}) FileRefusal → Bool
is_done (Ok u) = true
is_done (Err WrongLength) = false
is_done (Err NoMailbox) = false
is_done (Err WrongFile) = false
is_done (Err MailboxFull) = false

-- a file that goes into a mailbox has room there, and the mailbox is empty
pub file-fits : (b : Bank) (m : ℕ) (file mailboxes : List ℕ) → decide (file_refusals b m file mailboxes) (Ok tt) ≡ Ok tt
    → (0 < m) × (m ≤ subscribers) × (length file ≤ file_bytes) × (length mailboxes ≡ store_bytes)
    × (file_length m b.files ≡ 0)
unfolding file_refusals
file-fits b m file mailboxes h =
    let failed = all-failed is_done (file_refusals b m file mailboxes) (Ok tt) refl (ap is_done h) in
    let n = numbered m (failed 1) in
    let size = or-neither (eqb (length file) 0) (ltb file_bytes (length file)) (failed 2) in
    let lent = eqb-true (length mailboxes) store_bytes (not-false _ (failed 0)) in
    let free = eqb-true (file_length m b.files) 0 (not-false _ (failed 3)) in
    (n.0, n.1, ltb-false file_bytes (length file) size.1, lent, free)
