-- Mailboxes: the conditions "mailbox length" and "mailbox bytes" are what a session's mailboxes may hold. Assumes
-- nothing.
use Prim.Native.Nat.{ℕ, ◌<◌}
use mathlib.Core.Bool.{true}
use mathlib.Core.List.{List}
use mathlib.Core.Path.{◌≡◌}
use lib.Dec.{leb}
use lib.ListN.{length, get_or}
use borrow.Author.Tests.{leb-true, le-leb}
use Rattle.octets.proofs.Tests.{and-true}
use Rattle.message.specs.Limits.{file_bytes}
use Rattle.journal.specs.Row.{Journal}
use Rattle.bank_state.specs.Limits.{place_count, store_bytes}
use Rattle.bank_state.specs.State.{Bank}
use Rattle.bank_state.specs.Store.{part_at}
use Rattle.bank_admitted.specs.State.{MailboxHolds}
use Rattle.image_conditions.specs.Conditions.{mailbox_bytes, mailbox_test, every_mailbox}
use Rattle.image_records.proofs.Shapes.{every-at, every-from}
use Rattle.image_records.proofs.General.{and_both}
use Rattle.image_admitted.proofs.Shown.{Shown}
use Rattle.image_admitted.proofs.Stores.{zeros-told, zeros-tested}

module _ {xs : List ℕ} {b : Bank} {j : Journal} {d n : ℕ} (v : Shown xs b j d n)
    (mailboxes : List ℕ) (whole : length mailboxes ≡ store_bytes) where
  pub mailboxes-hold : every_mailbox xs mailboxes ≡ true → (i : ℕ) → i < place_count
      → MailboxHolds (get_or b.files i 0) (part_at mailboxes i)
  unfolding every_mailbox mailbox_test mailbox_bytes
  mailboxes-hold h i k =
      let t = rw (v.file i k) at (every-at (mailbox_test xs mailboxes) place_count i h k) in
      let a = and-true (leb (get_or b.files i 0) file_bytes) _ t in
      let room = leb-true _ _ a.0 in
      record { room = room; zeros = zeros-told mailboxes whole i k (get_or b.files i 0) room a.1 }

  pub every-mailbox : ((i : ℕ) → i < place_count → MailboxHolds (get_or b.files i 0) (part_at mailboxes i))
      → every_mailbox xs mailboxes ≡ true
  unfolding every_mailbox mailbox_test mailbox_bytes
  every-mailbox f =
      every-from (mailbox_test xs mailboxes) place_count
      (λ i k.
      let m = f i k in
      rw (v.file i k)
      (and_both (le-leb _ _ m.room) (zeros-tested mailboxes whole i k (get_or b.files i 0) m.room m.zeros)))
