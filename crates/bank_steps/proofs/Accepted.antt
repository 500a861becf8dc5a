-- What a request that is not refused tells of its subscriber. Assumes nothing.
use Prim.Native.Nat.{ℕ, ◌≤◌, ◌<◌}
use mathlib.Core.Bool.{false}
use mathlib.Core.Path.{◌≡◌}
use lib.Dec.{ltb}
use borrow.Author.Tests.{ltb-false}
use Rattle.frame_table.specs.declared.fields.Fields.{Fields}
use Rattle.frame_table.specs.Names.{subscriber}
use Rattle.octets.proofs.Tests.{or-neither}
use Rattle.message.specs.Limits.{subscribers}
use Rattle.bank_verdicts.specs.Refusals.{no_subscriber}
use Rattle.bank_steps.specs.Mailboxes.{is_no_mailbox}

-- a number of a subscriber, or of a mailbox
pub numbered : (n : ℕ) → is_no_mailbox n ≡ false → (0 < n) × (n ≤ subscribers)
numbered n h =
    let a = or-neither (ltb n 1) (ltb subscribers n) h in
    (ltb-false n 1 a.0, ltb-false subscribers n a.1)

-- a request that line 091003 does not refuse is one of a subscriber
pub request-known : (q : Fields) → no_subscriber q ≡ false → (0 < subscriber q) × (subscriber q ≤ subscribers)
unfolding no_subscriber
request-known q h = numbered (subscriber q) h
