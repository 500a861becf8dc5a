-- The numbers of subscribers and of their mailboxes.
use Rattle.std.specs.Prelude.{ℕ, ◌-◌, Bool, ◌||◌, ltb}
use Rattle.message.specs.Limits.{subscribers}

-- no number of a subscriber, nor of a mailbox
abbrev pub is_no_mailbox : ℕ → Bool
is_no_mailbox number = ltb number 1 || ltb subscribers number

-- the place of a mailbox among the mailboxes, by its number
abbrev pub mailbox_of : ℕ → ℕ
mailbox_of number = number - 1
