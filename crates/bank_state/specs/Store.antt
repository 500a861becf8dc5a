-- The lent stores: the bytes of an order place, and the file of a mailbox.
use Rattle.std.specs.Prelude.{ℕ, ◌-◌, ◌*◌, List, take, drop, replicate}
use Rattle.octets.specs.Bytes.{overwrite}
use Rattle.message.specs.Limits.{file_bytes}
use Rattle.bank_state.specs.State.{BankState, file_length}

-- the bytes of place or mailbox i of a store
unfoldable pub part_at : List ℕ → ℕ → List ℕ
part_at store i = take file_bytes (drop (i * file_bytes) store)

-- a store with these bytes in place or mailbox i
unfoldable pub with_part : List ℕ → ℕ → List ℕ → List ℕ
with_part store i bytes = overwrite store (i * file_bytes) bytes

-- "Unused bytes of places and mailboxes are 0"
unfoldable pub zeroed : List ℕ → ℕ → List ℕ
zeroed store i = with_part store i (replicate file_bytes 0)

-- the file of n bytes in mailbox i
unfoldable pub file_of : List ℕ → ℕ → ℕ → List ℕ
file_of mailboxes i n = take n (part_at mailboxes i)

-- "The bank's mailbox holds exactly the file ...": the file in a subscriber's mailbox
unfoldable pub mailbox_file : BankState → ℕ → List ℕ
mailbox_file w s = file_of w.mailboxes (s - 1) (file_length s w.bank.files)
