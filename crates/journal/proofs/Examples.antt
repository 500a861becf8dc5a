-- What the row says of an upload, at examples: only records with its own transaction ID count, and a signing is none that
-- does. Assumes nothing.
use Prim.Native.Nat.{ℕ}
use mathlib.Core.Path.{◌≡◌, refl}
use mathlib.Core.List.{[], ◌∷◌}
use Rattle.frame_table.specs.declared.fields.Bits128.{Bits128}
use Rattle.message.specs.Limits.{ful}
use Rattle.journal.specs.declared.event.Kind.{Kind}
use Rattle.journal.specs.declared.event.Kind.TheVariants.{Opened, Booked, Dropped, Signed}
use Rattle.journal.specs.declared.event.Event.{Event}
use Rattle.journal.specs.declared.event.Found.TheVariants as found
use Rattle.journal.specs.Events.{no_event, event_of}
use Rattle.journal.specs.Row.{is_of, with_record, lookup}

-- the transaction ID of lent bytes and a running number
abbrev id : ℕ → ℕ → Bits128
id high low = record { high = high; low = low }

-- event n, of the upload of subscriber 1's A000 with this transaction ID
abbrev event : ℕ → Bits128 → Kind → Event
event n t kind =
    event_of n 0 (record { subscriber = 1; order_type = ful; order = 0; high = t.high; low = t.low; kind = kind })

-- "A cancelled or dropped order's number may be chosen again, so a closing word holds for the upload that earned it, by its
-- transaction ID": A000 is dropped, opened again under the same number, and booked
pub chosen-again : lookup (id 0 0) (event 1 (id 0 0) Opened ∷ event 2 (id 0 0) Dropped ∷ event 3 (id 0 1) Opened ∷ event 4 (id 0 1) Booked ∷ []) ≡ found.Ended
unfolding lookup with_record is_of
chosen-again = refl

-- the ID's first half counts too
pub other-bytes : lookup (id 7 1) (event 1 (id 8 1) Booked ∷ event 2 (id 7 1) Dropped ∷ []) ≡ found.Ended
unfolding lookup with_record is_of
other-bytes = refl

-- records not in use have ID 0, which is a real one, and say nothing of it
pub unused-says-nothing : lookup (id 0 0) (event 1 (id 0 0) Opened ∷ no_event ∷ no_event ∷ []) ≡ found.Nothing
unfolding lookup with_record is_of
unused-says-nothing = refl

-- "journal (kind signed, once a signer, under the owner)": an order is signed twice, and was booked before
pub signed-booked : lookup (id 0 0) (event 1 (id 0 0) Booked ∷ event 2 (id 0 0) Signed ∷ event 3 (id 0 0) Signed ∷ []) ≡ found.Booked
unfolding lookup with_record is_of
signed-booked = refl

-- in a row that no bank leaves, an order that was opened and signed is neither booked nor ended
pub signed-alone : lookup (id 0 0) (event 1 (id 0 0) Opened ∷ event 2 (id 0 0) Signed ∷ []) ≡ found.Nothing
unfolding lookup with_record is_of
signed-alone = refl
