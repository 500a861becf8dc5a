-- What is said of a list of events: that their numbers run on, and that one of an upload is of a kind.
use Rattle.std.specs.Prelude.{ℕ, suc, ◌≡◌, ◌⊎◌, List, [], ◌∷◌}
use Rattle.frame_table.specs.declared.fields.Bits128.{Bits128}
use Rattle.message.specs.OrderNumbers.{order_number_of}
use Rattle.journal.specs.declared.event.Kind.{Kind}
use Rattle.journal.specs.declared.event.Kind.TheVariants.{Cancelled, Dropped}
use Rattle.journal.specs.declared.event.Event.{Event}
use Rattle.journal.specs.declared.event.OrderName.{OrderName}
use Rattle.journal.specs.Row.{transaction_of}

-- "event numbers never repeat": the events are numbered on from n + 1, without a gap
pub data Numbered : ℕ → List Event → Type 0 where
  none : {n : ℕ} → Numbered n []
  more : {n : ℕ} {e : Event} {es : List Event} → e.number ≡ suc n → Numbered (suc n) es → Numbered n (e ∷ es)

-- what names the order of an event: "subscriber, type and number together"
abbrev pub name_of : Event → OrderName
name_of e = record { subscriber = e.subscriber; order_type = e.order_type; number = order_number_of e.order }

-- an event of this kind is recorded of the upload with this transaction ID
pub data Recorded (kind : Kind) (t : Bits128) : List Event → Type 0 where
  here : {e : Event} {es : List Event} → transaction_of e ≡ t → e.kind ≡ kind → Recorded kind t (e ∷ es)
  there : {e : Event} {es : List Event} → Recorded kind t es → Recorded kind t (e ∷ es)

-- "a cancellation or drop"
abbrev pub RecordedEnd : Bits128 → List Event → Type 0
RecordedEnd t l = Recorded Cancelled t l ⊎ Recorded Dropped t l
