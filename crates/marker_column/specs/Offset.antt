-- The third column (document 02, card 3): "the offset of each readable opening answered by a frame, timestamp minus
-- clock, as a signed number of milliseconds"; "others a hyphen".
use Rattle.std.specs.Prelude.{ℕ, ◌≤◌, Bool, true, false, cond, ◌&&◌, List, [], ◌∷◌, ◌≡◌, ℤ, pos, ◌-ℤ◌}
use Rattle.frame_table.specs.declared.fields.Fields.{Fields}
use Rattle.frame_table.specs.Table.{last_time}
use Rattle.frame_table.specs.declared.table.Form.{Form}
use Rattle.frame_table.specs.declared.table.Form.TheVariants as form
use Rattle.frame_table.specs.declared.table.RequestForm.{RequestForm}
use Rattle.frame_table.specs.declared.table.RequestForm.TheVariants as request
use Rattle.frame_table.specs.Names as names
use Rattle.print.specs.Text.{hyphen, signed_decimal, signed_room}

-- "timestamp minus clock": a difference of integers, exact on both sides of zero
abbrev pub offset_of : ℕ → ℕ → ℤ
offset_of timestamp clock = pos timestamp -ℤ pos clock

-- the two opening forms, that of card 8, which is "An opening of form 01 to 06, 0E, 0F, 10", and that of card 11, "An
-- upload opening with field 11 (4 bytes, H003) and 0E, besides 01 to 07"
abbrev pub opens : RequestForm → Bool
opens request.UploadOpening = true
opens request.DownloadOpening = true
opens request.UploadTransfer = false
opens request.DownloadTransfer = false
opens request.Receipt = false
opens request.Signing = true
opens request.ChosenOpening = true

abbrev pub is_opening : Form → Bool
is_opening form.NoForm = false
is_opening (form.Request x) = opens x
is_opening (form.Reply x) = false

-- "each readable opening answered by a frame", whatever the code
abbrev pub shows_offset : Bool → Form → Bool
shows_offset answered x = answered && is_opening x

-- an opening's timestamp is at most the last time
abbrev pub Timed : Fields → Type 0
Timed q = is_opening (names.form q) ≡ true → names.timestamp q ≤ last_time

-- the column of a call that was answered or not, brought this request and set this clock
unfoldable pub request_offset : Bool → Fields → ℕ → List ℕ
request_offset answered q clock =
    cond (shows_offset answered (names.form q)) (signed_decimal (offset_of (names.timestamp q) clock)) (hyphen ∷ [])

-- the most bytes that it takes
abbrev pub offset_room : ℕ
offset_room = signed_room
