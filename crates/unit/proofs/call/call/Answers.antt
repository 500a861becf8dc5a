-- Rooms of other lengths change nothing; else the record's kind says which call it is. Assumes nothing.
use Prim.Native.Nat.{ℕ}
use mathlib.Core.List.{List}
use mathlib.Core.Path.{◌≡◌, refl, sym, ◌∙◌}
use lib.ListN.{length}
use borrow.Author.Tests.{not-true, not-false}
use Rattle.bank_steps.specs.Lent.{lent}
use Rattle.unit_state.specs.declared.record.Kind.{Kind}
use Rattle.unit_state.specs.declared.record.Kind.TheVariants.{Frame, File, Run, Journal, Away, TakeUp, Image, ValueDay, MakeLine, PutIn, Counts, NoCall}
use Rattle.unit_rows.specs.Rows.{unit_from}
use Rattle.unit_rows.specs.Lines.{lines_of}
use Rattle.unit.specs.State.{State, memory, state_of}
use Rattle.unit.specs.Call.{UnitCall, value_day_step, count_step, step_of, unit_call}
use Rattle.unit.proofs.Begins.{RoomsLengths, rooms-lengths}
use Rattle.unit.proofs.Steps.{handed-run, ready, called}
use Rattle.unit.proofs.ImageRoom.{away-within, image-within}
use Rattle.unit.proofs.LineSteps.{line-made-named, line-put-named}
use borrow.Author.Rules.{rules}
use Rattle.unit.proofs.call.call.Goals as goal

pub returns-then-not-rooms_right : goal.returns-then-not-rooms_right
unfolding unit_call
returns-then-not-rooms_right c = rw (← c.rooms_right.ensures, c.if-not-rooms_right.true)

pub run_call-requires : goal.run_call-requires
run_call-requires c =
    let record-at : List ℕ = c.args.«record».now in
    let unit-at : State = let a = c.args in
    state_of (unit_from a.runs.now a.nonces.now a.row.now)
    (memory (lent a.rows.now a.orders.now a.mailboxes.now) a.payloads.now a.files.now a.buffer.now a.room.now
    (lines_of a.lines.now a.stores.now)) in
    let rooms-at : let m = (unit-at).memory in
    RoomsLengths (length m.payloads) (length m.files) (length m.room) (length m.lines.rows) (length m.lines.stores) = rooms-lengths _ _ _ _ _ (sym c.rooms_right.ensures ∙ c.if-not-rooms_right.false) in
    let rooms = rooms-at in
    ready _ (record-at) _ _ _ rooms.payload-rooms rooms.file-rooms c.call_of-kind.ensures c.in-Run.is

pub journal_call-requires : goal.journal_call-requires
journal_call-requires c =
    handed-run _ _ c.call_of-kind.ensures c.in-Journal.is

pub away_call-requires : goal.away_call-requires
away_call-requires c =
    let unit-at : State = let a = c.args in
    state_of (unit_from a.runs.now a.nonces.now a.row.now)
    (memory (lent a.rows.now a.orders.now a.mailboxes.now) a.payloads.now a.files.now a.buffer.now a.room.now
    (lines_of a.lines.now a.stores.now)) in
    let record-at : List ℕ = c.args.«record».now in
    let rooms-at : let m = (unit-at).memory in
    RoomsLengths (length m.payloads) (length m.files) (length m.room) (length m.lines.rows) (length m.lines.stores) = rooms-lengths _ _ _ _ _ (sym c.rooms_right.ensures ∙ c.if-not-rooms_right.false) in
    away-within (record-at) (unit-at).memory.room _ (rooms-at).image-room c.call_of-kind.ensures c.in-Away.is

pub image_call-requires : goal.image_call-requires
image_call-requires c =
    let unit-at : State = let a = c.args in
    state_of (unit_from a.runs.now a.nonces.now a.row.now)
    (memory (lent a.rows.now a.orders.now a.mailboxes.now) a.payloads.now a.files.now a.buffer.now a.room.now
    (lines_of a.lines.now a.stores.now)) in
    let record-at : List ℕ = c.args.«record».now in
    let rooms-at : let m = (unit-at).memory in
    RoomsLengths (length m.payloads) (length m.files) (length m.room) (length m.lines.rows) (length m.lines.stores) = rooms-lengths _ _ _ _ _ (sym c.rooms_right.ensures ∙ c.if-not-rooms_right.false) in
    image-within (record-at) (unit-at).memory.room _ (rooms-at).image-room c.call_of-kind.ensures c.in-Image.is

pub make_call-requires : goal.make_call-requires
make_call-requires c =
    let unit-at : State = let a = c.args in
    state_of (unit_from a.runs.now a.nonces.now a.row.now)
    (memory (lent a.rows.now a.orders.now a.mailboxes.now) a.payloads.now a.files.now a.buffer.now a.room.now
    (lines_of a.lines.now a.stores.now)) in
    let rooms-at : let m = (unit-at).memory in
    RoomsLengths (length m.payloads) (length m.files) (length m.room) (length m.lines.rows) (length m.lines.stores) = rooms-lengths _ _ _ _ _ (sym c.rooms_right.ensures ∙ c.if-not-rooms_right.false) in
    let rooms = rooms-at in
    (line-made-named _ _ c.call_of-kind.ensures c.in-MakeLine.is, rooms.line-rows, rooms.line-stores)

pub put_in_call-requires : goal.put_in_call-requires
put_in_call-requires c =
    let unit-at : State = let a = c.args in
    state_of (unit_from a.runs.now a.nonces.now a.row.now)
    (memory (lent a.rows.now a.orders.now a.mailboxes.now) a.payloads.now a.files.now a.buffer.now a.room.now
    (lines_of a.lines.now a.stores.now)) in
    let rooms-at : let m = (unit-at).memory in
    RoomsLengths (length m.payloads) (length m.files) (length m.room) (length m.lines.rows) (length m.lines.stores) = rooms-lengths _ _ _ _ _ (sym c.rooms_right.ensures ∙ c.if-not-rooms_right.false) in
    let rooms = rooms-at in
    (line-put-named _ _ c.call_of-kind.ensures c.in-PutIn.is, rooms.line-rows, rooms.line-stores)

pub returns-in-Frame : goal.returns-in-Frame
returns-in-Frame c =
    let unit-at : State = let a = c.args in
    state_of (unit_from a.runs.now a.nonces.now a.row.now)
    (memory (lent a.rows.now a.orders.now a.mailboxes.now) a.payloads.now a.files.now a.buffer.now a.room.now
    (lines_of a.lines.now a.stores.now)) in
    let record-at : List ℕ = c.args.«record».now in
    let by_kind : (g : Kind) (o : UnitCall) → c.call_of-kind.result ≡ g → o ≡ step_of g (unit-at) (record-at) → o ≡ unit_call (unit-at) (record-at) = λ g o told step. called (unit-at) (record-at) c.rooms_right.result c.call_of-kind.result g o
    c.rooms_right.ensures c.if-not-rooms_right.false-raw c.call_of-kind.ensures told step in
    by_kind Frame _ c.in-Frame.is (c.frame_call.ensures _ _ _ _ _)

pub returns-in-File : goal.returns-in-File
returns-in-File c =
    let unit-at : State = let a = c.args in
    state_of (unit_from a.runs.now a.nonces.now a.row.now)
    (memory (lent a.rows.now a.orders.now a.mailboxes.now) a.payloads.now a.files.now a.buffer.now a.room.now
    (lines_of a.lines.now a.stores.now)) in
    let record-at : List ℕ = c.args.«record».now in
    let by_kind : (g : Kind) (o : UnitCall) → c.call_of-kind.result ≡ g → o ≡ step_of g (unit-at) (record-at) → o ≡ unit_call (unit-at) (record-at) = λ g o told step. called (unit-at) (record-at) c.rooms_right.result c.call_of-kind.result g o
    c.rooms_right.ensures c.if-not-rooms_right.false-raw c.call_of-kind.ensures told step in
    by_kind File _ c.in-File.is (c.file_call.ensures _ _ _ _ _ _ _)

pub returns-in-Run : goal.returns-in-Run
returns-in-Run c =
    let unit-at : State = let a = c.args in
    state_of (unit_from a.runs.now a.nonces.now a.row.now)
    (memory (lent a.rows.now a.orders.now a.mailboxes.now) a.payloads.now a.files.now a.buffer.now a.room.now
    (lines_of a.lines.now a.stores.now)) in
    let record-at : List ℕ = c.args.«record».now in
    let by_kind : (g : Kind) (o : UnitCall) → c.call_of-kind.result ≡ g → o ≡ step_of g (unit-at) (record-at) → o ≡ unit_call (unit-at) (record-at) = λ g o told step. called (unit-at) (record-at) c.rooms_right.result c.call_of-kind.result g o
    c.rooms_right.ensures c.if-not-rooms_right.false-raw c.call_of-kind.ensures told step in
    by_kind (Run _) _ c.in-Run.is (c.run_call.ensures _ _ _ _)

pub returns-in-Journal : goal.returns-in-Journal
returns-in-Journal c =
    let unit-at : State = let a = c.args in
    state_of (unit_from a.runs.now a.nonces.now a.row.now)
    (memory (lent a.rows.now a.orders.now a.mailboxes.now) a.payloads.now a.files.now a.buffer.now a.room.now
    (lines_of a.lines.now a.stores.now)) in
    let record-at : List ℕ = c.args.«record».now in
    let by_kind : (g : Kind) (o : UnitCall) → c.call_of-kind.result ≡ g → o ≡ step_of g (unit-at) (record-at) → o ≡ unit_call (unit-at) (record-at) = λ g o told step. called (unit-at) (record-at) c.rooms_right.result c.call_of-kind.result g o
    c.rooms_right.ensures c.if-not-rooms_right.false-raw c.call_of-kind.ensures told step in
    by_kind Journal _ c.in-Journal.is (c.journal_call.ensures _)

pub returns-in-Away : goal.returns-in-Away
returns-in-Away c =
    let unit-at : State = let a = c.args in
    state_of (unit_from a.runs.now a.nonces.now a.row.now)
    (memory (lent a.rows.now a.orders.now a.mailboxes.now) a.payloads.now a.files.now a.buffer.now a.room.now
    (lines_of a.lines.now a.stores.now)) in
    let record-at : List ℕ = c.args.«record».now in
    let by_kind : (g : Kind) (o : UnitCall) → c.call_of-kind.result ≡ g → o ≡ step_of g (unit-at) (record-at) → o ≡ unit_call (unit-at) (record-at) = λ g o told step. called (unit-at) (record-at) c.rooms_right.result c.call_of-kind.result g o
    c.rooms_right.ensures c.if-not-rooms_right.false-raw c.call_of-kind.ensures told step in
    by_kind Away _ c.in-Away.is (c.away_call.ensures _ _ _ _ _)

pub returns-in-TakeUp : goal.returns-in-TakeUp
returns-in-TakeUp c =
    let unit-at : State = let a = c.args in
    state_of (unit_from a.runs.now a.nonces.now a.row.now)
    (memory (lent a.rows.now a.orders.now a.mailboxes.now) a.payloads.now a.files.now a.buffer.now a.room.now
    (lines_of a.lines.now a.stores.now)) in
    let record-at : List ℕ = c.args.«record».now in
    let by_kind : (g : Kind) (o : UnitCall) → c.call_of-kind.result ≡ g → o ≡ step_of g (unit-at) (record-at) → o ≡ unit_call (unit-at) (record-at) = λ g o told step. called (unit-at) (record-at) c.rooms_right.result c.call_of-kind.result g o
    c.rooms_right.ensures c.if-not-rooms_right.false-raw c.call_of-kind.ensures told step in
    by_kind TakeUp _ c.in-TakeUp.is (c.take_up_call.ensures _ _ _ _ _)

pub returns-in-Image : goal.returns-in-Image
returns-in-Image c =
    let unit-at : State = let a = c.args in
    state_of (unit_from a.runs.now a.nonces.now a.row.now)
    (memory (lent a.rows.now a.orders.now a.mailboxes.now) a.payloads.now a.files.now a.buffer.now a.room.now
    (lines_of a.lines.now a.stores.now)) in
    let record-at : List ℕ = c.args.«record».now in
    let by_kind : (g : Kind) (o : UnitCall) → c.call_of-kind.result ≡ g → o ≡ step_of g (unit-at) (record-at) → o ≡ unit_call (unit-at) (record-at) = λ g o told step. called (unit-at) (record-at) c.rooms_right.result c.call_of-kind.result g o
    c.rooms_right.ensures c.if-not-rooms_right.false-raw c.call_of-kind.ensures told step in
    by_kind Image _ c.in-Image.is (c.image_call.ensures _ _ _ _ _ _)

pub returns-in-ValueDay : goal.returns-in-ValueDay
unfolding value_day_step
returns-in-ValueDay c =
    let unit-at : State = let a = c.args in
    state_of (unit_from a.runs.now a.nonces.now a.row.now)
    (memory (lent a.rows.now a.orders.now a.mailboxes.now) a.payloads.now a.files.now a.buffer.now a.room.now
    (lines_of a.lines.now a.stores.now)) in
    let record-at : List ℕ = c.args.«record».now in
    let by_kind : (g : Kind) (o : UnitCall) → c.call_of-kind.result ≡ g → o ≡ step_of g (unit-at) (record-at) → o ≡ unit_call (unit-at) (record-at) = λ g o told step. called (unit-at) (record-at) c.rooms_right.result c.call_of-kind.result g o
    c.rooms_right.ensures c.if-not-rooms_right.false-raw c.call_of-kind.ensures told step in
    by_kind ValueDay _ c.in-ValueDay.is (rw c.value_day_call.ensures)

pub returns-in-MakeLine : goal.returns-in-MakeLine
returns-in-MakeLine c =
    let unit-at : State = let a = c.args in
    state_of (unit_from a.runs.now a.nonces.now a.row.now)
    (memory (lent a.rows.now a.orders.now a.mailboxes.now) a.payloads.now a.files.now a.buffer.now a.room.now
    (lines_of a.lines.now a.stores.now)) in
    let record-at : List ℕ = c.args.«record».now in
    let by_kind : (g : Kind) (o : UnitCall) → c.call_of-kind.result ≡ g → o ≡ step_of g (unit-at) (record-at) → o ≡ unit_call (unit-at) (record-at) = λ g o told step. called (unit-at) (record-at) c.rooms_right.result c.call_of-kind.result g o
    c.rooms_right.ensures c.if-not-rooms_right.false-raw c.call_of-kind.ensures told step in
    by_kind MakeLine _ c.in-MakeLine.is (c.make_call.ensures _ _ _ _ _ _)

pub returns-in-PutIn : goal.returns-in-PutIn
returns-in-PutIn c =
    let unit-at : State = let a = c.args in
    state_of (unit_from a.runs.now a.nonces.now a.row.now)
    (memory (lent a.rows.now a.orders.now a.mailboxes.now) a.payloads.now a.files.now a.buffer.now a.room.now
    (lines_of a.lines.now a.stores.now)) in
    let record-at : List ℕ = c.args.«record».now in
    let by_kind : (g : Kind) (o : UnitCall) → c.call_of-kind.result ≡ g → o ≡ step_of g (unit-at) (record-at) → o ≡ unit_call (unit-at) (record-at) = λ g o told step. called (unit-at) (record-at) c.rooms_right.result c.call_of-kind.result g o
    c.rooms_right.ensures c.if-not-rooms_right.false-raw c.call_of-kind.ensures told step in
    by_kind PutIn _ c.in-PutIn.is (c.put_in_call.ensures _ _ _ _ _)

pub returns-in-Counts : goal.returns-in-Counts
unfolding count_step
returns-in-Counts c =
    let unit-at : State = let a = c.args in
    state_of (unit_from a.runs.now a.nonces.now a.row.now)
    (memory (lent a.rows.now a.orders.now a.mailboxes.now) a.payloads.now a.files.now a.buffer.now a.room.now
    (lines_of a.lines.now a.stores.now)) in
    let record-at : List ℕ = c.args.«record».now in
    let by_kind : (g : Kind) (o : UnitCall) → c.call_of-kind.result ≡ g → o ≡ step_of g (unit-at) (record-at) → o ≡ unit_call (unit-at) (record-at) = λ g o told step. called (unit-at) (record-at) c.rooms_right.result c.call_of-kind.result g o
    c.rooms_right.ensures c.if-not-rooms_right.false-raw c.call_of-kind.ensures told step in
    by_kind Counts _ c.in-Counts.is (rw c.count_call.ensures)

pub returns-in-NoCall : goal.returns-in-NoCall
returns-in-NoCall c =
    let unit-at : State = let a = c.args in
    state_of (unit_from a.runs.now a.nonces.now a.row.now)
    (memory (lent a.rows.now a.orders.now a.mailboxes.now) a.payloads.now a.files.now a.buffer.now a.room.now
    (lines_of a.lines.now a.stores.now)) in
    let record-at : List ℕ = c.args.«record».now in
    let by_kind : (g : Kind) (o : UnitCall) → c.call_of-kind.result ≡ g → o ≡ step_of g (unit-at) (record-at) → o ≡ unit_call (unit-at) (record-at) = λ g o told step. called (unit-at) (record-at) c.rooms_right.result c.call_of-kind.result g o
    c.rooms_right.ensures c.if-not-rooms_right.false-raw c.call_of-kind.ensures told step in
    by_kind NoCall _ c.in-NoCall.is refl
