-- The record that is ready is read, called, and its line written; it ends within the input. Assumes nothing.
use mathlib.Core.Path.{ap}
use native.Mathlib.Omega.{arith}
use Prim.Native.Nat.{ℕ}
use mathlib.Core.List.{List}
use lib.ListN.{length, drop, length-drop}
use Rattle.frame_table.specs.Table.{width}
use Rattle.bank_sound.proofs.Test.{sound-laid}
use Rattle.octets.specs.Bytes.{Bytes}
use Rattle.octets.proofs.Numbers.{bytes_take, bytes_drop}
use Rattle.marker_session.specs.Lines.{head_bytes, size_of, frame_in}
use Rattle.marker_session.specs.Memory.{lent_of}
use Rattle.bank.proofs.RequestBounds.{read-bounded}
use Rattle.marker_column.proofs.Offsets.{read-timed}
use Rattle.marker_session.proofs.Calls.{readied}
use Rattle.marker_session.proofs.Clock.{left-clocked}
use Rattle.marker_session.proofs.Lines.{marked-call}
use Rattle.marker_session.proofs.mark.mark_call.Goals as goal

-- the bytes of a frame are those of the input
bytes-in : (n : ℕ) (s : List ℕ) → Bytes s → Bytes (frame_in (drop n s))
unfolding frame_in
bytes-in n s b =
    bytes_take (size_of (drop n s)) (drop head_bytes (drop n s)) (bytes_drop head_bytes (drop n s) (bytes_drop n s b))

pub frame_in-frame-requires : goal.frame_in-frame-requires
frame_in-frame-requires c =
    let ready = readied _ _ c.requires.0 in
    omega (arith, ap length c.behind-rest.ensures, ready.head)

pub time_of-requires : goal.time_of-requires
time_of-requires c =
    let ready = readied _ _ c.requires.0 in
    omega (arith, ap length c.behind-rest.ensures, ready.head)

pub answer_request-step-requires : goal.answer_request-step-requires
answer_request-step-requires c =
    let frame-bytes : Bytes c.frame_in-frame.result.now =
    rw (c.frame_in-frame.ensures, c.behind-rest.ensures)
    (bytes-in c.args.m.used c.args.input.now (λ i. (c.type_inv.input i).fits)) in
    (c.requires.2.sound, read-bounded _ frame-bytes c.read_whole_request-p.ensures.0)

pub overflow_add-calls : goal.overflow_add-calls
overflow_add-calls c = omega (arith, (readied _ _ c.requires.0).count)

pub clock-requires : goal.clock-requires
clock-requires c =
    let call = c.answer_request-step.ensures _ c.read_whole_request-p.ensures.0 c.data_at-bytes.ensures in
    sound-laid _ (left-clocked _ _ c.requires.2 _ call.0).sound

pub put_line-written-requires : goal.put_line-written-requires
put_line-written-requires c =
    let call = c.answer_request-step.ensures _ c.read_whole_request-p.ensures.0 c.data_at-bytes.ensures in
    let clocked = left-clocked _ _ c.requires.2 _ call.0 in
    let frame-bytes : Bytes c.frame_in-frame.result.now =
    rw (c.frame_in-frame.ensures, c.behind-rest.ensures)
    (bytes-in c.args.m.used c.args.input.now (λ i. (c.type_inv.input i).fits)) in (
      omega (arith, c.requires.1),
      omega (arith, c.clock.ensures, clocked.in_time),
      read-timed _ frame-bytes c.read_whole_request-p.ensures.0,
    )

pub overflow_add-result : goal.overflow_add-result
unfolding width
overflow_add-result c =
    let a = c.args in
    let ready = readied _ _ c.requires.0 in
    omega (arith, ap size_of c.behind-rest.ensures, ready.end, length-drop a.m.used a.input.now)

pub size_of-requires : goal.size_of-requires
size_of-requires c =
    let ready = readied _ _ c.requires.0 in
    omega (arith, ap length c.behind-rest.ensures, ready.head)

pub overflow_add-result-2 : goal.overflow_add-result-2
unfolding width
overflow_add-result-2 c =
    let a = c.args in
    let ready = readied _ _ c.requires.0 in
    omega (arith, c.size_of.ensures, ap size_of c.behind-rest.ensures, ready.end, length-drop a.m.used a.input.now)

pub returns : goal.returns
unfolding width
returns c =
    let a = c.args in
    let ready = readied _ _ c.requires.0 in
    let said = c.read_whole_request-p.ensures.0 in
    let done = marked-call a.input.now (lent_of a.memory.now) a.buffer.now
    a.output.now a.m _ c.behind-rest.ensures _ c.time_of.ensures _ c.frame_in-frame.ensures
    _ c.size_of.ensures _ (c.answer_request-step.ensures _ said c.data_at-bytes.ensures).0
    c.requires.2 _ c.clock.ensures _ said _ _ c.put_line-written.ensures in (
      done.0,
      omega (arith, c.size_of.ensures, ap size_of c.behind-rest.ensures, ready.head, ready.end, length-drop a.m.used a.input.now),
      done.1,
    )
