-- Each test refuses as the definition does; past all of them the writer accepts. Assumes nothing.
use Rattle.std.proofs.Common.{sym, ap, ◌∙◌, arith, length}
use borrow.Author.Tests.{lt-leb}
use Rattle.frame_table.specs.Table.{is_form}
use Rattle.frame_writer.specs.Writer.{frame_of, writable, accepted, write_answer, write_buffer, write_number}
use Rattle.frame_writer.proofs.Loops.{writable-none, writable-over, writable-under, length-some, length-none}
use Rattle.frame_writer.proofs.Written.{is-accepted}
use Rattle.frame_writer.proofs.writer.write.Goals as goal

pub returns-then-not-is_form : goal.returns-then-not-is_form
unfolding write_answer write_buffer write_number accepted writable
returns-then-not-is_form c =
    let e = sym (c.is_form.ensures ∙ ap is_form c.form.ensures) ∙ c.if-not-is_form.true in
    (sym (rw e), sym (rw e), sym (rw e))

pub returns-in_default : goal.returns-in_default
unfolding write_answer write_buffer write_number accepted
returns-in_default c =
    let a = c.args in
    let d = a.«data».now in
    let n = length-none a.fields d c.frame_length.result c.frame_length.ensures c.in_default.is in
    let e = writable-none a.fields d n in
    (sym (rw e), sym (rw e), sym (rw e))

pub returns-then-n-gt-FRAME_LIMIT : goal.returns-then-n-gt-FRAME_LIMIT
unfolding write_answer write_buffer write_number accepted
returns-then-n-gt-FRAME_LIMIT c =
    let a = c.args in
    let d = a.«data».now in
    let p = sym (c.is_form.ensures ∙ ap is_form c.form.ensures) ∙ c.if-not-is_form.false in
    let s = length-some a.fields d c.frame_length.result c.frame_length.ensures c.in-Some.n c.in-Some.is in
    let e = writable-over a.fields d c.in-Some.n p s.0 s.1 c.if-n-gt-FRAME_LIMIT.true in
    (sym (rw e), sym (rw e), sym (rw e))

pub returns-then-out-n : goal.returns-then-out-n
unfolding write_answer write_buffer write_number accepted
returns-then-out-n c =
    let a = c.args in
    let d = a.«data».now in
    let p = sym (c.is_form.ensures ∙ ap is_form c.form.ensures) ∙ c.if-not-is_form.false in
    let s = length-some a.fields d c.frame_length.result c.frame_length.ensures c.in-Some.n c.in-Some.is in
    let u = writable-under a.fields d c.in-Some.n p s.0 s.1 c.if-n-gt-FRAME_LIMIT.false in
    let n = s.1 in
    let e = lt-leb (length (frame_of a.fields d)) (length a.out.now) (omega arith) in
    (sym (rw (u, e)), sym (rw (u, e)), sym (rw (u, e)))

pub write_accepted-requires : goal.write_accepted-requires
write_accepted-requires c =
    let a = c.args in
    let d = a.«data».now in
    let p = sym (c.is_form.ensures ∙ ap is_form c.form.ensures) ∙ c.if-not-is_form.false in
    let s = length-some a.fields d c.frame_length.result c.frame_length.ensures c.in-Some.n c.in-Some.is in
    let u = writable-under a.fields d c.in-Some.n p s.0 s.1 c.if-n-gt-FRAME_LIMIT.false in
    let n = s.1 in
    is-accepted a.fields d a.out.now u (omega arith)

pub returns : goal.returns
unfolding write_answer write_buffer write_number
returns c =
    let a = c.args in
    let d = a.«data».now in
    let p = sym (c.is_form.ensures ∙ ap is_form c.form.ensures) ∙ c.if-not-is_form.false in
    let s = length-some a.fields d c.frame_length.result c.frame_length.ensures c.in-Some.n c.in-Some.is in
    let u = writable-under a.fields d c.in-Some.n p s.0 s.1 c.if-n-gt-FRAME_LIMIT.false in
    let n = s.1 in
    let e = is-accepted a.fields d a.out.now u (omega arith) in
    let w = c.write_accepted.ensures in
    (sym (rw (e, w.0)), sym (rw e (sym w.1)), sym (rw e))
