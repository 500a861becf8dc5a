-- Number 1 for another length; else the bank's call on its numbers, which come back before the others.
use Prim.Native.Nat.{ℕ}
use mathlib.Core.List.{List}
use mathlib.Core.Path.{◌≡◌, sym, ap, ◌∙◌}
use native.Mathlib.Omega.{arith}
use borrow.Author.Tests.{ne_eqb}
use lib.ListN.{length}
use lib.Seq.{length-take-le}
use Rattle.bank_rows.specs.Layout.{state_size}
use Rattle.bank.specs.Lent.{lent_file_call_of}
use Rattle.bank_session.specs.Session.{session_size, with_kept, session_file_call}
use Rattle.bank_session.proofs.Rows.{renewed}
use Rattle.bank_session.proofs.Laws.{file-taken}
use Rattle.bank_session.proofs.calls.put_file.Goals as goal

pub returns-then-rows-ne-SESSION_SIZE : goal.returns-then-rows-ne-SESSION_SIZE
unfolding session_file_call
returns-then-rows-ne-SESSION_SIZE c = rw (ne_eqb (length c.args.rows.now) session_size c.if-rows-ne-SESSION_SIZE.true)

pub slice_bounds-put_file-end-2 : goal.slice_bounds-put_file-end-2
slice_bounds-put_file-end-2 c =
    sym (length-take-le state_size c.args.rows.now (omega arith))

pub returns : goal.returns
returns c =
    let a = c.args in
    let rows = a.rows.now in
    let long : length rows ≡ session_size = omega (arith, c.if-rows-ne-SESSION_SIZE.false) in
    ap (λ (l : List ℕ). lent_file_call_of c.put_file.result l c.put_file.new.mailboxes) (renewed rows long c.put_file.new.rows)
    ∙ (ap (with_kept rows) c.put_file.ensures
    ∙ sym (file-taken rows a.mailbox a.file.now a.mailboxes.now long))
