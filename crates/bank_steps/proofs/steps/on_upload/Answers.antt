-- The step of the upload in place i, its bytes lent and put back into the store. Assumes nothing.
use mathlib.Core.Path.{ap, ◌∙◌}
use Prim.Native.Nat.{◌+◌, ◌*◌, ◌≤◌}
use native.Mathlib.Omega.{arith}
use lib.ListN.{length}
use Rattle.message.specs.Limits.{file_bytes}
use Rattle.bank_state.specs.declared.state.Place.{Place}
use Rattle.bank_state.specs.Store.{with_part}
use Rattle.bank_state.proofs.Stores.{part-back, part-lent}
use Rattle.bank_rows.specs.State.{bank_of}
use Rattle.bank_sound.proofs.Range.{upload-room}
use Rattle.bank_rows.proofs.State.{held_rows}
use Rattle.bank_uploads.specs.Uploads.{upload_step}
use Rattle.bank_steps.proofs.Held.{upload-open}
use Rattle.bank_steps.proofs.Lent.{upload-carried}
use borrow.Author.Rules.{rules}
use Rattle.bank_steps.proofs.steps.on_upload.Goals as goal

pub upload_step-u-requires : goal.upload_step-u-requires
upload_step-u-requires c =
    let a = c.args in
    let held = held_rows a.rows.now c.requires.0 in
    let open_at = upload-open (bank_of a.rows.now) held a.q c.requires.3 c.requires.2 in
    let room = upload-room c.requires.1 a.i (length a.bytes.now) open_at c.requires.4 in
    (search rules, omega (arith, ap (λ (p : Place). p.length) c.place_at-p.ensures, room))

pub returns : goal.returns
unfolding with_part
returns c =
    λ m.
    let a = c.args in
    let fits : a.i * file_bytes + file_bytes ≤ length a.orders.now = omega (arith, c.requires.2, c.requires.5) in
    let same = c.orders-1.given.0 in
    let step =
    c.upload_step-u.ensures
    ∙ ap (upload_step c.clock-time.result a.asked c.place_at-p.result a.q a.bytes.now)
    (part-lent a.orders.now a.i) in
    upload-carried a.rows.now a.orders.now m a.i a.asked a.q a.bytes.now c.requires.3
    c.place_at-p.ensures c.clock-time.ensures step c.set_place.ensures (rw part-back)
