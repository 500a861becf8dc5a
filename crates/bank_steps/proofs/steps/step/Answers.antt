-- The tests of every request from top to bottom, then the request by its form. Assumes nothing.
use mathlib.Core.Path.{◌≡◌, refl}
use mathlib.Core.Bool.{false}
use borrow.Author.Tests.{lt-ltb, le-ltb}
use lib.ListN.{length}
use Rattle.frame_table.specs.declared.table.Form.{Form}
use Rattle.frame_table.specs.declared.table.Form.TheVariants.{NoForm, Request, Reply}
use Rattle.frame_table.specs.declared.table.RequestForm.{RequestForm}
use Rattle.frame_table.specs.Table.{is_request_form}
use Rattle.message.specs.Limits.{segment_bytes}
use Rattle.bank_verdicts.specs.Refusals.{no_subscriber, long_data, request_rows}
use Rattle.bank_verdicts.specs.Judgement.{judge}
use Rattle.bank_steps.proofs.Accepted.{request-known}
use Rattle.bank_steps.proofs.Lent.{unchanged}
use Rattle.bank_steps.proofs.steps.step.Goals as goal

not-request : (f : Form) → ((x : RequestForm) → f ≡ Request x → ⊥) → is_request_form f ≡ false
not-request NoForm n = refl
not-request (Request x) n = absurd (n x refl)
not-request (Reply x) n = refl

pub returns-in_default : goal.returns-in_default
unfolding judge request_rows
returns-in_default c =
    rw (← c.form.ensures, not-request c.form.result c.in_default.not-Request) (record { judged = refl; done = unchanged _ c.requires.laid _ _ })

pub returns-then-is_no_mailbox : goal.returns-then-is_no_mailbox
unfolding judge request_rows no_subscriber
returns-then-is_no_mailbox c =
    rw (
      ← c.form.ensures,
      c.in-Request.is,
      ← c.subscriber.ensures,
      ← c.is_no_mailbox.ensures,
      c.if-is_no_mailbox.true,
    ) (record { judged = refl; done = unchanged _ c.requires.laid _ _ })

pub returns-then-bytes-gt-SEGMENT_BYTES : goal.returns-then-bytes-gt-SEGMENT_BYTES
unfolding judge request_rows long_data no_subscriber
returns-then-bytes-gt-SEGMENT_BYTES c =
    let known : no_subscriber c.args.q ≡ false = rw (← c.subscriber.ensures, ← c.is_no_mailbox.ensures) c.if-is_no_mailbox.false in
    rw (← c.form.ensures, c.in-Request.is, known, lt-ltb segment_bytes (length c.args.bytes.now) c.if-bytes-gt-SEGMENT_BYTES.true)
    (record { judged = refl; done = unchanged _ c.requires.laid _ _ })

pub by_request-requires : goal.by_request-requires
unfolding no_subscriber
by_request-requires c =
    let known : no_subscriber c.args.q ≡ false = rw (← c.subscriber.ensures, ← c.is_no_mailbox.ensures) c.if-is_no_mailbox.false in
    let k = request-known c.args.q (known) in
    record { known = k.0; most = k.1; short = c.if-bytes-gt-SEGMENT_BYTES.false; memory = c.requires }

pub returns : goal.returns
unfolding judge request_rows long_data no_subscriber
returns c =
    let known : no_subscriber c.args.q ≡ false = rw (← c.subscriber.ensures, ← c.is_no_mailbox.ensures) c.if-is_no_mailbox.false in
    let short = le-ltb segment_bytes (length c.args.bytes.now) c.if-bytes-gt-SEGMENT_BYTES.false in
    rw (← c.form.ensures, c.in-Request.is, known, short)
    c.by_request.ensures
