-- The verdict is carried out, the reply read off it: where it has data, the mailboxes are as before. The order number is
-- read before the step. A bank in range has a reply that can be written.
use Prim.Native.Nat.{ℕ, ◌^◌, ◌<◌}
use mathlib.Core.List.{List, ◌++◌}
use mathlib.Core.Path.{◌≡◌, ap, ◌∙◌, subst}
use lib.ListN.{length}
use Rattle.frame_table.specs.Names.{subscriber}
use Rattle.frame_writer.proofs.Written.{accepted-written}
use Rattle.bank_state.specs.State.{file_length}
use Rattle.bank_rows.specs.State.{bank_of}
use Rattle.bank_verdicts.specs.Judgement.{judge}
use Rattle.bank_verdicts.specs.Replies.{reply_to, segment_in}
use Rattle.journal.specs.declared.event.Entry.{Entry}
use Rattle.journal.specs.Events.{entries_in}
use Rattle.bank_events.specs.Entries.{Holds}
use Rattle.bank.specs.Call.{Sendable, file_segment, answer_of, respond}
use Rattle.bank_steps.specs.Lent.{lent}
use Rattle.bank.proofs.Entered.{request-entered, answered-entered, answered-judged}
use Rattle.bank.proofs.Lent.{respond-kept}
use Rattle.bank.proofs.WrittenReplies.{sendable}
use Rattle.bank.proofs.call.respond.Goals as goal

pub reply-out-requires : goal.reply-out-requires
reply-out-requires c =
    let small : c.args.context.prefix < 2 ^ 64 = c.well_formed.1.1.0.1.1.0.1 in
    let kept-length : let a = c.args in
    c.file_length_of-n.result ≡ file_length (subscriber a.q) (bank_of a.rows.now).files = c.file_length_of-n.ensures
    ∙ ap (λ (k : ℕ). file_length k (bank_of c.args.rows.now).files) c.subscriber.ensures in
    let can : let a = (c).args in
    let v = c.step-verdict.result in
    Sendable (reply_to v a.q)
    (file_segment c.step-verdict.new.mailboxes (subscriber a.q) c.file_length_of-n.result (segment_in v a.q))
    a.buffer.now = let a = c.args in
    let step = c.step-verdict.ensures in
    sendable a.context (lent a.rows.now a.orders.now a.mailboxes.now) a.q a.bytes.now a.buffer.now
    (small) c.requires.0 c.requires.2 c.requires.3 step.judged step.done (kept-length) in
    can

pub returns : goal.returns
unfolding respond
returns c =
    let kept-length : let a = c.args in
    c.file_length_of-n.result ≡ file_length (subscriber a.q) (bank_of a.rows.now).files = c.file_length_of-n.ensures
    ∙ ap (λ (k : ℕ). file_length k (bank_of c.args.rows.now).files) c.subscriber.ensures in
    let small : c.args.context.prefix < 2 ^ 64 = c.well_formed.1.1.0.1.1.0.1 in
    let can : let a = (c).args in
    let v = c.step-verdict.result in
    Sendable (reply_to v a.q)
    (file_segment c.step-verdict.new.mailboxes (subscriber a.q) c.file_length_of-n.result (segment_in v a.q))
    a.buffer.now = let a = c.args in
    let step = c.step-verdict.ensures in
    sendable a.context (lent a.rows.now a.orders.now a.mailboxes.now) a.q a.bytes.now a.buffer.now
    (small) c.requires.0 c.requires.2 c.requires.3 step.judged step.done (kept-length) in
    let a = (c).args in
    let b = bank_of a.rows.now in
    let step = c.step-verdict.ensures in
    let v = judge a.context b a.q (length a.bytes.now) in
    let replied = c.reply-out.ensures in
    let entered = request-entered a.context b a.q a.bytes.now step.judged
    c.named_order-named.ensures c.verdict_order.ensures in
    let written = replied.answered ∙ ap answer_of (accepted-written _ _ a.buffer.now (can).0).0 in (
      respond-kept (lent a.rows.now a.orders.now a.mailboxes.now) v a.q a.bytes.now
          step.judged step.done (kept-length) replied,
      answered-entered written
          (subst (λ (es : List Entry). Holds c.with_action-batch.result (entries_in a.dropped ++ es)) entered
          c.with_action-batch.ensures),
      answered-judged written step.judged,
    )
