-- What the core ensures for every row of the length told it ensures for the lent one, into which the events go. Assumes nothing.
use mathlib.Core.List.{List}
use mathlib.Core.Path.{refl, ap, ◌∙◌}
use Rattle.journal.specs.declared.event.Event.{Event}
use Rattle.bank_session.specs.Session.{session, session_frame_call_of}
use Rattle.bank_session.proofs.calls.frame_arrives.Goals as goal

pub returns : goal.returns
returns c =
    let core = c.frame_core-c in
    ap (λ (l : List Event). session_frame_call_of core.result.out (session core.new.rows l core.new.orders core.new.mailboxes) core.new.buffer)
    c.enter.ensures
    ∙ core.ensures c.args.row.now refl
