-- What the core ensures for every row of the length told it ensures for the lent one, which is replaced. Assumes nothing.
use mathlib.Core.List.{List}
use mathlib.Core.Path.{refl, ap, ◌∙◌}
use Rattle.journal.specs.declared.event.Event.{Event}
use Rattle.bank_session.specs.Session.{session}
use Rattle.image_calls.specs.Calls.{take_up_of}
use Rattle.image_calls.proofs.calls.take_up.Goals as goal

pub returns : goal.returns
returns c =
    let core = c.take_up_core-c in
    ap (λ (l : List Event). take_up_of core.result.answer (session core.new.rows l core.new.orders core.new.mailboxes)) c.replace_row.ensures
    ∙ core.ensures c.args.row.now refl
