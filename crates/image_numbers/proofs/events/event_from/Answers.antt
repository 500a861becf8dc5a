-- `event_from` meets its contract: the record's numbers, its kind by its number. Assumes nothing.
use Rattle.image_numbers.proofs.Journal.{event-read}
use Rattle.image_numbers.proofs.events.event_from.Goals as goal

pub returns : goal.returns
returns c =
    let a = c.args in
    event-read a.numbers.now a.i c.event_at-e.result c.event_at-e.ensures c.kind_of.result c.kind_of.ensures
