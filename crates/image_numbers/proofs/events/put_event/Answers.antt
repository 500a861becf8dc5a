-- `put_event` meets its contract: the parts are the event's numbers. Assumes nothing.
use Rattle.image_numbers.proofs.events.put_event.Goals as goal

pub returns : goal.returns
returns c = rw (← c.number_of_kind.ensures) c.put.ensures
