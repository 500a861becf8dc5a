-- What the journal's events say of orders, together.
use Rattle.bank_history.specs.JournalOrders.{JournalOrders}
use Rattle.bank_history.proofs.JournalCounts.{one_end, few-events}
use Rattle.bank_history.proofs.JournalUploads.{
  in-row,
  recorded-event,
  event-typed,
  event-opened,
  event-booked,
  event-signed,
  event-ended,
}

pub journal-orders : JournalOrders
journal-orders = record {
  in_row = in-row;
  recorded = recorded-event;
  typed = event-typed;
  opened = event-opened;
  booked = event-booked;
  ended = event-ended;
  signed = event-signed;
  once = one_end;
  bounded = few-events;
}
