-- Demand 3's clauses on the book and the mailboxes, said of the driver's unit after its records.
use Rattle.std.specs.Prelude.{ℕ, ◌<◌, ◌≤◌, ◌⊎◌, ◌≡◌}
use mathlib.Core.List.{List, Memᴰ as In}
use Rattle.frame_table.specs.Names.{subscriber, return_code}
use Rattle.frame_reader.specs.Reader.{read_request, read_reply}
use Rattle.message.specs.declared.codes.ReturnCode.TheVariants as code
use Rattle.message.specs.Codes.{code_field}
use Rattle.message.specs.Limits.{subscribers}
use Rattle.client_run.specs.declared.run.Stage.TheVariants as stage
use Rattle.client_run.specs.declared.run.Word.TheVariants.{Lodged}
use Rattle.exchange.specs.Course.{Issue, Exchange, Course, start, with_bank, mailbox_of}
use Rattle.exchange.specs.Demand3.{OneExchangeNumber}
use Rattle.exchange.specs.Terms.{Booked, Order, InBook, OrderOf}
use Rattle.unit_state.specs.Records.{run_count}
use Rattle.unit.specs.State.{State}
use Rattle.sessions.specs.Sessions.{
  fresh_unit,
  Records,
  unit_after,
  bank_at,
  client_at,
  payload_at,
  calls_of,
  Copy,
  AtEach,
  course_of,
}

-- the order in place j of the unit's book
abbrev pub InUnitBook : State → ℕ → Order → Type 0
InUnitBook u = InBook (with_bank (bank_at u) start)

pub record UnitBook (u : State) (s : Course) : Type 0 where
  -- "the book is exactly the orders of those booked, each with exactly its bytes": each order is that of one of the 16
  -- runs, with the subscriber and the payload that the run keeps, and of no other upload
  pub orders : (j : ℕ) (o : Order) → InUnitBook u j o → (i : ℕ) × (i < run_count) × Booked s i × OrderOf s i o
      × (o.subscriber ≡ (client_at u i).subscriber) × (o.bytes ≡ payload_at u i)
      × ((k : ℕ) → Booked s k → OrderOf s k o → k ≡ i)
  -- each run closed as lodged, and each one booked that is not closed so, has one order in it, with the payload that it
  -- keeps, and no other
  pub runs : (i : ℕ) → i < run_count → ((client_at u i).stage ≡ stage.Ended Lodged) ⊎ Booked s i →
      (j : ℕ) × (o : Order) × InUnitBook u j o × OrderOf s i o × (o.bytes ≡ payload_at u i)
      × ((k : ℕ) (p : Order) → InUnitBook u k p → OrderOf s i p → k ≡ j)
  -- "The bank's mailbox holds exactly the file last put in by a call given no number, until a receipt of its subscriber
  -- is answered 011000, which alone empties it"
  pub mailboxes : (m : ℕ) → 1 ≤ m → m ≤ subscribers → mailbox_of (bank_at u) m ≡ s.mailboxes m
  -- "a mailbox is emptied only after its client held the whole": a receipt answered 011000 was issued by one of the 16
  -- runs, of the mailbox's subscriber; its file was the mailbox's then, and is still as the bank answers
  pub receipts : (e : Exchange) → In e s.exchanged →
      return_code (read_reply e.reply) ≡ code_field code.DownloadPostprocessDone →
      (x : Issue) × In x s.issued × (x.run < run_count) × (x.frame ≡ e.request)
      × ((client_at u x.run).subscriber ≡ subscriber (read_request e.request)) × (x.file ≡ x.box)
      × (x.file ≡ e.box)

-- whenever its records copy requests, replies and images taken up
unfoldable pub SessionsBook : Type 0
SessionsBook = (rs : List (List ℕ)) → Records rs → AtEach Copy (calls_of fresh_unit rs) start →
    OneExchangeNumber (course_of rs) → UnitBook (unit_after fresh_unit rs) (course_of rs)
