-- What demand 3 comes to for the people of a course: what may be read off the book, a closing word and a mailbox. All
-- follows from its clauses.
use Rattle.std.specs.Prelude.{ℕ, ◌≤◌, ◌≡◌}
use mathlib.Core.List.{List, [], ◌∷◌, ◌++◌, Memᴰ as In}
use Rattle.frame_table.specs.Forms as forms
use Rattle.frame_table.specs.Names.{subscriber, return_code, form}
use Rattle.frame_reader.specs.Reader.{read_request, read_reply}
use Rattle.message.specs.declared.codes.ReturnCode.TheVariants as code
use Rattle.message.specs.Codes.{code_field}
use Rattle.message.specs.Limits.{subscribers}
use Rattle.client_run.specs.declared.run.Stage.TheVariants as stage
use Rattle.client_run.specs.declared.run.Word.TheVariants.{Lodged, NotLodged}
use Rattle.client_run.specs.Run.{order_name}
use Rattle.exchange.specs.Course.{
  Call,
  file_put,
  Issue,
  Exchange,
  Course,
  start,
  mailbox_of,
  call_number,
  exec,
  after,
}
use Rattle.exchange.specs.Terms.{Books, Booked, Order, name_of, InBook, OrderOf}
use Rattle.exchange.specs.Demand3.{AllAllowed, OneExchangeNumber}

-- ---- THE BOOK

pub record BookSays (s : Course) : Type 0 where
  -- no two of the bank's answers book one upload
  pub once : (i : ℕ) (newer between older : List Exchange) (e f : Exchange) →
      s.exchanged ≡ newer ++ (e ∷ (between ++ (f ∷ older))) → Books s i e → Books s i f → ⊥
  -- the order in a place is that of one booked upload, and of no other
  pub upload : (j : ℕ) (o : Order) → InBook s j o →
      (i : ℕ) × Booked s i × OrderOf s i o × ((k : ℕ) → Booked s k → OrderOf s k o → k ≡ i)
  -- a booked upload's order stands in one place, and in no other
  pub place : (i : ℕ) → Booked s i → (j : ℕ) × (o : Order) × InBook s j o × OrderOf s i o
      × ((k : ℕ) (p : Order) → InBook s k p → OrderOf s i p → k ≡ j)
  -- the name that a run closes with as lodged finds one order of the book, with exactly the run's bytes, and no other
  pub name : (i : ℕ) → (s.runs i).stage ≡ stage.Ended Lodged →
      (j : ℕ) × (o : Order) × InBook s j o × (name_of o ≡ order_name (s.runs i)) × (o.bytes ≡ s.payloads i)
      × ((k : ℕ) (p : Order) → InBook s k p → name_of p ≡ order_name (s.runs i) → k ≡ j)
  -- each order of the book is another run's than one closed as not lodged
  pub none : (i : ℕ) → (s.runs i).stage ≡ stage.Ended NotLodged → (j : ℕ) (o : Order) → InBook s j o →
      (k : ℕ) × Booked s k × OrderOf s k o × (k ≡ i → ⊥)

unfoldable pub BookTold : Type 0
BookTold = (ks : List Call) → AllAllowed ks start → OneExchangeNumber (after ks start) → BookSays (after ks start)

-- ---- A MAILBOX

-- mailbox m over a call k, from s to t: it holds what it held, or the file that the call put in, or it was emptied by a
-- receipt, and as a run of its subscriber issued that receipt the run's file was the mailbox's, every byte
pub data Changes (m : ℕ) (k : Call) (s t : Course) : Type 0 where
  keeps : mailbox_of t.bank m ≡ mailbox_of s.bank m → Changes m k s t
  holds : {rows mailboxes file : List ℕ} → k ≡ file_put rows mailboxes m file → mailbox_of t.bank m ≡ file →
      Changes m k s t
  gone : (x : Issue) → In x s.issued → form (read_request x.frame) ≡ forms.Receipt →
      (s.runs x.run).subscriber ≡ m → x.file ≡ x.box → x.file ≡ mailbox_of s.bank m →
      mailbox_of t.bank m ≡ [] → Changes m k s t

pub record MailboxSays (m : ℕ) (k : Call) (s t : Course) : Type 0 where
  pub changes : Changes m k s t
  -- the file put in by a call given no number is in it
  pub puts : (rows mailboxes file : List ℕ) → k ≡ file_put rows mailboxes m file → call_number k ≡ 0 →
      mailbox_of t.bank m ≡ file
  -- and 011000 to its subscriber empties it
  pub empties : (e : Exchange) → t.exchanged ≡ e ∷ s.exchanged → subscriber (read_request e.request) ≡ m →
      return_code (read_reply e.reply) ≡ code_field code.DownloadPostprocessDone → mailbox_of t.bank m ≡ []

unfoldable pub MailboxesTold : Type 0
MailboxesTold = (ks : List Call) (k : Call) → let all = ks ++ (k ∷ []) in
    AllAllowed all start → OneExchangeNumber (after all start) → (m : ℕ) → 1 ≤ m → m ≤ subscribers →
    MailboxSays m k (after ks start) (exec k (after ks start))
