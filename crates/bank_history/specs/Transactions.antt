-- What one call after another leaves: mailboxes, transactions that are gone, transactions that stay open.
use Rattle.std.specs.Prelude.{ℕ, ◌+◌, ◌-◌, ◌<◌, ◌≤◌, true, false, List, [], ◌∷◌, ◌++◌, ◌≡◌, length, replicate}
use Rattle.frame_table.specs.declared.fields.Bits128.{Bits128}
use Rattle.frame_table.specs.Names
use Rattle.frame_reader.specs.Reader.{read_request}
use Rattle.frame_row.specs.Row.{data_of}
use Rattle.message.specs.Limits.{file_bytes}
use Rattle.bank_state.specs.Clock.{advanced}
use Rattle.bank_state.specs.declared.state.Use.TheVariants.{Open, Booked}
use Rattle.bank_state.specs.Limits.{place_count, idle_limit}
use Rattle.bank_state.specs.Search.{is_free}
use Rattle.bank_state.specs.State.{BankState, place_at, download_at}
use Rattle.bank_state.specs.Store.{part_at}
use Rattle.bank.specs.Call.{context_of, FrameInput, respond}
use Rattle.bank_verdicts.specs.declared.verdict.DownloadAction.TheVariants as down
use Rattle.bank_verdicts.specs.declared.verdict.Action.TheVariants as action
use Rattle.bank_verdicts.specs.declared.verdict.Verdict.TheVariants as verdict
use Rattle.bank_admitted.specs.State.{mailbox_file}
use Rattle.bank_history.specs.History.{Exchange, Past, call_exchange, is_taking, is_booking, is_upload_opening, ever, times, received, opened_by, number_at, segments_at}

-- the past of an answered frame
abbrev pub answered : FrameInput → Past → Past
answered a p = record {
  bank_state =
      (respond (context_of a) (advanced a.time p.bank_state) (read_request a.frame)
      (data_of a.frame)).bank_state;
  history = call_exchange p.bank_state a ∷ p.history;
}

-- what a booked place holds: the subscriber and the number of its accepted opening, and exactly the data of segments 1
-- to N
pub record Order (w : BankState) (h : List Exchange) (t : Bits128) (i : ℕ) : Type 0 where
  pub inside : i < place_count
  pub used : (place_at w.bank i).used ≡ Booked
  pub same : (place_at w.bank i).transaction ≡ t
  pub number : (place_at w.bank i).number ≡ number_at t h
  pub owner : (place_at w.bank i).subscriber ≡ opened_by t h
  pub long : (place_at w.bank i).length ≡ length (received t h)
  pub held : part_at w.orders i ≡ received t h ++ replicate (file_bytes - length (received t h)) 0
  pub whole : times is_taking t h ≡ segments_at t h
  pub opened : ever is_upload_opening t h ≡ true
  pub last : ever is_booking t h ≡ true

-- "until a receipt of its subscriber is answered 011000, which alone empties it": the exchange e has emptied mailbox m
-- of the bank w
pub record Emptied (w : BankState) (m : ℕ) (e : Exchange) : Type 0 where
  pub id : Bits128
  pub confirmed : e.verdict ≡ verdict.Of id (action.Download down.Confirmed)
  pub owner : Names.subscriber e.request ≡ m
  pub empty : mailbox_file w m ≡ []

-- "The bank's mailbox holds exactly the file last put in by a call given no number": the bank w has got the file into
-- mailbox m, and is w' now
pub record Filled (w w' : BankState) (m : ℕ) (file : List ℕ) : Type 0 where
  pub was : mailbox_file w m ≡ []
  pub now : mailbox_file w' m ≡ file
  pub others : (n : ℕ) → 1 ≤ n → (n ≡ m → ⊥) → mailbox_file w' n ≡ mailbox_file w n

-- an accepted opening had the ID t, and no place and no open download has it any more
pub record Gone (w : BankState) (t : Bits128) : Type 0 where
  pub known : t.low < w.bank.openings
  pub places : (i : ℕ) → is_free (place_at w.bank i).used ≡ false → (place_at w.bank i).transaction ≡ t → ⊥
  pub downloads : (j : ℕ) → (download_at w.bank j).used ≡ true → (download_at w.bank j).transaction ≡ t → ⊥

-- the upload t of subscriber s is open, k of n segments taken, its last fitting request at the clock last
pub record UploadAt (w : BankState) (t : Bits128) (s k n last : ℕ) : Type 0 where
  pub place : ℕ
  pub inside : place < place_count
  pub used : (place_at w.bank place).used ≡ Open
  pub transaction : (place_at w.bank place).transaction ≡ t
  pub subscriber : (place_at w.bank place).subscriber ≡ s
  pub taken : (place_at w.bank place).taken ≡ k
  pub segments : (place_at w.bank place).segments ≡ n
  pub fitting : (place_at w.bank place).last ≡ last

-- the download t of subscriber s is open, d segments delivered, its last fitting request at the clock last
pub record DownloadAt (w : BankState) (t : Bits128) (s d last : ℕ) : Type 0 where
  pub row : ℕ
  pub inside : row < place_count
  pub used : (download_at w.bank row).used ≡ true
  pub transaction : (download_at w.bank row).transaction ≡ t
  pub subscriber : (download_at w.bank row).subscriber ≡ s
  pub delivered : (download_at w.bank row).delivered ≡ d
  pub fitting : (download_at w.bank row).last ≡ last

-- it is so unless an idle hour has passed: open at the idle limit, gone after it
abbrev pub UploadUnlessIdle : BankState → Bits128 → ℕ → ℕ → ℕ → ℕ → Type 0
UploadUnlessIdle w t s k n last = w.bank.clock ≤ last + idle_limit → UploadAt w t s k n last

abbrev pub DownloadUnlessIdle : BankState → Bits128 → ℕ → ℕ → ℕ → Type 0
DownloadUnlessIdle w t s d last = w.bank.clock ≤ last + idle_limit → DownloadAt w t s d last
