-- Every call keeps what the state may hold: each case of a request, a frame call and a file call.
use Rattle.bank.specs.declared.mailbox.FileRefusal.{FileRefusal}
use Rattle.std.specs.Prelude.{Err, Ok, Result}
use Prim.Native.Nat.{ℕ, ◌≤◌, ◌<◌}
use mathlib.Core.List.{List}
use mathlib.Core.Path.{◌≡◌}
use native.Mathlib.Omega.{arith}
use lib.ListN.{length}
use Rattle.frame_table.specs.declared.fields.Fields.{Fields}
use Rattle.frame_table.specs.Forms as forms
use Rattle.frame_table.specs.Names.{form}
use Rattle.frame_reader.specs.Reader.{read_request}
use Rattle.frame_row.specs.Row.{data_of}
use Rattle.message.proofs.Verdicts.{by-test}
use Rattle.bank_state.specs.Clock.{advanced}
use Rattle.bank_state.specs.State.{BankState, bank_state}
use Rattle.bank_verdicts.specs.declared.verdict.Context.{Context}
use Rattle.bank_verdicts.specs.declared.verdict.Verdict.{Verdict}
use Rattle.bank_steps.specs.Steps.{carry_out}
use Rattle.bank.specs.declared.mailbox.FileRefusal.TheVariants as put
use Rattle.bank.specs.Call.{FrameCall, FrameInput, context_of, lent_right, respond, frame_call}
use Rattle.bank.specs.Mailbox.{FileCall, file_number, carry_out_file, file_call}
use Rattle.bank_admitted.specs.State.{StateHolds, NoneIdle}
use Rattle.bank_steps.proofs.Cases.{
  Happens,
  unreadable,
  refused,
  opens_upload,
  opens_download,
  to_upload,
  to_download,
  signs,
  happens,
}
use Rattle.bank_admitted.proofs.Reading.{transfer-data}
use Rattle.bank_admitted.proofs.Uploads.{upload-keeps}
use Rattle.bank_admitted.proofs.Downloads.{download-keeps}
use Rattle.bank_admitted.proofs.Openings.{opens-upload, opens-download}
use Rattle.bank_admitted.proofs.Signings.{signing-keeps}
use Rattle.bank_admitted.proofs.Clock.{advanced-keeps, advanced-not-idle}
use Rattle.bank_admitted.proofs.Files.{FileSound, rejected, done, judged-file, filled_keeps}
use Rattle.bank_admitted.proofs.NotIdle.{case-not-idle}

-- ---- a request, at the clock that the call has set

module _ (k : Context) (w : BankState) (v : StateHolds w) (q : Fields) (d : List ℕ) where
  pub case-keeps : (form q ≡ forms.UploadTransfer → 1 ≤ length d) → {u : Verdict} → Happens k.prefix w q d u → StateHolds (carry_out u w q d)
  case-keeps some unreadable = v
  case-keeps some (refused c e) = v
  case-keeps some (opens_upload asked a g n p below) = opens-upload k.prefix w v q (length d) a g n p below
  case-keeps some (opens_download asked a g n) = opens-download k.prefix w v q (length d) a g n
  case-keeps some (to_upload r a t) = upload-keeps w v q d r a some t
  case-keeps some (to_download r a t) = download-keeps w v q d r a t
  case-keeps some (signs t) = signing-keeps w v q d t

  pub respond-keeps : (form q ≡ forms.UploadTransfer → 1 ≤ length d) → StateHolds (respond k w q d).bank_state
  unfolding respond
  respond-keeps some = case-keeps some (happens k w q d v.sizes.places v.sizes.downloads)

  pub respond-not-idle : NoneIdle w → NoneIdle (respond k w q d).bank_state
  unfolding respond
  respond-not-idle n = case-not-idle w n k.prefix q d v.sizes.places (happens k w q d v.sizes.places v.sizes.downloads)

-- ---- the calls

module _ (w : BankState) (v : StateHolds w) where
  pub frame-keeps-state : (a : FrameInput) → StateHolds (frame_call w a).bank_state
  unfolding frame_call
  frame-keeps-state a =
      by-test (λ (c : FrameCall). StateHolds c.bank_state) (lent_right w a)
      (λ _. respond-keeps (context_of a) (advanced a.time w) (advanced-keeps a.time w v) (read_request a.frame)
      (data_of a.frame) (transfer-data a.frame))
      (λ _. v)

  pub frame-not-idle : NoneIdle w → (a : FrameInput) → NoneIdle (frame_call w a).bank_state
  unfolding frame_call
  frame-not-idle n a =
      by-test (λ (c : FrameCall). NoneIdle c.bank_state) (lent_right w a)
      (λ _. respond-not-idle (context_of a) (advanced a.time w) (advanced-keeps a.time w v) (read_request a.frame)
      (data_of a.frame) (advanced-not-idle a.time w v.sizes))
      (λ _. n)

  -- the state with what a file call leaves
  abbrev after_file : FileCall → BankState
  after_file c = bank_state c.bank w.orders c.mailboxes

  -- what holds of the state, and of it with a file that was accepted, holds after a file call
  each-file : (P : BankState → Type 0) (mailbox : ℕ) (file : List ℕ) → P w →
      (FileSound w.bank mailbox file w.mailboxes (Ok tt) → P (after_file (carry_out_file (Ok tt) w.bank mailbox file w.mailboxes))) →
      P (after_file (file_call w.bank mailbox file w.mailboxes))
  unfolding file_call
  each-file P mailbox file old new = at (judged-file w.bank mailbox file w.mailboxes)
    where
      refusal : (a : Result (Unit {0}) FileRefusal) → 0 < file_number a → P (after_file (carry_out_file a w.bank mailbox file w.mailboxes))
      refusal (Ok u) h = absurd (omega arith)
      refusal (Err put.WrongLength) h = old
      refusal (Err put.NoMailbox) h = old
      refusal (Err put.WrongFile) h = old
      refusal (Err put.MailboxFull) h = old

      at : {a : Result (Unit {0}) FileRefusal} → FileSound w.bank mailbox file w.mailboxes a →
          P (after_file (carry_out_file a w.bank mailbox file w.mailboxes))
      at {a} (rejected h) = refusal a h
      at (done known most some short empty) = new (done known most some short empty)

  pub file-keeps-state : (mailbox : ℕ) (file : List ℕ) →
      let c = file_call w.bank mailbox file w.mailboxes in StateHolds (bank_state c.bank w.orders c.mailboxes)
  file-keeps-state mailbox file = each-file StateHolds mailbox file v into
    where
      into : FileSound w.bank mailbox file w.mailboxes (Ok tt) →
          StateHolds (after_file (carry_out_file (Ok tt) w.bank mailbox file w.mailboxes))
      into (rejected h) = absurd (omega arith)
      into (done known most some short empty) = filled_keeps w v mailbox file known most some short empty

  pub file-not-idle : NoneIdle w → (mailbox : ℕ) (file : List ℕ) →
      let c = file_call w.bank mailbox file w.mailboxes in NoneIdle (bank_state c.bank w.orders c.mailboxes)
  file-not-idle n mailbox file =
      each-file NoneIdle mailbox file n (λ _. record { places = n.places; downloads = n.downloads })
