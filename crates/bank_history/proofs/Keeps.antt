-- Every call keeps the invariant: each case of a request, a frame call, a file call, and every list of calls.
use Rattle.bank.specs.declared.mailbox.FileRefusal.{FileRefusal}
use Rattle.number_table.specs.declared.table.WrongLength.{WrongLength}
use Rattle.std.specs.Prelude.{Err, Ok, Result}
use Prim.{tt}
use Prim.Native.Nat.{ℕ, ◌-◌, ◌≤◌, ◌<◌}
use mathlib.Core.Bool.{false}
use mathlib.Core.List.{List, [], ◌∷◌}
use mathlib.Core.Path.{◌≡◌, refl, sym, ap, ◌∙◌}
use native.Mathlib.Omega.{arith}
use lib.Dec.{eqb}
use lib.ListN.{length}
use Rattle.frame_table.specs.declared.fields.Bits128.{Bits128}
use Rattle.frame_table.specs.declared.fields.Fields.{Fields}
use Rattle.frame_table.specs.Forms as forms
use Rattle.frame_table.specs.Names.{subscriber, form}
use Rattle.frame_reader.specs.Reader.{read_request}
use Rattle.frame_row.specs.Row.{data_of}
use Rattle.octets.proofs.Tests.{never}
use Rattle.message.specs.declared.codes.ReturnCode.TheVariants as code
use Rattle.message.specs.Codes.{code_field}
use Rattle.message.proofs.Verdicts.{by-test}
use Rattle.bank_state.specs.State.{Bank}
use Rattle.bank_state.specs.Clock.{advanced}
use Rattle.bank_state.specs.Rows.{first_of, keep}
use Rattle.bank_state.specs.Limits.{place_count}
use Rattle.bank_state.specs.State.{BankState, fresh, place_at, download_at, series_of}
use Rattle.bank.specs.declared.mailbox.FileRefusal.TheVariants as put
use Rattle.bank_steps.specs.Steps.{carry_out}
use Rattle.bank.specs.Call.{context_of, Step, FrameCall, lent_right, replied, respond, frame_call, FrameInput}
use Rattle.bank.specs.Mailbox.{file_number, carry_out_file, file_call}
use Rattle.bank_verdicts.specs.declared.verdict.Context.{Context}
use Rattle.bank_verdicts.specs.declared.verdict.Verdict.{Verdict}
use Rattle.bank_verdicts.specs.declared.verdict.Verdict.TheVariants as verdict
use Rattle.bank_admitted.specs.State.{NoneIdle}
use Rattle.bank_steps.proofs.Cases.{
  Happens,
  unreadable,
  refused,
  opens_upload,
  opens_download,
  signs,
  to_upload,
  to_download,
  happens,
}
use Rattle.bank_admitted.proofs.Reading.{transfer-data}
use Rattle.bank_admitted.proofs.Clock.{advanced-not-idle}
use Rattle.bank_admitted.proofs.Files.{FileSound, rejected, done, judged-file}
use Rattle.bank_admitted.proofs.Keeps.{respond-not-idle}
use Rattle.bank_admitted.proofs.Rows.{get_d-free}
use Rattle.bank_admitted.proofs.Fresh.{fresh-place, fresh-download, fresh-state, fresh-not-idle}
use Rattle.bank_history.specs.History.{Exchange, Past, BankCall, Frame, File, did, is_action, is_booking, opens, remembers, accepted, own_numbering, exchange_of, entered, placed, after, start, past_of, ever, opening_nonces, remembered}
use Rattle.bank_history.specs.Sound.{Sound, none, more}
use Rattle.bank_history.specs.Invariant.{Invariant, Holds}
use Rattle.bank_history.proofs.Entries.{ever-other, series-unmoved}
use Rattle.bank_verdicts.specs.Refusals.{is_order, find_order}
use Rattle.bank_history.specs.Signatures.{is_signed, signers_in}
use Rattle.bank_history.proofs.Signatures.{signers-unchanged, unsigned-code}
use Rattle.bank_history.proofs.Refusing.{refusing-not-ok, Refuses, verdict-refuses}
use Rattle.bank_history.proofs.Replies.{verdict_code, verdict-code}
use Rattle.bank_history.proofs.Signings.{signing-keeps}
use Rattle.bank_history.proofs.Memory.{memory-unchanged}
use Rattle.bank_history.proofs.Places.{place-unchanged}
use Rattle.bank_history.proofs.Records.{download-unchanged}
use Rattle.bank_history.proofs.Uploads.{entry, bare, upload-keeps}
use Rattle.bank_history.proofs.DownloadVerdicts.{download-keeps}
use Rattle.bank_history.proofs.Openings.{opens-upload, opens-download}
use Rattle.bank_history.proofs.Clock.{advanced-keeps}
use Rattle.bank_history.proofs.Files.{filled_keeps}

-- a request that does nothing
nothing-keeps : (w : BankState) (h : List Exchange) (x : Exchange) → ((t : Bits128) → did is_action t x.verdict ≡ false) →
    opens x.verdict ≡ false → remembers x.verdict ≡ false → is_signed x ≡ false → Sound x h →
    Invariant w h → Invariant w (x ∷ h)
unfolding accepted
nothing-keeps w h x no-action unopened forgotten unsigned sound v = record {
  state = v.state;
  counted = rw unopened v.counted;
  series = λ s a b. v.series s a b ∙ sym (series-unmoved s x h unopened);
  places = λ i a. place-unchanged x h _ _ (place_at w.bank i).used (λ _. no-action (place_at w.bank i).transaction) (v.places i a);
  downloads = λ j. download-unchanged x h _ _ (download_at w.bank j).used (λ _. no-action (download_at w.bank j).transaction)
      (v.downloads j);
  memory = memory-unchanged _ _ x h forgotten v.memory;
  signers = λ owner order. v.signers owner order ∙ sym (signers-unchanged _ x h unsigned);
  known = λ t e. v.known t (sym (ever-other t x h (no-action t) is_action) ∙ e);
  booked = λ t e. v.booked t (sym (ever-other t x h (no-action t) is_booking) ∙ e);
  sound = more sound v.sound;
}

module _ (context : Context) (w : BankState) (h : List Exchange) (v : Invariant w h) (q : Fields) (d : List ℕ)
    (some : form q ≡ forms.UploadTransfer → 1 ≤ length d) where
  -- a verdict's code other than 000000 is no accepted signing's
  unsigned : (u : Verdict) → eqb (code_field (verdict_code u)) (code_field code.Ok) ≡ false → is_signed (entry u w q d) ≡ false
  unsigned u other =
      unsigned-code (entry u w q d) (ap (λ (n : ℕ). eqb n (code_field code.Ok)) (verdict-code u q) ∙ other)

  case-keeps : {u : Verdict} → Refuses u → Happens context.prefix w q d u →
      Invariant (carry_out u w q d) (entry u w q d ∷ h)
  case-keeps r unreadable =
      nothing-keeps w h (entry verdict.Unreadable w q d) (λ t. refl) refl refl (unsigned verdict.Unreadable refl)
      (record { reply = refl; verdict = bare w (subscriber q) }) v
  case-keeps r (refused c e) =
      nothing-keeps w h (entry (verdict.Refused c) w q d) (λ t. refl) refl refl
      (unsigned (verdict.Refused c) (refusing-not-ok c r))
      (record { reply = refl; verdict = record { harmless = e; bare = bare w (subscriber q) } }) v
  case-keeps r (opens_upload asked a g n p l) = opens-upload context.prefix w h v q d a g asked n p l
  case-keeps r (opens_download asked a g n) = opens-download context.prefix w h v q d a g asked n
  case-keeps r (to_upload x a t) = upload-keeps w h v q d x a some t
  case-keeps r (to_download x a t) = download-keeps w h v q d x a t
  case-keeps r (signs t) = signing-keeps w h v q d t

  pub respond-keeps : Invariant (respond context w q d).bank_state (exchange_of context w q d ∷ h)
  unfolding exchange_of respond
  respond-keeps = case-keeps (verdict-refuses context w q d) (happens context w q d v.state.sizes.places v.state.sizes.downloads)

-- ---- the calls

-- "a number, nothing changed"; else what the request came to
entered-holds : (p : Past) (a : Result ℕ WrongLength) (w : BankState) (e : Exchange) → Holds p → Invariant w (e ∷ p.history) → NoneIdle w →
    Holds (entered a w e p)
entered-holds p (Ok n) w e old v not_idle = record { invariant = v; current = not_idle }
entered-holds p (Err x) w e old v not_idle = old

frame-holds : (p : Past) (a : FrameInput) → Holds p → Holds (after (Frame a) p)
unfolding after frame_call
frame-holds p a old =
    by-test (λ (c : FrameCall). Holds (entered c.answer c.bank_state x p))
    (lent_right p.bank_state a)
    (λ _. entered-holds p (replied s a.buffer).answer s.bank_state x old kept not_idle) (λ _. old)
  where
    w : BankState
    w = advanced a.time p.bank_state

    s : Step
    s = respond (context_of a) w (read_request a.frame) (data_of a.frame)

    x : Exchange
    x = exchange_of (context_of a) w (read_request a.frame) (data_of a.frame)

    v : Invariant w p.history
    v = advanced-keeps a.time p.bank_state p.history old.invariant

    kept : Invariant s.bank_state (x ∷ p.history)
    kept = respond-keeps (context_of a) w p.history v (read_request a.frame) (data_of a.frame)
        (transfer-data a.frame)

    not_idle : NoneIdle s.bank_state
    not_idle = respond-not-idle (context_of a) w v.state (read_request a.frame) (data_of a.frame)
        (advanced-not-idle a.time p.bank_state old.invariant.state.sizes)

file-holds : (p : Past) (mailbox : ℕ) (file : List ℕ) → Holds p → Holds (after (File mailbox file) p)
unfolding after file_call
file-holds p mailbox file old = at (judged-file p.bank_state.bank mailbox file p.bank_state.mailboxes)
  where
    mailboxes : List ℕ
    mailboxes = p.bank_state.mailboxes

    b : Bank
    b = p.bank_state.bank

    rejected-stays : (a : Result (Unit {0}) FileRefusal) → 0 < file_number a →
        Holds (placed (carry_out_file a b mailbox file mailboxes).answer (carry_out_file a b mailbox file mailboxes).bank
        (carry_out_file a b mailbox file mailboxes).mailboxes p)
    rejected-stays (Ok u) h = absurd (omega arith)
    rejected-stays (Err put.WrongLength) h = old
    rejected-stays (Err put.NoMailbox) h = old
    rejected-stays (Err put.WrongFile) h = old
    rejected-stays (Err put.MailboxFull) h = old

    at : {a : Result (Unit {0}) FileRefusal} → FileSound b mailbox file mailboxes a →
        Holds (placed (carry_out_file a b mailbox file mailboxes).answer (carry_out_file a b mailbox file mailboxes).bank
        (carry_out_file a b mailbox file mailboxes).mailboxes p)
    at {a} (rejected h) = rejected-stays a h
    at (done known most some short empty) = record {
      invariant = filled_keeps p.bank_state p.history old.invariant mailbox file known most some short empty;
      current = record { places = old.current.places; downloads = old.current.downloads };
    }

pub after_holds : (c : BankCall) (p : Past) → Holds p → Holds (after c p)
after_holds (Frame a) p old = frame-holds p a old
after_holds (File mailbox file) p old = file-holds p mailbox file old

-- ---- a fresh bank

start-holds : Holds start
unfolding start fresh series_of accepted own_numbering ever remembered opening_nonces keep signers_in find_order is_order
    first_of
start-holds = record {
  invariant = record {
    state = fresh-state;
    counted = refl;
    series = λ s a b. get_d-free 0 place_count (s - 1);
    places = λ i a. rw (fresh-place i) tt;
    downloads = λ j. rw (fresh-download j) tt;
    memory = record { held = refl };
    signers = λ owner order. refl;
    known = λ t e. never e;
    booked = λ t e. never e;
    sound = none;
  };
  current = fresh-not-idle;
}

-- THE INVARIANT, after every list of calls
pub past-holds : (calls : List BankCall) → Holds (past_of calls)
unfolding past_of
past-holds [] = start-holds
past-holds (c ∷ calls) = after_holds c (past_of calls) (past-holds calls)
