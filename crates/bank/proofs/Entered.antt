-- What a frame call enters into the journal: the drops, then what its request enters. Assumes nothing.
use Rattle.number_table.specs.declared.table.WrongLength.{WrongLength}
use Rattle.std.specs.Prelude.{Ok, Result}
use Prim.Native.Nat.{ℕ}
use mathlib.Core.Bool.{true}
use mathlib.Core.List.{List, [], ◌++◌, map}
use mathlib.Core.Path.{◌≡◌}
use lib.ListN.{length}
use Rattle.frame_table.specs.declared.fields.Fields.{Fields}
use Rattle.frame_reader.specs.Reader.{read_request}
use Rattle.frame_row.specs.Row.{data_of}
use Rattle.bank_verdicts.specs.declared.verdict.Context.{Context}
use Rattle.bank_state.specs.Clock.{advanced}
use Rattle.bank_state.specs.State.{Bank}
use Rattle.bank_rows.specs.State.{bank_of, StoredWith}
use Rattle.bank_sound.specs.Sound.{is_sound}
use Rattle.bank_sound.proofs.Test.{sound-laid}
use Rattle.bank_verdicts.specs.declared.verdict.Verdict.{Verdict}
use Rattle.bank_verdicts.specs.declared.verdict.Verdict.TheVariants as verdict
use Rattle.bank_verdicts.specs.Judgement.{judge}
use Rattle.bank_steps.specs.Lent.{Lent, state_of}
use Rattle.journal.specs.declared.event.Entry.{Entry}
use Rattle.journal.specs.declared.event.Batch.{Batch}
use Rattle.bank_events.specs.Entries.{Holds, drop_entry, dropped_uploads, verdict_order, named_order, action_entries, call_entries}
use Rattle.bank.specs.declared.call.FrameOut.{FrameOut}
use Rattle.bank.specs.Call.{respond, FrameInput, context_of, call_verdict, verdict_by}
use Rattle.bank.specs.Journal.{clock_by, request_entries, entered_by, if_answered}
use Rattle.bank.specs.Lent.{no_reply}
use Rattle.bank.proofs.Lent.{advanced-back}

-- the order number is read before the step, the verdict is its result
pub request-entered : (context : Context) (b : Bank) (q : Fields) (d : List ℕ) {v : Verdict} {named order : ℕ}
    → v ≡ judge context b q (length d) → named ≡ named_order b q → order ≡ verdict_order v named
    → action_entries v order q ≡ request_entries context b q d
request-entered context b q d e f g = rw (g, f, e)

-- number 1 enters nothing
pub none-entered : {o : FrameOut} {batch : Batch} → o ≡ no_reply → Holds batch [] → (es : List Entry)
    → Holds batch (if_answered o.answer es)
none-entered e h es = rw e h

-- and has no verdict
pub none-judged : {o : FrameOut} {x : Verdict} → o ≡ no_reply → x ≡ verdict.Unreadable → (v : Verdict)
    → x ≡ verdict_by o.answer v
none-judged e f v = rw e f

-- a reply leaves the events
pub answered-entered : {a : Result ℕ WrongLength} {n : ℕ} {batch : Batch} {es : List Entry} → a ≡ Ok n → Holds batch es
    → Holds batch (if_answered a es)
answered-entered e h = rw e h

-- and the verdict
pub answered-judged : {a : Result ℕ WrongLength} {n : ℕ} {x v : Verdict} → a ≡ Ok n → x ≡ v → x ≡ verdict_by a v
answered-judged e f = rw e f

-- the whole call
pub frame-entered : (m : Lent) (a : FrameInput) → is_sound m.rows ≡ true → (t p : List ℕ)
    → StoredWith (advanced a.time (state_of m)) m.rows t p
    → {context : Context} {q : Fields} {d : List ℕ} {es : List Entry} → context ≡ context_of a → q ≡ read_request a.frame
    → d ≡ data_of a.frame → es ≡ map drop_entry (dropped_uploads (clock_by (state_of m) a) (bank_of m.rows))
    → es ++ request_entries context (bank_of t) q d ≡ entered_by (state_of m) a
unfolding entered_by call_entries respond
frame-entered m a sound t p e x y z f =
    rw (
      f,
      x,
      y,
      z,
      advanced-back m.rows m.orders m.mailboxes (sound-laid m.rows sound) a.time t p e,
    )

-- its verdict is that on the bank after the clock and its drops
pub frame-judged : (m : Lent) (a : FrameInput) → is_sound m.rows ≡ true → (t p : List ℕ)
    → StoredWith (advanced a.time (state_of m)) m.rows t p
    → {context : Context} {q : Fields} {d : List ℕ} → context ≡ context_of a → q ≡ read_request a.frame
    → d ≡ data_of a.frame → judge context (bank_of t) q (length d) ≡ call_verdict (state_of m) a
unfolding respond
frame-judged m a sound t p e x y z =
    rw (x, y, z, advanced-back m.rows m.orders m.mailboxes (sound-laid m.rows sound) a.time t p e)
