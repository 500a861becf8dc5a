-- The images of a course: a session taken up from one is the session that stands, whatever it is lent. Assumes nothing.
use Prim.Native.Nat.{ℕ}
use mathlib.Core.List.Memᴰ.{head as here}
use mathlib.Core.List.Memᴰ.{tail as there}
use mathlib.Core.List.{List, Memᴰ as In}
use mathlib.Core.Path.{◌≡◌, sym, subst}
use lib.ListN.{take}
use Rattle.journal.specs.Row.{Journal}
use Rattle.bank_state.specs.State.{BankState}
use Rattle.opening_counts.specs.declared.seven.Counts.{Counts}
use Rattle.bank_session.specs.Session.{LentSession, counts_in, journal_in}
use Rattle.image_calls.specs.Calls.{image_length, put_away}
use Rattle.image_calls.proofs.Again.{Resumes, put-resumes}
use Rattle.exchange.specs.Course.{puts_away, takes_up, Course, with_bank, with_journal, call_number, carry_out}
use Rattle.exchange.specs.Demand3.{Premise}

-- each image is of the bank and the journal that stand, whatever its counts
abbrev pub Written : Course → Type 0
Written s = (image : List ℕ) → In image s.images → (c : Counts) × Resumes s.bank s.journal c image

pub put_written : (m : LentSession) (buffer : List ℕ) (s : Course) → Written s → Premise (puts_away m buffer) s →
    call_number (puts_away m buffer) ≡ 0 → Written (carry_out (puts_away m buffer) s)
put_written m buffer s v q z image (here e) =
    let c = counts_in m.rows in (
      c,
      subst (Resumes s.bank s.journal c) (sym e)
          (subst (λ (j : Journal). Resumes s.bank j c (take image_length (put_away m buffer).buffer)) q.1
          (subst (λ (w : BankState). Resumes w (journal_in m) c (take image_length (put_away m buffer).buffer)) q.0
          (put-resumes m buffer z))),
    )
put_written m buffer s v q z image (there i) = v image i

-- the session taken up is the one that stands
pub taken-stays : (m : LentSession) (image : List ℕ) (s : Course) → Written s → Premise (takes_up m image) s →
    call_number (takes_up m image) ≡ 0 → carry_out (takes_up m image) s ≡ s
taken-stays m image s v q z =
    let e = (v image q).1 m z in
    λ x. with_bank (e.0 x) (with_journal (e.1 x) s)
