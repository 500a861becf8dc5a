-- A call given a number leaves the course as it was; one given none is carried out. Assumes nothing.
use Rattle.bank.specs.declared.mailbox.FileRefusal.{FileRefusal}
use Rattle.std.specs.Prelude.{Err, Ok, Result}
use Prim.Native.Nat.{ℕ}
use mathlib.Core.Bool.{Bool, cond}
use mathlib.Core.List.{List}
use mathlib.Core.Logic.{◌⊎◌, inl, inr}
use mathlib.Core.Path.{◌≡◌, refl, sym, ap, subst}
use native.Mathlib.Decide.{ℕ_discrete}
use native.Mathlib.Omega.{arith}
use borrow.Author.Tests.{eq-eqb, ne_eqb}
use Rattle.bank_state.specs.State.{Bank}
use Rattle.bank.specs.declared.mailbox.FileRefusal.TheVariants as file_answer
use Rattle.bank.specs.Mailbox.{carry_out_file, file_number}
use Rattle.exchange.specs.Course.{Call, Course, call_number, carry_out, exec}

-- "a number, nothing changed"
pub numbered-stays : (k : Call) (s : Course) → (call_number k ≡ 0 → ⊥) → exec k s ≡ s
unfolding exec
numbered-stays k s n = ap (λ (b : Bool). cond b (carry_out k s) s) (ne_eqb (call_number k) 0 n)

pub carried : (k : Call) (s : Course) → call_number k ≡ 0 → exec k s ≡ carry_out k s
unfolding exec
carried k s z = ap (λ (b : Bool). cond b (carry_out k s) s) (eq-eqb (call_number k) 0 z)

-- a call is one or the other
pub number-or-none : (k : Call) (s : Course) → (exec k s ≡ s) ⊎ ((call_number k ≡ 0) × (exec k s ≡ carry_out k s))
number-or-none k s = at (ℕ_discrete (call_number k) 0)
  where
    at : Dec (call_number k ≡ 0) → (exec k s ≡ s) ⊎ ((call_number k ≡ 0) × (exec k s ≡ carry_out k s))
    at (yes z) = inr (z, carried k s z)
    at (no n) = inl (numbered-stays k s n)

-- what holds of the course as it was, and as a call given no number leaves it, holds after the call
pub by_number : (k : Call) (s : Course) (P : Course → Type 0) → P s → (call_number k ≡ 0 → P (carry_out k s)) → P (exec k s)
by_number k s P same f = at (number-or-none k s)
  where
    at : (exec k s ≡ s) ⊎ ((call_number k ≡ 0) × (exec k s ≡ carry_out k s)) → P (exec k s)
    at (inl e) = subst P (sym e) same
    at (inr (z, e)) = subst P (sym e) (f z)

-- a file call given no number is done
pub file-done : (a : Result (Unit {0}) FileRefusal) (b : Bank) (mailbox : ℕ) (file mailboxes : List ℕ) →
    file_number (carry_out_file a b mailbox file mailboxes).answer ≡ 0 → a ≡ Ok tt
file-done (Ok u) b mailbox file mailboxes z = refl
file-done (Err file_answer.WrongLength) b mailbox file mailboxes z = absurd (omega arith)
file-done (Err file_answer.NoMailbox) b mailbox file mailboxes z = absurd (omega arith)
file-done (Err file_answer.WrongFile) b mailbox file mailboxes z = absurd (omega arith)
file-done (Err file_answer.MailboxFull) b mailbox file mailboxes z = absurd (omega arith)
