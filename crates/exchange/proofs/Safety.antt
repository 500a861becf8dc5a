-- Demand 3 but for the order in turn: the outcome of every list of calls, and "not lodged" over every continuation. Assumes nothing.
use Prim.Native.Nat.{ℕ}
use mathlib.Core.List.{List, [], ◌∷◌, ◌++◌}
use mathlib.Core.Path.{◌≡◌, refl, ap, ◌∙◌, subst}
use native.Mathlib.Omega.{arith}
use Rattle.client_run.specs.declared.run.Stage.TheVariants as stage
use Rattle.client_run.specs.declared.run.Word.TheVariants.{NotLodged, Unclear}
use Rattle.exchange.specs.Course.{Call, Course, start, exec, after}
use Rattle.exchange.specs.Terms.{Booked}
use Rattle.exchange.specs.Demand3.{AllAllowed, OneExchangeNumber, Outcome}
use Rattle.exchange.proofs.Issues.{numbers-before}
use Rattle.exchange.proofs.Courses.{parts, parts-start, copied, copied-start}
use Rattle.exchange.proofs.Outcome.{outcome}
use Rattle.exchange.proofs.Receipts.{receipts, receipts-start}
use Rattle.exchange.proofs.Points.{points, points-start}
use Rattle.exchange.proofs.Runs.{stays-ended}

-- ---- a list and its continuation

pub after-append : (ks ls : List Call) (s : Course) → after (ks ++ ls) s ≡ after ls (after ks s)
unfolding after
after-append [] ls s = refl
after-append (k ∷ ks) ls s = after-append ks ls (exec k s)

pub allowed-first : (ks ls : List Call) (s : Course) → AllAllowed (ks ++ ls) s → AllAllowed ks s
allowed-first [] ls s a = tt
allowed-first (k ∷ ks) ls s a = (a.0, allowed-first ks ls (exec k s) a.1)

pub allowed-rest : (ks ls : List Call) (s : Course) → AllAllowed (ks ++ ls) s → AllAllowed ls (after ks s)
unfolding after
allowed-rest [] ls s a = a
allowed-rest (k ∷ ks) ls s a = allowed-rest ks ls (exec k s) a.1

-- ---- every list

pub outcome-of : (ks : List Call) → AllAllowed ks start → OneExchangeNumber (after ks start) → Outcome (after ks start)
outcome-of ks a n =
    outcome (after ks start) (parts ks start parts-start a n) (copied ks start copied-start a) n
    (receipts ks start parts-start copied-start a n receipts-start).held
    (points ks start parts-start copied-start a n points-start)

module _ (ks ls : List Call) (a : AllAllowed (ks ++ ls) start) (n : OneExchangeNumber (after (ks ++ ls) start)) where
  pub first-numbers : OneExchangeNumber (after ks start)
  first-numbers = numbers-before ls (after ks start) (subst OneExchangeNumber (after-append ks ls start) n)

  pub first-outcome : Outcome (after ks start)
  first-outcome = outcome-of ks (allowed-first ks ls start a) first-numbers

  -- "'not lodged' means never booked", in the list or in any continuation
  pub never-booked : (i : ℕ) → ((after ks start).runs i).stage ≡ stage.Ended NotLodged → Booked (after (ks ++ ls) start) i → ⊥
  never-booked i e =
      (outcome-of (ks ++ ls) a n).not_lodged i
      (ap (λ (s : Course). (s.runs i).stage) (after-append ks ls start)
      ∙ stays-ended i NotLodged (λ z. clear z) ls (after ks start) (allowed-rest ks ls start a) e)
    where
      clear : NotLodged ≡ Unclear → ⊥
      clear z = let y : ◌≡◌ {A = ℕ} 0 1 = cc in omega arith
