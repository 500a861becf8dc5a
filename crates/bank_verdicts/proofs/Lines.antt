-- What a verdict tells of the lines of the list that led to it, each line named by its code. Assumes nothing.
use mathlib.Core.Bool.{Bool, true, false, cond, not, ◌&&◌}
use mathlib.Core.List.{List, [], ◌∷◌}
use mathlib.Core.Path.{◌≡◌, refl, sym, ◌∙◌}
use lib.Dec.{eqb}
use borrow.Author.Tests.{not-true}
use Rattle.octets.proofs.Tests.{never, and-true}
use Rattle.message.specs.declared.codes.ReturnCode.{ReturnCode}
use Rattle.message.specs.Codes.{code_value}
use Rattle.message.proofs.Verdicts.{by-test, first-failed}
use Rattle.bank_verdicts.specs.Refusals.{Row}
use Rattle.bank_verdicts.specs.Judgement.{judged, test_of}

-- the test of every line fails
abbrev pub Fail : {A : Type 0} → List (Row A) → Type 0
Fail rows = (c : ReturnCode) → test_of c rows ≡ false

pub fail-both : {A : Type 0} (row : Row A) (rows : List (Row A)) → row.1 ≡ false → Fail rows → Fail (row ∷ rows)
fail-both row rows h f c =
    by-test (λ (t : Bool). t ≡ false) (eqb (code_value c) (code_value row.0)) (λ _. h) (λ _. f c)

-- for each line: what its verdict gives where its test holds and the tests of the lines above it fail
pub data Each {A : Type 0} (P : A → Type 0) : List (Row A) → List (Row A) → Type 0 where
  end : {above : List (Row A)} → Each P above []
  line : {above : List (Row A)} {row : Row A} {rows : List (Row A)} → (row.1 ≡ true → Fail above → P row.2) →
      Each P (row ∷ above) rows → Each P above (row ∷ rows)

module _ {A : Type 0} (P : A → Type 0) where
  judged-after : (above rows : List (Row A)) (other : A) → Fail above → Each P above rows → (Fail rows → P other) →
      P (judged rows other)
  judged-after above [] other f end k = k (λ c. refl)
  judged-after above (row ∷ rows) other f (line own rest) k =
      by-test P row.1 (λ h. own h f)
      (λ h. judged-after (row ∷ above) rows other (fail-both row above h f) rest (λ g. k (fail-both row rows h g)))

  -- a fact of the verdict, from what each line gives, and the last verdict where the test of every line fails
  pub judged-by : (rows : List (Row A)) (other : A) → Each P [] rows → (Fail rows → P other) → P (judged rows other)
  judged-by rows other each k = judged-after [] rows other (λ c. refl) each k

-- ---- verdicts of a kind, told by a test

-- every line gives such a verdict
abbrev pub all_rows : {A : Type 0} → (A → Bool) → List (Row A) → Bool
all_rows is [] = true
all_rows is (row ∷ rows) = is row.2 && all_rows is rows

-- no line gives such a verdict
abbrev pub no_row : {A : Type 0} → (A → Bool) → List (Row A) → Bool
no_row is rows = all_rows (λ v. not (is v)) rows

-- what holds of every such verdict holds of each line's
pub each-such : {A : Type 0} (P : A → Type 0) (is : A → Bool) → ((v : A) → is v ≡ true → P v) →
    (above rows : List (Row A)) → all_rows is rows ≡ true → Each P above rows
each-such P is f above [] h = end
each-such P is f above (row ∷ rows) h =
    let a = and-true (is row.2) (all_rows is rows) h in
    line (λ _ _. f row.2 a.0) (each-such P is f (row ∷ above) rows a.1)

-- the lines above the line with this code
abbrev pub lines_above : {A : Type 0} → ReturnCode → List (Row A) → List (Row A)
lines_above c [] = []
lines_above c (row ∷ rows) = cond (eqb (code_value c) (code_value row.0)) [] (row ∷ lines_above c rows)

module _ {A : Type 0} (is : A → Bool) where
  -- a verdict that no line gives, and the last one is not, is not given
  pub not-given : (rows : List (Row A)) (other : A) → no_row is rows ≡ true → is other ≡ false →
      is (judged rows other) ≡ false
  not-given rows other h e =
      judged-by (λ (v : A). is v ≡ false) rows other
      (each-such (λ (v : A). is v ≡ false) (λ (v : A). not (is v)) (λ v k. not-true (is v) k) [] rows h) (λ _. e)

  -- a verdict that no line gives is given only where the test of every line fails
  pub passed : (rows : List (Row A)) (other : A) → no_row is rows ≡ true → is (judged rows other) ≡ true → Fail rows
  passed rows other h =
      judged-by P rows other
      (each-such P (λ (v : A). not (is v)) (λ v k e. never (sym (not-true (is v) k) ∙ e)) [] rows h) (λ f _. f)
    where
      P : A → Type 0
      P v = is v ≡ true → Fail rows

  -- the line with this code alone gives such a verdict
  abbrev pub only_at : ReturnCode → List (Row A) → Bool
  only_at c [] = true
  only_at c (row ∷ rows) =
      cond (eqb (code_value c) (code_value row.0)) (no_row is rows) (not (is row.2) && only_at c rows)

  first-held : (t : Bool) (v w : A) → is w ≡ false → is (cond t v w) ≡ true → t ≡ true
  first-held true v w e h = refl
  first-held false v w e h = never (sym e ∙ h)

  -- a verdict that the line with this code alone gives is given only where its test holds and the tests of the lines
  -- above it fail
  pub held : (c : ReturnCode) (rows : List (Row A)) (other : A) → only_at c rows ≡ true → is other ≡ false →
      is (judged rows other) ≡ true → (test_of c rows ≡ true) × Fail (lines_above c rows)
  held c [] other h e k = never (sym e ∙ k)
  held c (row ∷ rows) other h e k = at (eqb (code_value c) (code_value row.0)) h (λ g j. held c rows other g e j)
    where
      at : (t : Bool) → cond t (no_row is rows) (not (is row.2) && only_at c rows) ≡ true →
          (only_at c rows ≡ true → is (judged rows other) ≡ true → (test_of c rows ≡ true) × Fail (lines_above c rows)) →
          (cond t row.1 (test_of c rows) ≡ true) × Fail (cond t [] (row ∷ lines_above c rows))
      at true h below = (first-held row.1 row.2 (judged rows other) (not-given rows other h e) k, λ d. refl)
      at false h below =
          let a = and-true (not (is row.2)) (only_at c rows) h in
          let b = first-failed is row.1 row.2 (judged rows other) (not-true (is row.2) a.0) k in
          let r = below a.1 b.1 in
          (r.0, fail-both row (lines_above c rows) b.0 r.1)
