-- Laws of the numbers at some places, and what the tables' places are, by computation. Assumes nothing.
use Prim.Native.Nat.{ℕ, zero, suc, ◌<◌}
use mathlib.Core.Bool.{Bool, true}
use mathlib.Core.List.{List, [], ◌∷◌, ◌++◌}
use mathlib.Core.Path.{◌≡◌, refl, ◌∙◌}
use native.Mathlib.Omega.{arith}
use lib.Dec.{eqb, ltb}
use lib.ListN.{length, get_or, length-map, get_or-append}
use borrow.Author.Tests.{eqb-true, ltb-true}
use Rattle.octets.proofs.Tests.{and-true}
use Rattle.bank_rows.specs.Rows.{all_below}
use Rattle.bank_rows.proofs.Tests.{all-holds}
use Rattle.bank_session.specs.Session.{counts_at, session_size}
use Rattle.image_records.specs.Layout.{journal_at, number_count}
use Rattle.image_numbers.specs.Table.{
  group_at,
  part_places,
  record_places,
  group_places,
  records_from,
  groups_from,
  session_places,
  image_places,
  are_within,
}
use Rattle.image_numbers.specs.Numbers.{numbers_at}

-- ---- the numbers at some places

pub length_at : (ps xs : List ℕ) → length (numbers_at ps xs) ≡ length ps
unfolding numbers_at
length_at ps xs = length-map ps (λ (k : ℕ). get_or xs k 0)

pub number_at : (ps xs : List ℕ) (i : ℕ) → i < length ps → get_or (numbers_at ps xs) i 0 ≡ get_or xs (get_or ps i 0) 0
unfolding numbers_at
number_at [] xs i h = absurd (omega arith)
number_at (p ∷ ps) xs zero h = refl
number_at (p ∷ ps) xs (suc i) h = number_at ps xs i (omega arith)

pub number-before : (ps xs r : List ℕ) (i : ℕ) → i < length ps
    → get_or (numbers_at ps xs ++ r) i 0 ≡ get_or xs (get_or ps i 0) 0
number-before ps xs r i h =
    get_or-append (numbers_at ps xs) r 0 i (rw (length_at ps xs) h) ∙ number_at ps xs i h

-- numbers at places among numbers at places
module _ (qs xs ys : List ℕ) (same : (p : ℕ) → p < length qs → get_or ys p 0 ≡ get_or xs (get_or qs p 0) 0) where
  pub at_places : (ps : List ℕ) → are_within (length qs) ps ≡ true
      → numbers_at ps ys ≡ numbers_at (numbers_at ps qs) xs
  unfolding numbers_at are_within
  at_places [] h = refl
  at_places (p ∷ ps) h =
      let a = and-true (ltb p (length qs)) _ h in
      rw (same p (ltb-true p (length qs) a.0), at_places ps a.1)

-- ---- the places of the tables

pub length-session : length session_places ≡ journal_at
unfolding session_places groups_from group_places records_from record_places part_places group_at
length-session = refl

pub length-image : length image_places ≡ counts_at
unfolding image_places groups_from group_places records_from record_places part_places group_at
length-image = refl

pub session-within : are_within session_size session_places ≡ true
unfolding session_places groups_from group_places records_from record_places part_places group_at are_within
session-within = refl

pub session-inside : are_within counts_at session_places ≡ true
unfolding session_places groups_from group_places records_from record_places part_places group_at are_within
session-inside = refl

pub image-within : are_within journal_at image_places ≡ true
unfolding image_places groups_from group_places records_from record_places part_places group_at are_within
image-within = refl

pub image-inside : are_within number_count image_places ≡ true
unfolding image_places groups_from group_places records_from record_places part_places group_at are_within
image-inside = refl

-- the session's place of an image's number is that number's again
there : ℕ → Bool
there i = eqb (get_or (numbers_at session_places image_places) i 0) i

all_there : all_below there journal_at ≡ true
unfolding
    there all_below numbers_at session_places image_places groups_from group_places records_from record_places part_places group_at
all_there = refl

pub image-there : (i : ℕ) → i < journal_at → get_or (numbers_at session_places image_places) i 0 ≡ i
unfolding there
image-there i h = eqb-true _ _ (all-holds there journal_at all_there i h)

-- the place where a session's number stands again
unfoldable pub again : ℕ → ℕ
again i = get_or (numbers_at image_places session_places) i 0

back : ℕ → Bool
back i = eqb (again i) i

all_back : all_below back counts_at ≡ true
unfolding
    back again all_below numbers_at session_places image_places groups_from group_places records_from record_places part_places group_at
all_back = refl

pub session-back : (i : ℕ) → i < counts_at → again i ≡ i
unfolding back
session-back i h = eqb-true _ _ (all-holds back counts_at all_back i h)
