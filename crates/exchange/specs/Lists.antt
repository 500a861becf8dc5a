-- At most one, and no repetition, of lists.
use mathlib.Core.List.{List, [], ◌∷◌, Memᴰ as In}

-- no place of the list but one has the property
pub data AtMostOne {A : Type 0} (P : A → Type 0) : List A → Type 0 where
  none : AtMostOne P []
  skip : {x : A} {l : List A} → (P x → ⊥) → AtMostOne P l → AtMostOne P (x ∷ l)
  only : {x : A} {l : List A} → ((y : A) → In y l → P y → ⊥) → AtMostOne P (x ∷ l)

-- no element of the list stands twice
pub data NoDup {A : Type 0} : List A → Type 0 where
  none : NoDup []
  more : {x : A} {l : List A} → (In x l → ⊥) → NoDup l → NoDup (x ∷ l)
