-- What the loops that move numbers keep, over any places. Assumes nothing.
use Prim.Native.Nat.{ℕ, zero, suc, ◌+◌, ◌-◌, ◌*◌, ◌/◌, ◌%◌, ◌≤◌, ◌<◌}
use mathlib.Core.Bool.{true}
use mathlib.Core.List.{List, [], ◌∷◌, ◌++◌}
use mathlib.Core.Path.{◌≡◌, refl, sym, ap, ◌∙◌}
use native.Mathlib.Nat.{suc-mul}
use native.Mathlib.Omega.{arith}
use lib.Dec.{ltb}
use lib.ListN.{length, get_or, set, length-append, length-set}
use borrow.Author.Tests.{ltb-true}
use Rattle.octets.specs.Bytes.{overwrite}
use Rattle.octets.proofs.Tests.{and-true}
use Rattle.octets.proofs.Numbers.{length-overwrite, overwrite-overwrite, overwrite-set, overwrite-nil}
use Rattle.image_numbers.specs.declared.table.Group.{Group}
use Rattle.image_numbers.specs.Table.{
  group_at,
  part_places,
  record_places,
  records_from,
  group_places,
  groups_from,
  are_within,
}
use Rattle.image_numbers.specs.Numbers.{numbers_at}
use Rattle.image_numbers.proofs.Places.{length_at}

-- ---- places one after another

within-append : (n : ℕ) (a b : List ℕ) → are_within n (a ++ b) ≡ true → (are_within n a ≡ true) × (are_within n b ≡ true)
unfolding are_within
within-append n [] b h = (refl, h)
within-append n (p ∷ a) b h =
    let e = and-true (ltb p n) (are_within n (a ++ b)) h in
    let i = within-append n a b e.1 in
    (rw e.0 i.0, i.1)

at-append : (a b xs : List ℕ) → numbers_at (a ++ b) xs ≡ numbers_at a xs ++ numbers_at b xs
unfolding numbers_at
at-append [] b xs = refl
at-append (p ∷ a) b xs = rw (at-append a b xs)

length-parts : (n at parts : ℕ) → length (part_places n at parts) ≡ n
unfolding part_places
length-parts zero at parts = refl
length-parts (suc n) at parts = ap suc (length-parts n at (parts / 16))

pub length-record : (g : Group) (i : ℕ) → length (record_places g i) ≡ g.size
unfolding record_places
length-record g i = length-parts g.size (g.at + g.width * i) g.parts

length-records : (g : Group) (n i : ℕ) → length (records_from g n i) ≡ n * g.size
unfolding records_from
length-records g zero i = omega arith
length-records g (suc n) i =
    length-append (record_places g i) (records_from g n (i + 1))
    ∙ omega (arith, length-record g i, length-records g n (i + 1), suc-mul n g.size)

pub length-group : (g : Group) → length (group_places g) ≡ g.records * g.size
unfolding group_places
length-group g = length-records g g.records 0

-- ---- the first of those that are left

pub parts_next : (n m at parts : ℕ) → n ≡ suc m → part_places n at parts ≡ (at + parts % 16) ∷ part_places m at (parts / 16)
unfolding part_places
parts_next n m at parts e = rw e

pub records-next : (g : Group) (n m i : ℕ) → n ≡ suc m → records_from g n i ≡ record_places g i ++ records_from g m (i + 1)
unfolding records_from
records-next g n m i e = rw e

pub groups-next : (n m i : ℕ) → n ≡ suc m → groups_from n i ≡ group_places (group_at i) ++ groups_from m (i + 1)
unfolding groups_from
groups-next n m i e = rw e

-- none is left

pub parts_none : (n at parts : ℕ) → n ≡ 0 → part_places n at parts ≡ []
unfolding part_places
parts_none n at parts e = rw e

pub records-none : (g : Group) (n i : ℕ) → n ≡ 0 → records_from g n i ≡ []
unfolding records_from
records-none g n i e = rw e

pub groups_none : (n i : ℕ) → n ≡ 0 → groups_from n i ≡ []
unfolding groups_from
groups_none n i e = rw e

-- ---- moving

-- the places left, the numbers there, and what they are written over from a place on
pub record Moving (rest from out : List ℕ) (at size : ℕ) (goal : List ℕ) : Type 0 where
  pub within : are_within (length from) rest ≡ true
  pub room : at + length rest ≤ length out
  pub long : length out ≡ size
  pub same : goal ≡ overwrite out at (numbers_at rest from)

module _ {rest from out : List ℕ} {at size : ℕ} {goal : List ℕ} (m : Moving rest from out at size goal) where
  module _ (ps qs : List ℕ) (e : rest ≡ ps ++ qs) where
    parts_within : (are_within (length from) ps ≡ true) × (are_within (length from) qs ≡ true)
    parts_within = within-append (length from) ps qs (rw e at m.within)

    pub moving-within : are_within (length from) ps ≡ true
    moving-within = parts_within.0

    pub moving-room : at + length ps + length qs ≤ length out
    moving-room = omega (arith, m.room, ap length e, length-append ps qs)

    pub moving-some : (k : ℕ) → length ps ≡ k → (more : List ℕ) → more ≡ overwrite out at (numbers_at ps from)
        → Moving qs from more (at + k) size goal
    moving-some k l more w =
        let n = length_at ps from in
        let o = length_at qs from in
        let r = moving-room in
        let d : length more ≡ length out = ap length w ∙ length-overwrite out at (numbers_at ps from) (omega arith) in
        record {
          within = parts_within.1;
          room = omega arith;
          long = d ∙ m.long;
          same = m.same ∙ ap (λ (t : List ℕ). overwrite out at (numbers_at t from)) e
              ∙ ap (overwrite out at) (at-append ps qs from)
              ∙ sym (rw w (overwrite-overwrite out at k (numbers_at ps from) (numbers_at qs from) (n ∙ l) (omega arith)));
        }

  module _ {p : ℕ} {qs : List ℕ} (e : rest ≡ p ∷ qs) where
    first-within : (ltb p (length from) ≡ true) × (are_within (length from) qs ≡ true)
    unfolding are_within
    first-within = and-true (ltb p (length from)) _ (rw e at m.within)

    pub moving-there : p < length from
    moving-there = ltb-true _ _ first-within.0

    pub moving-free : at + 1 + length qs ≤ length out
    moving-free = omega (arith, m.room, ap length e)

    pub moving-one : Moving qs from (set out at (get_or from p 0)) (at + 1) size goal
    unfolding numbers_at
    moving-one =
        let r = moving-free in
        record {
          within = first-within.1;
          room = simp length-set (omega arith);
          long = length-set out at (get_or from p 0) ∙ m.long;
          same = m.same ∙ ap (λ (t : List ℕ). overwrite out at (numbers_at t from)) e
              ∙ sym (overwrite-set out at (get_or from p 0) (numbers_at qs from) (omega arith));
        }

  pub moving-end : rest ≡ [] → out ≡ goal
  unfolding numbers_at
  moving-end e =
      sym (m.same ∙ ap (λ (t : List ℕ). overwrite out at (numbers_at t from)) e ∙ overwrite-nil out at)

-- ---- a record's numbers

module _ (at parts n : ℕ) {from out : List ℕ} {k size : ℕ} {goal : List ℕ} (m : Moving (part_places n at parts) from out k size goal) where
  module _ (h : 0 < n) where
    first_part : part_places n at parts ≡ (at + parts % 16) ∷ part_places (n - 1) at (parts / 16)
    first_part = parts_next n (n - 1) at parts (omega arith)

    pub part-there : at + parts % 16 < length from
    part-there = moving-there m first_part

    pub part_free : k < length out
    part_free = omega (arith, moving-free m first_part)

    pub part_moved : Moving (part_places (n - 1) at (parts / 16)) from (set out k (get_or from (at + parts % 16) 0)) (k + 1) size goal
    part_moved = moving-one m first_part

  pub parts-moved : n ≡ 0 → out ≡ goal
  parts-moved e = moving-end m (parts_none n at parts e)

-- ---- a group's records

module _ (g : Group) (i : ℕ) {from out : List ℕ} {k size : ℕ} {goal : List ℕ}
    (m : Moving (records_from g (g.records - i) i) from out k size goal) where
  module _ (h : i < g.records) where
    left : List ℕ
    left = records_from g (g.records - (i + 1)) (i + 1)

    first-record : records_from g (g.records - i) i ≡ record_places g i ++ left
    unfolding left
    first-record = records-next g (g.records - i) (g.records - (i + 1)) i (omega arith)

    pub record-there : are_within (length from) (record_places g i) ≡ true
    record-there = moving-within m (record_places g i) left first-record

    pub record-free : k + length (record_places g i) ≤ length out
    record-free = omega (arith, moving-room m (record_places g i) left first-record)

    pub record-moved : (more : List ℕ) → more ≡ overwrite out k (numbers_at (record_places g i) from)
        → Moving (records_from g (g.records - (i + 1)) (i + 1)) from more (k + g.size) size goal
    unfolding left
    record-moved = moving-some m (record_places g i) left first-record g.size (length-record g i)

  pub records-moved : g.records ≤ i → out ≡ goal
  records-moved h = moving-end m (records-none g (g.records - i) i (omega arith))

-- ---- the groups

module _ (end i : ℕ) {from out : List ℕ} {k size : ℕ} {goal : List ℕ}
    (m : Moving (groups_from (end - i) i) from out k size goal) where
  module _ (h : i < end) (g : Group) (is : g ≡ group_at i) where
    behind : List ℕ
    behind = groups_from (end - (i + 1)) (i + 1)

    first_group : groups_from (end - i) i ≡ group_places g ++ behind
    unfolding behind
    first_group = rw is (groups-next (end - i) (end - (i + 1)) i (omega arith))

    pub group-there : are_within (length from) (group_places g) ≡ true
    group-there = moving-within m (group_places g) behind first_group

    pub group-free : k + length (group_places g) ≤ length out
    group-free = omega (arith, moving-room m (group_places g) behind first_group)

    pub group-moved : (more : List ℕ) → more ≡ overwrite out k (numbers_at (group_places g) from)
        → Moving (groups_from (end - (i + 1)) (i + 1)) from more (k + g.records * g.size) size goal
    unfolding behind
    group-moved = moving-some m (group_places g) behind first_group (g.records * g.size) (length-group g)

  pub groups-moved : end ≤ i → out ≡ goal
  groups-moved h = moving-end m (groups_none (end - i) i (omega arith))
