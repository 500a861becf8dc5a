-- What taking up answers and leaves, case by case. Assumes nothing.
use Rattle.image.specs.declared.codec.ImageRefusal.{ImageRefusal}
use Rattle.std.specs.Prelude.{Err, Ok, Result}
use Rattle.std.specs.Prelude.{◌≡◌, ℕ, ◌+◌, ◌-◌, ◌≤◌, Bool, true, false, cond, List, [], length, get_or, take, drop}
use mathlib.Core.Path.{refl, sym, ap, ◌∙◌}
use native.Mathlib.Omega.{arith}
use borrow.Author.Tests.{eq-eqb}
use Rattle.octets.proofs.Tests.{and-true}
use Rattle.journal.specs.declared.event.Event.{Event}
use Rattle.journal.specs.Events.{record_count}
use Rattle.journal.specs.Row.{replaced}
use Rattle.bank_session.specs.Session.{LentSession, session}
use Rattle.image.specs.declared.table.Sizes.{Sizes}
use Rattle.image.specs.declared.codec.ImageRefusal.TheVariants as refusal
use Rattle.image.specs.Items.{image_items, image_sizes}
use Rattle.image.specs.Image as codec
use Rattle.image.proofs.Calls.{stores-are-parts, parts_within, image-long}
use Rattle.image_records.specs.Layout.{number_count}
use Rattle.image_conditions.specs.Conditions as list
use Rattle.image_numbers.specs.Numbers.{rows_from, row_from}
use Rattle.image_calls.specs.Calls.{
  lengths_right,
  numbers_from,
  store_from,
  is_admitted_image,
  session_from,
  take_up_of,
  take_up,
}
use Rattle.image_calls.proofs.Tests.{numbers-size, lengths-right}

-- ---- the stores in an image

pub places-within : (f : Sizes) → f ≡ image_sizes
    → (f.orders + f.store ≤ image_sizes.image) × (f.mailboxes + f.store ≤ image_sizes.image)
places-within f ef = rw ef parts_within

module _ (s : List ℕ) where
  store_at_lem : (n : ℕ) → store_from n s ≡ get_or (codec.parts_of s) n []
  unfolding store_from
  store_at_lem n = ap (λ (ss : List (List ℕ)). get_or ss n []) (stores-are-parts s)

  pub both-stores : codec.stores (store_from 0 s) (store_from 1 s) ≡ codec.stores_of image_items s
  both-stores = rw (store_at_lem 0, store_at_lem 1) (sym (stores-are-parts s))

  -- both stores, taken, are the image's
  pub stores-taken : (a b : List ℕ) → codec.stores a b ≡ codec.stores_of image_items s
      → (a ≡ store_from 0 s) × (b ≡ store_from 1 s)
  unfolding store_from
  stores-taken a b e = (ap (λ (ss : List (List ℕ)). get_or ss 0 []) e, ap (λ (ss : List (List ℕ)). get_or ss 1 []) e)

  module _ (f : Sizes) (ef : f ≡ image_sizes) where
    part-from : (at : ℕ) → take (at + f.store - at) (drop at s) ≡ take image_sizes.store (drop at s)
    part-from at =
        let e : at + f.store - at ≡ f.store = omega arith in
        ap (λ (n : ℕ). take n (drop at s)) (e ∙ ap (λ (x : Sizes). x.store) ef)

    pub parts-listed : (xs : List ℕ) (r : Bool)
        → r ≡ list.admitted xs (take (f.orders + f.store - f.orders) (drop f.orders s))
        (take (f.mailboxes + f.store - f.mailboxes) (drop f.mailboxes s))
        → r ≡ list.admitted xs (store_from 0 s) (store_from 1 s)
    parts-listed xs r q =
        let size = image_sizes.store in
        let o = part-from f.orders ∙ ap (λ (x : Sizes). take size (drop x.orders s)) ef in
        let b = part-from f.mailboxes ∙ ap (λ (x : Sizes). take size (drop x.mailboxes s)) ef in
        q ∙ rw (o, b, store_at_lem 0, store_at_lem 1)

-- ---- the numbers in an image

module _ (s xs ys : List ℕ) (a : Result (Unit {0}) ImageRefusal) (long : length xs ≡ number_count)
    (q : codec.took_numbers a ys ≡ codec.numbers_taken s xs) where
  abbrev IsImage : Bool
  IsImage = codec.is_image s

  abbrev TookBy : Bool → codec.TookNumbers
  TookBy t = cond t (codec.took_numbers (Ok tt) (numbers_from s)) (codec.took_numbers (Err refusal.NotAdmitted) xs)

  by-image : codec.took_numbers a ys ≡ TookBy IsImage
  unfolding codec.numbers_taken numbers_from
  by-image = q ∙ rw (eq-eqb (length xs) image_sizes.numbers (long ∙ sym numbers-size))

  done_at : a ≡ Ok tt → (t : Bool) → codec.took_numbers a ys ≡ TookBy t → (t ≡ true) × (ys ≡ numbers_from s)
  done_at d true p = (refl, ap (λ (o : codec.TookNumbers). o.numbers) p)
  done_at d false p =
      let k = ap (λ (o : codec.TookNumbers). o.answer) p in
      let z : ◌≡◌ {A = ℕ} 0 1 = cc in absurd (omega arith)

  other_at : (a ≡ Ok tt → ⊥) → (t : Bool) → codec.took_numbers a ys ≡ TookBy t → t ≡ false
  other_at n true p = absurd (n (ap (λ (o : codec.TookNumbers). o.answer) p))
  other_at n false p = refl

  numbers-done : a ≡ Ok tt → (IsImage ≡ true) × (ys ≡ numbers_from s)
  numbers-done d = done_at d IsImage by-image

  pub image-done : a ≡ Ok tt → length s ≡ image_sizes.image
  image-done d = image-long image_sizes refl s (numbers-done d).0

  -- the answer of the list is the answer for the image
  pub admitted-done : (d : a ≡ Ok tt) (r : Bool) → r ≡ list.admitted ys (store_from 0 s) (store_from 1 s)
      → (r ≡ is_admitted_image s) × (r ≡ true → ys ≡ numbers_from s)
  unfolding is_admitted_image
  admitted-done d r e =
      let n = numbers-done d in
      (e ∙ rw (n.0, n.1), λ k. n.1)

  pub admitted-other : (a ≡ Ok tt → ⊥) → (false ≡ is_admitted_image s) × (false ≡ true → ys ≡ numbers_from s)
  unfolding is_admitted_image
  admitted-other n =
      let e = other_at n IsImage by-image in
      (rw e, λ k. let z : ◌≡◌ {A = ℕ} 0 1 = cc in absurd (omega arith))

-- both tests of an admitted image
pub image-tests : (s : List ℕ) → is_admitted_image s ≡ true
    → (codec.is_image s ≡ true) × (list.admitted (numbers_from s) (store_from 0 s) (store_from 1 s) ≡ true)
unfolding is_admitted_image
image-tests s h = and-true (codec.is_image s) (list.admitted (numbers_from s) (store_from 0 s) (store_from 1 s)) h

pub admitted-long : (s : List ℕ) → is_admitted_image s ≡ true → length s ≡ image_sizes.image
admitted-long s h = image-long image_sizes refl s (image-tests s h).0

-- ---- the call

-- a row that is not taken stays
pub row_stays_lem : (taken : Bool) (held row : List Event) → taken ≡ false → replaced taken held row ≡ row
unfolding replaced
row_stays_lem taken held row e = rw e

pub row-taken : (taken : Bool) (held row : List Event) → taken ≡ true → length row ≡ record_count → replaced taken held row ≡ held
unfolding replaced
row-taken taken held row e h = rw (e, eq-eqb (length row) record_count h)

module _ (m : LentSession) (s : List ℕ) where
  pub up-lengths : lengths_right m ≡ false → take_up_of (Err refusal.WrongLength) m ≡ take_up m s
  unfolding take_up
  up-lengths h = rw h

  module _ (right : lengths_right m ≡ true) where
    pub up-not : is_admitted_image s ≡ false → take_up_of (Err refusal.NotAdmitted) m ≡ take_up m s
    unfolding take_up
    up-not h = rw (right, h)

    pub up_done : is_admitted_image s ≡ true → take_up_of (Ok tt) (session_from s) ≡ take_up m s
    unfolding take_up
    up_done h = rw (right, h)

-- nothing is taken up: the answer is told, and the row stays
pub refused-is : (rows orders mailboxes : List ℕ) (l held : List Event) (s : List ℕ) (answer told : Result (Unit {0}) ImageRefusal) (taken : Bool)
    → (answer ≡ told) × (taken ≡ false)
    → take_up_of told (session rows l orders mailboxes) ≡ take_up (session rows l orders mailboxes) s
    → take_up_of answer (session rows (replaced taken held l) orders mailboxes) ≡ take_up (session rows l orders mailboxes) s
refused-is rows orders mailboxes l held s answer told taken e q = rw (e.0, row_stays_lem taken held l e.1) q

-- the numbers of the image are put in their places
pub session-is : (s xs rows orders mailboxes : List ℕ) (row : List Event) → xs ≡ numbers_from s
    → rows ≡ rows_from xs → row ≡ row_from xs → orders ≡ store_from 0 s → mailboxes ≡ store_from 1 s
    → session rows row orders mailboxes ≡ session_from s
unfolding session_from
session-is s xs rows orders mailboxes row e p q a b = rw (p, q, a, b, e)

module _ (rows orders mailboxes : List ℕ) (l : List Event) (s : List ℕ)
    (right : lengths_right (session rows l orders mailboxes) ≡ true) (holds : is_admitted_image s ≡ true) where
  pub done-is : (xs rows' orders' mailboxes' : List ℕ) (held : List Event) → xs ≡ numbers_from s → rows' ≡ rows_from xs
      → held ≡ row_from xs → orders' ≡ store_from 0 s → mailboxes' ≡ store_from 1 s
      → take_up_of (Ok tt) (session rows' (replaced true held l) orders' mailboxes')
      ≡ take_up (session rows l orders mailboxes) s
  done-is xs rows' orders' mailboxes' held e p q a b =
      let m = session rows l orders mailboxes in
      rw (row-taken true held l refl (lengths-right m right).1, session-is s xs rows' orders' mailboxes' held e p q a b)
      (up_done m s right holds)
