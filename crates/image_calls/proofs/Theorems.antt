-- Cards 2, 11 and 12: what is put away is taken up again, equal sessions give equal bytes and only such bytes are accepted,
-- older images get number 9, and what is refused changes nothing. Assumes nothing.
use Rattle.std.specs.Prelude.{Err, Ok}
use Rattle.std.specs.Prelude.{◌≡◌, ℕ, ◌<◌, ◌≤◌, Bool, true, false, cond, ◌&&◌, leb, List, [], ◌++◌, length, get_or, take, drop}
use mathlib.Core.Path.{refl, sym, ap, ◌∙◌}
use native.Mathlib.Nat.{zero-add}
use native.Mathlib.Omega.{arith}
use lib.Seq.{take_at}
use borrow.Author.Tests.{leb-true}
use Rattle.octets.specs.Bytes.{Bytes, overwrite}
use Rattle.octets.proofs.Tests.{and-true}
use Rattle.bank_state.specs.Limits.{store_bytes}
use Rattle.bank_session.specs.Session.{LentSession}
use Rattle.image.specs.Table.{form_number}
use Rattle.image.specs.Items.{image_items, image_sizes}
use Rattle.image.specs.Image as codec
use Rattle.image.proofs.Calls.{taken-done}
use Rattle.image.proofs.FormNumber.{form-number}
use Rattle.image.proofs.Theorems as image
use Rattle.image_records.specs.Layout.{number_count}
use Rattle.image_conditions.specs.Conditions as list
use Rattle.image_numbers.proofs.Laws as numbers
use Rattle.image.specs.declared.codec.ImageRefusal.TheVariants as refusal
use Rattle.image_calls.specs.Calls.{
  image_length,
  numbers_of,
  image_in,
  lengths_right,
  is_admitted,
  PutAway,
  put_away_of,
  put_away,
  TakeUp,
  take_up_of,
  take_up,
  numbers_from,
  store_from,
  is_admitted_image,
  session_from,
}
use Rattle.image_calls.proofs.Tests.{lengths-right, right-lengths, listed-sizes, listed-lent, listed-kinds}
use Rattle.image_calls.proofs.Putting.{away-done}
use Rattle.image_calls.proofs.Taking.{both-stores, image-tests, up-not, up_done}

-- "131,920"
pub image-of-131920-bytes : image_length ≡ 131920
image-of-131920-bytes = (image.image-is).0

over-front : (d xs : List ℕ) (n : ℕ) → length xs ≡ n → overwrite d 0 xs ≡ xs ++ drop n d
unfolding overwrite
over-front d xs n e = ap (λ (k : ℕ). xs ++ drop k d) (zero-add (length xs) ∙ e)

-- ---- a session of the list

module _ (m : LentSession) (right : lengths_right m ≡ true) (holds : is_admitted m ≡ true) where
  tests : (list.admitted (numbers_of m) m.orders m.mailboxes ≡ true)
      × (codec.fits image_items (numbers_of m) ≡ true)
  unfolding is_admitted
  tests =
      and-true (list.admitted (numbers_of m) m.orders m.mailboxes) (codec.fits image_items (numbers_of m))
      holds

  as-numbers : image.Session (numbers_of m) m.orders m.mailboxes
  as-numbers = (listed-lent (numbers_of m) m.orders m.mailboxes tests.0, tests.1)

  numbers-again : numbers_from (image_in m) ≡ numbers_of m
  unfolding numbers_from image_in codec.image_of
  numbers-again = image.numbers-back (numbers_of m) m.orders m.mailboxes as-numbers

  stores-again : (store_from 0 (image_in m) ≡ m.orders) × (store_from 1 (image_in m) ≡ m.mailboxes)
  unfolding store_from image_in codec.image_of
  stores-again =
      let e = image.stores_back (numbers_of m) m.orders m.mailboxes as-numbers in
      (ap (λ (ss : List (List ℕ)). get_or ss 0 []) e, ap (λ (ss : List (List ℕ)). get_or ss 1 []) e)

  pub image-long : length (image_in m) ≡ image_length
  unfolding image_in
  image-long = image.image-length (numbers_of m) m.orders m.mailboxes as-numbers

  is-image : codec.is_image (image_in m) ≡ true
  unfolding image_in
  is-image = image.image-accepted (numbers_of m) m.orders m.mailboxes as-numbers

  -- "the full list [...] admits every image written"
  pub image-admitted : is_admitted_image (image_in m) ≡ true
  unfolding is_admitted_image
  image-admitted = rw (is-image, numbers-again, stores-again.0, stores-again.1) tests.0

  pub session-again : session_from (image_in m) ≡ m
  unfolding session_from
  session-again =
      let sizes = lengths-right m right in
      rw (
        numbers-again,
        stores-again.0,
        stores-again.1,
        numbers.rows_back m.rows m.row sizes.0 sizes.1,
        numbers.row_back m.rows m.row sizes.1,
      )

  -- "taking up gives back the session written, whatever stood there"
  pub taken_back : (n : LentSession) → lengths_right n ≡ true → take_up n (image_in m) ≡ take_up_of (Ok tt) m
  taken_back n k = sym (up_done n (image_in m) k image-admitted) ∙ ap (take_up_of (Ok tt)) session-again

  -- "in a lent buffer, bytes behind them untouched"
  pub session-written : (buffer : List ℕ) → image_length ≤ length buffer
      → put_away m buffer ≡ put_away_of (Ok image_length) (image_in m ++ drop image_length buffer)
  session-written buffer k =
      sym (away-done m buffer right k holds)
      ∙ ap (put_away_of (Ok image_length)) (over-front buffer (image_in m) image_length image-long)

-- "equal sessions give equal bytes"
pub equal-sessions : (m n : LentSession) → m ≡ n → image_in m ≡ image_in n
equal-sessions m n e = ap image_in e

-- and different ones different bytes
pub equal-bytes : (m n : LentSession) → lengths_right m ≡ true → is_admitted m ≡ true → lengths_right n ≡ true
    → is_admitted n ≡ true → image_in m ≡ image_in n → m ≡ n
equal-bytes m n a b c d e = sym (session-again m a b) ∙ ap session_from e ∙ session-again n c d

-- ---- the answers of putting away

module _ (m : LentSession) (buffer : List ℕ) where
  abbrev AwayBy : Bool → Bool → PutAway
  AwayBy t u =
      cond t
      (cond u (put_away_of (Ok image_length) (overwrite buffer 0 (image_in m))) (put_away_of (Err refusal.NotAdmitted) buffer))
      (put_away_of (Err refusal.WrongLength) buffer)

  unchanged-by : (t u : Bool) → ((AwayBy t u).number ≡ 0 → ⊥) → (AwayBy t u).buffer ≡ buffer
  unchanged-by true true h = absurd (h refl)
  unchanged-by true false h = refl
  unchanged-by false u h = refl

  -- what is refused, with number 1 or 9, changes nothing
  pub refused-away : ((put_away m buffer).number ≡ 0 → ⊥) → (put_away m buffer).buffer ≡ buffer
  unfolding put_away
  refused-away h = unchanged-by (lengths_right m && leb image_length (length buffer)) (is_admitted m) h

  done-by : (t u : Bool) (k : ℕ) → (AwayBy t u).answer ≡ Ok k → (t ≡ true) × (u ≡ true) × (k ≡ image_length)
  done-by true true k e = (refl, refl, (cc))
  done-by true false k e = let z : ◌≡◌ {A = ℕ} 0 1 = cc in absurd (omega arith)
  done-by false u k e = let z : ◌≡◌ {A = ℕ} 0 1 = cc in absurd (omega arith)

  -- a session that is put away has its lengths and is one of the list
  pub put-away-done : (k : ℕ) → (put_away m buffer).answer ≡ Ok k
      → (lengths_right m ≡ true) × (image_length ≤ length buffer) × (is_admitted m ≡ true) × (k ≡ image_length)
  unfolding put_away
  put-away-done k e =
      let d = done-by (lengths_right m && leb image_length (length buffer)) (is_admitted m) k e in
      let p = and-true (lengths_right m) (leb image_length (length buffer)) d.0 in
      (p.0, leb-true image_length (length buffer) p.1, d.1, d.2)

  -- and is what taking up the bytes written leaves
  pub put-away-taken-up : (k : ℕ) → (put_away m buffer).answer ≡ Ok k → (n : LentSession) → lengths_right n ≡ true
      → take_up n (take k (put_away m buffer).buffer) ≡ take_up_of (Ok tt) m
  put-away-taken-up k e n h =
      let d = put-away-done k e in
      let w = ap (λ (o : PutAway). o.buffer) (session-written m d.0 d.2 buffer d.1) in
      let front : take k (put_away m buffer).buffer ≡ image_in m =
      ap (take k) w ∙ take_at (image_in m) (drop image_length buffer) k (image-long m d.0 d.2 ∙ sym d.3) in
      ap (take_up n) front ∙ taken_back m d.0 d.2 n h

-- ---- an admitted image

module _ (s : List ℕ) (holds : is_admitted_image s ≡ true) where
  abbrev xs : List ℕ
  xs = numbers_from s

  image-listed : list.admitted xs (store_from 0 s) (store_from 1 s) ≡ true
  image-listed = (image-tests s holds).1

  image-sizes : (length xs ≡ number_count) × (length (store_from 0 s) ≡ store_bytes) × (length (store_from 1 s) ≡ store_bytes)
  image-sizes = listed-sizes xs (store_from 0 s) (store_from 1 s) image-listed

  pub session-lengths : lengths_right (session_from s) ≡ true
  unfolding session_from
  session-lengths =
      right-lengths (session_from s) (numbers.length-rows_from xs) (numbers.length-row_from xs) image-sizes.1
      image-sizes.2

  session-numbers : numbers_of (session_from s) ≡ xs
  unfolding session_from
  session-numbers =
      numbers.numbers-back xs image-sizes.0 (listed-kinds xs (store_from 0 s) (store_from 1 s) image-listed)

  read : codec.taken s xs (store_from 0 s) (store_from 1 s) ≡ codec.took (Ok tt) xs (codec.stores (store_from 0 s) (store_from 1 s))
  unfolding numbers_from
  read =
      sym (taken-done image_sizes refl xs (store_from 0 s) (store_from 1 s) s
      (listed-lent xs (store_from 0 s) (store_from 1 s) image-listed) (image-tests s holds).0 xs _ refl (both-stores s))

  module _ (bytes : Bytes s) where
    -- what is taken up is a session of the list
    pub session-listed : is_admitted (session_from s) ≡ true
    unfolding is_admitted session_from
    session-listed =
        rw (session-numbers, image-listed)
        (image.session-read s xs (store_from 0 s) (store_from 1 s) xs (store_from 0 s) (store_from 1 s) read bytes).1

    -- and writes the image again
    pub session-image : image_in (session_from s) ≡ s
    unfolding image_in session_from
    session-image =
        rw session-numbers
        (image.write-back s xs (store_from 0 s) (store_from 1 s) xs (store_from 0 s) (store_from 1 s) read bytes)

-- ---- the answers of taking up

module _ (m : LentSession) (s : List ℕ) where
  abbrev UpBy : Bool → Bool → TakeUp
  UpBy t u =
      cond t (cond u (take_up_of (Ok tt) (session_from s)) (take_up_of (Err refusal.NotAdmitted) m)) (take_up_of (Err refusal.WrongLength) m)

  stays_by : (t u : Bool) → ((UpBy t u).number ≡ 0 → ⊥) → (UpBy t u).session ≡ m
  stays_by true true h = absurd (h refl)
  stays_by true false h = refl
  stays_by false u h = refl

  -- "and leaves the session unchanged"
  pub refused-up : ((take_up m s).number ≡ 0 → ⊥) → (take_up m s).session ≡ m
  unfolding take_up
  refused-up h = stays_by (lengths_right m) (is_admitted_image s) h

  not-image : (t : Bool) → codec.is_image s ≡ t → (t ≡ true → ⊥) → is_admitted_image s ≡ false
  unfolding is_admitted_image
  not-image true e n = absurd (n refl)
  not-image false e n = rw e

  -- "Any other form's number is number 9", so "older images get number 9"
  pub other-form : Bytes s → lengths_right m ≡ true → (get_or s 3 0 ≡ form_number → ⊥)
      → take_up m s ≡ take_up_of (Err refusal.NotAdmitted) m
  other-form bytes right other =
      sym (up-not m s right (not-image (codec.is_image s) refl (λ e. other (form-number s bytes e))))

  -- those of cards 2, 3, 5, 6, 8 and 11
  pub older-refused : Bytes s → lengths_right m ≡ true → get_or s 3 0 < form_number → take_up m s ≡ take_up_of (Err refusal.NotAdmitted) m
  older-refused bytes right older = other-form bytes right (λ e. omega (arith, older, e))

  taken-by : (t u : Bool) → (UpBy t u).answer ≡ Ok tt → (t ≡ true) × (u ≡ true) × ((UpBy t u).session ≡ session_from s)
  taken-by true true e = (refl, refl, refl)
  taken-by true false e = let z : ◌≡◌ {A = ℕ} 0 1 = cc in absurd (omega arith)
  taken-by false u e = let z : ◌≡◌ {A = ℕ} 0 1 = cc in absurd (omega arith)

  module _ (done : (take_up m s).answer ≡ Ok tt) where
    pub take-up-done : (lengths_right m ≡ true) × (is_admitted_image s ≡ true) × ((take_up m s).session ≡ session_from s)
    unfolding take_up
    take-up-done = taken-by (lengths_right m) (is_admitted_image s) done

    -- "only such bytes": a session of the list, which writes them
    pub written_back : Bytes s → (lengths_right (take_up m s).session ≡ true) × (is_admitted (take_up m s).session ≡ true)
        × (image_in (take_up m s).session ≡ s)
    written_back bytes =
        let d = take-up-done in
        rw d.2 (session-lengths s d.1, session-listed s d.1 bytes, session-image s d.1 bytes)
