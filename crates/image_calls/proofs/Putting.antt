-- What putting away answers and leaves, case by case. Assumes nothing.
use Rattle.image.specs.declared.codec.ImageRefusal.{ImageRefusal}
use Rattle.std.specs.Prelude.{Err, Ok, Result}
use Rattle.std.specs.Prelude.{◌≡◌, ℕ, ◌<◌, ◌≤◌, Bool, true, false, cond, List, length}
use mathlib.Core.Path.{refl, sym, ap, ◌∙◌}
use borrow.Author.Tests.{le-leb, lt-leb}
use Rattle.octets.specs.Bytes.{overwrite}
use Rattle.journal.specs.declared.event.Event.{Event}
use Rattle.bank_session.specs.Session.{LentSession}
use Rattle.image.specs.declared.codec.ImageRefusal.TheVariants as refusal
use Rattle.image.specs.Items.{image_items}
use Rattle.image.specs.Image as codec
use Rattle.image_conditions.specs.Conditions as list
use Rattle.image_numbers.specs.Numbers.{numbers_in}
use Rattle.image_calls.specs.Calls.{
  image_length,
  numbers_of,
  image_in,
  lengths_right,
  is_admitted,
  put_away_of,
  away_of,
  put_away,
}
use Rattle.image_calls.proofs.Tests.{listed-lent}

module _ (m : LentSession) where
  pub not_listed : list.admitted (numbers_of m) m.orders m.mailboxes ≡ false → is_admitted m ≡ false
  unfolding is_admitted
  not_listed h = rw h

module _ (m : LentSession) (buffer : List ℕ) where
  pub away-lengths : lengths_right m ≡ false → put_away_of (Err refusal.WrongLength) buffer ≡ put_away m buffer
  unfolding put_away
  away-lengths h = rw h

  module _ (right : lengths_right m ≡ true) where
    pub away-short : length buffer < image_length → put_away_of (Err refusal.WrongLength) buffer ≡ put_away m buffer
    unfolding put_away
    away-short k = rw (right, lt-leb image_length (length buffer) k)

    module _ (room : image_length ≤ length buffer) where
      pub away-not : is_admitted m ≡ false → put_away_of (Err refusal.NotAdmitted) buffer ≡ put_away m buffer
      unfolding put_away
      away-not h = rw (right, le-leb image_length (length buffer) room, h)

      pub away-done : is_admitted m ≡ true
          → put_away_of (Ok image_length) (overwrite buffer 0 (image_in m)) ≡ put_away m buffer
      unfolding put_away
      away-done h = rw (right, le-leb image_length (length buffer) room, h)

      module _ (listed : list.admitted (numbers_of m) m.orders m.mailboxes ≡ true) where
        by_fits : (t : Bool) → codec.fits image_items (numbers_of m) ≡ t → is_admitted m ≡ t
        unfolding is_admitted
        by_fits t h = rw listed h

        codec-written : (t : Bool) → codec.fits image_items (numbers_of m) ≡ t
            → codec.written (numbers_of m) m.orders m.mailboxes buffer
            ≡ cond t (codec.wrote (Ok tt) (overwrite buffer 0 (image_in m))) (codec.wrote (Err refusal.NotAdmitted) buffer)
        unfolding codec.written image_in
        codec-written t h =
            rw (listed-lent (numbers_of m) m.orders m.mailboxes listed, le-leb image_length (length buffer) room, h)

        by_answer : (a : Result (Unit {0}) ImageRefusal) (d : List ℕ) (t : Bool) → codec.fits image_items (numbers_of m) ≡ t
            → codec.wrote a d ≡ cond t (codec.wrote (Ok tt) (overwrite buffer 0 (image_in m))) (codec.wrote (Err refusal.NotAdmitted) buffer)
            → put_away_of (away_of a) d ≡ put_away m buffer
        by_answer a d true h q =
            rw (ap (λ (o : codec.Wrote). o.answer) q, ap (λ (o : codec.Wrote). o.buffer) q) (away-done (by_fits true h))
        by_answer a d false h q =
            rw (ap (λ (o : codec.Wrote). o.answer) q, ap (λ (o : codec.Wrote). o.buffer) q) (away-not (by_fits false h))

        -- the codec writes the image where each number has its part's length
        pub away-written : (a : Result (Unit {0}) ImageRefusal) (d : List ℕ)
            → codec.wrote a d ≡ codec.written (numbers_of m) m.orders m.mailboxes buffer
            → (r : Result ℕ ImageRefusal) → r ≡ away_of a → put_away_of r d ≡ put_away m buffer
        away-written a d q r e =
            let t = codec.fits image_items (numbers_of m) in
            rw e (by_answer a d t refl (q ∙ codec-written t refl))

-- the numbers are gathered from the row by value, which is the session's
module _ (rows orders mailboxes : List ℕ) (row l : List Event) (xs : List ℕ) (gathered : xs ≡ numbers_in rows row)
    (same : row ≡ l) where
  pub told-listed : (r : Bool) → r ≡ list.admitted xs orders mailboxes → (t : Bool) → r ≡ t
      → list.admitted (numbers_in rows l) orders mailboxes ≡ t
  told-listed r e t h = sym (e ∙ rw (gathered, same)) ∙ h

  pub told-written : (a : Result (Unit {0}) ImageRefusal) (d buffer : List ℕ) → codec.wrote a d ≡ codec.written xs orders mailboxes buffer
      → codec.wrote a d ≡ codec.written (numbers_in rows l) orders mailboxes buffer
  told-written a d buffer e = e ∙ rw (gathered, same)
