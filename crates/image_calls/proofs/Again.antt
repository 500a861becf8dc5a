-- An image that a session was put away in gives back that session, into whatever memory it is taken up: so it gives the
-- bank, the journal and the counts that the session was. Assumes nothing.
use Rattle.std.specs.Prelude.{Err, Ok}
use Rattle.std.specs.Prelude.{◌≡◌, ℕ, Bool, true, false, cond, ◌&&◌, leb, List, length, take}
use mathlib.Core.Path.{refl, ap}
use native.Mathlib.Omega.{arith}
use Rattle.octets.specs.Bytes.{overwrite}
use Rattle.journal.specs.Row.{Journal}
use Rattle.bank_state.specs.State.{BankState}
use Rattle.bank_steps.specs.Lent.{state_of}
use Rattle.opening_counts.specs.declared.seven.Counts.{Counts}
use Rattle.bank_session.specs.Session.{LentSession, bank_in, journal_in, counts_in}
use Rattle.image.specs.declared.codec.ImageRefusal.TheVariants as refusal
use Rattle.image_calls.specs.Calls.{
  image_length,
  image_in,
  lengths_right,
  is_admitted,
  put_away_of,
  put_away,
  TakeUp,
  take_up_of,
  take_up,
  is_admitted_image,
  session_from,
}
use Rattle.image_calls.proofs.Theorems.{put-away-taken-up}

-- a writing given no number has written the image
put-answered : (m : LentSession) (buffer : List ℕ) → (put_away m buffer).number ≡ 0 →
    (put_away m buffer).answer ≡ Ok image_length
unfolding put_away
put-answered m buffer = at (lengths_right m && leb image_length (length buffer)) (is_admitted m)
  where
    at : (b c : Bool) →
        let k = cond b
        (cond c (put_away_of (Ok image_length) (overwrite buffer 0 (image_in m))) (put_away_of (Err refusal.NotAdmitted) buffer))
        (put_away_of (Err refusal.WrongLength) buffer) in
        k.number ≡ 0 → k.answer ≡ Ok image_length
    at true true z = refl
    at true false z = absurd (omega arith)
    at false c z = absurd (omega arith)

-- what is put away is taken up, into any memory of its lengths
pub put-taken : (m : LentSession) (buffer : List ℕ) → (put_away m buffer).number ≡ 0 → (n : LentSession) →
    lengths_right n ≡ true → take_up n (take image_length (put_away m buffer).buffer) ≡ take_up_of (Ok tt) m
put-taken m buffer z n long = put-away-taken-up m buffer image_length (put-answered m buffer z) n long

-- a taking up given no number was lent a session of its lengths
taken-long : (n : LentSession) (image : List ℕ) → (take_up n image).number ≡ 0 → lengths_right n ≡ true
unfolding take_up
taken-long n image = at (lengths_right n) refl
  where
    at : (b : Bool) → lengths_right n ≡ b →
        (cond b (cond (is_admitted_image image) (take_up_of (Ok tt) (session_from image)) (take_up_of (Err refusal.NotAdmitted) n))
        (take_up_of (Err refusal.WrongLength) n)).number ≡ 0 → lengths_right n ≡ true
    at true e z = e
    at false e z = absurd (omega arith)

-- whoever takes the image up has this bank, this journal and these counts
abbrev pub Resumes : BankState → Journal → Counts → List ℕ → Type 0
Resumes w j c image = (n : LentSession) → (take_up n image).number ≡ 0 →
    (state_of (bank_in (take_up n image).session) ≡ w) × (journal_in (take_up n image).session ≡ j)
    × (counts_in (take_up n image).session.rows ≡ c)

pub put-resumes : (m : LentSession) (buffer : List ℕ) → (put_away m buffer).number ≡ 0 →
    Resumes (state_of (bank_in m)) (journal_in m) (counts_in m.rows) (take image_length (put_away m buffer).buffer)
put-resumes m buffer z n y =
    let image = take image_length (put_away m buffer).buffer in
    let e = ap (λ (k : TakeUp). k.session) (put-taken m buffer z n (taken-long n image y)) in
    (ap (λ (x : LentSession). state_of (bank_in x)) e, ap journal_in e, ap (λ (x : LentSession). counts_in x.rows) e)
