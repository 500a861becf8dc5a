-- Laws of histories: what one exchange more says of its own transaction and of the others.
use Prim.Native.Nat.{ℕ, suc, ◌<◌}
use mathlib.Core.Bool.{Bool, true, false, cond, ◌&&◌}
use mathlib.Core.List.{List, [], ◌∷◌, ◌++◌}
use mathlib.Core.Path.{◌≡◌, refl, sym, ap, ◌∙◌}
use native.Mathlib.Omega.{arith}
use lib.Dec.{eqb}
use borrow.Author.Tests.{eq-eqb, ne_eqb}
use Rattle.frame_table.specs.declared.fields.Bits128.{Bits128}
use Rattle.frame_table.specs.Names.{same_bits}
use Rattle.octets.proofs.Tests.{never, and-true, or-neither}
use Rattle.frame_table.proofs.Bits.{bits-same}
use Rattle.bank_verdicts.specs.declared.verdict.UploadAction.TheVariants as up
use Rattle.bank_verdicts.specs.declared.verdict.Action.{Action}
use Rattle.bank_verdicts.specs.declared.verdict.Action.TheVariants as action
use Rattle.bank_verdicts.specs.declared.verdict.Verdict.{Verdict}
use Rattle.bank_verdicts.specs.declared.verdict.Verdict.TheVariants as verdict
use Rattle.bank_history.specs.History.{Exchange, is_action, is_taking, is_booking, is_opening, is_upload_opening, is_download_opening, opens, accepts_upload, accepted, own_numbering, did, ever, times, received, at_opening}

-- ---- transaction IDs

pub same_bits_lem : (t : Bits128) → same_bits t t ≡ true
same_bits_lem t = rw (eq-eqb t.high t.high refl, eq-eqb t.low t.low refl)

pub and_no : (a : Bool) → a && false ≡ false
and_no true = refl
and_no false = refl

pub other-bits : (t u : Bits128) → (t.low ≡ u.low → ⊥) → same_bits t u ≡ false
other-bits t u h = rw (ne_eqb t.low u.low h) (and_no (eqb t.high u.high))

-- ---- one exchange more

pub did_none : (f : Action → Bool) (t : Bits128) (v : Verdict) → did is_action t v ≡ false → did f t v ≡ false
did_none f t verdict.Unreadable h = refl
did_none f t (verdict.Refused c) h = refl
did_none f t (verdict.Signed n added) h = refl
did_none f t (verdict.Of u k) h = at (same_bits t u) h
  where
    at : (b : Bool) → b && true ≡ false → b && f k ≡ false
    at true g = never (sym g)
    at false g = refl

pub did-same : (f : Action → Bool) (t : Bits128) (k : Action) → did f t (verdict.Of t k) ≡ f k
did-same f t k = rw (same_bits_lem t)

pub did-other : (t u : Bits128) (k : Action) → (t.low ≡ u.low → ⊥) → did is_action t (verdict.Of u k) ≡ false
did-other t u k h = rw (other-bits t u h)

-- an exchange that is not of t
module _ (t : Bits128) (x : Exchange) (h : List Exchange) (none : did is_action t x.verdict ≡ false) where
  pub ever-other : (f : Action → Bool) → ever f t (x ∷ h) ≡ ever f t h
  unfolding ever
  ever-other f = rw (did_none f t x.verdict none)

  pub times-other : (f : Action → Bool) → times f t (x ∷ h) ≡ times f t h
  unfolding times
  times-other f = rw (did_none f t x.verdict none)

  pub received-other : received t (x ∷ h) ≡ received t h
  unfolding received
  received-other = rw (did_none is_taking t x.verdict none)

  pub opening-other : {A : Type 0} (g : Exchange → A) (d : A) → at_opening g d t (x ∷ h) ≡ at_opening g d t h
  unfolding at_opening
  opening-other g d = rw (did_none is_opening t x.verdict none)

-- an exchange that is of t
module _ (t : Bits128) (k : Action) (x : Exchange) (h : List Exchange) (own : x.verdict ≡ verdict.Of t k) where
  own-did : (f : Action → Bool) → did f t x.verdict ≡ f k
  own-did f = ap (did f t) own ∙ did-same f t k

  pub ever-own : (f : Action → Bool) → ever f t (x ∷ h) ≡ cond (f k) true (ever f t h)
  unfolding ever
  ever-own f = ap (λ (b : Bool). cond b true (ever f t h)) (own-did f)

  pub times-own : (f : Action → Bool) → times f t (x ∷ h) ≡ cond (f k) (suc (times f t h)) (times f t h)
  unfolding times
  times-own f = ap (λ (b : Bool). cond b (suc (times f t h)) (times f t h)) (own-did f)

  pub received-own : received t (x ∷ h) ≡ cond (is_taking k) (received t h ++ x.request_data) (received t h)
  unfolding received
  received-own = ap (λ (b : Bool). cond b (received t h ++ x.request_data) (received t h)) (own-did is_taking)

  pub opening-own : {A : Type 0} (g : Exchange → A) (d : A) → at_opening g d t (x ∷ h) ≡ cond (is_opening k) (g x) (at_opening g d t h)
  unfolding at_opening
  opening-own {A} g d = ap (λ (b : Bool). cond b (g x) (at_opening g d t h)) (own-did is_opening)

-- ---- a transaction that the history does not know

ever-less : (f : Action → Bool) (t : Bits128) (v : Verdict) → did f t v ≡ true → did is_action t v ≡ true
ever-less f t verdict.Unreadable h = h
ever-less f t (verdict.Refused c) h = h
ever-less f t (verdict.Signed n added) h = h
ever-less f t (verdict.Of u k) h = rw (and-true (same_bits t u) (f k) h).0

-- an action of one kind is an action
pub ever-action : (f : Action → Bool) (t : Bits128) (h : List Exchange) → ever f t h ≡ true → ever is_action t h ≡ true
unfolding ever
ever-action f t [] e = e
ever-action f t (x ∷ h) e = at (did f t x.verdict) refl (ever-action f t h) e
  where
    any : (c : Bool) → cond c true true ≡ true
    any true = refl
    any false = refl

    at : (b : Bool) → did f t x.verdict ≡ b → (ever f t h ≡ true → ever is_action t h ≡ true) → cond b true (ever f t h) ≡ true →
        cond (did is_action t x.verdict) true (ever is_action t h) ≡ true
    at true g later z = rw (ever-less f t x.verdict g)
    at false g later z = rw (later z) (any (did is_action t x.verdict))

module _ (t : Bits128) where
  head-none : (x : Exchange) (h : List Exchange) → ever is_action t (x ∷ h) ≡ false →
      (did is_action t x.verdict ≡ false) × (ever is_action t h ≡ false)
  unfolding ever
  head-none x h e = at (did is_action t x.verdict) e
    where
      at : (b : Bool) → cond b true (ever is_action t h) ≡ false → (b ≡ false) × (ever is_action t h ≡ false)
      at true g = never (sym g)
      at false g = (refl, g)

  pub ever-unknown : (f : Action → Bool) (h : List Exchange) → ever is_action t h ≡ false → ever f t h ≡ false
  unfolding ever
  ever-unknown f [] e = e
  ever-unknown f (x ∷ h) e = let k = head-none x h e in ever-other t x h k.0 f ∙ ever-unknown f h k.1

  pub times-unknown : (f : Action → Bool) (h : List Exchange) → ever is_action t h ≡ false → times f t h ≡ 0
  unfolding times
  times-unknown f [] e = refl
  times-unknown f (x ∷ h) e = let k = head-none x h e in times-other t x h k.0 f ∙ times-unknown f h k.1

  pub received-unknown : (h : List Exchange) → ever is_action t h ≡ false → received t h ≡ []
  unfolding received
  received-unknown [] e = refl
  received-unknown (x ∷ h) e = let k = head-none x h e in received-other t x h k.0 ∙ received-unknown h k.1

-- ---- what the history knows, behind an exchange of the transaction u

module _ (u : Bits128) (k : Action) (x : Exchange) (h : List Exchange) (own : x.verdict ≡ verdict.Of u k) where
  pub known_more : (o : ℕ) → u.low < o → ((t : Bits128) → ever is_action t h ≡ true → t.low < o) → (t : Bits128) →
      ever is_action t (x ∷ h) ≡ true → t.low < o
  unfolding ever
  known_more o low old t e = at (did is_action t x.verdict) refl e
    where
      at : (b : Bool) → did is_action t x.verdict ≡ b → cond b true (ever is_action t h) ≡ true → t.low < o
      at true g z =
          let f = bits-same t u (and-true (same_bits t u) true (sym (ap (did is_action t) own) ∙ g)).0 in
          let q = ap (λ (b : Bits128). b.low) f in
          omega arith
      at false g z = old t z

  pub booked-more : is_booking k ≡ false → (t : Bits128) → ever is_booking t (x ∷ h) ≡ true → ever is_booking t h ≡ true
  unfolding ever
  booked-more n t e =
      let z : did is_booking t x.verdict ≡ false = ap (did is_booking t) own ∙ rw n (and_no (same_bits t u)) in
      rw z at e

  pub accepted-own : accepted (x ∷ h) ≡ cond (is_opening k) (suc (accepted h)) (accepted h)
  unfolding accepted
  accepted-own = ap (λ (v : Verdict). cond (opens v) (suc (accepted h)) (accepted h)) own

-- ---- the series: what opens nothing is in none

opens-no-upload : (v : Verdict) → opens v ≡ false → accepts_upload v ≡ false
opens-no-upload verdict.Unreadable z = refl
opens-no-upload (verdict.Refused c) z = refl
opens-no-upload (verdict.Signed n added) z = refl
opens-no-upload (verdict.Of t k) z = (or-neither (is_upload_opening k) (is_download_opening k) z).0

pub series-unmoved : (s : ℕ) (x : Exchange) (h : List Exchange) → opens x.verdict ≡ false →
    own_numbering s (x ∷ h) ≡ own_numbering s h
unfolding own_numbering
series-unmoved s x h z = rw (opens-no-upload x.verdict z)

-- behind the exchange that took segment N of u
pub booked-last : (u : Bits128) (x : Exchange) (h : List Exchange) →
    x.verdict ≡ verdict.Of u (action.Upload up.TookLast) → (P : Bits128 → Type 0) → P u →
    ((t : Bits128) → ever is_booking t h ≡ true → P t) → (t : Bits128) → ever is_booking t (x ∷ h) ≡ true → P t
unfolding ever
booked-last u x h own P new old t e = at (did is_booking t x.verdict) refl e
  where
    at : (b : Bool) → did is_booking t x.verdict ≡ b → cond b true (ever is_booking t h) ≡ true → P t
    at true g z = rw (bits-same t u (and-true (same_bits t u) true (sym (ap (did is_booking t) own) ∙ g)).0) new
    at false g z = old t z
