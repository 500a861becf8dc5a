-- Calls one after another on a line's memory follow the line. Assumes nothing.
use Rattle.number_table.specs.Numbers.{number_one}
use Rattle.line.specs.declared.calls.MakeRefusal.{MakeRefusal}
use Rattle.std.specs.Prelude.{Err, Ok, Result}
use Prim.Native.Nat.{ℕ, zero, suc, ◌+◌, ◌-◌, ◌*◌, ◌≤◌, ◌<◌}
use mathlib.Core.Bool.{Bool, true, false, cond, ◌&&◌}
use mathlib.Core.List.Memᴰ.{head as here}
use mathlib.Core.List.Memᴰ.{not-nil as in-none}
use mathlib.Core.List.Memᴰ.{tail as there}
use mathlib.Core.List.{
  List,
  [],
  ◌∷◌,
  ◌++◌,
  map,
  Memᴰ as In,
}
use mathlib.Core.Logic.{inr, ⊎_elim}
use mathlib.Core.Path.{◌≡◌, refl, sym, ap, ◌∙◌, subst}
use native.Mathlib.Nat.{mul-suc, zero-add}
use native.Mathlib.Omega.{arith}
use lib.Dec.{eqb, leb, ltb}
use lib.ListN.{length, get_or, take, drop, replicate, length-append, length-take, length-drop, length-map, length-replicate}
use lib.Seq.{take_at, get_or-drop, get_or-take}
use borrow.Author.Tests.{eq-eqb, ne_eqb, eqb-true, eqb-false, lt-ltb, ltb-true, ltb-false, leb-true, le-leb}
use Rattle.octets.specs.Bytes.{overwrite}
use Rattle.octets.proofs.Tests.{never, and-true}
use Rattle.line.specs.declared.calls.MakeRefusal.TheVariants as make
use Rattle.line.specs.Generator.{value_limit}
use Rattle.line.specs.Line.{Message, most_held, message_bytes, Line, line, made, put}
use Rattle.line.specs.Memory.{
  value_at,
  count_at,
  lengths_at,
  row_size,
  store_bytes,
  joined,
  cut,
  count_of,
  lengths_of,
  line_of,
  row_of,
  store_of,
  length_limit,
  is_length,
  is_line,
  Laid,
}
use Rattle.line.specs.Calls.{make_call_of, make_call, put_call_of, put_left, is_fit, put_call, Proper, Lies, Follows}
use Rattle.line.proofs.Tests.{all_from}
use Rattle.line.proofs.Lists.{cut-joined}
use Rattle.line.proofs.Rows.{length_most, count-own}
use Rattle.line.proofs.Carrying.{fit}
use Rattle.line.proofs.Courses.{put_only, put-most, put-value, moved-live}

-- ---- the row of a line

abbrev lengths : List Message → List ℕ
lengths held = map (λ (m : Message). length m) held

zero-at : (k i : ℕ) → ◌≡◌ {A = ℕ} (get_or (replicate k 0) i 0) 0
zero-at zero i = refl
zero-at (suc k) zero = refl
zero-at (suc k) (suc i) = zero-at k i

length_at : (held : List Message) (k i : ℕ) → ((m : Message) → In m held → length m ≤ message_bytes) → i < length held →
    get_or (lengths held ++ replicate k 0) i 0 ≤ message_bytes
length_at [] k i h j = absurd (omega arith)
length_at (m ∷ held) k zero h j = h m (here refl)
length_at (m ∷ held) k (suc i) h j = length_at held k i (λ x n. h x (there n)) (omega arith)

none-at : (held : List Message) (k i : ℕ) → length held ≤ i → get_or (lengths held ++ replicate k 0) i 0 ≡ 0
none-at [] k i j = zero-at k i
none-at (m ∷ held) k zero j = absurd (omega arith)
none-at (m ∷ held) k (suc i) j = none-at held k i (omega arith)

module _ (l : Line) (p : Proper l) where
  row-length : length (row_of l) ≡ row_size
  unfolding row_of
  row-length =
      let a = length-append (lengths l.held) (replicate (most_held - length l.held) 0) in
      let b = length-map l.held (λ (m : Message). length m) in
      let c = length-replicate {A = ℕ} (most_held - length l.held) 0 in
      let d = p.most in
      omega arith

  each-length : (i : ℕ) → i < most_held → is_length (row_of l) i ≡ true
  unfolding row_of length_limit
  each-length i h = at (ltb i (length l.held)) refl
    where
      xs : List ℕ
      xs = lengths l.held ++ replicate (most_held - length l.held) 0

      place : get_or (l.value ∷ length l.held ∷ xs) (lengths_at + i) 0 ≡ get_or xs i 0
      place = sym (get_or-drop lengths_at (l.value ∷ length l.held ∷ xs) i 0)

      at : (b : Bool) → ltb i (length l.held) ≡ b →
          leb (get_or (l.value ∷ length l.held ∷ xs) (lengths_at + i) 0) (cond b message_bytes 0) ≡ true
      at true e =
          let k = length_at l.held (most_held - length l.held) i p.short (ltb-true i (length l.held) e) in
          rw place (le-leb (get_or xs i 0) message_bytes k)
      at false e =
          let k = none-at l.held (most_held - length l.held) i (ltb-false i (length l.held) e) in
          rw (place, k)

  row-live : eqb (get_or (row_of l) value_at 0) 0 ≡ false
  unfolding row_of
  row-live = ne_eqb l.value 0 (λ e. let h = p.live in omega arith)

  row_word : ltb (get_or (row_of l) value_at 0) (value_limit) ≡ true
  unfolding row_of
  row_word = lt-ltb l.value (value_limit) p.word

  row-most : leb (get_or (row_of l) count_at 0) most_held ≡ true
  unfolding row_of
  row-most = le-leb (length l.held) most_held p.most

  row-fit : is_line (row_of l) ≡ true
  unfolding is_line
  row-fit =
      rw (
        eq-eqb (length (row_of l)) row_size row-length,
        row-live,
        row_word,
        row-most,
        all_from (is_length (row_of l)) most_held each-length,
      )

  -- the line is read again
  read_again : (rest : List ℕ) → line_of (row_of l) (joined l.held ++ rest) ≡ l
  unfolding line_of row_of
  read_again rest =
      ap (line l.value)
      (ap (λ (ns : List ℕ). cut ns (joined l.held ++ rest))
      (take_at (lengths l.held) (replicate (most_held - length l.held) 0) (length l.held)
      (length-map l.held (λ (m : Message). length m)))
      ∙ cut-joined l.held rest)

-- ---- the store

joined-most : (held : List Message) → ((m : Message) → In m held → length m ≤ message_bytes) →
    length (joined held) ≤ message_bytes * length held
unfolding joined
joined-most [] h = omega arith
joined-most (m ∷ held) h =
    let a = length-append m (joined held) in
    let b = joined-most held (λ x n. h x (there n)) in
    let c = h m (here refl) in
    let e : message_bytes * suc (length held) ≡ message_bytes * length held + message_bytes = mul-suc message_bytes (length held) in
    omega arith

module _ (l : Line) (p : Proper l) (old : List ℕ) (long : length old ≡ store_bytes) where
  store-fits : length (joined l.held) ≤ store_bytes
  store-fits = let a = joined-most l.held p.short in let b = p.most in omega arith

  store-front : store_of l old ≡ joined l.held ++ drop (length (joined l.held)) old
  unfolding store_of overwrite
  store-front = rw zero-add

  store_long : length (store_of l old) ≡ store_bytes
  store_long =
      let j = joined l.held in
      let a = length-append j (drop (length j) old) in
      let b = length-drop (length j) old in
      let c = store-fits in
      ap length store-front ∙ omega arith

  lies : Lies l (row_of l) (store_of l old)
  lies = record {
    proper = p;
    is = refl;
    rest = drop (length (joined l.held)) old;
    front = store-front;
    long = store_long;
  }

-- ---- the calls

made-proper : (seed : ℕ) → 0 < seed → seed < value_limit → Proper (made seed)
made-proper seed h k = record { live = h; word = k; most = omega arith; short = λ m i. absurd (in-none i) }

abbrev is_made : Result (Unit {0}) MakeRefusal → Bool
is_made (Ok u) = true
is_made (Err make.WrongLength) = false
is_made (Err make.SeedZero) = false

-- a line that is made
pub make-lies : (row store : List ℕ) (seed : ℕ) → seed < value_limit → (make_call row store seed).answer ≡ Ok tt →
    Lies (made seed) (make_call row store seed).row store
unfolding make_call joined
make-lies row store seed k = at (eqb (length row) row_size) (eqb (length store) store_bytes) (eqb seed 0) refl refl
  where
    at : (a b c : Bool) → eqb (length store) store_bytes ≡ b → eqb seed 0 ≡ c →
        let o = cond (a && b) (cond c (make_call_of (Err make.SeedZero) row) (make_call_of (Ok tt) (row_of (made seed)))) (make_call_of (Err make.WrongLength) row) in
        o.answer ≡ Ok tt → Lies (made seed) o.row store
    at true true false e f h = record {
      proper = made-proper seed (let z = eqb-false seed 0 f in omega arith) k;
      is = refl;
      rest = store;
      front = refl;
      long = eqb-true (length store) store_bytes e;
    }
    at true true true e f h = never (ap is_made h)
    at true false c e f h = never (ap is_made h)
    at false b c e f h = never (ap is_made h)

put-proper : (l : Line) (m : Message) → Proper l → length m ≤ message_bytes → Proper (put l m).next
put-proper l m p h =
    let v = moved-live l.value (p.live, p.word) in
    let e = put-value l m in
    record {
      live = omega arith;
      word = omega arith;
      most = put-most l m p.most;
      short =
          λ x i. ⊎_elim (λ e. subst (λ (y : Message). length y ≤ message_bytes) (sym e) h) (λ j. p.short x j) (put_only l m x (inr i));
    }

module _ (l : Line) (m : Message) (row store out : List ℕ) (v : Lies l row store) where
  line-is : line_of row store ≡ l
  line-is = rw (v.is, v.front) (read_again l v.proper v.rest)

  row_is : is_line row ≡ true
  row_is = rw v.is (row-fit l v.proper)

  is-fit : is_fit row (length store) (length m) (length out) ≡ (leb (length m) message_bytes && leb message_bytes (length out))
  unfolding is_fit
  is-fit = rw (row_is, eq-eqb (length store) store_bytes v.long)

  put_is : length m ≤ message_bytes → message_bytes ≤ length out → put_call row store m out ≡ put_left (put l m) store out
  unfolding put_call
  put_is h k = rw (is-fit, le-leb (length m) message_bytes h, le-leb message_bytes (length out) k, line-is)

  not-put : (a b : Bool) → (a && b ≡ true → ⊥) → a && b ≡ false
  not-put true true f = absurd (f refl)
  not-put true false f = refl
  not-put false b f = refl

  put_refused : ((length m ≤ message_bytes) × (message_bytes ≤ length out) → ⊥) → put_call row store m out ≡ put_call_of (Err number_one) row store out
  unfolding put_call
  put_refused f =
      rw (
        is-fit,
        not-put (leb (length m) message_bytes) (leb message_bytes (length out))
            (λ e. let a = and-true _ _ e in f (leb-true (length m) message_bytes a.0, leb-true message_bytes (length out) a.1)),
      )

  pub follows : Follows l m row store out (put_call row store m out)
  follows = record {
    carried =
        λ h k. rw (put_is h k) (lies (put l m).next (put-proper l m v.proper h) store v.long, refl, refl);
    refused = put_refused;
  }

-- ---- lengths, of any memory lent

cut_short : (c : ℕ) (ns s : List ℕ) → ((i : ℕ) → i < length ns → get_or ns i 0 ≤ c) → (m : Message) → In m (cut ns s) → length m ≤ c
unfolding cut
cut_short c [] s h m i = absurd (in-none i)
cut_short c (n ∷ ns) s h m (here e) =
    let f : length m ≡ length (take n s) = ap length e in
    let k = h 0 (omega arith) in
    omega (arith, length-take n s)
cut_short c (n ∷ ns) s h m (there i) = cut_short c ns (drop n s) (λ j k. h (suc j) (omega arith)) m i

-- the line that a row of the test's is, is one that calls leave
laid-proper : (row s : List ℕ) → Laid row → length s ≡ store_bytes → Proper (line_of row s)
unfolding line_of
laid-proper row s l h = record {
  live = l.live;
  word = l.word;
  most = let e = count-own row l s h in omega (arith, l.most);
  short =
      cut_short message_bytes (lengths_of row) s
      (λ i k.
      let ks = drop lengths_at row in
      let t = length-take (count_of row) ks in
      let m = l.most in
      let a = get_or-take (count_of row) ks i 0 (omega arith) in
      let b = get_or-drop lengths_at row i 0 in
      let c = length_most row l i (omega arith) in
      omega arith);
}

-- a row and a store keep their lengths, whatever the call answers
pub make-length : (row store : List ℕ) (seed : ℕ) → length (make_call row store seed).row ≡ length row
unfolding make_call row_of
make-length row store seed = at (eqb (length row) row_size) (eqb (length store) store_bytes) (eqb seed 0) refl
  where
    at : (a b c : Bool) → eqb (length row) row_size ≡ a →
        length (cond (a && b) (cond c (make_call_of (Err make.SeedZero) row) (make_call_of (Ok tt) (row_of (made seed)))) (make_call_of (Err make.WrongLength) row)).row
        ≡ length row
    at true true false e = sym (eqb-true (length row) row_size e)
    at true true true e = refl
    at true false c e = refl
    at false b c e = refl

pub put-lengths : (row store : List ℕ) (m : Message) (out : List ℕ)
    → (length (put_call row store m out).row ≡ length row) × (length (put_call row store m out).store ≡ length store)
unfolding put_call
put-lengths row store m out = at (is_fit row (length store) (length m) (length out)) refl
  where
    at : (t : Bool) → is_fit row (length store) (length m) (length out) ≡ t →
        let k = cond t (put_left (put (line_of row store) m) store out) (put_call_of (Err number_one) row store out) in
        (length k.row ≡ length row) × (length k.store ≡ length store)
    at true e =
        let f = fit row (length store) (length m) (length out) e in
        let p = put-proper (line_of row store) m (laid-proper row store f.sound f.stored) f.short in
        let l = (put (line_of row store) m).next in
        (row-length l p ∙ sym f.sound.long, store_long l p store f.stored ∙ sym f.stored)
    at false e = (refl, refl)
