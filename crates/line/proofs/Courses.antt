-- What holds of every list of messages put into a line. Assumes nothing.
use Prim.Native.Nat.{ℕ, zero, suc, ◌+◌, ◌*◌, ◌%◌, ◌≤◌, ◌<◌}
use mathlib.Core.Bool.{Bool, true, false, cond, ◌&&◌}
use mathlib.Core.List.Memᴰ.{append_cases as in-append}
use mathlib.Core.List.Memᴰ.{eq_of_singleton as in_one}
use mathlib.Core.List.Memᴰ.{head as here}
use mathlib.Core.List.Memᴰ.{not-nil as in-none}
use mathlib.Core.List.Memᴰ.{tail as there}
use mathlib.Core.List.{
  List,
  [],
  ◌∷◌,
  ◌++◌,
  map,
  append_assoc,
  append-nil,
  Memᴰ as In,
}
use mathlib.Core.Logic.{◌⊎◌, inl, inr, ⊎_elim}
use mathlib.Core.Path.{◌≡◌, refl, sym, ap, ◌∙◌, subst}
use native.Mathlib.Omega.{arith}
use lib.Dec.{eqb, ltb}
use lib.ListN.{length, take, drop, replicate, length-append, length-drop, length-replicate, length-map, take-append-drop}
use lib.Seq.{append_snoc, get_or-append_seam}
use borrow.Author.Tests.{eqb-true, ne_eqb, ltb-true}
use Rattle.line.specs.declared.decision.Decision.{Decision}
use Rattle.line.specs.declared.decision.Decision.TheVariants.{Lose, Hold, Deliver}
use Rattle.line.specs.Generator.{value_limit, moved}
use Rattle.line.specs.Line.{Message, most_held, Line, line, made, outcomes, decision, Put, delivered, carried_out, stepped, decided, put, out_of}
use Rattle.line.specs.Course.{after, course, held_by, holding, releases, times, places_from, places, message_at, is_place, Lossy}
use Rattle.line.proofs.Moves.{moved-lt, moved-zero}

-- ---- one message

-- a message is lost; held, where there is room; or comes out, once or twice
pub data Decides (count : ℕ) : Decision → Type 0 where
  loses : Decides count Lose
  holds : count < most_held → Decides count Hold
  delivers : (n : ℕ) → n ≤ 2 → Decides count (Deliver n)

pub decides : (v count : ℕ) → Decides count (decision v count)
unfolding decision
decides v count = at (eqb (v % outcomes) 0) (eqb (v % outcomes) 1) (eqb (v % outcomes) 2) (ltb count most_held) refl
  where
    at : (a b c d : Bool) → ltb count most_held ≡ d
        → Decides count (cond a Lose (cond b (Deliver 2) (cond (c && d) Hold (Deliver 1))))
    at true b c d e = loses
    at false true c d e = delivers 2 (omega arith)
    at false false true true e = holds (ltb-true count most_held e)
    at false false true false e = delivers 1 (omega arith)
    at false false false d e = delivers 1 (omega arith)

-- only where there is room a message is held
held-room : {count : ℕ} → Decides count Hold → count < most_held
held-room (holds h) = h

pub room : (v count : ℕ) → decision v count ≡ Hold → count < most_held
room v count e = held-room (subst (Decides count) e (decides v count))

-- "with 8 held, 2 delivers"
full-delivers : (v count : ℕ) → count ≡ most_held → v % outcomes ≡ 2 → decision v count ≡ Deliver 1
unfolding decision
full-delivers v count h e = rw (e, h)

put_full : (l : Line) (m : Message) → length l.held ≡ most_held → moved l.value % outcomes ≡ 2
    → put l m ≡ delivered 1 (stepped l)
unfolding put carried_out stepped
put_full l m h e = rw (full-delivers (moved l.value) (length l.held) h e)

-- a law of one message, from its three cases; the generator has moved
module _ (P : Line → Message → Decision → Put → Type 0)
    (lost : (l : Line) (m : Message) → P l m Lose (carried_out Lose l m))
    (kept : (l : Line) (m : Message) → length l.held < most_held → P l m Hold (carried_out Hold l m))
    (out : (l : Line) (m : Message) (n : ℕ) → n ≤ 2 → P l m (Deliver n) (delivered n l))
  where
    at-decision : (l : Line) (m : Message) (d : Decision) → Decides (length l.held) d → P l m d (carried_out d l m)
    unfolding carried_out
    at-decision l m Lose loses = lost l m
    at-decision l m Hold (holds h) = kept l m h
    at-decision l m (Deliver n) (delivers k h) = out l m n h

    pub by-decision : (l : Line) (m : Message) → P (stepped l) m (decided (stepped l)) (put l m)
    unfolding put
    by-decision l m = at-decision (stepped l) m (decided (stepped l)) (decides (stepped l).value (length (stepped l).held))

-- ---- only what was put in

-- in the line or out of it
abbrev pub Within : Message → List Message → Line → Type 0
Within x out l = In x out ⊎ In x l.held

in-copies : (n : ℕ) {x m : Message} → In x (replicate n m) → x ≡ m
in-copies zero i = absurd (in-none i)
in-copies (suc n) (here e) = e
in-copies (suc n) (there i) = in-copies n i

in-first : {x : Message} (l : List Message) → In x (take 1 l) → In x l
in-first [] i = i
in-first (m ∷ l) i = here (in_one i)

in_rest : {x : Message} (l : List Message) → In x (drop 1 l) → In x l
in_rest [] i = i
in_rest (m ∷ l) i = there i

-- what comes out of a call, or is held after it, is the message put in or was held
pub put_only : (l : Line) (m x : Message) → Within x (out_of m (put l m)) (put l m).next → (x ≡ m) ⊎ In x l.held
unfolding stepped carried_out out_of
put_only l m x =
    by-decision (λ (k : Line) (y : Message) (d : Decision) (p : Put). Within x (out_of y p) p.next → (x ≡ y) ⊎ In x k.held)
    lost kept out l m
  where
    lost : (k : Line) (y : Message) → Within x (out_of y (carried_out Lose k y)) (carried_out Lose k y).next → (x ≡ y) ⊎ In x k.held
    lost k y (inl i) = absurd (in-none i)
    lost k y (inr i) = inr i

    kept : (k : Line) (y : Message) → length k.held < most_held
        → Within x (out_of y (carried_out Hold k y)) (carried_out Hold k y).next → (x ≡ y) ⊎ In x k.held
    kept k y h (inl i) = absurd (in-none i)
    kept k y h (inr i) = ⊎_elim (λ j. inr j) (λ j. inl (in_one j)) (in-append k.held i)

    out : (k : Line) (y : Message) (n : ℕ) → n ≤ 2
        → Within x (out_of y (delivered n k)) (delivered n k).next → (x ≡ y) ⊎ In x k.held
    out k y n h (inl i) = ⊎_elim (λ j. inl (in-copies n j)) (λ j. inr (in-first k.held j)) (in-append (replicate n y) i)
    out k y n h (inr i) = inr (in_rest k.held i)

-- of a list of messages
pub course-only : (l : Line) (ms : List Message) (x : Message) → Within x (course l ms) (after l ms) → In x ms ⊎ In x l.held
unfolding course after
course-only l [] x (inl i) = absurd (in-none i)
course-only l [] x (inr i) = inr i
course-only l (m ∷ ms) x w = at (course-only (put l m).next ms x) w
  where
    first : (x ≡ m) ⊎ In x l.held → In x (m ∷ ms) ⊎ In x l.held
    first (inl e) = inl (here e)
    first (inr i) = inr i

    later : In x ms ⊎ In x (put l m).next.held → In x (m ∷ ms) ⊎ In x l.held
    later (inl i) = inl (there i)
    later (inr i) = first (put_only l m x (inr i))

    at : (Within x (course (put l m).next ms) (after (put l m).next ms) → In x ms ⊎ In x (put l m).next.held)
        → Within x (course l (m ∷ ms)) (after l (m ∷ ms)) → In x (m ∷ ms) ⊎ In x l.held
    at below (inl i) =
        ⊎_elim (λ j. first (put_only l m x (inl j))) (λ j. later (below (inl j))) (in-append (out_of m (put l m)) i)
    at below (inr i) = later (below (inr i))

-- ---- at most twice

module _ (p : Message → Bool) where
  times-append : (a b : List Message) → times p (a ++ b) ≡ times p a + times p b
  unfolding times
  times-append [] b = omega arith
  times-append (m ∷ a) b = omega (arith, times-append a b)

  times-copies : (n : ℕ) (m : Message) → n ≤ 2 → times p (replicate n m) ≤ 2 * cond (p m) 1 0
  unfolding times
  times-copies zero m h = omega arith
  times-copies (suc zero) m h = omega arith
  times-copies (suc (suc zero)) m h = omega arith
  times-copies (suc (suc (suc n))) m h = absurd (omega arith)

  times-parts : (l : List Message) → times p (take 1 l) + times p (drop 1 l) ≡ times p l
  unfolding times
  times-parts [] = refl
  times-parts (m ∷ l) = omega arith

  put-twice : (l : Line) (m : Message)
      → times p (out_of m (put l m)) + times p (put l m).next.held + times p (held_by (decided (stepped l)) m)
      ≤ 2 * cond (p m) 1 0 + times p l.held
  unfolding stepped carried_out out_of times
  put-twice l m =
      by-decision
      (λ (k : Line) (y : Message) (d : Decision) (q : Put).
      times p (out_of y q) + times p q.next.held + times p (held_by d y) ≤ 2 * cond (p y) 1 0 + times p k.held)
      (λ k y. omega arith)
      (λ k y h. omega (arith, times-append k.held (y ∷ [])))
      (λ k y n h.
      omega (arith, times-append (replicate n y) (take 1 k.held), times-copies n y h, times-parts k.held))
      l m

  -- what comes out, is held still and was taken to hold
  pub course-twice : (l : Line) (ms : List Message)
      → times p (course l ms) + times p (after l ms).held + times p (holding l ms) ≤ 2 * times p ms + times p l.held
  unfolding course after holding times
  course-twice l [] = omega arith
  course-twice l (m ∷ ms) =
      let a = times-append (out_of m (put l m)) (course (put l m).next ms) in
      let b = course-twice (put l m).next ms in
      let c = put-twice l m in
      let d = times-append (held_by (decided (stepped l)) m) (holding (put l m).next ms) in
      omega arith

-- ---- in the order of holding

put_order : (l : Line) (m : Message) → l.held ++ held_by (decided (stepped l)) m ≡ (put l m).released ++ (put l m).next.held
unfolding stepped carried_out
put_order l m =
    by-decision
    (λ (k : Line) (y : Message) (d : Decision) (q : Put). k.held ++ held_by d y ≡ q.released ++ q.next.held)
    (λ k y. append-nil k.held)
    (λ k y h. refl)
    (λ k y n h. append-nil k.held ∙ sym (take-append-drop 1 k.held))
    l m

-- those held at first and those taken to hold: the ones that come out, then the ones held still
pub course-order : (l : Line) (ms : List Message) → l.held ++ holding l ms ≡ releases l ms ++ (after l ms).held
unfolding holding releases after
course-order l [] = append-nil l.held
course-order l (m ∷ ms) =
    let n = (put l m).next in
    sym (append_assoc l.held (held_by (decided (stepped l)) m) (holding n ms))
    ∙ ap (λ (x : List Message). x ++ holding n ms) (put_order l m)
    ∙ append_assoc (put l m).released n.held (holding n ms)
    ∙ ap (λ (x : List Message). (put l m).released ++ x) (course-order n ms)
    ∙ sym (append_assoc (put l m).released (releases n ms) (after n ms).held)

-- ---- how many

pub put-most : (l : Line) (m : Message) → length l.held ≤ most_held → length (put l m).next.held ≤ most_held
unfolding stepped carried_out
put-most l m =
    by-decision
    (λ (k : Line) (y : Message) (d : Decision) (q : Put). length k.held ≤ most_held → length q.next.held ≤ most_held)
    (λ k y h. h)
    (λ k y r h. omega (arith, length-append k.held (y ∷ [])))
    (λ k y n r h. omega (arith, length-drop 1 k.held))
    l m

pub course-most : (l : Line) (ms : List Message) → length l.held ≤ most_held → length (after l ms).held ≤ most_held
unfolding after
course-most l [] h = h
course-most l (m ∷ ms) h = course-most (put l m).next ms (put-most l m h)

first-length : (l : List Message) → length (take 1 l) ≤ 1
first-length [] = omega arith
first-length (m ∷ l) = omega arith

pub put_three : (l : Line) (m : Message) → length (out_of m (put l m)) ≤ 3
unfolding carried_out out_of
put_three l m =
    by-decision (λ (k : Line) (y : Message) (d : Decision) (q : Put). length (out_of y q) ≤ 3)
    (λ k y. omega arith)
    (λ k y h. omega arith)
    (λ k y n h.
    omega (arith, length-append (replicate n y) (take 1 k.held), length-replicate n y, first-length k.held))
    l m

-- ---- the generator

pub put-value : (l : Line) (m : Message) → (put l m).next.value ≡ moved l.value
unfolding stepped carried_out
put-value l m =
    by-decision (λ (k : Line) (y : Message) (d : Decision) (q : Put). q.next.value ≡ k.value)
    (λ k y. refl) (λ k y h. refl) (λ k y n h. refl) l m

abbrev pub Live : ℕ → Type 0
Live v = (0 < v) × (v < value_limit)

pub moved-live : (v : ℕ) → Live v → Live (moved v)
moved-live v h =
    let z : moved v ≡ 0 → ⊥ = λ e. let o = moved-zero v h.1 e in omega arith in
    (omega (arith, z), moved-lt v h.1)

pub course-live : (l : Line) (ms : List Message) → Live l.value → Live (after l ms).value
unfolding after
course-live l [] h = h
course-live l (m ∷ ms) h = course-live (put l m).next ms (subst Live (sym (put-value l m)) (moved-live l.value h))

-- ---- no byte is looked at

module _ (f : Message → Message) where
  map-append : (a b : List Message) → map f (a ++ b) ≡ map f a ++ map f b
  map-append [] b = refl
  map-append (m ∷ a) b = ap (λ (x : List Message). f m ∷ x) (map-append a b)

  map-copies : (n : ℕ) (m : Message) → replicate n (f m) ≡ map f (replicate n m)
  map-copies zero m = refl
  map-copies (suc n) m = ap (λ (x : List Message). f m ∷ x) (map-copies n m)

  map_first : (l : List Message) → take 1 (map f l) ≡ map f (take 1 l)
  map_first [] = refl
  map_first (m ∷ l) = refl

  map-rest : (l : List Message) → drop 1 (map f l) ≡ map f (drop 1 l)
  map-rest [] = refl
  map-rest (m ∷ l) = refl

  -- the line with other messages held, as many
  abbrev other : Line → Line
  other l = line l.value (map f l.held)

  carried-out : (d : Decision) (l : Line) (m : Message)
      → out_of (f m) (carried_out d (other l) (f m)) ≡ map f (out_of m (carried_out d l m))
  unfolding carried_out out_of
  carried-out Lose l m = refl
  carried-out Hold l m = refl
  carried-out (Deliver n) l m = rw (map-append, map-copies n m, map_first)

  carried-next : (d : Decision) (l : Line) (m : Message) → (carried_out d (other l) (f m)).next ≡ other (carried_out d l m).next
  unfolding carried_out
  carried-next Lose l m = refl
  carried-next Hold l m = ap (line l.value) (sym (map-append l.held (m ∷ [])))
  carried-next (Deliver n) l m = ap (line l.value) (map-rest l.held)

  same-decision : (l : Line) → decided (stepped (other l)) ≡ decided (stepped l)
  unfolding stepped
  same-decision l = ap (decision (moved l.value)) (length-map l.held f)

  put-out : (l : Line) (m : Message) → out_of (f m) (put (other l) (f m)) ≡ map f (out_of m (put l m))
  unfolding put stepped
  put-out l m = rw (same-decision l) (carried-out (decided (stepped l)) (stepped l) m)

  put_next : (l : Line) (m : Message) → (put (other l) (f m)).next ≡ other (put l m).next
  unfolding put stepped
  put_next l m = rw (same-decision l) (carried-next (decided (stepped l)) (stepped l) m)

  pub course-blind : (l : Line) (ms : List Message) → course (other l) (map f ms) ≡ map f (course l ms)
  unfolding course
  course-blind l [] = refl
  course-blind l (m ∷ ms) =
      rw (map-append, put-out l m, put_next l m, course-blind (put l m).next ms)

-- ---- places

place-before : (i j n : ℕ) → i < j → times (is_place i) (places_from j n) ≡ 0
unfolding times places_from
place-before i j zero h = refl
place-before i j (suc n) h =
    let e : eqb j i ≡ false = ne_eqb j i (λ z. omega arith) in
    rw (e, place-before i (suc j) n (omega arith))

place-once : (i j n : ℕ) → times (is_place i) (places_from j n) ≤ 1
unfolding times places_from
place-once i j zero = omega arith
place-once i j (suc n) = at (eqb j i) refl (place-once i (suc j) n)
  where
    at : (b : Bool) → eqb j i ≡ b → times (is_place i) (places_from (suc j) n) ≤ 1
        → cond b 1 0 + times (is_place i) (places_from (suc j) n) ≤ 1
    at true e r = let z = eqb-true j i e in omega (arith, place-before i (suc j) n (omega arith))
    at false e r = omega arith

-- the messages after others, by their places
messages-at : (a b : List Message) → map (message_at (a ++ b)) (places_from (length a) (length b)) ≡ b
unfolding places_from
messages-at a [] = refl
messages-at a (m ∷ b) =
    let e : length (a ++ (m ∷ [])) ≡ suc (length a) = length-append a (m ∷ []) ∙ omega arith in
    let r : map (message_at (a ++ m ∷ b)) (places_from (suc (length a)) (length b)) ≡ b =
    subst (λ (l : List Message). map (message_at l) (places_from (suc (length a)) (length b)) ≡ b) (append_snoc a m b)
    (subst (λ (n : ℕ). map (message_at (a ++ (m ∷ []) ++ b)) (places_from n (length b)) ≡ b) e (messages-at (a ++ (m ∷ [])) b)) in
    λ x. get_or-append_seam a m b [] x ∷ r x

-- ---- from a seed

in-made : {x : Message} {ms : List Message} → In x ms ⊎ In x [] → In x ms
in-made (inl i) = i
in-made (inr i) = absurd (in-none i)

pub lossy : (seed : ℕ) (ms : List Message) → Lossy seed ms
unfolding times
lossy seed ms =
    let l = made seed in
    record {
      only = λ x i. in-made (course-only l ms x (inl i));
      kept = λ x i. in-made (course-only l ms x (inr i));
      by_places =
          ap (course l) (sym (messages-at [] ms)) ∙ course-blind (message_at ms) l (places ms);
      twice = λ i. omega (arith, course-twice (is_place i) l (places ms), place-once i 0 (length ms));
      in_order = course-order l ms;
      most = course-most l ms (omega arith);
      full = λ m h e. put_full (after l ms) m h e;
      three = λ m. put_three (after l ms) m;
      live = λ h k. course-live l ms (h, k);
    }

-- ---- one list of messages after another

pub after-append : (l : Line) (a b : List Message) → after l (a ++ b) ≡ after (after l a) b
unfolding after
after-append l [] b = refl
after-append l (m ∷ a) b = after-append (put l m).next a b

pub course-append : (l : Line) (a b : List Message) → course l (a ++ b) ≡ course l a ++ course (after l a) b
unfolding after course
course-append l [] b = refl
course-append l (m ∷ a) b =
    ap (λ (x : List Message). out_of m (put l m) ++ x) (course-append (put l m).next a b)
    ∙ sym (append_assoc (out_of m (put l m)) (course (put l m).next a) (course (after (put l m).next a) b))
