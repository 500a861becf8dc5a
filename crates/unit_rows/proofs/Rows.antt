-- Laws of rows of numbers that are each read by themselves: a row written over is an element set, a row read is an element,
-- and elements copied one by one. Assumes nothing.
use Prim.Native.Nat.{ℕ, zero, suc, ◌+◌, ◌*◌, ◌≤◌, ◌<◌}
use mathlib.Core.List.{List, [], ◌∷◌, ◌++◌, map, zip_with}
use mathlib.Core.Path.{◌≡◌, refl, sym, ap, subst, ◌∙◌}
use native.Mathlib.Nat.{mul-zero, mul-suc, add_comm, add-zero}
use native.Mathlib.Numerals.{add-one}
use native.Mathlib.Omega.{arith}
use lib.ListN.{length, get_or, take, drop, set, replicate, length-map, length-drop, take-append-drop, get_or-map}
use lib.Seq.{length-take-le, take_all, take-suc, take-suc-set, take_at, drop_at, get_or-take, get_or-drop}
use Rattle.octets.specs.Bytes.{overwrite}
use Rattle.journal.specs.declared.event.Event.{Event}
use Rattle.journal.specs.declared.event.Batch.{Batch}
use Rattle.journal.specs.declared.places.Places.{Places}
use Rattle.journal.specs.Events.{record_count, max_entries, no_event}
use Rattle.journal.specs.Places.{places_of}
use Rattle.journal.specs.Row.{empty_row, row_after}
use Rattle.journal.proofs.Entering.{Entering, entering}
use Rattle.journal.proofs.Mixed.{mixed, mixed-after, mixed-next}
use Rattle.bank_rows.specs.Records.{bits}
use Rattle.bank_rows.specs.Rows.{rows_of}
use Rattle.bank_rows.proofs.General.{overwrite-after, overwrite-front, length-rows, rows_at}
use Rattle.image_numbers.specs.Numbers.{event_numbers, kind_of, event_of}
use Rattle.image_numbers.proofs.Laws.{event-back}
use Rattle.message.specs.declared.editions.Edition.{Edition}
use Rattle.message.specs.declared.editions.Edition.TheVariants.{V24, V25}
use Rattle.message.specs.declared.directions.Direction.{Direction}
use Rattle.message.specs.declared.directions.Direction.TheVariants.{Upload, Download}
use Rattle.client_run.specs.declared.run.Stage.{Stage}
use Rattle.client_run.specs.declared.run.Stage.TheVariants.{NotBegun, Running, Ended}
use Rattle.client_run.specs.declared.run.Step.{Step}
use Rattle.client_run.specs.declared.run.Step.TheVariants.{Opening, Segment, Receipt}
use Rattle.client_run.specs.declared.run.Word.{Word}
use Rattle.client_run.specs.declared.run.Word.TheVariants.{
  Lodged,
  NotLodged,
  Unclear,
  Fetched,
  HeldUnconfirmed,
  NotFetched,
}
use Rattle.client_run.specs.Run.{nonce_bytes}
use Rattle.unit_state.specs.declared.state.Run.{Run}
use Rattle.unit_state.specs.Records.{run_count, edition_of}
use Rattle.unit_state.specs.State.{fresh, run_at}
use Rattle.unit_rows.specs.Codes.{
  number_of_word,
  number_of_stage,
  stage_of,
  number_of_direction,
  direction_of,
  number_of_step,
  step_of,
  number_of_edition,
}
use Rattle.unit_rows.specs.Rows.{
  run_width,
  event_width,
  runs_size,
  nonces_size,
  row_size,
  parts,
  client_of,
  run_of,
  run_numbers,
  runs_from,
  journal_from,
  unit_from,
}

-- ---- rows of w numbers

module _ (w : ℕ) where
  pub length-parts : (n : ℕ) (s : List ℕ) → length (parts w n s) ≡ n
  length-parts n s = length-rows w (take w) n s

  pub part_at : (n i : ℕ) (s : List ℕ) → i < n → get_or (parts w n s) i [] ≡ take w (drop (w * i) s)
  part_at n i s h = rows_at w (take w) n i s [] h

  -- number k of row i
  pub number_at : (i k : ℕ) (s : List ℕ) → k < w → get_or (take w (drop (w * i) s)) k 0 ≡ get_or s (w * i + k) 0
  number_at i k s h = get_or-take w (drop (w * i) s) k 0 h ∙ get_or-drop (w * i) s k 0

  first-over : (s xs : List ℕ) → w ≤ length s → length xs ≡ w → overwrite s (w * 0) xs ≡ xs ++ drop w s
  first-over s xs h e =
      ap (λ (k : ℕ). overwrite s k xs) (mul-zero w)
      ∙ ap (λ (t : List ℕ). overwrite t 0 xs) (sym (take-append-drop w s))
      ∙ overwrite-front (take w s) (drop w s) xs (e ∙ sym (length-take-le w s h))

  later-over : (i : ℕ) (s xs : List ℕ) → w ≤ length s → overwrite s (w * suc i) xs ≡ take w s ++ overwrite (drop w s) (w * i) xs
  later-over i s xs h =
      ap (λ (k : ℕ). overwrite s k xs) (mul-suc w i ∙ add_comm (w * i) w)
      ∙ ap (λ (t : List ℕ). overwrite t (w + w * i) xs) (sym (take-append-drop w s))
      ∙ overwrite-after (take w s) (drop w s) w (w * i) xs (length-take-le w s h)

  -- a row written over
  pub part-set : (n i : ℕ) (s xs : List ℕ) → i < n → w * n ≤ length s → length xs ≡ w
      → parts w n (overwrite s (w * i) xs) ≡ set (parts w n s) i xs
  unfolding rows_of
  part-set zero i s xs h l e = absurd (omega arith)
  part-set (suc n) zero s xs h l e =
      let o = first-over s xs (omega (arith, l, mul-suc w n)) e in
      rw (o, take_at xs (drop w s) w e, drop_at xs (drop w s) w e)
  part-set (suc n) (suc i) s xs h l e =
      let m : w ≤ length s = omega (arith, l, mul-suc w n) in
      let o = later-over i s xs m in
      let t = length-take-le w s m in
      let r : List ℕ = overwrite (drop w s) (w * i) xs in
      rw (o, take_at (take w s) r w t, drop_at (take w s) r w t)
      (ap (λ (z : List (List ℕ)). take w s ∷ z)
      (part-set n i (drop w s) xs (omega arith) (omega (arith, l, mul-suc w n, length-drop w s)) e))

-- ---- elements set

map-set : {A B : Type 0} (f : A → B) (l : List A) (i : ℕ) (x : A) → map f (set l i x) ≡ set (map f l) i (f x)
map-set f [] i x = refl
map-set f (y ∷ l) zero x = refl
map-set f (y ∷ l) (suc i) x = ap (λ z. f y ∷ z) (map-set f l i x)

module _ {A B C : Type 0} (f : A → B → C) where
  zip-set : (a : List A) (b : List B) (i : ℕ) (x : A) (y : B) → zip_with f (set a i x) (set b i y) ≡ set (zip_with f a b) i (f x y)
  unfolding zip_with
  zip-set [] b i x y = refl
  zip-set (p ∷ a) [] zero x y = refl
  zip-set (p ∷ a) [] (suc i) x y = refl
  zip-set (p ∷ a) (q ∷ b) zero x y = refl
  zip-set (p ∷ a) (q ∷ b) (suc i) x y = ap (λ z. f p q ∷ z) (zip-set a b i x y)

  zip-at : (a : List A) (b : List B) (i : ℕ) (x : A) (y : B) (d : C) → i < length a → i < length b
      → get_or (zip_with f a b) i d ≡ f (get_or a i x) (get_or b i y)
  unfolding zip_with
  zip-at [] b i x y d h k = absurd (omega arith)
  zip-at (p ∷ a) [] i x y d h k = absurd (omega arith)
  zip-at (p ∷ a) (q ∷ b) zero x y d h k = refl
  zip-at (p ∷ a) (q ∷ b) (suc i) x y d h k = zip-at a b i x y d (omega arith) (omega arith)

  zip_length : (a : List A) (b : List B) → length a ≡ length b → length (zip_with f a b) ≡ length a
  unfolding zip_with
  zip_length [] b e = refl
  zip_length (p ∷ a) [] e = absurd (omega arith)
  zip_length (p ∷ a) (q ∷ b) e = ap suc (zip_length a b (omega arith))

-- elements copied one by one: one more
pub copied_next : {A : Type 0} (xs ys : List A) (i : ℕ) (d : A) → i < length xs → i < length ys → take i xs ≡ take i ys
    → take (i + 1) (set xs i (get_or ys i d)) ≡ take (i + 1) ys
copied_next xs ys i d h k e =
    rw (add-one i, take-suc-set xs i (get_or ys i d) h, take-suc ys i d k, e)

-- all are
pub copied_all : {A : Type 0} (xs ys : List A) (n i : ℕ) → length xs ≡ n → length ys ≡ n → n ≤ i → take i xs ≡ take i ys → xs ≡ ys
copied_all xs ys n i h k l e = sym (take_all i xs (omega arith)) ∙ e ∙ take_all i ys (omega arith)

-- ---- the journal

pub length-journal : (row : List ℕ) → length (journal_from row) ≡ record_count
unfolding journal_from
length-journal row = length-map (parts event_width record_count row) event_of ∙ length-parts event_width record_count row

module _ (row : List ℕ) (i : ℕ) (h : i < record_count) where
  -- a record read
  pub record-read : get_or (journal_from row) i no_event
      ≡ record {
        number = get_or row (event_width * i) 0;
        clock = get_or row (event_width * i + 1) 0;
        subscriber = get_or row (event_width * i + 2) 0;
        order_type = get_or row (event_width * i + 3) 0;
        order = get_or row (event_width * i + 4) 0;
        high = get_or row (event_width * i + 5) 0;
        low = get_or row (event_width * i + 6) 0;
        kind = kind_of (get_or row (event_width * i + 7) 0);
      }
  unfolding journal_from
  record-read =
      get_or-map event_of (parts event_width record_count row) i []
      ∙ ap event_of (part_at event_width record_count i row h)
      ∙ rw (
        number_at event_width i 0 row (omega arith),
        number_at event_width i 1 row (omega arith),
        number_at event_width i 2 row (omega arith),
        number_at event_width i 3 row (omega arith),
        number_at event_width i 4 row (omega arith),
        number_at event_width i 5 row (omega arith),
        number_at event_width i 6 row (omega arith),
        number_at event_width i 7 row (omega arith),
        add-zero (event_width * i),
      )

  -- a record set
  pub record-set : (e : Event) → length row ≡ row_size
      → journal_from (overwrite row (event_width * i) (event_numbers e)) ≡ set (journal_from row) i e
  unfolding journal_from
  record-set e long =
      ap (map event_of) (part-set event_width record_count i row (event_numbers e) h (omega arith) refl)
      ∙ map-set event_of (parts event_width record_count row) i (event_numbers e)
      ∙ ap (set (map event_of (parts event_width record_count row)) i) (event-back e refl [])

-- what entering goes by, of a row of numbers
pub entering-row : (row : List ℕ) (n clock : ℕ) (b : Batch) (p : Places) → length b.entries ≡ max_entries
    → p ≡ places_of record_count n b.count → Entering n clock b p (journal_from row) (row_after n clock b (journal_from row))
entering-row row n clock b p nine e =
    subst (λ (q : Places). Entering n clock b q (journal_from row) (row_after n clock b (journal_from row)))
    (ap (λ (k : ℕ). places_of k n b.count) (length-journal row) ∙ sym e)
    (entering n clock b (journal_from row) nine)

-- one place more: js is the row so far, xs the row before, zs what it is to hold
module _ (zs xs js next : List Event) (i : ℕ) (e : Event) (same : length zs ≡ length xs) (so_far : js ≡ mixed i zs xs)
    (put : next ≡ set js i e) where
  pub given-on : e ≡ get_or zs i no_event → next ≡ mixed (i + 1) zs xs
  given-on v =
      put ∙ ap (λ (t : List Event). set t i e) so_far ∙ ap (λ (x : Event). set (mixed i zs xs) i x) v
      ∙ mixed-next i zs xs no_event same ∙ ap (λ (k : ℕ). mixed k zs xs) (sym (add-one i))

  pub moved_on : (by : ℕ) → e ≡ get_or js (i + by) no_event → get_or xs (i + by) no_event ≡ get_or zs i no_event → next ≡ mixed (i + 1) zs xs
  moved_on by f g =
      given-on
      (f ∙ ap (λ (t : List Event). get_or t (i + by) no_event) so_far ∙ mixed-after i (i + by) zs xs no_event same (omega arith) ∙ g)

-- ---- the runs

word_back : (w : Word) → stage_of (number_of_word w) ≡ Ended w
word_back Lodged = refl
word_back NotLodged = refl
word_back Unclear = refl
word_back Fetched = refl
word_back HeldUnconfirmed = refl
word_back NotFetched = refl

stage-back : (s : Stage) → stage_of (number_of_stage s) ≡ s
stage-back NotBegun = refl
stage-back Running = refl
stage-back (Ended w) = word_back w

direction-back : (d : Direction) → direction_of (number_of_direction d) ≡ d
direction-back Upload = refl
direction-back Download = refl

step_back : (s : Step) → step_of (number_of_step s) ≡ s
step_back Opening = refl
step_back Segment = refl
step_back Receipt = refl

edition-back : (e : Edition) → edition_of (number_of_edition e) ≡ e
edition-back V24 = refl
edition-back V25 = refl

run-back : (run : Run) → run_of (run_numbers run) run.nonce ≡ run
run-back run =
    let c = run.client.run in
    rw (stage-back c.stage, direction-back c.direction, step_back c.step, edition-back c.terms.edition)

pub length_runs : (runs nonces : List ℕ) → length (runs_from runs nonces) ≡ run_count
unfolding runs_from
length_runs runs nonces =
    let a = length-parts run_width run_count runs in
    zip_length run_of (parts run_width run_count runs) (parts nonce_bytes run_count nonces) (a ∙ sym (length-parts nonce_bytes run_count nonces)) ∙ a

-- a client read
pub client-read : (runs : List ℕ) (i : ℕ) → client_of (take run_width (drop (run_width * i) runs))
    ≡ record {
      stage = stage_of (get_or runs (run_width * i) 0);
      direction = direction_of (get_or runs (run_width * i + 1) 0);
      step = step_of (get_or runs (run_width * i + 2) 0);
      subscriber = get_or runs (run_width * i + 3) 0;
      exchange = get_or runs (run_width * i + 4) 0;
      repeats = get_or runs (run_width * i + 5) 0;
      terms = record { edition = edition_of (get_or runs (run_width * i + 6) 0); number = get_or runs (run_width * i + 7) 0 };
      transaction = bits (get_or runs (run_width * i + 8) 0) (get_or runs (run_width * i + 9) 0);
      number = get_or runs (run_width * i + 10) 0;
      length = get_or runs (run_width * i + 11) 0;
      segments = get_or runs (run_width * i + 12) 0;
      segment = get_or runs (run_width * i + 13) 0;
      issued = get_or runs (run_width * i + 14) 0;
    }
client-read runs i =
    rw (
      number_at run_width i 0 runs (omega arith),
      number_at run_width i 1 runs (omega arith),
      number_at run_width i 2 runs (omega arith),
      number_at run_width i 3 runs (omega arith),
      number_at run_width i 4 runs (omega arith),
      number_at run_width i 5 runs (omega arith),
      number_at run_width i 6 runs (omega arith),
      number_at run_width i 7 runs (omega arith),
      number_at run_width i 8 runs (omega arith),
      number_at run_width i 9 runs (omega arith),
      number_at run_width i 10 runs (omega arith),
      number_at run_width i 11 runs (omega arith),
      number_at run_width i 12 runs (omega arith),
      number_at run_width i 13 runs (omega arith),
      number_at run_width i 14 runs (omega arith),
      add-zero (run_width * i),
    )

module _ (runs nonces : List ℕ) (i : ℕ) (h : i < run_count) where
  -- a run read
  pub run-read : run_at (runs_from runs nonces) i ≡ run_of (take run_width (drop (run_width * i) runs)) (take nonce_bytes (drop (nonce_bytes * i) nonces))
  unfolding runs_from
  run-read =
      let a = length-parts run_width run_count runs in
      let b = length-parts nonce_bytes run_count nonces in
      zip-at run_of (parts run_width run_count runs) (parts nonce_bytes run_count nonces) i [] [] _ (omega arith) (omega arith)
      ∙ rw (part_at run_width run_count i runs h, part_at nonce_bytes run_count i nonces h)

  -- a run set
  pub run-set : (run : Run) → length runs ≡ runs_size → length nonces ≡ nonces_size → length run.nonce ≡ nonce_bytes
      → runs_from (overwrite runs (run_width * i) (run_numbers run)) (overwrite nonces (nonce_bytes * i) run.nonce)
      ≡ set (runs_from runs nonces) i run
  unfolding runs_from
  run-set run a b c =
      rw (
        part-set run_width run_count i runs (run_numbers run) h (omega arith) refl,
        part-set nonce_bytes run_count i nonces run.nonce h (omega arith) c,
      )
      (zip-set run_of (parts run_width run_count runs) (parts nonce_bytes run_count nonces) i (run_numbers run) run.nonce
      ∙ ap (set (zip_with run_of (parts run_width run_count runs) (parts nonce_bytes run_count nonces)) i) (run-back run))

-- ---- zeros are a fresh unit

pub fresh-unit : unit_from (replicate runs_size 0) (replicate nonces_size 0) (replicate row_size 0) ≡ fresh
unfolding runs_from journal_from rows_of zip_with fresh empty_row
fresh-unit = refl
