-- The journal's records read and written one by one, and all numbers one after another. Assumes nothing.
use Prim.Native.Nat.{ℕ, ◌+◌, ◌*◌, ◌<◌}
use mathlib.Core.List.{List, [], ◌∷◌, ◌++◌, append_assoc}
use mathlib.Core.Path.{◌≡◌, sym, ap, ◌∙◌}
use native.Mathlib.Numerals.{add-one}
use native.Mathlib.Omega.{arith}
use lib.ListN.{length, get_or, take, drop, set, length-take, length-append}
use lib.Seq.{take-suc, take-suc-set, get_or-drop}
use borrow.Author.Tests.{ne_eqb}
use Rattle.octets.specs.Bytes.{overwrite}
use Rattle.octets.proofs.Numbers.{overwrite-overwrite, overwrite-all}
use Rattle.journal.specs.declared.event.Kind.{Kind}
use Rattle.journal.specs.declared.event.Kind.TheVariants.{Signed}
use Rattle.journal.specs.declared.event.Event.{Event}
use Rattle.journal.specs.Events.{record_count, no_event}
use Rattle.bank_rows.specs.Rows.{rows_of, numbers_of}
use Rattle.bank_rows.proofs.General.{numbers-append, numbers-one, length-numbers, rows_next}
use Rattle.image_records.specs.declared.layout.EventRecord.{EventRecord}
use Rattle.opening_counts.specs.Counts.{count_row, counts_from}
use Rattle.bank_session.specs.Session as session
use Rattle.bank_session.specs.Session.{session_size, counts_in}
use Rattle.image_records.specs.Layout.{journal_at, event_width, counts_at, number_count, event_at}
use Rattle.image_numbers.specs.Table.{session_places, image_places}
use Rattle.image_numbers.specs.Numbers.{numbers_at, kind_of, event_numbers, event_of, numbers_in, rows_from}
use Rattle.image_numbers.proofs.Places.{length_at, length-session, length-image}
use Rattle.image_numbers.proofs.Laws.{event-wide}

pub kind-else : (n : ℕ) → (n ≡ 0 → ⊥) → (n ≡ 1 → ⊥) → (n ≡ 2 → ⊥) → (n ≡ 3 → ⊥) → (n ≡ 4 → ⊥) → Signed ≡ kind_of n
kind-else n a b c d e = rw (ne_eqb n 0 a, ne_eqb n 1 b, ne_eqb n 2 c, ne_eqb n 3 d, ne_eqb n 4 e)

-- ---- reading

-- number j of record i
number-there : (xs : List ℕ) (at w i j p : ℕ) → p ≡ at + (w * i + j) → get_or (drop (w * i) (drop at xs)) j 0 ≡ get_or xs p 0
number-there xs at w i j p e =
    get_or-drop (w * i) (drop at xs) j 0 ∙ get_or-drop at xs (w * i + j) 0 ∙ ap (λ (q : ℕ). get_or xs q 0) (sym e)

event-there : (xs : List ℕ) (at w i p : ℕ) → p ≡ at + w * i
    → event_of (drop (w * i) (drop at xs))
    ≡ record {
      number = get_or xs p 0;
      clock = get_or xs (p + 1) 0;
      subscriber = get_or xs (p + 2) 0;
      order_type = get_or xs (p + 3) 0;
      order = get_or xs (p + 4) 0;
      high = get_or xs (p + 5) 0;
      low = get_or xs (p + 6) 0;
      kind = kind_of (get_or xs (p + 7) 0);
    }
event-there xs at w i p e =
    rw (
      number-there xs at w i 0 p (omega arith),
      number-there xs at w i 1 (p + 1) (omega arith),
      number-there xs at w i 2 (p + 2) (omega arith),
      number-there xs at w i 3 (p + 3) (omega arith),
      number-there xs at w i 4 (p + 4) (omega arith),
      number-there xs at w i 5 (p + 5) (omega arith),
      number-there xs at w i 6 (p + 6) (omega arith),
      number-there xs at w i 7 (p + 7) (omega arith),
    )

-- the event of a record
pub event-read : (xs : List ℕ) (i : ℕ) (e : EventRecord) → e ≡ event_at xs i → (k : Kind) → k ≡ kind_of e.kind
    → record {
      number = e.number;
      clock = e.clock;
      subscriber = e.subscriber;
      order_type = e.order_type;
      order = e.order;
      high = e.high;
      low = e.low;
      kind = k;
    }
    ≡ event_of (drop (event_width * i) (drop journal_at xs))
unfolding event_at
event-read xs i e is k f =
    rw (f, is) (sym (event-there xs journal_at event_width i (journal_at + i * event_width) (omega arith)))

-- one record more
pub row_next : (xs : List ℕ) (row : List Event) (i : ℕ) (e : Event) → i < length row
    → e ≡ event_of (drop (event_width * i) (drop journal_at xs)) → take i row ≡ rows_of event_width event_of i (drop journal_at xs)
    → take (i + 1) (set row i e) ≡ rows_of event_width event_of (i + 1) (drop journal_at xs)
row_next xs row i e h f g =
    rw (add-one i, take-suc-set row i e h, rows_next event_width event_of i (drop journal_at xs), g, f)

-- ---- writing

-- one record more
pub put_next : (xs : List ℕ) (row : List Event) (i : ℕ) (ys zs : List ℕ) → length xs ≡ number_count → length row ≡ record_count
    → i < record_count → ys ≡ overwrite xs journal_at (numbers_of event_numbers (take i row))
    → zs ≡ overwrite ys (journal_at + i * event_width) (event_numbers (get_or row i no_event))
    → zs ≡ overwrite xs journal_at (numbers_of event_numbers (take (i + 1) row))
put_next xs row i ys zs long rows h f g =
    let e : Event = get_or row i no_event in
    let done : List ℕ = numbers_of event_numbers (take i row) in
    let n : length (take i row) ≡ i = length-take i row ∙ omega arith in
    let m : length done ≡ i * event_width = length-numbers event_numbers event_width event-wide (take i row) ∙ omega arith in
    let more : numbers_of event_numbers (take (i + 1) row) ≡ done ++ event_numbers e =
    ap (λ (k : ℕ). numbers_of event_numbers (take k row)) (add-one i)
    ∙ ap (numbers_of event_numbers) (take-suc row i no_event (omega arith))
    ∙ numbers-append event_numbers (take i row) (e ∷ [])
    ∙ ap (λ (t : List ℕ). done ++ t) (numbers-one event_numbers e) in
    g ∙ ap (λ (t : List ℕ). overwrite t (journal_at + i * event_width) (event_numbers e)) f
    ∙ overwrite-overwrite xs journal_at (i * event_width) done (event_numbers e) m (omega arith)
    ∙ ap (overwrite xs journal_at) (sym more)

-- all numbers, one after another
pub gathered : (s : List ℕ) (row : List Event) (xs ys zs us : List ℕ) → length row ≡ record_count → length xs ≡ number_count
    → ys ≡ overwrite xs 0 (numbers_at session_places s) → zs ≡ overwrite ys journal_at (numbers_of event_numbers row)
    → us ≡ overwrite zs counts_at (count_row (counts_in s)) → us ≡ numbers_in s row
unfolding numbers_in
gathered s row xs ys zs us rows long f g h =
    let a : List ℕ = numbers_at session_places s in
    let b : List ℕ = numbers_of event_numbers row in
    let n : length a ≡ journal_at = length_at session_places s ∙ length-session in
    let m : length b ≡ event_width * length row = length-numbers event_numbers event_width event-wide row in
    let c : List ℕ = count_row (counts_in s) in
    let o : length (a ++ b) ≡ length a + length b = length-append a b in
    let p : length ((a ++ b) ++ c) ≡ length (a ++ b) + 7 = length-append (a ++ b) c in
    let two : zs ≡ overwrite xs 0 (a ++ b) =
    g ∙ ap (λ (t : List ℕ). overwrite t journal_at b) f ∙ overwrite-overwrite xs 0 journal_at a b n (omega arith) in
    h ∙ ap (λ (t : List ℕ). overwrite t counts_at c) two
    ∙ overwrite-overwrite xs 0 counts_at (a ++ b) c (omega arith) (omega arith) ∙ overwrite-all xs ((a ++ b) ++ c) (omega arith)
    ∙ append_assoc a b c

-- and all numbers of a session
pub scattered : (s xs ys zs : List ℕ) → length s ≡ session_size → ys ≡ overwrite s 0 (numbers_at image_places xs)
    → zs ≡ overwrite ys session.counts_at (count_row (counts_from counts_at xs)) → zs ≡ rows_from xs
unfolding rows_from
scattered s xs ys zs long f g =
    let a : List ℕ = numbers_at image_places xs in
    let c : List ℕ = count_row (counts_from counts_at xs) in
    let n : length a ≡ session.counts_at = length_at image_places xs ∙ length-image in
    let o : length (a ++ c) ≡ length a + 7 = length-append a c in
    g ∙ ap (λ (t : List ℕ). overwrite t session.counts_at c) f
    ∙ overwrite-overwrite s 0 session.counts_at a c n (omega arith) ∙ overwrite-all s (a ++ c) (omega arith)
