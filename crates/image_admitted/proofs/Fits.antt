-- What the codec asks of numbers, "each number has no more bytes than its part", said by groups of records. Assumes
-- nothing.
use Prim.Native.Nat.{ℕ, zero, suc, ◌+◌, ◌-◌, ◌*◌, ◌^◌, ◌≤◌, ◌<◌}
use mathlib.Core.Bool.{Bool, true, false}
use mathlib.Core.List.{List, [], ◌∷◌}
use mathlib.Core.Path.{◌≡◌, refl, ap, ◌∙◌}
use native.Mathlib.Nat.{mul-le-mul_right}
use native.Mathlib.Omega.{arith}
use lib.Dec.{eqb, ltb}
use lib.ListN.{length, get_or, drop}
use lib.Seq.{get_or-drop}
use borrow.Author.Tests.{eqb-true, ltb-true, ltb-false, lt-ltb}
use Rattle.octets.proofs.Tests.{and-true}
use Rattle.bank_state.specs.Limits.{place_count, nonce_count}
use Rattle.journal.specs.Events.{record_count}
use Rattle.image.specs.Table.{row_at, time_bytes}
use Rattle.image.specs.Items.{
  Item,
  constant,
  part,
  store,
  part_items,
  record_items,
  store_items,
  content_items,
  field_items,
  image_items,
}
use Rattle.image.specs.Image.{fits}
use Rattle.image_records.specs.declared.layout.NonceRecord.{NonceRecord}
use Rattle.image_records.specs.declared.layout.DownloadRecord.{DownloadRecord}
use Rattle.image_records.specs.declared.layout.PlaceRecord.{PlaceRecord}
use Rattle.image_records.specs.declared.layout.EventRecord.{EventRecord}
use Rattle.image_records.specs.Shapes.{every}
use Rattle.image_records.specs.Layout as image
use Rattle.image_records.proofs.Shapes.{every-at}
use Rattle.image_records.proofs.General.{Below, below_at, by-record}

-- ---- the lengths of the parts, in their order

unfoldable widths : List Item → List ℕ
widths [] = []
widths (constant w v ∷ l) = widths l
widths (part w ∷ l) = w ∷ widths l
widths (store z ∷ l) = widths l

behind : (xs : List ℕ) (p : ℕ) → get_or (drop 1 xs) p 0 ≡ get_or xs (suc p) 0
behind xs p =
    let e : 1 + p ≡ suc p = omega arith in
    get_or-drop 1 xs p 0 ∙ ap (λ (k : ℕ). get_or xs k 0) e

fits-at : (l : List Item) (xs : List ℕ) → fits l xs ≡ true → (p : ℕ) → p < length (widths l)
    → get_or xs p 0 < 256 ^ get_or (widths l) p 0
unfolding fits widths
fits-at [] xs h p k = absurd (omega arith)
fits-at (constant w v ∷ l) xs h p k = fits-at l xs h p k
fits-at (part w ∷ l) xs h zero k = ltb-true (get_or xs 0 0) (256 ^ w) (and-true (ltb (get_or xs 0 0) (256 ^ w)) _ h).0
fits-at (part w ∷ l) xs h (suc p) k =
    let a = and-true (ltb (get_or xs 0 0) (256 ^ w)) _ h in
    rw (behind xs p) at (fits-at l (drop 1 xs) a.1 p (omega arith))
fits-at (store z ∷ l) xs h p k = fits-at l xs h p k

fits-from : (l : List Item) (xs : List ℕ)
    → ((p : ℕ) → p < length (widths l) → get_or xs p 0 < 256 ^ get_or (widths l) p 0) → fits l xs ≡ true
unfolding fits widths
fits-from [] xs f = refl
fits-from (constant w v ∷ l) xs f = fits-from l xs f
fits-from (part w ∷ l) xs f =
    rw (lt-ltb (get_or xs 0 0) (256 ^ w) (f 0 (omega arith)))
    (fits-from l (drop 1 xs) (λ p k. rw (behind xs p) (f (suc p) (omega arith))))
fits-from (store z ∷ l) xs f = fits-from l xs f

-- ---- the groups of records

unfoldable part_widths : List ℕ
part_widths = widths image_items

-- from a place on stand so many records whose parts have these lengths
unfoldable stands : ℕ → List ℕ → ℕ → Bool
stands at ws records =
    every (λ i. every (λ k. eqb (get_or part_widths (at + (i * length ws + k)) 0) (get_or ws k 0)) (length ws)) records

abbrev pub head_widths : List ℕ
head_widths = time_bytes ∷ 8 ∷ []

abbrev pub series_widths : List ℕ
series_widths = 4 ∷ []

-- the events entered and the nonces remembered
abbrev pub count_widths : List ℕ
count_widths = 8 ∷ 1 ∷ []

abbrev pub nonce_widths : List ℕ
nonce_widths = 8 ∷ 8 ∷ time_bytes ∷ []

abbrev pub download_widths : List ℕ
download_widths = 2 ∷ 8 ∷ 8 ∷ 2 ∷ 1 ∷ time_bytes ∷ []

abbrev pub place_widths : List ℕ
place_widths = 1 ∷ 2 ∷ 8 ∷ 8 ∷ 4 ∷ 2 ∷ 2 ∷ 1 ∷ time_bytes ∷ 2 ∷ 1 ∷ []

abbrev pub event_widths : List ℕ
event_widths = 8 ∷ time_bytes ∷ 2 ∷ 3 ∷ 4 ∷ 8 ∷ 8 ∷ 1 ∷ []

all-parts : length part_widths ≡ image.number_count
unfolding part_widths widths image_items field_items content_items record_items part_items store_items row_at
all-parts = refl

head-stands : stands image.clock_at head_widths 1 ≡ true
unfolding stands every part_widths widths image_items field_items content_items record_items part_items store_items row_at
head-stands = refl

series-stand : stands image.series_at series_widths place_count ≡ true
unfolding stands every part_widths widths image_items field_items content_items record_items part_items store_items row_at
series-stand = refl

counts-stand : stands image.events_at count_widths 1 ≡ true
unfolding stands every part_widths widths image_items field_items content_items record_items part_items store_items row_at
counts-stand = refl

nonces-stand : stands image.nonces_at nonce_widths nonce_count ≡ true
unfolding stands every part_widths widths image_items field_items content_items record_items part_items store_items row_at
nonces-stand = refl

count-stands : stands image.download_count_at (1 ∷ []) 1 ≡ true
unfolding stands every part_widths widths image_items field_items content_items record_items part_items store_items row_at
count-stands = refl

downloads-stand : stands image.downloads_at download_widths place_count ≡ true
unfolding stands every part_widths widths image_items field_items content_items record_items part_items store_items row_at
downloads-stand = refl

places-stand : stands image.places_at place_widths place_count ≡ true
unfolding stands every part_widths widths image_items field_items content_items record_items part_items store_items row_at
places-stand = refl

files-stand : stands image.files_at (2 ∷ []) place_count ≡ true
unfolding stands every part_widths widths image_items field_items content_items record_items part_items store_items row_at
files-stand = refl

journal-stands : stands image.journal_at event_widths record_count ≡ true
unfolding stands every part_widths widths image_items field_items content_items record_items part_items store_items row_at
journal-stands = refl

seven-stand : stands image.counts_at (8 ∷ []) image.count_size ≡ true
unfolding stands every part_widths widths image_items field_items content_items record_items part_items store_items row_at
seven-stand = refl

-- record i of a group has no part too long
abbrev pub Group : List ℕ → ℕ → List ℕ → ℕ → Type 0
Group xs at ws i = Below (λ (k : ℕ). get_or xs (at + (i * length ws + k)) 0 < 256 ^ get_or ws k 0) (length ws)

module _ (at : ℕ) (ws : List ℕ) (records : ℕ) (s : stands at ws records ≡ true)
    (inside : at + records * length ws ≤ image.number_count) (some : 0 < length ws) (xs : List ℕ) where
  width_is : (i k : ℕ) → i < records → k < length ws → get_or part_widths (at + (i * length ws + k)) 0 ≡ get_or ws k 0
  unfolding stands
  width_is i k h l =
      let one : ℕ → ℕ → Bool = λ n p. eqb (get_or part_widths (at + (n * length ws + p)) 0) (get_or ws p 0) in
      eqb-true _ _ (every-at (one i) (length ws) k (every-at (λ n. every (one n) (length ws)) records i s h) l)

  part-fits : fits image_items xs ≡ true → (i k q : ℕ) → i < records → k < length ws
      → q ≡ at + (i * length ws + k) → get_or xs q 0 < 256 ^ get_or ws k 0
  unfolding part_widths
  part-fits f i k q h l e =
      rw (e, ← width_is i k h l)
      (fits-at image_items xs f (at + (i * length ws + k))
      (omega (arith, all-parts, mul-le-mul_right (length ws) h)))

  group-fits : ((i : ℕ) → i < records → Group xs at ws i) → (p : ℕ) → at ≤ p → p < at + records * length ws
      → get_or xs p 0 < 256 ^ get_or part_widths p 0
  group-fits f p low high =
      let e : at + (p - at) ≡ p = omega arith in
      rw e at (by-record (length ws) 0 records some (λ (j : ℕ). get_or xs (at + j) 0 < 256 ^ get_or part_widths (at + j) 0)
      (λ i k a b c. rw (width_is i k b c) (below_at (λ (j : ℕ). get_or xs (at + (i * length ws + j)) 0 < 256 ^ get_or ws j 0) (length ws) (f i b) k c))
      (p - at) (omega arith) (omega arith))

-- ---- what the codec tells of transactions and nonces

module _ (xs : List ℕ) (f : fits image_items xs ≡ true) (i : ℕ) where
  pub nonce-words : i < nonce_count → ((image.nonce_at xs i).high < 2 ^ 64) × ((image.nonce_at xs i).low < 2 ^ 64)
  unfolding image.nonce_at
  nonce-words h =
      let at = part-fits image.nonces_at nonce_widths nonce_count nonces-stand (omega arith) (omega arith) xs f i in
      (at 0 _ h (omega arith) (omega arith), at 1 _ h (omega arith) (omega arith))

  pub download-words : i < place_count → ((image.download_at xs i).high < 2 ^ 64) × ((image.download_at xs i).low < 2 ^ 64)
  unfolding image.download_at
  download-words h =
      let at = part-fits image.downloads_at download_widths place_count downloads-stand (omega arith) (omega arith) xs f i in
      (at 1 _ h (omega arith) (omega arith), at 2 _ h (omega arith) (omega arith))

  pub place-words : i < place_count → ((image.place_at xs i).high < 2 ^ 64) × ((image.place_at xs i).low < 2 ^ 64)
  unfolding image.place_at
  place-words h =
      let at = part-fits image.places_at place_widths place_count places-stand (omega arith) (omega arith) xs f i in
      (at 2 _ h (omega arith) (omega arith), at 3 _ h (omega arith) (omega arith))

  pub place-signers : i < place_count → (image.place_at xs i).signers < 256 ^ 1
  unfolding image.place_at
  place-signers h =
      part-fits image.places_at place_widths place_count places-stand (omega arith) (omega arith) xs f i 10 _ h (omega arith) (omega arith)

  pub event-word : i < record_count → (image.event_at xs i).high < 2 ^ 64
  unfolding image.event_at
  event-word h =
      part-fits image.journal_at event_widths record_count journal-stands (omega arith) (omega arith) xs f i 5 _ h (omega arith) (omega arith)

-- ---- a record's parts

module _ (xs : List ℕ) where
  -- a part by another name of its place
  part_of : (p q w : ℕ) {x : ℕ} → p ≡ q → get_or xs p 0 ≡ x → x < w → get_or xs q 0 < w
  part_of p q w e f h = rw (← e, f) h

  module _ (i : ℕ) where
    pub nonce-group : (r : NonceRecord) → image.nonce_at xs i ≡ r
        → r.high < 256 ^ 8 → r.low < 256 ^ 8 → r.timestamp < 256 ^ time_bytes
        → Group xs image.nonces_at nonce_widths i
    unfolding image.nonce_at
    nonce-group r e high low timestamp =
        let at = image.nonces_at + i * image.nonce_width in (
          (
            (
              tt,
              part_of at _ _ (omega arith) (ap (λ (x : NonceRecord). x.high) e) high,
            ),
            part_of (at + 1) _ _ (omega arith) (ap (λ (x : NonceRecord). x.low) e) low,
          ),
          part_of (at + 2) _ _ (omega arith) (ap (λ (x : NonceRecord). x.timestamp) e) timestamp,
        )

    pub download-group : (r : DownloadRecord) → image.download_at xs i ≡ r
        → r.subscriber < 256 ^ 2 → r.high < 256 ^ 8 → r.low < 256 ^ 8 → r.delivered < 256 ^ 2
        → r.attempts < 256 ^ 1 → r.last < 256 ^ time_bytes
        → Group xs image.downloads_at download_widths i
    unfolding image.download_at
    download-group r e subscriber high low delivered attempts last =
        let at = image.downloads_at + i * image.download_width in (
          (
            (
              (
                (
                  (
                    tt,
                    part_of at _ _ (omega arith) (ap (λ (x : DownloadRecord). x.subscriber) e) subscriber,
                  ),
                  part_of (at + 1) _ _ (omega arith) (ap (λ (x : DownloadRecord). x.high) e) high,
                ),
                part_of (at + 2) _ _ (omega arith) (ap (λ (x : DownloadRecord). x.low) e) low,
              ),
              part_of (at + 3) _ _ (omega arith) (ap (λ (x : DownloadRecord). x.delivered) e) delivered,
            ),
            part_of (at + 4) _ _ (omega arith) (ap (λ (x : DownloadRecord). x.attempts) e) attempts,
          ),
          part_of (at + 5) _ _ (omega arith) (ap (λ (x : DownloadRecord). x.last) e) last,
        )

    pub place-group : (r : PlaceRecord) → image.place_at xs i ≡ r
        → r.state < 256 ^ 1 → r.subscriber < 256 ^ 2 → r.high < 256 ^ 8 → r.low < 256 ^ 8
        → r.order < 256 ^ 4 → r.segments < 256 ^ 2 → r.taken < 256 ^ 2 → r.attempts < 256 ^ 1
        → r.last < 256 ^ time_bytes → r.length < 256 ^ 2 → r.signers < 256 ^ 1
        → Group xs image.places_at place_widths i
    unfolding image.place_at
    place-group r e state subscriber high low order segments taken attempts last size signers =
        let at = image.places_at + i * image.place_width in (
          (
            (
              (
                (
                  (
                    (
                      (
                        (
                          (
                            (
                              tt,
                              part_of at _ _ (omega arith) (ap (λ (x : PlaceRecord). x.state) e) state,
                            ),
                            part_of (at + 1) _ _ (omega arith) (ap (λ (x : PlaceRecord). x.subscriber) e) subscriber,
                          ),
                          part_of (at + 2) _ _ (omega arith) (ap (λ (x : PlaceRecord). x.high) e) high,
                        ),
                        part_of (at + 3) _ _ (omega arith) (ap (λ (x : PlaceRecord). x.low) e) low,
                      ),
                      part_of (at + 4) _ _ (omega arith) (ap (λ (x : PlaceRecord). x.order) e) order,
                    ),
                    part_of (at + 5) _ _ (omega arith) (ap (λ (x : PlaceRecord). x.segments) e) segments,
                  ),
                  part_of (at + 6) _ _ (omega arith) (ap (λ (x : PlaceRecord). x.taken) e) taken,
                ),
                part_of (at + 7) _ _ (omega arith) (ap (λ (x : PlaceRecord). x.attempts) e) attempts,
              ),
              part_of (at + 8) _ _ (omega arith) (ap (λ (x : PlaceRecord). x.last) e) last,
            ),
            part_of (at + 9) _ _ (omega arith) (ap (λ (x : PlaceRecord). x.length) e) size,
          ),
          part_of (at + 10) _ _ (omega arith) (ap (λ (x : PlaceRecord). x.signers) e) signers,
        )

    pub event-group : (r : EventRecord) → image.event_at xs i ≡ r
        → r.number < 256 ^ 8 → r.clock < 256 ^ time_bytes → r.subscriber < 256 ^ 2 → r.order_type < 256 ^ 3
        → r.order < 256 ^ 4 → r.high < 256 ^ 8 → r.low < 256 ^ 8 → r.kind < 256 ^ 1
        → Group xs image.journal_at event_widths i
    unfolding image.event_at
    event-group r e number clock subscriber type order high low kind =
        let at = image.journal_at + i * image.event_width in (
          (
            (
              (
                (
                  (
                    (
                      (
                        tt,
                        part_of at _ _ (omega arith) (ap (λ (x : EventRecord). x.number) e) number,
                      ),
                      part_of (at + 1) _ _ (omega arith) (ap (λ (x : EventRecord). x.clock) e) clock,
                    ),
                    part_of (at + 2) _ _ (omega arith) (ap (λ (x : EventRecord). x.subscriber) e) subscriber,
                  ),
                  part_of (at + 3) _ _ (omega arith) (ap (λ (x : EventRecord). x.order_type) e) type,
                ),
                part_of (at + 4) _ _ (omega arith) (ap (λ (x : EventRecord). x.order) e) order,
              ),
              part_of (at + 5) _ _ (omega arith) (ap (λ (x : EventRecord). x.high) e) high,
            ),
            part_of (at + 6) _ _ (omega arith) (ap (λ (x : EventRecord). x.low) e) low,
          ),
          part_of (at + 7) _ _ (omega arith) (ap (λ (x : EventRecord). x.kind) e) kind,
        )

  -- ---- all numbers

  join : (P : ℕ → Type 0) (a b : ℕ) → ((p : ℕ) → p < a → P p) → ((p : ℕ) → a ≤ p → p < b → P p) → (p : ℕ) → p < b → P p
  join P a b f g p h = at (ltb p a) refl
    where
      at : (t : Bool) → ltb p a ≡ t → P p
      at true e = f p (ltb-true p a e)
      at false e = g p (ltb-false p a e) h

  pub groups-fit : Group xs image.clock_at head_widths 0 → ((i : ℕ) → i < place_count → image.counter_at xs i < 256 ^ 4)
      → Group xs image.events_at count_widths 0
      → ((i : ℕ) → i < nonce_count → Group xs image.nonces_at nonce_widths i)
      → get_or xs image.download_count_at 0 < 256 ^ 1
      → ((i : ℕ) → i < place_count → Group xs image.downloads_at download_widths i)
      → ((i : ℕ) → i < place_count → Group xs image.places_at place_widths i)
      → ((i : ℕ) → i < place_count → image.file_at xs i < 256 ^ 2)
      → ((i : ℕ) → i < record_count → Group xs image.journal_at event_widths i)
      → ((i : ℕ) → i < image.count_size → image.count_at xs i < 256 ^ 8) → fits image_items xs ≡ true
  unfolding part_widths image.counter_at image.file_at image.count_at
  groups-fit head series counts nonces count downloads places files journal seven =
      let Fit : ℕ → Type 0 = λ p. get_or xs p 0 < 256 ^ get_or part_widths p 0 in
      let one : (i : ℕ) → i < 1 → i ≡ 0 = λ i h. omega arith in
      fits-from image_items xs
      (rw all-parts
      (join Fit image.counts_at image.number_count
      (join Fit image.journal_at image.counts_at
      (join Fit image.files_at image.journal_at
      (join Fit image.places_at image.files_at
      (join Fit image.downloads_at image.places_at
      (join Fit image.download_count_at image.downloads_at
      (join Fit image.nonces_at image.download_count_at
      (join Fit image.events_at image.nonces_at
      (join Fit image.series_at image.events_at
      (λ p h. group-fits image.clock_at head_widths 1 head-stands (omega arith) (omega arith) xs (λ i k. rw (one i k) head) p (omega arith) h)
      (group-fits image.series_at series_widths place_count series-stand (omega arith) (omega arith) xs
      (λ i k. (tt, part_of (image.series_at + i) _ _ (omega arith) refl (series i k)))))
      (group-fits image.events_at count_widths 1 counts-stand (omega arith) (omega arith) xs (λ i k. rw (one i k) counts)))
      (group-fits image.nonces_at nonce_widths nonce_count nonces-stand (omega arith) (omega arith) xs nonces))
      (group-fits image.download_count_at (1 ∷ []) 1 count-stands (omega arith) (omega arith) xs (λ i k. rw (one i k) (tt, count))))
      (group-fits image.downloads_at download_widths place_count downloads-stand (omega arith) (omega arith) xs downloads))
      (group-fits image.places_at place_widths place_count places-stand (omega arith) (omega arith) xs places))
      (group-fits image.files_at (2 ∷ []) place_count files-stand (omega arith) (omega arith) xs
      (λ i k. (tt, part_of (image.files_at + i) _ _ (omega arith) refl (files i k)))))
      (group-fits image.journal_at event_widths record_count journal-stands (omega arith) (omega arith) xs journal))
      (group-fits image.counts_at (8 ∷ []) image.count_size seven-stand (omega arith) (omega arith) xs
      (λ i k. (tt, part_of (image.counts_at + i) _ _ (omega arith) refl (seven i k))))))
