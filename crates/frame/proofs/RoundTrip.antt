-- What is written is read as it was, and what is read is written as it stood. Assumes nothing.
use Prim.Native.Nat.{ℕ, zero, suc, ◌+◌, ◌-◌, ◌*◌, ◌/◌, ◌%◌, ◌^◌, ◌≤◌, ◌<◌}
use mathlib.Core.List.{List, [], ◌∷◌, ◌++◌, append_assoc, append-nil}
use mathlib.Core.Bool.{Bool, true, false, cond, not, ◌&&◌, ◌||◌}
use mathlib.Core.Logic.{⊎_elim}
use mathlib.Core.Path.{◌≡◌, refl, sym, ap, ◌∙◌}
use native.Mathlib.Nat.{add-zero, div-add-mod', div-one, div-eq_of_lt}
use native.Mathlib.Numerals.{add-one}
use native.Mathlib.Omega.{arith}
use lib.ListN.{length, get_or, take, drop, length-append, take-append-drop}
use lib.Seq.{take-append_seam, drop-append_seam, drop-cons, drop-drop, drop-length, get_or-drop}
use lib.Arith.{digits_div, digits_mod}
use borrow.Author.Tests.{leb-true, eqb-true, eqb-false, eq-eqb, ne_eqb, le-leb}
use lib.Dec.{leb, eqb}
use Rattle.frame_table.specs.declared.fields.Fields.{Fields}
use Rattle.octets.specs.Bytes.{Bytes, number, bytes_of, field_bytes}
use Rattle.frame_table.specs.Table.{tag_count, frame_limit, data_tag, width, has, row_fits, find_form, form_of, is_form}
use Rattle.frame_table.specs.Names.{form}
use Rattle.frame_row.specs.Row.{
  well_formed,
  announced,
  stands,
  field_size,
  content,
  contents,
  behind,
  data_of,
  present,
  present_tags,
  high_of,
  low_of,
  each_from,
  piece,
  join,
}
use Rattle.frame_reader.specs.Reader.{fields_of, parse}
use Rattle.frame_table.specs.Names.{no_fields}
use Rattle.frame_writer.specs.Writer.{content_of, contents_of, frame_of, data_whole, field_writable, fields_writable, writable}
use Rattle.octets.proofs.Tests.{never, and-true}
use Rattle.octets.proofs.Numbers.{length-field_bytes, bytes_drop, bytes_take, bytes_of-number}
use Rattle.frame_table.proofs.Tags.{halves, bit_is}
use Rattle.frame_table.proofs.Forms.{form-tags-lt}
use Rattle.frame_table.proofs.Values.{width_narrow}
use Rattle.frame_row.proofs.Contents.{
  well-formed,
  Stands,
  size-cases,
  content-none,
  content-is,
  content-fit,
  content-some,
  content-long,
  length-contents,
  piece-none,
  piece-some,
}
use Rattle.frame_writer.proofs.Loops.{FieldWritable, field-writable, content-absent}

empty : (c : List ℕ) → length c ≡ 0 → c ≡ []
empty [] e = refl
empty (x ∷ c) e = absurd (omega arith)

-- ---- a row and its bytes

-- c is no content, or one of tag t
abbrev formed : ℕ → List ℕ → Bool
formed t c = eqb (length c) 0 || well_formed t c

unfoldable row_formed : ℕ → List (List ℕ) → Bool
row_formed t [] = true
row_formed t (c ∷ r) = formed t c && row_formed (t + 1) r

module _ (t : ℕ) (c x : List ℕ) where
  own-announced : announced (field_bytes t c ++ x) ≡ 3 + length c
  unfolding field_bytes
  own-announced = omega (arith, div-add-mod' (length c) 256)

  own-content : take (3 + length c - 3) (drop 3 (field_bytes t c ++ x)) ≡ c
  unfolding field_bytes
  own-content = let e : 3 + length c - 3 ≡ length c = omega arith in rw e (take-append_seam c x)

  own-tag : get_or (field_bytes t c ++ x) 0 0 ≡ t
  unfolding field_bytes
  own-tag = refl

  own-length : length (field_bytes t c ++ x) ≡ 3 + length c + length x
  own-length = length-append (field_bytes t c) x ∙ ap (λ (k : ℕ). k + length x) (length-field_bytes t c)

  module _ (h : well_formed t c ≡ true) where
    own-size : field_size t (field_bytes t c ++ x) ≡ 3 + length c
    unfolding stands field_size
    own-size =
        let n = own-length in
        let s : List ℕ = field_bytes t c ++ x in
        let long = le-leb 3 (length s) (omega arith) in
        let room = le-leb (3 + length c) (length s) (omega arith) in
        rw (own-announced, own-content, h, long, eq-eqb (get_or s 0 0) t own-tag, room)

    own-found : content t (field_bytes t c ++ x) ≡ c
    unfolding content
    own-found = rw own-size own-content

    own-rest : drop (field_size t (field_bytes t c ++ x)) (field_bytes t c ++ x) ≡ x
    own-rest = ap (λ (n : ℕ). drop n (field_bytes t c ++ x)) (own-size ∙ sym (length-field_bytes t c)) ∙ drop-append_seam (field_bytes t c) x

-- no field t is found where one with a higher tag stands
size-other : (t u : ℕ) (c x : List ℕ) → t < u → field_size t (field_bytes u c ++ x) ≡ 0
unfolding stands field_size
size-other t u c x h =
    let s : List ℕ = field_bytes u c ++ x in
    let n = own-length u c x in
    let e = own-tag u c x in
    rw (le-leb 3 (length s) (omega arith), ne_eqb (get_or s 0 0) t (λ z. omega arith))

size-nil : (t : ℕ) → field_size t [] ≡ 0
unfolding stands field_size
size-nil t = refl

size-piece : (t u : ℕ) (c x : List ℕ) (b : Bool) → eqb (length c) 0 ≡ b → t < u → field_size t x ≡ 0 → field_size t (piece u c ++ x) ≡ 0
size-piece t u c x true e h z = rw (piece-none u c (eqb-true (length c) 0 e)) z
size-piece t u c x false e h z = rw (piece-some u c (eqb-false (length c) 0 e)) (size-other t u c x h)

size-join : (t u : ℕ) (r : List (List ℕ)) → t < u → field_size t (join u r) ≡ 0
unfolding join
size-join t u [] h = size-nil t
size-join t u (c ∷ r) h = size-piece t u c (join (u + 1) r) (eqb (length c) 0) refl h (size-join t (u + 1) r (omega arith))

front-again : (t : ℕ) (c x : List ℕ) (b : Bool) → eqb (length c) 0 ≡ b → b || well_formed t c ≡ true → field_size t x ≡ 0
    → (content t (piece t c ++ x) ≡ c) × (drop (field_size t (piece t c ++ x)) (piece t c ++ x) ≡ x)
front-again t c x true e h z =
    let n = eqb-true (length c) 0 e in
    rw (piece-none t c n) (content-none t x z ∙ sym (empty c n), ap (λ (k : ℕ). drop k x) z)
front-again t c x false e h z = rw (piece-some t c (eqb-false (length c) 0 e)) (own-found t c x h, own-rest t c x h)

-- a row is found again in its bytes, and nothing is behind it
row-again : (t : ℕ) (r : List (List ℕ)) → row_formed t r ≡ true
    → (contents (length r) t (join t r) ≡ r) × (behind (length r) t (join t r) ≡ [])
unfolding row_formed contents behind join
row-again t [] h = (refl, refl)
row-again t (c ∷ r) h =
    let a = and-true (formed t c) (row_formed (t + 1) r) h in
    let f = front-again t c (join (t + 1) r) (eqb (length c) 0) refl a.0 (size-join t (t + 1) r (omega arith)) in
    let i = row-again (t + 1) r a.1 in
    (rw (f.0, f.1, i.0), ap (behind (length r) (t + 1)) f.1 ∙ i.1)

-- ---- bytes and their row

three : (s : List ℕ) → 3 ≤ length s → s ≡ get_or s 0 0 ∷ get_or s 1 0 ∷ get_or s 2 0 ∷ drop 3 s
three [] h = absurd (omega arith)
three (x ∷ []) h = absurd (omega arith)
three (x ∷ y ∷ []) h = absurd (omega arith)
three (x ∷ y ∷ z ∷ r) h = refl

module _ (t : ℕ) (s : List ℕ) (b : Bytes s) where
  front-is : Stands t s → field_bytes t (content t s) ++ drop (field_size t s) s ≡ s
  unfolding field_bytes
  front-is e =
      let m = e.room in
      let c : List ℕ = content t s in
      let k : ℕ = announced s - 3 in
      let n : length c ≡ get_or s 1 0 * 256 + get_or s 2 0 = content-long t s e ∙ omega arith in
      let hi : length c / 256 ≡ get_or s 1 0 = ap (λ (v : ℕ). v / 256) n ∙ digits_div (get_or s 1 0) (b 2) in
      let lo : length c % 256 ≡ get_or s 2 0 = ap (λ (v : ℕ). v % 256) n ∙ digits_mod (get_or s 1 0) (b 2) in
      let u : announced s ≡ 3 + k = omega arith in
      let d : drop (announced s) s ≡ drop k (drop 3 s) = ap (λ (v : ℕ). drop v s) u ∙ sym (drop-drop k 3 s) in
      let q : c ++ drop (field_size t s) s ≡ drop 3 s = rw (content-is t s e, e.is, d) (take-append-drop k (drop 3 s)) in
      rw (hi, lo, q, ← e.tag) (sym (three s (omega arith)))

  piece_is : piece t (content t s) ++ drop (field_size t s) s ≡ s
  piece_is =
      ⊎_elim (λ e. rw (content-none t s e, piece-none t [] refl, e))
      (λ (e : Stands t s). rw (piece-some t (content t s) (content-some t s e)) (front-is e))
      (size-cases t s)

  front-formed : formed t (content t s) ≡ true
  front-formed =
      ⊎_elim (λ e. rw (content-none t s e))
      (λ (e : Stands t s). rw (ne_eqb (length (content t s)) 0 (content-some t s e)) (content-fit t s e))
      (size-cases t s)

-- the row of any bytes, and what is behind it, are the bytes; and each content is one of its tag
bytes-again : (k t : ℕ) (s : List ℕ) → Bytes s → (join t (contents k t s) ++ behind k t s ≡ s) × (row_formed t (contents k t s) ≡ true)
unfolding contents behind join row_formed
bytes-again zero t s b = (refl, refl)
bytes-again (suc k) t s b =
    let i = bytes-again k (t + 1) (drop (field_size t s) s) (bytes_drop (field_size t s) s b) in
    (append_assoc (piece t (content t s)) _ _ ∙ rw i.0 (piece_is t s b), rw (front-formed t s b) i.1)

content-bytes : (k t : ℕ) (s : List ℕ) → Bytes s → (i : ℕ) → Bytes (get_or (contents k t s) i [])
unfolding contents content
content-bytes zero t s b i = λ j. omega arith
content-bytes (suc k) t s b zero = bytes_take (field_size t s - 3) (drop 3 s) (bytes_drop 3 s b)
content-bytes (suc k) t s b (suc i) = content-bytes k (t + 1) (drop (field_size t s) s) (bytes_drop (field_size t s) s b) i

content-at : (k t i : ℕ) (s : List ℕ) → i < k → get_or (contents k t s) i [] ≡ content (t + i) (behind i t s)
unfolding contents behind
content-at zero t i s h = absurd (omega arith)
content-at (suc k) t zero s h = ap (λ (n : ℕ). content n s) (sym (add-zero t))
content-at (suc k) t (suc i) s h =
    let e : t + 1 + i ≡ t + suc i = omega arith in
    let more : List ℕ = drop (field_size t s) s in
    content-at k (t + 1) i more (omega arith) ∙ ap (λ (n : ℕ). content n (behind i (t + 1) more)) e

pub data_is : (s : List ℕ) → data_of s ≡ get_or (contents tag_count 0 s) data_tag []
unfolding data_of
data_is s = sym (content-at tag_count 0 data_tag s (omega arith))

-- ---- from the fields to the row

module _ (f : Fields) (d : List ℕ) where
  abbrev c : ℕ → List ℕ
  c t = content_of t f d

  module _ (t : ℕ) (g : FieldWritable t f d) where
    some : has f.tags t ≡ true → length (c t) ≡ 0 → ⊥
    some e z = let k = (well-formed t (c t) (g.fit e)).some in omega arith

    present-is : (b : Bool) → has f.tags t ≡ b → present (length (c t)) ≡ f.tags / 2 ^ t % 2
    present-is true e = rw (ne_eqb (length (c t)) 0 (some e)) (sym (bit_is f.tags t true e))
    present-is false e = rw (content-absent t f d e) (sym (bit_is f.tags t false e))

    content-formed : (b : Bool) → has f.tags t ≡ b → formed t (c t) ≡ true
    content-formed false e = rw (content-absent t f d e)
    content-formed true e = rw (ne_eqb (length (c t)) 0 (some e)) (g.fit e)

  abbrev all : ℕ → ℕ → Bool
  all k t = fields_writable k t f d

  row-formed : (k t : ℕ) → all k t ≡ true → row_formed t (contents_of k t f d) ≡ true
  unfolding fields_writable row_formed contents_of
  row-formed zero t h = refl
  row-formed (suc k) t h =
      let a = and-true (field_writable t f d) (all k (t + 1)) h in
      rw (content-formed t (field-writable t f d a.0) (has f.tags t) refl) (row-formed k (t + 1) a.1)

  length-row : (k t : ℕ) → length (contents_of k t f d) ≡ k
  unfolding contents_of
  length-row zero t = refl
  length-row (suc k) t = ap suc (length-row k (t + 1))

  row-tags : (k t : ℕ) → all k t ≡ true → f.tags < 2 ^ (t + k) → present_tags (contents_of k t f d) ≡ f.tags / 2 ^ t
  unfolding fields_writable present_tags contents_of
  row-tags zero t h s = sym (div-eq_of_lt (rw add-zero at s))
  row-tags (suc k) t h s =
      let a = and-true (field_writable t f d) (all k (t + 1)) h in
      let e : t + suc k ≡ t + 1 + k = omega arith in
      let p = present-is t (field-writable t f d a.0) (has f.tags t) refl in
      rw (p, row-tags k (t + 1) a.1 (rw e at s)) (sym (halves f.tags t))

  -- one argument for the high and for the low numbers
  row-numbers : (g : ℕ → List ℕ → ℕ) (l : List ℕ) → ((t : ℕ) → FieldWritable t f d → g t (c t) ≡ get_or l t 0)
      → (k t : ℕ) → all k t ≡ true → length l ≡ t + k → each_from g t (contents_of k t f d) ≡ drop t l
  unfolding fields_writable each_from contents_of
  row-numbers g l r zero t h s = sym (rw (← (s ∙ add-zero t)) (drop-length l))
  row-numbers g l r (suc k) t h s =
      let a = and-true (field_writable t f d) (all k (t + 1)) h in
      let i = row-numbers g l r k (t + 1) a.1 (omega arith) in
      rw (r t (field-writable t f d a.0), i, add-one t) (sym (drop-cons l t 0 (omega arith)))

  -- each field of a row that can be written can be, and its content is in the row
  pub writable-at : (k t i : ℕ) → all k t ≡ true → i < k
      → (field_writable (t + i) f d ≡ true) × (get_or (contents_of k t f d) i [] ≡ content_of (t + i) f d)
  unfolding fields_writable contents_of
  writable-at zero t i h k = absurd (omega arith)
  writable-at (suc k) t zero h j =
      let a = and-true (field_writable t f d) (all k (t + 1)) h in
      (ap (λ (n : ℕ). field_writable n f d) (add-zero t) ∙ a.0, ap c (sym (add-zero t)))
  writable-at (suc k) t (suc i) h j =
      let e : t + 1 + i ≡ t + suc i = omega arith in
      let r = writable-at k (t + 1) i (and-true (field_writable t f d) (all k (t + 1)) h).1 (omega arith) in
      (ap (λ (n : ℕ). field_writable n f d) (sym e) ∙ r.0, r.1 ∙ ap c e)

  data-content : (b : Bool) → has f.tags data_tag ≡ b → FieldWritable data_tag f d → content_of data_tag f d ≡ d
  unfolding content_of data_whole
  data-content true e g = rw e
  data-content false e g =
      let k = eqb-true _ _ g.whole in
      let n = ap length (content-absent data_tag f d e) in
      rw e (sym (empty d (sym k ∙ n)))

-- ---- what is written is read

-- the number lists have a number for each tag, as in every value of the code
abbrev pub Sized : Fields → Type 0
Sized f = (length f.high ≡ tag_count) × (length f.low ≡ tag_count)

module _ (f : Fields) (d : List ℕ) (long : Sized f) (h : writable f d ≡ true) where
  accepted-is : (is_form (form f) ≡ true) × (fields_writable tag_count 0 f d ≡ true) × (length (frame_of f d) ≤ frame_limit)
  unfolding writable
  accepted-is =
      let a = and-true (is_form (form f) && fields_writable tag_count 0 f d) (leb (length (frame_of f d)) frame_limit) h in
      let b = and-true (is_form (form f)) (fields_writable tag_count 0 f d) a.0 in
      (b.0, b.1, leb-true _ _ a.1)

  found-again : (contents tag_count 0 (frame_of f d) ≡ contents_of tag_count 0 f d) × (behind tag_count 0 (frame_of f d) ≡ [])
  unfolding frame_of
  found-again =
      rw (length-row f d tag_count 0) at (row-again 0 (contents_of tag_count 0 f d) (row-formed f d tag_count 0 accepted-is.1))

  pub parse-frame_of : parse (frame_of f d) ≡ f
  unfolding parse fields_of
  parse-frame_of =
      let r : List (List ℕ) = contents_of tag_count 0 f d in
      let all = accepted-is.1 in
      let a : present_tags r ≡ f.tags = row-tags f d tag_count 0 all (form-tags-lt f.tags _ accepted-is.0) ∙ div-one f.tags in
      let b : each_from high_of 0 r ≡ f.high = row-numbers f d high_of f.high (λ t g. g.high) tag_count 0 all long.0 in
      let e : each_from low_of 0 r ≡ f.low = row-numbers f d low_of f.low (λ t g. g.low) tag_count 0 all long.1 in
      rw (le-leb (length (frame_of f d)) frame_limit accepted-is.2, found-again.1, found-again.0, a, b, e)

  pub data_of-frame_of : data_of (frame_of f d) ≡ d
  data_of-frame_of =
      let g = writable-at f d tag_count 0 data_tag accepted-is.1 (omega arith) in
      data_is (frame_of f d) ∙ ap (λ (r : List (List ℕ)). get_or r data_tag []) found-again.0 ∙ g.1
      ∙ data-content f d (has f.tags data_tag) refl (field-writable data_tag f d g.0)

-- ---- from the row to the fields

low_bit : (b : Bool) (m : ℕ) → (cond b 0 1 + 2 * m) % 2 ≡ cond b 0 1
low_bit true m = omega arith
low_bit false m = omega arith

module _ (t : ℕ) (f : Fields) (d c : List ℕ) (h : t < tag_count) (b : Bytes c) where
  -- the number of c, written in its width, is c
  number-again : well_formed t c ≡ true → eqb t data_tag ≡ false → bytes_of (width t) (high_of t c * 2 ^ 64 + low_of t c) ≡ c
  unfolding high_of low_of
  number-again s e =
      let n = (width_narrow t h (eqb-false t data_tag e)).0 in
      rw (e, div-add-mod' (number c) (2 ^ 64)) (bytes_of-number (width t) c b ((well-formed t c s).fit (λ z. omega arith)))

  module _ (m : ℕ) (k : f.tags / 2 ^ t ≡ present (length c) + 2 * m) (hi : get_or f.high t 0 ≡ high_of t c)
      (lo : get_or f.low t 0 ≡ low_of t c) (e : t ≡ data_tag → d ≡ c) where
    data-all : (y : Bool) → eqb t data_tag ≡ y → data_whole t (length c) (length d) ≡ true
    unfolding data_whole
    data-all true q = rw (q, eq-eqb (length c) (length d) (ap length (sym (e (eqb-true t data_tag q)))))
    data-all false q = rw q

    bit : (x : Bool) → eqb (length c) 0 ≡ x → f.tags / 2 ^ t % 2 ≡ cond x 0 1
    bit x p = ap (λ (n : ℕ). n % 2) k ∙ rw p (low_bit x m)

    content-again : (x y : Bool) → eqb (length c) 0 ≡ x → eqb t data_tag ≡ y → x || well_formed t c ≡ true
        → (content_of t f d ≡ c) × (has f.tags t ≡ not x)
    unfolding content_of
    content-again true y p q s = (rw (bit true p) (sym (empty c (eqb-true (length c) 0 p))), rw (bit true p))
    content-again false true p q s = (rw (bit false p, q) (e (eqb-true t data_tag q)), rw (bit false p))
    content-again false false p q s = (rw (bit false p, q, hi, lo) (number-again s q), rw (bit false p))

    writable-again : (x y : Bool) → eqb (length c) 0 ≡ x → eqb t data_tag ≡ y → x || well_formed t c ≡ true → field_writable t f d ≡ true
    unfolding field_writable
    writable-again x y p q s =
        let r = content-again x y p q s in
        let hi' = eq-eqb (high_of t c) (get_or f.high t 0) (sym hi) in
        let lo' = eq-eqb (low_of t c) (get_or f.low t 0) (sym lo) in
        rw (r.0, r.1, hi', lo', data-all y q) (fit x s)
      where
        fit : (x : Bool) → x || well_formed t c ≡ true → not (not x) || well_formed t c ≡ true
        fit true s = refl
        fit false s = s

half : (b : Bool) (x m n : ℕ) → x ≡ cond b 0 1 + 2 * m → x ≡ x % 2 + 2 * n → n ≡ m
half true x m n p q = omega arith
half false x m n p q = omega arith

-- f and d say what the contents r of the tags from t on say
record Says (f : Fields) (d : List ℕ) (t : ℕ) (r : List (List ℕ)) : Type 0 where
  tags : f.tags / 2 ^ t ≡ present_tags r
  highs : drop t f.high ≡ each_from high_of t r
  lows : drop t f.low ≡ each_from low_of t r
  bytes : (i : ℕ) → Bytes (get_or r i [])
  whole : t ≤ data_tag → get_or r (data_tag - t) [] ≡ d

head-is : (t x : ℕ) (l r : List ℕ) → drop t l ≡ x ∷ r → (get_or l t 0 ≡ x) × (drop (t + 1) l ≡ r)
head-is t x l r e =
    let z = ap (λ (n : ℕ). get_or l n 0) (sym (add-zero t)) ∙ sym (get_or-drop t l 0 0) in
    (z ∙ ap (λ (y : List ℕ). get_or y 0 0) e, sym (drop-drop 1 t l) ∙ ap (drop 1) e)

module _ (f : Fields) (d : List ℕ) where
  says-rest : (t : ℕ) (c : List ℕ) (r : List (List ℕ)) → Says f d t (c ∷ r) → Says f d (t + 1) r
  unfolding present_tags each_from
  says-rest t c r w =
      record {
        tags = half (eqb (length c) 0) (f.tags / 2 ^ t) (present_tags r) (f.tags / 2 ^ (t + 1)) w.tags (halves f.tags t);
        highs = (head-is t (high_of t c) f.high (each_from high_of (t + 1) r) w.highs).1;
        lows = (head-is t (low_of t c) f.low (each_from low_of (t + 1) r) w.lows).1;
        bytes = λ j. w.bytes (suc j);
        whole = λ k.
            let z : data_tag - t ≡ suc (data_tag - (t + 1)) = omega arith in
            ap (λ (j : ℕ). get_or (c ∷ r) j []) (sym z) ∙ w.whole (omega arith);
      }

  row-says : (t : ℕ) (r : List (List ℕ)) → t + length r ≡ tag_count → row_formed t r ≡ true → Says f d t r
      → (contents_of (length r) t f d ≡ r) × (fields_writable (length r) t f d ≡ true)
  unfolding contents_of fields_writable row_formed present_tags each_from
  row-says t [] n s w = (refl, refl)
  row-says t (c ∷ r) n s w =
      let a = and-true (formed t c) (row_formed (t + 1) r) s in
      let hi = (head-is t (high_of t c) f.high (each_from high_of (t + 1) r) w.highs).0 in
      let lo = (head-is t (low_of t c) f.low (each_from low_of (t + 1) r) w.lows).0 in
      let e : t ≡ data_tag → d ≡ c = λ z.
      let o : data_tag - t ≡ 0 = omega arith in
      sym (w.whole (omega arith)) ∙ ap (λ (k : ℕ). get_or (c ∷ r) k []) o in
      let x : Bool = eqb (length c) 0 in
      let y : Bool = eqb t data_tag in
      let p = content-again t f d c (omega arith) (w.bytes 0) (present_tags r) w.tags hi lo e x y refl refl a.0 in
      let q = writable-again t f d c (omega arith) (w.bytes 0) (present_tags r) w.tags hi lo e x y refl refl a.0 in
      let i = row-says (t + 1) r (omega arith) a.1 (says-rest t c r w) in
      (rw (p.0, i.0), rw (q, i.1))

-- ---- what is read is written

no_fields-form : is_form (form no_fields) ≡ false
unfolding form_of find_form row_fits
no_fields-form = refl

module _ (s : List ℕ) (h : is_form (form (parse s)) ≡ true) where
  record Readable : Type 0 where
    most : length s ≤ frame_limit
    end : behind tag_count 0 s ≡ []
    is : parse s ≡ fields_of (contents tag_count 0 s)

  abbrev fit : Bool
  fit = leb (length s) frame_limit && eqb (length (behind tag_count 0 s)) 0

  readable-at : (b : Bool) → fit ≡ b → Readable
  unfolding parse
  readable-at false e =
      let z : parse s ≡ no_fields = rw e in
      never (sym no_fields-form ∙ ap (λ (f : Fields). is_form (form f)) (sym z) ∙ h)
  readable-at true e =
      let a = and-true (leb (length s) frame_limit) (eqb (length (behind tag_count 0 s)) 0) e in
      record { most = leb-true _ _ a.0; end = empty (behind tag_count 0 s) (eqb-true _ _ a.1); is = rw e }

  readable : Readable
  readable = readable-at fit refl

  -- a frame of some form says what its contents are
  pub parsed-is : parse s ≡ fields_of (contents tag_count 0 s)
  parsed-is = readable.is

  module _ (b : Bytes s) where
    pub parsed-says : (contents_of tag_count 0 (parse s) (data_of s) ≡ contents tag_count 0 s)
        × (fields_writable tag_count 0 (parse s) (data_of s) ≡ true)
    unfolding fields_of
    parsed-says =
        let r : List (List ℕ) = contents tag_count 0 s in
        let f : Fields = fields_of r in
        let n = length-contents tag_count 0 s in
        let w : Says f (data_of s) 0 r =
        record {
          tags = div-one (present_tags r);
          highs = refl;
          lows = refl;
          bytes = content-bytes tag_count 0 s b;
          whole = λ k. sym (data_is s);
        } in
        let i = row-says f (data_of s) 0 r (omega (arith, n)) (bytes-again tag_count 0 s b).1 w in
        rw readable.is (rw n at i)

    pub frame_of-parse : frame_of (parse s) (data_of s) ≡ s
    unfolding frame_of
    frame_of-parse =
        let r : List ℕ = join 0 (contents tag_count 0 s) in
        ap (join 0) parsed-says.0 ∙ sym (append-nil r) ∙ ap (λ (l : List ℕ). r ++ l) (sym readable.end)
        ∙ (bytes-again tag_count 0 s b).0

    pub writable-parse : writable (parse s) (data_of s) ≡ true
    unfolding writable
    writable-parse =
        let n : length (frame_of (parse s) (data_of s)) ≤ frame_limit = omega (arith, ap length frame_of-parse, readable.most) in
        rw (h, parsed-says.1) (le-leb (length (frame_of (parse s) (data_of s))) frame_limit n)
