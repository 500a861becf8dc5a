-- The rows and the stores of the lines: their lengths, and one written over leaves the others. Assumes nothing.
use Prim.Native.Nat.{ℕ, ◌+◌, ◌*◌, ◌<◌}
use mathlib.Core.Bool.{Bool, true, false}
use mathlib.Core.List.{List}
use mathlib.Core.Path.{◌≡◌, refl, sym, ap, ◌∙◌}
use native.Mathlib.Omega.{arith}
use lib.Dec.{ltb}
use lib.ListN.{length, take, drop, length-take, length-drop}
use borrow.Author.Tests.{ltb-true, ltb-false}
use Rattle.octets.specs.Bytes.{overwrite}
use Rattle.octets.proofs.Numbers.{length-overwrite}
use Rattle.bank_state.proofs.Stores.{overwrite-same, overwrite-before, overwrite-behind}
use Rattle.line.specs.Line.{Message}
use Rattle.line.specs.Memory.{row_size, store_bytes}
use Rattle.line.specs.Calls.{make_call, put_call}
use Rattle.line.proofs.Following.{make-length, put-lengths}
use Rattle.unit_state.specs.Records.{line_count}
use Rattle.unit_rows.specs.Lines.{lines_size, stores_bytes, Lines, row_at, store_at, with_row, with_store, made_at, put_at}

-- ---- rows

module _ (rows : List ℕ) (long : length rows ≡ lines_size) (i : ℕ) (h : i < line_count) where
  pub row-long : length (row_at rows i) ≡ row_size
  unfolding row_at
  row-long =
      let d = length-drop (i * row_size) rows in
      let t = length-take row_size (drop (i * row_size) rows) in
      omega arith

  module _ (x : List ℕ) (e : length x ≡ row_size) where
    inside : i * row_size + length x < length rows + 1
    inside = omega arith

    pub with-row : length (with_row rows i x) ≡ lines_size
    unfolding with_row
    with-row = length-overwrite rows (i * row_size) x (omega (arith, inside)) ∙ long

    pub row_same : row_at (with_row rows i x) i ≡ x
    unfolding row_at with_row
    row_same =
        ap (λ (n : ℕ). take n (drop (i * row_size) (overwrite rows (i * row_size) x))) (sym e)
        ∙ overwrite-same rows (i * row_size) x (omega (arith, inside))

    row-other-at : (j : ℕ) (t : Bool) → ltb j i ≡ t → (j ≡ i → ⊥) → row_at (with_row rows i x) j ≡ row_at rows j
    unfolding row_at with_row
    row-other-at j true l n =
        overwrite-before rows (i * row_size) x (omega (arith, inside)) (j * row_size) row_size (omega (arith, ltb-true j i l))
    row-other-at j false l n =
        ap (take row_size) (overwrite-behind rows (i * row_size) x (omega (arith, inside)) (j * row_size) (omega (arith, ltb-false j i l)))

    pub row_other : (j : ℕ) → (j ≡ i → ⊥) → row_at (with_row rows i x) j ≡ row_at rows j
    row_other j = row-other-at j (ltb j i) refl

-- ---- stores

module _ (stores : List ℕ) (wide : length stores ≡ stores_bytes) (i : ℕ) (h : i < line_count) where
  pub store_long : length (store_at stores i) ≡ store_bytes
  unfolding store_at
  store_long =
      let d = length-drop (i * store_bytes) stores in
      let t = length-take store_bytes (drop (i * store_bytes) stores) in
      omega arith

  module _ (x : List ℕ) (e : length x ≡ store_bytes) where
    within : i * store_bytes + length x < length stores + 1
    within = omega arith

    pub with-store : length (with_store stores i x) ≡ stores_bytes
    unfolding with_store
    with-store = length-overwrite stores (i * store_bytes) x (omega (arith, within)) ∙ wide

    pub store_same : store_at (with_store stores i x) i ≡ x
    unfolding store_at with_store
    store_same =
        ap (λ (n : ℕ). take n (drop (i * store_bytes) (overwrite stores (i * store_bytes) x))) (sym e)
        ∙ overwrite-same stores (i * store_bytes) x (omega (arith, within))

    store-other-at : (j : ℕ) (t : Bool) → ltb j i ≡ t → (j ≡ i → ⊥) → store_at (with_store stores i x) j ≡ store_at stores j
    unfolding store_at with_store
    store-other-at j true l n =
        overwrite-before stores (i * store_bytes) x (omega (arith, within)) (j * store_bytes) store_bytes (omega (arith, ltb-true j i l))
    store-other-at j false l n =
        ap (take store_bytes)
        (overwrite-behind stores (i * store_bytes) x (omega (arith, within)) (j * store_bytes) (omega (arith, ltb-false j i l)))

    pub store_other : (j : ℕ) → (j ≡ i → ⊥) → store_at (with_store stores i x) j ≡ store_at stores j
    store_other j = store-other-at j (ltb j i) refl

-- ---- after a call on line i

module _ (m : Lines) (long : length m.rows ≡ lines_size) (wide : length m.stores ≡ stores_bytes) (i : ℕ) (h : i < line_count) where
  abbrev row : List ℕ
  row = row_at m.rows i

  abbrev store : List ℕ
  store = store_at m.stores i

  module _ (seed : ℕ) where
    made-long : length (make_call row store seed).row ≡ row_size
    made-long = make-length row store seed ∙ row-long m.rows long i h

    pub made-rows : length (made_at m i seed).lines.rows ≡ lines_size
    unfolding made_at
    made-rows = with-row m.rows long i h _ made-long

    pub made_row : row_at (made_at m i seed).lines.rows i ≡ (make_call row store seed).row
    unfolding made_at
    made_row = row_same m.rows long i h _ made-long

    pub made_other : (j : ℕ) → (j ≡ i → ⊥) → row_at (made_at m i seed).lines.rows j ≡ row_at m.rows j
    unfolding made_at
    made_other = row_other m.rows long i h _ made-long

  module _ (x : Message) (buffer : List ℕ) where
    put-long : length (put_call row store x buffer).row ≡ row_size
    put-long = (put-lengths row store x buffer).0 ∙ row-long m.rows long i h

    put-wide : length (put_call row store x buffer).store ≡ store_bytes
    put-wide = (put-lengths row store x buffer).1 ∙ store_long m.stores wide i h

    pub put-rows : length (put_at m i x buffer).lines.rows ≡ lines_size
    unfolding put_at
    put-rows = with-row m.rows long i h _ put-long

    pub put-stores : length (put_at m i x buffer).lines.stores ≡ stores_bytes
    unfolding put_at
    put-stores = with-store m.stores wide i h _ put-wide

    pub put-row : row_at (put_at m i x buffer).lines.rows i ≡ (put_call row store x buffer).row
    unfolding put_at
    put-row = row_same m.rows long i h _ put-long

    pub put-store : store_at (put_at m i x buffer).lines.stores i ≡ (put_call row store x buffer).store
    unfolding put_at
    put-store = store_same m.stores wide i h _ put-wide

    pub put-other-row : (j : ℕ) → (j ≡ i → ⊥) → row_at (put_at m i x buffer).lines.rows j ≡ row_at m.rows j
    unfolding put_at
    put-other-row = row_other m.rows long i h _ put-long

    pub put-other-store : (j : ℕ) → (j ≡ i → ⊥) → store_at (put_at m i x buffer).lines.stores j ≡ store_at m.stores j
    unfolding put_at
    put-other-store = store_other m.stores wide i h _ put-wide
