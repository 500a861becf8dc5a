-- One line after a call on it: made, it is the line from the seed; a message put in follows the line. Assumes nothing.
use Rattle.std.specs.Prelude.{Ok, Err}
use Prim.Native.Nat.{ℕ, ◌≤◌, ◌<◌}
use mathlib.Core.Bool.{Bool, true, false, cond, not}
use mathlib.Core.List.{List}
use mathlib.Core.Path.{◌≡◌, refl, sym, ap, ◌∙◌}
use native.Mathlib.Omega.{arith}
use lib.Dec.{eqb, leb}
use lib.ListN.{length}
use borrow.Author.Tests.{eq-eqb, ne_eqb, leb-true, leb-false}
use Rattle.octets.proofs.Tests.{never}
use Rattle.number_table.specs.Numbers.{number_one}
use Rattle.line.specs.declared.calls.MakeRefusal.TheVariants as make
use Rattle.line.specs.Generator.{value_limit}
use Rattle.line.specs.Line.{Message, message_bytes, Line, made, put}
use Rattle.line.specs.Memory.{row_size, store_bytes, row_of}
use Rattle.line.specs.Calls.{make_call, PutCall, put_call_of, put_call, Lies}
use Rattle.line.proofs.Following.{make-lies, follows}
use Rattle.unit_state.specs.Records.{line_count}
use Rattle.unit_rows.specs.Lines.{lines_size, stores_bytes, Lines, row_at, store_at, is_made, made_at, put_at}
use Rattle.unit_lines.specs.UnitLines.{Used, used, IsUsed}
use Rattle.unit_lines.proofs.Parts.{row-long, store_long, made_row, put-row, put-store}

-- the same parts hold the same line
pub same_parts : {u : Used} {m n : Lines} {i : ℕ} → row_at n.rows i ≡ row_at m.rows i → store_at n.stores i ≡ store_at m.stores i
    → IsUsed u m i → IsUsed u n i
same_parts {u} {m} {n} {i} er es v = record {
  lies = λ b. rw (er, es) (v.lies b);
  none = λ b. rw er (v.none b);
}

-- a line in use is made
pub in_use_lem : {l : Line} {row store : List ℕ} → Lies l row store → is_made row ≡ true
unfolding row_of
in_use_lem {l} v = rw v.is (ap not (ne_eqb l.value 0 (λ e. let h = v.proper.live in omega arith)))

module _ (m : Lines) (long : length m.rows ≡ lines_size) (wide : length m.stores ≡ stores_bytes) (i : ℕ) (h : i < line_count) where
  abbrev row : List ℕ
  row = row_at m.rows i

  abbrev store : List ℕ
  store = store_at m.stores i

  -- ---- made

  module _ (seed : ℕ) where
    made-answer : eqb seed 0 ≡ false → (make_call row store seed).answer ≡ Ok tt
    unfolding make_call
    made-answer e =
        rw (eq-eqb (length row) row_size (row-long m.rows long i h), eq-eqb (length store) store_bytes (store_long m.stores wide i h), e)

    kept_row : eqb seed 0 ≡ true → (make_call row store seed).row ≡ row
    unfolding make_call
    kept_row e =
        rw (eq-eqb (length row) row_size (row-long m.rows long i h), eq-eqb (length store) store_bytes (store_long m.stores wide i h), e)

    pub same-stores : (made_at m i seed).lines.stores ≡ m.stores
    unfolding made_at
    same-stores = refl

    module _ (w : seed < value_limit) (u : Used) (v : IsUsed u m i) where
      made_at_lem : (t : Bool) → eqb seed 0 ≡ t → IsUsed (cond (not t) (used (made seed)) u) (made_at m i seed).lines i
      made_at_lem true e =
          same_parts (made_row m long wide i h seed ∙ kept_row e) (ap (λ (s : List ℕ). store_at s i) same-stores) v
      made_at_lem false e = record {
        lies = λ b. rw (made_row m long wide i h seed, same-stores) (make-lies row store seed w (made-answer e));
        none = λ b. never (sym b);
      }

      pub made-own : IsUsed (cond (not (eqb seed 0)) (used (made seed)) u) (made_at m i seed).lines i
      made-own = made_at_lem (eqb seed 0) refl

  -- ---- a message put in

  module _ (x : Message) (buffer : List ℕ) (room : message_bytes ≤ length buffer) (l : Line) (v : Lies l row store) where
    abbrev k : PutCall
    k = put_call row store x buffer

    -- a message over 1,024 bytes changes nothing
    pub too_long : message_bytes < length x → k ≡ put_call_of (Err number_one) row store buffer
    too_long o = (follows l x row store buffer v).refused (λ b. omega (arith, b.0))

    put-at : (t : Bool) → leb (length x) message_bytes ≡ t → IsUsed (cond t (used (put l x).next) (used l)) (put_at m i x buffer).lines i
    put-at true e =
        let f = ((follows l x row store buffer v).carried (leb-true (length x) message_bytes e) room).0 in
        record {
          lies = λ b. rw (put-row m long wide i h x buffer, put-store m long wide i h x buffer) f;
          none = λ b. never (sym b);
        }
    put-at false e =
        let z = too_long (leb-false (length x) message_bytes e) in
        record {
          lies =
              λ b. rw (
                put-row m long wide i h x buffer ∙ ap (λ (c : PutCall). c.row) z,
                put-store m long wide i h x buffer ∙ ap (λ (c : PutCall). c.store) z,
              ) v;
          none = λ b. never (sym b);
        }

    pub put-own : IsUsed (cond (leb (length x) message_bytes) (used (put l x).next) (used l)) (put_at m i x buffer).lines i
    put-own = put-at (leb (length x) message_bytes) refl
