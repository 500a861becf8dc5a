-- After any records each line of the unit's memory is what the records make of it: the calls on lines by their own law, the
-- others leave the lines as they were. Assumes nothing.
use Prim.Native.Nat.{ℕ, zero, suc, ◌+◌, ◌-◌, ◌*◌, ◌≤◌, ◌<◌}
use mathlib.Core.Bool.{Bool, true, false, cond, not, ◌&&◌}
use mathlib.Core.List.{List}
use mathlib.Core.Path.{◌≡◌, refl, sym, ap, ◌∙◌, subst}
use native.Mathlib.Omega.{arith}
use lib.Dec.{eqb, leb}
use lib.ListN.{length, get_or, replicate}
use borrow.Author.Tests.{eqb-true, eqb-false}
use Rattle.octets.proofs.Tests.{never}
use Rattle.line.specs.Line.{Line, message_bytes, made, put}
use Rattle.number_table.specs.Table as numbers
use Rattle.octets.specs.Bytes.{overwrite}
use Rattle.line.specs.Generator.{value_limit}
use Rattle.line.specs.Memory.{value_at, row_size, joined}
use Rattle.line.specs.Calls.{answer_for, PutCall}
use Rattle.line.proofs.Following.{follows}
use Rattle.unit_state.specs.declared.record.Kind.{Kind}
use Rattle.unit_state.specs.declared.record.Kind.TheVariants as kind
use Rattle.unit_state.specs.declared.answer.Answer.TheVariants.{Number, NoCall}
use Rattle.unit_state.specs.Records.{seed_at, seed_bytes, line_of, seed_of, line_count, call_of}
use Rattle.unit_state.proofs.Parts.{callable, line-within, number_at-most}
use Rattle.unit_rows.specs.Lines.{lines_size, Lines, row_at, store_at, made_at, put_at}
use Rattle.unit_rows.proofs.LineParts.{value-at}
use Rattle.unit.specs.State.{State}
use Rattle.unit.specs.Call.{
  UnitCall,
  unchanged,
  out_answer,
  frame_step,
  file_step,
  run_call,
  run_step,
  journal_step,
  away_step,
  take_up_step,
  image_step,
  value_day_step,
  count_step,
  line_index,
  make_step,
  put_step,
  put_in_step,
  step_of,
  unit_call,
}
use Rattle.unit.proofs.Begins.{RoomsLengths, rooms-lengths}
use Rattle.unit_lines.specs.UnitLines.{Used, used, message_of, used_by, used_after, IsUsed, LinesAre, LentTo, Records, none, more, unit_after, FreshLines, UnitLines, UnitAnswers}
use Rattle.unit_lines.proofs.Parts.{made_other, put-other-row, put-other-store}
use Rattle.unit_lines.proofs.OneLine.{same_parts, in_use_lem, same-stores, made-own, too_long, put-own}

-- ---- a fresh unit

zero-at : (n i : ℕ) → ◌≡◌ {A = ℕ} (get_or (replicate n 0) i 0) 0
zero-at zero i = refl
zero-at (suc n) zero = refl
zero-at (suc n) (suc i) = zero-at n i

pub fresh_lines : FreshLines
unfolding FreshLines
fresh_lines s e = λ i h.
    let z : get_or (row_at s.memory.lines.rows i) value_at 0 ≡ 0 =
    ap (λ (l : Lines). get_or (row_at l.rows i) value_at 0) e ∙ value-at (replicate lines_size 0) i ∙ zero-at lines_size (i * row_size + value_at) in
    record { lies = λ b. never b; none = λ b. ap (λ (n : ℕ). not (eqb n 0)) z }

-- a line in use is its own record
abbrev used_as : Line → Bool → Used
used_as l t = record { in_use = t; line = l }

as-used : (x : Used) → x.in_use ≡ true → x ≡ used x.line
as-used x c = ap (used_as x.line) c

-- ---- the call of a record

line-inside : (n : ℕ) → (1 ≤ n) × (n ≤ line_count) → n - 1 < line_count
line-inside n h = omega arith

module _ (s : State) (r : List ℕ) (l : LentTo s r) where
  abbrev m : Lines
  m = s.memory.lines

  rooms : RoomsLengths (length s.memory.payloads) (length s.memory.files) (length s.memory.room) (length m.rows) (length m.stores)
  rooms = rooms-lengths _ _ _ _ _ l.rooms

  pub called : (g : Kind) → call_of r ≡ g → unit_call s r ≡ step_of g s r
  unfolding unit_call
  called g e = rw l.rooms (ap (λ (k : Kind). step_of k s r) e)

  module _ (us : ℕ → Used) (v : LinesAre us s) where
    -- ---- a line is made

    module _ (h : line_index r < line_count) where
      seed-small : seed_of r < value_limit
      seed-small = omega (arith, number_at-most r l.bytes seed_at seed_bytes)

      make-at : (i : ℕ) → i < line_count → (t : Bool) → eqb (line_index r) i ≡ t
          → IsUsed (cond (t && not (eqb (seed_of r) 0)) (used (made (seed_of r))) (us i)) (made_at m (line_index r) (seed_of r)).lines i
      make-at i k true e =
          subst
          (λ (j : ℕ). IsUsed (cond (not (eqb (seed_of r) 0)) (used (made (seed_of r))) (us j)) (made_at m (line_index r) (seed_of r)).lines j)
          (eqb-true (line_index r) i e)
          (made-own m rooms.line-rows rooms.line-stores (line_index r) h (seed_of r) seed-small (us (line_index r)) (v (line_index r) h))
      make-at i k false e =
          same_parts
          (made_other m rooms.line-rows rooms.line-stores (line_index r) h (seed_of r) i (λ z. eqb-false (line_index r) i e (sym z)))
          (ap (λ (x : List ℕ). store_at x i) (same-stores m rooms.line-rows rooms.line-stores (line_index r) h (seed_of r))) (v i k)

      pub make-lines : LinesAre (λ i. used_by kind.MakeLine i r (us i)) (make_step s r).state
      unfolding make_step
      make-lines i k = make-at i k (eqb (line_index r) i) refl

      -- ---- a message is put in

      abbrev u : Used
      u = us (line_index r)

      module _ (b : u.in_use ≡ true) where
        put-at : (i : ℕ) → i < line_count → (t : Bool) → eqb (line_index r) i ≡ t
            → IsUsed (cond (t && ((us i).in_use && leb (length (message_of r)) message_bytes)) (used (put (us i).line (message_of r)).next) (us i))
            (put_at m (line_index r) (message_of r) s.memory.buffer).lines i
        put-at i k true e =
            subst
            (λ (j : ℕ). IsUsed (cond ((us j).in_use && leb (length (message_of r)) message_bytes) (used (put (us j).line (message_of r)).next) (us j))
            (put_at m (line_index r) (message_of r) s.memory.buffer).lines j)
            (eqb-true (line_index r) i e)
            (subst
            (λ (t : Bool). IsUsed (cond (t && leb (length (message_of r)) message_bytes) (used (put u.line (message_of r)).next) u)
            (put_at m (line_index r) (message_of r) s.memory.buffer).lines (line_index r))
            (sym b)
            (subst
            (λ (x : Used). IsUsed (cond (leb (length (message_of r)) message_bytes) (used (put u.line (message_of r)).next) x)
            (put_at m (line_index r) (message_of r) s.memory.buffer).lines (line_index r))
            (sym (as-used u b))
            (put-own m rooms.line-rows rooms.line-stores (line_index r) h (message_of r) s.memory.buffer l.buffer u.line
            ((v (line_index r) h).lies b))))
        put-at i k false e =
            let n : i ≡ line_index r → ⊥ = λ z. eqb-false (line_index r) i e (sym z) in
            same_parts
            (put-other-row m rooms.line-rows rooms.line-stores (line_index r) h (message_of r) s.memory.buffer i n)
            (put-other-store m rooms.line-rows rooms.line-stores (line_index r) h (message_of r) s.memory.buffer i n)
            (v i k)

        put-taken : put_in_step s r ≡ put_step s r
        unfolding put_in_step
        put-taken = rw (in_use_lem ((v (line_index r) h).lies b))

        put-used : LinesAre (λ i. used_by kind.PutIn i r (us i)) (put_in_step s r).state
        unfolding put_step
        put-used i k = rw put-taken (put-at i k (eqb (line_index r) i) refl)

      module _ (b : u.in_use ≡ false) where
        put-none : put_in_step s r ≡ unchanged s NoCall
        unfolding put_in_step
        put-none = rw ((v (line_index r) h).none b)

        stays : (i : ℕ) → i < line_count → (t : Bool) → eqb (line_index r) i ≡ t
            → IsUsed (cond (t && ((us i).in_use && leb (length (message_of r)) message_bytes)) (used (put (us i).line (message_of r)).next) (us i)) m i
        stays i k true e =
            let c : (us i).in_use ≡ false = ap (λ (j : ℕ). (us j).in_use) (sym (eqb-true (line_index r) i e)) ∙ b in
            subst
            (λ (t : Bool). IsUsed (cond (t && leb (length (message_of r)) message_bytes) (used (put (us i).line (message_of r)).next) (us i)) m i)
            (sym c) (v i k)
        stays i k false e = v i k

        put-unused : LinesAre (λ i. used_by kind.PutIn i r (us i)) (put_in_step s r).state
        put-unused i k = rw put-none (stays i k (eqb (line_index r) i) refl)

      pub put-lines : LinesAre (λ i. used_by kind.PutIn i r (us i)) (put_in_step s r).state
      put-lines = at u.in_use refl
        where
          at : (t : Bool) → u.in_use ≡ t → LinesAre (λ i. used_by kind.PutIn i r (us i)) (put_in_step s r).state
          at true e = put-used e
          at false e = put-unused e

    -- ---- any record

    step_lines : (g : Kind) → call_of r ≡ g → LinesAre (λ i. used_by g i r (us i)) (step_of g s r).state
    unfolding frame_step file_step run_step run_call journal_step away_step take_up_step image_step value_day_step count_step
    step_lines kind.Frame e = v
    step_lines kind.File e = v
    step_lines (kind.Run x) e = v
    step_lines kind.Journal e = v
    step_lines kind.Away e = v
    step_lines kind.TakeUp e = v
    step_lines kind.Image e = v
    step_lines kind.ValueDay e = v
    step_lines kind.MakeLine e = make-lines (line-inside (line_of r) (line-within (line_of r) (callable r kind.MakeLine refl e).within))
    step_lines kind.PutIn e = put-lines (line-inside (line_of r) (line-within (line_of r) (callable r kind.PutIn refl e).within))
    step_lines kind.Counts e = v
    step_lines kind.NoCall e = v

    pub call-lines : LinesAre (λ i. used_by (call_of r) i r (us i)) (unit_call s r).state
    call-lines i k = rw (called (call_of r) refl) (step_lines (call_of r) refl i k)

-- ---- any records

lines_after : {s : State} {rs : List (List ℕ)} → Records s rs → (us : ℕ → Used) → LinesAre us s
    → LinesAre (λ i. used_after i rs (us i)) (unit_after s rs)
unfolding used_after unit_after
lines_after none us v = v
lines_after (more {s = s} {r = r} l rest) us v = lines_after rest (λ i. used_by (call_of r) i r (us i)) (call-lines s r l us v)

pub unit_lines : UnitLines
unfolding UnitLines
unit_lines s us v rs records = lines_after records us v

-- ---- what is answered

module _ (s : State) (us : ℕ → Used) (v : LinesAre us s) (r : List ℕ) (l : LentTo s r) (e : call_of r ≡ kind.PutIn)
    (h : line_index r < line_count) (b : (us (line_index r)).in_use ≡ true) where
  abbrev line : Line
  line = (us (line_index r)).line

  abbrev row : List ℕ
  row = row_at s.memory.lines.rows (line_index r)

  abbrev store : List ℕ
  store = store_at s.memory.lines.stores (line_index r)

  put_is : unit_call s r ≡ put_step s r
  put_is = called s r l kind.PutIn e ∙ put-taken s r l us v h b

  out-answered : length (message_of r) ≤ message_bytes →
      let p = put line (message_of r) in
      ((unit_call s r).answer ≡ out_answer (answer_for p.copies p.released))
      × ((unit_call s r).state.memory.buffer ≡ overwrite s.memory.buffer 0 (joined p.released))
  unfolding put_step put_at
  out-answered o =
      let f = (follows line (message_of r) row store s.memory.buffer ((v (line_index r) h).lies b)).carried o l.buffer in
      (ap (λ (c : UnitCall). c.answer) put_is ∙ ap out_answer f.1, ap (λ (c : UnitCall). c.state.memory.buffer) put_is ∙ f.2)

  long-answered : message_bytes < length (message_of r) → (unit_call s r).answer ≡ Number numbers.wrong_length
  unfolding put_step put_at
  long-answered o =
      let z =
      too_long s.memory.lines (rooms s r l).line-rows (rooms s r l).line-stores (line_index r) h (message_of r) s.memory.buffer
      l.buffer line ((v (line_index r) h).lies b) o in
      ap (λ (c : UnitCall). c.answer) put_is ∙ ap (λ (k : PutCall). out_answer k.answer) z

pub unit-answers : UnitAnswers
unfolding UnitAnswers
unit-answers s us v r l e =
    let h = line-inside (line_of r) (line-within (line_of r) (callable r kind.PutIn refl e).within) in
    record {
      out = λ b o. out-answered s us v r l e h b o;
      long = λ b o. long-answered s us v r l e h b o;
      none = λ b. ap (λ (c : UnitCall). c.answer) (called s r l kind.PutIn e ∙ put-none s r l us v h b);
    }
