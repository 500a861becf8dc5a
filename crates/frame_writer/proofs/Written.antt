-- What the writer's answer tells of the buffer, and of the fields and the data. Assumes nothing.
use Rattle.number_table.specs.Numbers.{number_one}
use Rattle.std.specs.Prelude.{Err, Ok}
use Prim.Native.Nat.{ℕ, ◌+◌, ◌≤◌}
use mathlib.Core.List.{List, ◌++◌}
use mathlib.Core.Bool.{Bool, true, false, cond, ◌&&◌}
use mathlib.Core.Path.{◌≡◌, refl, ap, ◌∙◌}
use native.Mathlib.Nat.{zero-add}
use native.Mathlib.Omega.{arith}
use lib.Dec.{leb}
use lib.ListN.{length, take, drop}
use lib.Seq.{take_at, drop_at}
use borrow.Author.Tests.{le-leb, leb-true}
use Rattle.frame_table.specs.declared.fields.Fields.{Fields}
use Rattle.octets.specs.Bytes.{overwrite}
use Rattle.frame_table.specs.Table.{tag_count, frame_limit, is_form}
use Rattle.frame_table.specs.Names.{form}
use Rattle.octets.proofs.Tests.{and-true}
use Rattle.frame_writer.specs.Writer.{frame_of, fields_writable, writable, accepted, write_answer, write_buffer}

module _ (f : Fields) (d old : List ℕ) where
  -- what can be written, where there is room for it, is accepted
  pub is-accepted : writable f d ≡ true → length (frame_of f d) ≤ length old → accepted f d old ≡ true
  unfolding accepted
  is-accepted h k = rw (h, le-leb (length (frame_of f d)) (length old) k)

  -- a frame that can be written is within the limit
  pub writable-limit : writable f d ≡ true → length (frame_of f d) ≤ frame_limit
  unfolding writable
  writable-limit h =
      leb-true (length (frame_of f d)) frame_limit (and-true (is_form (form f) && fields_writable tag_count 0 f d) _ h).1

  pub accepted-writable : accepted f d old ≡ true → (writable f d ≡ true) × (length (frame_of f d) ≤ length old)
  unfolding accepted
  accepted-writable e =
      let a = and-true (writable f d) (leb (length (frame_of f d)) (length old)) e in
      (a.0, leb-true (length (frame_of f d)) (length old) a.1)

  -- what is accepted is written
  pub accepted-written : accepted f d old ≡ true
      → (write_answer f d old ≡ Ok (length (frame_of f d))) × (write_buffer f d old ≡ overwrite old 0 (frame_of f d))
  unfolding write_answer write_buffer
  accepted-written e = rw e (refl, refl)

  -- else nothing is
  pub refused-unwritten : accepted f d old ≡ false → (write_answer f d old ≡ Err number_one) × (write_buffer f d old ≡ old)
  unfolding write_answer write_buffer
  refused-unwritten e = rw e (refl, refl)

  refused-at : (b : Bool) → cond b (Ok (length (frame_of f d))) (Err number_one) ≡ Err number_one → b ≡ false
  refused-at true e = let z : ◌≡◌ {A = ℕ} 0 1 = cc in absurd (omega arith)
  refused-at false e = refl

  -- number 1 says that it was not accepted
  pub refused-accepted : write_answer f d old ≡ Err number_one → accepted f d old ≡ false
  unfolding write_answer
  refused-accepted e = refused-at (accepted f d old) e

  module _ (n : ℕ) where
    length_at : (b : Bool) → cond b (Ok (length (frame_of f d))) (Err number_one) ≡ Ok n
        → (b ≡ true) × (length (frame_of f d) ≡ n)
    length_at true e = (refl, cc)
    length_at false e = let z : ◌≡◌ {A = ℕ} 0 1 = cc in absurd (omega arith)

    module _ (h : write_answer f d old ≡ Ok n) where
      -- a length says that it was, and is the frame's
      length-is : (accepted f d old ≡ true) × (length (frame_of f d) ≡ n)
      unfolding write_answer
      length-is = length_at (accepted f d old) h

      pub length-accepted : accepted f d old ≡ true
      length-accepted = length-is.0

      buffer-is : write_buffer f d old ≡ frame_of f d ++ drop (0 + length (frame_of f d)) old
      unfolding overwrite
      buffer-is = (accepted-written length-accepted).1

      -- the frame stands in front of the buffer
      pub written-front : (writable f d ≡ true) × (take n (write_buffer f d old) ≡ frame_of f d)
      written-front = (
        (accepted-writable length-accepted).0,
        ap (take n) buffer-is ∙ take_at (frame_of f d) _ n length-is.1,
      )

      -- and the buffer is untouched behind it
      pub written_behind : drop n (write_buffer f d old) ≡ drop n old
      written_behind =
          ap (drop n) buffer-is ∙ drop_at (frame_of f d) _ n length-is.1
          ∙ ap (λ (k : ℕ). drop k old) (zero-add (length (frame_of f d)) ∙ length-is.1)

    -- written where there is room, the frame is the front of the buffer
    pub written-in-front : writable f d ≡ true → length (frame_of f d) ≡ n → n ≤ length old
        → (write_answer f d old ≡ Ok n) × (write_buffer f d old ≡ overwrite old 0 (frame_of f d))
    written-in-front h e k =
        let w = accepted-written (is-accepted h (omega arith)) in
        (w.0 ∙ ap Ok e, w.1)
