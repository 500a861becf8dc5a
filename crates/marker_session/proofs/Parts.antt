-- A part of the input is read, marked, and what is left of it kept. Assumes nothing.
use Prim.Native.Nat.{ℕ, ◌+◌, ◌-◌, ◌≤◌}
use mathlib.Core.List.{List, [], ◌++◌}
use mathlib.Core.Path.{◌≡◌, sym, ap, ◌∙◌}
use native.Mathlib.Omega.{arith}
use lib.ListN.{length, take, drop, replicate, length-take, take-append-drop}
use lib.Seq.{take-append_seam, take-take}
use Rattle.octets.specs.Bytes.{overwrite}
use Rattle.octets.proofs.Numbers.{length-overwrite}
use Rattle.bank_state.specs.Limits.{reply_room}
use Rattle.bank_steps.specs.Lent.{Lent}
use Rattle.marker_session.specs.declared.mark.Marked.{Marked}
use Rattle.marker_session.specs.declared.session.Reading.{Reading}
use Rattle.marker_session.specs.Marking.{MarkerState, marker_state, calls_to, calls_of, lines_in, Print, print_of, marked_all}
use Rattle.marker_session.specs.Session.{read_on, reading_of, HasRoom, ReadFrom}
use Rattle.marker_session.specs.Session.{started_with, fresh_memory, session, SessionOf}
use Rattle.marker_session.proofs.Calls.{calls-all, read-parts}
use Rattle.marker_session.proofs.Kept.{kept, length-kept}

take-overwritten : (d xs : List ℕ) → take (length xs) (overwrite d 0 xs) ≡ xs
unfolding overwrite
take-overwritten d xs = take-append_seam xs (drop (0 + length xs) d)

-- nothing is read yet
pub reads-begin : (t : Reading) (input : List ℕ) (memory : Lent) (buffer : List ℕ) → t.calls ≡ 0 → t.held ≡ 0
    → ReadFrom (started_with memory buffer) t input memory buffer
unfolding read_on calls_of calls_to
reads-begin t input memory buffer c h = record { part = []; result = rw (c, h); held = omega arith }

-- one read behind others
pub reads-next : (s : MarkerState) (t : Reading) (input : List ℕ) (memory : Lent) (buffer : List ℕ) (t' : Reading) (input' : List ℕ) (memory' : Lent) (buffer' : List ℕ)
    → ReadFrom s t input memory buffer → ReadFrom (reading_of t input memory buffer) t' input' memory' buffer'
    → ReadFrom s t' input' memory' buffer'
reads-next s t input memory buffer t' input' memory' buffer' k l = record {
  part = k.part ++ l.part;
  result = l.result ∙ ap (λ (x : MarkerState). read_on x l.part) k.result ∙ read-parts s k.part l.part;
  held = l.held;
}

-- one read: n bytes came into the input, which was marked up to there
module _ (t : Reading) (input : List ℕ) (memory : Lent) (buffer output : List ℕ) (came : List ℕ) (n : ℕ)
    (same : length came ≡ length input) (fits : t.held ≤ length input) (has_room : HasRoom input output)
    (count : n ≤ length input - t.held) (front : take t.held came ≡ take t.held input) where
  abbrev all : List ℕ
  all = take (t.held + n) came

  abbrev part : List ℕ
  part = drop t.held all

  abbrev now : MarkerState
  now = marker_state t.calls all memory buffer

  parts : take t.held input ++ part ≡ all
  parts =
      let e : take t.held all ≡ take t.held input = take-take t.held (t.held + n) came (omega arith) ∙ front in
      ap (λ (l : List ℕ). l ++ part) (sym e) ∙ take-append-drop t.held all

  read_all : calls_to (lines_in (length output)) now ≡ read_on (reading_of t input memory buffer) part
  unfolding read_on
  read_all =
      let h : length all ≤ length came = simp length-take (omega arith) in
      calls-all (lines_in (length output)) now (omega arith)
      ∙ ap (λ (l : List ℕ). calls_of (marker_state t.calls l memory buffer)) (sym parts)

  pub read-part : (m : Marked) (memory' : Lent) (buffer' output' : List ℕ)
      → print_of m all memory' buffer' output' ≡ marked_all now output
      → (t' : Reading) (input' : List ℕ) → t'.calls ≡ m.calls
      → (input' ≡ overwrite came 0 (drop m.used all)) × (t'.held ≡ length (drop m.used all))
      → ReadFrom (reading_of t input memory buffer) t' input' memory' buffer'
  read-part m memory' buffer' output' e t' input' c k =
      let left = kept came m.used (t.held + n) (omega arith) in
      let size : length left ≤ length came = omega (arith, length-kept came m.used (t.held + n) (omega arith)) in
      record {
        part = part;
        result = rw (c, k.0, k.1, take-overwritten came left) (ap (λ (x : Print). x.state) e ∙ read_all);
        held = omega (arith, k.1, ap length k.0, length-overwrite came 0 left (omega arith));
      }

-- the session's memory begins as zeros
pub session-of : (t : Reading) (input : List ℕ) (memory : Lent) (buffer : List ℕ)
    → ReadFrom (started_with fresh_memory (replicate reply_room 0)) t input memory buffer
    → SessionOf memory.rows t.calls
unfolding session
session-of t input memory buffer k = record {
  input = k.part;
  bank = ap (λ (x : MarkerState). x.lent.rows) k.result;
  count = ap (λ (x : MarkerState). x.calls) k.result;
}
