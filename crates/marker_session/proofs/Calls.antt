-- Laws of the calls of an input: enough calls are all of them, and an input in parts is the input whole. Assumes nothing.
use Prim.Native.Nat.{ℕ, zero, suc, ◌+◌, ◌-◌, ◌*◌, ◌≤◌, ◌<◌}
use mathlib.Core.Bool.{Bool, true, false}
use mathlib.Core.List.{List, [], ◌++◌, append_assoc}
use mathlib.Core.Path.{◌≡◌, refl, sym, ap, ◌∙◌}
use native.Mathlib.Omega.{arith}
use lib.Dec.{ltb, leb}
use lib.ListN.{length, drop, length-append, length-drop}
use lib.Seq.{take-append-le, drop-append-le}
use borrow.Author.Tests.{leb-true, ltb-true, lt-ltb, le-leb}
use Rattle.octets.specs.Bytes.{number}
use Rattle.octets.proofs.Tests.{and-true}
use Rattle.marker_session.specs.Lines.{time_bytes, head_bytes, time_of, size_of, frame_in, is_whole}
use Rattle.marker_session.specs.Marking.{MarkerState, max_calls, is_ready, call_of, called, called_line, calls_to, lines_to, calls_of}
use Rattle.marker_session.specs.Session.{with_more, read_on}

-- a call is ready
pub record Readied (calls : ℕ) (rest : List ℕ) : Type 0 where
  pub count : calls < max_calls
  pub head : head_bytes ≤ length rest
  pub end : head_bytes + size_of rest ≤ length rest

pub readied : (calls : ℕ) (rest : List ℕ) → is_ready calls rest ≡ true → Readied calls rest
unfolding is_ready is_whole
readied calls rest h =
    let a = and-true (ltb calls max_calls) (is_whole rest) h in
    let w = and-true (leb head_bytes (length rest)) (leb (head_bytes + size_of rest) (length rest)) a.1 in
    record {
      count = ltb-true calls max_calls a.0;
      head = leb-true head_bytes (length rest) w.0;
      end = leb-true (head_bytes + size_of rest) (length rest) w.1;
    }

-- a turn: the call that is ready, or none
module _ (s : MarkerState) where
  abbrev pub ready : Bool
  ready = is_ready s.calls s.rest

  pub calls-turn : (n : ℕ) → ready ≡ true → calls_to (suc n) s ≡ calls_to n (called s)
  unfolding calls_to
  calls-turn n e = rw e

  pub lines-turn : (n : ℕ) → ready ≡ true → lines_to (suc n) s ≡ called_line s ++ lines_to n (called s)
  unfolding lines_to
  lines-turn n e = rw e

  pub calls-none : (n : ℕ) → ready ≡ false → calls_to n s ≡ s
  unfolding calls_to
  calls-none zero e = refl
  calls-none (suc n) e = rw e

  pub lines_none : (n : ℕ) → ready ≡ false → lines_to n s ≡ []
  unfolding lines_to
  lines_none zero e = refl
  lines_none (suc n) e = rw e

  -- what a call leaves of the input
  length-called : length (called s).rest ≡ length s.rest - (head_bytes + size_of s.rest)
  unfolding called
  length-called = length-drop (head_bytes + size_of s.rest) s.rest

-- so many calls that no whole record is left
abbrev pub Enough : ℕ → MarkerState → Type 0
Enough n s = length s.rest < head_bytes * (n + 1)

called-enough : (n : ℕ) (s : MarkerState) → ready s ≡ true → Enough (suc n) s → Enough n (called s)
called-enough n s e h = omega (arith, (readied s.calls s.rest e).end, length-called s)

short : (s : MarkerState) (t : Bool) → ready s ≡ t → Enough 0 s → ready s ≡ false
short s true e h = absurd (omega (arith, (readied s.calls s.rest e).head))
short s false e h = e

both-turn : (n m : ℕ) (s : MarkerState) (t : Bool) → ready s ≡ t → (ready s ≡ true → calls_to n (called s) ≡ calls_to m (called s))
    → calls_to (suc n) s ≡ calls_to (suc m) s
both-turn n m s true e f = calls-turn s n e ∙ f e ∙ sym (calls-turn s m e)
both-turn n m s false e f = calls-none s (suc n) e ∙ sym (calls-none s (suc m) e)

enough : (n m : ℕ) (s : MarkerState) → Enough n s → Enough m s → calls_to n s ≡ calls_to m s
unfolding calls_to
enough zero m s h k = sym (calls-none s m (short s (ready s) refl h))
enough (suc n) zero s h k = calls-none s (suc n) (short s (ready s) refl k)
enough (suc n) (suc m) s h k =
    both-turn n m s (ready s) refl (λ e. enough n m (called s) (called-enough n s e h) (called-enough m s e k))

pub calls-all : (n : ℕ) (s : MarkerState) → Enough n s → calls_to n s ≡ calls_of s
unfolding calls_of
calls-all n s h = enough n (length s.rest) s h (omega arith)

all-turn : (s : MarkerState) → ready s ≡ true → calls_of s ≡ calls_of (called s)
all-turn s e =
    let n = length s.rest in
    sym (calls-all (suc n) s (omega arith)) ∙ calls-turn s n e
    ∙ calls-all n (called s) (called-enough n s e (omega arith))

-- a record that is whole is the same record whatever comes behind it
module _ (rest part : List ℕ) (h : head_bytes ≤ length rest) where
  time-more : time_of (rest ++ part) ≡ time_of rest
  unfolding time_of
  time-more = ap number (take-append-le time_bytes rest part (omega arith))

  size-more : size_of (rest ++ part) ≡ size_of rest
  unfolding size_of
  size-more =
      let k : 2 ≤ length (drop time_bytes rest) = simp length-drop (omega arith) in
      rw (drop-append-le time_bytes rest part (omega arith)) (ap number (take-append-le 2 (drop time_bytes rest) part k))

  frame-more : head_bytes + size_of rest ≤ length rest → frame_in (rest ++ part) ≡ frame_in rest
  unfolding frame_in
  frame-more e =
      let k : size_of rest ≤ length (drop head_bytes rest) = simp length-drop (omega arith) in
      rw (size-more, drop-append-le head_bytes rest part h) (take-append-le (size_of rest) (drop head_bytes rest) part k)

module _ (s : MarkerState) (part : List ℕ) (e : ready s ≡ true) where
  r : Readied s.calls s.rest
  r = readied s.calls s.rest e

  ready-more : ready (with_more s part) ≡ true
  unfolding is_ready is_whole
  ready-more =
      let n : length s.rest ≤ length (s.rest ++ part) = simp length-append (omega arith) in
      rw (
        lt-ltb s.calls max_calls r.count,
        size-more s.rest part r.head,
        le-leb head_bytes (length (s.rest ++ part)) (omega (arith, r.head)),
        le-leb (head_bytes + size_of s.rest) (length (s.rest ++ part)) (omega (arith, r.end)),
      )

  called_more : called (with_more s part) ≡ with_more (called s) part
  unfolding called call_of
  called_more =
      rw (
        time-more s.rest part r.head,
        size-more s.rest part r.head,
        frame-more s.rest part r.head r.end,
        drop-append-le (head_bytes + size_of s.rest) s.rest part r.end,
      )

-- the input goes on behind any number of calls
module _ (part : List ℕ) where
  more_turn : (n : ℕ) (s : MarkerState) (t : Bool) → ready s ≡ t
      → calls_of (with_more (called s) part) ≡ read_on (calls_to n (called s)) part
      → calls_of (with_more s part) ≡ read_on (calls_to (suc n) s) part
  unfolding read_on
  more_turn n s true e h =
      all-turn (with_more s part) (ready-more s part e) ∙ ap calls_of (called_more s part e) ∙ h
      ∙ ap (λ (x : MarkerState). read_on x part) (sym (calls-turn s n e))
  more_turn n s false e h = ap (λ (x : MarkerState). read_on x part) (sym (calls-none s (suc n) e))

  read_more : (n : ℕ) (s : MarkerState) → calls_of (with_more s part) ≡ read_on (calls_to n s) part
  unfolding read_on calls_to
  read_more zero s = refl
  read_more (suc n) s = more_turn n s (ready s) refl (read_more n (called s))

-- an input in parts is the input whole
pub read-parts : (s : MarkerState) (a b : List ℕ) → read_on (read_on s a) b ≡ read_on s (a ++ b)
unfolding read_on calls_of
read-parts s a b =
    let t = with_more s a in
    let e = append_assoc s.rest a b in
    sym (read_more b (length t.rest) t)
    ∙ ap (λ (l : List ℕ). calls_of (record { lent = s.lent; buffer = s.buffer; calls = s.calls; rest = l })) e
