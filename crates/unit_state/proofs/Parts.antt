-- Laws of a record's parts, and of the call that it is. Assumes nothing.
use Prim.Native.Nat.{ℕ, zero, suc, ◌+◌, ◌-◌, ◌*◌, ◌^◌, ◌≤◌, ◌<◌}
use mathlib.Core.Bool.{Bool, true, false, cond, ◌&&◌}
use mathlib.Core.List.{List}
use mathlib.Core.Path.{◌≡◌, refl, ap, ◌∙◌}
use native.Mathlib.Numerals.{add-one}
use native.Mathlib.Omega.{arith}
use lib.Dec.{ltb, leb}
use lib.ListN.{length, get_or, take, drop}
use lib.Pow.{pow_mono}
use lib.Seq.{take_all, get_or-drop}
use borrow.Author.Tests.{ltb-true, ltb-false, leb-true, lt-leb}
use Rattle.octets.specs.Bytes.{number}
use Rattle.octets.proofs.Numbers.{number-nil, number-take, byte_more}
use Rattle.octets.proofs.Tests.{never, and-true}
use Rattle.unit_state.specs.declared.record.Event.{Event}
use Rattle.unit_state.specs.declared.record.Event.TheVariants.{Upload, Download, Reply, NoReply}
use Rattle.unit_state.specs.declared.record.Kind.{Kind}
use Rattle.unit_state.specs.declared.record.Kind.TheVariants.{
  Frame,
  File,
  Run,
  Journal,
  Away,
  TakeUp,
  Image,
  ValueDay,
  MakeLine,
  PutIn,
  Counts,
  NoCall,
}
use Rattle.unit_state.specs.Records.{
  kind_of,
  size_bytes,
  head_of,
  has_length,
  letter_of,
  number_at,
  size_of,
  run_count,
  is_run,
  run_of,
  has_edition,
  line_count,
  is_line,
  is_within,
  is_whole,
  call_of,
  is_call,
}

-- ---- the number of n bytes is below 256 to the n

module _ (l : List ℕ) (bytes : (i : ℕ) → get_or l i 0 < 256) where
  number_more : (n : ℕ) (t : Bool) → ltb n (length l) ≡ t → number (take n l) < 2 ^ (8 * n) → number (take (n + 1) l) < 2 ^ (8 * (n + 1))
  number_more n true e h =
      rw (number-take l n (ltb-true n (length l) e)) (byte_more n (number (take n l)) (get_or l n 0) h (bytes n))
  number_more n false e h =
      let k = ltb-false n (length l) e in
      let p : 2 ^ (8 * n) ≤ 2 ^ (8 * (n + 1)) = pow_mono {j = 8 * (n + 1)} (omega arith) in
      let m : number (take (n + 1) l) ≡ number (take n l) = rw (take_all (n + 1) l (omega arith), take_all n l k) in
      omega arith

  number-most : (n : ℕ) → number (take n l) < 2 ^ (8 * n)
  number-most zero = rw number-nil (omega arith)
  number-most (suc n) = rw (← add-one n) (number_more n (ltb n (length l)) refl (number-most n))

pub number_at-most : (s : List ℕ) → ((i : ℕ) → get_or s i 0 < 256) → (from n : ℕ) → number_at from n s < 2 ^ (8 * n)
unfolding number_at
number_at-most s bytes from n = number-most (drop from s) (λ i. rw (get_or-drop from s i 0) (bytes (from + i))) n

-- what a length says
cond-least : (t : Bool) (a n : ℕ) → a < n → cond t a 0 < n
cond-least true a n h = h
cond-least false a n h = omega arith

pub size_of-most : (k : Kind) (s : List ℕ) → ((i : ℕ) → get_or s i 0 < 256) → size_of k s < 2 ^ (8 * size_bytes)
unfolding size_of
size_of-most k s bytes = cond-least (has_length k) (number_at (head_of k - size_bytes) size_bytes s) (2 ^ (8 * size_bytes)) (number_at-most s bytes (head_of k - size_bytes) size_bytes)

-- ---- the call that a record is

-- no head is longer than an upload's
run-head-within : (e : Event) → (1 ≤ head_of (Run e)) × (head_of (Run e) ≤ head_of (Run Upload))
run-head-within Upload = omega arith
run-head-within Download = omega arith
run-head-within Reply = omega arith
run-head-within NoReply = omega arith

pub head-within : (k : Kind) → (1 ≤ head_of k) × (head_of k ≤ head_of (Run Upload))
head-within Frame = omega arith
head-within File = omega arith
head-within (Run e) = run-head-within e
head-within Journal = omega arith
head-within Away = omega arith
head-within TakeUp = omega arith
head-within Image = omega arith
head-within ValueDay = omega arith
head-within MakeLine = omega arith
head-within PutIn = omega arith
head-within Counts = omega arith
head-within NoCall = omega arith

-- a length stands in the last bytes of a head
pub length-head : (k : Kind) → has_length k ≡ true → size_bytes ≤ head_of k
length-head Frame h = omega arith
length-head File h = omega arith
length-head (Run Upload) h = omega arith
length-head (Run Download) h = omega arith
length-head (Run Reply) h = omega arith
length-head (Run NoReply) h = omega arith
length-head Journal h = omega arith
length-head Away h = omega arith
length-head TakeUp h = omega arith
length-head Image h = omega arith
length-head ValueDay h = omega arith
length-head MakeLine h = omega arith
length-head PutIn h = omega arith
length-head Counts h = never h
length-head NoCall h = never h

pub nothing-whole : (k : Kind) (r : List ℕ) → length r < 1 → is_whole k r ≡ false
unfolding is_whole
nothing-whole k r h = rw (lt-leb (head_of k) (length r) (omega (arith, head-within k)))

pub whole-head : (k : Kind) (r : List ℕ) → is_whole k r ≡ true → head_of k ≤ length r
unfolding is_whole
whole-head k r h = leb-true _ _ (and-true (leb (head_of k) (length r)) (leb (head_of k + size_of k r) (length r)) h).0

pub run-within : (n : ℕ) → is_run n ≡ true → (1 ≤ n) × (n ≤ run_count)
run-within n h =
    let a = and-true (leb 1 n) (leb n run_count) h in
    (leb-true 1 n a.0, leb-true n run_count a.1)

pub line-within : (n : ℕ) → is_line n ≡ true → (1 ≤ n) × (n ≤ line_count)
line-within n h =
    let a = and-true (leb 1 n) (leb n line_count) h in
    (leb-true 1 n a.0, leb-true n line_count a.1)

-- a call's record is whole, and what it names is there
pub record Callable (k : Kind) (r : List ℕ) : Type 0 where
  pub whole : is_whole k r ≡ true
  pub within : is_within k r ≡ true

module _ (r : List ℕ) (k : Kind) (h : is_call k ≡ true) where
  callable-at : (g : Kind) (t : Bool) → is_whole g r && is_within g r ≡ t → cond t g NoCall ≡ k → Callable k r
  callable-at g true e q =
      let a = and-true (is_whole g r) (is_within g r) e in
      record { whole = rw q at a.0; within = rw q at a.1 }
  callable-at g false e q = never (ap is_call q ∙ h)

  pub callable : call_of r ≡ k → Callable k r
  unfolding call_of
  callable q = callable-at (kind_of (letter_of r)) _ refl q

-- a call to a run names one of the runs
pub run-named : (r : List ℕ) (e : Event) → call_of r ≡ Run e → is_run (run_of r) ≡ true
run-named r e q = (and-true (is_run (run_of r)) (has_edition e r) (callable r (Run e) refl q).within).0
