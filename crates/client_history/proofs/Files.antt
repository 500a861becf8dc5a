-- A file held segment by segment. Assumes nothing.
use Prim.Native.Nat.{ℕ, ◌+◌, ◌-◌, ◌*◌, ◌<◌, ◌≤◌}
use mathlib.Core.List.{List, ◌++◌, append_assoc}
use mathlib.Core.Path.{◌≡◌, refl, sym, ap, ◌∙◌, subst}
use native.Mathlib.Omega.{arith}
use lib.ListN.{length, take, drop, length-append, length-take, length-drop}
use lib.Seq.{take_all, take-add, take_at, length-take-le}
use Rattle.octets.specs.Bytes.{overwrite}
use Rattle.message.specs.Limits.{segment_bytes, max_segments, file_bytes}
use Rattle.message.specs.Segments.{segments_of, segment_of}

-- "N is the file length divided by 256, rounded up"
pub before_last : (n h : ℕ) → h < segments_of n → segment_bytes * h < n
unfolding segments_of
before_last n h k = omega arith

pub segments-cover : (n : ℕ) → n ≤ segment_bytes * segments_of n
unfolding segments_of
segments-cover n = omega arith

pub most-segments : (n : ℕ) → n ≤ file_bytes → segments_of n ≤ max_segments
unfolding segments_of
most-segments n h = omega arith

-- all segments are the file
pub all_held : (f : List ℕ) (n : ℕ) → n ≡ segments_of (length f) → take (segment_bytes * n) f ≡ f
all_held f n e =
    take_all (segment_bytes * n) f
    (let k = segments-cover (length f) in subst (λ (m : ℕ). length f ≤ segment_bytes * m) (sym e) k)

-- "segments are 256 bytes but the last"
module _ (f : List ℕ) (j : ℕ) (least : 1 ≤ j) (within : j ≤ segments_of (length f)) where
  pub segment-some : 1 ≤ length (segment_of f j)
  unfolding segment_of segments_of
  segment-some = simp (length-take, length-drop) (omega arith)

  pub segment-most : length (segment_of f j) ≤ segment_bytes
  unfolding segment_of segments_of
  segment-most = simp (length-take, length-drop) (omega arith)

  pub segment-full : (j ≡ segments_of (length f) → ⊥) → length (segment_of f j) ≡ segment_bytes
  unfolding segment_of segments_of
  segment-full h = simp (length-take, length-drop) (omega arith)

-- no segment is no byte
pub nothing-held : (f file : List ℕ) {h size : ℕ} → h ≡ 0 → size ≡ 0
    → (size ≡ length (take (segment_bytes * h) f)) × (take size file ≡ take (segment_bytes * h) f)
nothing-held f file a b = rw (a, b) (refl, refl)

-- one segment more
pub next-segment : (f : List ℕ) (h : ℕ)
    → take (segment_bytes * (h + 1)) f ≡ take (segment_bytes * h) f ++ segment_of f (h + 1)
unfolding segment_of
next-segment f h =
    let a : segment_bytes * (h + 1) ≡ segment_bytes * h + segment_bytes = omega arith in
    let b : (h + 1 - 1) * segment_bytes ≡ segment_bytes * h = omega arith in
    rw (a, b, take-add)

pub length-overwrite : (file d : List ℕ) (at : ℕ) → at + length d ≤ length file
    → length (overwrite file at d) ≡ length file
unfolding overwrite
length-overwrite file d at h = simp (length-append, length-take, length-drop) (omega arith)

pub take-overwrite : (file d : List ℕ) (at : ℕ) → at ≤ length file
    → take (at + length d) (overwrite file at d) ≡ take at file ++ d
unfolding overwrite
take-overwrite file d at h =
    let e : length (take at file ++ d) ≡ at + length d = simp (length-append, length-take) (omega arith) in
    ap (take (at + length d)) (sym (append_assoc (take at file) d (drop (at + length d) file)))
    ∙ take_at (take at file ++ d) (drop (at + length d) file) _ e

-- segment h + 1 written after segments 1 to h of the file f, in a buffer of which size bytes are those
module _ (f file d : List ℕ) (h size : ℕ) (more : h < segments_of (length f)) (room : segment_bytes * h ≤ length file)
    (end : size ≡ length (take (segment_bytes * h) f)) (bytes : take size file ≡ take (segment_bytes * h) f)
    (next : d ≡ segment_of f (h + 1)) where
  full : size ≡ segment_bytes * h
  full = end ∙ length-take-le (segment_bytes * h) f (let k = before_last (length f) h more in omega arith)

  joined : take (segment_bytes * h) file ++ d ≡ take (segment_bytes * (h + 1)) f
  joined =
      ap (λ (l : List ℕ). l ++ d) (sym (ap (λ (n : ℕ). take n file) full) ∙ bytes)
      ∙ ap (λ (l : List ℕ). take (segment_bytes * h) f ++ l) next
      ∙ sym (next-segment f h)

  pub grown-end : segment_bytes * h + length d ≡ length (take (segment_bytes * (h + 1)) f)
  grown-end =
      sym (length-append (take (segment_bytes * h) file) d ∙ ap (λ (n : ℕ). n + length d) (length-take-le _ file room))
      ∙ ap length joined

  pub grown-bytes : take (segment_bytes * h + length d) (overwrite file (segment_bytes * h) d) ≡ take
      (segment_bytes * (h + 1)) f
  grown-bytes = take-overwrite file d (segment_bytes * h) room ∙ joined
