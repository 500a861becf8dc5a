-- Files and payloads in segments: "segments are 256 bytes but the last".
use Rattle.std.specs.Prelude.{ℕ, ◌+◌, ◌-◌, ◌*◌, ◌/◌, cond, List, eqb, take, drop}
use Rattle.message.specs.Limits.{segment_bytes}

-- "N is the file length divided by 256, rounded up"
unfoldable pub segments_of : ℕ → ℕ
segments_of n = (n + (segment_bytes - 1)) / segment_bytes

-- segment s of a file or payload, from 1 on
unfoldable pub segment_of : List ℕ → ℕ → List ℕ
segment_of file s = take segment_bytes (drop ((s - 1) * segment_bytes) file)

-- "the last, which alone has last mark 1": the last mark of segment s of n
abbrev pub last_mark_of : ℕ → ℕ → ℕ
last_mark_of s n = cond (eqb s n) 1 0
