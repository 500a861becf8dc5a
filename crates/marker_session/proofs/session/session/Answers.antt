-- The arrays' lengths come by a lemma, since computing them writes the arrays out. Assumes nothing.
use Prim.Native.Nat.{ℕ, ◌+◌, ◌*◌, ◌<◌}
use mathlib.Core.Path.{◌≡◌, sym}
use native.Mathlib.Omega.{arith}
use lib.ListN.{length, replicate, length-replicate}
use Rattle.frame_table.specs.Table.{width}
use Rattle.marker_session.specs.Lines.{head_bytes}
use Rattle.marker_session.specs.Marking.{lines_in}
use Rattle.marker_session.specs.Session.{HasRoom, input_bytes, output_bytes}
use Rattle.marker_session.proofs.Clock.{clocked-fresh}
use Rattle.marker_session.proofs.Parts.{session-of}
use Rattle.marker_session.proofs.session.session.Goals as goal

zeros : (n : ℕ) → n ≡ length {A = ℕ} (replicate n 0)
zeros n = sym (length-replicate {A = ℕ} n 0)

has_room : (n m : ℕ) → n < head_bytes * (lines_in m + 1) → HasRoom (replicate n 0) (replicate m 0)
unfolding width
has_room n m h = omega (arith, zeros n, zeros m)

pub print_all-t-requires : goal.print_all-t-requires
unfolding width
print_all-t-requires g c = (has_room input_bytes output_bytes (omega arith), clocked-fresh)

pub returns : goal.returns
returns g c = session-of _ _ _ _ c.print_all-t.ensures
