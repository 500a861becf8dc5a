-- First the drops, then the verdict; counts that can grow have room for both.
use mathlib.Core.Path.{subst, sym}
use Rattle.opening_counts.specs.Counts.{Room}
use Rattle.opening_counts.proofs.Room.{room-dropped, room-left}
use Rattle.opening_counts.proofs.moves.counts_after.Goals as goal

pub with_dropped-requires : goal.with_dropped-requires
with_dropped-requires c = room-dropped c.args.c c.requires.0 c.args.gone c.requires.1

pub verdict_counts-requires : goal.verdict_counts-requires
verdict_counts-requires c =
    let a = c.args in
    subst (Room a.others) (sym c.with_dropped.ensures)
    (room-left a.c c.requires.0 a.gone c.requires.1 a.others c.requires.2)
