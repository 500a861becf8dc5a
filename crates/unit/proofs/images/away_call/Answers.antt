-- The session is put away into the part of the room that is lent, and the part comes back. Assumes nothing.
use mathlib.Core.Path.{◌≡◌, sym, ◌∙◌}
use native.Mathlib.Omega.{arith}
use lib.ListN.{length, take}
use lib.Seq.{length-take-le}
use Rattle.unit.proofs.ImageRoom.{away-left}
use borrow.Author.Rules.{rules}
use Rattle.unit.proofs.images.away_call.Goals as goal

pub slice_bounds-put_away_held-end-2 : goal.slice_bounds-put_away_held-end-2
slice_bounds-put_away_held-end-2 c =
    let long : c.lent_length-n.result ≡ length (take c.lent_length-n.result c.args.room.now) = sym (length-take-le _ c.args.room.now (omega (arith, c.lent_length-n.ensures, c.requires))) in
    long

pub returns : goal.returns
returns c =
    let long : c.lent_length-n.result ≡ length (take c.lent_length-n.result c.args.room.now) = sym (length-take-le _ c.args.room.now (omega (arith, c.lent_length-n.ensures, c.requires))) in
    λ runs p f b l.
    away-left _ _ p f b _ l _ _ _ _ _ c.lent_length-n.ensures (c.room-1.given.0 ∙ sym (long))
    (rw c.journal_of-held.ensures at c.put_away_held-answer.ensures) c.away_answer.ensures
