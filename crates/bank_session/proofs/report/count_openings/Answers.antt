-- Number 1 for another length or for rows that no call leaves; else the seven, as they stand.
use mathlib.Core.Path.{◌≡◌, sym}
use native.Mathlib.Omega.{arith}
use lib.ListN.{length}
use lib.Seq.{length-take-le}
use Rattle.bank_rows.specs.Layout.{state_size}
use Rattle.bank_session.specs.Session.{session_size}
use Rattle.bank_session.proofs.report.count_openings.Goals as goal

pub slice_bounds-is_sound-end : goal.slice_bounds-is_sound-end
slice_bounds-is_sound-end c =
    let long : length c.args.rows.now ≡ session_size = omega (arith, c.if-rows-ne-SESSION_SIZE.false) in
    sym (length-take-le state_size c.args.rows.now (omega (arith, long)))
