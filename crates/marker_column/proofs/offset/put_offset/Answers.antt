-- The test tells whether there is an offset; the timestamp of an opening is bounded. Assumes nothing.
use Prim.Native.Nat.{◌≤◌}
use mathlib.Core.Path.{sym, ap, ◌∙◌, subst}
use mir.Facts.{to_z-of_z}
use mir.Syntax.{w64}
use mir.Val.{SFits}
use Rattle.frame_table.specs.Table.{last_time}
use Rattle.print.specs.Text.{signed_decimal}
use Rattle.marker_column.proofs.Offsets.{offset-fits, offset-hidden, offset-shown, shown-time}
use Rattle.marker_column.proofs.offset.put_offset.Goals as goal

pub returns-else-shows_offset : goal.returns-else-shows_offset
returns-else-shows_offset c =
    let a = c.args in
    let text = offset-hidden a.answered a.clock a.q c.form.ensures c.shows_offset.ensures c.if-shows_offset.false in
    rw (← text) c.put_byte.ensures

pub offset-requires : goal.offset-requires
offset-requires c =
    let a = c.args in
    let timed : c.timestamp.result ≤ last_time =
    rw c.timestamp.ensures (shown-time a.answered a.q c.form.ensures c.shows_offset.ensures c.if-shows_offset.true c.requires.2) in
    (timed, c.requires.1)

pub returns-then-shows_offset : goal.returns-then-shows_offset
returns-then-shows_offset c =
    let a = c.args in
    let shown = c.if-shows_offset.true in
    let timed : c.timestamp.result ≤ last_time =
    rw c.timestamp.ensures (shown-time a.answered a.q c.form.ensures c.shows_offset.ensures shown c.requires.2) in
    let d = c.offset.ensures in
    let fits = offset-fits c.timestamp.result a.clock timed c.requires.1 in
    let text = ap signed_decimal (to_z-of_z (subst (SFits w64) (sym d) fits) ∙ d)
    ∙ offset-shown a.answered a.clock a.q c.form.ensures c.shows_offset.ensures shown c.timestamp.ensures in
    rw (← text) c.put_signed.ensures
