-- `keep` meets its contract. Assumes nothing.
use mathlib.Core.Path.{sym, ◌∙◌}
use Rattle.marker_session.proofs.Kept.{kept-moved, length-kept}
use Rattle.marker_session.proofs.session.keep.Goals as goal

pub returns : goal.returns
returns c =
    let a = c.args in
    (c.copy_within.ensures.after ∙ kept-moved a.input.now a.from a.end c.requires.1 c.requires.0, sym (length-kept a.input.now a.from a.end c.requires.1))
