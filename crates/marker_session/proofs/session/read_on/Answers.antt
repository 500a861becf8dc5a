-- `read_on` meets its contract: what came is marked up to its end, and what is left stands at the front. Assumes nothing.
use mathlib.Core.Path.{refl}
use borrow.Author.Rules.{rules}
use Rattle.marker_session.specs.Memory.{lent_of}
use Rattle.marker_session.proofs.Parts.{read-part}
use Rattle.marker_session.proofs.session.read_on.Goals as goal

pub returns-then-n-ne0 : goal.returns-then-n-ne0
returns-then-n-ne0 g c =
    let a = c.args in (
      c.mark-m.ensures.2,
      read-part a.t.now a.input.now (lent_of a.memory.now) a.buffer.now
          a.output.now c.read_in-n.new.input c.read_in-n.result
          (search rules) c.requires.0 c.requires.1 c.read_in-n.ensures.0 c.read_in-n.ensures.1
          c.mark-m.result _ _ _ c.mark-m.ensures.0 _ _ refl c.keep.ensures,
    )

pub returns-else-n-ne0 : goal.returns-else-n-ne0
returns-else-n-ne0 g c =
    let a = c.args in (
      c.mark-m.ensures.2,
      read-part a.t.now a.input.now (lent_of a.memory.now) a.buffer.now
          a.output.now c.read_in-n.new.input c.read_in-n.result
          (search rules) c.requires.0 c.requires.1 c.read_in-n.ensures.0 c.read_in-n.ensures.1
          c.mark-m.result _ _ _ c.mark-m.ensures.0 _ _ refl c.keep.ensures,
    )
