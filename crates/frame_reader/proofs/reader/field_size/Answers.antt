-- `field_size` meets its contract. Assumes nothing.
use mathlib.Core.Path.{◌≡◌, sym, ◌∙◌}
use mathlib.Core.Bool.{cond}
use Prim.Native.Nat.{◌+◌, ◌*◌}
use native.Mathlib.Omega.{arith}
use lib.ListN.{length}
use borrow.Author.Tests.{le-leb, lt-leb, eq-eqb}
use Rattle.frame_row.specs.Row.{stands, field_size}
use Rattle.frame_row.proofs.Contents.{none-short, none_other}
use Rattle.frame_reader.proofs.Values.{width-most}
use Rattle.frame_reader.proofs.reader.field_size.Goals as goal

pub overflow_add-width : goal.overflow_add-width
overflow_add-width c = omega (arith, c.width.ensures, width-most _ c.requires)

pub returns-then-rest-width : goal.returns-then-rest-width
returns-then-rest-width c = sym (none-short _ _ (omega (arith, c.width.ensures)))

pub returns-then-from-tag : goal.returns-then-from-tag
returns-then-from-tag c = sym (none_other _ _ (λ e. c.if-from-tag.true (c.from.ensures ∙ e)))

pub returns-then-rest-n : goal.returns-then-rest-n
unfolding stands field_size
returns-then-rest-n c =
    let long = le-leb 3 (length c.args.rest.now) (omega arith) in
    let tag = eq-eqb _ _ c.if-from-tag.false in
    let short = lt-leb _ _ c.if-rest-n.true in
    sym (rw (long, ← c.from.ensures, tag, ← c.from-2.ensures, ← c.from-3.ensures, short))

pub returns-then-well_formed : goal.returns-then-well_formed
unfolding stands field_size
returns-then-well_formed c =
    let if-formed : field_size c.args.tag c.args.rest.now
    ≡ cond c.well_formed-2.result
    (3 + c.from-2.result * 256 + c.from-3.result)
    0 = let long = le-leb 3 (length c.args.rest.now) (omega arith) in
    let tag = eq-eqb _ _ c.if-from-tag.false in
    let room = le-leb _ _ c.if-rest-n.false in
    rw (long, ← c.from.ensures, tag, ← c.from-2.ensures, ← c.from-3.ensures, room, ← c.well_formed-2.ensures) in
    sym (if-formed ∙ rw c.if-well_formed.true)

pub returns-else-well_formed : goal.returns-else-well_formed
unfolding stands field_size
returns-else-well_formed c =
    let if-formed : field_size c.args.tag c.args.rest.now
    ≡ cond c.well_formed-2.result
    (3 + c.from-2.result * 256 + c.from-3.result)
    0 = let long = le-leb 3 (length c.args.rest.now) (omega arith) in
    let tag = eq-eqb _ _ c.if-from-tag.false in
    let room = le-leb _ _ c.if-rest-n.false in
    rw (long, ← c.from.ensures, tag, ← c.from-2.ensures, ← c.from-3.ensures, room, ← c.well_formed-2.ensures) in
    sym (if-formed ∙ rw c.if-well_formed.false)
