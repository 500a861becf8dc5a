-- What is accepted is within the limit and has room, so each field has; the loop's invariant is `Writing`. Assumes nothing.
use Prim.Native.Nat.{◌≤◌}
use mathlib.Core.Path.{sym}
use native.Mathlib.Omega.{arith}
use lib.ListN.{length}
use borrow.Author.Rules.{rules}
use Rattle.frame_table.specs.Table.{frame_limit}
use Rattle.frame_writer.specs.Writer.{content_of, frame_of}
use Rattle.frame_row.proofs.Contents.{piece-bound}
use Rattle.frame_writer.proofs.Loops.{writing_start, writing-left, writing_step, writing-end}
use Rattle.frame_writer.proofs.Written.{writable-limit, accepted-writable}
use Rattle.frame_writer.proofs.writer.write_accepted.Goals as goal

pub loop-tag-init : goal.loop-tag-init
loop-tag-init c =
    let a = c.args in
    writing_start a.fields a.«data».now a.out.now

pub put-at-requires : goal.put-at-requires
put-at-requires c =
    let fits : let n = length (frame_of c.args.fields c.args.«data».now) in
    (n ≤ frame_limit) × (n ≤ length c.args.out.now) = let a = c.args in
    let w = accepted-writable a.fields a.«data».now a.out.now c.requires in
    (writable-limit a.fields a.«data».now a.out.now w.0, w.1) in
    let a = c.args in
    let b = piece-bound c.loop-tag.tag (content_of c.loop-tag.tag a.fields a.«data».now) in
    let w = writing-left a.fields a.«data».now a.out.now c.loop-tag.out c.loop-tag.at c.loop-tag.tag c.loop-tag.invariant (search rules) in
    (search rules, omega (arith, (fits).0), omega (arith, (fits).1, c.loop-tag.invariant.long))

pub loop-tag-preserved : goal.loop-tag-preserved
loop-tag-preserved c =
    let fits : let n = length (frame_of c.args.fields c.args.«data».now) in
    (n ≤ frame_limit) × (n ≤ length c.args.out.now) = let a = c.args in
    let w = accepted-writable a.fields a.«data».now a.out.now c.requires in
    (writable-limit a.fields a.«data».now a.out.now w.0, w.1) in
    let a = c.args in
    let e = c.put-at.ensures in
    writing_step a.fields a.«data».now a.out.now c.loop-tag.out c.loop-tag.at c.loop-tag.tag c.loop-tag.invariant (search rules)
    (fits).1 _ _ e.0 e.1

pub returns : goal.returns
returns c =
    let a = c.args in
    let w = writing-end a.fields a.«data».now a.out.now c.loop-tag.out c.loop-tag.at c.loop-tag.tag c.loop-tag.invariant (search rules) in
    (w.0, sym w.1)

pub shape_of-out : goal.shape_of-out
shape_of-out c = c.loop-tag.invariant.long
