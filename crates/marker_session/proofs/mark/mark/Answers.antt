-- The loop keeps that the lines left lead to the same end, that the text so far is written, and that no more than the input is
-- used. Assumes nothing.
use mathlib.Core.Path.{refl, sym, ◌∙◌}
use native.Mathlib.Omega.{arith}
use Rattle.print.proofs.Texts.{put-length}
use Rattle.marker_session.proofs.Lines.{marking-begin, marking-next, marking-none, marking-full}
use Rattle.marker_session.proofs.mark.mark.Goals as goal

pub loop-init : goal.loop-init
loop-init c = (marking-begin _ _ _ _ _ _ _ _ (omega arith) refl refl refl, omega arith, c.requires)

pub mark_call-m-requires : goal.mark_call-m-requires
mark_call-m-requires c =
    let inv = c.loop.invariant in (
      sym c.is_ready.ensures ∙ c.if-not-is_ready.false,
      omega (arith, put-length inv.0.put, inv.0.room),
      inv.2,
    )

pub loop-preserved : goal.loop-preserved
loop-preserved c =
    let inv = c.loop.invariant in
    let ready = sym c.is_ready.ensures ∙ c.if-not-is_ready.false in
    let done = c.mark_call-m.ensures in
    (marking-next _ _ _ _ _ _ _ _ _ (omega arith) inv.0 ready _ _ _ _ done.0, done.1, done.2)

pub returns-after-loop : goal.returns-after-loop
returns-after-loop c =
    let inv = c.loop.invariant in
    (marking-full _ _ _ _ _ _ _ _ inv.0 (omega arith), inv.1, inv.2)

pub returns-then-not-is_ready : goal.returns-then-not-is_ready
returns-then-not-is_ready c =
    let inv = c.loop.invariant in
    (marking-none _ _ _ _ _ _ _ _ inv.0 (sym c.is_ready.ensures ∙ c.if-not-is_ready.true), inv.1, inv.2)
