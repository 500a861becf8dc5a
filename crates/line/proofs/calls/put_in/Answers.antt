-- Refused at the test; else the generator moves, its value decides, and what is decided is carried out.
use mathlib.Core.Path.{sym, ap, ◌∙◌}
use native.Mathlib.Omega.{arith}
use lib.ListN.{length, length-set}
use Rattle.line.specs.Calls.{put_call}
use Rattle.line.proofs.Carrying.{laid-after, line_after, decided-after, fit, put_is}
use Rattle.line.proofs.calls.put_in.Goals as goal

pub returns-then-not-is_fit : goal.returns-then-not-is_fit
unfolding put_call
returns-then-not-is_fit c = rw (sym c.is_fit.ensures ∙ c.if-not-is_fit.true)

pub step-value-requires : goal.step-value-requires
step-value-requires c = (fit _ _ _ _ (sym c.is_fit.ensures ∙ c.if-not-is_fit.false)).sound

pub bounds-row-1 : goal.bounds-row-1
bounds-row-1 c =
    let f = fit _ _ _ _ (sym c.is_fit.ensures ∙ c.if-not-is_fit.false) in
    omega (arith, f.sound.long, simp length-set at (ap length c.step-value.ensures.1))

pub carry_out-requires : goal.carry_out-requires
carry_out-requires c =
    let a = c.args in
    let f = fit _ _ _ _ (sym c.is_fit.ensures ∙ c.if-not-is_fit.false) in
    let e = c.step-value.ensures in (
      laid-after a.row.now f.sound _ _ e.0 e.1,
      f.stored,
      f.short,
      f.wide,
      c.decide-decision.ensures
          ∙ decided-after a.row.now f.sound _ _ e.0 e.1 a.store.now f.stored,
    )

pub returns : goal.returns
returns c =
    let a = c.args in
    let t = sym c.is_fit.ensures ∙ c.if-not-is_fit.false in
    let f = fit _ _ _ _ t in
    let e = c.step-value.ensures in
    c.carry_out.ensures
    ∙ put_is a.row.now a.store.now a.message.now a.out.now _ _ t
    (line_after a.row.now f.sound _ _ e.0 e.1 a.store.now)
    (c.decide-decision.ensures ∙ decided-after a.row.now f.sound _ _ e.0 e.1 a.store.now f.stored)
