-- The state at the new clock, then the drops: two changes stored as one.
use Prim.Native.Nat.{ℕ, max}
use mathlib.Core.Path.{ap, ◌∙◌}
use Rattle.bank_clock.proofs.Steps.{at-clock-laid, advanced-stored}
use Rattle.bank_clock.proofs.clock.advance.Goals as goal

pub drop_uploads-requires : goal.drop_uploads-requires
drop_uploads-requires c =
    let a = c.args in (
      at-clock-laid a.rows.now c.requires.0 a.orders.now a.time _
          (c.larger-at.ensures ∙ ap (λ (n : ℕ). max n a.time) c.clock.ensures) _ c.set_to.ensures,
      c.requires.1,
    )

pub returns : goal.returns
returns c =
    let a = c.args in
    advanced-stored a.rows.now c.requires.0 a.orders.now a.time _
    (c.larger-at.ensures ∙ ap (λ (n : ℕ). max n a.time) c.clock.ensures) _ c.set_to.ensures _ _
    c.drop_uploads.ensures
