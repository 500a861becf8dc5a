-- The order's ID and number, and whether the subscriber is none of its signers. Assumes nothing.
use mathlib.Core.Path.{ap}
use native.Mathlib.Omega.{arith}
use Rattle.bank_state.specs.declared.state.Place.{Place}
use Rattle.bank_signing.proofs.judgement.signed.Goals as goal

pub is_new-requires : goal.is_new-requires
is_new-requires c =
    omega (arith, ap (λ (p : Place). p.signers) c.place_at-p.ensures, c.requires.1 c.args.i c.requires.2)

pub returns : goal.returns
returns c =
    rw (c.is_new.ensures, c.subscriber.ensures, c.place_at-p.ensures, ← c.requires.3)
