-- `carry_out` meets its contract: what a decision needs, its cause gives. Assumes nothing.
use Prim.Native.Nat.{◌^◌, ◌<◌}
use mathlib.Core.Path.{◌≡◌, refl, subst}
use native.Mathlib.Omega.{arith}
use lib.ListN.{length}
use Rattle.client_run.specs.declared.run.Decision.{Decision}
use Rattle.client_rules.proofs.Causes.{Cause, cause}
use Rattle.client_rules.proofs.Feasible.{opened-takes, advance-takes, return_fits, return-left, repeat-fits}
use Rattle.client.proofs.calls.carry_out.Goals as goal

pub overflow_add-c : goal.overflow_add-c
overflow_add-c c =
    let cause-of : (decision : Decision) → c.args.decision ≡ decision → Cause c.args.c c.args.r (length c.args.d.now) decision = λ decision e. let led = cause c.args.c c.args.r (length c.args.d.now) c.requires.0 in
    subst (Cause c.args.c c.args.r (length c.args.d.now)) e led in
    let led = cause-of _ c.in-Return.is in
    omega (arith, return-left c.args.c c.args.r (length c.args.d.now) _ led)

pub repeated-requires : goal.repeated-requires
repeated-requires c =
    let cause-of : (decision : Decision) → c.args.decision ≡ decision → Cause c.args.c c.args.r (length c.args.d.now) decision = λ decision e. let led = cause c.args.c c.args.r (length c.args.d.now) c.requires.0 in
    subst (Cause c.args.c c.args.r (length c.args.d.now)) e led in
    let led = cause-of _ c.in-Repeat.is in
    (omega (arith, repeat-fits c.args.c c.args.r (length c.args.d.now) led), c.requires.1)

pub go_on-requires : goal.go_on-requires
go_on-requires c =
    let cause-of : (decision : Decision) → c.args.decision ≡ decision → Cause c.args.c c.args.r (length c.args.d.now) decision = λ decision e. let led = cause c.args.c c.args.r (length c.args.d.now) c.requires.0 in
    subst (Cause c.args.c c.args.r (length c.args.d.now)) e led in
    let segments-fit : c.args.c.segments < 2 ^ 64 = omega arith in
    let led = cause-of _ c.in-Return.is in
    (return_fits c.args.c c.args.r (length c.args.d.now) _ (segments-fit) led, c.requires.1)

pub take_segment-requires-in-Advance : goal.take_segment-requires-in-Advance
take_segment-requires-in-Advance c =
    let cause-of : (decision : Decision) → c.args.decision ≡ decision → Cause c.args.c c.args.r (length c.args.d.now) decision = λ decision e. let led = cause c.args.c c.args.r (length c.args.d.now) c.requires.0 in
    subst (Cause c.args.c c.args.r (length c.args.d.now)) e led in
    let segments-fit : c.args.c.segments < 2 ^ 64 = omega arith in
    let a = c.args in
    let led = cause-of _ c.in-Advance.is in
    advance-takes a.c a.r (length a.d.now) (length a.file.now) c.requires.1 c.requires.2 (segments-fit)
    led

pub take_segment-requires : goal.take_segment-requires
take_segment-requires c =
    let cause-of : (decision : Decision) → c.args.decision ≡ decision → Cause c.args.c c.args.r (length c.args.d.now) decision = λ decision e. let led = cause c.args.c c.args.r (length c.args.d.now) c.requires.0 in
    subst (Cause c.args.c c.args.r (length c.args.d.now)) e led in
    let a = c.args in
    let led = cause-of _ c.in-Opened.is in
    rw c.learned.ensures
    (opened-takes a.c a.r (length a.d.now) (length a.file.now) c.requires.1 c.requires.2 a.c.direction
    refl led)
