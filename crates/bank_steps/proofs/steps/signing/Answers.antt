-- A signing that signs has room; the other verdicts change nothing. Assumes nothing.
use mathlib.Core.Path.{sym, ap, ◌∙◌, subst}
use Rattle.bank_rows.specs.State.{bank_of}
use Rattle.bank_verdicts.specs.declared.verdict.Verdict.{Verdict}
use Rattle.bank_verdicts.proofs.Signing.{is_acted, is_signed, signing-acts-not}
use Rattle.bank_signing.proofs.Signed.{signed-room}
use Rattle.bank_steps.specs.Lent.{lent, CarriedOut}
use Rattle.bank_steps.proofs.Carried.{unsigned}
use Rattle.bank_steps.proofs.Lent.{none-carried, signed-carried}
use Rattle.bank_steps.proofs.steps.signing.Goals as goal

pub sign-requires : goal.sign-requires
sign-requires c =
    let a = c.args in
    let told = sym c.judge_signing-verdict.ensures ∙ c.in-Signed.is in
    (c.requires.0, signed-room (bank_of a.rows.now) a.q c.requires.1 (ap is_signed told))

pub returns-in-Signed : goal.returns-in-Signed
returns-in-Signed c =
    λ o m d.
    let a = c.args in
    signed-carried a.rows.now o m a.q d c.judge_signing-verdict.ensures c.in-Signed.is
    c.sign.ensures

pub returns-in_default : goal.returns-in_default
returns-in_default c =
    λ o m d.
    let a = c.args in
    let s = a.rows.now in
    let judged = c.judge_signing-verdict.ensures in
    let v = c.judge_signing-verdict.result in
    subst (λ (x : Verdict). CarriedOut x (lent s o m) a.q d v (lent s o m)) judged
    (none-carried v s o m a.q d c.requires.0 (ap is_acted judged ∙ signing-acts-not (bank_of s) a.q)
    (unsigned v c.in_default.not-Signed))
