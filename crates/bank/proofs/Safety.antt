-- What no call does: a refusal changes nothing. Assumes nothing.
use Prim.Native.Nat.{ℕ}
use mathlib.Core.List.{List}
use mathlib.Core.Path.{◌≡◌, ap}
use Rattle.frame_table.specs.declared.fields.Fields.{Fields}
use Rattle.message.specs.declared.codes.ReturnCode.{ReturnCode}
use Rattle.bank_verdicts.specs.declared.verdict.Context.{Context}
use Rattle.bank_state.specs.State.{BankState}
use Rattle.bank_verdicts.specs.declared.verdict.Verdict.{Verdict}
use Rattle.bank_verdicts.specs.declared.verdict.Verdict.TheVariants as verdict
use Rattle.bank_steps.specs.Steps.{carry_out}
use Rattle.bank.specs.Call.{respond}

-- "beyond clock and drops only what is named changes": a refused request leaves the bank and its stores
pub refused-unchanged : (context : Context) (w : BankState) (q : Fields) (d : List ℕ) (c : ReturnCode)
    → (respond context w q d).verdict ≡ verdict.Refused c → (respond context w q d).bank_state ≡ w
unfolding respond
refused-unchanged context w q d c e = ap (λ (v : Verdict). carry_out v w q d) e
