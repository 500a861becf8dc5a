-- What no step does: a receipt answered 011000 leaves no download of its mailbox open. Assumes nothing.
use Prim.Native.Nat.{ℕ}
use mathlib.Core.Bool.{true, not}
use mathlib.Core.List.{List}
use mathlib.Core.Path.{◌≡◌}
use lib.Dec.{eqb}
use borrow.Author.Tests.{eqb-false, not-true}
use Rattle.frame_table.specs.declared.fields.Bits128.{Bits128}
use Rattle.frame_table.specs.declared.fields.Fields.{Fields}
use Rattle.frame_table.specs.Names.{subscriber}
use Rattle.octets.proofs.Tests.{never, and-true}
use Rattle.bank_state.specs.declared.clock.Ended.TheVariants as ending
use Rattle.bank_state.specs.declared.state.Download.{Download}
use Rattle.bank_state.specs.Clock.{ends}
use Rattle.bank_state.specs.State.{BankState, download_at}
use Rattle.bank_state.proofs.Drops.{each-end_downloads}
use Rattle.bank_verdicts.specs.declared.verdict.Action.TheVariants as action
use Rattle.bank_verdicts.specs.declared.verdict.DownloadAction.TheVariants as down
use Rattle.bank_verdicts.specs.declared.verdict.Verdict.TheVariants as verdict
use Rattle.bank_steps.specs.Steps.{carry_out}

-- "every download of that mailbox ended": those still open are of other subscribers
pub emptied-ends : (t : Bits128) (w : BankState) (q : Fields) (d : List ℕ) (j : ℕ) →
    let e = download_at (carry_out (verdict.Of t (action.Download down.Confirmed)) w q d).bank j in
    e.used ≡ true → e.subscriber ≡ subscriber q → ⊥
unfolding ends
emptied-ends t w q d =
    each-end_downloads (λ (e : Download). e.used ≡ true → e.subscriber ≡ subscriber q → ⊥) (λ u. never u)
    (ending.Mailbox (subscriber q)) w.bank.downloads
    (λ k _ g _. let e = download_at w.bank k in
    let apart = (and-true e.used (not (eqb e.subscriber (subscriber q))) g).1 in
    eqb-false e.subscriber (subscriber q) (not-true _ apart))
