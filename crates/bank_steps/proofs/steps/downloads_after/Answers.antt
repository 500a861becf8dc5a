-- Each action by what it ends; the others keep the record open. Assumes nothing.
use mathlib.Core.List.{List}
use mathlib.Core.Logic.{inl, inr}
use mathlib.Core.Path.{refl, ap, ◌∙◌}
use Prim.Native.Nat.{ℕ}
use Rattle.bank_state.specs.declared.state.Download.{Download}
use Rattle.bank_state.specs.State.{bank_state, download_at, with_download}
use Rattle.bank_rows.specs.State.{bank_of, stored}
use Rattle.bank_rows.proofs.State.{held_rows}
use Rattle.bank_steps.specs.Lent.{lent, kept_in}
use Rattle.bank_steps.proofs.Carried.{stays}
use Rattle.bank_steps.proofs.Lent.{lent_same}
use Rattle.bank_steps.proofs.Held.{after-used, download-counted, download-open}
use Rattle.bank_steps.proofs.steps.downloads_after.Goals as goal

pub set_download-requires : goal.set_download-requires
set_download-requires c =
    let a = c.args in
    let s = a.rows.now in
    let counted = download-counted s c.requires.0 a.q c.requires.2 c.requires.1 in (
      c.requires.0,
      counted,
      ap (λ (e : Download). e.used) c.requires.3
          ∙ after-used a.s.action (bank_of s).clock (download_at (bank_of s) a.j)
          ∙ (download-open (bank_of s) (held_rows s c.requires.0) a.q c.requires.2 c.requires.1).0,
    )

pub returns-in-Cancelled : goal.returns-in-Cancelled
returns-in-Cancelled c =
    λ o.
    elim c.in-Cancelled.is [
      | inl e ↦ rw (e, ← c.transaction.ensures, ← c.subscriber.ensures) (lent_same c.end_downloads.ensures refl refl)
      | inr e ↦ rw (e, ← c.transaction.ensures, ← c.subscriber.ensures) (lent_same c.end_downloads.ensures refl refl)
    ]

pub returns-in-Confirmed : goal.returns-in-Confirmed
returns-in-Confirmed c =
    λ o.
    rw (c.in-Confirmed.is, ← c.subscriber-in-Confirmed.ensures) (c.emptied.ensures o)

pub returns-in_default : goal.returns-in_default
returns-in_default c =
    λ o.
    let a = c.args in
    let s = a.rows.now in
    let m = a.mailboxes.now in
    ap (λ (r : List ℕ). lent r o m) c.set_download.ensures
    ∙ ap (λ (e : Download). lent (stored (with_download a.j e (bank_of s)) s) o m) c.requires.3
    ∙ ap (kept_in (lent s o m)) (stays a.s.action a.j (bank_state (bank_of s) o m) a.q c.in_default.not-Cancelled c.in_default.not-Confirmed c.in_default.not-Declined)
