-- The downloads end first, then the mailbox is emptied: two changes stored as one. Assumes nothing.
use mathlib.Core.Path.{refl, ap, ◌∙◌}
use native.Mathlib.Omega.{arith}
use Rattle.bank_state.specs.Store.{zeroed}
use Rattle.bank_steps.proofs.Lent.{lent_same, ended-laid, emptied-stored}
use Rattle.bank_steps.proofs.steps.emptied.Goals as goal

pub set_file_length-requires : goal.set_file_length-requires
set_file_length-requires c = (
  ended-laid c.args.rows.now c.requires.0 _ _ c.end_downloads.ensures,
  omega (arith, c.mailbox_of-m.ensures, c.requires.1, c.requires.2),
)

pub returns : goal.returns
returns c =
    λ o.
    let a = c.args in
    let i = c.mailbox_of-m.ensures in
    let rows =
    emptied-stored a.rows.now c.requires.0 _ a.subscriber _ _ _ i c.end_downloads.ensures
    c.set_file_length.ensures in
    lent_same rows refl (c.zero.ensures ∙ ap (zeroed a.mailboxes.now) i)
