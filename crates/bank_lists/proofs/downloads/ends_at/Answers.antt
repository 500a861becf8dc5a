-- Each case by its own numbers.
use Rattle.bank_state.specs.Clock.{ends, is_idle}
use lib.Seq.{get_or-drop}
use Rattle.bank_rows.specs.Layout.{download_subscriber, download_last}
use Rattle.bank_lists.proofs.downloads.ends_at.Goals as goal

pub returns-in-Idle : goal.returns-in-Idle
unfolding ends is_idle
returns-in-Idle c =
    let a = c.args in
    rw (c.in-Idle.is, get_or-drop a.at a.area.now download_last 0) c.is_behind.ensures

pub returns-in-Mailbox : goal.returns-in-Mailbox
unfolding ends
returns-in-Mailbox c =
    let a = c.args in
    rw (c.in-Mailbox.is, get_or-drop a.at a.area.now download_subscriber 0)

pub returns-in-Transaction : goal.returns-in-Transaction
unfolding ends
returns-in-Transaction c = rw c.in-Transaction.is c.is_row_of.ensures
