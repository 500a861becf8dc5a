-- The low half of the ID is looked at first; the tests say the same in any order.
use native.Mathlib.Omega.{arith}
use lib.Seq.{get_or-drop}
use Rattle.bank_state.specs.Search.{is_download}
use Rattle.bank_rows.specs.Layout.{download_high, download_low, download_subscriber}
use Rattle.bank_lists.proofs.downloads.is_row_of.Goals as goal

pub returns-then-area-at-2 : goal.returns-then-area-at-2
unfolding is_download
returns-then-area-at-2 c =
    let a = c.args in
    let s = a.area.now in
    rw (get_or-drop a.at s download_high 0, get_or-drop a.at s download_low 0, get_or-drop a.at s download_subscriber 0) (grind arith)

pub returns-else-area-at-2 : goal.returns-else-area-at-2
unfolding is_download
returns-else-area-at-2 c =
    let a = c.args in
    let s = a.area.now in
    rw (get_or-drop a.at s download_high 0, get_or-drop a.at s download_low 0, get_or-drop a.at s download_subscriber 0) (grind arith)
