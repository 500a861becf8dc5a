-- Uploads and downloads together, each at most the number of its rows.
use native.Mathlib.Omega.{arith}
use Prim.Native.Nat.{◌≤◌}
use mathlib.Core.Path.{◌≡◌, ◌∙◌}
use lib.ListN.{length}
use Rattle.bank_state.specs.Search.{open_count}
use Rattle.bank_state.proofs.Rows.{count-le}
use Rattle.bank_rows.specs.State.{bank_of, download_count_of}
use Rattle.bank_rows.proofs.Reading.{length-places-of, open-downloads, free-download}
use Rattle.bank_lists.proofs.counts.open_count.Goals as goal

pub overflow_add-result : goal.overflow_add-result
overflow_add-result c =
    let s = c.args.rows.now in
    let x : c.open_uploads.result ≤ length (bank_of s).places = rw c.open_uploads.ensures (count-le _ (bank_of s).places) in
    let y : c.download_count.result ≡ download_count_of s = c.download_count.ensures ∙ free-download s in
    omega (arith, length-places-of s, c.requires.downloads)

pub returns : goal.returns
unfolding open_count
returns c =
    let s = c.args.rows.now in
    rw (open-downloads s, c.open_uploads.ensures, c.download_count.ensures, free-download s)
