-- Uploads and downloads together, each at most the number of its rows.
use native.Mathlib.Omega.{arith}
use Prim.Native.Nat.{◌≤◌}
use lib.ListN.{length}
use Rattle.bank_state.specs.Search.{open_count_of}
use Rattle.bank_state.proofs.Rows.{count-le}
use Rattle.bank_rows.specs.State.{bank_of}
use Rattle.bank_rows.proofs.Reading.{length-places-of, length-downloads-of}
use Rattle.bank_lists.proofs.counts.open_count_of.Goals as goal

pub overflow_add-result : goal.overflow_add-result
overflow_add-result c =
    let s = c.args.rows.now in
    let b = bank_of s in
    let x : c.open_uploads_of.result ≤ length b.places = rw c.open_uploads_of.ensures (count-le _ b.places) in
    let y : c.open_downloads_of.result ≤ length b.downloads = rw c.open_downloads_of.ensures (count-le _ b.downloads) in
    omega (arith, length-places-of s, length-downloads-of s c.requires)

pub returns : goal.returns
unfolding open_count_of
returns c = rw (c.open_uploads_of.ensures, c.open_downloads_of.ensures)
