-- The own number is at least the counter, so a counter at the limit says it at once. Assumes nothing.
use Prim.Native.Nat.{◌≤◌}
use mathlib.Core.Path.{sym, ◌∙◌}
use native.Mathlib.Omega.{arith}
use borrow.Author.Tests.{le-leb}
use Rattle.bank_state.specs.Limits.{series_limit}
use Rattle.bank_state.specs.Numbers.{next_number}
use Rattle.bank_state.proofs.Numbers.{next-from}
use Rattle.bank_rows.specs.State.{bank_of}
use Rattle.bank_openings.proofs.judgement.is_past.Goals as goal

pub returns-then-series_of-ge-SERIES_LIMIT : goal.returns-then-series_of-ge-SERIES_LIMIT
returns-then-series_of-ge-SERIES_LIMIT c =
    let s = c.args.subscriber in
    let b = bank_of c.args.rows.now in
    let past : series_limit ≤ next_number s b = omega (arith, next-from s b, c.series_of.ensures, c.if-series_of-ge-SERIES_LIMIT.true) in
    le-leb series_limit c.series_of.result c.if-series_of-ge-SERIES_LIMIT.true
    ∙ sym (le-leb series_limit (next_number s b) past)
