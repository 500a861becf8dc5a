-- Each length is at most 1,024, so the sum fits.
use Rattle.std.proofs.Common.{rules, ◌≡◌, ◌≤◌, ◌-◌, List, ℕ, length, take, drop, arith, ◌∙◌, ap, length-drop}
use lib.Seq.{take_all}
use Rattle.std.specs.List.{sum}
use Rattle.std.proofs.iter.runs.Made.{chains}
use Rattle.line.specs.Memory.{lengths_at, Laid, total}
use Rattle.line.proofs.Rows.{held-within}
use Rattle.line.proofs.Lists.{sum-total}
use Rattle.line.proofs.memory.bytes_held.Goals as goal

behind : (row : List ℕ) → Laid row → sum (take (length row - lengths_at) (drop lengths_at row)) ≡ total (drop lengths_at row)
behind row l =
    let n = length-drop lengths_at row in
    ap sum (take_all _ (drop lengths_at row) (omega arith)) ∙ sum-total (drop lengths_at row)

few : (row : List ℕ) → Laid row → sum (take (length row - lengths_at) (drop lengths_at row)) ≤ 8192
few row l = omega (arith, behind row l, held-within row l)

pub sum-requires-clause-fits : goal.sum-requires-clause-fits
sum-requires-clause-fits c = search (rules, chains, few c.args.row.now c.requires)

pub returns : goal.returns
returns c =
    let row = c.args.row.now in
    let h = few row c.requires in
    let e : c.sum.result ≡ sum (take (length row - lengths_at) (drop lengths_at row)) = search (rules, chains) in
    e ∙ behind row c.requires
