-- `group_at` meets its contract: the groups are the table's. Assumes nothing.
use mathlib.Core.Path.{refl, sym}
use native.Mathlib.Omega.{arith}
use lib.ListN.{get_or-eq_default}
use Rattle.image_numbers.specs.Table.{group_at, all_groups, no_group}
use Rattle.image_numbers.proofs.table.group_at.Goals as goal

pub returns-then-i-lt-ALL_GROUPS : goal.returns-then-i-lt-ALL_GROUPS
unfolding group_at
returns-then-i-lt-ALL_GROUPS c = refl

pub returns-else-i-lt-ALL_GROUPS : goal.returns-else-i-lt-ALL_GROUPS
unfolding group_at
returns-else-i-lt-ALL_GROUPS c = sym (get_or-eq_default all_groups no_group {n = c.args.i} (omega arith))
