-- `every_mailbox` meets its contract: `all` asks the test of every number. Assumes nothing.
use Rattle.std.proofs.Common.{refl, rules, tests}
use Rattle.bank_state.specs.Limits.{place_count}
use Rattle.image_conditions.specs.Conditions.{every_mailbox, mailbox_test}
use Rattle.image_conditions.proofs.Loops.{every-by-all}
use Rattle.image_conditions.proofs.tables.every_mailbox.Goals as goal

pub returns : goal.returns
unfolding every_mailbox
returns c =
    every-by-all (mailbox_test c.args.numbers.now c.args.mailboxes.now) place_count refl c.all.ensures.ran (λ x t q k. search (rules, tests))
