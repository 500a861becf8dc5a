-- What the language's operation counts is the set's size. Assumes nothing.
use Rattle.signers.proofs.Counts.{ones-are-size}
use borrow.Author.Rules.{rules}
use Rattle.signers.proofs.set.count.Goals as goal

pub returns : goal.returns
returns c = ones-are-size c.args.set (search rules)
