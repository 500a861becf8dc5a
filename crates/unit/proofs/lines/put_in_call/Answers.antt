-- A line not made changes nothing; else the line's call on the record's message, and what its answer says. Assumes nothing.
use Rattle.unit.proofs.LineSteps.{message-put, not_made}
use borrow.Author.Rules.{rules}
use Rattle.unit.proofs.lines.put_in_call.Goals as goal

pub returns-then-not-is_made : goal.returns-then-not-is_made
returns-then-not-is_made c =
    λ u bank p f room.
    not_made u bank p f _ room _ _ _ c.line_index-i.ensures.0 _ c.is_made.ensures c.if-not-is_made.true-raw

pub returns : goal.returns
returns c =
    λ u bank p f room.
    message-put u bank p f _ room _ _ _ c.line_index-i.ensures.0 _ c.is_made.ensures _ _ _ _ _
    c.if-not-is_made.false-raw c.body_of.ensures c.put_at-answer.ensures c.out_answer.ensures
