-- `is_ready` meets its contract: the test tells whether a call can be counted, and `is_whole` the rest. Assumes nothing.
use mathlib.Core.Bool.{Bool, ◌&&◌}
use mathlib.Core.Path.{sym, ap, ◌∙◌}
use lib.ListN.{drop}
use borrow.Author.Tests.{le-ltb, lt-ltb}
use Rattle.marker_session.specs.Lines.{is_whole}
use Rattle.marker_session.specs.Marking.{is_ready, max_calls}
use Rattle.marker_session.proofs.mark.is_ready.Goals as goal

pub returns-then-calls-lt-MAX_CALLS : goal.returns-then-calls-lt-MAX_CALLS
unfolding is_ready
returns-then-calls-lt-MAX_CALLS c =
    let a = c.args in
    let told = lt-ltb a.calls max_calls c.if-calls-lt-MAX_CALLS.true in
    c.is_whole.ensures ∙ ap is_whole c.behind.ensures ∙ ap (λ (b : Bool). b && is_whole (drop a.used a.input.now)) (sym told)

pub returns-else-calls-lt-MAX_CALLS : goal.returns-else-calls-lt-MAX_CALLS
unfolding is_ready
returns-else-calls-lt-MAX_CALLS c =
    let a = c.args in
    let told = le-ltb a.calls max_calls c.if-calls-lt-MAX_CALLS.false in
    told ∙ ap (λ (b : Bool). b && is_whole (drop a.used a.input.now)) (sym told)
