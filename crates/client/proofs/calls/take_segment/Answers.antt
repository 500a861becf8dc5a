-- `take_segment` meets its contract. Assumes nothing.
use mathlib.Core.Path.{ap, ◌∙◌}
use Rattle.client.specs.Calls.{is_written, request_with, taken}
use Rattle.client_run.specs.NextRun.{go_on, file_with}
use Rattle.client_run.specs.Run.{lent_of}
use Rattle.client.proofs.Issues.{issued-is}
use Rattle.client.proofs.calls.take_segment.Goals as goal

pub holding-held-requires : goal.holding-held-requires
holding-held-requires c = c.requires.2

pub go_on-next-requires : goal.go_on-next-requires
go_on-next-requires c =
    (c.requires.0, rw c.holding-held.ensures c.requires.1)

pub returns : goal.returns
unfolding is_written request_with taken
returns c =
    let start = c.args in
    let l = lent_of start.lent.time start.lent.nonce start.lent.payload.now start.file.now start.request.now in
    let next-is = c.go_on-next.ensures ∙ ap (go_on start.k.segment start.k.repeats) c.holding-held.ensures in
    let file = file_with start.k start.d.now start.file.now in
    rw (← next-is)
    (issued-is start.c c.go_on-next.result file l c.write_request-w.result c.write_request-w.ensures.0
    c.outcome_of.ensures
    c.hold_if_written.ensures
    c.write_request-w.ensures.1)
