-- `issue` meets its contract. Assumes nothing.
use mathlib.Core.Path.{sym}
use Rattle.client.specs.Calls.{is_written, request_with}
use Rattle.client_run.specs.Run.{lent_of}
use Rattle.client.proofs.Issues.{issued-is, if-same}
use Rattle.client.proofs.calls.issue.Goals as goal

pub returns : goal.returns
unfolding is_written request_with
returns c file =
    let start = c.args in
    let l = lent_of start.lent.time start.lent.nonce start.lent.payload.now file start.request.now in
    let stays = sym (if-same c.write_request-w.result file) in
    issued-is start.c start.next file l c.write_request-w.result c.write_request-w.ensures.0 c.outcome_of.ensures stays c.write_request-w.ensures.1
