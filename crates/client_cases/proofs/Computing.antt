-- What the client's calls compute with: to unfold `calls` is to unfold all that its lines list.
use Prim.Native.Nat.{ℕ}
use Rattle.journal.specs.Row as journal
use Rattle.client_run.specs.NextRun as next_run
use Rattle.client_run.specs.Requests as requests
use Rattle.client_run.specs.Run as runs
use Rattle.client_rules.specs.Decisions as decisions
use Rattle.client_rules.specs.Rulings as rulings
use Rattle.client.specs.Calls as client_calls
use Rattle.client.specs.Journal as client_journal
use Rattle.case_rows.proofs.Computing.{frames, messages, choices}
use Rattle.client_cases.specs.Table as table

unfoldable pub calls : ℕ
unfolding frames messages choices client_calls.is_written client_calls.request_with client_calls.issued client_calls.taken
    client_calls.begin_call client_calls.reply_call client_calls.no_reply_call decisions.says decisions.is_own
    decisions.rest_word decisions.may_repeat decisions.ends_upload decisions.answers_segment
    decisions.fits_data decisions.fits_segment decisions.is_point
    decisions.upload_returns decisions.opens_download decisions.lodges
    decisions.takes_segment decisions.brings_segment decisions.confirms decisions.on_upload
    decisions.on_download decisions.is_answer decisions.on_reply decisions.on_no_reply
    next_run.begun next_run.go_on next_run.repeated
    next_run.ended runs.chosen_number requests.nonce_of requests.outstanding requests.outstanding_data
    rulings.wrong_lengths rulings.no_subscriber rulings.time_first rulings.ruling_at_begin
    rulings.begin_ruling rulings.ruling_not_begun rulings.ruling_running rulings.ruling_ended
    rulings.run_ruling journal.is_of journal.lookup client_journal.answer_to client_journal.journal_call
    table.after
calls = 0
