-- A computed example: seven openings, one in each of the seven ways; an opening refused and a signing are none of them.
use Prim.Native.Nat.{ℕ}
use mathlib.Core.List.{List, [], ◌∷◌}
use mathlib.Core.Path.{◌≡◌, refl, sym, ap, ◌∙◌}
use Rattle.frame_writer.specs.Writer.{frame_of}
use Rattle.message.specs.OrderNumbers.{order_number_of}
use Rattle.message.specs.Requests.{upload_opening, chosen_opening, upload_transfer, download_opening, receipt, signing}
use Rattle.opening_counts.specs.Counts.{seven, sum}
use Rattle.bank_history.specs.History.{BankCall, File, past_of}
use Rattle.bank_history.specs.ByReplies.{opened_count}
use Rattle.bank_history.proofs.JournalExample.{frames, bank, events-told, signatures-given, id_of, call, early, late}
use Rattle.message.specs.OrderNumbers as order_numbers
use Rattle.message.specs.Replies as replies
use Rattle.message.specs.Requests as requests
use Rattle.message.specs.Segments as segments
use Rattle.bank_verdicts.specs.Refusals as refusals
use Rattle.bank_verdicts.specs.Judgement as judgement
use Rattle.bank_openings.specs.Openings as openings
use Rattle.bank.specs.Mailbox as mailbox
use Rattle.bank_counts.specs.Counts.{standing_in, counts, carried}
use Rattle.bank_counts.proofs.Theorems.{openings-end}

-- what the calls compute with, beside uploads of edition 2.5 and signings
unfoldable chosen : ℕ
unfolding replies.chosen_opened requests.chosen_opening order_numbers.is_order_number
chosen = 0

unfoldable downloads : ℕ
unfolding replies.download_opened replies.download_segment replies.receipt_answered
    requests.download_opening requests.receipt segments.segments_of segments.segment_of
    refusals.download_attempt refusals.receipt_rows refusals.download_rows judgement.judge_download openings.open_download
    mailbox.file_refusals mailbox.file_call
downloads = 0

-- ---- the calls

-- of subscriber 1: the opening of upload n of one segment, with a number of the bank's own or a chosen one; its segment
-- with or without the last mark; the opening of download n, and its receipt, where code 0 means taken
abbrev opens_upload : ℕ → ℕ → BankCall
opens_upload time n = call time (frame_of (upload_opening 1 1 (id_of n) time 1) [])

abbrev opens_chosen : ℕ → ℕ → BankCall
opens_chosen n number = call early (frame_of (chosen_opening 1 1 (id_of n) early 1 (order_number_of number)) [])

abbrev segment : ℕ → ℕ → BankCall
segment n mark = call early (frame_of (upload_transfer 1 2 (id_of n) 1 mark) (65 ∷ []))

abbrev opens_download : ℕ → BankCall
opens_download n = call early (frame_of (download_opening 1 1 (id_of n) early) [])

abbrev receives : ℕ → ℕ → BankCall
receives n code = call early (frame_of (receipt 1 2 (id_of n) code) [])

-- upload 0, A000, is booked and signed, upload 1 cancelled; downloads 2 and 3 of one file, of which 2 is fetched;
-- download 4 of the next file is skipped; upload 5, of edition 2.4, is dropped by the call that opens upload 6; before
-- that an opening with the nonce of upload 5 is refused. The newest call first
abbrev calls : List BankCall
calls =
    opens_upload late 6
    ∷ opens_upload early 5
    ∷ opens_chosen 5 70
    ∷ receives 4 1
    ∷ opens_download 4
    ∷ File 1 (66 ∷ [])
    ∷ receives 2 0
    ∷ opens_download 3
    ∷ opens_download 2
    ∷ File 1 (65 ∷ [])
    ∷ segment 1 0
    ∷ opens_upload early 1
    ∷ call early (frame_of (signing 1 1 (id_of 7) early (order_number_of 0) 1) [])
    ∷ segment 0 1
    ∷ opens_upload early 0
    ∷ []

pub one-in-each : counts (past_of calls).history ≡ seven (λ (way : ℕ). 1)
unfolding frames bank events-told signatures-given chosen downloads standing_in
one-in-each = refl

-- so a session has carried these numbers
pub one-carried : carried calls ≡ seven (λ (way : ℕ). 1)
one-carried = openings-end.carries calls ∙ one-in-each

-- and seven openings were accepted
pub seven-opened : opened_count (past_of calls).history ≡ 7
seven-opened = sym (openings-end.adds calls) ∙ ap sum one-in-each
