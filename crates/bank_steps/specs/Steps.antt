-- What a verdict does to the bank and its stores, and the verdict on a request to an open transaction.
use Rattle.std.specs.Prelude.{ℕ, ◌-◌, List, length, set}
use Rattle.frame_table.specs.declared.fields.Bits128.{Bits128}
use Rattle.frame_table.specs.declared.fields.Fields.{Fields}
use Rattle.frame_table.specs.declared.table.RequestForm.{RequestForm}
use Rattle.frame_table.specs.declared.table.RequestForm.TheVariants as requests
use Rattle.frame_table.specs.Names.{subscriber, transaction}
use Rattle.bank_state.specs.declared.clock.Ended.{Ended}
use Rattle.bank_state.specs.declared.clock.Ended.TheVariants as ending
use Rattle.bank_state.specs.Clock.{end_downloads}
use Rattle.bank_state.specs.State.{Bank, BankState, bank_state, place_at, download_at}
use Rattle.bank_state.specs.State.{with_place, with_download, with_downloads, with_files}
use Rattle.bank_state.specs.Store.{part_at, with_part, zeroed}
use Rattle.bank_verdicts.specs.declared.verdict.Context.{Context}
use Rattle.message.specs.declared.directions.Direction.TheVariants as direction
use Rattle.bank_verdicts.specs.declared.verdict.UploadAction.{UploadAction}
use Rattle.bank_verdicts.specs.declared.verdict.UploadAction.TheVariants as up
use Rattle.bank_verdicts.specs.declared.verdict.DownloadAction.{DownloadAction}
use Rattle.bank_verdicts.specs.declared.verdict.DownloadAction.TheVariants as down
use Rattle.bank_verdicts.specs.declared.verdict.Action.{Action}
use Rattle.bank_verdicts.specs.declared.verdict.Action.TheVariants as action
use Rattle.bank_verdicts.specs.declared.verdict.Verdict.{Verdict}
use Rattle.bank_verdicts.specs.declared.verdict.Verdict.TheVariants as verdict
use Rattle.bank_verdicts.specs.declared.verdict.TransactionRequest.{TransactionRequest}
use Rattle.bank_verdicts.specs.declared.verdict.TransactionRequest.TheVariants as asked
use Rattle.bank_verdicts.specs.Judgement.{mailbox_segments, judge_upload, judge_download, upload_at, download_of}
use Rattle.bank_verdicts.specs.Judgement.{judge_opening, judge_signing, judge_transaction}
use Rattle.bank_downloads.specs.Downloads.{download_after}
use Rattle.bank_openings.specs.Openings.{open_upload, open_download}
use Rattle.bank_signing.specs.Signings.{sign}
use Rattle.bank_uploads.specs.Uploads.{place_after, bytes_after}
use Rattle.bank_steps.specs.declared.steps.Target.{Target}
use Rattle.bank_steps.specs.declared.steps.Target.TheVariants as target

-- the open upload in place i, by an action with the data d
abbrev pub on_upload : UploadAction → ℕ → BankState → List ℕ → BankState
on_upload a i w d =
    let p = place_at w.bank i in
    bank_state (with_place i (place_after a w.bank.clock (length d) p) w.bank)
    (with_part w.orders i (bytes_after a p d (part_at w.orders i)))
    w.mailboxes

abbrev pub upload_acts : UploadAction → Bits128 → BankState → Fields → List ℕ → BankState
upload_acts (up.Opened number) t w q d = bank_state (open_upload t number q w.bank) w.orders w.mailboxes
upload_acts up.Took t w q d = on_upload up.Took (upload_at w.bank q) w d
upload_acts up.TookLast t w q d = on_upload up.TookLast (upload_at w.bank q) w d
upload_acts (up.Point k) t w q d = on_upload (up.Point k) (upload_at w.bank q) w d
upload_acts (up.Cancelled c) t w q d = on_upload (up.Cancelled c) (upload_at w.bank q) w d

-- the open download of record j, which stays open
abbrev pub staying : DownloadAction → ℕ → BankState → BankState
staying a j w =
    let e = download_after a w.bank.clock (download_at w.bank j) in
    bank_state (with_download j e w.bank) w.orders w.mailboxes

-- the bank without the downloads that end
abbrev pub without : Ended → BankState → BankState
without which w =
    bank_state (with_downloads (end_downloads which w.bank.downloads) w.bank) w.orders w.mailboxes

-- "this transaction ended"
abbrev pub ended : Fields → BankState → BankState
ended q w = without (ending.Transaction (subscriber q) (transaction q)) w

-- "mailbox emptied, every download of that mailbox ended"
abbrev pub emptied : ℕ → BankState → BankState
emptied s w =
    let v = without (ending.Mailbox s) w in
    bank_state (with_files (set w.bank.files (s - 1) 0) v.bank) w.orders (zeroed w.mailboxes (s - 1))

-- the open download of record j, by an action
abbrev pub on_download : DownloadAction → ℕ → BankState → Fields → BankState
on_download (down.Opened n) j w q = staying (down.Opened n) j w
on_download (down.Delivered n) j w q = staying (down.Delivered n) j w
on_download (down.SentAgain n) j w q = staying (down.SentAgain n) j w
on_download (down.Point d) j w q = staying (down.Point d) j w
on_download down.Cancelled j w q = ended q w
on_download down.Confirmed j w q = emptied (subscriber q) w
on_download down.Declined j w q = ended q w

abbrev pub download_acts : DownloadAction → Bits128 → BankState → Fields → BankState
download_acts (down.Opened n) t w q = bank_state (open_download t q w.bank) w.orders w.mailboxes
download_acts (down.Delivered n) t w q = on_download (down.Delivered n) (download_of w.bank q) w q
download_acts (down.SentAgain n) t w q = on_download (down.SentAgain n) (download_of w.bank q) w q
download_acts (down.Point d) t w q = on_download (down.Point d) (download_of w.bank q) w q
download_acts down.Cancelled t w q = on_download down.Cancelled (download_of w.bank q) w q
download_acts down.Confirmed t w q = on_download down.Confirmed (download_of w.bank q) w q
download_acts down.Declined t w q = on_download down.Declined (download_of w.bank q) w q

abbrev pub acts : Action → Bits128 → BankState → Fields → List ℕ → BankState
acts (action.Upload a) t w q d = upload_acts a t w q d
acts (action.Download a) t w q d = download_acts a t w q

-- "beyond clock and drops only what is named changes"
abbrev pub carry_out : Verdict → BankState → Fields → List ℕ → BankState
carry_out verdict.Unreadable w q d = w
carry_out (verdict.Refused c) w q d = w
carry_out (verdict.Of t a) w q d = acts a t w q d
carry_out (verdict.Signed n added) w q d = bank_state (sign q w.bank) w.orders w.mailboxes

-- the verdict on a request to the open upload in place i, and to the open download of record j
abbrev pub upload_verdict : TransactionRequest → ℕ → Bank → Fields → Verdict
upload_verdict r i b q = verdict.Of (place_at b i).transaction (action.Upload (judge_upload r (place_at b i) q))

abbrev pub download_verdict : TransactionRequest → ℕ → Bank → Fields → Verdict
download_verdict r j b q =
    let e = download_at b j in
    verdict.Of e.transaction (action.Download (judge_download r e (mailbox_segments (subscriber q) b) q))

-- what a request is on, by its form
abbrev pub target_of : RequestForm → Target
target_of requests.UploadOpening = target.UploadOpening
target_of requests.DownloadOpening = target.DownloadOpening
target_of requests.UploadTransfer = target.Transaction asked.UploadTransfer
target_of requests.DownloadTransfer = target.Transaction asked.DownloadTransfer
target_of requests.Receipt = target.Transaction asked.Receipt
target_of requests.Signing = target.Signing
target_of requests.ChosenOpening = target.UploadOpening

-- how a request to a target is judged
abbrev pub judge_target : Target → Context → Bank → Fields → Verdict
judge_target target.UploadOpening c b q = judge_opening direction.Upload c b q
judge_target target.DownloadOpening c b q = judge_opening direction.Download c b q
judge_target (target.Transaction r) c b q = judge_transaction r b q
judge_target target.Signing c b q = judge_signing b q
