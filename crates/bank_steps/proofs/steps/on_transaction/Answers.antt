-- Where the searches find the transaction, there the definition looks. Assumes nothing.
use mathlib.Core.Path.{◌≡◌, refl, ◌∙◌}
use lib.ListN.{length}
use Rattle.bank_rows.specs.State.{bank_of}
use Rattle.bank_verdicts.specs.Judgement.{upload_at, download_of}
use Rattle.bank_steps.proofs.Carried.{in-upload, in-download, in-none}
use Rattle.bank_steps.proofs.Lent.{unchanged}
use Rattle.bank_steps.proofs.steps.on_transaction.Goals as goal

pub on_upload-requires : goal.on_upload-requires
on_upload-requires c =
    let upload-found : let a = c.args in
    c.find_upload-i.result ≡ upload_at (bank_of a.rows.now) a.q = c.find_upload-i.ensures
    ∙ rw (c.transaction-id.ensures, c.subscriber-subscriber.ensures) in
    let m = c.requires.memory in
    (m.laid, m.range, c.if-i-lt-PLACE_COUNT.true, upload-found, c.requires.short, m.places)

pub returns-then-i-lt-PLACE_COUNT : goal.returns-then-i-lt-PLACE_COUNT
returns-then-i-lt-PLACE_COUNT c =
    let upload-found : let a = c.args in
    c.find_upload-i.result ≡ upload_at (bank_of a.rows.now) a.q = c.find_upload-i.ensures
    ∙ rw (c.transaction-id.ensures, c.subscriber-subscriber.ensures) in
    let a = c.args in
    let n = length a.bytes.now in
    rw (in-upload a.asked (bank_of a.rows.now) a.q n (upload-found) c.if-i-lt-PLACE_COUNT.true)
    (c.on_upload.ensures _)

pub on_download-requires : goal.on_download-requires
on_download-requires c =
    let download-found : let a = c.args in
    c.find_download-j.result ≡ download_of (bank_of a.rows.now) a.q = c.find_download-j.ensures ∙ rw (c.transaction-id.ensures, c.subscriber-subscriber.ensures) in
    let m = c.requires.memory in
    (m.laid, c.if-j-lt-PLACE_COUNT.true, download-found, c.requires.known, c.requires.most, m.mailbox_store)

pub returns-then-j-lt-PLACE_COUNT : goal.returns-then-j-lt-PLACE_COUNT
returns-then-j-lt-PLACE_COUNT c =
    let upload-found : let a = c.args in
    c.find_upload-i.result ≡ upload_at (bank_of a.rows.now) a.q = c.find_upload-i.ensures
    ∙ rw (c.transaction-id.ensures, c.subscriber-subscriber.ensures) in
    let download-found : let a = c.args in
    c.find_download-j.result ≡ download_of (bank_of a.rows.now) a.q = c.find_download-j.ensures ∙ rw (c.transaction-id.ensures, c.subscriber-subscriber.ensures) in
    let a = c.args in
    let b = bank_of a.rows.now in
    let found = in-download a.asked b a.q (length a.bytes.now)
    (upload-found) c.if-i-lt-PLACE_COUNT.false in
    rw (found (download-found) c.if-j-lt-PLACE_COUNT.true)
    (c.on_download.ensures _ _)

pub returns : goal.returns
returns c =
    let upload-found : let a = c.args in
    c.find_upload-i.result ≡ upload_at (bank_of a.rows.now) a.q = c.find_upload-i.ensures
    ∙ rw (c.transaction-id.ensures, c.subscriber-subscriber.ensures) in
    let download-found : let a = c.args in
    c.find_download-j.result ≡ download_of (bank_of a.rows.now) a.q = c.find_download-j.ensures ∙ rw (c.transaction-id.ensures, c.subscriber-subscriber.ensures) in
    let a = c.args in
    let b = bank_of a.rows.now in
    let found = in-none a.asked b a.q (length a.bytes.now)
    (upload-found) c.if-i-lt-PLACE_COUNT.false in
    rw (found (download-found) c.if-j-lt-PLACE_COUNT.false)
    (record { judged = refl; done = unchanged _ c.requires.memory.laid _ _ })
