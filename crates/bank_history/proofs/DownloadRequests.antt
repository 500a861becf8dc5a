-- The requests of an open download that fit: its opening, its next segment, and its receipt.
use Prim.Native.Nat.{ℕ, suc, ◌+◌, ◌≤◌, ◌<◌}
use mathlib.Core.Bool.{true, false}
use mathlib.Core.List.{List}
use mathlib.Core.Path.{◌≡◌, refl, sym, ap, ◌∙◌, subst}
use native.Mathlib.Decide.{dec_lt}
use native.Mathlib.Omega.{arith}
use lib.Dec.{ltb, leb, eqb}
use lib.ListN.{length}
use lib.Seq.{get_or-set_same}
use borrow.Author.Tests.{eq-eqb, le-ltb, le-leb, lt-leb}
use Rattle.frame_table.specs.declared.fields.Bits128.{Bits128}
use Rattle.frame_table.specs.declared.fields.Fields.{Fields}
use Rattle.frame_table.specs.Forms as forms
use Rattle.frame_table.specs.Names.{subscriber, transaction, segment, receipt_code, form, same_bits}
use Rattle.frame_table.specs.Table.{is_request_form}
use Rattle.octets.proofs.Tests.{never}
use Rattle.frame_table.proofs.Bits.{bits-same}
use Rattle.message.specs.Limits.{segment_bytes}
use Rattle.bank_state.specs.declared.state.Download.{Download}
use Rattle.bank_state.specs.Limits.{place_count}
use Rattle.bank_state.specs.Search.{is_free, is_upload, is_download, find_upload, find_download, free_download}
use Rattle.bank_state.specs.State.{BankState, no_place, no_download, place_at, download_at}
use Rattle.bank_downloads.specs.Downloads.{moved_to}
use Rattle.bank_verdicts.specs.declared.verdict.Context.{Context}
use Rattle.bank_verdicts.specs.declared.verdict.TransactionRequest.{TransactionRequest}
use Rattle.bank_verdicts.specs.declared.verdict.TransactionRequest.TheVariants as asks
use Rattle.bank_verdicts.specs.declared.verdict.DownloadAction.{DownloadAction}
use Rattle.bank_verdicts.specs.declared.verdict.DownloadAction.TheVariants as down
use Rattle.bank_verdicts.specs.declared.verdict.Action.TheVariants as action
use Rattle.bank_verdicts.specs.declared.verdict.Verdict.{Verdict}
use Rattle.bank_verdicts.specs.declared.verdict.Verdict.TheVariants as verdict
use Rattle.bank_verdicts.specs.Refusals.{not_open, transaction_rows, download_attempt, receipt_rows, download_rows}
use Rattle.bank_verdicts.specs.Judgement.{
  mailbox_segments,
  upload_at,
  download_of,
  judge_download,
  judge_open,
  judge_transaction,
  judge_form,
  judge,
}
use Rattle.bank_verdicts.proofs.Sound.{Readable}
use Rattle.bank_openings.specs.Openings.{counted, open_download}
use Rattle.bank_steps.specs.Steps.{carry_out}
use Rattle.bank.specs.Call.{respond}
use Rattle.bank_admitted.specs.State.{mailbox_file}
use Rattle.bank_history.specs.History.{Exchange, opens}
use Rattle.bank_history.specs.Invariant.{Invariant}
use Rattle.bank_history.proofs.Parts.{OpenDownload}
use Rattle.bank_history.specs.Transactions.{DownloadAt}
use Rattle.bank_state.proofs.Rows.{first_passes}
use Rattle.bank_admitted.proofs.Rows.{first-at-most}
use Rattle.bank_steps.proofs.Cases.{Happens, unreadable, refused, opens_upload, opens_download, signs, to_upload, to_download, request_form}
use Rattle.bank_history.proofs.GoesOn.{download-goes-on}
use Rattle.bank_history.proofs.Entries.{and_no, same_bits_lem}
use Rattle.bank_state.proofs.Found.{upload-found, download-found}
use Rattle.bank_admitted.proofs.Held.{downloads-apart}
use Rattle.bank_history.proofs.Downloads.{download-open}
use Rattle.bank_admitted.proofs.Openings.{free-inside-open}
use Rattle.bank_history.proofs.UploadRequests.{verdict-by-form}

is-download : (s : ℕ) (t : Bits128) (e : Download) → e.used ≡ true → e.subscriber ≡ s → e.transaction ≡ t → is_download s t e ≡ true
unfolding is_download
is-download s t e a b c =
    let y : eqb e.subscriber s ≡ true = eq-eqb e.subscriber s b in
    let z : same_bits e.transaction t ≡ true = ap (λ (u : Bits128). same_bits u t) c ∙ same_bits_lem t in
    rw (a, y, z)

module _ (w : BankState) (h : List Exchange) (v : Invariant w h) (t : Bits128) (s d last : ℕ) (u : DownloadAt w t s d last) where
  -- no upload has the ID of a download
  no-upload : ltb (find_upload s t w.bank) place_count ≡ false
  unfolding find_upload
  no-upload = at (dec_lt (find_upload s t w.bank) place_count)
    where
      at : Dec (find_upload s t w.bank < place_count) → ltb (find_upload s t w.bank) place_count ≡ false
      at (no n) = le-ltb (find_upload s t w.bank) place_count (omega arith)
      at (yes l) =
          let long = v.state.sizes.places in
          let passes = first_passes (is_upload s t) w.bank.places no_place (omega arith) in
          let f = upload-found s t (place_at w.bank (find_upload s t w.bank)) passes in
          let a : is_free (place_at w.bank (find_upload s t w.bank)).used ≡ false = ap is_free f.0 in
          let e : (place_at w.bank (find_upload s t w.bank)).transaction ≡ (download_at w.bank u.row).transaction =
          bits-same _ t f.2 ∙ sym u.transaction in
          absurd (v.state.apart (find_upload s t w.bank) u.row l a u.used (ap (λ (z : Bits128). z.low) e))

  pub find-own : find_download s t w.bank ≡ u.row
  unfolding find_download
  find-own =
      let long = v.state.sizes.downloads in
      let inside = u.inside in
      let own = is-download s t (download_at w.bank u.row) u.used u.subscriber u.transaction in
      let most : find_download s t w.bank ≤ u.row =
      first-at-most (is_download s t) w.bank.downloads no_download u.row (omega arith) own in
      let passes = first_passes (is_download s t) w.bank.downloads no_download (omega arith) in
      let f = download-found s t (download_at w.bank (find_download s t w.bank)) passes in
      let e : (download_at w.bank (find_download s t w.bank)).transaction ≡ (download_at w.bank u.row).transaction =
      bits-same _ t f.2 ∙ sym u.transaction in
      downloads-apart w v.state (find_download s t w.bank) u.row f.0 u.used (ap (λ (z : Bits128). z.low) e)

-- "segment d + 1 (up to N) fits"; "A receipt fits when d = N. Code 0 is answered 011000"
judge-next : (e : Download) (n : ℕ) (q : Fields) → segment q ≡ e.delivered + 1 → segment q ≤ n →
    judge_download asks.DownloadTransfer e n q ≡ down.Delivered n
unfolding judge_download download_rows receipt_rows download_attempt
judge-next e n q next within = rw (eq-eqb (segment q) (e.delivered + 1) next, le-leb (segment q) n within)

judge-receipt : (e : Download) (n : ℕ) (q : Fields) → e.delivered ≡ n → receipt_code q ≡ 0 →
    judge_download asks.Receipt e n q ≡ down.Confirmed
unfolding judge_download download_rows receipt_rows download_attempt
judge-receipt e n q whole taken = rw (eq-eqb e.delivered n whole, eq-eqb (receipt_code q) 0 taken)

module _ (context : Context) (w : BankState) (h : List Exchange) (v : Invariant w h) (t : Bits128) (s d last : ℕ) (u : DownloadAt w t s d last)
    (q : Fields) (b : List ℕ)
    (from : subscriber q ≡ s) (to : transaction q ≡ t) (short : length b ≤ segment_bytes) where
  abbrev own : Download
  own = download_at w.bank u.row

  -- N of its mailbox
  abbrev n : ℕ
  n = mailbox_segments (subscriber q) w.bank

  is_open' : OpenDownload w.bank.clock w.bank.openings h (mailbox_file w own.subscriber) own
  is_open' = download-open w h v u.row u.used

  readable : is_request_form (form q) ≡ true → Readable q (length b)
  readable r =
      let x = is_open'.0.known in
      let y = is_open'.0.most in
      let z = u.subscriber in
      record { request = r; known = omega arith; most = omega arith; short = short }

  not-upload : ltb (upload_at w.bank q) place_count ≡ false
  not-upload = ap (λ (m : ℕ). ltb (find_upload m (transaction q) w.bank) place_count) from
      ∙ (ap (λ (i : Bits128). ltb (find_upload s i w.bank) place_count) to ∙ no-upload w h v t s d last u)

  found : download_of w.bank q ≡ u.row
  found = ap (λ (m : ℕ). find_download m (transaction q) w.bank) from
      ∙ (ap (λ (i : Bits128). find_download s i w.bank) to ∙ find-own w h v t s d last u)

  found_inside : download_of w.bank q < place_count
  found_inside = let e = found in let i = u.inside in omega arith

  at-record : (r : TransactionRequest) → judge_transaction r w.bank q
      ≡ verdict.Of (download_at w.bank (download_of w.bank q)).transaction
      (action.Download (judge_download r (download_at w.bank (download_of w.bank q)) n q))
  unfolding judge_transaction transaction_rows judge_open not_open
  at-record r = rw (
    lt-leb place_count (download_of w.bank q) found_inside,
    and_no (leb place_count (upload_at w.bank q)),
    not-upload,
  )

  -- the verdict on a request in this form, by that on the record
  own-verdict : (r : TransactionRequest) (a : DownloadAction) → form q ≡ request_form r → is_request_form (request_form r) ≡ true →
      judge_form (request_form r) context w.bank q ≡ judge_transaction r w.bank q →
      judge_download r own n q ≡ a → judge context w.bank q (length b) ≡ verdict.Of t (action.Download a)
  own-verdict r a asked request by judged =
      verdict-by-form context w q b (request_form r) asked (readable (ap is_request_form asked ∙ request))
      ∙ (by ∙ (at-record r
      ∙ (ap (λ (j : ℕ). verdict.Of (download_at w.bank j).transaction (action.Download (judge_download r (download_at w.bank j) n q)))
      found
      ∙ (ap (λ (x : DownloadAction). verdict.Of own.transaction (action.Download x)) judged
      ∙ ap (λ (i : Bits128). verdict.Of i (action.Download a)) u.transaction))))

  -- the next segment is delivered
  module _ (asked : form q ≡ forms.DownloadTransfer) (next : segment q ≡ suc d) (within : segment q ≤ n) where
    pub deliver-verdict : judge context w.bank q (length b) ≡ verdict.Of t (action.Download (down.Delivered n))
    deliver-verdict = own-verdict asks.DownloadTransfer (down.Delivered n) asked refl refl
        (judge-next own n q (let e = u.delivered in omega arith) within)

    delivered-open : DownloadAt (carry_out (verdict.Of t (action.Download (down.Delivered n))) w q b) t s (suc d) w.bank.clock
    delivered-open = record {
      row = download_of w.bank q;
      inside = found_inside;
      used = ap (λ (r : Download). r.used) is ∙ u.used;
      transaction = ap (λ (r : Download). r.transaction) is ∙ u.transaction;
      subscriber = ap (λ (r : Download). r.subscriber) is ∙ u.subscriber;
      delivered = ap (λ (r : Download). r.delivered) is ∙ (let a = u.delivered in omega arith);
      fitting = ap (λ (r : Download). r.last) is;
    }
      where
        is : download_at (carry_out (verdict.Of t (action.Download (down.Delivered n))) w q b).bank (download_of w.bank q)
            ≡ moved_to (own.delivered + 1) own.attempts w.bank.clock own
        is = get_or-set_same w.bank.downloads (download_of w.bank q) _ no_download
            (let a = v.state.sizes.downloads in let i = found_inside in omega arith)
            ∙ ap (λ (j : ℕ). let e = download_at w.bank j in moved_to (e.delivered + 1) e.attempts w.bank.clock e) found

    pub deliver-open : DownloadAt (respond context w q b).bank_state t s (suc d) w.bank.clock
    unfolding respond
    deliver-open =
        subst (λ (x : Verdict). DownloadAt (carry_out x w q b) t s (suc d) w.bank.clock) (sym deliver-verdict) delivered-open

  -- the receipt is answered 011000
  pub receipt-verdict : form q ≡ forms.Receipt → d ≡ n → receipt_code q ≡ 0 →
      judge context w.bank q (length b) ≡ verdict.Of t (action.Download down.Confirmed)
  receipt-verdict asked whole taken = own-verdict asks.Receipt down.Confirmed asked refl refl
      (judge-receipt own n q (u.delivered ∙ whole) taken)

-- a download just opened is open with segment 1 delivered
pub opened-open : (first : ℕ) (w : BankState) (h : List Exchange) → Invariant w h →
    (q : Fields) (b : List ℕ) (t : Bits128) (n : ℕ) {x : Verdict} → Happens first w q b x →
    x ≡ verdict.Of t (action.Download (down.Opened n)) → DownloadAt (carry_out x w q b) t (subscriber q) 1 w.bank.clock
unfolding open_download counted
opened-open first w h v q b t n unreadable z = absurd (let y : ◌≡◌ {A = ℕ} 0 1 = cc in omega arith)
opened-open first w h v q b t n (refused c e) z = absurd (let y : ◌≡◌ {A = ℕ} 0 1 = cc in omega arith)
opened-open first w h v q b t n (opens_upload asked a g m inside below) z = absurd (let y : ◌≡◌ {A = ℕ} 0 1 = cc in omega arith)
opened-open first w h v q b t n (opens_download asked a g m) z =
    let inside : free_download w.bank < length w.bank.downloads =
    free-inside-open w.bank v.state.sizes.downloads g.of_all in
    let is = get_or-set_same w.bank.downloads (free_download w.bank) _ no_download inside in
    record {
      row = free_download w.bank;
      inside = let l = v.state.sizes.downloads in omega arith;
      used = ap (λ (r : Download). r.used) is;
      transaction = ap (λ (r : Download). r.transaction) is ∙ cc;
      subscriber = ap (λ (r : Download). r.subscriber) is;
      delivered = ap (λ (r : Download). r.delivered) is;
      fitting = ap (λ (r : Download). r.last) is;
    }
opened-open first w h v q b t n (signs c) z = absurd (let y : ◌≡◌ {A = ℕ} 0 1 = cc in omega arith)
opened-open first w h v q b t n (to_upload r a c) z = absurd (let y : ◌≡◌ {A = ℕ} 0 1 = cc in omega arith)
opened-open first w h v q b t n (to_download r a c) z = never (sym (download-goes-on c.sound) ∙ ap opens z)
