-- Each reply of a bank in range to a request that was read can be written, in as many bytes as the tables say of its form.
use Prim.Native.Nat.{ℕ, ◌+◌, ◌/◌, ◌%◌, ◌^◌, ◌≤◌, ◌<◌}
use mathlib.Core.Bool.{Bool, true, false, cond}
use mathlib.Core.List.{List, []}
use mathlib.Core.Path.{◌≡◌, refl, sym, ap, ◌∙◌, subst}
use native.Mathlib.Omega.{arith}
use lib.Dec.{eqb}
use lib.ListN.{length, length-take, length-drop}
use borrow.Author.Tests.{ne_eqb}
use Rattle.frame_table.specs.declared.fields.Bits128.{Bits128}
use Rattle.frame_table.specs.declared.fields.Fields.{Fields}
use Rattle.frame_table.specs.declared.table.Form.{Form}
use Rattle.frame_table.specs.Forms as forms
use Rattle.frame_table.specs.Names.{phase, subscriber, exchange, transaction, segment, form, same_bits}
use Rattle.frame_table.specs.Table.{is_request_form, is_reply_form, is_form}
use Rattle.frame_writer.specs.Writer.{frame_of, reply_room, smallest_reply}
use Rattle.frame.proofs.Theorems.{reply-length, reply-least}
use Rattle.frame_table.proofs.Bits.{bits-same}
use Rattle.message.specs.declared.codes.ReturnCode.{ReturnCode}
use Rattle.message.specs.declared.codes.ReturnCode.TheVariants as code
use Rattle.message.specs.declared.editions.Edition.{Edition}
use Rattle.message.specs.declared.editions.Edition.TheVariants as edition
use Rattle.message.specs.Editions.{edition_of}
use Rattle.message.specs.Limits.{segment_bytes, max_segments}
use Rattle.message.specs.Replies.{download_opened, segment_taken, receipt_answered, refusal}
use Rattle.message.specs.Segments.{segments_of, segment_of, last_mark_of}
use Rattle.message.proofs.SegmentNumbers.{some-segment, segment-length, mark-most}
use Rattle.message.proofs.OrderNumbers.{letter-lt, character-lt}
use Rattle.message.proofs.Writable.{
  WrittenAs,
  Wide,
  Content,
  segment-content,
  unreadable-written,
  refusal-written,
  upload-opened-written,
  chosen-opened-written,
  segment-taken-written,
  recovery-point-written,
  receipt-answered-written,
  download-opened-written,
  download-segment-written,
}
use Rattle.bank_state.specs.declared.state.Download.{Download}
use Rattle.bank_state.specs.declared.state.Place.{Place}
use Rattle.bank_state.specs.declared.state.Use.TheVariants.{Open}
use Rattle.bank_state.specs.Limits.{place_count, store_bytes}
use Rattle.bank_state.specs.Search.{is_open}
use Rattle.bank_state.specs.State.{BankState, place_at, download_at, file_length}
use Rattle.bank_sound.specs.Sound.{InRange}
use Rattle.bank_state.specs.Store.{part_at, file_of, mailbox_file}
use Rattle.bank_verdicts.specs.declared.verdict.Context.{Context}
use Rattle.bank_verdicts.specs.declared.verdict.TransactionRequest.{TransactionRequest}
use Rattle.bank_verdicts.specs.declared.verdict.UploadAction.{UploadAction}
use Rattle.bank_verdicts.specs.declared.verdict.DownloadAction.{DownloadAction}
use Rattle.bank_verdicts.specs.declared.verdict.Verdict.{Verdict}
use Rattle.bank_verdicts.specs.declared.verdict.Verdict.TheVariants as verdict
use Rattle.bank_verdicts.specs.Refusals.{request_rows}
use Rattle.bank_verdicts.specs.Judgement.{transaction_of, mailbox_segments, opening_number, upload_at, download_of, judge}
use Rattle.bank_steps.specs.Steps.{carry_out}
use Rattle.bank_steps.specs.Lent.{Lent, state_of, kept_in, Prepared}
use Rattle.bank_rows.specs.State.{bank_of}
use Rattle.bank_rows.proofs.State.{held_rows}
use Rattle.frame_writer.proofs.Written.{is-accepted}
use Rattle.bank_verdicts.specs.Replies.{
  reply_to,
  segment_in,
  upload_point_phase,
  download_point_phase,
  segment_reply,
  opened_reply,
  upload_reply,
  download_reply,
  download_segment_in,
}
use Rattle.bank_verdicts.proofs.Sound.{Readable, Acceptable, UploadSound, DownloadSound}
use Rattle.bank_verdicts.proofs.Sound as sound
use Rattle.message.specs.OrderNumbers.{order_number_of}
use Rattle.bank.specs.Call.{InWidth, Bounded, Step, file_segment, mailbox_segment, step_by, respond, Sendable}
use Rattle.bank.proofs.Lent.{same-segment}
use Rattle.bank_steps.proofs.Cases.{
  Happens,
  ToUpload,
  ToDownload,
  opens_upload,
  opens_download,
  to_upload,
  to_download,
  happens,
}
use Rattle.bank_steps.proofs.Cases as cases
use Rattle.bank_state.proofs.Found.{upload-found, download-found}
use Rattle.bank_state.proofs.Stores.{kept-long}

-- a reply that can be written, in as many bytes as the buffer has room for
pub record WrittenReply (f : Fields) (d : List ℕ) : Type 0 where
  pub named : Form
  pub written : WrittenAs f d named
  pub kind : is_reply_form (form f) ≡ true
  pub least : smallest_reply ≤ length (frame_of f d)
  pub most : length (frame_of f d) ≤ reply_room

-- a reply with at most a whole segment as its data is one
pub sent : {f : Fields} {d : List ℕ} {x : Form} → is_reply_form x ≡ true → length d ≤ segment_bytes → WrittenAs f d x
    → WrittenReply f d
sent {f = f} {d = d} {x = x} k m w =
    let kind = ap is_reply_form w.named ∙ k in
    record {
      named = x;
      written = w;
      kind = kind;
      least = reply-least f d w.accepted kind;
      most = reply-length f d w.accepted kind m;
    }

-- ---- the numbers that the bank writes

order-number-lt : (n : ℕ) → order_number_of n < 2 ^ 32
unfolding order_number_of
order-number-lt n =
    let a = letter-lt (n / 46656) in
    let b = character-lt (n / 1296 % 36) (omega arith) in
    let c = character-lt (n / 36 % 36) (omega arith) in
    let d = character-lt (n % 36) (omega arith) in
    omega arith

not-zero : (n : ℕ) → (n ≡ 0 → ⊥) → 1 ≤ n
not-zero n h = omega arith

-- a recovery point's phase is 1 or 2
phase-range : (b : Bool) → (1 ≤ cond b 1 2) × (cond b 1 2 ≤ 3)
phase-range true = (omega arith, omega arith)
phase-range false = (omega arith, omega arith)

-- the segment of a mailbox that a reply carries
pub carried-segment : (w : BankState) (s n : ℕ) → 1 ≤ n → mailbox_segment w s n ≡ segment_of (mailbox_file w s) n
unfolding mailbox_segment mailbox_file
carried-segment w s n h = rw (ne_eqb n 0 (λ e. omega arith))

-- the reply to what is not readable
unreadable-sent : (w : BankState) (q : Fields) (d : List ℕ) →
    let s = step_by verdict.Unreadable w q d in WrittenReply s.reply s.reply_data
unfolding mailbox_segment
unreadable-sent w q d = sent refl (omega arith) unreadable-written

-- ---- each case of a request

module _ (w : BankState) (range : InRange w.bank) (long : length w.mailboxes ≡ store_bytes) (q : Fields)
    (r : InWidth q) where
  refused-written : (c : ReturnCode) → WrittenReply (refusal (phase q) (exchange q) c) []
  refused-written c = sent refl (omega arith) (refusal-written (exchange q) r.numbered (phase q) c r.some
      r.most)

  -- a mailbox has no more segments than an order
  segments-most : (s : ℕ) → segments_of (length (mailbox_file w s)) ≤ max_segments
  unfolding mailbox_file file_of part_at segments_of
  segments-most s = simp (length-take, length-drop) (omega arith)

  -- a segment of a mailbox as a reply's data
  module _ (n : ℕ) (some : 1 ≤ n) (within : n ≤ segments_of (length (mailbox_file w (subscriber q)))) where
    abbrev part : List ℕ
    part = mailbox_segment w (subscriber q) n

    part-is : part ≡ segment_of (mailbox_file w (subscriber q)) n
    part-is = carried-segment w (subscriber q) n some

    part-long : (1 ≤ length part) × (length part ≤ segment_bytes)
    part-long = rw part-is (segment-length (mailbox_file w (subscriber q)) n some within)

    part-content : (x : Form) → is_form x ≡ true → Content part x
    part-content x known = segment-content part x known part-long.0 part-long.1

  -- to the open upload that is found
  module _ (d : List ℕ) (k : TransactionRequest) (u : UploadAction) (c : ToUpload w q d k u) where
    abbrev p : Place
    p = place_at w.bank (upload_at w.bank q)

    is-upload : (p.used ≡ Open) × (p.subscriber ≡ subscriber q) × (same_bits p.transaction (transaction q) ≡ true)
    is-upload = upload-found (subscriber q) (transaction q) p c.found

    upload-open : is_open p.used ≡ true
    upload-open = ap is_open is-upload.0

    upload-wide : Wide p.transaction
    upload-wide = subst Wide (sym (bits-same p.transaction (transaction q) is-upload.2)) r.wide

    taken-written : segment q ≡ p.taken + 1 → WrittenReply (segment_taken (exchange q) p.transaction (segment q)) []
    taken-written next =
        let a = range.below (upload_at w.bank q) upload-open in
        let b = range.few (upload_at w.bank q) upload-open in
        sent refl (omega arith)
        (segment-taken-written (exchange q) r.numbered p.transaction upload-wide (segment q) (omega arith))

    sound-upload-written : {a : UploadAction} → UploadSound k p q a → WrittenReply (upload_reply a p.transaction q) []
    sound-upload-written (sound.took f below early) = taken-written f.next
    sound-upload-written (sound.took_last f last mark) = taken-written f.next
    sound-upload-written (sound.upload_point fits few) =
        let a = range.below (upload_at w.bank q) upload-open in
        let b = range.few (upload_at w.bank q) upload-open in
        let c = phase-range (eqb p.taken 0) in
        sent refl (omega arith)
        (recovery-point-written (exchange q) r.numbered p.transaction upload-wide (upload_point_phase p.taken) p.taken
        c.0 c.1 (omega arith))
    sound-upload-written (sound.abort fits many) = refused-written code.TransactionAbort
    sound-upload-written (sound.underrun f below mark) = refused-written code.SegmentNumberUnderrun
    sound-upload-written (sound.exceeded f last mark) = refused-written code.SegmentNumberExceeded

    upload-written : WrittenReply (upload_reply u p.transaction q) []
    upload-written = sound-upload-written c.sound

  -- to the open download that is found
  module _ (d : List ℕ) (k : TransactionRequest) (u : DownloadAction) (c : ToDownload w q d k u) where
    abbrev e : Download
    e = download_at w.bank (download_of w.bank q)

    -- N of its mailbox
    abbrev n : ℕ
    n = mailbox_segments (subscriber q) w.bank

    is_found : (e.used ≡ true) × (e.subscriber ≡ subscriber q) × (e.transaction ≡ transaction q)
    is_found =
        let f = download-found (subscriber q) (transaction q) e c.found in
        (f.0, f.1, bits-same e.transaction (transaction q) f.2)

    download-wide : Wide e.transaction
    download-wide = subst Wide (sym is_found.2) r.wide

    segments-now : n ≡ segments_of (length (mailbox_file w (subscriber q)))
    segments-now =
        ap segments_of (sym (kept-long w long range.files (subscriber q) c.readable.known c.readable.most))

    within : e.delivered ≤ segments_of (length (mailbox_file w (subscriber q)))
    within = subst (λ (m : ℕ). e.delivered ≤ m) segments-now
        (subst (λ (s : ℕ). e.delivered ≤ mailbox_segments s w.bank) is_found.1
        (range.within (download_of w.bank q) is_found.0))

    segment-written : 1 ≤ segment q → segment q ≤ segments_of (length (mailbox_file w (subscriber q))) →
        WrittenReply (segment_reply n e.transaction q) (mailbox_segment w (subscriber q) (segment q))
    segment-written some most =
        let b = segments-most (subscriber q) in
        let l = part-long (segment q) some most in
        sent refl (omega arith)
        (download-segment-written (exchange q) r.numbered e.transaction download-wide (segment q)
        (last_mark_of (segment q) n) (mailbox_segment w (subscriber q) (segment q)) (omega arith)
        (mark-most (segment q) n) (part-content (segment q) some most forms.DownloadSegment refl))

    receipt-written : (x : ReturnCode) → WrittenReply (receipt_answered (exchange q) e.transaction x) []
    receipt-written x =
        sent refl (omega arith) (receipt-answered-written (exchange q) r.numbered e.transaction download-wide x)

    sound-download-written : {a : DownloadAction} → DownloadSound k e n q a →
        WrittenReply (download_reply a e.transaction q) (mailbox_segment w (subscriber q) (download_segment_in a q))
    unfolding mailbox_segment
    sound-download-written (sound.delivered t next most) = segment-written (omega arith) (omega (arith, segments-now))
    sound-download-written (sound.sent_again t some most few) = segment-written some (omega (arith, within))
    sound-download-written (sound.download_point fits few) =
        let b = segments-most (subscriber q) in
        let l = within in
        let c = phase-range (eqb e.delivered 1) in
        sent refl (omega arith)
        (recovery-point-written (exchange q) r.numbered e.transaction download-wide (download_point_phase e.delivered)
        e.delivered c.0 c.1 (omega arith))
    sound-download-written (sound.cancelled fits many) = refused-written code.TransactionAbort
    sound-download-written (sound.confirmed t whole taken) = receipt-written code.DownloadPostprocessDone
    sound-download-written (sound.declined t whole other) = receipt-written code.DownloadPostprocessSkipped

    download-written : WrittenReply (download_reply u e.transaction q) (mailbox_segment w (subscriber q) (download_segment_in u q))
    download-written = sound-download-written c.sound

  -- an opening
  module _ (d : List ℕ) (first : ℕ) (small : first < 2 ^ 64) (a : Readable q (length d)) (g : Acceptable w.bank q) where
    abbrev t : Bits128
    t = transaction_of first w.bank

    opening-wide : Wide t
    opening-wide = (small, let n = g.numbers in omega arith)

    abbrev m : ℕ
    m = opening_number w.bank q

    -- with the order number, or without it to an opening that brings it
    opened-written : (e : Edition) → WrittenReply (opened_reply e m t q) []
    opened-written edition.V24 =
        sent refl (omega arith) (chosen-opened-written (exchange q) r.numbered t opening-wide)
    opened-written edition.V25 =
        sent refl (omega arith)
        (upload-opened-written (exchange q) r.numbered t opening-wide
        (order_number_of m) (order-number-lt m))

    upload-opening-written : WrittenReply (opened_reply (edition_of q) m t q) []
    upload-opening-written = opened-written (edition_of q)

    download-opening-written : (file_length (subscriber q) w.bank.files ≡ 0 → ⊥) →
        let n = mailbox_segments (subscriber q) w.bank in
        WrittenReply (download_opened (exchange q) n t (last_mark_of 1 n)) (mailbox_segment w (subscriber q) 1)
    download-opening-written full =
        let n : ℕ = mailbox_segments (subscriber q) w.bank in
        let f = kept-long w long range.files (subscriber q) a.known a.most in
        let b = segments-most (subscriber q) in
        let m : n ≡ segments_of (length (mailbox_file w (subscriber q))) = ap segments_of (sym f) in
        let s = some-segment (length (mailbox_file w (subscriber q))) (not-zero _ (λ z. full (sym f ∙ z))) in
        let l = part-long 1 (omega arith) s in
        sent refl (omega arith)
        (download-opened-written (exchange q) r.numbered t opening-wide n (last_mark_of 1 n) (mailbox_segment w (subscriber q) 1)
        (omega arith) (mark-most 1 n) (part-content 1 (omega arith) s forms.DownloadOpened refl))

  case-written : {first : ℕ} {d : List ℕ} {x : Verdict} → first < 2 ^ 64 → Happens first w q d x →
      WrittenReply (step_by x w q d).reply (step_by x w q d).reply_data
  unfolding mailbox_segment
  case-written {d = d} small cases.unreadable = unreadable-sent w q d
  case-written small (cases.refused c e) = refused-written c
  case-written {first = first} {d = d} small (opens_upload asked a g n p below) = upload-opening-written d first small a g
  case-written {first = first} {d = d} small (opens_download asked a g n) = download-opening-written d first small a g n
  case-written {d = d} small (to_upload k u c) = upload-written d k u c
  case-written {d = d} small (to_download k u c) = download-written d k u c
  case-written small (cases.signs c) = refused-written code.Ok

-- ---- every request

module _ (context : Context) (w : BankState) (q : Fields) (d : List ℕ) where
  unread-is : is_request_form (form q) ≡ false → respond context w q d ≡ step_by verdict.Unreadable w q d
  unfolding respond judge request_rows
  unread-is e = rw e

  -- of a bank whose lists and mailboxes' store have their lengths
  pub respond-written : context.prefix < 2 ^ 64 → InRange w.bank → length w.bank.places ≡ place_count
      → length w.bank.downloads ≡ place_count → length w.mailboxes ≡ store_bytes → Bounded q
      → let s = respond context w q d in WrittenReply s.reply s.reply_data
  unfolding respond
  respond-written small range rowed listed long bounded = at (is_request_form (form q)) refl
    where
      at : (b : Bool) → is_request_form (form q) ≡ b → let s = respond context w q d in WrittenReply s.reply s.reply_data
      at true e = case-written w range long q (bounded e) small (happens context w q d rowed listed)
      at false e =
          subst (λ (s : Step). WrittenReply s.reply s.reply_data) (sym (unread-is e)) (unreadable-sent w q d)

-- the reply that the code writes: of the verdict, and of the mailboxes as the step leaves them
pub sendable : (context : Context) (m : Lent) (q : Fields) (d buffer : List ℕ) {u : Verdict} {x : Lent} {n : ℕ}
    → context.prefix < 2 ^ 64 → Prepared m.rows m.orders m.mailboxes → Bounded q → reply_room ≤ length buffer
    → let v = judge context (bank_of m.rows) q (length d) in
    u ≡ v → x ≡ kept_in m (carry_out v (state_of m) q d) → n ≡ file_length (subscriber q) (bank_of m.rows).files
    → Sendable (reply_to u q) (file_segment x.mailboxes (subscriber q) n (segment_in u q)) buffer
unfolding respond mailbox_segment
sendable context m q d buffer small ready bounded room e f g =
    let held = held_rows m.rows ready.laid in
    let r = respond-written context (state_of m) q d small ready.range held.places held.downloads
    ready.mailbox_store bounded in
    let v = judge context (bank_of m.rows) q (length d) in
    rw (e, f, g, same-segment v (state_of m) q d (subscriber q))
    (is-accepted _ _ buffer r.written.accepted (omega (arith, r.most)), r.kind)
