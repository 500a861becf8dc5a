-- The main results, for the crates above: what holds after every list of calls, and what a reply tells of the history.
use Prim.Native.Nat.{ℕ, ◌-◌, ◌<◌}
use mathlib.Core.Bool.{Bool, true, false}
use mathlib.Core.List.{List, ◌++◌}
use mathlib.Core.Logic.{◌⊎◌, inl, inr}
use mathlib.Core.Path.{◌≡◌, refl, sym, ap, ◌∙◌, subst}
use native.Mathlib.Decide.{dec_lt}
use native.Mathlib.Omega.{arith}
use lib.ListN.{replicate, get_or-eq_default}
use Rattle.frame_table.specs.declared.fields.Bits128.{Bits128}
use Rattle.frame_table.specs.declared.table.Form.{Form}
use Rattle.frame_table.specs.Forms as forms
use Rattle.frame_table.specs.Names.{exchange, transaction, segments, segment, last_mark, return_code, form}
use Rattle.octets.proofs.Tests.{never}
use Rattle.message.specs.declared.codes.ReturnCode.{ReturnCode}
use Rattle.message.specs.declared.codes.ReturnCode.TheVariants as code
use Rattle.message.specs.Codes.{code_field}
use Rattle.message.specs.Editions.{edition_of, order_opened}
use Rattle.message.specs.Limits.{file_bytes}
use Rattle.message.specs.Replies.{download_opened, segment_taken, recovery_point, download_segment}
use Rattle.message.specs.Segments.{last_mark_of}
use Rattle.bank_state.specs.declared.state.Place.{Place}
use Rattle.bank_state.specs.declared.state.Use.{Use}
use Rattle.bank_state.specs.declared.state.Use.TheVariants.{Free, Open, Booked}
use Rattle.bank_state.specs.Limits.{place_count}
use Rattle.bank_state.specs.Search.{is_free}
use Rattle.bank_state.specs.State.{BankState, no_place, place_at, download_at}
use Rattle.bank_state.specs.Store.{part_at}
use Rattle.message.specs.OrderNumbers.{order_number_of}
use Rattle.bank_verdicts.specs.declared.verdict.UploadAction.TheVariants as up
use Rattle.bank_verdicts.specs.declared.verdict.DownloadAction.TheVariants as down
use Rattle.bank_verdicts.specs.declared.verdict.Action.{Action}
use Rattle.bank_verdicts.specs.declared.verdict.Action.TheVariants as action
use Rattle.bank_verdicts.specs.declared.verdict.Verdict.{Verdict}
use Rattle.bank_verdicts.specs.declared.verdict.Verdict.TheVariants as verdict
use Rattle.bank_verdicts.specs.Replies.{reply_to}
use Rattle.bank_admitted.specs.State.{mailbox_file}
use Rattle.bank_history.specs.History.{CancelsWith, Exchange, Stands, BankCall, past_of, is_taking, is_booking, is_ending, ever, received, ActionIn}
use Rattle.bank_history.specs.History as cancelled
use Rattle.bank_history.specs.Opened.{is_upload_opened}
use Rattle.bank_history.specs.Sound.{
  is_cancelling,
  SoundUploadOpening,
  SoundDownloadOpening,
  SoundUploadPoint,
  SoundDownloadPoint,
  SoundData,
  SoundConfirmed,
  SoundCancelled,
  SoundVerdict,
  AllSound,
}
use Rattle.bank_history.specs.Invariant.{OrderTold, PlaceTold, DownloadTold, Invariant}
use Rattle.bank_history.specs.Transactions.{Gone, Order}
use Rattle.bank_history.proofs.Entries.{ever-action}
use Rattle.bank_history.proofs.Opened.{upload-behind, order-opened}
use Rattle.bank_history.proofs.Positions.{sound-at, action-sound}
use Rattle.bank_history.proofs.Replies.{
  of_action,
  action-of,
  verdict_form,
  verdict_code,
  ActionOf,
  IsAction,
  verdict-form,
  verdict-code,
  verdict-exchange,
  is-action,
  action-transaction,
  action_form,
  cancelling-code,
}
-- each opening has its own number, each segment is taken once and in its order, each order is booked once; what is ended was not booked
pub use Rattle.bank_history.proofs.Positions.{
  one-opening,
  taking-sound,
  one-taking,
  taken-last-books,
  booking-takes-last,
  one-booking,
  ended-unbooked,
  ever-stands,
  stands-ever,
  received-payload,
}
-- what one call leaves, which calls change a mailbox, and that nothing gone or dropped comes back
pub use Rattle.bank_history.proofs.Changes.{after_frame_lem, late-frame, after-file, frame-mailbox, gone-stays}
pub use Rattle.bank_history.proofs.Dropped.{upload-dropped, download-dropped, dropped-stays}
pub use Rattle.bank_history.proofs.Keeps.{after_holds, past-holds}
-- demand 1: every frame gets its reply, which reads as its fields and its data; its exchange enters the history, whose bank is that of
-- the call
pub use Rattle.bank_history.proofs.Answers.{frame-gets-reply, frame-entered, same-bank}
-- right lent lengths and time, an answer wherever the reply can be written, and short data
pub use Rattle.bank_history.proofs.Answered.{lent-right, frame-answered, data-short}

-- ---- after every list of calls

pub invariant : (calls : List BankCall) → Invariant (past_of calls).bank_state (past_of calls).history
invariant calls = (past-holds calls).invariant

pub history-sound : (calls : List BankCall) → AllSound (past_of calls).history
history-sound calls = (invariant calls).sound

-- ---- the book

module _ {w : BankState} {h : List Exchange} (v : Invariant w h) where
  -- every place that is booked holds such an order
  pub booked-order : (i : ℕ) → i < place_count → (place_at w.bank i).used ≡ Booked → Order w h (place_at w.bank i).transaction i
  booked-order i inside used =
      let p = place_at w.bank i in
      let b : OrderTold h p (part_at w.orders i) =
      subst (λ (u : Use). PlaceTold u h p (part_at w.orders i)) used (v.places i inside) in
      let s = b.place in
      record {
        inside = inside;
        used = used;
        same = refl;
        number = sym s.order;
        owner = sym s.owner;
        long = sym s.long;
        held = s.held ∙ ap (λ (n : ℕ). received p.transaction h ++ replicate (file_bytes - n) 0) (sym s.long);
        whole = b.whole;
        opened = s.opened;
        last = b.booked;
      }

  -- a transaction whose segment N was taken is in the book
  pub in-book : (t : Bits128) → ever is_booking t h ≡ true → (i : ℕ) × Order w h t i
  in-book t e =
      let b = v.booked t e in
      (b.place, subst (λ (u : Bits128). Order w h u b.place) b.same (booked-order b.place b.inside b.used))

  -- no order stands twice in the book
  pub one-order : (t : Bits128) (i j : ℕ) → Order w h t i → Order w h t j → i ≡ j
  one-order t i j a b =
      v.state.places_apart i j a.inside b.inside (ap is_free a.used) (ap is_free b.used)
      (inl (ap (λ (u : Bits128). u.low) (a.same ∙ sym b.same)))

  -- what was cancelled, confirmed or declined is neither open nor booked
  pub ended-gone : (t : Bits128) → ever is_ending t h ≡ true → Gone w t
  ended-gone t e = record {
    known = v.known t (ever-action is_ending t h e);
    places = place;
    downloads = λ j u z. at j (download_at w.bank j).used u (v.downloads j) z;
  }
    where
      at : (j : ℕ) (b : Bool) → b ≡ true →
          DownloadTold b h (mailbox_file w (download_at w.bank j).subscriber) (download_at w.bank j) →
          (download_at w.bank j).transaction ≡ t → ⊥
      at j false u s z = never u
      at j true u s z = never (sym s.going ∙ (ap (λ (i : Bits128). ever is_ending i h) z ∙ e))

      used : (i : ℕ) (u : Use) → is_free u ≡ false →
          PlaceTold u h (place_at w.bank i) (part_at w.orders i) →
          (place_at w.bank i).transaction ≡ t → ⊥
      used i Free f s z = never (sym f)
      used i Open f s z = never (sym s.place.going ∙ (ap (λ (b : Bits128). ever is_ending b h) z ∙ e))
      used i Booked f s z = never (sym s.place.going ∙ (ap (λ (b : Bits128). ever is_ending b h) z ∙ e))

      place : (i : ℕ) → is_free (place_at w.bank i).used ≡ false → (place_at w.bank i).transaction ≡ t → ⊥
      place i f = inside-or-free (dec_lt i place_count)
        where
          inside-or-free : Dec (i < place_count) → (place_at w.bank i).transaction ≡ t → ⊥
          inside-or-free (yes l) = used i (place_at w.bank i).used f (v.places i l)
          inside-or-free (no l) = λ _. never (sym f ∙ ap (λ (p : Place). is_free p.used)
              (get_or-eq_default w.bank.places no_place {n = i} (let z = v.state.sizes.places in omega arith)))

-- what is cancelled has ended
pub cancels-ends : {c : ReturnCode} {k : Action} → CancelsWith c k → is_ending k ≡ true
cancels-ends (cancelled.upload c) = refl
cancels-ends cancelled.download = refl

-- ---- what a reply tells: the exchange e of a sound history, g before it

module _ {e : Exchange} {g h : List Exchange} (sound : AllSound h) (stands : Stands e g h) where
  -- the reply's fields are a function of the verdict and the request
  pub reply-is : e.reply ≡ reply_to e.verdict e.request
  reply-is = (sound-at sound stands).reply

  formed : form e.reply ≡ verdict_form (edition_of e.request) e.verdict
  formed = ap form reply-is ∙ verdict-form e.verdict e.request

  coded : return_code e.reply ≡ code_field (verdict_code e.verdict)
  coded = ap return_code reply-is ∙ verdict-code e.verdict e.request

  -- each reply but "unreadable" carries its request's exchange number
  pub reply-exchange : (form e.reply ≡ forms.Unreadable → ⊥) → exchange e.reply ≡ exchange e.request
  reply-exchange n = ap exchange reply-is ∙ verdict-exchange e.verdict e.request (λ z. n (formed ∙ z))

  -- the action behind a reply in one of the forms that only an action is answered in
  action-behind : (f : Form) → form e.reply ≡ f → of_action f ≡ true → IsAction e.verdict f
  action-behind f z d = is-action (edition_of e.request) e.verdict f (sym formed ∙ z) d

  says : {t : Bits128} {k : Action} → e.verdict ≡ verdict.Of t k → e.reply ≡ reply_to (verdict.Of t k) e.request
  says own = reply-is ∙ ap (λ (v : Verdict). reply_to v e.request) own

  carries : {t : Bits128} {k : Action} → e.verdict ≡ verdict.Of t k →
      (action_form (edition_of e.request) k ≡ forms.Refusal → ⊥) → transaction e.reply ≡ t
  carries {t} {k} own n = ap transaction (says own) ∙ action-transaction t e.request k n

  -- an upload opened, of either edition: the reply's transaction ID was opened by this request, and the order number is
  -- that of its number
  pub upload-opened : is_upload_opened e ≡ true →
      (n : ℕ) × (e.verdict ≡ verdict.Of (transaction e.reply) (action.Upload (up.Opened n)))
      × SoundUploadOpening n (transaction e.reply) e g × (order_opened e.request e.reply ≡ order_number_of n)
  upload-opened z =
      let u = upload-behind (sound-at sound stands) z in
      (u.0, u.1, action-sound sound stands u.1, order-opened (sound-at sound stands) u.1)

  -- "download opened": N, and segment 1 of the file with its last mark
  pub download-opened : form e.reply ≡ forms.DownloadOpened →
      (e.verdict ≡ verdict.Of (transaction e.reply) (action.Download (down.Opened (segments e.reply))))
      × SoundDownloadOpening (segments e.reply) (transaction e.reply) e g × (segment e.reply ≡ 1)
      × (last_mark e.reply ≡ last_mark_of 1 (segments e.reply))
  unfolding download_opened
  download-opened z =
      let d = action-behind forms.DownloadOpened z refl in
      let n = d.kind.0 in
      let own : e.verdict ≡ verdict.Of d.id (action.Download (down.Opened n)) = d.is ∙ ap (verdict.Of d.id) d.kind.1 in
      let t = carries own (λ y. let x : ◌≡◌ {A = ℕ} 0 1 = cc in omega arith) in
      let m : segments e.reply ≡ n = ap segments (says own) in
      let now : e.verdict ≡ verdict.Of (transaction e.reply) (action.Download (down.Opened (segments e.reply))) = own ∙ cc in
      (now, action-sound sound stands now, ap segment (says now), ap last_mark (says now))

  -- the action was asked for under the request's own transaction ID
  own-id : {t : Bits128} {k : Action} → e.verdict ≡ verdict.Of t k → t ≡ transaction e.request →
      e.verdict ≡ verdict.Of (transaction e.request) k
  own-id {t} {k} own same = own ∙ ap (λ (i : Bits128). verdict.Of i k) same

  -- "upload segment taken": 01 03 08 09 0D with 000000 is a segment of the request's transaction taken
  pub segment-taken : form e.reply ≡ forms.SegmentTaken → return_code e.reply ≡ code_field code.Ok →
      (ActionIn is_taking (transaction e.request) e) × (segment e.reply ≡ segment e.request)
  unfolding segment_taken
  segment-taken z ok = at (action-behind forms.SegmentTaken z refl)
    where
      Out : Type 0
      Out = (ActionIn is_taking (transaction e.request) e) × (segment e.reply ≡ segment e.request)

      by : (d : IsAction e.verdict forms.SegmentTaken) → ActionOf forms.SegmentTaken d.action → Out
      by d (inl (inl k)) =
          let own : e.verdict ≡ verdict.Of d.id (action.Upload up.Took) = d.is ∙ ap (verdict.Of d.id) k in
          let s = action-sound sound stands own in (
            record { action = action.Upload up.Took; is = own-id own s.taking.upload.request.same; kind = refl },
            ap segment (says own),
          )
      by d (inl (inr k)) =
          let own : e.verdict ≡ verdict.Of d.id (action.Upload up.TookLast) = d.is ∙ ap (verdict.Of d.id) k in
          let s = action-sound sound stands own in (
            record { action = action.Upload up.TookLast; is = own-id own s.taking.upload.request.same; kind = refl },
            ap segment (says own),
          )
      by d (inr (inl k)) = absurd (
          let own : e.verdict ≡ verdict.Of d.id (action.Upload (up.Point k.0)) = d.is ∙ ap (verdict.Of d.id) k.1 in
          let c : code_field code.RecoverySync ≡ code_field code.Ok =
          sym (coded ∙ ap (λ (v : Verdict). code_field (verdict_code v)) own) ∙ ok in
          omega arith)
      by d (inr (inr k)) = absurd (
          let own : e.verdict ≡ verdict.Of d.id (action.Download (down.Point k.0)) = d.is ∙ ap (verdict.Of d.id) k.1 in
          let c : code_field code.RecoverySync ≡ code_field code.Ok =
          sym (coded ∙ ap (λ (v : Verdict). code_field (verdict_code v)) own) ∙ ok in
          omega arith)

      at : IsAction e.verdict forms.SegmentTaken → Out
      at d = by d d.kind

  -- "download segment": the data is the segment asked for, of the file at the opening, with N and last mark right
  pub segment-delivered : form e.reply ≡ forms.DownloadSegment →
      (n : ℕ) × SoundData n (transaction e.request) e g × (segment e.reply ≡ segment e.request)
      × (last_mark e.reply ≡ last_mark_of (segment e.request) n)
  unfolding download_segment
  segment-delivered z = at (action-behind forms.DownloadSegment z refl)
    where
      Out : Type 0
      Out = (n : ℕ) × SoundData n (transaction e.request) e g × (segment e.reply ≡ segment e.request)
          × (last_mark e.reply ≡ last_mark_of (segment e.request) n)

      by : (d : IsAction e.verdict forms.DownloadSegment) → ActionOf forms.DownloadSegment d.action → Out
      by d (inl k) =
          let own : e.verdict ≡ verdict.Of d.id (action.Download (down.Delivered k.0)) = d.is ∙ ap (verdict.Of d.id) k.1 in
          let s = action-sound sound stands own in (
            k.0,
            subst (λ (t : Bits128). SoundData k.0 t e g) s.carried.download.request.same s.carried,
            ap segment
                (says own),
            ap last_mark (says own),
          )
      by d (inr k) =
          let own : e.verdict ≡ verdict.Of d.id (action.Download (down.SentAgain k.0)) = d.is ∙ ap (verdict.Of d.id) k.1 in
          let s = action-sound sound stands own in (
            k.0,
            subst (λ (t : Bits128). SoundData k.0 t e g) s.carried.download.request.same s.carried,
            ap segment
                (says own),
            ap last_mark (says own),
          )

      at : IsAction e.verdict forms.DownloadSegment → Out
      at d = by d d.kind

  -- "receipt answered" with 011000: all N were delivered, and the mailbox still was the file at the opening
  pub receipt-confirmed : form e.reply ≡ forms.ReceiptAnswered → return_code e.reply ≡ code_field code.DownloadPostprocessDone →
      (e.verdict ≡ verdict.Of (transaction e.request) (action.Download down.Confirmed)) × SoundConfirmed (transaction e.request) e g
  receipt-confirmed z ok = at (action-behind forms.ReceiptAnswered z refl)
    where
      Out : Type 0
      Out = (e.verdict ≡ verdict.Of (transaction e.request) (action.Download down.Confirmed))
          × SoundConfirmed (transaction e.request) e g

      by : (d : IsAction e.verdict forms.ReceiptAnswered) → ActionOf forms.ReceiptAnswered d.action → Out
      by d (inl k) = absurd (
          let own : e.verdict ≡ verdict.Of d.id (action.Upload (up.Opened k.0)) = d.is ∙ ap (verdict.Of d.id) k.1 in
          let c : code_field code.Ok ≡ code_field code.DownloadPostprocessDone =
          sym (coded ∙ ap (λ (v : Verdict). code_field (verdict_code v)) own) ∙ ok in
          omega arith)
      by d (inr (inl k)) =
          let own : e.verdict ≡ verdict.Of d.id (action.Download down.Confirmed) = d.is ∙ ap (verdict.Of d.id) k in
          let now = own-id own (action-sound sound stands own).receipt.download.request.same in
          (now, action-sound sound stands now)
      by d (inr (inr k)) = absurd (
          let own : e.verdict ≡ verdict.Of d.id (action.Download down.Declined) = d.is ∙ ap (verdict.Of d.id) k in
          let c : code_field code.DownloadPostprocessSkipped ≡ code_field code.DownloadPostprocessDone =
          sym (coded ∙ ap (λ (v : Verdict). code_field (verdict_code v)) own) ∙ ok in
          omega arith)

      at : IsAction e.verdict forms.ReceiptAnswered → Out
      at d = by d d.kind

  -- 01 03 0D with 091102, 011101 or 091104: the request's transaction is cancelled
  pub transaction-cancelled : form e.reply ≡ forms.Refusal → is_cancelling (return_code e.reply) ≡ true →
      (c : ReturnCode) × (k : Action) × CancelsWith c k × (e.verdict ≡ verdict.Of (transaction e.request) k)
      × SoundCancelled c (transaction e.request) e g
  transaction-cancelled z ends = at e.verdict refl
    where
      Out : Type 0
      Out = (c : ReturnCode) × (k : Action) × CancelsWith c k × (e.verdict ≡ verdict.Of (transaction e.request) k)
          × SoundCancelled c (transaction e.request) e g

      by : (t : Bits128) (k : Action) → e.verdict ≡ verdict.Of t k → ActionOf forms.Refusal k → Out
      by t k own (inl d) =
          let now : e.verdict ≡ verdict.Of t (action.Upload (up.Cancelled d.0)) = own ∙ ap (verdict.Of t) d.1 in
          let mine = own-id now (action-sound sound stands now).request.same in
          (d.0, action.Upload (up.Cancelled d.0), cancelled.upload d.0, mine, action-sound sound stands mine)
      by t k own (inr d) =
          let now : e.verdict ≡ verdict.Of t (action.Download down.Cancelled) = own ∙ ap (verdict.Of t) d in
          let mine = own-id now (action-sound sound stands now).request.same in
          (code.TransactionAbort, action.Download down.Cancelled, cancelled.download, mine, action-sound sound stands mine)

      at : (v : Verdict) → e.verdict ≡ v → Out
      at verdict.Unreadable own = absurd (let y : forms.Unreadable ≡ forms.Refusal =
          sym (formed ∙ ap (verdict_form (edition_of e.request)) own) ∙ z in let x : ◌≡◌ {A = ℕ} 0 1 = cc in omega arith)
      at (verdict.Refused c) own =
          let s = subst (λ (v : Verdict). SoundVerdict v e g) own (sound-at sound stands).verdict in
          let c' : return_code e.reply ≡ code_field c = coded ∙ ap (λ (v : Verdict). code_field (verdict_code v)) own in
          never (sym s.harmless ∙ (sym (cancelling-code c) ∙ (ap is_cancelling (sym c') ∙ ends)))
      at (verdict.Signed n added) own =
          let c' : return_code e.reply ≡ code_field code.Ok = coded ∙ ap (λ (v : Verdict). code_field (verdict_code v)) own in
          never (ap is_cancelling (sym c') ∙ ends)
      at (verdict.Of t k) own = by t k own (subst (λ (f : Form). ActionOf f k)
          (sym (ap (verdict_form (edition_of e.request)) own) ∙ (sym formed ∙ z)) (action-of (edition_of e.request) k))

  -- 01 03 08 09 0D with 061101: the recovery point is the number of segments taken or delivered
  pub recovery-point : form e.reply ≡ forms.SegmentTaken → return_code e.reply ≡ code_field code.RecoverySync →
      ((e.verdict ≡ verdict.Of (transaction e.request) (action.Upload (up.Point (segment e.reply))))
      × SoundUploadPoint (segment e.reply)
      (transaction e.request) e g)
      ⊎ ((e.verdict ≡ verdict.Of (transaction e.request) (action.Download (down.Point (segment e.reply))))
      × SoundDownloadPoint (segment e.reply)
      (transaction e.request) e g)
  unfolding recovery_point
  recovery-point z sync = at (action-behind forms.SegmentTaken z refl)
    where
      Out : Type 0
      Out =
          ((e.verdict ≡ verdict.Of (transaction e.request) (action.Upload (up.Point (segment e.reply))))
          × SoundUploadPoint (segment e.reply)
          (transaction e.request) e g)
          ⊎ ((e.verdict ≡ verdict.Of (transaction e.request) (action.Download (down.Point (segment e.reply))))
          × SoundDownloadPoint (segment e.reply)
          (transaction e.request) e g)

      taken_not : {t : Bits128} {k : Action} → e.verdict ≡ verdict.Of t k → verdict_code (verdict.Of t k) ≡ code.Ok → ⊥
      taken_not own ok =
          let c : code_field code.Ok ≡ code_field code.RecoverySync =
          sym (coded ∙ (ap (λ (v : Verdict). code_field (verdict_code v)) own ∙ ap code_field ok)) ∙ sync in
          omega arith

      by : (d : IsAction e.verdict forms.SegmentTaken) → ActionOf forms.SegmentTaken d.action → Out
      by d (inl (inl k)) = absurd (taken_not (d.is ∙ ap (verdict.Of d.id) k) refl)
      by d (inl (inr k)) = absurd (taken_not (d.is ∙ ap (verdict.Of d.id) k) refl)
      by d (inr (inl k)) =
          let own : e.verdict ≡ verdict.Of d.id (action.Upload (up.Point k.0)) = d.is ∙ ap (verdict.Of d.id) k.1 in
          let n : segment e.reply ≡ k.0 = ap segment (says own) in
          let now : e.verdict ≡ verdict.Of d.id (action.Upload (up.Point (segment e.reply))) = own
          ∙ ap (λ (m : ℕ). verdict.Of d.id (action.Upload (up.Point m))) (sym n) in
          let mine = own-id now (action-sound sound stands own).upload.request.same in
          inl (mine, action-sound sound stands mine)
      by d (inr (inr k)) =
          let own : e.verdict ≡ verdict.Of d.id (action.Download (down.Point k.0)) = d.is ∙ ap (verdict.Of d.id) k.1 in
          let n : segment e.reply ≡ k.0 = ap segment (says own) in
          let now : e.verdict ≡ verdict.Of d.id (action.Download (down.Point (segment e.reply))) = own
          ∙ ap (λ (m : ℕ). verdict.Of d.id (action.Download (down.Point m))) (sym n) in
          let mine = own-id now (action-sound sound stands own).request.same in
          inr (mine, action-sound sound stands mine)

      at : IsAction e.verdict forms.SegmentTaken → Out
      at d = by d d.kind
