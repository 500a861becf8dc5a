-- The journal after every list of calls holds the events that requests, replies and clocks tell.
use Rattle.number_table.specs.declared.table.WrongLength.{WrongLength}
use Rattle.std.specs.Prelude.{Err, Ok, Result}
use Prim.Native.Nat.{ℕ, ◌+◌, ◌<◌, max}
use mathlib.Core.Bool.{Bool, true, false, cond, not, ◌&&◌}
use mathlib.Core.List.{List, [], ◌∷◌, ◌++◌, map}
use mathlib.Core.Path.{◌≡◌, refl, sym, ap, ◌∙◌, subst}
use native.Mathlib.Nat.{zero-add}
use native.Mathlib.Omega.{arith}
use lib.Dec.{eqb}
use lib.ListN.{length, length-append}
use borrow.Author.Tests.{eqb-true, eq-eqb, ne_eqb}
use Rattle.frame_table.specs.declared.fields.Bits128.{Bits128}
use Rattle.frame_table.specs.declared.fields.Fields.{Fields}
use Rattle.frame_table.specs.declared.table.Form.{Form}
use Rattle.frame_table.specs.Forms as forms
use Rattle.frame_table.specs.Names.{subscriber, transaction, segments, segment, return_code, owner, form}
use Rattle.octets.proofs.Tests.{never}
use Rattle.message.specs.declared.codes.ReturnCode.{ReturnCode}
use Rattle.message.specs.declared.codes.ReturnCode.TheVariants as code
use Rattle.message.specs.Codes.{code_field}
use Rattle.message.specs.declared.editions.Edition.{Edition}
use Rattle.message.specs.declared.editions.Edition.TheVariants as edition
use Rattle.message.specs.Editions.{edition_of, opened_form}
use Rattle.bank_state.specs.declared.state.Place.{Place}
use Rattle.bank_state.specs.declared.state.Use.{Use}
use Rattle.bank_state.specs.declared.state.Use.TheVariants as uses
use Rattle.bank_state.specs.Limits.{place_count}
use Rattle.bank_state.specs.State.{BankState, place_at, download_at}
use Rattle.bank_state.specs.Store.{part_at}
use Rattle.bank_state.proofs.Found.{upload-found, download-found}
use Rattle.bank_verdicts.specs.declared.verdict.UploadAction.{UploadAction}
use Rattle.bank_verdicts.specs.declared.verdict.UploadAction.TheVariants as up
use Rattle.bank_verdicts.specs.declared.verdict.DownloadAction.{DownloadAction}
use Rattle.bank_verdicts.specs.declared.verdict.DownloadAction.TheVariants as down
use Rattle.bank_verdicts.specs.declared.verdict.Action.{Action}
use Rattle.bank_verdicts.specs.declared.verdict.Action.TheVariants as action
use Rattle.bank_verdicts.specs.declared.verdict.SignedOrder.{SignedOrder}
use Rattle.bank_verdicts.specs.declared.verdict.Verdict.{Verdict}
use Rattle.bank_verdicts.specs.declared.verdict.Verdict.TheVariants as verdict
use Rattle.bank_verdicts.specs.Refusals.{cancels}
use Rattle.bank_verdicts.specs.Judgement.{upload_at, download_of}
use Rattle.journal.specs.declared.event.Kind.{Kind}
use Rattle.journal.specs.declared.event.Kind.TheVariants as kind
use Rattle.journal.specs.declared.event.Entry.{Entry}
use Rattle.journal.specs.declared.event.Event.{Event}
use Rattle.journal.specs.declared.event.OrderName.{OrderName}
use Rattle.journal.specs.Events.{events_from}
use Rattle.journal.specs.Row.{Journal, entered_all, row_of}
use Rattle.journal.specs.Records.{Numbered, none}
use Rattle.journal.proofs.Events.{events-length}
use Rattle.journal.proofs.Laws.{row-of-none, row-continues, events-numbered, numbered-on}
use Rattle.bank_events.specs.Entries.{
  entry,
  drop_entry,
  dropped_uploads,
  signed_kind,
  is_event,
  order_in,
  action_entries,
  call_entries,
}
use Rattle.bank.specs.Call.{context_of, FrameInput, respond, frame_call}
use Rattle.bank.specs.Journal.{entered_by, journal_after, journal_by}
use Rattle.bank_history.specs.History.{Exchange, BankCall, Frame, File, Past, is_opening, is_booking, is_download_opening, ever, call_exchange, segments_at, entered, after, start, past_of}
use Rattle.bank_history.specs.Signatures.{is_signing_form, signed_name, is_signed, has_signed}
use Rattle.bank_history.specs.FalseEconomies.{Next}
use Rattle.bank_history.specs.Invariant.{PlaceTold, UploadTold, Invariant}
use Rattle.bank_history.specs.Sound.{is_cancelling, Sound, SoundRequest, SoundSigning, SoundVerdict, AllSound}
use Rattle.bank_history.specs.Sound as sounds
use Rattle.bank_history.specs.Opened.{of_reply, is_upload_opened}
use Rattle.bank_history.specs.ByReplies.{
  number_given,
  owner_of,
  order_of,
  segment_count_of,
  is_upload_id,
  is_code,
}
use Rattle.bank_history.specs.Status.{Booked, status}
use Rattle.bank_history.specs.Journal.{
  journal_over,
  journal_of,
  entry_of,
  upload_drops,
  signed_entries,
  opened_entries,
  reply_entries,
  entries_of,
  events_in,
  JournalTold,
}
use Rattle.bank_history.proofs.ByReplies.{
  formed,
  coded,
  formed-as,
  is-code,
  coded-as,
  carries,
  sound-as,
  at-opened,
}
use Rattle.bank_history.proofs.ByReplies as replied
use Rattle.bank_history.proofs.GoesOn.{upload-goes-on}
use Rattle.bank_steps.proofs.Cases.{
  Happens,
  unreadable,
  refused,
  opens_upload,
  opens_download,
  signs,
  to_upload,
  to_download,
}
use Rattle.bank_history.proofs.Entries.{and_no}
use Rattle.bank_admitted.proofs.Clock.{advanced-clock}
use Rattle.bank_history.proofs.Downloads.{download-open}
use Rattle.bank_history.proofs.Closed.{booked-status}
use Rattle.bank_history.proofs.DropOrder.{owner-is, order_is, upload-id, download-id, same_entries}
use Rattle.bank_history.proofs.Keeps.{past-holds}
use Rattle.bank_history.proofs.Liveness.{by_call}
use Rattle.bank_history.proofs.Opened.{number-given}
use Rattle.bank_history.proofs.NextCall.{
  judged_bank,
  asked,
  sent,
  all_sound,
  request-is,
  verdict-is,
  clock-is,
  judged-holds,
  case-is,
}
use Rattle.bank_history.proofs.Plain.{events-plain}
use Rattle.bank_history.proofs.Refusing.{refusing-not-ok, Refuses, verdict-refuses}
use Rattle.bank_history.proofs.Replies.{verdict_form, verdict_code, upload_form, action_form, cancelling-code, opened-answers}
use Rattle.bank_history.proofs.SignedOrders.{signed-entry}
use Rattle.bank_history.proofs.Signatures.{unsigned-code, signer-told, has-bit}
use Rattle.bank_history.proofs.Statuses.{past-told}

-- ---- the event of the request

-- a code that cancels is not 000000
cancelling-not-ok : (c : ReturnCode) → cancels c ≡ true → eqb (code_field c) (code_field code.Ok) ≡ false
cancelling-not-ok c z = at (eqb (code_field c) (code_field code.Ok)) refl
  where
    at : (b : Bool) → eqb (code_field c) (code_field code.Ok) ≡ b → b ≡ false
    at true y = never (ap is_cancelling (sym (eqb-true (code_field c) (code_field code.Ok) y)) ∙ (cancelling-code c ∙ z))
    at false y = refl

-- the exchange e of the request q with the data d at the bank w, clock and drops done
module _ {e : Exchange} {h : List Exchange} (s : Sound e h) (r : AllSound h) (w : BankState) (v : Invariant w h)
    (q : Fields) (same : e.request ≡ q) where
  abbrev Enters : Verdict → Type 0
  Enters u = action_entries u (order_in u w.bank q) q ≡ of_reply [] (reply_entries e h) (form e.reply)

  abbrev x : Edition
  x = edition_of e.request

  -- the replies with a transaction ID, and a refusal
  by_form : {u : Bits128} {k : Action} (es : List Entry) → e.verdict ≡ verdict.Of u k →
      es ≡ of_reply [] (reply_entries e h) (action_form x k) → es ≡ of_reply [] (reply_entries e h) (form e.reply)
  by_form es own z = z ∙ sym (ap (of_reply [] (reply_entries e h)) (formed-as s own))

  none-by : {u : Bits128} {k : Action} (b : Bool) (es : List Entry) → e.verdict ≡ verdict.Of u k →
      of_reply [] (reply_entries e h) (action_form x k) ≡ cond b es [] → b ≡ false →
      [] ≡ of_reply [] (reply_entries e h) (form e.reply)
  none-by b es own z n = by_form [] own (ap (λ (x : Bool). cond x es []) (sym n) ∙ sym z)

  some-by : {u : Bits128} {k : Action} (b : Bool) {es : List Entry} (fs : List Entry) → e.verdict ≡ verdict.Of u k →
      of_reply [] (reply_entries e h) (action_form x k) ≡ cond b fs [] → b ≡ true → es ≡ fs →
      es ≡ of_reply [] (reply_entries e h) (form e.reply)
  some-by b fs own z n y = by_form _ own (y ∙ (ap (λ (x : Bool). cond x fs []) (sym n) ∙ sym z))

  -- the event that a refusal tells
  abbrev cancellation : Bool → List Entry
  cancellation b = cond b (entry_of kind.Cancelled (transaction e.request) h ∷ []) []

  abbrev cancelled : Bool
  cancelled = is_cancelling (return_code e.reply) && is_upload_id (transaction e.request) h

  -- 01 03 0D, to an accepted signing or with another code than 000000
  by-refusal : (es : List Entry) (b : Bool) → form e.reply ≡ forms.Refusal → is_signed e ≡ b →
      es ≡ cond b (signed_entries e h) (cancellation cancelled) → es ≡ of_reply [] (reply_entries e h) (form e.reply)
  by-refusal es b f is z =
      z ∙ sym (ap (of_reply [] (reply_entries e h)) f
      ∙ ap (λ (x : Bool). cond x (signed_entries e h) (cancellation cancelled)) is)

  -- a request to the upload in place i, by what the history tells of that place
  module _ (i : ℕ) (inside : i < place_count) (used : (place_at w.bank i).used ≡ uses.Open) where
    abbrev p : Place
    p = place_at w.bank i

    abbrev t : Bits128
    t = p.transaction

    pub p-told : UploadTold h p (part_at w.orders i)
    p-told = subst (λ (x : Use). PlaceTold x h p (part_at w.orders i)) used (v.places i inside)

    pub number_is : order_of t h ≡ p.number
    number_is = order_is t r p-told.place.opened ∙ p-told.place.order

    pub owned : SoundRequest t e h → owner_of t h ≡ subscriber q
    owned z = owner-is t r ∙ (z.owner ∙ ap subscriber same)

    count-is : segment_count_of t h ≡ segments_at t h
    count-is = at-opened (λ (y : Exchange). segments y.request) 0 t r

    -- the segment is N
    last-is : {a : UploadAction} → e.verdict ≡ verdict.Of t (action.Upload a) → upload_form x a ≡ forms.SegmentTaken →
        (b : Bool) → eqb (segment e.request) (segments_at t h) ≡ b →
        eqb (segment e.request) (segment_count_of (transaction e.reply) h) ≡ b
    last-is own f b z =
        ap (λ (u : Bits128). eqb (segment e.request) (segment_count_of u h))
        (carries s own (λ y. let x : ◌≡◌ {A = ℕ} 0 1 = cc in omega arith))
        ∙ (ap (eqb (segment e.request)) count-is ∙ z)

    booked-entry : (u : Bits128) → u ≡ t → SoundRequest t e h → (k : Kind) →
        entry k (subscriber q) p.number t ∷ [] ≡ entry_of k u h ∷ []
    booked-entry u z o k =
        let same : entry k (subscriber q) p.number t ≡ entry_of k t h = rw (owned o, number_is) in
        ap (λ (y : Entry). y ∷ []) same ∙ ap (λ (y : Bits128). entry_of k y h ∷ []) (sym z)

    upload-enters : (a : UploadAction) → is_opening (action.Upload a) ≡ false →
        e.verdict ≡ verdict.Of t (action.Upload a) →
        action_entries (verdict.Of t (action.Upload a)) p.number q ≡ of_reply [] (reply_entries e h) (form e.reply)
    unfolding action_entries
    upload-enters (up.Opened n) o own = never (sym o)
    upload-enters up.Took o own =
        none-by _ _ own refl
        (ap (λ (b : Bool). is_code (code_field code.Ok) e && b)
        (last-is own refl false (ne_eqb (segment e.request) (segments_at t h) (let a = (sound-as s own).below in omega arith)))
        ∙ and_no (is_code (code_field code.Ok) e))
    upload-enters up.TookLast o own =
        some-by _ _ own refl
        (ap (λ (b : Bool). b && eqb (segment e.request) (segment_count_of (transaction e.reply) h))
        (is-code s own (code_field code.Ok))
        ∙ last-is own refl true (eq-eqb (segment e.request) (segments_at t h) (sound-as s own).last))
        (booked-entry (transaction e.reply) (carries s own (λ y. let x : ◌≡◌ {A = ℕ} 0 1 = cc in omega arith))
        (sound-as s own).taking.upload.request kind.Booked)
    upload-enters (up.Point k) o own =
        none-by _ _ own refl
        (ap (λ (b : Bool). b && eqb (segment e.request) (segment_count_of (transaction e.reply) h))
        (is-code s own (code_field code.Ok)))
    upload-enters (up.Cancelled c) o own =
        let z = sound-as s own in
        let told : cancelled ≡ true = ap (λ (b : Bool). b && is_upload_id (transaction e.request) h)
        (ap is_cancelling (coded-as s own) ∙ (cancelling-code c ∙ z.cancelling))
        ∙ (ap (λ (u : Bits128). is_upload_id u h) (sym z.request.same) ∙ upload-id t r p-told.place.opened) in
        by-refusal _ false (formed-as s own)
        (unsigned-code e (is-code s own (code_field code.Ok) ∙ cancelling-not-ok c z.cancelling))
        (booked-entry (transaction e.request) (sym z.request.same) z.request kind.Cancelled
        ∙ ap cancellation (sym told))

  -- a request to the download of record j
  download-enters : (t : Bits128) (a : DownloadAction) → ever is_download_opening t h ≡ true →
      e.verdict ≡ verdict.Of t (action.Download a) → [] ≡ of_reply [] (reply_entries e h) (form e.reply)
  download-enters t (down.Opened n) o own = by_form [] own refl
  download-enters t (down.Delivered n) o own = by_form [] own refl
  download-enters t (down.SentAgain n) o own = by_form [] own refl
  download-enters t (down.Point d) o own =
      none-by _ _ own refl
      (ap (λ (b : Bool). b && eqb (segment e.request) (segment_count_of (transaction e.reply) h))
      (is-code s own (code_field code.Ok)))
  download-enters t down.Cancelled o own =
      by-refusal [] false (formed-as s own) (unsigned-code e (is-code s own (code_field code.Ok)))
      (ap cancellation (sym (ap (λ (b : Bool). is_cancelling (return_code e.reply) && b)
      (ap (λ (u : Bits128). is_upload_id u h) (sym (sound-as s own).request.same) ∙ download-id t r o)
      ∙ and_no (is_cancelling (return_code e.reply)))))
  download-enters t down.Confirmed o own = none-by (is_upload_opened e) (opened_entries e) own refl (replied.upload-opened s own)
  download-enters t down.Declined o own = none-by (is_upload_opened e) (opened_entries e) own refl (replied.upload-opened s own)

  upload-order : (t : Bits128) (a : UploadAction) → is_opening (action.Upload a) ≡ false →
      action_entries (verdict.Of t (action.Upload a)) (order_in (verdict.Of t (action.Upload a)) w.bank q) q
      ≡ action_entries (verdict.Of t (action.Upload a)) (place_at w.bank (upload_at w.bank q)).number q
  upload-order t (up.Opened n) o = never (sym o)
  upload-order t up.Took o = refl
  upload-order t up.TookLast o = refl
  upload-order t (up.Point k) o = refl
  upload-order t (up.Cancelled c) o = refl

  -- what stands booked by the history
  abbrev Stays : Type 0
  Stays = (u : Bits128) → ever is_booking u h ≡ true → status u h ≡ Booked

  -- an accepted signing: an event where its subscriber has not signed the order before
  signing-enters : {n : SignedOrder} {added : Bool} → Stays → e.verdict ≡ verdict.Signed n added →
      action_entries (verdict.Signed n added) n.number q ≡ of_reply [] (reply_entries e h) (form e.reply)
  unfolding action_entries
  signing-enters {n} {added} stays own =
      by-refusal _ true (formed s ∙ ap (verdict_form x) own)
      (ap (λ (f : Form). is_signing_form f && eqb (return_code e.reply) (code_field code.Ok)) z.asked
      ∙ ap (λ (c : ℕ). eqb c (code_field code.Ok)) (coded s ∙ ap (λ (y : Verdict). code_field (verdict_code y)) own))
      (ap event (z.adds ∙ ap not (signer-told o by (has-bit by z.known z.most) h))
      ∙ (at (has_signed o by h)
      ∙ (ap (λ (f : Fields). cond (has_signed o by h) [] (entry kind.Signed (owner f) n.number n.transaction ∷ [])) (sym same)
      ∙ ap (λ (l : List Entry). cond (has_signed o by h) [] l) (sym (signed-entry r z w v stays)))))
    where
      z : SoundSigning n added e h
      z = subst (λ (u : Verdict). SoundVerdict u e h) own s.verdict

      o : OrderName
      o = signed_name e

      by : ℕ
      by = subscriber e.request

      event : Bool → List Entry
      event b = cond (is_event (signed_kind b)) (entry (signed_kind b) (owner q) n.number n.transaction ∷ []) []

      at : (b : Bool) → event (not b) ≡ cond b [] (entry kind.Signed (owner q) n.number n.transaction ∷ [])
      at true = refl
      at false = refl

  -- an accepted upload's reply, in either edition's form
  opened-told : (y : Edition) → is_upload_opened e ≡ true → of_reply [] (reply_entries e h) (opened_form y) ≡ opened_entries e
  opened-told edition.V24 z = ap (λ (b : Bool). cond b (opened_entries e) []) z
  opened-told edition.V25 z = refl

  opening-enters : {t : Bits128} {m : ℕ} → e.verdict ≡ verdict.Of t (action.Upload (up.Opened m)) →
      entry kind.Opened (subscriber q) m t ∷ [] ≡ of_reply [] (reply_entries e h) (form e.reply)
  opening-enters {t} {m} own =
      by_form _ own (ap (λ (f : Fields). entry kind.Opened (subscriber f) m t ∷ []) (sym same)
      ∙ (ap (λ (n : ℕ). entry kind.Opened (subscriber e.request) n t ∷ []) (sym (number-given s own))
      ∙ (ap (λ (u : Bits128). entry kind.Opened (subscriber e.request) (number_given e) u ∷ [])
      (sym (carries s own (opened-answers x)))
      ∙ sym (opened-told x (replied.upload-opened s own)))))

  -- every case of a request
  case-enters : {first : ℕ} {d : List ℕ} {u : Verdict} → Stays → e.verdict ≡ u → Refuses u → Happens first w q d u → Enters u
  unfolding action_entries
  case-enters stays own k unreadable = sym (ap (of_reply [] (reply_entries e h)) (formed s ∙ ap (verdict_form x) own))
  case-enters stays own k (refused c z) =
      let coded_so : return_code e.reply ≡ code_field c = coded s ∙ ap (λ (y : Verdict). code_field (verdict_code y)) own in
      by-refusal [] false (formed s ∙ ap (verdict_form x) own)
      (unsigned-code e (ap (λ (m : ℕ). eqb m (code_field code.Ok)) coded_so ∙ refusing-not-ok c k))
      (ap (λ (b : Bool). cancellation (b && is_upload_id (transaction e.request) h))
      (sym (ap is_cancelling coded_so ∙ (cancelling-code c ∙ z))))
  case-enters stays own k (signs y) = signing-enters stays own
  case-enters stays own k (opens_upload asked a g n inside numbered) = opening-enters own
  case-enters stays own k (opens_download asked a g n) = by_form [] own refl
  case-enters stays own k (to_upload y a z) =
      let i = upload_at w.bank q in
      upload-order (place_at w.bank i).transaction a (upload-goes-on z.sound)
      ∙ upload-enters i z.inside (upload-found (subscriber q) (transaction q) (place_at w.bank i) z.found).0 a
      (upload-goes-on z.sound) own
  case-enters stays own k (to_download y a z) =
      let j = download_of w.bank q in
      download-enters (download_at w.bank j).transaction a
      (download-open w h v j (download-found (subscriber q) (transaction q) (download_at w.bank j) z.found).0).1.opened
      own

-- ---- one call

module _ {calls : List BankCall} {e : Exchange} (n : Next calls e) where
  abbrev h : List Exchange
  h = (past_of calls).history

  now : e.clock ≡ max (past_of calls).bank_state.bank.clock n.input.time
  now = clock-is n ∙ advanced-clock n.input.time (past_of calls).bank_state

  -- the request's event is the one that the reply tells
  pub request-told :
      action_entries e.verdict (order_in e.verdict (judged_bank n).bank (asked n)) (asked n) ≡ of_reply []
      (reply_entries e h) (form e.reply)
  request-told = at (all_sound n)
    where
      at : AllSound (e ∷ h) →
          action_entries e.verdict (order_in e.verdict (judged_bank n).bank (asked n)) (asked n) ≡ of_reply []
          (reply_entries e h) (form e.reply)
      at (sounds.more s r) =
          case-enters s r (judged_bank n) (judged-holds n) (asked n) (request-is n) (λ t. booked-status t calls) refl
          (subst Refuses (sym (verdict-is n)) (verdict-refuses (context_of n.input) (judged_bank n) (asked n) (sent n)))
          (case-is n)

  -- what an answered frame call enters is what its exchange tells
  pub enters : entered_by (past_of calls).bank_state n.input ≡ entries_of e h
  unfolding entered_by call_entries entries_of respond
  enters =
      ap (λ (u : Verdict). map drop_entry (dropped_uploads c w.bank) ++ action_entries u (order_in u b.bank q) q)
      (sym (verdict-is n))
      ∙ (ap (λ (l : List Entry). map drop_entry (dropped_uploads c w.bank) ++ l) request-told
      ∙ ap (λ (l : List Entry). l ++ of_reply [] (reply_entries e h) (form e.reply))
      (same_entries w h (past-holds calls).invariant (past-told calls) c
      ∙ ap (λ (m : ℕ). map (λ (t : Bits128). entry_of kind.Dropped t h) (upload_drops m h)) (sym now)))
    where
      w : BankState
      w = (past_of calls).bank_state

      b : BankState
      b = judged_bank n

      q : Fields
      q = asked n

      c : ℕ
      c = max w.bank.clock n.input.time

-- ---- every list of calls

-- the journal holds these events
abbrev Holding : Journal → List Event → Type 0
Holding j l = (j.row ≡ row_of l) × (j.events ≡ length l)

enter-more : (j : Journal) (l : List Event) (clock : ℕ) (es : List Entry) → Holding j l →
    Holding (record { events = j.events + length es; row = entered_all j.events (events_from j.events clock es) j.row })
    (l ++ events_from (length l) clock es)
enter-more j l clock es (a, b) = (
  ap (λ (m : ℕ). entered_all m (events_from m clock es) j.row) b
      ∙ (ap (entered_all (length l) (events_from (length l) clock es)) a ∙ row-continues l (events_from (length l) clock es)),
  ap (λ (m : ℕ). m + length es) b
      ∙ sym (length-append l (events_from (length l) clock es) ∙ ap (λ (m : ℕ). length l + m) (events-length (length l) clock es)),
)

answered-holds : {calls : List BankCall} {e : Exchange} (n : Next calls e) → Holding (journal_of calls) (events_in (past_of calls).history) →
    Holding (journal_after (past_of calls).bank_state n.input (journal_of calls)) (events_in (e ∷ (past_of calls).history))
unfolding journal_after events_in
answered-holds {calls} {e} n k =
    let g = (past_of calls).history in
    let j = journal_of calls in
    let l = events_in g in
    subst (λ (es : List Entry). Holding (record {
      events = j.events + length es;
      row = entered_all j.events
          (events_from j.events (max (past_of calls).bank_state.bank.clock n.input.time) es) j.row;
    }) (l ++ events_from (length l) e.clock (entries_of e g))) (sym (enters n))
    (subst (λ (c : ℕ). Holding (record {
      events = j.events + length (entries_of e g);
      row = entered_all j.events (events_from j.events c (entries_of e g)) j.row;
    }) (l ++ events_from (length l) e.clock (entries_of e g))) (now n) (enter-more j l e.clock (entries_of e g) k))

pub journal-holds : (calls : List BankCall) → Holding (journal_of calls) (events_in (past_of calls).history)
unfolding journal_of journal_over past_of start after events_in
journal-holds [] = (sym row-of-none, refl)
journal-holds (c ∷ calls) = over c (journal-holds calls)
  where
    p : Past
    p = past_of calls

    j : Journal
    j = journal_of calls

    answered-by : (a : FrameInput) (r : Result ℕ WrongLength) → (frame_call p.bank_state a).answer ≡ r → Holding j (events_in p.history) →
        Holding (journal_by r (journal_after p.bank_state a j) j)
        (events_in (entered r (frame_call p.bank_state a).bank_state (call_exchange p.bank_state a) p).history)
    answered-by a (Ok m) z k =
        answered-holds {calls = calls} {e = call_exchange p.bank_state a} (record {
          input = a;
          entered = ap (λ (r : Result ℕ WrongLength). (entered r (frame_call p.bank_state a).bank_state (call_exchange p.bank_state a) p).history) z;
        }) k
    answered-by a (Err e) z k = k

    over : (d : BankCall) → Holding j (events_in p.history) → Holding (journal_over d p j) (events_in (after d p).history)
    over (Frame a) k = answered-by a (frame_call p.bank_state a).answer refl k
    over (File mailbox file) k = by_call (λ (r : Past). Holding j (events_in r.history)) (File mailbox file) p (past-holds calls) k
        (λ a z. absurd (let x : ◌≡◌ {A = ℕ} 0 1 = cc in omega arith)) (λ m f z. k)

-- ---- the numbers

pub event-numbers : (h : List Exchange) → Numbered 0 (events_in h)
unfolding events_in
event-numbers [] = none
event-numbers (e ∷ h) =
    numbered-on (event-numbers h)
    (subst (λ (n : ℕ). Numbered n (events_from (length (events_in h)) e.clock (entries_of e h))) (sym (zero-add (length (events_in h))))
    (events-numbered (length (events_in h)) e.clock (entries_of e h)))

pub journal-told : JournalTold
journal-told = record {
  row = λ calls. (journal-holds calls).0;
  events = λ calls. (journal-holds calls).1;
  numbers = λ calls. event-numbers (past_of calls).history;
  alone = events-plain;
}
