-- The false economies: why none of them is the bank's.
use Prim.Native.Nat.{ℕ, ◌+◌, ◌≤◌}
use mathlib.Core.Bool.{Bool, true, false, cond, not}
use mathlib.Core.List.{List, ◌∷◌}
use mathlib.Core.Logic.{◌⊎◌, inl, inr}
use mathlib.Core.Path.{◌≡◌, refl, sym, ap, ◌∙◌}
use native.Mathlib.Omega.{arith}
use lib.Dec.{eqb}
use lib.ListN.{length}
use borrow.Author.Tests.{ne_eqb, le-ltb}
use Rattle.frame_table.specs.declared.fields.Bits128.{Bits128}
use Rattle.frame_table.specs.declared.fields.Fields.{Fields}
use Rattle.frame_table.specs.declared.table.Form.{Form}
use Rattle.frame_table.specs.Forms as forms
use Rattle.frame_table.specs.Names.{phase, subscriber, order_type, nonce, timestamp, segments, transaction, segment, last_mark, return_code, order_number, form}
use Rattle.frame_table.specs.Table.{is_request_form}
use Rattle.frame_table.proofs.Forms.{phase_of, request-phase, request-form}
use Rattle.octets.proofs.Tests.{never, or_left, or_right}
use Rattle.message.specs.declared.codes.ReturnCode.TheVariants as code
use Rattle.message.specs.Codes.{code_field}
use Rattle.message.specs.declared.editions.Edition.{Edition}
use Rattle.message.specs.declared.editions.Edition.TheVariants as edition
use Rattle.message.specs.Editions.{form_edition, edition_of, opening_form}
use Rattle.message.specs.Limits.{ful, fdl, max_segments, initialisation_phase, transfer_phase}
use Rattle.message.specs.OrderNumbers.{is_order_number}
use Rattle.message.specs.Replies.{upload_opened, chosen_opened, download_opened, segment_taken, recovery_point, download_segment, receipt_answered, refusal}
use Rattle.bank_state.specs.State.{Bank}
use Rattle.bank_state.specs.Clock.{advanced}
use Rattle.bank_state.specs.Limits.{window}
use Rattle.bank_state.specs.Search.{is_remembered}
use Rattle.bank_verdicts.specs.declared.verdict.Context.{Context}
use Rattle.message.specs.declared.directions.Direction.TheVariants as direction
use Rattle.bank_verdicts.specs.declared.verdict.UploadAction.{UploadAction}
use Rattle.bank_verdicts.specs.declared.verdict.UploadAction.TheVariants as up
use Rattle.bank_verdicts.specs.declared.verdict.DownloadAction.{DownloadAction}
use Rattle.bank_verdicts.specs.declared.verdict.DownloadAction.TheVariants as down
use Rattle.bank_verdicts.specs.declared.verdict.Action.{Action}
use Rattle.bank_verdicts.specs.declared.verdict.Action.TheVariants as action
use Rattle.bank_verdicts.specs.declared.verdict.Verdict.{Verdict}
use Rattle.bank_verdicts.specs.declared.verdict.Verdict.TheVariants as verdict
use Rattle.bank_verdicts.specs.Refusals.{unknown_type, bad_number, no_order_number, many_segments, is_replay, in_time, opening_rows}
use Rattle.bank_verdicts.specs.Judgement.{judge_opening, judge}
use Rattle.bank_verdicts.specs.Replies.{reply_to, opened_reply, upload_reply, download_reply}
use Rattle.bank_steps.specs.Steps.{carry_out}
use Rattle.bank.specs.Call.{context_of}
use Rattle.bank_history.specs.History.{Exchange, BankCall, Frame, Stands, newest, older, ActionIn, past_of, remembers, is_opening, is_upload_opening, is_download_opening, is_taking, is_booking, did, ever, at_opening, opened_by}
use Rattle.bank_history.specs.Sound.{SoundUploadPoint, SoundDownloadPoint, SoundUploadAction, SoundDownloadAction, SoundAction, SoundVerdict, AllSound, more}
use Rattle.bank_history.specs.Opened.{is_upload_opened}
use Rattle.bank_history.specs.FalseEconomies.{Next, WellMadeOpening, Asks, RefusedWith, Opens, Takes, RecoveryPoint, FalseEconomies}
use Rattle.bank_history.proofs.Entries.{opening-own, did-same}
use Rattle.bank_history.proofs.NextCall.{
  judged_bank,
  asked,
  sent,
  all_sound,
  verdict-is,
  request-is,
  clock-is,
  judged-holds,
  bank-after,
  refused-with,
  well-made,
  asked-open,
  unknown-unless,
}
use Rattle.bank_history.proofs.Opened.{opened-cases}
use Rattle.bank_history.proofs.Positions.{sound-at, action-sound, one-opening, ever-stands, stands-ever}
use Rattle.bank_history.proofs.Remembered.{nonce-remembered}
use Rattle.bank_history.proofs.SentSegments.{action-in, reply-form, reply-transaction}
use Rattle.bank_history.proofs.IdleHour.{idle-refused}
use Rattle.bank_history.proofs.OpenAnswered.{open-answered}
use Rattle.bank_history.proofs.SixAttempts.{five-answered, sixth-cancels, attempts-counted}
use Rattle.bank_history.proofs.Replies.{verdict_form, verdict_code, verdict-form, verdict-code, action_form}
use Rattle.bank_history.proofs.Theorems.{history-sound, reply-is, upload-opened, download-opened, segment-taken, recovery-point}
use Rattle.bank_history.proofs.UploadRequests.{verdict-by-form}

-- ---- accepted openings

-- a reply "opened" is that of an opening of its transaction ID
opens-action : {t : Bits128} {f : Exchange} {g h : List Exchange} → AllSound h → Stands f g h → Opens t f → ActionIn is_opening t f
opens-action {t} {f} sound stands o = at (opened-cases f o.accepted)
  where
    at : (is_upload_opened f ≡ true) ⊎ (form f.reply ≡ forms.DownloadOpened) → ActionIn is_opening t f
    at (inl z) =
        let u = upload-opened sound stands z in
        let k = action.Upload (up.Opened u.0) in
        record { action = k; is = u.1 ∙ ap (λ (i : Bits128). verdict.Of i k) o.id; kind = refl }
    at (inr z) =
        let u = download-opened sound stands z in
        let k = action.Download (down.Opened (segments f.reply)) in
        record { action = k; is = u.0 ∙ ap (λ (i : Bits128). verdict.Of i k) o.id; kind = refl }

-- ---- a nonce is refused while it is remembered

-- the lines above 091103 pass, and its own holds
module _ (context : Context) (b : Bank) (q : Fields) (few : segments q ≤ max_segments) (seen : is_remembered (nonce q) b ≡ true) where
  replayed : is_replay b q ≡ true
  unfolding is_replay
  replayed = or_right (not (in_time (timestamp q) b.clock)) (is_remembered (nonce q) b) seen

  upload-replayed : order_type q ≡ ful → 1 ≤ segments q → no_order_number q ≡ false →
      judge_opening direction.Upload context b q ≡ verdict.Refused code.MessageReplay
  unfolding judge_opening opening_rows unknown_type many_segments
  upload-replayed kind some spelled =
      rw (replayed, kind, ne_eqb (segments q) 0 (λ z. omega arith), spelled, le-ltb max_segments (segments q) few)

  download-replayed : order_type q ≡ fdl → judge_opening direction.Download context b q ≡ verdict.Refused code.MessageReplay
  unfolding judge_opening opening_rows unknown_type many_segments
  download-replayed kind = rw (replayed, kind, le-ltb max_segments (segments q) few)

-- what an accepted opening or signing has left is found by the next request with that nonce
pub nonce-seen : {calls : List BankCall} {e f : Exchange} {g : List Exchange} (n : Next calls e) → Stands f g (past_of calls).history →
    remembers f.verdict ≡ true → nonce e.request ≡ nonce f.request → e.clock ≤ timestamp f.request + window →
    is_remembered (nonce (asked n)) (judged_bank n).bank ≡ true
nonce-seen n stands left same recent =
    ap (λ (b : Bits128). is_remembered b (judged_bank n).bank) (ap nonce (sym (request-is n)) ∙ same)
    ∙ nonce-remembered (judged-holds n) stands left (let c = clock-is n in omega arith)

-- an opening with a nonce that is remembered
pub seen-refused : {calls : List BankCall} {e : Exchange} (n : Next calls e) → WellMadeOpening e →
    is_remembered (nonce (asked n)) (judged_bank n).bank ≡ true → RefusedWith code.MessageReplay e
seen-refused {calls} {e} n made seen = refused-with n code.MessageReplay (verdict-is n ∙ judged-so (rw (sym (request-is n)) made.kind))
  where
    few : segments (asked n) ≤ max_segments
    few = rw (sym (request-is n)) made.few

    judged-so : ((form (asked n) ≡ forms.UploadOpening) × (order_type (asked n) ≡ ful) × (1 ≤ segments (asked n)))
        ⊎ (((form (asked n) ≡ forms.ChosenOpening) × (order_type (asked n) ≡ ful) × (1 ≤ segments (asked n))
        × (is_order_number (order_number (asked n)) ≡ true))
        ⊎ ((form (asked n) ≡ forms.DownloadOpening) × (order_type (asked n) ≡ fdl))) →
        judge (context_of n.input) (judged_bank n).bank (asked n)
        (length (sent n)) ≡ verdict.Refused code.MessageReplay
    judged-so (inl (z, kind, some)) =
        verdict-by-form (context_of n.input) (judged_bank n) (asked n) (sent n) forms.UploadOpening z
        (well-made n made.made (ap is_request_form z))
        ∙ upload-replayed (context_of n.input) (judged_bank n).bank (asked n) few seen kind some
        (ap (λ (f : Form). bad_number (form_edition f) (asked n)) z)
    judged-so (inr (inl (z, kind, some, spelled))) =
        verdict-by-form (context_of n.input) (judged_bank n) (asked n) (sent n) forms.ChosenOpening z
        (well-made n made.made (ap is_request_form z))
        ∙ upload-replayed (context_of n.input) (judged_bank n).bank (asked n) few seen kind some
        (ap (λ (f : Form). bad_number (form_edition f) (asked n)) z ∙ ap not spelled)
    judged-so (inr (inr (z, kind))) =
        verdict-by-form (context_of n.input) (judged_bank n) (asked n) (sent n) forms.DownloadOpening z
        (well-made n made.made (ap is_request_form z))
        ∙ download-replayed (context_of n.input) (judged_bank n).bank (asked n) few seen kind

-- the nonce of an accepted opening is remembered
pub opens-remembered : {t : Bits128} {f : Exchange} {g h : List Exchange} → AllSound h → Stands f g h → Opens t f →
    remembers f.verdict ≡ true
opens-remembered sound stands o = let a = opens-action sound stands o in ap remembers a.is ∙ a.kind

nonce-refused : {calls : List BankCall} {e f : Exchange} {g : List Exchange} {t : Bits128} → Next calls e → WellMadeOpening e →
    Stands f g (past_of calls).history → Opens t f → nonce e.request ≡ nonce f.request → e.clock ≤ timestamp f.request + window →
    RefusedWith code.MessageReplay e
nonce-refused {calls} n made stands o same recent =
    seen-refused n made (nonce-seen n stands (opens-remembered (history-sound calls) stands o) same recent)

-- ---- another subscriber's transaction ID

-- the opening of t tells its subscriber
opened-by : {t : Bits128} {f : Exchange} {g h : List Exchange} → AllSound h → Stands f g h → ActionIn is_opening t f →
    opened_by t h ≡ subscriber f.request
unfolding at_opening
opened-by {t} {f} {g} sound newest o =
    opening-own t o.action f g o.is (λ (x : Exchange). subscriber x.request) 0
    ∙ ap (λ (b : Bool). cond b (subscriber f.request) (opened_by t g)) o.kind
opened-by {t} {f} {g} (more s r) (older {x = x} {h = h} p) o = at (did is_opening t x.verdict) refl (opened-by r p o)
  where
    at : (b : Bool) → did is_opening t x.verdict ≡ b → opened_by t h ≡ subscriber f.request →
        cond b (subscriber x.request) (opened_by t h) ≡ subscriber f.request
    at true d before =
        let a = action-in is_opening t x x.verdict refl d in
        ap (λ (y : Exchange). subscriber y.request)
        (one-opening t.low (more s r) newest (older p)
        (record { id = t; action = a.action; is = a.is; opening = a.kind; numbered = refl })
        (record { id = t; action = o.action; is = o.is; opening = o.kind; numbered = refl })).0
    at false d before = before

foreign-refused : {calls : List BankCall} {e f : Exchange} {g : List Exchange} {t : Bits128} → (n : Next calls e) → Asks t e →
    Stands f g (past_of calls).history → Opens t f → (subscriber e.request ≡ subscriber f.request → ⊥) →
    RefusedWith code.UnknownTransaction e
    × ((past_of (Frame n.input ∷ calls)).bank_state ≡ advanced n.input.time (past_of calls).bank_state)
foreign-refused {calls} {e} {f} {g} {t} n a stands o other =
    (refused-with n code.UnknownTransaction unknown, bank-after n ∙ ap (λ (v : Verdict). carry_out v (judged_bank n) (asked n) (sent n)) unknown)
  where
    unknown : e.verdict ≡ verdict.Refused code.UnknownTransaction
    unknown = unknown-unless n a (λ u k own.
        let s = asked-open n a own in
        other (sym s.1.owner ∙ (ap (λ (i : Bits128). opened_by i (past_of calls).history) s.0
        ∙ opened-by (history-sound calls) stands (opens-action (history-sound calls) stands o))))

-- ---- a repeated last segment

-- a segment taken with last mark 1 has booked its order
took-last : (k : Action) (u : Bits128) (f : Exchange) (g : List Exchange) → is_taking k ≡ true → SoundAction k u f g →
    last_mark f.request ≡ 1 → is_booking k ≡ true
took-last (action.Upload (up.Opened m)) u f g z s mark = never z
took-last (action.Upload up.Took) u f g z s mark = absurd (s.mark mark)
took-last (action.Upload up.TookLast) u f g z s mark = refl
took-last (action.Upload (up.Point m)) u f g z s mark = never z
took-last (action.Upload (up.Cancelled c)) u f g z s mark = never z
took-last (action.Download (down.Opened m)) u f g z s mark = never z
took-last (action.Download (down.Delivered m)) u f g z s mark = never z
took-last (action.Download (down.SentAgain m)) u f g z s mark = never z
took-last (action.Download (down.Point m)) u f g z s mark = never z
took-last (action.Download down.Cancelled) u f g z s mark = never z
took-last (action.Download down.Confirmed) u f g z s mark = never z
took-last (action.Download down.Declined) u f g z s mark = never z

-- no action that takes is answered by a refusal
taking-form : (x : Edition) (k : Action) → is_taking k ≡ true → action_form x k ≡ forms.SegmentTaken
taking-form x (action.Upload (up.Opened m)) z = never z
taking-form x (action.Upload up.Took) z = refl
taking-form x (action.Upload up.TookLast) z = refl
taking-form x (action.Upload (up.Point m)) z = never z
taking-form x (action.Upload (up.Cancelled c)) z = never z
taking-form x (action.Download (down.Opened m)) z = never z
taking-form x (action.Download (down.Delivered m)) z = never z
taking-form x (action.Download (down.SentAgain m)) z = never z
taking-form x (action.Download (down.Point m)) z = never z
taking-form x (action.Download down.Cancelled) z = never z
taking-form x (action.Download down.Confirmed) z = never z
taking-form x (action.Download down.Declined) z = never z

-- a reply "segment taken" with 000000 is that of a segment taken under its transaction ID
pub takes-action : {t : Bits128} {f : Exchange} {g h : List Exchange} → AllSound h → Stands f g h → Takes t f → ActionIn is_taking t f
takes-action {t} {f} sound stands taken =
    record { action = took.action; is = took.is ∙ ap (λ (i : Bits128). verdict.Of i took.action) own-id; kind = took.kind }
  where
    took : ActionIn is_taking (transaction f.request) f
    took = (segment-taken sound stands taken.formed taken.coded).0

    refuses-not : action_form (edition_of f.request) took.action ≡ forms.Refusal → ⊥
    refuses-not z = let y = taking-form (edition_of f.request) took.action took.kind in let x : ◌≡◌ {A = ℕ} 0 1 = cc in omega arith

    own-id : transaction f.request ≡ t
    own-id = sym (reply-transaction sound stands took.is refuses-not) ∙ taken.id

closed-refused : {calls : List BankCall} {e f : Exchange} {g : List Exchange} {t : Bits128} → Next calls e → Asks t e →
    Stands f g (past_of calls).history → Takes t f → last_mark f.request ≡ 1 → RefusedWith code.UnknownTransaction e
closed-refused {calls} {e} {f} {g} {t} n a stands taken mark =
    refused-with n code.UnknownTransaction (unknown-unless n a (λ u k own.
    let s = asked-open n a own in
    never (sym s.1.unbooked ∙ (ap (λ (i : Bits128). ever is_booking i (past_of calls).history) s.0
    ∙ stands-ever is_booking t stands booked))))
  where
    took : ActionIn is_taking t f
    took = takes-action (history-sound calls) stands taken

    booked : ActionIn is_booking t f
    booked = record {
      action = took.action;
      is = took.is;
      kind = took-last took.action t f g took.kind (action-sound (history-sound calls) stands took.is) mark;
    }

-- ---- the phase

-- a request form has its phase
phase-of : (q : Fields) (f : Form) → form q ≡ f → is_request_form f ≡ true → phase q ≡ phase_of f
phase-of q f z k =
    let r : is_request_form (form q) ≡ true = ap is_request_form z ∙ k in
    request-phase q.tags (phase q) (request-form (form q) r) r ∙ ap phase_of z

-- not "unreadable", and not 061101
Phased : Edition → Verdict → Type 0
Phased x v = (verdict_form x v ≡ forms.Unreadable → ⊥) × (code_field (verdict_code v) ≡ code_field code.RecoverySync → ⊥)

module _ (e : Exchange) (g : List Exchange) where
  abbrev q : Fields
  q = e.request

  opening-phase : (x : Edition) (m : ℕ) (u : Bits128) → form q ≡ opening_form x → phase (opened_reply x m u q) ≡ phase q
  unfolding upload_opened chosen_opened
  opening-phase edition.V24 m u z = sym (phase-of q forms.ChosenOpening z refl)
  opening-phase edition.V25 m u z = sym (phase-of q forms.UploadOpening z refl)

  upload-phase : (u : Bits128) (a : UploadAction) → SoundUploadAction a u e g →
      Phased (edition_of q) (verdict.Of u (action.Upload a)) → phase (upload_reply a u q) ≡ phase q
  unfolding segment_taken refusal Phased
  upload-phase u (up.Opened m) s p = opening-phase (edition_of q) m u s.opening.asked
  upload-phase u up.Took s p = sym (phase-of q forms.UploadTransfer s.taking.asked refl)
  upload-phase u up.TookLast s p = sym (phase-of q forms.UploadTransfer s.taking.asked refl)
  upload-phase u (up.Point k) s p = absurd (p.1 refl)
  upload-phase u (up.Cancelled c) s p = refl

  download-phase : (u : Bits128) (a : DownloadAction) → SoundDownloadAction a u e g →
      Phased (edition_of q) (verdict.Of u (action.Download a)) → phase (download_reply a u q) ≡ phase q
  unfolding download_opened download_segment receipt_answered refusal Phased
  download-phase u (down.Opened m) s p = sym (phase-of q forms.DownloadOpening s.opening.asked refl)
  download-phase u (down.Delivered m) s p = sym (phase-of q forms.DownloadTransfer s.carried.asked refl)
  download-phase u (down.SentAgain m) s p = sym (phase-of q forms.DownloadTransfer s.carried.asked refl)
  download-phase u (down.Point d) s p = absurd (p.1 refl)
  download-phase u down.Cancelled s p = refl
  download-phase u down.Confirmed s p = sym (phase-of q forms.Receipt s.receipt.asked refl)
  download-phase u down.Declined s p = sym (phase-of q forms.Receipt s.asked refl)

  verdict-phase : (v : Verdict) → SoundVerdict v e g → Phased (edition_of q) v → phase (reply_to v q) ≡ phase q
  unfolding refusal Phased
  verdict-phase verdict.Unreadable s p = absurd (p.0 refl)
  verdict-phase (verdict.Refused c) s p = refl
  verdict-phase (verdict.Signed n added) s p = refl
  verdict-phase (verdict.Of t (action.Upload a)) s p = upload-phase t a s p
  verdict-phase (verdict.Of t (action.Download a)) s p = download-phase t a s p

phase-kept : {calls : List BankCall} {e : Exchange} → Next calls e → (form e.reply ≡ forms.Unreadable → ⊥) →
    (return_code e.reply ≡ code_field code.RecoverySync → ⊥) → phase e.reply ≡ phase e.request
unfolding Phased
phase-kept {calls} {e} n readable no_point =
    let r = reply-is (all_sound n) newest in
    ap phase r
    ∙ verdict-phase e (past_of calls).history e.verdict (sound-at (all_sound n) newest).verdict (
      (λ z. readable (ap form r ∙ (verdict-form e.verdict e.request ∙ z))),
      (λ z. no_point (ap return_code r ∙ (verdict-code e.verdict e.request ∙ z))),
    )

-- an opening in both directions there is not
one-direction : (k : Action) → is_upload_opening k ≡ true → is_download_opening k ≡ true → ⊥
one-direction (action.Upload (up.Opened m)) y z = never z
one-direction (action.Upload up.Took) y z = never y
one-direction (action.Upload up.TookLast) y z = never y
one-direction (action.Upload (up.Point m)) y z = never y
one-direction (action.Upload (up.Cancelled c)) y z = never y
one-direction (action.Download (down.Opened m)) y z = never y
one-direction (action.Download (down.Delivered m)) y z = never y
one-direction (action.Download (down.SentAgain m)) y z = never y
one-direction (action.Download (down.Point m)) y z = never y
one-direction (action.Download down.Cancelled) y z = never y
one-direction (action.Download down.Confirmed) y z = never y
one-direction (action.Download down.Declined) y z = never y

either-direction : (k : Action) → (is_upload_opening k ≡ true) ⊎ (is_download_opening k ≡ true) → is_opening k ≡ true
either-direction k (inl z) = or_left (is_upload_opening k) (is_download_opening k) z
either-direction k (inr z) = or_right (is_upload_opening k) (is_download_opening k) z

-- t was opened in one direction
not-both : (t : Bits128) {h : List Exchange} → AllSound h → ever is_upload_opening t h ≡ true → ever is_download_opening t h ≡ true → ⊥
not-both t {h} sound a b =
    let x = ever-stands is_upload_opening t h a in
    let y = ever-stands is_download_opening t h b in
    let i = x.3 in
    let j = y.3 in
    let e : x.0 ≡ y.0 =
    (one-opening t.low sound x.2 y.2
    (record { id = t; action = i.action; is = i.is; opening = either-direction i.action (inl i.kind); numbered = refl })
    (record { id = t; action = j.action; is = j.is; opening = either-direction j.action (inr j.kind); numbered = refl })).0 in
    let u : did is_download_opening t (verdict.Of t i.action) ≡ true =
    ap (did is_download_opening t) (sym i.is ∙ (ap (λ (z : Exchange). z.verdict) e ∙ j.is))
    ∙ (did-same is_download_opening t j.action ∙ j.kind) in
    one-direction i.action i.kind (sym (did-same is_download_opening t i.action) ∙ u)

module _ {calls : List BankCall} {e : Exchange} (n : Next calls e) (r : RecoveryPoint e) where
  abbrev uploads : Verdict
  uploads = verdict.Of (transaction e.request) (action.Upload (up.Point (segment e.reply)))

  abbrev downloads : Verdict
  downloads = verdict.Of (transaction e.request) (action.Download (down.Point (segment e.reply)))

  upload-phase-is : e.verdict ≡ uploads → phase e.reply ≡ cond (eqb (segment e.reply) 0) initialisation_phase transfer_phase
  unfolding recovery_point
  upload-phase-is own = ap phase (reply-is (all_sound n) newest ∙ ap (λ (v : Verdict). reply_to v e.request) own)

  download-phase-is : e.verdict ≡ downloads → phase e.reply ≡ cond (eqb (segment e.reply) 1) initialisation_phase transfer_phase
  unfolding recovery_point
  download-phase-is own = ap phase (reply-is (all_sound n) newest ∙ ap (λ (v : Verdict). reply_to v e.request) own)

  -- the reply's transaction ID is the request's
  point-id : {k : Action} → e.verdict ≡ verdict.Of (transaction e.request) k → transaction e.reply ≡ transaction e.request
  point-id {k} own = reply-transaction (all_sound n) newest own
      (λ z. let y = reply-form (all_sound n) newest own in let x = r.formed in let w : ◌≡◌ {A = ℕ} 0 1 = cc in omega arith)

  module _ {f : Exchange} {g : List Exchange} (stands : Stands f g (past_of calls).history) (same : transaction f.reply ≡ transaction e.reply) where
    pub upload-points : is_upload_opened f ≡ true → phase e.reply ≡ cond (eqb (segment e.reply) 0) initialisation_phase transfer_phase
    upload-points z = at (recovery-point (all_sound n) newest r.formed r.coded)
      where
        at : ((e.verdict ≡ uploads) × SoundUploadPoint (segment e.reply) (transaction e.request) e (past_of calls).history)
            ⊎ ((e.verdict ≡ downloads) × SoundDownloadPoint (segment e.reply) (transaction e.request) e (past_of calls).history) →
            phase e.reply ≡ cond (eqb (segment e.reply) 0) initialisation_phase transfer_phase
        at (inl p) = upload-phase-is p.0
        at (inr p) =
            let u = upload-opened (history-sound calls) stands z in
            let k = action.Upload (up.Opened u.0) in
            absurd (not-both (transaction e.request) (history-sound calls)
            (stands-ever is_upload_opening (transaction e.request) stands (record {
              action = k;
              is = u.1 ∙ ap (λ (i : Bits128). verdict.Of i k) (same ∙ point-id p.0);
              kind = refl;
            })) p.1.opened)

    pub download-points : form f.reply ≡ forms.DownloadOpened → phase e.reply ≡ cond (eqb (segment e.reply) 1) initialisation_phase transfer_phase
    download-points z = at (recovery-point (all_sound n) newest r.formed r.coded)
      where
        at : ((e.verdict ≡ uploads) × SoundUploadPoint (segment e.reply) (transaction e.request) e (past_of calls).history)
            ⊎ ((e.verdict ≡ downloads) × SoundDownloadPoint (segment e.reply) (transaction e.request) e (past_of calls).history) →
            phase e.reply ≡ cond (eqb (segment e.reply) 1) initialisation_phase transfer_phase
        at (inl p) =
            let u = download-opened (history-sound calls) stands z in
            let k = action.Download (down.Opened (segments f.reply)) in
            absurd (not-both (transaction e.request) (history-sound calls) p.1.upload.opened
            (stands-ever is_download_opening (transaction e.request) stands (record {
              action = k;
              is = u.0 ∙ ap (λ (i : Bits128). verdict.Of i k) (same ∙ point-id p.0);
              kind = refl;
            })))
        at (inr p) = download-phase-is p.0

-- ---- the whole

pub false-economies : FalseEconomies
false-economies = record {
  replay = nonce-refused;
  foreign = foreign-refused;
  closed = closed-refused;
  idle = idle-refused;
  known = open-answered;
  five = λ n c a. five-answered n c a;
  sixth = λ n c r. sixth-cancels n c r;
  counted = attempts-counted;
  phases = phase-kept;
  upload_points = λ n r s z same. upload-points n r s same z;
  download_points = λ n r s z same. download-points n r s same z;
}
