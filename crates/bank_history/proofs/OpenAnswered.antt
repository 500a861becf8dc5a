-- A request to an open transaction never gets 091101: open by the replies is open by the history, so it is open in the
-- bank,
-- and its request is found there.
use Prim.Native.Nat.{ℕ, ◌+◌, ◌≤◌}
use mathlib.Core.Bool.{Bool, true, false, cond}
use mathlib.Core.List.{List, ◌∷◌}
use mathlib.Core.Logic.{◌⊎◌, inl, inr}
use mathlib.Core.Path.{◌≡◌, refl, sym, ap, ◌∙◌, subst}
use native.Mathlib.Omega.{arith}
use lib.Dec.{leb, eqb}
use borrow.Author.Tests.{le-ltb, lt-leb, eqb-true}
use Rattle.frame_table.specs.declared.fields.Bits128.{Bits128}
use Rattle.frame_table.specs.declared.fields.Fields.{Fields}
use Rattle.frame_table.specs.declared.table.Form.{Form}
use Rattle.frame_table.specs.Forms as forms
use Rattle.frame_table.specs.Names.{subscriber, transaction, segments, segment, last_mark, form, same_bits}
use Rattle.frame_table.proofs.Bits.{bits-same}
use Rattle.octets.proofs.Tests.{never}
use Rattle.message.specs.declared.codes.ReturnCode.{ReturnCode}
use Rattle.message.specs.declared.codes.ReturnCode.TheVariants as code
use Rattle.message.specs.Codes.{code_field}
use Rattle.bank_state.specs.Clock.{is_idle}
use Rattle.message.specs.Editions.{edition_of}
use Rattle.bank_state.specs.Limits.{place_count, idle_limit}
use Rattle.bank_state.specs.Search.{find_upload, find_download}
use Rattle.bank_state.specs.State.{BankState}
use Rattle.message.specs.declared.directions.Direction.{Direction}
use Rattle.message.specs.declared.directions.Direction.TheVariants as directions
use Rattle.bank_verdicts.specs.declared.verdict.UploadAction.TheVariants as up
use Rattle.bank_verdicts.specs.declared.verdict.DownloadAction.TheVariants as down
use Rattle.bank_verdicts.specs.declared.verdict.Action.{Action}
use Rattle.bank_verdicts.specs.declared.verdict.Action.TheVariants as action
use Rattle.bank_verdicts.specs.declared.verdict.Verdict.{Verdict}
use Rattle.bank_verdicts.specs.declared.verdict.Verdict.TheVariants as verdict
use Rattle.bank_verdicts.specs.Refusals.{cancels, not_open}
use Rattle.bank_history.specs.History.{Exchange, BankCall, newest, ActionIn, is_taking, did, opens as is_opens, past_of}
use Rattle.bank_history.specs.Opened.{is_upload_opened}
use Rattle.bank_history.specs.Sound.{is_cancelling, SoundAction, AllSound, more}
use Rattle.bank_history.specs.FalseEconomies.{
  Next,
  Asks,
  RefusedWith,
  Opens,
  Takes,
  Fits,
  Sent,
  point,
  again,
  Attempt,
  Ends,
  cancelled,
  receipt,
  emptied,
  StillOpen,
  opened,
  took,
  delivered,
  other,
}
use Rattle.bank_history.specs.Invariant.{Invariant}
use Rattle.bank_history.specs.Status.{
  Status,
  Open,
  EndedByReceipt,
  drop_idle,
  refreshed,
  is_download_of,
  action_status,
  other_status,
  status_after,
  status,
  OpenAs,
  upload,
  download,
}
use Rattle.bank_admitted.proofs.Clock.{advanced-clock}
use Rattle.bank_history.proofs.Counted.{is_fitting, is_attempt}
use Rattle.bank_history.proofs.Entries.{and_no, same_bits_lem, did-same}
use Rattle.bank_history.proofs.Keeps.{past-holds}
use Rattle.bank_history.proofs.NextCall.{judged_bank, asked, all_sound, request-is, clock-is, judged-holds, acted}
use Rattle.bank_history.proofs.Opened.{opened-cases, is-opened}
use Rattle.bank_history.proofs.Positions.{sound-at, action-sound}
use Rattle.bank_history.proofs.Replies.{
  verdict-form,
  action_form,
  action_code,
  IsAction,
  ActionOf,
  action-of,
  is-action,
  cancelling-code,
}
use Rattle.bank_history.proofs.SentSegments.{reply-form, reply-code, reply-transaction, fits-shown}
use Rattle.bank_history.proofs.SixAttempts.{AllShown, past-tracked}
use Rattle.bank_history.proofs.SixAttempts as shown
use Rattle.bank_history.proofs.Statuses.{open-shown, open-advanced, not-dropped, past-told}
use Rattle.bank_history.proofs.Theorems.{history-sound, reply-is, upload-opened, download-opened, segment-taken}
use Rattle.bank_history.proofs.UploadRequests as uploads
use Rattle.bank_history.proofs.DownloadRequests as downloads

-- ---- open by the replies is open by the history

-- of this direction; a download's opening is answered as one
record OpenStatus (t : Bits128) (f : Form) (s last : ℕ) (h : List Exchange) : Type 0 where
  direction : Direction
  now : status t h ≡ Open direction s last
  kind : direction ≡ directions.Download → f ≡ forms.DownloadOpened

-- by the verdict on t itself
own-status : {t : Bits128} (e : Exchange) (g : List Exchange) (k : Action) → e.verdict ≡ verdict.Of t k →
    status t (e ∷ g) ≡ action_status k e (drop_idle e.clock (status t g))
unfolding status
own-status {t} e g k own = rw own (rw (same_bits_lem t))

module _ (t : Bits128) (f : Form) (s : ℕ) {e : Exchange} {g : List Exchange} (sound : AllSound (e ∷ g)) where
  opening-status : Opens t e → form e.reply ≡ f → subscriber e.request ≡ s → OpenStatus t f s e.clock (e ∷ g)
  opening-status o same from = at (opened-cases e o.accepted)
    where
      at : (is_upload_opened e ≡ true) ⊎ (form e.reply ≡ forms.DownloadOpened) →
          OpenStatus t f s e.clock (e ∷ g)
      at (inl z) =
          let u = upload-opened sound newest z in
          let k = action.Upload (up.Opened u.0) in
          record {
            direction = directions.Upload;
            now = own-status e g k (u.1 ∙ ap (λ (i : Bits128). verdict.Of i k) o.id)
                ∙ ap (λ (m : ℕ). Open directions.Upload m e.clock) from;
            kind = λ y. absurd (let x : ◌≡◌ {A = ℕ} 0 1 = cc in omega arith);
          }
      at (inr z) =
          let u = download-opened sound newest z in
          let k = action.Download (down.Opened (segments e.reply)) in
          record {
            direction = directions.Download;
            now = own-status e g k (u.0 ∙ ap (λ (i : Bits128). verdict.Of i k) o.id)
                ∙ ap (λ (m : ℕ). Open directions.Download m e.clock) from;
            kind = λ _. sym same ∙ z;
          }

  module _ {last : ℕ} (old : OpenStatus t f s last g) (recent : e.clock ≤ last + idle_limit) where
    -- the clock does not drop it
    stays : drop_idle e.clock (status t g) ≡ Open old.direction s last
    unfolding is_idle
    stays = ap (drop_idle e.clock) old.now
        ∙ not-dropped e.clock old.direction s last (le-ltb (last + idle_limit) e.clock recent)

    as-old : {m : ℕ} → status t (e ∷ g) ≡ Open old.direction s m → OpenStatus t f s m (e ∷ g)
    as-old z = record { direction = old.direction; now = z; kind = old.kind }

    fitting-status : (k : Action) → e.verdict ≡ verdict.Of t k →
        ((x : Status) → action_status k e x ≡ refreshed e.clock x) → OpenStatus t f s e.clock (e ∷ g)
    fitting-status k own is =
        as-old (own-status e g k own ∙ (is (drop_idle e.clock (status t g)) ∙ ap (refreshed e.clock) stays))

    -- segment k + 1 below N
    took-status : Takes t e → last_mark e.request ≡ 0 → OpenStatus t f s e.clock (e ∷ g)
    took-status taken mark = at a.action refl a.kind
      where
        a : ActionIn is_taking (transaction e.request) e
        a = (segment-taken sound newest taken.formed taken.coded).0

        own : (k : Action) → a.action ≡ k → action_form (edition_of e.request) k ≡ forms.SegmentTaken → e.verdict ≡ verdict.Of t k
        own k z y =
            let is : e.verdict ≡ verdict.Of (transaction e.request) k =
            a.is ∙ ap (verdict.Of (transaction e.request)) z in
            is ∙ ap (λ (i : Bits128). verdict.Of i k)
            (sym (reply-transaction sound newest is (λ x. let u : ◌≡◌ {A = ℕ} 0 1 = cc in omega arith)) ∙ taken.id)

        at : (k : Action) → a.action ≡ k → is_taking k ≡ true → OpenStatus t f s e.clock (e ∷ g)
        at (action.Upload (up.Opened m)) z y = never y
        at (action.Upload up.Took) z y = fitting-status (action.Upload up.Took) (own _ z refl) (λ x. refl)
        at (action.Upload up.TookLast) z y = absurd ((action-sound sound newest (own _ z refl)).mark mark)
        at (action.Upload (up.Point m)) z y = never y
        at (action.Upload (up.Cancelled c)) z y = never y
        at (action.Download (down.Opened m)) z y = never y
        at (action.Download (down.Delivered m)) z y = never y
        at (action.Download (down.SentAgain m)) z y = never y
        at (action.Download (down.Point m)) z y = never y
        at (action.Download down.Cancelled) z y = never y
        at (action.Download down.Confirmed) z y = never y
        at (action.Download down.Declined) z y = never y

    -- a segment that was not sent before; what is sent again was sent
    delivered-status : AllShown (e ∷ g) → form e.reply ≡ forms.DownloadSegment → transaction e.reply ≡ t →
        (Sent t (segment e.reply) g → ⊥) → OpenStatus t f s e.clock (e ∷ g)
    delivered-status (shown.more shows rest) formed id new =
        let d = is-action (edition_of e.request) e.verdict forms.DownloadSegment
        (sym (ap form (reply-is sound newest) ∙ verdict-form e.verdict e.request) ∙ formed) refl in
        at d d.kind
      where
        ours : (u : Bits128) (k : Action) → e.verdict ≡ verdict.Of u k →
            action_form (edition_of e.request) k ≡ forms.DownloadSegment → e.verdict ≡ verdict.Of t k
        ours u k own z =
            own ∙ ap (λ (i : Bits128). verdict.Of i k)
            (sym (reply-transaction sound newest own (λ y. let x : ◌≡◌ {A = ℕ} 0 1 = cc in omega arith)) ∙ id)

        was-sent : Attempt t g e → ⊥
        was-sent (point r i) = let z = r.formed in let x : ◌≡◌ {A = ℕ} 0 1 = cc in omega arith
        was-sent (again z i before) = new before

        at : (d : IsAction e.verdict forms.DownloadSegment) → ActionOf forms.DownloadSegment d.action →
            OpenStatus t f s e.clock (e ∷ g)
        at d (inl k) =
            fitting-status (action.Download (down.Delivered k.0))
            (ours d.id _ (d.is ∙ ap (verdict.Of d.id) k.1) refl) (λ x. refl)
        at d (inr k) =
            let a = action.Download (down.SentAgain k.0) in
            let own = ours d.id a (d.is ∙ ap (verdict.Of d.id) k.1) refl in
            absurd (was-sent (shows t (ap (did is_attempt t) own ∙ did-same is_attempt t a)))

    -- anything else
    module _ (not_fits : Fits t g e → ⊥) (not_ends : Ends t f s e → ⊥) where
      own-other : (k : Action) → e.verdict ≡ verdict.Of t k → SoundAction k t e g →
          action_status k e (Open old.direction s last) ≡ Open old.direction s last
      own-other k own z = at k own z
        where
          fits : (k : Action) → e.verdict ≡ verdict.Of t k → is_fitting k ≡ true → ⊥
          fits k own y = not_fits (fits-shown sound newest (record { action = k; is = own; kind = y }))

          ends : (k : Action) (c : ReturnCode) → e.verdict ≡ verdict.Of t k →
              action_form (edition_of e.request) k ≡ forms.Refusal → code_field (action_code k) ≡ code_field c → cancels c ≡ true → t ≡ transaction e.request → ⊥
          ends k c own formed coded cancels same =
              not_ends (cancelled (reply-form sound newest own ∙ formed)
              (ap is_cancelling (reply-code sound newest own ∙ coded) ∙ (cancelling-code c ∙ cancels)) (sym same))

          at : (k : Action) → e.verdict ≡ verdict.Of t k → SoundAction k t e g →
              action_status k e (Open old.direction s last) ≡ Open old.direction s last
          at (action.Upload (up.Opened m)) own z = absurd (fits _ own refl)
          at (action.Upload up.Took) own z = absurd (fits _ own refl)
          at (action.Upload up.TookLast) own z = absurd (fits _ own refl)
          at (action.Upload (up.Point m)) own z = refl
          at (action.Upload (up.Cancelled c)) own z = absurd (ends _ c own refl refl z.cancelling z.request.same)
          at (action.Download (down.Opened m)) own z = absurd (fits _ own refl)
          at (action.Download (down.Delivered m)) own z = absurd (fits _ own refl)
          at (action.Download (down.SentAgain m)) own z = refl
          at (action.Download (down.Point m)) own z = refl
          at (action.Download down.Cancelled) own z =
              absurd (ends _ code.TransactionAbort own refl refl z.cancelling z.request.same)
          at (action.Download down.Confirmed) own z = absurd (not_ends (receipt (reply-form sound newest own)
              (is-opened (sound-at sound newest) ∙ ap is_opens own)
              (reply-transaction sound newest own (λ y. let x : ◌≡◌ {A = ℕ} 0 1 = cc in omega arith))))
          at (action.Download down.Declined) own z = absurd (not_ends (receipt (reply-form sound newest own)
              (is-opened (sound-at sound newest) ∙ ap is_opens own)
              (reply-transaction sound newest own (λ y. let x : ◌≡◌ {A = ℕ} 0 1 = cc in omega arith))))

      -- another transaction's
      foreign-other : (u : Bits128) (k : Action) → e.verdict ≡ verdict.Of u k →
          other_status k e (Open old.direction s last) ≡ Open old.direction s last
      foreign-other u (action.Upload a) own = refl
      foreign-other u (action.Download (down.Opened m)) own = refl
      foreign-other u (action.Download (down.Delivered m)) own = refl
      foreign-other u (action.Download (down.SentAgain m)) own = refl
      foreign-other u (action.Download (down.Point m)) own = refl
      foreign-other u (action.Download down.Cancelled) own = refl
      foreign-other u (action.Download down.Confirmed) own = at old.direction old.kind
        where
          by : (b : Bool) → eqb s (subscriber e.request) ≡ b → f ≡ forms.DownloadOpened →
              cond b EndedByReceipt (Open directions.Download s last) ≡ Open directions.Download s last
          by true z y =
              absurd (not_ends
              (emptied y (reply-form sound newest own) (reply-code sound newest own)
              (sym (eqb-true s (subscriber e.request) z))))
          by false z y = refl

          at : (d : Direction) → (d ≡ directions.Download → f ≡ forms.DownloadOpened) →
              cond (is_download_of d s (subscriber e.request)) EndedByReceipt (Open d s last) ≡ Open d s last
          at directions.Upload y = refl
          at directions.Download y = by (eqb s (subscriber e.request)) refl (y refl)
      foreign-other u (action.Download down.Declined) own = refl

      other-status : OpenStatus t f s last (e ∷ g)
      unfolding status
      other-status = as-old (ap (status_after t e.verdict e) stays ∙ at e.verdict refl)
        where
          at : (v : Verdict) → e.verdict ≡ v →
              status_after t v e (Open old.direction s last) ≡ Open old.direction s last
          at verdict.Unreadable own = refl
          at (verdict.Refused c) own = refl
          at (verdict.Signed n added) own = refl
          at (verdict.Of u k) own = by (same_bits t u) refl
            where
              by : (b : Bool) → same_bits t u ≡ b →
                  cond b (action_status k e (Open old.direction s last))
                  (other_status k e (Open old.direction s last)) ≡ Open old.direction s last
              by true z =
                  let mine : e.verdict ≡ verdict.Of t k =
                  own ∙ ap (λ (i : Bits128). verdict.Of i k) (sym (bits-same t u z)) in
                  own-other k mine (action-sound sound newest mine)
              by false z = foreign-other u k own

open-status : {t : Bits128} {f : Form} {s last : ℕ} {h : List Exchange} → AllSound h → AllShown h →
    StillOpen t f s last h → OpenStatus t f s last h
open-status {t} {f} {s} sound shows (opened o same from) = opening-status t f s sound o same from
open-status {t} {f} {s} (more z r) (shown.more x y) (took o recent taken mark) =
    took-status t f s (more z r) (open-status r y o) recent taken mark
open-status {t} {f} {s} (more z r) (shown.more x y) (delivered o recent formed id new) =
    delivered-status t f s (more z r) (open-status r y o) recent (shown.more x y) formed id new
open-status {t} {f} {s} (more z r) (shown.more x y) (other o recent not_fits not_ends) =
    other-status t f s (more z r) (open-status r y o) recent not_fits not_ends

-- ---- what is open is found

module _ (w : BankState) (h : List Exchange) (v : Invariant w h) (q : Fields) where
  is_found : {d : Direction} {last : ℕ} → OpenAs w (transaction q) d (subscriber q) last → not_open w.bank q ≡ false
  unfolding not_open
  is_found (upload {s = s} {k = k} {n = n} {last = last} u) =
      let z = uploads.find-own w h v (transaction q) s k n last u in
      let i = u.inside in
      rw (lt-leb place_count (find_upload (subscriber q) (transaction q) w.bank) (omega arith))
  is_found (download {s = s} {d = d} {last = last} u) =
      let z = downloads.find-own w h v (transaction q) s d last u in
      let i = u.inside in
      rw (lt-leb place_count (find_download (subscriber q) (transaction q) w.bank) (omega arith))
      (and_no (leb place_count (find_upload (subscriber q) (transaction q) w.bank)))

-- no action is answered 091101
not-unknown : {e : Exchange} {g : List Exchange} {u : Bits128} {k : Action} → AllSound (e ∷ g) →
    e.verdict ≡ verdict.Of u k →
    RefusedWith code.UnknownTransaction e → ⊥
not-unknown {e} {g} {u} {k} sound own r =
    by (subst (λ (f : Form). ActionOf f k) (sym (reply-form sound newest own) ∙ r.formed) (action-of (edition_of e.request) k))
  where
    clash : (c : ReturnCode) → code_field (action_code k) ≡ code_field c → cancels c ≡ true → ⊥
    clash c z y =
        never (ap is_cancelling (sym r.coded ∙ (reply-code sound newest own ∙ z)) ∙ (cancelling-code c ∙ y))

    by : ActionOf forms.Refusal k → ⊥
    by (inl c) = clash c.0 (ap (λ (a : Action). code_field (action_code a)) c.1)
        (action-sound sound newest (own ∙ ap (verdict.Of u) c.1)).cancelling
    by (inr c) = clash code.TransactionAbort (ap (λ (a : Action). code_field (action_code a)) c) refl

pub open-answered : {calls : List BankCall} {e : Exchange} {t : Bits128} {f : Form} {last : ℕ} → Next calls e →
    Asks t e →
    StillOpen t f (subscriber e.request) last (past_of calls).history → e.clock ≤ last + idle_limit →
    RefusedWith code.UnknownTransaction e → ⊥
unfolding is_idle
open-answered {calls} {e} {t} {f} {last} n a o recent =
    let s = open-status (history-sound calls) (past-tracked calls).shown o in
    let w = (past_of calls).bank_state in
    let c = clock-is n ∙ advanced-clock n.input.time w in
    let there : OpenAs (judged_bank n) t s.direction (subscriber e.request) last =
    open-advanced n.input.time w (past-holds calls).invariant.state.sizes
    (ap (λ (m : ℕ). is_idle m last) (sym c) ∙ le-ltb (last + idle_limit) e.clock recent)
    (open-shown (past-told calls) s.now) in
    let mine : OpenAs (judged_bank n) (transaction (asked n)) s.direction (subscriber (asked n)) last =
    subst (λ (q : Fields). OpenAs (judged_bank n) (transaction q) s.direction (subscriber q) last) (request-is n)
    (subst (λ (i : Bits128). OpenAs (judged_bank n) i s.direction (subscriber e.request) last) (sym a.to) there)
    in
    not-unknown (all_sound n)
    (acted n a (is_found (judged_bank n) (past_of calls).history (judged-holds n) (asked n) mine)).2
