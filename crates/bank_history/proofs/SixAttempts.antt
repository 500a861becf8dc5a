-- The first five attempts of a transaction are answered and the sixth cancels: its column of attempts is the number that
-- the replies show.
use Prim.Native.Nat.{ℕ, suc, ◌≤◌, ◌<◌}
use mathlib.Core.Bool.{Bool, true, false, cond}
use mathlib.Core.List.{List, [], ◌∷◌}
use mathlib.Core.Logic.{◌⊎◌, inl, inr}
use mathlib.Core.Path.{◌≡◌, refl, sym, ap, ◌∙◌, subst}
use native.Mathlib.Decide.{dec_lt}
use native.Mathlib.Omega.{arith}
use Rattle.frame_table.specs.declared.fields.Bits128.{Bits128}
use Rattle.frame_table.specs.declared.fields.Fields.{Fields}
use Rattle.frame_table.specs.Forms as forms
use Rattle.frame_table.specs.Names.{subscriber, transaction, segment, form}
use Rattle.octets.proofs.Tests.{never}
use Rattle.message.specs.declared.codes.ReturnCode.TheVariants as code
use Rattle.message.specs.Codes.{code_field}
use Rattle.message.specs.Editions.{edition_of}
use Rattle.message.specs.Limits.{max_attempts}
use Rattle.message.specs.Replies.{download_opened}
use Rattle.bank_state.specs.declared.state.Download.{Download}
use Rattle.bank_state.specs.declared.state.Place.{Place}
use Rattle.bank_state.specs.declared.state.Use.{Use}
use Rattle.bank_state.specs.Search.{is_open}
use Rattle.bank_state.specs.State.{BankState, place_at, download_at}
use Rattle.bank_state.specs.Store.{part_at}
use Rattle.bank_state.proofs.Found.{upload-found, download-found}
use Rattle.bank_verdicts.specs.declared.verdict.TransactionRequest.{TransactionRequest}
use Rattle.bank_verdicts.specs.declared.verdict.UploadAction.{UploadAction}
use Rattle.bank_verdicts.specs.declared.verdict.UploadAction.TheVariants as up
use Rattle.bank_verdicts.specs.declared.verdict.DownloadAction.{DownloadAction}
use Rattle.bank_verdicts.specs.declared.verdict.DownloadAction.TheVariants as down
use Rattle.bank_verdicts.specs.declared.verdict.Action.{Action}
use Rattle.bank_verdicts.specs.declared.verdict.Action.TheVariants as action
use Rattle.bank_verdicts.specs.declared.verdict.Verdict.{Verdict}
use Rattle.bank_verdicts.specs.declared.verdict.Verdict.TheVariants as verdict
use Rattle.bank_verdicts.specs.Judgement.{upload_at, download_of}
use Rattle.bank_verdicts.specs.Replies.{reply_to}
use Rattle.bank_verdicts.proofs.Sound.{
  UploadSound,
  took,
  took_last,
  upload_point,
  abort,
  underrun,
  exceeded,
  DownloadSound,
  delivered,
  sent_again,
  download_point,
  cancelled,
  confirmed,
  declined,
}
use Rattle.bank_history.specs.History.{Exchange, BankCall, Past, newest, older, is_action, is_delivery, did, ever, times, accepted, start, past_of}
use Rattle.bank_history.specs.Sound.{is_cancelling, AllSound}
use Rattle.bank_history.specs.Sound as sounds
use Rattle.bank_admitted.specs.State.{OpenPlace, PlaceHolds}
use Rattle.bank_history.specs.Invariant.{Invariant}
use Rattle.bank_history.specs.FalseEconomies.{Next, RefusedWith, Sent, Attempt, point, again, Attempts}
use Rattle.bank_history.specs.FalseEconomies as history
use Rattle.bank_steps.proofs.Cases.{
  Happens,
  unreadable,
  refused,
  opens_upload,
  opens_download,
  signs,
  to_upload,
  to_download,
}
use Rattle.bank_history.proofs.Counted.{is_attempt, Counted, judged-counted}
use Rattle.bank_history.proofs.Downloads.{download-open}
use Rattle.bank_history.proofs.Entries.{did-same, times-unknown}
use Rattle.bank_history.proofs.Keeps.{past-holds}
use Rattle.bank_history.proofs.Liveness.{by_call}
use Rattle.bank_history.proofs.NextCall.{judged_bank, asked, sent, case-is, all_sound, judged-holds}
use Rattle.bank_history.proofs.Positions.{action-sound}
use Rattle.bank_history.proofs.Replies.{verdict-form, action_form, action_code, IsAction, ActionOf, is-action}
use Rattle.bank_history.proofs.SentSegments.{
  action-in,
  reply-form,
  reply-code,
  reply-transaction,
  delivered-number,
  again-number,
  delivered-new,
}
use Rattle.bank_history.proofs.Theorems.{history-sound, reply-is, recovery-point, transaction-cancelled}

-- ---- every attempt shows, and every segment up to d was sent

pub data AllShown : List Exchange → Type 0 where
  none : AllShown []
  more : {x : Exchange} {h : List Exchange} → ((t : Bits128) → did is_attempt t x.verdict ≡ true → Attempt t h x) → AllShown h → AllShown (x ∷ h)

pub record Tracked (h : List Exchange) : Type 0 where
  segments_sent : (t : Bits128) (n : ℕ) → 1 ≤ n → n ≤ times is_delivery t h → Sent t n h
  pub shown : AllShown h

module _ (x : Exchange) (h : List Exchange) (sound : AllSound (x ∷ h)) (known : (t : Bits128) → ever is_action t h ≡ true → t.low < accepted h)
    (old : Tracked h) where
  sent-older : {t : Bits128} {n : ℕ} → Sent t n h → Sent t n (x ∷ h)
  sent-older s = record {
    exchange = s.exchange;
    before = s.before;
    stands = older s.stands;
    formed = s.formed;
    id = s.id;
    number = s.number;
  }

  -- an opening has a new number
  nothing-before : (t : Bits128) → t.low ≡ accepted h → times is_delivery t h ≡ 0
  nothing-before t numbered = at (ever is_action t h) refl
    where
      at : (b : Bool) → ever is_action t h ≡ b → times is_delivery t h ≡ 0
      at false z = times-unknown t is_delivery h z
      at true z = absurd (let l = known t z in omega arith)

  -- the segment that the newest reply sends
  newest-sent : (t : Bits128) (k : Action) → x.verdict ≡ verdict.Of t k → is_delivery k ≡ true → Sent t (suc (times is_delivery t h)) (x ∷ h)
  unfolding download_opened
  newest-sent t (action.Upload (up.Opened m)) own z = never z
  newest-sent t (action.Upload up.Took) own z = never z
  newest-sent t (action.Upload up.TookLast) own z = never z
  newest-sent t (action.Upload (up.Point m)) own z = never z
  newest-sent t (action.Upload (up.Cancelled c)) own z = never z
  newest-sent t (action.Download (down.Opened m)) own z = record {
    exchange = x;
    before = h;
    stands = newest;
    formed = inl (reply-form sound newest own);
    id = reply-transaction sound newest own (λ y. let u : ◌≡◌ {A = ℕ} 0 1 = cc in omega arith);
    number = ap segment (reply-is sound newest ∙ ap (λ (v : Verdict). reply_to v x.request) own)
        ∙ (let a = nothing-before t (action-sound sound newest own).opening.numbered in omega arith);
  }
  newest-sent t (action.Download (down.Delivered m)) own z = record {
    exchange = x;
    before = h;
    stands = newest;
    formed = inr (reply-form sound newest own);
    id = reply-transaction sound newest own (λ y. let u : ◌≡◌ {A = ℕ} 0 1 = cc in omega arith);
    number = delivered-number sound newest m own ∙ (action-sound sound newest own).next;
  }
  newest-sent t (action.Download (down.SentAgain m)) own z = never z
  newest-sent t (action.Download (down.Point m)) own z = never z
  newest-sent t (action.Download down.Cancelled) own z = never z
  newest-sent t (action.Download down.Confirmed) own z = never z
  newest-sent t (action.Download down.Declined) own z = never z

  segments-sent : (t : Bits128) (n : ℕ) → 1 ≤ n → n ≤ times is_delivery t (x ∷ h) → Sent t n (x ∷ h)
  unfolding times
  segments-sent t n some = at (did is_delivery t x.verdict) refl (dec_lt (times is_delivery t h) n)
    where
      at : (b : Bool) → did is_delivery t x.verdict ≡ b → Dec (times is_delivery t h < n) →
          n ≤ cond b (suc (times is_delivery t h)) (times is_delivery t h) → Sent t n (x ∷ h)
      at false d l most = sent-older (old.segments_sent t n some most)
      at true d (no l) most = sent-older (old.segments_sent t n some (omega arith))
      at true d (yes l) most =
          let a = action-in is_delivery t x x.verdict refl d in
          let e : suc (times is_delivery t h) ≡ n = omega arith in
          subst (λ (m : ℕ). Sent t m (x ∷ h)) e (newest-sent t a.action a.is a.kind)

  attempt-shows : (t : Bits128) (k : Action) → x.verdict ≡ verdict.Of t k → is_attempt k ≡ true → Attempt t h x
  attempt-shows t (action.Upload (up.Opened m)) own z = never z
  attempt-shows t (action.Upload up.Took) own z = never z
  attempt-shows t (action.Upload up.TookLast) own z = never z
  attempt-shows t (action.Upload (up.Point m)) own z =
      point (record { formed = reply-form sound newest own; coded = reply-code sound newest own })
      (reply-transaction sound newest own (λ y. let u : ◌≡◌ {A = ℕ} 0 1 = cc in omega arith))
  attempt-shows t (action.Upload (up.Cancelled c)) own z = never z
  attempt-shows t (action.Download (down.Opened m)) own z = never z
  attempt-shows t (action.Download (down.Delivered m)) own z = never z
  attempt-shows t (action.Download (down.SentAgain m)) own z =
      let s = action-sound sound newest own in
      let a = s.carried.some in
      let b = s.again in
      let c = again-number sound newest m own in
      again (reply-form sound newest own) (reply-transaction sound newest own (λ y. let u : ◌≡◌ {A = ℕ} 0 1 = cc in omega arith))
      (old.segments_sent t (segment x.reply) (omega arith) (omega arith))
  attempt-shows t (action.Download (down.Point m)) own z =
      point (record { formed = reply-form sound newest own; coded = reply-code sound newest own })
      (reply-transaction sound newest own (λ y. let u : ◌≡◌ {A = ℕ} 0 1 = cc in omega arith))
  attempt-shows t (action.Download down.Cancelled) own z = never z
  attempt-shows t (action.Download down.Confirmed) own z = never z
  attempt-shows t (action.Download down.Declined) own z = never z

  tracked-more : Tracked (x ∷ h)
  tracked-more = record {
    segments_sent = segments-sent;
    shown = more (λ t d. let a = action-in is_attempt t x x.verdict refl d in attempt-shows t a.action a.is a.kind) old.shown;
  }

start-tracked : Tracked start.history
unfolding start times
start-tracked = record { segments_sent = λ t n a b. absurd (omega arith); shown = none }

pub past-tracked : (calls : List BankCall) → Tracked (past_of calls).history
unfolding past_of
past-tracked [] = start-tracked
past-tracked (call ∷ calls) =
    let p = past_of calls in
    let v = (past-holds calls).invariant in
    by_call (λ (r : Past). Tracked r.history) call p (past-holds calls) (past-tracked calls)
    (λ a e z.
    tracked-more _ p.history (subst (λ (r : Past). AllSound r.history) z (past-holds (call ∷ calls)).invariant.sound)
    (λ t k. let a = v.known t k in let b = v.counted in omega arith) (past-tracked calls))
    (λ m f e. past-tracked calls)

-- ---- the number of attempts that the replies show

attempt-did : {t : Bits128} {e : Exchange} {g : List Exchange} → AllSound (e ∷ g) → Attempt t g e → did is_attempt t e.verdict ≡ true
attempt-did {t} {e} {g} sound (point r id) = at (recovery-point sound newest r.formed r.coded)
  where
    is : (k : Action) → e.verdict ≡ verdict.Of (transaction e.request) k →
        action_form (edition_of e.request) k ≡ forms.SegmentTaken → is_attempt k ≡ true →
        did is_attempt t e.verdict ≡ true
    is k own f z =
        let same : transaction e.request ≡ t =
        sym (reply-transaction sound newest own (λ y. let u : ◌≡◌ {A = ℕ} 0 1 = cc in omega arith)) ∙ id in
        ap (did is_attempt t) (own ∙ ap (λ (i : Bits128). verdict.Of i k) same) ∙ (did-same is_attempt t k ∙ z)

    at : {A B : Type 0} → ((e.verdict ≡ verdict.Of (transaction e.request) (action.Upload (up.Point (segment e.reply)))) × A)
        ⊎ ((e.verdict ≡ verdict.Of (transaction e.request) (action.Download (down.Point (segment e.reply)))) × B) →
        did is_attempt t e.verdict ≡ true
    at (inl u) = is _ u.0 refl refl
    at (inr u) = is _ u.0 refl refl
attempt-did {t} {e} {g} sound (again formed id before) =
    let d = is-action (edition_of e.request) e.verdict forms.DownloadSegment
    (sym (ap form (reply-is sound newest) ∙ verdict-form e.verdict e.request) ∙ formed) refl in
    at d d.kind
  where
    ours : (u : Bits128) (k : Action) → e.verdict ≡ verdict.Of u k →
        action_form (edition_of e.request) k ≡ forms.DownloadSegment → e.verdict ≡ verdict.Of t k
    ours u k own f =
        own ∙ ap (λ (i : Bits128). verdict.Of i k)
        (sym (reply-transaction sound newest own (λ y. let z : ◌≡◌ {A = ℕ} 0 1 = cc in omega arith)) ∙ id)

    at : (d : IsAction e.verdict forms.DownloadSegment) → ActionOf forms.DownloadSegment d.action → did is_attempt t e.verdict ≡ true
    at d (inl k) =
        absurd (delivered-new k.0 sound newest (ours d.id _ (d.is ∙ ap (verdict.Of d.id) k.1) refl) before)
    at d (inr k) =
        let a = action.Download (down.SentAgain k.0) in
        ap (did is_attempt t) (ours d.id a (d.is ∙ ap (verdict.Of d.id) k.1) refl) ∙ did-same is_attempt t a

counted-so : {t : Bits128} {n : ℕ} {h : List Exchange} → AllSound h → AllShown h → Attempts t n h → times is_attempt t h ≡ n
unfolding times
counted-so sound shown history.none = refl
counted-so (sounds.more s r) (more f g) (history.one a c) = rw (attempt-did (sounds.more s r) a) (ap suc (counted-so r g c))
counted-so {t} {n} (sounds.more s r) (more {x = x} {h = h} f g) (history.other not c) = at (did is_attempt t x.verdict) refl (counted-so r g c)
  where
    at : (b : Bool) → did is_attempt t x.verdict ≡ b → times is_attempt t h ≡ n → cond b (suc (times is_attempt t h)) (times is_attempt t h) ≡ n
    at true d e = absurd (not (f t d))
    at false d e = e

shown-count : (t : Bits128) {h : List Exchange} → AllSound h → AllShown h → Attempts t (times is_attempt t h) h
unfolding times
shown-count t sound none = history.none
shown-count t (sounds.more s r) (more {x = x} {h = h} f g) = at (did is_attempt t x.verdict) refl (shown-count t r g)
  where
    at : (b : Bool) → did is_attempt t x.verdict ≡ b → Attempts t (times is_attempt t h) h →
        Attempts t (cond b (suc (times is_attempt t h)) (times is_attempt t h)) (x ∷ h)
    at true d c = history.one (f t d) c
    at false d c = history.other (λ a. never (sym d ∙ attempt-did (sounds.more s r) a)) c

pub attempts-counted : (calls : List BankCall) (t : Bits128) → (n : ℕ) × Attempts t n (past_of calls).history
attempts-counted calls t =
    (times is_attempt t (past_of calls).history, shown-count t (history-sound calls) (past-tracked calls).shown)

-- ---- the bank's answer by its column of attempts

abbrev Aborts : Action → Type 0
Aborts k = code_field (action_code k) ≡ code_field code.TransactionAbort

upload-few : {r : TransactionRequest} {p : Place} {q : Fields} {a : UploadAction} → UploadSound r p q a →
    (is_attempt (action.Upload a) ≡ true → p.attempts < max_attempts) × (Aborts (action.Upload a) → max_attempts ≤ p.attempts)
upload-few (took f below early) = ((λ z. never z), (λ z. absurd (omega arith)))
upload-few (took_last f last mark) = ((λ z. never z), (λ z. absurd (omega arith)))
upload-few (upload_point fits few) = ((λ z. few), (λ z. absurd (omega arith)))
upload-few (abort fits many) = ((λ z. never z), (λ z. many))
upload-few (underrun f below mark) = ((λ z. never z), (λ z. absurd (omega arith)))
upload-few (exceeded f last mark) = ((λ z. never z), (λ z. absurd (omega arith)))

download-few : {r : TransactionRequest} {e : Download} {n : ℕ} {q : Fields} {a : DownloadAction} → DownloadSound r e n q a →
    (is_attempt (action.Download a) ≡ true → e.attempts < max_attempts) × (Aborts (action.Download a) → max_attempts ≤ e.attempts)
download-few (delivered t next within) = ((λ z. never z), (λ z. absurd (omega arith)))
download-few (sent_again t some back few) = ((λ z. few), (λ z. absurd (omega arith)))
download-few (download_point fits few) = ((λ z. few), (λ z. absurd (omega arith)))
download-few (cancelled fits many) = ((λ z. never z), (λ z. many))
download-few (confirmed t whole taken) = ((λ z. never z), (λ z. absurd (omega arith)))
download-few (declined t whole other) = ((λ z. never z), (λ z. absurd (omega arith)))

-- the same, by the history
abbrev ByHistory : List Exchange → Verdict → Type 0
ByHistory h verdict.Unreadable = Unit {0}
ByHistory h (verdict.Refused c) = Unit {0}
ByHistory h (verdict.Signed n added) = Unit {0}
ByHistory h (verdict.Of u k) =
    (is_attempt k ≡ true → times is_attempt u h < max_attempts) × (Aborts k → times is_attempt u h ≡ max_attempts)

module _ (w : BankState) (h : List Exchange) (v : Invariant w h) (c : Counted w h) (q : Fields) (d : List ℕ) (first : ℕ) where
  acted-attempts : {x : Verdict} → Happens first w q d x → ByHistory h x
  acted-attempts unreadable = tt
  acted-attempts (refused r e) = tt
  acted-attempts (signs s) = tt
  acted-attempts (opens_upload asked a g n inside below) = ((λ z. never z), (λ z. absurd (omega arith)))
  acted-attempts (opens_download asked a g n) = ((λ z. never z), (λ z. absurd (omega arith)))
  acted-attempts (to_upload r a s) =
      let i = upload_at w.bank q in
      let p = place_at w.bank i in
      let used = (upload-found (subscriber q) (transaction q) p s.found).0 in
      let e = (c.places i s.inside (ap is_open used)).tries in
      let o : OpenPlace w.bank.clock w.bank.openings p (part_at w.orders i) =
      subst (λ (u : Use). PlaceHolds u w.bank.clock w.bank.openings p (part_at w.orders i)) used
      (v.state.places i s.inside) in
      let m = o.tries in
      let f = upload-few s.sound in
      ((λ z. let l = f.0 z in omega arith), (λ z. let l = f.1 z in omega arith))
  acted-attempts (to_download r a s) =
      let j = download_of w.bank q in
      let used = (download-found (subscriber q) (transaction q) (download_at w.bank j) s.found).0 in
      let e = (c.downloads j used).tries in
      let m = (download-open w h v j used).0.tries in
      let f = download-few s.sound in
      ((λ z. let l = f.0 z in omega arith), (λ z. let l = f.1 z in omega arith))

-- ---- the statements

module _ {calls : List BankCall} {e : Exchange} (n : Next calls e) where
  by-history : {u : Bits128} {k : Action} → e.verdict ≡ verdict.Of u k → ByHistory (past_of calls).history (verdict.Of u k)
  by-history own =
      subst (ByHistory (past_of calls).history) own
      (acted-attempts (judged_bank n) (past_of calls).history (judged-holds n) (judged-counted calls n.input.time)
      (asked n) (sent n) _ (case-is n))

  counted-now : {t : Bits128} {m : ℕ} → Attempts t m (past_of calls).history → times is_attempt t (past_of calls).history ≡ m
  counted-now c = counted-so (history-sound calls) (past-tracked calls).shown c

  pub five-answered : {t : Bits128} {m : ℕ} → Attempts t m (past_of calls).history → Attempt t (past_of calls).history e → m < max_attempts
  five-answered {t} c a =
      let i = action-in is_attempt t e e.verdict refl (attempt-did (all_sound n) a) in
      let l = (by-history i.is).0 i.kind in
      let z = counted-now c in
      omega arith

  pub sixth-cancels : {m : ℕ} → Attempts (transaction e.request) m (past_of calls).history → RefusedWith code.TransactionAbort e →
      m ≡ max_attempts
  sixth-cancels c r =
      let x = transaction-cancelled (all_sound n) newest r.formed (ap is_cancelling r.coded) in
      let own = x.3 in
      let l = (by-history own).1 (sym (reply-code (all_sound n) newest own) ∙ r.coded) in
      sym (counted-now c) ∙ l
