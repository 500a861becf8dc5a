-- A transaction that has ended, by the history, stays as it ended, whatever calls come after.
use Prim.Native.Nat.{ℕ, ◌<◌}
use mathlib.Core.Bool.{Bool, true, false, cond, ◌&&◌}
use mathlib.Core.List.{List, [], ◌∷◌, ◌++◌}
use mathlib.Core.Path.{◌≡◌, refl, sym, ap, ◌∙◌, subst}
use native.Mathlib.Omega.{arith}
use Rattle.frame_table.specs.declared.fields.Bits128.{Bits128}
use Rattle.frame_table.specs.declared.fields.Fields.{Fields}
use Rattle.frame_table.specs.Names.{subscriber, transaction, same_bits}
use Rattle.frame_table.proofs.Bits.{bits-same}
use Rattle.octets.proofs.Tests.{never}
use Rattle.message.proofs.Verdicts.{by-test}
use Rattle.bank_state.specs.Clock.{is_idle}
use Rattle.bank_state.specs.Search.{is_open}
use Rattle.bank_state.specs.State.{BankState, place_at, download_at}
use Rattle.bank_state.proofs.Found.{upload-found, download-found}
use Rattle.message.specs.declared.directions.Direction.{Direction}
use Rattle.message.specs.declared.directions.Direction.TheVariants as direction
use Rattle.bank_verdicts.specs.declared.verdict.UploadAction.TheVariants as up
use Rattle.bank_verdicts.specs.declared.verdict.DownloadAction.TheVariants as down
use Rattle.bank_verdicts.specs.declared.verdict.Action.{Action}
use Rattle.bank_verdicts.specs.declared.verdict.Action.TheVariants as action
use Rattle.bank_verdicts.specs.declared.verdict.Verdict.{Verdict}
use Rattle.bank_verdicts.specs.declared.verdict.Verdict.TheVariants as verdict
use Rattle.bank_verdicts.specs.Judgement.{opening_number, mailbox_segments, upload_at, download_of}
use Rattle.bank.specs.Call.{FrameInput}
use Rattle.bank_history.specs.History.{Exchange, BankCall, Frame, Past, newest, is_opening, is_booking, did, ever, accepted, call_exchange, start, after, past_of}
use Rattle.bank_history.specs.FalseEconomies.{Next}
use Rattle.bank_history.specs.Transactions.{answered}
use Rattle.bank_history.specs.Status.{
  Status,
  NotOpened,
  Open,
  Booked,
  Fetched,
  Skipped,
  EndedByReceipt,
  Cancelled,
  Dropped,
  if_open,
  drop_idle,
  is_download_of,
  action_status,
  other_status,
  status_after,
  status,
}
use Rattle.bank_steps.proofs.Cases.{
  Happens,
  unreadable,
  refused,
  opens_upload,
  opens_download,
  signs,
  to_upload,
  to_download,
}
use Rattle.bank_history.proofs.ByReplies.{accepted-grows}
use Rattle.bank_history.proofs.Entries.{same_bits_lem, ever-action}
use Rattle.bank_history.proofs.Keeps.{past-holds}
use Rattle.bank_history.proofs.Liveness.{by_call}
use Rattle.bank_history.proofs.NextCall.{judged_bank, asked, sent, all_sound, clock-is, case-is}
use Rattle.bank_history.proofs.Positions.{action-sound, opening-number, booking-last}
use Rattle.bank_history.proofs.SentSegments.{action-in}
use Rattle.bank_history.proofs.Statuses.{Told, advanced-told, past-told}

-- it has ended
abbrev pub is_closed : Status → Bool
is_closed NotOpened = false
is_closed (Open d s last) = false
is_closed Booked = true
is_closed Fetched = true
is_closed Skipped = true
is_closed EndedByReceipt = true
is_closed Cancelled = true
is_closed Dropped = true

pub closed-drops : (c : ℕ) (x : Status) → is_closed x ≡ true → drop_idle c x ≡ x
closed-drops c NotOpened z = never z
closed-drops c (Open d s last) z = never z
closed-drops c Booked z = refl
closed-drops c Fetched z = refl
closed-drops c Skipped z = refl
closed-drops c EndedByReceipt z = refl
closed-drops c Cancelled z = refl
closed-drops c Dropped z = refl

closed-receipt : (e : Exchange) (x : Status) → is_closed x ≡ true → other_status (action.Download down.Confirmed) e x ≡ x
closed-receipt e NotOpened z = never z
closed-receipt e (Open d s last) z = never z
closed-receipt e Booked z = refl
closed-receipt e Fetched z = refl
closed-receipt e Skipped z = refl
closed-receipt e EndedByReceipt z = refl
closed-receipt e Cancelled z = refl
closed-receipt e Dropped z = refl

closed-other : (k : Action) (e : Exchange) (x : Status) → is_closed x ≡ true → other_status k e x ≡ x
closed-other (action.Upload a) e x z = refl
closed-other (action.Download (down.Opened n)) e x z = refl
closed-other (action.Download (down.Delivered n)) e x z = refl
closed-other (action.Download (down.SentAgain n)) e x z = refl
closed-other (action.Download (down.Point d)) e x z = refl
closed-other (action.Download down.Cancelled) e x z = refl
closed-other (action.Download down.Confirmed) e x z = closed-receipt e x z
closed-other (action.Download down.Declined) e x z = refl

-- ---- an action but an opening is one on an open transaction

abbrev pub direction_of : Action → Direction
direction_of (action.Upload a) = direction.Upload
direction_of (action.Download a) = direction.Download

abbrev pub OpenStatus : Direction → Status → Type 0
OpenStatus d x = (s : ℕ) × (last : ℕ) × (x ≡ Open d s last)

case_open : {first : ℕ} (w : BankState) (σ : Bits128 → Status) → Told w σ → (q : Fields) (d : List ℕ) {u : Verdict} →
    Happens first w q d u → (t : Bits128) (k : Action) → u ≡ verdict.Of t k → is_opening k ≡ false →
    OpenStatus (direction_of k) (σ t)
case_open w σ told q d unreadable t k z o = absurd (let x : ◌≡◌ {A = ℕ} 0 1 = cc in omega arith)
case_open w σ told q d (refused c y) t k z o = absurd (let x : ◌≡◌ {A = ℕ} 0 1 = cc in omega arith)
case_open w σ told q d (signs s) t k z o = absurd (let x : ◌≡◌ {A = ℕ} 0 1 = cc in omega arith)
case_open w σ told q d (opens_upload f a g n inside below) t k z o =
    let same : action.Upload (up.Opened (opening_number w.bank q)) ≡ k = cc in never (sym o ∙ ap is_opening (sym same))
case_open w σ told q d (opens_download f a g n) t k z o =
    let same : action.Download (down.Opened (mailbox_segments (subscriber q) w.bank)) ≡ k = cc in never (sym o ∙ ap is_opening (sym same))
case_open w σ told q d (to_upload r a s) t k z o =
    let p = place_at w.bank (upload_at w.bank q) in
    let same : p.transaction ≡ t = cc in
    let kind : action.Upload a ≡ k = cc in
    subst (λ (m : Action). OpenStatus (direction_of m) (σ t)) kind (
      p.subscriber,
      p.last,
      ap σ (sym same)
          ∙ told.places (upload_at w.bank q) s.inside
          (ap is_open (upload-found (subscriber q) (transaction q) p s.found).0),
    )
case_open w σ told q d (to_download r a s) t k z o =
    let e = download_at w.bank (download_of w.bank q) in
    let same : e.transaction ≡ t = cc in
    let kind : action.Download a ≡ k = cc in
    subst (λ (m : Action). OpenStatus (direction_of m) (σ t)) kind (
      e.subscriber,
      e.last,
      ap σ (sym same)
          ∙ told.downloads (download_of w.bank q) (download-found (subscriber q) (transaction q) e s.found).0,
    )

module _ {calls : List BankCall} {e : Exchange} (n : Next calls e) where
  abbrev h : List Exchange
  h = (past_of calls).history

  pub acted-open : (t : Bits128) (k : Action) → e.verdict ≡ verdict.Of t k → is_opening k ≡ false →
      OpenStatus (direction_of k) (drop_idle e.clock (status t h))
  acted-open t k own o =
      case_open (judged_bank n) (λ (u : Bits128). drop_idle e.clock (status u h))
      (subst (λ (c : ℕ). Told (judged_bank n) (λ (u : Bits128). drop_idle c (status u h))) (sym (clock-is n))
      (advanced-told n.input.time (past_of calls).bank_state (past-holds calls).invariant.state.sizes
      (λ (u : Bits128). status u h) (past-told calls)))
      (asked n) (sent n) (case-is n) t k own o

  -- what has ended, or is dropped by this call, stands so after it
  pub closed-next : (t : Bits128) → t.low < accepted h → is_closed (drop_idle e.clock (status t h)) ≡ true →
      status t (e ∷ h) ≡ drop_idle e.clock (status t h)
  unfolding status
  closed-next t known z = at e.verdict refl
    where
      x : Status
      x = drop_idle e.clock (status t h)

      not_on : (k : Action) → e.verdict ≡ verdict.Of t k → (b : Bool) → is_opening k ≡ b → ⊥
      not_on k own true o =
          let l = opening-number t e h k o (action-sound (all_sound n) newest own) in omega arith
      not_on k own false o =
          let y = acted-open t k own o in never (sym (ap is_closed y.2) ∙ z)

      at : (v : Verdict) → e.verdict ≡ v → status_after t v e x ≡ x
      at verdict.Unreadable own = refl
      at (verdict.Refused c) own = refl
      at (verdict.Signed n added) own = refl
      at (verdict.Of u k) own = by (same_bits t u) refl
        where
          by : (b : Bool) → same_bits t u ≡ b → cond b (action_status k e x) (other_status k e x) ≡ x
          by true y = absurd (not_on k (own ∙ ap (λ (i : Bits128). verdict.Of i k) (sym (bits-same t u y))) (is_opening k) refl)
          by false y = closed-other k e x z

-- ---- every list of calls

-- a call that enters the exchange e
frame-next : (calls : List BankCall) (a : FrameInput) → after (Frame a) (past_of calls) ≡ answered a (past_of calls) →
    Next calls (call_exchange (past_of calls).bank_state a)
unfolding past_of
frame-next calls a z = record { input = a; entered = ap (λ (r : Past). r.history) z }

-- what is true of the history before a call and of each one with an exchange more is true after it
pub by-exchange : (P : List Exchange → Type 0) (calls : List BankCall) (c : BankCall) → P (past_of calls).history →
    ((e : Exchange) → Next calls e → P (e ∷ (past_of calls).history)) → P (past_of (c ∷ calls)).history
unfolding past_of
by-exchange P calls c same more =
    by_call (λ (r : Past). P r.history) c (past_of calls) (past-holds calls) same (λ a y z. answers a y z) (λ m f z. same)
  where
    answers : (a : FrameInput) → c ≡ Frame a → after c (past_of calls) ≡ answered a (past_of calls) →
        P (answered a (past_of calls)).history
    answers a y z =
        more (call_exchange (past_of calls).bank_state a)
        (frame-next calls a (ap (λ (d : BankCall). after d (past_of calls)) (sym y) ∙ z))

module _ (t : Bits128) where
  -- it was opened, and has ended like this
  abbrev pub Closed : Status → List Exchange → Type 0
  Closed x g = (t.low < accepted g) × (status t g ≡ x)

  pub closed-call : (x : Status) → is_closed x ≡ true → (calls : List BankCall) (c : BankCall) →
      Closed x (past_of calls).history → Closed x (past_of (c ∷ calls)).history
  closed-call x z calls c k =
      by-exchange (Closed x) calls c k
      (λ e n. (
        (let a = accepted-grows e (past_of calls).history in let b = k.0 in omega arith),
        (let y : drop_idle e.clock (status t (past_of calls).history) ≡ x =
            ap (drop_idle e.clock) k.1 ∙ closed-drops e.clock x z in
            closed-next n t k.0 (ap is_closed y ∙ z) ∙ y),
      ))

  pub closed-calls : (x : Status) → is_closed x ≡ true → (calls more : List BankCall) → Closed x (past_of calls).history →
      Closed x (past_of (more ++ calls)).history
  closed-calls x z calls [] k = k
  closed-calls x z calls (c ∷ more) k = closed-call x z (more ++ calls) c (closed-calls x z calls more k)

  -- a transaction whose segment N was taken stands as booked
  pub booked-status : (calls : List BankCall) → ever is_booking t (past_of calls).history ≡ true →
      status t (past_of calls).history ≡ Booked
  unfolding past_of start ever status
  booked-status [] = λ z. never z
  booked-status (c ∷ calls) =
      by-exchange (λ (g : List Exchange). ever is_booking t g ≡ true → status t g ≡ Booked) calls c (booked-status calls)
      (λ e n. at e n (did is_booking t e.verdict) refl (booked-status calls))
    where
      g : List Exchange
      g = (past_of calls).history

      at : (e : Exchange) → Next calls e → (b : Bool) → did is_booking t e.verdict ≡ b →
          (ever is_booking t g ≡ true → status t g ≡ Booked) → cond b true (ever is_booking t g) ≡ true →
          status_after t e.verdict e (drop_idle e.clock (status t g)) ≡ Booked
      at e n true y old z =
          let a = action-in is_booking t e e.verdict refl y in
          let own : e.verdict ≡ verdict.Of t (action.Upload up.TookLast) =
          a.is ∙ ap (verdict.Of t) (booking-last a.action a.kind) in
          ap (λ (v : Verdict). status_after t v e (drop_idle e.clock (status t g))) own ∙ rw (same_bits_lem t)
      at e n false y old z =
          let b = old z in
          let v = (past-holds calls).invariant in
          let known = v.known t (ever-action is_booking t g z) in
          let k : drop_idle e.clock (status t g) ≡ Booked = ap (drop_idle e.clock) b in
          closed-next n t (let m = v.counted in omega arith) (ap is_closed k) ∙ k

-- ---- what stands as booked was booked

abbrev is_booked_status : Status → Bool
is_booked_status NotOpened = false
is_booked_status (Open d s last) = false
is_booked_status Booked = true
is_booked_status Fetched = false
is_booked_status Skipped = false
is_booked_status EndedByReceipt = false
is_booked_status Cancelled = false
is_booked_status Dropped = false

if-booked : (f : Direction → ℕ → ℕ → Status) → ((d : Direction) (s last : ℕ) → is_booked_status (f d s last) ≡ false) →
    (x : Status) → is_booked_status (if_open f x) ≡ is_booked_status x
if-booked f n NotOpened = refl
if-booked f n (Open d s last) = n d s last
if-booked f n Booked = refl
if-booked f n Fetched = refl
if-booked f n Skipped = refl
if-booked f n EndedByReceipt = refl
if-booked f n Cancelled = refl
if-booked f n Dropped = refl

drops-booked : (c : ℕ) (x : Status) → is_booked_status (drop_idle c x) ≡ is_booked_status x
drops-booked c =
    if-booked _ (λ d s last. by-test (λ (y : Status). is_booked_status y ≡ false) (is_idle c last) (λ _. refl) (λ _. refl))

-- its own action books it or leaves it as it was; another's leaves it
books-or-not : (k : Action) (e : Exchange) (x : Status) → is_booked_status (action_status k e x) ≡ true →
    cond (is_booking k) true (is_booked_status x) ≡ true
books-or-not (action.Upload (up.Opened n)) e x z = never z
books-or-not (action.Upload up.Took) e x z = sym (if-booked _ (λ d s last. refl) x) ∙ z
books-or-not (action.Upload up.TookLast) e x z = refl
books-or-not (action.Upload (up.Point k)) e x z = z
books-or-not (action.Upload (up.Cancelled c)) e x z = never z
books-or-not (action.Download (down.Opened n)) e x z = never z
books-or-not (action.Download (down.Delivered n)) e x z = sym (if-booked _ (λ d s last. refl) x) ∙ z
books-or-not (action.Download (down.SentAgain n)) e x z = z
books-or-not (action.Download (down.Point d)) e x z = z
books-or-not (action.Download down.Cancelled) e x z = never z
books-or-not (action.Download down.Confirmed) e x z = never z
books-or-not (action.Download down.Declined) e x z = never z

others-booked : (k : Action) (e : Exchange) (x : Status) → is_booked_status (other_status k e x) ≡ is_booked_status x
others-booked (action.Upload a) e x = refl
others-booked (action.Download (down.Opened n)) e x = refl
others-booked (action.Download (down.Delivered n)) e x = refl
others-booked (action.Download (down.SentAgain n)) e x = refl
others-booked (action.Download (down.Point d)) e x = refl
others-booked (action.Download down.Cancelled) e x = refl
others-booked (action.Download down.Confirmed) e x =
    if-booked _ (λ d s last. by-test (λ (y : Status). is_booked_status y ≡ false) (is_download_of d s (subscriber e.request))
    (λ _. refl) (λ _. refl)) x
others-booked (action.Download down.Declined) e x = refl

after-booked : (t : Bits128) (v : Verdict) (e : Exchange) (x : Status) → is_booked_status (status_after t v e x) ≡ true →
    cond (did is_booking t v) true (is_booked_status x) ≡ true
after-booked t verdict.Unreadable e x z = z
after-booked t (verdict.Refused c) e x z = z
after-booked t (verdict.Signed n added) e x z = z
after-booked t (verdict.Of u k) e x z = at (same_bits t u) z
  where
    at : (b : Bool) → is_booked_status (cond b (action_status k e x) (other_status k e x)) ≡ true →
        cond (b && is_booking k) true (is_booked_status x) ≡ true
    at true y = books-or-not k e x y
    at false y = sym (others-booked k e x) ∙ y

ever-booked : (t : Bits128) (g : List Exchange) → is_booked_status (status t g) ≡ true → ever is_booking t g ≡ true
unfolding status ever
ever-booked t [] z = never z
ever-booked t (e ∷ g) z =
    at (did is_booking t e.verdict) (after-booked t e.verdict e (drop_idle e.clock (status t g)) z) (ever-booked t g)
  where
    at : (b : Bool) → cond b true (is_booked_status (drop_idle e.clock (status t g))) ≡ true →
        (is_booked_status (status t g) ≡ true → ever is_booking t g ≡ true) → cond b true (ever is_booking t g) ≡ true
    at true y old = refl
    at false y old = old (sym (drops-booked e.clock (status t g)) ∙ y)

pub status-booked : (t : Bits128) (g : List Exchange) → status t g ≡ Booked → ever is_booking t g ≡ true
status-booked t g z = ever-booked t g (ap is_booked_status z)
