-- Drops: by how each transaction stands by the history, a call's clock takes out of the bank exactly the open ones that
-- are idle, in the order of their openings.
use Prim.Native.Nat.{ℕ, suc, ◌+◌, ◌≤◌}
use mathlib.Core.Bool.{Bool, true, false, cond}
use mathlib.Core.List.Memᴰ.{head as here}
use mathlib.Core.List.Memᴰ.{not-nil as in-none}
use mathlib.Core.List.Memᴰ.{tail as there}
use mathlib.Core.List.{
  List,
  [],
  ◌∷◌,
  ◌++◌,
  map,
  append-nil,
  Memᴰ as In,
}
use mathlib.Core.Logic.{◌⊎◌, inl, inr}
use mathlib.Core.Path.{◌≡◌, refl, sym, ap, ◌∙◌, subst}
use native.Mathlib.Omega.{arith}
use lib.ListN.{length, length-append}
use Rattle.frame_table.specs.declared.fields.Bits128.{Bits128}
use Rattle.frame_table.specs.Names.{subscriber, same_bits}
use Rattle.octets.proofs.Tests.{never, or_left, or_right}
use Rattle.message.proofs.Verdicts.{by-test}
use Rattle.bank_state.specs.Clock.{is_idle, advanced}
use Rattle.bank_state.specs.Rows.{keep}
use Rattle.bank_state.specs.State.{BankState}
use Rattle.message.specs.declared.directions.Direction.{Direction}
use Rattle.bank_verdicts.specs.declared.verdict.UploadAction.TheVariants as up
use Rattle.bank_verdicts.specs.declared.verdict.DownloadAction.TheVariants as down
use Rattle.bank_verdicts.specs.declared.verdict.Action.{Action}
use Rattle.bank_verdicts.specs.declared.verdict.Action.TheVariants as action
use Rattle.bank_verdicts.specs.declared.verdict.Verdict.{Verdict}
use Rattle.bank_verdicts.specs.declared.verdict.Verdict.TheVariants as verdict
use Rattle.bank_history.specs.History.{Exchange, BankCall, Stands, newest, older, ActionIn, is_opening, is_upload_opening, is_download_opening, accepted, opens, past_of}
use Rattle.bank_history.specs.Invariant.{Invariant}
use Rattle.bank_history.specs.Sound.{AllSound, SoundVerdict}
use Rattle.bank_history.specs.Sound as sounds
use Rattle.bank_history.specs.FalseEconomies.{Next}
use Rattle.bank_history.specs.Status.{
  Status,
  NotOpened,
  Open,
  Booked,
  Fetched,
  Skipped,
  EndedByReceipt,
  Cancelled,
  Dropped,
  if_open,
  drop_idle,
  is_download_of,
  action_status,
  other_status,
  status_after,
  status,
  opened_in,
  openings,
  is_idle_at,
  drops,
  Drop,
  acted_in,
  events_of,
  OpenAs,
  OpenIn,
  upload,
  download,
  Numbered,
  none,
  one,
  Rising,
  end,
  next,
  Drops,
}
use Rattle.bank_history.proofs.Downloads.{download-open}
use Rattle.bank_history.proofs.Entries.{same_bits_lem}
use Rattle.bank_history.proofs.Keeps.{past-holds}
use Rattle.bank_history.proofs.NextCall.{clock-is}
use Rattle.bank_history.proofs.Positions.{ever-stands, opening-number}
use Rattle.bank_admitted.proofs.Clock.{advanced-clock}
use Rattle.bank_history.proofs.Statuses.{
  open-shown,
  open_told,
  open-advanced,
  advanced-told,
  past-told,
}
use Rattle.bank_history.proofs.Theorems.{history-sound}
use Rattle.bank_history.proofs.UploadRequests.{upload-is-open}

-- ---- lists

pub in-keep : {A : Type 0} (p : A → Bool) {x : A} (l : List A) → In x l → p x ≡ true → In x (keep p l)
unfolding keep
in-keep p [] i z = absurd (in-none i)
in-keep {A} p {x} (y ∷ l) i z = at (p y) refl i (λ j. in-keep p l j z)
  where
    at : (b : Bool) → p y ≡ b → In x (y ∷ l) → (In x l → In x (keep p l)) → In x (cond b (y ∷ keep p l) (keep p l))
    at true e (here k) later = here k
    at true e (there k) later = there (later k)
    at false e (here k) later = never (sym e ∙ (ap p (sym k) ∙ z))
    at false e (there k) later = later k

pub keep-in : {A : Type 0} (p : A → Bool) {x : A} (l : List A) → In x (keep p l) → In x l × (p x ≡ true)
unfolding keep
keep-in p [] i = absurd (in-none i)
keep-in {A} p {x} (y ∷ l) i = at (p y) refl i (keep-in p l)
  where
    at : (b : Bool) → p y ≡ b → In x (cond b (y ∷ keep p l) (keep p l)) → (In x (keep p l) → In x l × (p x ≡ true)) →
        In x (y ∷ l) × (p x ≡ true)
    at true e (here k) later = (here k, ap p k ∙ e)
    at true e (there k) later = let r = later k in (there r.0, r.1)
    at false e k later = let r = later k in (there r.0, r.1)

pub in_left : {A : Type 0} {x : A} (l m : List A) → In x l → In x (l ++ m)
in_left [] m i = absurd (in-none i)
in_left (y ∷ l) m (here e) = here e
in_left (y ∷ l) m (there i) = there (in_left l m i)

pub in_right : {A : Type 0} {x : A} (l m : List A) → In x m → In x (l ++ m)
in_right [] m i = i
in_right (y ∷ l) m i = there (in_right l m i)

pub in_either : {A : Type 0} {x : A} (l m : List A) → In x (l ++ m) → In x l ⊎ In x m
in_either [] m i = inr i
in_either (y ∷ l) m (here e) = inl (here e)
in_either {A} {x} (y ∷ l) m (there i) = at (in_either l m i)
  where
    at : In x l ⊎ In x m → In x (y ∷ l) ⊎ In x m
    at (inl k) = inl (there k)
    at (inr k) = inr k

-- a call's drops are those of its events
module _ (t : Bits128) where
  drop-in : (l : List Bits128) → In t l → In (Drop t) (map Drop l)
  drop-in [] i = absurd (in-none i)
  drop-in (u ∷ l) (here z) = here (ap Drop z)
  drop-in (u ∷ l) (there i) = there (drop-in l i)

  in-drop : (l : List Bits128) → In (Drop t) (map Drop l) → In t l
  in-drop [] i = absurd (in-none i)
  in-drop (u ∷ l) (here z) = let same : t ≡ u = cc in here same
  in-drop (u ∷ l) (there i) = there (in-drop l i)

  no-act : (v : Verdict) → In (Drop t) (acted_in v) → ⊥
  no-act verdict.Unreadable i = in-none i
  no-act (verdict.Refused c) i = in-none i
  no-act (verdict.Signed n added) i = in-none i
  no-act (verdict.Of u k) (here z) = let x : ◌≡◌ {A = ℕ} 0 1 = cc in omega arith
  no-act (verdict.Of u k) (there i) = in-none i

  event-drops : (e : Exchange) (h : List Exchange) → In (Drop t) (events_of e h) → In t (drops e.clock h)
  unfolding events_of
  event-drops e h i = at (in_either (map Drop (drops e.clock h)) (acted_in e.verdict) i)
    where
      at : In (Drop t) (map Drop (drops e.clock h)) ⊎ In (Drop t) (acted_in e.verdict) → In t (drops e.clock h)
      at (inl k) = in-drop (drops e.clock h) k
      at (inr k) = absurd (no-act e.verdict k)

  drops-event : (e : Exchange) (h : List Exchange) → In t (drops e.clock h) → In (Drop t) (events_of e h)
  unfolding events_of
  drops-event e h i = in_left (map Drop (drops e.clock h)) (acted_in e.verdict) (drop-in (drops e.clock h) i)

numbered_more : {m : ℕ} {l : List Bits128} (t : Bits128) → Numbered m l → t.low ≡ m + length l →
    Numbered m (l ++ (t ∷ []))
numbered_more {m} t none z = one {m = m} {t = t} (omega arith) none
numbered_more t (one e r) z = one e (numbered_more t r (omega arith))

pub rising-keep : (p : Bits128 → Bool) {n : ℕ} (m : ℕ) {l : List Bits128} → n ≤ m → Numbered m l → Rising n (keep p l)
unfolding keep
rising-keep p m a none = end
rising-keep p {n} m a (one {t = t} {l = l} e r) =
    at (p t) (rising-keep p (suc m) {l = l} (omega arith) r) (rising-keep p (suc m) {l = l} (omega arith) r)
  where
    at : (b : Bool) → Rising (suc t.low) (keep p l) → Rising n (keep p l) →
        Rising n (cond b (t ∷ keep p l) (keep p l))
    at true x y = next {m = n} {t = t} (omega arith) x
    at false x y = y

-- ---- the openings

pub opened-numbered : {h : List Exchange} → AllSound h → Numbered 0 (openings h) × (length (openings h) ≡ accepted h)
unfolding openings accepted
opened-numbered sounds.none = (none, refl)
opened-numbered (sounds.more {e = e} {h = h} s r) = at e.verdict s.verdict (opened-numbered r)
  where
    Out : Verdict → Type 0
    Out u = Numbered 0 (openings h ++ opened_in u) ×
        (length (openings h ++ opened_in u) ≡ cond (opens u) (suc (accepted h)) (accepted h))

    same : Numbered 0 (openings h) × (length (openings h) ≡ accepted h) →
        Numbered 0 (openings h ++ []) × (length (openings h ++ []) ≡ accepted h)
    same k = rw append-nil k

    at : (u : Verdict) → SoundVerdict u e h → Numbered 0 (openings h) × (length (openings h) ≡ accepted h) → Out u
    at verdict.Unreadable z k = same k
    at (verdict.Refused c) z k = same k
    at (verdict.Signed n added) z k = same k
    at (verdict.Of t a) z k = by (is_opening a) refl
      where
        by : (b : Bool) → is_opening a ≡ b →
            Numbered 0 (openings h ++ cond b (t ∷ []) []) ×
            (length (openings h ++ cond b (t ∷ []) []) ≡ cond b (suc (accepted h)) (accepted h))
        by true o = (
          numbered_more t k.0 (opening-number t e h a o z ∙ (let y = k.1 in omega arith)),
          length-append (openings h) (t ∷ []) ∙ (let y = k.1 in omega arith),
        )
        by false o = same k

pub listed : {t : Bits128} {e : Exchange} {g h : List Exchange} → Stands e g h → ActionIn is_opening t e → In t (openings h)
unfolding openings
listed {t} {e} {g} newest a = in_right (openings g) (opened_in e.verdict) (rw a.is (rw a.kind (here refl)))
listed (older {x = x} {h = h} s) a = in_left (openings h) (opened_in x.verdict) (listed s a)

pub open-listed : (w : BankState) (h : List Exchange) → Invariant w h → {t : Bits128} {d : Direction} {s last : ℕ} →
    OpenAs w t d s last → In t (openings h)
open-listed w h v {t} (upload {s = s} {k = k} {n = n} {last = last} u) =
    let o = ever-stands is_upload_opening _ h (upload-is-open w h v t s k n last u).1.place.opened in
    let a = o.3 in
    subst (λ (i : Bits128). In i (openings h)) u.transaction
    (listed o.2
    (record {
      action = a.action;
      is = a.is;
      kind =
          or_left (is_upload_opening a.action) (is_download_opening a.action) a.kind;
    }))
open-listed w h v {t} (download u) =
    let o = ever-stands is_download_opening _ h (download-open w h v u.row u.used).1.opened in
    let a = o.3 in
    subst (λ (i : Bits128). In i (openings h)) u.transaction
    (listed o.2
    (record {
      action = a.action;
      is = a.is;
      kind =
          or_right (is_upload_opening a.action) (is_download_opening a.action) a.kind;
    }))

-- ---- what the clock takes out

-- idle at a clock: it was open, and the clock drops it
idle-open : (clock : ℕ) (x : Status) → is_idle_at clock x ≡ true →
    (d : Direction) × (s : ℕ) × (last : ℕ) × (x ≡ Open d s last) × (drop_idle clock x ≡ Dropped)
idle-open clock NotOpened z = never z
idle-open clock (Open d s last) z = (d, s, last, refl, ap (λ (b : Bool). cond b Dropped (Open d s last)) z)
idle-open clock Booked z = never z
idle-open clock Fetched z = never z
idle-open clock Skipped z = never z
idle-open clock EndedByReceipt z = never z
idle-open clock Cancelled z = never z
idle-open clock Dropped z = never z

abbrev is_open_status : Status → Bool
is_open_status NotOpened = false
is_open_status (Open d s last) = true
is_open_status Booked = false
is_open_status Fetched = false
is_open_status Skipped = false
is_open_status EndedByReceipt = false
is_open_status Cancelled = false
is_open_status Dropped = false

module _ {calls : List BankCall} {e : Exchange} (n : Next calls e) (t : Bits128) where
  abbrev w : BankState
  w = (past_of calls).bank_state

  abbrev h : List Exchange
  h = (past_of calls).history

  -- open after the clock's step is open by the history and not idle
  still_open_lem : {d : Direction} {s last : ℕ} → OpenAs (advanced n.input.time w) t d s last →
      drop_idle e.clock (status t h) ≡ Open d s last
  still_open_lem o =
      ap (λ (c : ℕ). drop_idle c (status t h)) (clock-is n)
      ∙ open_told
      (advanced-told n.input.time w (past-holds calls).invariant.state.sizes (λ (u : Bits128). status u h)
      (past-told calls)) o

  drops-gone : In t (drops e.clock h) → OpenIn w t × (OpenIn (advanced n.input.time w) t → ⊥)
  unfolding drops
  drops-gone i =
      let k = keep-in (λ (u : Bits128). is_idle_at e.clock (status u h)) (openings h) i in
      let o = idle-open e.clock (status t h) k.1 in (
        (o.0, o.1, o.2, open-shown (past-told calls) o.3),
        (λ y. never (sym (ap is_open_status o.4) ∙ ap is_open_status (still_open_lem y.3))),
      )

  others-stay : (d : Direction) (s last : ℕ) → OpenAs w t d s last → (In t (drops e.clock h) → ⊥) →
      OpenAs (advanced n.input.time w) t d s last
  unfolding drops
  others-stay d s last o not_in = at (is_idle e.clock last) refl
    where
      now : status t h ≡ Open d s last
      now = open_told (past-told calls) o

      at : (b : Bool) → is_idle e.clock last ≡ b → OpenAs (advanced n.input.time w) t d s last
      at true z =
          absurd (not_in (in-keep (λ (u : Bits128). is_idle_at e.clock (status u h)) (openings h)
          (open-listed w h (past-holds calls).invariant o) (ap (is_idle_at e.clock) now ∙ z)))
      at false z =
          open-advanced n.input.time w (past-holds calls).invariant.state.sizes
          (ap (λ (c : ℕ). is_idle c last) (sym (clock-is n ∙ advanced-clock n.input.time w)) ∙ z) o

-- ---- an accepted opening stands in one way

abbrev is_not_opened : Status → Bool
is_not_opened NotOpened = true
is_not_opened (Open d s last) = false
is_not_opened Booked = false
is_not_opened Fetched = false
is_not_opened Skipped = false
is_not_opened EndedByReceipt = false
is_not_opened Cancelled = false
is_not_opened Dropped = false

if-opened : (f : Direction → ℕ → ℕ → Status) (x : Status) →
    ((d : Direction) (s last : ℕ) → is_not_opened (f d s last) ≡ false) →
    is_not_opened x ≡ false → is_not_opened (if_open f x) ≡ false
if-opened f NotOpened k z = z
if-opened f (Open d s last) k z = k d s last
if-opened f Booked k z = refl
if-opened f Fetched k z = refl
if-opened f Skipped k z = refl
if-opened f EndedByReceipt k z = refl
if-opened f Cancelled k z = refl
if-opened f Dropped k z = refl

one_of : (b : Bool) (x : Status) (d : Direction) (s last : ℕ) → is_not_opened x ≡ false →
    is_not_opened (cond b x (Open d s last)) ≡ false
one_of true x d s last z = z
one_of false x d s last z = refl

module _ (e : Exchange) (x : Status) (z : is_not_opened x ≡ false) where
  action-opened : (k : Action) → is_not_opened (action_status k e x) ≡ false
  action-opened (action.Upload (up.Opened n)) = refl
  action-opened (action.Upload up.Took) = if-opened _ x (λ d s last. refl) z
  action-opened (action.Upload up.TookLast) = refl
  action-opened (action.Upload (up.Point k)) = z
  action-opened (action.Upload (up.Cancelled c)) = refl
  action-opened (action.Download (down.Opened n)) = refl
  action-opened (action.Download (down.Delivered n)) = if-opened _ x (λ d s last. refl) z
  action-opened (action.Download (down.SentAgain n)) = z
  action-opened (action.Download (down.Point d)) = z
  action-opened (action.Download down.Cancelled) = refl
  action-opened (action.Download down.Confirmed) = refl
  action-opened (action.Download down.Declined) = refl

  other-opened : (k : Action) → is_not_opened (other_status k e x) ≡ false
  other-opened (action.Upload a) = z
  other-opened (action.Download (down.Opened n)) = z
  other-opened (action.Download (down.Delivered n)) = z
  other-opened (action.Download (down.SentAgain n)) = z
  other-opened (action.Download (down.Point d)) = z
  other-opened (action.Download down.Cancelled) = z
  other-opened (action.Download down.Confirmed) =
      if-opened _ x (λ d s last. one_of (is_download_of d s (subscriber e.request)) EndedByReceipt d s last refl) z
  other-opened (action.Download down.Declined) = z

  after-opened : (t : Bits128) (v : Verdict) → is_not_opened (status_after t v e x) ≡ false
  after-opened t verdict.Unreadable = z
  after-opened t (verdict.Refused c) = z
  after-opened t (verdict.Signed n added) = z
  after-opened t (verdict.Of u k) =
      by-test (λ (y : Status). is_not_opened y ≡ false) (same_bits t u) (λ _. action-opened k) (λ _. other-opened k)

-- an opening's own
opening-status : (k : Action) (e : Exchange) (x : Status) → is_opening k ≡ true →
    is_not_opened (action_status k e x) ≡ false
opening-status (action.Upload (up.Opened n)) e x z = refl
opening-status (action.Upload up.Took) e x z = never z
opening-status (action.Upload up.TookLast) e x z = never z
opening-status (action.Upload (up.Point k)) e x z = never z
opening-status (action.Upload (up.Cancelled c)) e x z = never z
opening-status (action.Download (down.Opened n)) e x z = refl
opening-status (action.Download (down.Delivered n)) e x z = never z
opening-status (action.Download (down.SentAgain n)) e x z = never z
opening-status (action.Download (down.Point d)) e x z = never z
opening-status (action.Download down.Cancelled) e x z = never z
opening-status (action.Download down.Confirmed) e x z = never z
opening-status (action.Download down.Declined) e x z = never z

new-opened : (t : Bits128) (v : Verdict) (e : Exchange) (x : Status) → In t (opened_in v) →
    is_not_opened (status_after t v e x) ≡ false
new-opened t verdict.Unreadable e x i = absurd (in-none i)
new-opened t (verdict.Refused c) e x i = absurd (in-none i)
new-opened t (verdict.Signed n added) e x i = absurd (in-none i)
new-opened t (verdict.Of u k) e x i = at (is_opening k) refl i
  where
    at : (b : Bool) → is_opening k ≡ b → In t (cond b (u ∷ []) []) →
        is_not_opened (cond (same_bits t u) (action_status k e x) (other_status k e x)) ≡ false
    at true o (here y) = rw y (rw (same_bits_lem u) (opening-status k e x o))
    at true o (there y) = absurd (in-none y)
    at false o y = absurd (in-none y)

status-opened : (t : Bits128) (g : List Exchange) → In t (openings g) → is_not_opened (status t g) ≡ false
unfolding openings status
status-opened t [] i = absurd (in-none i)
status-opened t (e ∷ g) i = at (in_either (openings g) (opened_in e.verdict) i) (status-opened t g)
  where
    at : In t (openings g) ⊎ In t (opened_in e.verdict) → (In t (openings g) → is_not_opened (status t g) ≡ false) →
        is_not_opened (status_after t e.verdict e (drop_idle e.clock (status t g))) ≡ false
    at (inl k) old =
        after-opened e (drop_idle e.clock (status t g))
        (if-opened _ (status t g) (λ d s last. one_of (is_idle e.clock last) Dropped d s last refl) (old k)) t
        e.verdict
    at (inr k) old = new-opened t e.verdict e _ k

-- ---- the statements

pub call-drops : Drops
unfolding drops
call-drops = record {
  told = λ calls t d s last. open_told (past-told calls);
  shown = λ calls t d s last. open-shown (past-told calls);
  gone = λ n t i. drops-gone n t (event-drops t _ _ i);
  stays = λ n t d s last o i. others-stay n t d s last o (λ k. i (drops-event t _ _ k));
  ordered = λ calls clock. rising-keep _ 0 (omega arith) (opened-numbered (history-sound calls)).0;
  numbered = λ calls. (opened-numbered (history-sound calls)).0;
  counted = λ calls. (opened-numbered (history-sound calls)).1;
  opened = λ calls t i z. never (sym (status-opened t (past_of calls).history i) ∙ ap is_not_opened z);
}
