-- What the journal's events say of orders: each has the ID of an upload and the name that it was opened under; a booking is
-- one; what is cancelled or dropped is never booked; what is signed is booked.
use Prim.{tt}
use Prim.Native.Nat.{ℕ, zero, suc, ◌-◌, ◌<◌}
use mathlib.Core.Bool.{Bool, true, false, cond}
use mathlib.Core.List.Memᴰ.{eq_of_singleton as in_one}
use mathlib.Core.List.Memᴰ.{head as here}
use mathlib.Core.List.Memᴰ.{not-nil as in-none}
use mathlib.Core.List.Memᴰ.{of_map}
use mathlib.Core.List.Memᴰ.{tail as there}
use mathlib.Core.List.{
  List,
  [],
  ◌∷◌,
  ◌++◌,
  map,
  Memᴰ as In,
}
use mathlib.Core.Logic.{◌⊎◌, inl, inr}
use mathlib.Core.Path.{◌≡◌, refl, sym, ap, ◌∙◌, subst}
use native.Mathlib.Omega.{arith}
use lib.ListN.{length, drop, replicate}
use Rattle.frame_table.specs.declared.fields.Bits128.{Bits128}
use Rattle.frame_table.specs.declared.fields.Fields.{Fields}
use Rattle.frame_table.specs.Names.{subscriber, transaction, owner, form}
use Rattle.octets.proofs.Tests.{never}
use Rattle.message.specs.Limits.{ful}
use Rattle.bank_state.specs.declared.state.Place.{Place}
use Rattle.bank_state.specs.declared.state.Use.TheVariants as uses
use Rattle.bank_state.specs.State.{BankState, place_at}
use Rattle.bank_state.proofs.Found.{upload-found}
use Rattle.message.specs.declared.directions.Direction.{Direction}
use Rattle.message.specs.declared.directions.Direction.TheVariants as direction
use Rattle.bank_verdicts.specs.declared.verdict.UploadAction.{UploadAction}
use Rattle.bank_verdicts.specs.declared.verdict.UploadAction.TheVariants as up
use Rattle.bank_verdicts.specs.declared.verdict.Action.TheVariants as action
use Rattle.bank_verdicts.specs.declared.verdict.SignedOrder.{SignedOrder}
use Rattle.bank_verdicts.specs.declared.verdict.Verdict.{Verdict}
use Rattle.bank_verdicts.specs.declared.verdict.Verdict.TheVariants as verdict
use Rattle.bank_verdicts.specs.Judgement.{upload_at}
use Rattle.journal.specs.declared.event.Kind.{Kind}
use Rattle.journal.specs.declared.event.Kind.TheVariants as kind
use Rattle.journal.specs.declared.event.Entry.{Entry}
use Rattle.journal.specs.declared.event.Event.{Event}
use Rattle.journal.specs.Events.{record_count, no_event, events_from}
use Rattle.journal.specs.Row.{newest, row_of, transaction_of}
use Rattle.journal.specs.Records.{name_of, Recorded}
use Rattle.journal.specs.Records as records
use Rattle.bank_events.specs.Entries.{entry, order_in, action_entries}
use Rattle.bank_events.proofs.Typed.{call-typed}
use Rattle.bank.specs.Journal.{entered_by}
use Rattle.bank_history.specs.History.{Exchange, BankCall, is_opening, is_upload_opening, is_booking, ever, accepted, opens, start, past_of}
use Rattle.bank_history.specs.History as stands
use Rattle.bank_history.specs.FalseEconomies.{Next}
use Rattle.bank_history.specs.Invariant.{Invariant}
use Rattle.bank_history.specs.Sound.{SoundRequest, SoundVerdict, AllSound}
use Rattle.bank_history.specs.Sound as sounds
use Rattle.bank_history.specs.Status.{
  Status,
  Open,
  Booked,
  Cancelled,
  Dropped,
  drop_idle,
  upload_status,
  status_after,
  status,
}
use Rattle.bank_history.specs.Opened.{of_reply}
use Rattle.bank_history.specs.ByReplies.{owner_of, order_of}
use Rattle.bank_history.specs.Journal.{journal_of, entry_of, upload_drops, reply_entries, entries_of, events_in}
use Rattle.bank_history.specs.JournalOrders.{OpensOrder, NeverBooked}
use Rattle.bank_history.proofs.ByReplies.{opening-below}
use Rattle.bank_history.proofs.Book.{opens-named}
use Rattle.bank_steps.proofs.Cases.{Happens, unreadable, refused, opens_upload, opens_download, signs, to_upload, to_download}
use Rattle.bank_history.proofs.GoesOn.{upload-goes-on}
use Rattle.bank_history.proofs.Closed.{
  is_closed,
  closed-next,
  by-exchange,
  closed-drops,
  Closed,
  closed-calls,
  booked-status,
  status-booked,
}
use Rattle.bank_history.proofs.DropOrder.{OpensAs, order-older, opened-order, drop-told}
use Rattle.bank_history.proofs.Drops.{call-drops, in_either}
use Rattle.bank_history.proofs.Entries.{same_bits_lem}
use Rattle.bank_history.proofs.Journal.{journal-told, request-told, enters, p-told, number_is, owned}
use Rattle.bank_history.proofs.Keeps.{past-holds}
use Rattle.bank_history.proofs.NextCall.{judged_bank, asked, all_sound, request-is, judged-holds, case-is}
use Rattle.bank_history.proofs.Positions.{action-sound}
use Rattle.bank_history.proofs.SignedOrders.{signed-upload}
use Rattle.bank_history.proofs.Statuses.{past-told}
use Rattle.bank_history.proofs.Theorems.{history-sound}

-- ---- lists

-- the transaction ID of an entry's upload
abbrev id_of : Entry → Bits128
id_of y = record { high = y.high; low = y.low }

from_in : (n clock : ℕ) (es : List Entry) {v : Event} → In v (events_from n clock es) →
    (y : Entry) × In y es × (v.subscriber ≡ y.subscriber) × (v.order ≡ y.order) × (v.kind ≡ y.kind)
    × (v.order_type ≡ y.order_type) × (transaction_of v ≡ id_of y)
unfolding events_from
from_in n clock [] i = absurd (in-none i)
from_in n clock (e ∷ es) (here z) = (
  e,
  here refl,
  ap (λ (v : Event). v.subscriber) z,
  ap (λ (v : Event). v.order) z,
  ap (λ (v : Event). v.kind) z,
  ap (λ (v : Event). v.order_type) z,
  ap transaction_of z,
)
from_in n clock (e ∷ es) (there i) =
    let r = from_in (suc n) clock es i in (r.0, there r.1, r.2, r.3, r.4, r.5, r.6)

in-drop : {A : Type 0} (k : ℕ) (l : List A) {x : A} → In x (drop k l) → In x l
in-drop zero l i = i
in-drop (suc k) [] i = i
in-drop (suc k) (y ∷ l) i = there (in-drop k l i)

in-replicate : (k : ℕ) {v : Event} → In v (replicate k no_event) → v ≡ no_event
in-replicate zero i = absurd (in-none i)
in-replicate (suc k) (here z) = z
in-replicate (suc k) (there i) = in-replicate k i

-- a record in use of the row is one of the events
row-events : (l : List Event) {v : Event} → In v (row_of l) → (v.kind ≡ kind.Unused → ⊥) → In v l
unfolding row_of newest
row-events l {v} i used = at (in_either (drop (length l - record_count) l) (replicate (record_count - length l) no_event) i)
  where
    at : In v (drop (length l - record_count) l) ⊎ In v (replicate (record_count - length l) no_event) → In v l
    at (inl k) = in-drop (length l - record_count) l k
    at (inr k) = absurd (used (ap (λ (x : Event). x.kind) (in-replicate (record_count - length l) k)))

-- ---- what an event says of its upload

-- of a kind: how the upload t stands
abbrev Says : Kind → Bits128 → List Exchange → Type 0
Says kind.Unused t h = ⊥
Says kind.Opened t h = Unit
Says kind.Booked t h = status t h ≡ Booked
Says kind.Cancelled t h = status t h ≡ Cancelled
Says kind.Dropped t h = status t h ≡ Dropped
Says kind.Signed t h = status t h ≡ Booked

record Of (s o : ℕ) (t : Bits128) (k : Kind) (h : List Exchange) : Type 0 where
  opening : OpensAs s o t h
  says : Says k t h

-- of an event, and of an entry
abbrev OfEvent : Event → List Exchange → Type 0
OfEvent v h = Of v.subscriber v.order (transaction_of v) v.kind h

abbrev OfEntry : Entry → List Exchange → Type 0
OfEntry y h = Of y.subscriber y.order (id_of y) y.kind h

of-same : {s s' o o' : ℕ} {t t' : Bits128} {k k' : Kind} {h : List Exchange} → s' ≡ s → o' ≡ o → t' ≡ t → k' ≡ k →
    Of s o t k h → Of s' o' t' k' h
of-same {s} {s'} {o} {o'} {t} {t'} {k} {k'} {h} a b d c x =
    subst (λ (m : ℕ). Of m o' t' k' h) (sym a) (subst (λ (m : ℕ). Of s m t' k' h) (sym b)
    (subst (λ (u : Bits128). Of s o u k' h) (sym d) (subst (λ (m : Kind). Of s o t m h) (sym c) x)))

-- an entry of an upload
of-entry-of : {y : Entry} {s o : ℕ} {t : Bits128} {k : Kind} {h : List Exchange} → y ≡ entry k s o t → Of s o t k h → OfEntry y h
of-entry-of {h = h} z x = subst (λ (y : Entry). OfEntry y h) (sym z) x

-- its transaction has the running number of an accepted opening
pub order-low : {s n : ℕ} {t : Bits128} {h : List Exchange} → AllSound h → OpensAs s n t h → t.low < accepted h
order-low {t = t} r o =
    let x = action-sound r o.stands o.is in
    let a = opening-below o.stands (ap opens o.is) in
    let l = x.opening.numbered in
    omega arith

-- ---- one exchange more

module _ {calls : List BankCall} {e : Exchange} (n : Next calls e) where
  abbrev h : List Exchange
  h = (past_of calls).history

  abbrev v : Invariant (past_of calls).bank_state h
  v = (past-holds calls).invariant

  abbrev q : Fields
  q = asked n

  abbrev w : BankState
  w = judged_bank n

  closed-says : (x : Status) → is_closed x ≡ true → (t : Bits128) → t.low < accepted h → status t h ≡ x →
      status t (e ∷ h) ≡ x
  closed-says x z t known now =
      let y : drop_idle e.clock (status t h) ≡ x = ap (drop_idle e.clock) now ∙ closed-drops e.clock x z in
      closed-next n t known (ap is_closed y ∙ z) ∙ y

  says-older : (k : Kind) (t : Bits128) → t.low < accepted h → Says k t h → Says k t (e ∷ h)
  says-older kind.Unused t known z = z
  says-older kind.Opened t known z = tt
  says-older kind.Booked t known z = closed-says Booked refl t known z
  says-older kind.Cancelled t known z = closed-says Cancelled refl t known z
  says-older kind.Dropped t known z = closed-says Dropped refl t known z
  says-older kind.Signed t known z = closed-says Booked refl t known z

  of-older : {s o : ℕ} {t : Bits128} {k : Kind} → Of s o t k h → Of s o t k (e ∷ h)
  of-older {t = t} {k = k} x = record {
    opening = order-older e x.opening;
    says = says-older k t (order-low v.sound x.opening) x.says;
  }

  -- an upload of the history, by the opening that it has there
  of-upload : (k : Kind) (t : Bits128) → ever is_upload_opening t h ≡ true → Says k t (e ∷ h) →
      Of (owner_of t h) (order_of t h) t k (e ∷ h)
  of-upload k t z y = record { opening = order-older e (opened-order t v.sound z); says = y }

  of-drop : (t : Bits128) → In t (upload_drops e.clock h) → Of (owner_of t h) (order_of t h) t kind.Dropped (e ∷ h)
  of-drop t i =
      let d = drop-told (past_of calls).bank_state h v (past-told calls) e.clock t i in
      let o = opened-order t v.sound d.0 in
      let y : drop_idle e.clock (status t h) ≡ Dropped =
      ap (drop_idle e.clock) d.3 ∙ ap (λ (b : Bool). cond b Dropped (Open direction.Upload d.1 d.2)) d.4 in
      of-upload kind.Dropped t d.0
      (closed-next n t (order-low v.sound o) (ap is_closed y) ∙ y)

  -- the status that its own action leaves
  pub own-status : (t : Bits128) (a : UploadAction) → e.verdict ≡ verdict.Of t (action.Upload a) → (x : Status) →
      ((y : Status) → upload_status a e y ≡ x) → status t (e ∷ h) ≡ x
  unfolding status
  own-status t a own x z =
      ap (λ (u : Verdict). status_after t u e (drop_idle e.clock (status t h))) own
      ∙ (rw (same_bits_lem t) (z (drop_idle e.clock (status t h))))

  -- an accepted signing: its order is booked, and an event is one of that order
  of-signing : {m : SignedOrder} {added : Bool} {y : Entry} → e.verdict ≡ verdict.Signed m added →
      In y (action_entries (verdict.Signed m added) m.number q) → OfEntry y (e ∷ h)
  unfolding action_entries
  of-signing {m} {added} {y} own = at added (all_sound n) own
    where
      at : (b : Bool) → AllSound (e ∷ h) → e.verdict ≡ verdict.Signed m b →
          In y (action_entries (verdict.Signed m b) m.number q) → OfEntry y (e ∷ h)
      at false r z i = absurd (in-none i)
      at true (sounds.more x r) z i =
          let s = subst (λ (u : Verdict). SoundVerdict u e h) z x.verdict in
          let o = signed-upload r s in
          let t = m.transaction in
          of-entry-of (in_one i ∙ ap (λ (f : Fields). entry kind.Signed (owner f) m.number t) (sym (request-is n)))
          (record {
            opening = order-older e o;
            says = closed-says Booked refl t (order-low r o) (booked-status t calls s.booked);
          })

  of-request : {u : Verdict} {first : ℕ} {d : List ℕ} {y : Entry} → e.verdict ≡ u → Happens first w q d u →
      In y (action_entries u (order_in u w.bank q) q) → OfEntry y (e ∷ h)
  unfolding action_entries
  of-request own unreadable i = absurd (in-none i)
  of-request own (refused c z) i = absurd (in-none i)
  of-request own (opens_upload f a g m inside numbered) i =
      of-entry-of (in_one i)
      (record {
        opening = record {
          exchange = e;
          before = h;
          stands = stands.newest;
          is = own;
          owner = ap subscriber (request-is n);
        };
        says = tt;
      })
  of-request own (opens_download f a g m) i = absurd (in-none i)
  of-request {y = y} own (to_upload r a s) i = at a (upload-goes-on s.sound) own i
    where
      p : Place
      p = place_at w.bank (upload_at w.bank q)

      used : p.used ≡ uses.Open
      used = (upload-found (subscriber q) (transaction q) p s.found).0

      told : AllSound (e ∷ h) → (k : Kind) → SoundRequest p.transaction e h → Says k p.transaction (e ∷ h) →
          y ≡ entry k (subscriber q) p.number p.transaction → OfEntry y (e ∷ h)
      told (sounds.more x r') k o z same =
          of-entry-of same
          (of-same (sym (owned x r' w (judged-holds n) q (request-is n) (upload_at w.bank q) s.inside used o))
          (sym (number_is x r' w (judged-holds n) q (request-is n) (upload_at w.bank q) s.inside used)) refl refl
          (of-upload k p.transaction
          (p-told x r' w (judged-holds n) q (request-is n) (upload_at w.bank q) s.inside used).place.opened z))

      at : (b : UploadAction) → is_opening (action.Upload b) ≡ false →
          e.verdict ≡ verdict.Of p.transaction (action.Upload b) →
          In y (action_entries (verdict.Of p.transaction (action.Upload b))
          (order_in (verdict.Of p.transaction (action.Upload b)) w.bank q) q) →
          OfEntry y (e ∷ h)
      at (up.Opened m) o z j = never (sym o)
      at up.Took o z j = absurd (in-none j)
      at up.TookLast o z j =
          told (all_sound n) kind.Booked (action-sound (all_sound n) stands.newest z).taking.upload.request
          (own-status p.transaction up.TookLast z Booked (λ _. refl)) (in_one j)
      at (up.Point k) o z j = absurd (in-none j)
      at (up.Cancelled c) o z j =
          told (all_sound n) kind.Cancelled (action-sound (all_sound n) stands.newest z).request
          (own-status p.transaction (up.Cancelled c) z Cancelled (λ _. refl)) (in_one j)
  of-request own (to_download r a s) i = absurd (in-none i)
  of-request own (signs s) i = of-signing own i

  of_entry : (y : Entry) → In y (entries_of e h) → OfEntry y (e ∷ h)
  unfolding entries_of
  of_entry y i = at (in_either _ (of_reply [] (reply_entries e h) (form e.reply)) i)
    where
      at : In y (map (λ (t : Bits128). entry_of kind.Dropped t h) (upload_drops e.clock h))
          ⊎ In y (of_reply [] (reply_entries e h) (form e.reply)) → OfEntry y (e ∷ h)
      at (inl j) =
          let m = of_map (λ (t : Bits128). entry_of kind.Dropped t h) (upload_drops e.clock h) j in
          of-entry-of (sym m.2) (of-drop m.0 m.1)
      at (inr j) = of-request refl (case-is n) (subst (λ (l : List Entry). In y l) (sym (request-told n)) j)

  of-next : ((x : Event) → In x (events_in h) → OfEvent x h) → (x : Event) → In x (events_in (e ∷ h)) → OfEvent x (e ∷ h)
  unfolding events_in
  of-next old x i = at (in_either (events_in h) _ i)
    where
      at : In x (events_in h) ⊎ In x (events_from (length (events_in h)) e.clock (entries_of e h)) → OfEvent x (e ∷ h)
      at (inl j) = of-older (old x j)
      at (inr j) =
          let y = from_in (length (events_in h)) e.clock (entries_of e h) j in
          of-same y.2 y.3 y.6 y.4 (of_entry y.0 y.1)

-- ---- every list of calls

events-of : (calls : List BankCall) (x : Event) → In x (events_in (past_of calls).history) → OfEvent x (past_of calls).history
unfolding past_of start events_in
events-of [] = λ x i. absurd (in-none i)
events-of (c ∷ calls) =
    by-exchange (λ (g : List Exchange). (x : Event) → In x (events_in g) → OfEvent x g) calls c (events-of calls)
    (λ e n. of-next n (events-of calls))

-- ---- the journal's type

entries-typed : {calls : List BankCall} {e : Exchange} (n : Next calls e) {y : Entry} →
    In y (entries_of e (past_of calls).history) → y.order_type ≡ ful
unfolding entered_by
entries-typed {calls} {e} n {y} i =
    call-typed _ _ _ _ _ (subst (λ (l : List Entry). In y l) (sym (enters n)) i)

pub event-typed : (calls : List BankCall) (x : Event) → In x (events_in (past_of calls).history) → x.order_type ≡ ful
unfolding past_of start events_in
event-typed [] = λ x i. absurd (in-none i)
event-typed (c ∷ calls) =
    by-exchange (λ (g : List Exchange). (x : Event) → In x (events_in g) → x.order_type ≡ ful) calls c (event-typed calls)
    (λ e n x i. at e n x (in_either (events_in (past_of calls).history) _ i) (event-typed calls x))
  where
    at : (e : Exchange) (n : Next calls e) (x : Event) → let h = (past_of calls).history in
        In x (events_in h) ⊎ In x (events_from (length (events_in h)) e.clock (entries_of e h)) →
        (In x (events_in h) → x.order_type ≡ ful) → x.order_type ≡ ful
    at e n x (inl j) old = old j
    at e n x (inr j) old =
        let y = from_in (length (events_in (past_of calls).history)) e.clock (entries_of e (past_of calls).history) j in
        y.5 ∙ entries-typed n y.1

-- ---- one event

module _ (calls : List BankCall) (x : Event) where
  abbrev past : List Exchange
  past = (past_of calls).history

  pub in-row : In x (journal_of calls).row → (x.kind ≡ kind.Unused → ⊥) → In x (events_in past)
  in-row i used = row-events (events_in past) (subst (λ (l : List Event). In x l) (journal-told.row calls) i) used

  module _ (i : In x (events_in past)) where
    abbrev t : Bits128
    t = transaction_of x

    -- it has the name that its upload was opened under
    pub event-opened : OpensOrder (name_of x) t past
    event-opened =
        opens-named calls (history-sound calls) (λ e k s. s) t x.order (events-of calls x i).opening
        (sym (event-typed calls x i)) refl

    says-own : {k : Kind} → x.kind ≡ k → Says k t past
    says-own z = subst (λ (m : Kind). Says m t past) z (events-of calls x i).says

    pub event-booked : x.kind ≡ kind.Booked → ever is_booking t past ≡ true
    event-booked z = status-booked t past (says-own z)

    pub event-signed : x.kind ≡ kind.Signed → ever is_booking t past ≡ true
    event-signed z = status-booked t past (says-own z)

    ended_by : (y : Status) → is_closed y ≡ true → (Booked ≡ y → ⊥) → ((d : Direction) (s last : ℕ) → Open d s last ≡ y → ⊥) →
        status t past ≡ y → NeverBooked calls t
    ended_by y z unbooked shut now =
        let k : (more : List BankCall) → Closed t y (past_of (more ++ calls)).history =
        λ more. closed-calls t y z calls more (order-low (history-sound calls) (events-of calls x i).opening, now) in
        record {
          closed = λ more p. shut p.0 p.1 p.2
              (sym (call-drops.told (more ++ calls) t p.0 p.1 p.2 p.3) ∙ (k more).1);
          unbooked = λ more. never_true _ (λ b. unbooked (sym (booked-status t (more ++ calls) b) ∙ (k more).1));
        }
      where
        never_true : (b : Bool) → (b ≡ true → ⊥) → b ≡ false
        never_true true f = absurd (f refl)
        never_true false f = refl

    pub event-ended : (x.kind ≡ kind.Cancelled) ⊎ (x.kind ≡ kind.Dropped) → NeverBooked calls t
    event-ended (inl z) =
        ended_by Cancelled refl (λ y. let c : ◌≡◌ {A = ℕ} 0 1 = cc in omega arith)
        (λ d s last y. let c : ◌≡◌ {A = ℕ} 0 1 = cc in omega arith) (says-own z)
    event-ended (inr z) =
        ended_by Dropped refl (λ y. let c : ◌≡◌ {A = ℕ} 0 1 = cc in omega arith)
        (λ d s last y. let c : ◌≡◌ {A = ℕ} 0 1 = cc in omega arith) (says-own z)

-- a record of an upload
recorded-in : {k : Kind} {t : Bits128} {l : List Event} → Recorded k t l →
    (x : Event) × In x l × (transaction_of x ≡ t) × (x.kind ≡ k)
recorded-in (records.here {e = e} a b) = (e, here refl, a, b)
recorded-in (records.there r) = let y = recorded-in r in (y.0, there y.1, y.2, y.3)

pub recorded-event : (calls : List BankCall) {k : Kind} {t : Bits128} → Recorded k t (journal_of calls).row →
    (k ≡ kind.Unused → ⊥) →
    (x : Event) × In x (events_in (past_of calls).history) × (transaction_of x ≡ t) × (x.kind ≡ k)
recorded-event calls {k} r used =
    let y = recorded-in r in
    (y.0, in-row calls y.0 y.1 (λ z. used (sym y.3 ∙ z)), y.2, y.3)
