-- How many events the journal has: an upload has at most one that ends it, and at most two but those of its signers.
use Prim.Native.Nat.{ℕ, suc, ◌+◌, ◌*◌, ◌≤◌, ◌<◌}
use mathlib.Core.Bool.{Bool, true, false, cond, not, ◌&&◌}
use mathlib.Core.List.Memᴰ.{head as here}
use mathlib.Core.List.Memᴰ.{not-nil as in-none}
use mathlib.Core.List.Memᴰ.{tail as there}
use mathlib.Core.List.{
  List,
  [],
  ◌∷◌,
  ◌++◌,
  map,
  Memᴰ as In,
}
use mathlib.Core.Path.{◌≡◌, refl, sym, ap, ◌∙◌, subst}
use native.Mathlib.Omega.{arith}
use lib.Dec.{eqb}
use lib.ListN.{length, length-append}
use Rattle.frame_table.specs.declared.fields.Bits128.{Bits128}
use Rattle.frame_table.specs.declared.fields.Fields.{Fields}
use Rattle.frame_table.specs.declared.table.Form.{Form}
use Rattle.frame_table.specs.declared.table.Form.TheVariants.{NoForm, Request, Reply}
use Rattle.frame_table.specs.declared.table.ReplyForm.{ReplyForm}
use Rattle.frame_table.specs.declared.table.ReplyForm.TheVariants as replies
use Rattle.frame_table.specs.Names.{subscriber, transaction, segment, return_code, form, same_bits}
use Rattle.message.specs.declared.codes.ReturnCode.TheVariants as code
use Rattle.message.specs.Codes.{code_field}
use Rattle.message.specs.Limits.{subscribers}
use Rattle.octets.proofs.Tests.{never}
use Rattle.frame_table.proofs.Bits.{bits-same}
use Rattle.message.proofs.Verdicts.{by-test}
use Rattle.bank_state.specs.declared.state.Place.{Place}
use Rattle.bank_state.specs.declared.state.Use.TheVariants as uses
use Rattle.bank_state.specs.Clock.{is_idle}
use Rattle.bank_state.specs.State.{BankState, place_at}
use Rattle.bank_state.proofs.Found.{upload-found}
use Rattle.bank_verdicts.specs.Judgement.{upload_at, order_at}
use Rattle.signers.specs.Signers.{is_signer}
use Rattle.bank_state.specs.Limits.{place_count, max_openings}
use Rattle.bank_state.specs.Rows.{count_of}
use Rattle.bank_state.proofs.Rows.{count-le}
use Rattle.journal.specs.declared.event.Kind.{Kind}
use Rattle.journal.specs.declared.event.Kind.TheVariants as kind
use Rattle.journal.specs.declared.event.Entry.{Entry}
use Rattle.journal.specs.declared.event.Event.{Event}
use Rattle.journal.specs.Events.{events_from}
use Rattle.journal.specs.Row.{transaction_of, is_of}
use Rattle.journal.proofs.Events.{events-length}
use Rattle.bank_events.specs.Entries.{order_in, action_entries}
use Rattle.message.specs.declared.directions.Direction.{Direction}
use Rattle.message.specs.declared.directions.Direction.TheVariants as direction
use Rattle.bank_verdicts.specs.declared.verdict.UploadAction.{UploadAction}
use Rattle.bank_verdicts.specs.declared.verdict.UploadAction.TheVariants as up
use Rattle.bank_verdicts.specs.declared.verdict.DownloadAction.TheVariants as down
use Rattle.bank_verdicts.specs.declared.verdict.Action.{Action}
use Rattle.bank_verdicts.specs.declared.verdict.Action.TheVariants as action
use Rattle.bank_verdicts.specs.declared.verdict.SignedOrder.{SignedOrder}
use Rattle.bank_verdicts.specs.declared.verdict.Verdict.{Verdict}
use Rattle.bank_verdicts.specs.declared.verdict.Verdict.TheVariants as verdict
use Rattle.bank_history.specs.History.{Exchange, BankCall, newest, is_opening, did, accepted, start, past_of}
use Rattle.bank_history.specs.Opened.{of_reply, is_ok, is_upload_form, is_opened_form, is_opened}
use Rattle.bank_history.specs.ByReplies.{
  is_code,
  is_upload_id,
  opened_count,
  segment_count_of,
  standing,
  opened_ids,
  owner_of,
  order_of,
}
use Rattle.bank_history.specs.Signatures.{signed_name, is_signed, has_signed}
use Rattle.bank_history.specs.Signers.{is_signed_kind}
use Rattle.bank_history.specs.FalseEconomies.{Next}
use Rattle.bank_history.specs.Invariant.{Invariant}
use Rattle.bank_history.specs.Sound.{is_cancelling, AllSound}
use Rattle.bank_history.specs.Sound as sounds
use Rattle.bank_history.specs.Journal.{
  journal_of,
  is_idle_upload_at,
  upload_drops,
  entry_of,
  booked_as,
  signed_entries,
  opened_entries,
  reply_entries,
  entries_of,
  events_in,
}
use Rattle.bank_history.specs.JournalOrders.{is_end}
use Rattle.bank_history.specs.Status.{
  Status,
  NotOpened,
  Open,
  Booked,
  Fetched,
  Skipped,
  EndedByReceipt,
  Cancelled,
  Dropped,
  if_open,
  drop_idle,
  is_download_of,
  action_status,
  other_status,
  status_after,
  status,
  opened_in,
  openings,
  Numbered,
  none,
  one,
}
use Rattle.bank_history.proofs.ByReplies.{standing-is, opened-count, opened-ids}
use Rattle.bank_history.proofs.Counts.{
  unit,
  count-append,
  count_map,
  count-keep,
  count_less,
  count-two,
  count-two-less,
}
use Rattle.bank_history.proofs.GoesOn.{upload-goes-on}
use Rattle.bank_steps.proofs.Cases.{
  Happens,
  unreadable,
  refused,
  opens_upload,
  opens_download,
  signs,
  to_upload,
  to_download,
}
use Rattle.bank_admitted.proofs.Signers.{given-most}
use Rattle.bank_history.proofs.Closed.{is_closed, acted-open, closed-next, by-exchange}
use Rattle.bank_history.proofs.DropOrder.{OpensAs, opened-order, idle-status}
use Rattle.bank_history.proofs.Drops.{listed, opened-numbered}
use Rattle.bank_history.proofs.Entries.{other-bits}
use Rattle.bank_history.proofs.Journal.{journal-told, request-told, p-told}
use Rattle.bank_history.proofs.JournalUploads.{own-status}
use Rattle.bank_history.proofs.Keeps.{past-holds}
use Rattle.bank_history.proofs.NextCall.{judged_bank, asked, all_sound, request-is, judged-holds, case-is}
use Rattle.bank_history.proofs.Positions.{action-sound, opening-number}
use Rattle.bank_history.proofs.SentSegments.{action-in}
use Rattle.bank_history.proofs.GivenSigners.{entry_id, count-from, signed_in, signed_of, signed-few}

-- ---- how a transaction stands: an open upload

abbrev pub is_upload_direction : Direction → Bool
is_upload_direction direction.Upload = true
is_upload_direction direction.Download = false

abbrev is_open_upload : Status → Bool
is_open_upload NotOpened = false
is_open_upload (Open d s last) = is_upload_direction d
is_open_upload Booked = false
is_open_upload Fetched = false
is_open_upload Skipped = false
is_open_upload EndedByReceipt = false
is_open_upload Cancelled = false
is_open_upload Dropped = false

-- an open transaction goes on in its direction, or is not open any more
if-open : (f : Direction → ℕ → ℕ → Status) →
    ((d : Direction) (s last : ℕ) → is_open_upload (f d s last) ≡ true → is_upload_direction d ≡ true) → (x : Status) →
    is_open_upload (if_open f x) ≡ true → is_open_upload x ≡ true
if-open f n NotOpened z = z
if-open f n (Open d s last) z = n d s last z
if-open f n Booked z = z
if-open f n Fetched z = z
if-open f n Skipped z = z
if-open f n EndedByReceipt z = z
if-open f n Cancelled z = z
if-open f n Dropped z = z

or-open : (b : Bool) (x : Status) (d : Direction) (s last : ℕ) → is_open_upload x ≡ false →
    is_open_upload (cond b x (Open d s last)) ≡ true → is_upload_direction d ≡ true
or-open true x d s last n z = never (sym n ∙ z)
or-open false x d s last n z = z

drops-open : (c : ℕ) (x : Status) → is_open_upload (drop_idle c x) ≡ true → is_open_upload x ≡ true
drops-open c = if-open _ (λ d s last. or-open (is_idle c last) Dropped d s last refl)

action-open : (k : Action) (e : Exchange) (x : Status) → is_opening k ≡ false → is_open_upload (action_status k e x) ≡ true →
    is_open_upload x ≡ true
action-open (action.Upload (up.Opened n)) e x o z = never (sym o)
action-open (action.Upload up.Took) e x o z = if-open _ (λ d s last y. y) x z
action-open (action.Upload up.TookLast) e x o z = never z
action-open (action.Upload (up.Point k)) e x o z = z
action-open (action.Upload (up.Cancelled c)) e x o z = never z
action-open (action.Download (down.Opened n)) e x o z = never (sym o)
action-open (action.Download (down.Delivered n)) e x o z = if-open _ (λ d s last y. y) x z
action-open (action.Download (down.SentAgain n)) e x o z = z
action-open (action.Download (down.Point d)) e x o z = z
action-open (action.Download down.Cancelled) e x o z = never z
action-open (action.Download down.Confirmed) e x o z = never z
action-open (action.Download down.Declined) e x o z = never z

other-open : (k : Action) (e : Exchange) (x : Status) → is_open_upload (other_status k e x) ≡ true → is_open_upload x ≡ true
other-open (action.Upload a) e x z = z
other-open (action.Download (down.Opened n)) e x z = z
other-open (action.Download (down.Delivered n)) e x z = z
other-open (action.Download (down.SentAgain n)) e x z = z
other-open (action.Download (down.Point d)) e x z = z
other-open (action.Download down.Cancelled) e x z = z
other-open (action.Download down.Confirmed) e x z =
    if-open _ (λ d s last. or-open (is_download_of d s (subscriber e.request)) EndedByReceipt d s last refl) x z
other-open (action.Download down.Declined) e x z = z

after_open : (t : Bits128) (v : Verdict) (e : Exchange) (x : Status) → did is_opening t v ≡ false →
    is_open_upload (status_after t v e x) ≡ true → is_open_upload x ≡ true
after_open t verdict.Unreadable e x o z = z
after_open t (verdict.Refused c) e x o z = z
after_open t (verdict.Signed n added) e x o z = z
after_open t (verdict.Of u k) e x o z = at (same_bits t u) o z
  where
    at : (b : Bool) → b && is_opening k ≡ false → is_open_upload (cond b (action_status k e x) (other_status k e x)) ≡ true →
        is_open_upload x ≡ true
    at true n y = action-open k e x n y
    at false n y = other-open k e x y

-- open after the drops is open before, and not idle
kept-open : (c : ℕ) (x : Status) {s last : ℕ} → drop_idle c x ≡ Open direction.Upload s last →
    (is_open_upload x ≡ true) × (is_idle_upload_at c x ≡ false)
kept-open c NotOpened z = absurd (let y : ◌≡◌ {A = ℕ} 0 1 = cc in omega arith)
kept-open c (Open direction.Upload s last) {s = s'} {last = last'} z = (refl, at (is_idle c last) z)
  where
    at : (b : Bool) → cond b Dropped (Open direction.Upload s last) ≡ Open direction.Upload s' last' → b ≡ false
    at true y = absurd (let x : ◌≡◌ {A = ℕ} 0 1 = cc in omega arith)
    at false y = refl
kept-open c (Open direction.Download s last) {s = s'} {last = last'} z = absurd (at (is_idle c last) z)
  where
    at : (b : Bool) → cond b Dropped (Open direction.Download s last) ≡ Open direction.Upload s' last' → ⊥
    at true y = let x : ◌≡◌ {A = ℕ} 0 1 = cc in omega arith
    at false y = let x : ◌≡◌ {A = ℕ} 0 1 = cc in omega arith
kept-open c Booked z = absurd (let y : ◌≡◌ {A = ℕ} 0 1 = cc in omega arith)
kept-open c Fetched z = absurd (let y : ◌≡◌ {A = ℕ} 0 1 = cc in omega arith)
kept-open c Skipped z = absurd (let y : ◌≡◌ {A = ℕ} 0 1 = cc in omega arith)
kept-open c EndedByReceipt z = absurd (let y : ◌≡◌ {A = ℕ} 0 1 = cc in omega arith)
kept-open c Cancelled z = absurd (let y : ◌≡◌ {A = ℕ} 0 1 = cc in omega arith)
kept-open c Dropped z = absurd (let y : ◌≡◌ {A = ℕ} 0 1 = cc in omega arith)

-- ---- the openings

-- what was opened has the running number of an accepted opening
pub numbered-low : {m : ℕ} {l : List Bits128} {t : Bits128} → Numbered m l → In t l → t.low < m + length l
numbered-low none i = absurd (in-none i)
numbered-low {m} {t = t} (one {t = u} e r) (here z) = let y = ap (λ (i : Bits128). i.low) z in omega arith
numbered-low (one e r) (there i) = let a = numbered-low r i in omega arith

opened-low : {h : List Exchange} {t : Bits128} → AllSound h → In t (openings h) → t.low < accepted h
opened-low r i = let a = opened-numbered r in let b = numbered-low a.0 i in let c = a.1 in omega arith

-- no ID stands twice
none_above : (t : Bits128) {m : ℕ} {l : List Bits128} → t.low < m → Numbered m l →
    count_of (λ (u : Bits128). same_bits u t) l ≡ 0
unfolding count_of
none_above t a none = refl
none_above t {m} a (one {t = u} e r) =
    rw (other-bits u t (λ z. omega arith)) (let c = none_above t (omega arith) r in omega arith)

pub one-listed : (t : Bits128) {m : ℕ} {l : List Bits128} → Numbered m l → count_of (λ (u : Bits128). same_bits u t) l ≤ 1
unfolding count_of
one-listed t none = omega arith
one-listed t {m} (one {t = u} {l = l} e r) = at (same_bits u t) refl (one-listed t r)
  where
    at : (b : Bool) → same_bits u t ≡ b → count_of (λ (i : Bits128). same_bits i t) l ≤ 1 →
        unit b + count_of (λ (i : Bits128). same_bits i t) l ≤ 1
    at true z later =
        let y = ap (λ (i : Bits128). i.low) (bits-same u t z) in
        let c = none_above t (omega arith) r in
        omega arith
    at false z later = omega arith

-- ---- one exchange more

-- a test of the transaction ID
module _ (which : Bits128 → Bool) where
  -- an event that ends such an upload
  abbrev ends : Kind → ℕ → ℕ → ℕ → Bits128 → Bool
  ends k s t o u = is_end k && which u

  abbrev entry_ends : Entry → Bool
  entry_ends y = is_end y.kind && which (entry_id y)

  abbrev event_ends : Event → Bool
  event_ends x = is_end x.kind && which (transaction_of x)

  abbrev ends_in : List Entry → ℕ
  ends_in es = count_of entry_ends es

  abbrev ends_of : List Exchange → ℕ
  ends_of h = count_of event_ends (events_in h)

  -- those of them that are open
  abbrev open_after : List Exchange → Bits128 → Bool
  open_after h t = is_open_upload (status t h) && which t

  abbrev Ended : List Exchange → Type 0
  Ended h = ends_of h + count_of (open_after h) (openings h) ≤ count_of which (openings h)

  module _ {calls : List BankCall} {e : Exchange} (n : Next calls e) where
    abbrev h : List Exchange
    h = (past_of calls).history

    abbrev v : Invariant (past_of calls).bank_state h
    v = (past-holds calls).invariant

    abbrev idle : Bits128 → Bool
    idle t = is_idle_upload_at e.clock (standing t h) && which t

    -- its own opening is new
    no-opening : (t : Bits128) → t.low < accepted h → did is_opening t e.verdict ≡ false
    no-opening t l = at (did is_opening t e.verdict) refl
      where
        at : (b : Bool) → did is_opening t e.verdict ≡ b → b ≡ false
        at true z =
            let a = action-in is_opening t e e.verdict refl z in
            let m = opening-number t e h a.action a.kind (action-sound (all_sound n) newest a.is) in
            absurd (omega arith)
        at false z = refl

    open-before : (t : Bits128) → t.low < accepted h → is_open_upload (status t (e ∷ h)) ≡ true → is_open_upload (status t h) ≡ true
    unfolding status
    open-before t l z =
        drops-open e.clock (status t h)
        (after_open t e.verdict e (drop_idle e.clock (status t h)) (no-opening t l) z)

    -- what is idle is dropped; what is open was open
    each : (t : Bits128) → In t (openings h) → unit (idle t) + unit (open_after (e ∷ h) t) ≤ unit (open_after h t)
    each t i = at (is_idle_upload_at e.clock (standing t h)) refl
      where
        l : t.low < accepted h
        l = opened-low v.sound i

        by : (a b w : Bool) → (a ≡ true → b ≡ true) → 0 + unit (a && w) ≤ unit (b && w)
        by true true w f = omega arith
        by true false w f = never (f refl)
        by false b w f = omega arith

        at : (b : Bool) → is_idle_upload_at e.clock (standing t h) ≡ b →
            unit (b && which t) + unit (open_after (e ∷ h) t) ≤ unit (open_after h t)
        at true z =
            let o = idle-status e.clock (standing t h) z in
            let now : status t h ≡ Open direction.Upload o.0 o.1 = sym (standing-is t v.sound) ∙ o.2 in
            let y : drop_idle e.clock (status t h) ≡ Dropped =
            ap (drop_idle e.clock) now ∙ ap (λ (b : Bool). cond b Dropped (Open direction.Upload o.0 o.1)) o.3 in
            let gone : status t (e ∷ h) ≡ Dropped = closed-next n t l (ap is_closed y) ∙ y in
            rw (now, gone) (omega arith)
        at false z = by (is_open_upload (status t (e ∷ h))) (is_open_upload (status t h)) (which t) (open-before t l)

    -- the drops are the idle uploads
    drop-ends : ends_in (map (λ (t : Bits128). entry_of kind.Dropped t h) (upload_drops e.clock h)) ≡ count_of idle (openings h)
    unfolding upload_drops
    drop-ends =
        count_map entry_ends (λ (t : Bits128). entry_of kind.Dropped t h) (upload_drops e.clock h)
        ∙ (count-keep which (λ (t : Bits128). is_idle_upload_at e.clock (standing t h)) (opened_ids h)
        ∙ ap (count_of idle) (opened-ids v.sound))

    -- a request that ends an upload
    abbrev Fewer : ℕ → Type 0
    Fewer m = count_of idle (openings h) + count_of (open_after (e ∷ h)) (openings h) + m ≤ count_of (open_after h) (openings h)

    none-fewer : Fewer 0
    none-fewer = let a = count-two idle (open_after (e ∷ h)) (open_after h) (openings h) each in omega arith

    one_fewer : (t : Bits128) (a : UploadAction) → e.verdict ≡ verdict.Of t (action.Upload a) →
        is_opening (action.Upload a) ≡ false → OpensAs (owner_of t h) (order_of t h) t h →
        is_open_upload (status t (e ∷ h)) ≡ false → Fewer (unit (which t))
    one_fewer t a own o s z = at (which t) refl
      where
        at : (b : Bool) → which t ≡ b → Fewer (unit b)
        at false y = none-fewer
        at true y =
            let d = acted-open n t (action.Upload a) own o in
            let k = kept-open e.clock (status t h) d.2 in
            let i : is_idle_upload_at e.clock (standing t h) ≡ false =
            ap (is_idle_upload_at e.clock) (standing-is t v.sound) ∙ k.1 in
            count-two-less idle (open_after (e ∷ h)) (open_after h) (openings h) each
            (listed s.stands (record { action = action.Upload (up.Opened (order_of t h)); is = s.is; kind = refl }))
            (rw (i, z, k.0, y) (omega arith))

    request-fewer : {u : Verdict} {first : ℕ} {d : List ℕ} → e.verdict ≡ u → Happens first (judged_bank n) (asked n) d u →
        Fewer (ends_in (action_entries u (order_in u (judged_bank n).bank (asked n)) (asked n)))
    unfolding action_entries count_of
    request-fewer own unreadable = none-fewer
    request-fewer own (refused c z) = none-fewer
    request-fewer own (opens_upload f a g m inside numbered) = none-fewer
    request-fewer own (opens_download f a g m) = none-fewer
    request-fewer own (to_upload r a s) = at a (upload-goes-on s.sound) own
      where
        b : BankState
        b = judged_bank n

        q : Fields
        q = asked n

        p : Place
        p = place_at b.bank (upload_at b.bank q)

        used : p.used ≡ uses.Open
        used = (upload-found (subscriber q) (transaction q) p s.found).0

        told : AllSound (e ∷ h) → (k : UploadAction) → e.verdict ≡ verdict.Of p.transaction (action.Upload k) →
            is_opening (action.Upload k) ≡ false → is_open_upload (status p.transaction (e ∷ h)) ≡ false →
            Fewer (unit (which p.transaction) + 0)
        told (sounds.more x r') k y o z =
            let place = (p-told x r' b (judged-holds n) q (request-is n) (upload_at b.bank q) s.inside used).place in
            let m = one_fewer p.transaction k y o (opened-order p.transaction v.sound place.opened) z in
            omega arith

        at : (k : UploadAction) → is_opening (action.Upload k) ≡ false →
            e.verdict ≡ verdict.Of p.transaction (action.Upload k) →
            Fewer (ends_in (action_entries (verdict.Of p.transaction (action.Upload k))
            (order_in (verdict.Of p.transaction (action.Upload k)) b.bank q) q))
        at (up.Opened m) o y = never (sym o)
        at up.Took o y = none-fewer
        at up.TookLast o y =
            told (all_sound n) up.TookLast y o
            (ap is_open_upload (own-status n p.transaction up.TookLast y Booked (λ _. refl)))
        at (up.Point k) o y = none-fewer
        at (up.Cancelled c) o y =
            told (all_sound n) (up.Cancelled c) y o
            (ap is_open_upload (own-status n p.transaction (up.Cancelled c) y Cancelled (λ _. refl)))
    request-fewer own (to_download r a s) = none-fewer
    request-fewer own (signs s) = at (not (is_signer (subscriber (asked n)) p.signers))
      where
        p : Place
        p = place_at (judged_bank n).bank (order_at (judged_bank n).bank (asked n))

        o : SignedOrder
        o = record { transaction = p.transaction; number = p.number }

        -- "signed" ends no upload, and signing again is no event
        at : (added : Bool) → Fewer (ends_in (action_entries (verdict.Signed o added)
            (order_in (verdict.Signed o added) (judged_bank n).bank (asked n)) (asked n)))
        at true = none-fewer
        at false = none-fewer

    ended-next : Ended h → Ended (e ∷ h)
    unfolding events_in entries_of openings
    ended-next old =
        let drops = map (λ (t : Bits128). entry_of kind.Dropped t h) (upload_drops e.clock h) in
        let rest = of_reply [] (reply_entries e h) (form e.reply) in
        let a = count-append event_ends (events_in h) (events_from (length (events_in h)) e.clock (drops ++ rest)) in
        let b = count-from ends (length (events_in h)) e.clock (drops ++ rest) in
        let c = count-append entry_ends drops rest in
        let d = drop-ends in
        let f : Fewer (ends_in rest) = subst (λ (l : List Entry). Fewer (ends_in l)) (request-told n) (request-fewer refl (case-is n)) in
        let new = opened_in e.verdict in
        let g = count-append (open_after (e ∷ h)) (openings h) new in
        let i = count-append which (openings h) new in
        let j = count_less (open_after (e ∷ h)) which new (λ t _. and-less (is_open_upload (status t (e ∷ h))) (which t)) in
        omega arith
      where
        and-less : (b w : Bool) → unit (b && w) ≤ unit w
        and-less true w = omega arith
        and-less false true = omega arith
        and-less false false = omega arith

  pub all-ended : (calls : List BankCall) → Ended (past_of calls).history
  unfolding past_of start events_in openings count_of
  all-ended [] = omega arith
  all-ended (c ∷ calls) = by-exchange Ended calls c (all-ended calls) (λ e n. ended-next n (all-ended calls))

-- ---- at most one end

pub one_end : (calls : List BankCall) (t : Bits128) →
    count_of (λ (x : Event). is_end x.kind && is_of t x) (events_in (past_of calls).history) ≤ 1
unfolding is_of
one_end calls t =
    let a = all-ended (λ (u : Bits128). same_bits u t) calls in
    let b = one-listed t (opened-numbered (past-holds calls).invariant.sound).0 in
    omega arith

-- ---- at most two events, and one for each signer

abbrev any : Bits128 → Bool
any t = true

abbrev any_end : Event → Bool
any_end x = event_ends any x

drops-all : (h : List Exchange) (l : List Bits128) →
    length (map (λ (t : Bits128). entry_of kind.Dropped t h) l) ≤ ends_in any (map (λ (t : Bits128). entry_of kind.Dropped t h) l)
unfolding count_of
drops-all h [] = omega arith
drops-all h (t ∷ l) = let a = drops-all h l in omega arith

signed_all : (h : List Exchange) (l : List Bits128) →
    length (map (λ (t : Bits128). entry_of kind.Signed t h) l) ≤ signed_in (map (λ (t : Bits128). entry_of kind.Signed t h) l)
unfolding count_of
signed_all h [] = omega arith
signed_all h (t ∷ l) = let a = signed_all h l in omega arith

-- a reply's event ends an upload, is one signed, or is an accepted opening
module _ (e : Exchange) (h : List Exchange) where
  abbrev Told : List Entry → Bool → Type 0
  Told es b = length es ≤ ends_in any es + signed_in es + unit b

  either : (b : Bool) (t : Bits128) (k : Kind) → is_end k ≡ true → Told (cond b (entry_of k t h ∷ []) []) false
  unfolding count_of
  either true t k z = rw z (omega arith)
  either false t k z = omega arith

  signing : (b : Bool) (l : List Bits128) → Told (cond b [] (map (λ (t : Bits128). entry_of kind.Signed t h) l)) false
  unfolding count_of
  signing true l = omega arith
  signing false l = let a = signed_all h l in omega arith

  opening : (b : Bool) → Told (cond b (opened_entries e) []) b
  unfolding count_of
  opening true = omega arith
  opening false = omega arith

  refusal : (b : Bool) →
      let t = transaction e.request in
      let is_ended = is_cancelling (return_code e.reply) && is_upload_id t h in
      Told (cond b (signed_entries e h) (cond is_ended (entry_of kind.Cancelled t h ∷ []) [])) false
  refusal true = signing (has_signed (signed_name e) (subscriber e.request) h) (booked_as (signed_name e) h)
  refusal false =
      either (is_cancelling (return_code e.reply) && is_upload_id (transaction e.request) h) (transaction e.request)
      kind.Cancelled refl

  form-told : (f : ReplyForm) → form e.reply ≡ Reply f → Told (reply_entries e h f) (is_opened_form (return_code e.reply) f)
  unfolding count_of
  form-told replies.UploadOpened z = omega arith
  form-told replies.DownloadOpened z = omega arith
  form-told replies.SegmentTaken z =
      either (is_code (code_field code.Ok) e && eqb (segment e.request) (segment_count_of (transaction e.reply) h))
      (transaction e.reply) kind.Booked refl
  form-told replies.DownloadSegment z = omega arith
  form-told replies.ReceiptAnswered z =
      subst (λ (b : Bool). Told (cond b (opened_entries e) []) (is_ok (return_code e.reply)))
      (sym (ap (of_reply false (is_upload_form (return_code e.reply))) z)) (opening (is_ok (return_code e.reply)))
  form-told replies.Refusal z = refusal (is_signed e)
  form-told replies.Unreadable z = omega arith

  reply-told : (f : Form) → form e.reply ≡ f →
      Told (of_reply [] (reply_entries e h) f) (of_reply false (is_opened_form (return_code e.reply)) f)
  unfolding count_of
  reply-told NoForm z = omega arith
  reply-told (Request x) z = omega arith
  reply-told (Reply x) z = form-told x z

  entries-told : Told (entries_of e h) (is_opened e)
  unfolding entries_of
  entries-told =
      let drops = map (λ (t : Bits128). entry_of kind.Dropped t h) (upload_drops e.clock h) in
      let rest = of_reply [] (reply_entries e h) (form e.reply) in
      let a = drops-all h (upload_drops e.clock h) in
      let b = reply-told (form e.reply) refl in
      let c = length-append drops rest in
      let d = count-append (entry_ends any) drops rest in
      let f = count-append (λ (y : Entry). is_signed_kind y.kind) drops rest in
      omega arith

abbrev is_signed_event : Event → Bool
is_signed_event x = is_signed_kind x.kind

events-told : (h : List Exchange) → length (events_in h) ≤ ends_of any h + signed_of h + opened_count h
unfolding events_in opened_count count_of
events-told [] = omega arith
events-told (e ∷ h) = at (is_opened e) (entries-told e h) (events-told h)
  where
    new : List Event
    new = events_from (length (events_in h)) e.clock (entries_of e h)

    at : (b : Bool) → length (entries_of e h) ≤ ends_in any (entries_of e h) + signed_in (entries_of e h) + unit b →
        length (events_in h) ≤ ends_of any h + signed_of h + opened_count h →
        length (events_in h ++ new) ≤ count_of any_end (events_in h ++ new) + count_of is_signed_event (events_in h ++ new)
        + cond b (suc (opened_count h)) (opened_count h)
    at b y old =
        let a = length-append (events_in h) new in
        let c = events-length (length (events_in h)) e.clock (entries_of e h) in
        let d = count-append any_end (events_in h) new in
        let f = count-from (ends any) (length (events_in h)) e.clock (entries_of e h) in
        let i = count-append is_signed_event (events_in h) new in
        let j = count-from (λ (k : Kind) (s t o : ℕ) (u : Bits128). is_signed_kind k) (length (events_in h)) e.clock (entries_of e h) in
        by-test (λ (m : ℕ). length (events_in h ++ new) ≤ count_of any_end (events_in h ++ new)
        + count_of is_signed_event (events_in h ++ new) + m)
        b (λ z. let g : unit b ≡ 1 = ap unit z in omega arith) (λ z. let g : unit b ≡ 0 = ap unit z in omega arith)

pub few-events : (calls : List BankCall) → (journal_of calls).events ≤ 2 * max_openings + place_count * subscribers
few-events calls =
    let h = (past_of calls).history in
    let v = (past-holds calls).invariant in
    let a = events-told h in
    let b = all-ended any calls in
    let c = count-le any (openings h) in
    let d = (opened-numbered v.sound).1 in
    let f = opened-count v.sound in
    let g = v.counted in
    let i = v.state.numbers in
    let j = journal-told.events calls in
    let k = signed-few calls in
    let m = given-most (past_of calls).bank_state.bank.places in
    let l = v.state.sizes.places in
    omega arith
