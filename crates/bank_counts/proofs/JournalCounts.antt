-- The journal's events told so far are the uploads' part of the counts: each call adds to both as many.
use Prim.Native.Nat.{ℕ, ◌+◌}
use mathlib.Core.Bool.{Bool, true, false, cond, not, ◌&&◌}
use mathlib.Core.List.{List, [], ◌∷◌, ◌++◌, map, Memᴰ as In}
use mathlib.Core.Path.{◌≡◌, refl, sym, ap, ◌∙◌}
use native.Mathlib.Omega.{arith}
use lib.Dec.{eqb}
use lib.ListN.{length}
use Rattle.frame_table.specs.declared.fields.Bits128.{Bits128}
use Rattle.frame_table.specs.Names.{form, same_bits}
use Rattle.frame_table.proofs.Bits.{bits-same}
use Rattle.octets.proofs.Tests.{never}
use Rattle.message.proofs.Verdicts.{by-test}
use Rattle.journal.specs.declared.event.Kind.{Kind}
use Rattle.journal.specs.declared.event.Kind.TheVariants as kind
use Rattle.journal.specs.declared.event.Entry.{Entry}
use Rattle.journal.specs.declared.event.Event.{Event}
use Rattle.journal.specs.Events.{events_from}
use Rattle.bank_state.specs.Clock.{is_idle}
use Rattle.bank_state.specs.Rows.{count_of, keep}
use Rattle.bank_state.specs.State.{BankState}
use Rattle.bank_events.specs.Entries.{kind_of, signed_kind, verdict_kind, is_event, action_entries}
use Rattle.message.specs.declared.directions.Direction.{Direction}
use Rattle.message.specs.declared.directions.Direction.TheVariants as direction
use Rattle.bank_verdicts.specs.declared.verdict.UploadAction.TheVariants as up
use Rattle.bank_verdicts.specs.declared.verdict.Action.{Action}
use Rattle.bank_verdicts.specs.declared.verdict.Action.TheVariants as action
use Rattle.bank_verdicts.specs.declared.verdict.Verdict.{Verdict}
use Rattle.bank_verdicts.specs.declared.verdict.Verdict.TheVariants as verdict
use Rattle.opening_counts.specs.declared.seven.Counts.{Counts}
use Rattle.opening_counts.specs.Counts.{count_size, sum}
use Rattle.bank_history.specs.FalseEconomies.{Next}
use Rattle.bank_history.specs.History.{
  Exchange,
  BankCall,
  is_opening,
  is_upload_opening,
  is_download_opening,
  did,
  ever,
  start,
  past_of,
}
use Rattle.bank_history.specs.Invariant.{Invariant}
use Rattle.bank_history.specs.Journal.{is_idle_upload_at, entry_of, upload_drops, reply_entries, entries_of, events_in}
use Rattle.bank_history.specs.Opened.{of_reply}
use Rattle.bank_history.specs.Status.{
  Status,
  NotOpened,
  Open,
  Booked,
  Fetched,
  Skipped,
  EndedByReceipt,
  Cancelled,
  Dropped,
  drop_idle,
  action_status,
  status_after,
  status,
  opened_in,
  openings,
  Numbered,
  OpenAs,
  upload,
  download,
}
use Rattle.bank_history.specs.ByReplies.{at_opened, is_upload_id}
use Rattle.bank_history.proofs.ByReplies.{opened-own, upload-opened}
use Rattle.bank_history.proofs.Closed.{acted-open, by-exchange, direction_of}
use Rattle.bank_history.proofs.Counts.{unit, count-append, count_map, count-keep, count_same}
use Rattle.bank_history.proofs.Downloads.{download-open}
use Rattle.bank_history.proofs.DropOrder.{upload-id, download-id}
use Rattle.bank_history.proofs.Drops.{keep-in}
use Rattle.bank_history.proofs.Entries.{same_bits_lem, other-bits, and_no}
use Rattle.bank_history.proofs.GivenSigners.{count-from}
use Rattle.bank_history.proofs.Journal.{request-told}
use Rattle.bank_history.proofs.JournalCounts.{is_upload_direction, numbered-low}
use Rattle.bank_history.proofs.Keeps.{past-holds}
use Rattle.bank_history.proofs.NextCall.{judged_bank, judged-holds, all_sound}
use Rattle.bank_history.proofs.Statuses.{open-shown, past-told}
use Rattle.bank_history.proofs.UploadRequests.{upload-is-open}
use Rattle.bank_counts.specs.Counts.{way_of, is_pending, ends}
use Rattle.bank_counts.specs.JournalCounts.{way_told, events_telling, uploads_standing, uploads_part, JournalCounts}
use Rattle.bank_counts.proofs.BookedRows.{booked-opened}
use Rattle.bank_counts.proofs.Laws.{count-before, count-after, length-keep, counted-once}
use Rattle.bank_counts.proofs.Moves.{
  standing_by,
  for,
  idle,
  clock-moves,
  Opens,
  opens-is,
  opens-own,
  opens-others,
  action-moves-in,
  Acts,
  same-seven,
  ways-add,
}
use Rattle.bank_counts.proofs.Moves as moves
use Rattle.bank_counts.proofs.Theorems.{
  by-status,
  counts-told,
  past-sound,
  past-numbered,
  opened_one,
  head-sound,
  judged,
  judged-told,
  the-acts,
}

-- ---- the events of a call

-- a way, and no number that tells none
abbrev IsWay : ℕ → Type 0
IsWay way = eqb count_size way ≡ false

-- a request's own event; a record not in use tells no way
action-tells : (way : ℕ) → IsWay way → (k : Kind) (y : Entry) → y.kind ≡ k →
    count_of (λ (x : Entry). eqb (way_told x.kind) way) (cond (is_event k) (y ∷ []) []) ≡ unit (eqb (way_told k) way)
unfolding count_of
action-tells way z kind.Unused y e = rw z
action-tells way z kind.Opened y e = rw e (omega arith)
action-tells way z kind.Booked y e = rw e (omega arith)
action-tells way z kind.Cancelled y e = rw e (omega arith)
action-tells way z kind.Dropped y e = rw e (omega arith)
action-tells way z kind.Signed y e = rw e (omega arith)

module _ {calls : List BankCall} {e : Exchange} (n : Next calls e) (way : ℕ) (used : IsWay way) where
  abbrev h : List Exchange
  h = (past_of calls).history

  abbrev tells : Entry → Bool
  tells y = eqb (way_told y.kind) way

  -- the uploads that its clock drops
  abbrev gone : ℕ
  gone = count_of (λ (t : Bits128). is_idle_upload_at e.clock (status t h)) (openings h)

  drop-entries :
      count_of tells (map (λ (t : Bits128). entry_of kind.Dropped t h) (upload_drops e.clock h)) ≡ for 6 way gone
  unfolding upload_drops
  drop-entries =
      count_map tells (λ (t : Bits128). entry_of kind.Dropped t h) (upload_drops e.clock h)
      ∙ (count-keep (λ (t : Bits128). eqb 6 way) _ _
      ∙ (count-after (eqb 6 way) _ _
      ∙ ap (for 6 way) (by-status (past-sound calls) (λ (t : Bits128) (x : Status). is_idle_upload_at e.clock x))))

  events-next : events_telling way (e ∷ h)
      ≡ events_telling way h + for 6 way gone + unit (eqb (way_told (verdict_kind e.verdict)) way)
  unfolding events_telling events_in entries_of action_entries
  events-next =
      let drops = map (λ (t : Bits128). entry_of kind.Dropped t h) (upload_drops e.clock h) in
      let rest = of_reply [] (reply_entries e h) (form e.reply) in
      let a = count-append (λ (x : Event). eqb (way_told x.kind) way) (events_in h)
      (events_from (length (events_in h)) e.clock (drops ++ rest)) in
      let b = count-from (λ (k : Kind) (s t o : ℕ) (u : Bits128). eqb (way_told k) way) (length (events_in h)) e.clock
      (drops ++ rest) in
      let c = count-append tells drops rest in
      let d = drop-entries in
      let f = ap (count_of tells) (sym (request-told n)) ∙ action-tells way used (verdict_kind e.verdict) _ refl in
      omega arith

-- ---- which openings are uploads

-- an open transaction is an upload by its opening exactly when it is one in the bank
open-id : (w : BankState) (h : List Exchange) (v : Invariant w h) {t : Bits128} {d : Direction} {s last : ℕ} →
    OpenAs w t d s last → is_upload_id t h ≡ is_upload_direction d
open-id w h v {t} (upload {s = s} {k = k} {n = n} {last = last} u) =
    upload-id t v.sound
    (ap (λ (i : Bits128). ever is_upload_opening i h) (sym u.transaction)
    ∙ (upload-is-open w h v t s k n last u).1.place.opened)
open-id w h v {t} (download u) =
    download-id t v.sound
    (ap (λ (i : Bits128). ever is_download_opening i h) (sym u.transaction)
    ∙ (download-open w h v u.row u.used).1.opened)

-- an idle upload is an upload that the clock drops
idle-upload : (clock : ℕ) (b : Bool) (x : Status) →
    ((d : Direction) (s last : ℕ) → x ≡ Open d s last → b ≡ is_upload_direction d) →
    b && ends x (drop_idle clock x) ≡ is_idle_upload_at clock x
idle-upload clock b NotOpened f = and_no b
idle-upload clock b (Open direction.Upload s last) f = rw (f direction.Upload s last refl) (at (is_idle clock last))
  where
    at : (i : Bool) → not (is_pending (cond i Dropped (Open direction.Upload s last))) ≡ i
    at true = refl
    at false = refl
idle-upload clock b (Open direction.Download s last) f = rw (f direction.Download s last refl)
idle-upload clock b Booked f = and_no b
idle-upload clock b Fetched f = and_no b
idle-upload clock b Skipped f = and_no b
idle-upload clock b EndedByReceipt f = and_no b
idle-upload clock b Cancelled f = and_no b
idle-upload clock b Dropped f = and_no b

-- no opening among those before
no-opening : {σ : Bits128 → Status} {l : List Bits128} {v : Verdict} → Numbered 0 l → Acts σ l v → {t : Bits128} →
    In t l →
    did is_opening t v ≡ false
no-opening r moves.unreadable i = refl
no-opening r (moves.refused c) i = refl
no-opening r (moves.signed o added) i = refl
no-opening r (moves.opens u k o new) {t} i = rw (other-bits t u (λ z. let a = numbered-low r i in omega arith))
no-opening r (moves.acts u k o j z) {t} i = rw o (and_no (same_bits t u))

-- ---- what the event of a request tells

-- a signature tells no way
signed-way : (way : ℕ) → IsWay way → (added : Bool) → unit (eqb (way_told (signed_kind added)) way) ≡ 0
signed-way way z true = rw z
signed-way way z false = rw z

-- an opening: an upload's tells that it is open, a download's nothing
opening-way : (way : ℕ) → IsWay way → {k : Action} → Opens k →
    unit (eqb (way_told (kind_of k)) way) ≡ for 0 way (unit (is_upload_opening k))
opening-way way z (moves.upload n) = refl
opening-way way z (moves.download n) = rw z (by-test (λ (m : ℕ). 0 ≡ m) (eqb 0 way) (λ _. refl) (λ _. refl))

-- an action that opens nothing: its event tells the way in which it leaves its upload; a download's tells none
action-way : (way : ℕ) → IsWay way → eqb 0 way ≡ false → (k : Action) → is_opening k ≡ false → (e : Exchange)
    (d : Direction) (s last : ℕ) →
    for (way_of (action_status k e (Open d s last))) way (unit (is_upload_direction (direction_of k)))
    ≡ unit (eqb (way_told (kind_of k)) way)
action-way way z y (action.Upload (up.Opened m)) o e d s last = never (sym o)
action-way way z y (action.Upload up.Took) o e d s last = rw (z, y)
action-way way z y (action.Upload up.TookLast) o e d s last = refl
action-way way z y (action.Upload (up.Point m)) o e d s last = rw (z, y)
action-way way z y (action.Upload (up.Cancelled c)) o e d s last = refl
action-way way z y (action.Download a) o e d s last =
    rw z
    (by-test (λ (m : ℕ). m ≡ 0) (eqb (way_of (action_status (action.Download a) e (Open d s last))) way) (λ _. refl)
    (λ _. refl))

-- none tells that it opens
acted-way : (k : Action) → is_opening k ≡ false → unit (eqb (way_told (kind_of k)) 0) ≡ 0
acted-way (action.Upload (up.Opened m)) o = never (sym o)
acted-way (action.Upload up.Took) o = refl
acted-way (action.Upload up.TookLast) o = refl
acted-way (action.Upload (up.Point m)) o = refl
acted-way (action.Upload (up.Cancelled c)) o = refl
acted-way (action.Download a) o = refl

-- ---- the uploads' part of a count

-- by the statuses
abbrev uploads_by : ℕ → List Exchange → ℕ
uploads_by way h = count_of (λ (t : Bits128). is_upload_id t h && eqb (way_of (status t h)) way) (openings h)

abbrev upload_ids : List Exchange → List Bits128
upload_ids h = keep (λ (t : Bits128). is_upload_id t h) (openings h)

module _ {calls : List BankCall} {e : Exchange} (n : Next calls e) where
  abbrev g : List Exchange
  g = (past_of calls).history

  abbrev is_up : Bits128 → Bool
  is_up t = is_upload_id t g

  before-id : (t : Bits128) (d : Direction) (s last : ℕ) → status t g ≡ Open d s last → is_up t ≡ is_upload_direction d
  before-id t d s last z =
      open-id (past_of calls).bank_state g (past-holds calls).invariant (open-shown (past-told calls) z)

  -- one of the openings stands among the uploads once, or not at all
  ups-once : (t : Bits128) → In t (openings g) → count_of (λ (x : Bits128). same_bits x t) (upload_ids g) ≡ unit (is_up t)
  ups-once t i =
      count-keep (λ (x : Bits128). same_bits x t) is_up (openings g)
      ∙ (count_same (λ (x : Bits128). is_up x && same_bits x t) (λ (x : Bits128). is_up t && same_bits x t) (openings g)
      (λ x j. at x (same_bits x t) refl)
      ∙ (count-before (is_up t) (λ (x : Bits128). same_bits x t) (openings g)
      ∙ ap (λ (m : ℕ). cond (is_up t) m 0) (counted-once (past-numbered calls) i)))
    where
      at : (x : Bits128) (b : Bool) → same_bits x t ≡ b → is_up x && b ≡ is_up t && b
      at x true z = ap (λ (y : Bits128). is_up y && true) (bits-same x t z)
      at x false z = and_no (is_up x) ∙ sym (and_no (is_up t))

  -- the openings before keep their direction
  same_id : (t : Bits128) → In t (openings g) → is_upload_id t (e ∷ g) ≡ is_up t
  unfolding at_opened
  same_id t i = rw (opened-own (head-sound (all_sound n)) t, no-opening (past-numbered calls) (the-acts n) i)

  -- the direction of a new opening is that of its reply
  new-id : (t : Bits128) (k : Action) → e.verdict ≡ verdict.Of t k → is_opening k ≡ true →
      is_upload_id t (e ∷ g) ≡ is_upload_opening k
  unfolding at_opened
  new-id t k own o =
      let is : did is_opening t e.verdict ≡ true = ap (did is_opening t) own ∙ rw (same_bits_lem t, o) in
      rw (opened-own (head-sound (all_sound n)) t, is) (upload-opened (head-sound (all_sound n)) own)

  -- ---- the uploads that have ended in a way that uploads end in

  module _ (way : ℕ) (used : IsWay way) (closed : eqb 0 way ≡ false) (alone : eqb 4 way ≡ false) where
    -- the clock
    ups-dropped : idle (λ (t : Bits128). status t g) (upload_ids g) e.clock ≡ gone n way used
    ups-dropped =
        count-keep (λ (t : Bits128). ends (status t g) (drop_idle e.clock (status t g))) is_up (openings g)
        ∙ count_same (λ (t : Bits128). is_up t && ends (status t g) (drop_idle e.clock (status t g)))
        (λ (t : Bits128). is_idle_upload_at e.clock (status t g)) (openings g)
        (λ t i. idle-upload e.clock (is_up t) (status t g) (before-id t))

    -- the verdict
    ups-acted : {u : Verdict} → Acts (judged n) (openings g) u → e.verdict ≡ u →
        standing_by (λ (x : Bits128). status_after x u e (judged n x)) (upload_ids g) way
        ≡ standing_by (judged n) (upload_ids g) way + unit (eqb (way_told (verdict_kind u)) way)
    ups-acted moves.unreadable own = rw used (omega arith)
    ups-acted (moves.refused c) own = rw used (omega arith)
    ups-acted (moves.signed o added) own = let a = signed-way way used added in omega arith
    ups-acted (moves.opens t k o new) own =
        let a = count_same (λ (x : Bits128). eqb (way_of (status_after x (verdict.Of t k) e (judged n x))) way)
        (λ (x : Bits128). eqb (way_of (judged n x)) way) (upload_ids g)
        (λ x i. rw (
          other-bits x t
              (λ z. let m = numbered-low (past-numbered calls) (keep-in is_up (openings g) i).0 in omega arith),
          opens-others o e (judged n x),
        )) in
        let b = rw closed at (opening-way way used o) in
        omega arith
    ups-acted (moves.acts t k o i {d} {s} {last} z) own =
        let a = action-moves-in (judged n) (upload_ids g) e t k z way in
        let c = acted-open n t k own o in
        let b : is_up t ≡ is_upload_direction (direction_of k) =
        open-id (judged_bank n) g (judged-holds n) (open-shown (judged-told n) c.2) in
        let f = ap (for (way_of (action_status k e (Open d s last))) way) (ups-once t i ∙ ap unit b)
        ∙ action-way way used closed k o e d s last in
        let x = rw (closed, alone) at a in
        omega arith

    -- a new opening stands open
    new_none : {u : Verdict} → Acts (judged n) (openings g) u →
        count_of (λ (t : Bits128). is_upload_id t (e ∷ g) && eqb (way_of (status_after t u e (judged n t))) way) (opened_in u)
        ≡ 0
    unfolding count_of
    new_none moves.unreadable = refl
    new_none (moves.refused c) = refl
    new_none (moves.signed o added) = refl
    new_none (moves.opens t k o new) =
        rw (opens-is o, same_bits_lem t, opens-own o e (judged n t), closed, and_no (is_upload_id t (e ∷ g)))
    new_none (moves.acts t k o i z) = rw o

    abbrev after : Bits128 → Bool
    after t = eqb (way_of (status_after t e.verdict e (judged n t))) way

    abbrev before : Bits128 → Bool
    before t = eqb (way_of (status t g)) way

    -- a call adds to the uploads' part of a count
    uploads-next : uploads_by way (e ∷ g)
        ≡ uploads_by way g + for 6 way (gone n way used) + unit (eqb (way_told (verdict_kind e.verdict)) way)
    unfolding status openings
    uploads-next =
        let a = count-append (λ (t : Bits128). is_upload_id t (e ∷ g) && after t) (openings g) (opened_in e.verdict) in
        let b = count_same (λ (t : Bits128). is_upload_id t (e ∷ g) && after t) (λ (t : Bits128). is_up t && after t)
        (openings g) (λ t i. ap (λ (x : Bool). x && after t) (same_id t i)) in
        let c = count-keep after is_up (openings g) in
        let d = new_none (the-acts n) in
        let f = ups-acted (the-acts n) refl in
        let i = clock-moves (λ (t : Bits128). status t g) (upload_ids g) e.clock way in
        let j = rw (closed, ups-dropped) at i in
        let k = count-keep before is_up (openings g) in
        omega arith

  -- ---- the uploads opened

  opened-new : {u : Verdict} → Acts (judged n) (openings g) u → e.verdict ≡ u →
      count_of (λ (t : Bits128). is_upload_id t (e ∷ g)) (opened_in u) ≡ unit (eqb (way_told (verdict_kind u)) 0)
  unfolding count_of
  opened-new moves.unreadable own = refl
  opened-new (moves.refused c) own = refl
  opened-new (moves.signed o added) own = sym (signed-way 0 refl added)
  opened-new (moves.opens t k o new) own =
      rw (opens-is o, new-id t k own (opens-is o)) (let a = opening-way 0 refl o in omega arith)
  opened-new (moves.acts t k o i z) own = rw o (sym (acted-way k o))

  opened-next : count_of (λ (t : Bits128). is_upload_id t (e ∷ g)) (openings (e ∷ g))
      ≡ count_of is_up (openings g) + unit (eqb (way_told (verdict_kind e.verdict)) 0)
  unfolding openings
  opened-next =
      let a = count-append (λ (t : Bits128). is_upload_id t (e ∷ g)) (openings g) (opened_in e.verdict) in
      let b = count_same (λ (t : Bits128). is_upload_id t (e ∷ g)) is_up (openings g) same_id in
      let c = opened-new (the-acts n) refl in
      omega arith

-- ---- every list of calls

told-by : (way : ℕ) → IsWay way → eqb 0 way ≡ false → eqb 4 way ≡ false → (calls : List BankCall) →
    events_telling way (past_of calls).history ≡ uploads_by way (past_of calls).history
unfolding past_of start events_telling events_in openings count_of
told-by way used closed alone [] = refl
told-by way used closed alone (c ∷ calls) =
    by-exchange (λ (h : List Exchange). events_telling way h ≡ uploads_by way h) calls c
    (told-by way used closed alone calls)
    (λ e n. let a = told-by way used closed alone calls in
    events-next n way used ∙ (let b = uploads-next n way used closed alone in omega arith))

opened-told : (calls : List BankCall) →
    events_telling 0 (past_of calls).history
    ≡ count_of (λ (t : Bits128). is_upload_id t (past_of calls).history) (openings (past_of calls).history)
unfolding past_of start events_telling events_in openings count_of
opened-told [] = refl
opened-told (c ∷ calls) =
    by-exchange
    (λ (h : List Exchange). events_telling 0 h ≡ count_of (λ (t : Bits128). is_upload_id t h) (openings h)) calls c
    (opened-told calls)
    (λ e n. let a = opened-told calls in
    events-next n 0 refl ∙ (let b = opened-next n in omega arith))

module _ (calls : List BankCall) where
  abbrev f : List Exchange
  f = (past_of calls).history

  uploads-told : (way : ℕ) → uploads_standing way f ≡ uploads_by way f
  unfolding uploads_standing
  uploads-told way =
      by-status (past-sound calls) (λ (t : Bits128) (x : Status). is_upload_id t f && eqb (way_of x) way)

  -- the uploads' parts add up to the uploads
  uploads-add : sum (uploads_part f) ≡ count_of (λ (t : Bits128). is_upload_id t f) (openings f)
  uploads-add =
      ap sum (same-seven _ (standing_by (λ (t : Bits128). status t f) (upload_ids f))
      (λ way. uploads-told way ∙ sym (count-keep (λ (t : Bits128). eqb (way_of (status t f)) way) _ (openings f))))
      ∙ (ways-add (λ (t : Bits128). status t f) (upload_ids f)
      (λ t i. opened_one calls t (keep-in (λ (x : Bits128). is_upload_id x f) (openings f) i).0)
      ∙ length-keep (λ (t : Bits128). is_upload_id t f) (openings f))

  -- what stands booked is an upload
  booked-uploads : uploads_by 1 f ≡ standing_by (λ (t : Bits128). status t f) (openings f) 1
  booked-uploads =
      count_same (λ (t : Bits128). is_upload_id t f && eqb (way_of (status t f)) 1)
      (λ (t : Bits128). eqb (way_of (status t f)) 1) (openings f) (λ t i. at t (eqb (way_of (status t f)) 1) refl)
    where
      at : (t : Bits128) (b : Bool) → eqb (way_of (status t f)) 1 ≡ b → is_upload_id t f && b ≡ b
      at t true z = rw (upload-id t (past-sound calls) (booked-opened calls t z))
      at t false z = and_no (is_upload_id t f)

pub journal-counts : JournalCounts
journal-counts = record {
  opened = λ calls. opened-told calls ∙ sym (uploads-add calls);
  booked = λ calls. told-by 1 refl refl refl calls
      ∙ (booked-uploads calls ∙ sym (ap (λ (c : Counts). c.booked) (counts-told (past-sound calls))));
  cancelled = λ calls. told-by 5 refl refl refl calls ∙ sym (uploads-told calls 5);
  dropped = λ calls. told-by 6 refl refl refl calls ∙ sym (uploads-told calls 6);
}
