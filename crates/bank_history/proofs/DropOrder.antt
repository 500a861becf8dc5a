-- The uploads that a call's clock drops, by the bank's places put in the order of their openings, are those that
-- requests, replies and clocks tell, in the order of the accepted openings, with subscriber and order number.
use Prim.Native.Nat.{ℕ, zero, suc, ◌≤◌, ◌<◌}
use mathlib.Core.Bool.{Bool, true, false, cond, ◌&&◌}
use mathlib.Core.List.Memᴰ.{head as here}
use mathlib.Core.List.Memᴰ.{map as in_map}
use mathlib.Core.List.Memᴰ.{not-nil as in-none}
use mathlib.Core.List.Memᴰ.{of_map}
use mathlib.Core.List.Memᴰ.{tail as there}
use mathlib.Core.List.{
  List,
  [],
  ◌∷◌,
  map,
  Memᴰ as In,
}
use mathlib.Core.Logic.{◌⊎◌, inl, inr}
use mathlib.Core.Path.{◌≡◌, refl, sym, ap, ◌∙◌, subst}
use native.Mathlib.Omega.{arith}
use lib.Dec.{leb}
use lib.ListN.{length, get_or}
use borrow.Author.Tests.{leb-true, leb-false}
use Rattle.frame_table.specs.declared.fields.Bits128.{Bits128}
use Rattle.frame_table.specs.Names.{subscriber}
use Rattle.octets.proofs.Tests.{never, and-true, or_left, or_right}
use Rattle.bank_state.specs.declared.state.Place.{Place}
use Rattle.bank_state.specs.declared.state.Use.{Use}
use Rattle.bank_state.specs.declared.state.Use.TheVariants as uses
use Rattle.bank_state.specs.Clock.{is_idle}
use Rattle.bank_state.specs.Limits.{place_count}
use Rattle.bank_state.specs.Rows.{keep}
use Rattle.bank_state.specs.Search.{is_free, is_open}
use Rattle.bank_state.specs.State.{BankState, no_place, place_at}
use Rattle.bank_state.specs.Store.{part_at}
use Rattle.message.specs.declared.directions.Direction.{Direction}
use Rattle.message.specs.declared.directions.Direction.TheVariants as direction
use Rattle.bank_verdicts.specs.declared.verdict.UploadAction.TheVariants as up
use Rattle.bank_verdicts.specs.declared.verdict.DownloadAction.TheVariants as down
use Rattle.bank_verdicts.specs.declared.verdict.Action.{Action}
use Rattle.bank_verdicts.specs.declared.verdict.Action.TheVariants as action
use Rattle.bank_verdicts.specs.declared.verdict.Verdict.{Verdict}
use Rattle.bank_verdicts.specs.declared.verdict.Verdict.TheVariants as verdict
use Rattle.journal.specs.declared.event.Kind.TheVariants as kind
use Rattle.journal.specs.declared.event.Entry.{Entry}
use Rattle.bank_events.specs.Entries.{is_idle_upload, opening_of, insert_by_opening, by_opening, dropped_uploads, drop_entry}
use Rattle.bank_history.specs.History.{Exchange, Stands, newest, older, is_opening, is_upload_opening, is_download_opening, did, ever, opens, opened_by, number_in, number_at}
use Rattle.bank_history.specs.Invariant.{PlaceTold, UploadTold, Invariant}
use Rattle.bank_history.specs.Sound.{AllSound, SoundVerdict}
use Rattle.bank_history.specs.Sound as sounds
use Rattle.bank_history.specs.Status.{
  Status,
  NotOpened,
  Open,
  Booked,
  Fetched,
  Skipped,
  EndedByReceipt,
  Cancelled,
  Dropped,
  status,
  openings,
  OpenAs,
  upload,
  download,
  Rising,
  end,
  next,
}
use Rattle.bank_history.specs.Opened.{is_upload_opened}
use Rattle.bank_history.specs.ByReplies.{
  number_given,
  opened_ids,
  at_opened,
  owner_of,
  order_of,
  is_upload_id,
  standing,
}
use Rattle.bank_history.specs.Journal.{entry_of, is_idle_upload_at, upload_drops}
use Rattle.bank_history.proofs.ByReplies.{
  opened-own,
  upload-opened,
  opened-ids,
  at-opened,
  opening-below,
  standing-is,
}
use Rattle.bank_history.proofs.Opened.{number-given}
use Rattle.bank_history.proofs.Drops.{in-keep, keep-in, open-listed, rising-keep, opened-numbered}
use Rattle.bank_history.proofs.Positions.{sound-at, action-sound, opening-number, ever-stands}
use Rattle.bank_history.proofs.SentSegments.{action-in}
use Rattle.bank_history.proofs.Entries.{did-same}
use Rattle.bank_history.proofs.Statuses.{Told, open-shown}
use Rattle.bank_history.proofs.Counted.{open-used}

-- ---- rising lists with the same members are equal

rising-above : {m : ℕ} {l : List Bits128} {t : Bits128} → Rising m l → In t l → m ≤ t.low
rising-above end i = absurd (in-none i)
rising-above (next {t = u} a r) (here z) = let y = ap (λ (i : Bits128). i.low) z in omega arith
rising-above (next {t = u} a r) (there i) = let y = rising-above r i in omega arith

pub same-rising : {m n : ℕ} {k l : List Bits128} → Rising m k → Rising n l → ((t : Bits128) → In t k → In t l) →
    ((t : Bits128) → In t l → In t k) → k ≡ l
same-rising end end f g = refl
same-rising end (next {t = u} b s) f g = absurd (in-none (g u (here refl)))
same-rising (next {t = t} a r) end f g = absurd (in-none (f t (here refl)))
same-rising (next {t = x} {l = k} a r) (next {t = y} {l = l} b s) f g =
    let z : x ≡ y = heads (f x (here refl)) (g y (here refl)) in
    ap (λ (i : Bits128). i ∷ k) z ∙ ap (λ (j : List Bits128). y ∷ j)
    (same-rising r s (λ t i. later (rising-above r i) z (f t (there i)))
    (λ t i. later (rising-above s i) (sym z) (g t (there i))))
  where
    heads : In x (y ∷ l) → In y (x ∷ k) → x ≡ y
    heads (here z) j = z
    heads (there i) (here z) = sym z
    heads (there i) (there j) = absurd (let c = rising-above s i in let d = rising-above r j in omega arith)

    later : {t u v : Bits128} {j : List Bits128} → u.low < t.low → u ≡ v → In t (v ∷ j) → In t j
    later {t} {u} {v} c z (here w) = absurd (let d = ap (λ (i : Bits128). i.low) w in
        let e = ap (λ (i : Bits128). i.low) z in omega arith)
    later c z (there i) = i

-- ---- places in the order of their openings

abbrev id_of : Place → Bits128
id_of p = p.transaction

insert-in : (p : Place) (l : List Place) {x : Place} → In x (insert_by_opening p l) → (x ≡ p) ⊎ In x l
unfolding insert_by_opening
insert-in p [] (here z) = inl z
insert-in p [] (there i) = inr i
insert-in p (q ∷ l) {x} i = at (leb (opening_of p) (opening_of q)) i (insert-in p l)
  where
    at : (b : Bool) → In x (cond b (p ∷ q ∷ l) (q ∷ insert_by_opening p l)) →
        (In x (insert_by_opening p l) → (x ≡ p) ⊎ In x l) → (x ≡ p) ⊎ In x (q ∷ l)
    at true (here z) f = inl z
    at true (there j) f = inr j
    at false (here z) f = inr (here z)
    at false (there j) f = elim (f j) [ inl z ↦ inl z | inr k ↦ inr (there k) ]

in_insert : (p : Place) (l : List Place) {x : Place} → In x (p ∷ l) → In x (insert_by_opening p l)
unfolding insert_by_opening
in_insert p [] i = i
in_insert p (q ∷ l) {x} i = at (leb (opening_of p) (opening_of q)) i (in_insert p l)
  where
    at : (b : Bool) → In x (p ∷ q ∷ l) → (In x (p ∷ l) → In x (insert_by_opening p l)) →
        In x (cond b (p ∷ q ∷ l) (q ∷ insert_by_opening p l))
    at true j f = j
    at false (here z) f = there (f (here z))
    at false (there (here z)) f = here z
    at false (there (there j)) f = there (f (there j))

by_in : (l : List Place) {x : Place} → In x (by_opening l) → In x l
unfolding by_opening
by_in [] i = i
by_in (p ∷ l) {x} i = at (insert-in p (by_opening l) i) (by_in l)
  where
    at : (x ≡ p) ⊎ In x (by_opening l) → (In x (by_opening l) → In x l) → In x (p ∷ l)
    at (inl z) f = here z
    at (inr j) f = there (f j)

in-by : (l : List Place) {x : Place} → In x l → In x (by_opening l)
unfolding by_opening
in-by [] i = i
in-by (p ∷ l) (here z) = in_insert p (by_opening l) (here z)
in-by (p ∷ l) (there i) = in_insert p (by_opening l) (there (in-by l i))

-- no two of a list have one running number
data Apart : List Place → Type 0 where
  none : Apart []
  more : {p : Place} {l : List Place} → ((r : Place) → In r l → opening_of r ≡ opening_of p → ⊥) → Apart l → Apart (p ∷ l)

rising-insert : (m : ℕ) (p : Place) (l : List Place) → m ≤ opening_of p → Rising m (map id_of l) →
    ((r : Place) → In r l → opening_of r ≡ opening_of p → ⊥) → Rising m (map id_of (insert_by_opening p l))
unfolding insert_by_opening
rising-insert m p [] a r n = next a end
rising-insert m p (q ∷ l) a (next b r) n = at (leb (opening_of p) (opening_of q)) refl (rising-insert (suc (opening_of q)) p l)
  where
    at : (x : Bool) → leb (opening_of p) (opening_of q) ≡ x →
        (suc (opening_of q) ≤ opening_of p → Rising (suc (opening_of q)) (map id_of l) →
        ((s : Place) → In s l → opening_of s ≡ opening_of p → ⊥) → Rising (suc (opening_of q)) (map id_of (insert_by_opening p l))) →
        Rising m (map id_of (cond x (p ∷ q ∷ l) (q ∷ insert_by_opening p l)))
    at true z f =
        let c = leb-true (opening_of p) (opening_of q) z in
        next a (next (apart c (λ y. n q (here refl) (sym y))) r)
      where
        apart : opening_of p ≤ opening_of q → (opening_of p ≡ opening_of q → ⊥) → suc (opening_of p) ≤ opening_of q
        apart c d = omega arith
    at false z f = next b (f (leb-false (opening_of p) (opening_of q) z) r (λ s i. n s (there i)))

rising-by : {l : List Place} → Apart l → Rising 0 (map id_of (by_opening l))
unfolding by_opening
rising-by none = end
rising-by (more {p = p} {l = l} n r) =
    rising-insert 0 p (by_opening l) (omega arith) (rising-by r) (λ s i. n s (by_in l i))

-- ---- the places of a row

in-row : {A : Type 0} (d : A) {x : A} {l : List A} → In x l → (i : ℕ) × (i < length l) × (get_or l i d ≡ x)
in-row d (here z) = (0, omega arith, sym z)
in-row d (there j) = let r = in-row d j in (suc r.0, (let a = r.1 in omega arith), r.2)

row_in : {A : Type 0} (d : A) (l : List A) (i : ℕ) → i < length l → In (get_or l i d) l
row_in d [] i a = absurd (omega arith)
row_in d (x ∷ l) zero a = here refl
row_in d (x ∷ l) (suc i) a = there (row_in d l i (omega arith))

-- the places that pass a test are apart, where places in use are and the test passes no other
apart-keep : (test : Place → Bool) → ((p : Place) → test p ≡ true → is_free p.used ≡ false) → (l : List Place) →
    ((i j : ℕ) → i < length l → j < length l → is_free (get_or l i no_place).used ≡ false →
    is_free (get_or l j no_place).used ≡ false → opening_of (get_or l i no_place) ≡ opening_of (get_or l j no_place) → i ≡ j) →
    Apart (keep test l)
unfolding keep
apart-keep test used [] one = none
apart-keep test used (q ∷ l) one =
    at (test q) refl
    (apart-keep test used l (λ i j a b f g z. let y = one (suc i) (suc j) (omega arith) (omega arith) f g z in omega arith))
  where
    at : (b : Bool) → test q ≡ b → Apart (keep test l) → Apart (cond b (q ∷ keep test l) (keep test l))
    at true z r = more clash r
      where
        clash : (s : Place) → In s (keep test l) → opening_of s ≡ opening_of q → ⊥
        clash s i y =
            let k = keep-in test l i in
            let x = in-row no_place k.0 in
            let same : get_or l x.0 no_place ≡ s = x.2 in
            let w : suc x.0 ≡ zero = one (suc x.0) zero (let c = x.1 in omega arith) (omega arith)
            (ap (λ (p : Place). is_free p.used) same ∙ used s k.1) (used q z)
            (ap opening_of same ∙ y) in
            omega arith
    at false z r = r

-- ---- the exchange that opened a transaction

-- there is one such exchange only
opening-at : {A : Type 0} (f : Exchange → A) (d : A) (t : Bits128) (k : Action) {e : Exchange}
    {g h : List Exchange} → AllSound h → Stands e g h → e.verdict ≡ verdict.Of t k → is_opening k ≡ true →
    at_opened f d t h ≡ f e
unfolding at_opened
opening-at f d t k {e} {g} (sounds.more s r) newest own o =
    ap (λ (b : Bool). cond b (f e) (at_opened f d t g)) (opened-own s t ∙ (ap (did is_opening t) own ∙ (did-same is_opening t k ∙ o)))
opening-at f d t k {e} {g} (sounds.more s r) (older {x = x} {h = h} p) own o =
    ap (λ (b : Bool). cond b (f x) (at_opened f d t h)) (opened-own s t ∙ other (did is_opening t x.verdict) refl)
    ∙ opening-at f d t k r p own o
  where
    other : (b : Bool) → did is_opening t x.verdict ≡ b → b ≡ false
    other true z =
        let a = action-in is_opening t x x.verdict refl z in
        let m = opening-number t x h a.action a.kind
        (subst (λ (v : Verdict). SoundVerdict v x h) a.is s.verdict) in
        let n = opening-number t e g k o (action-sound r p own) in
        let l = opening-below p (ap opens own ∙ o) in
        absurd (omega arith)
    other false z = refl
opening-at {A = A} f d t k {e = e} {g = g} sounds.none x7 own o = elim x7 [ ]

upload-opening : (k : Action) → is_upload_opening k ≡ true → (n : ℕ) × (k ≡ action.Upload (up.Opened n))
upload-opening (action.Upload (up.Opened n)) z = (n, refl)
upload-opening (action.Upload up.Took) z = never z
upload-opening (action.Upload up.TookLast) z = never z
upload-opening (action.Upload (up.Point k)) z = never z
upload-opening (action.Upload (up.Cancelled c)) z = never z
upload-opening (action.Download (down.Opened n)) z = never z
upload-opening (action.Download (down.Delivered n)) z = never z
upload-opening (action.Download (down.SentAgain n)) z = never z
upload-opening (action.Download (down.Point d)) z = never z
upload-opening (action.Download down.Cancelled) z = never z
upload-opening (action.Download down.Confirmed) z = never z
upload-opening (action.Download down.Declined) z = never z

pub owner-is : (t : Bits128) {h : List Exchange} → AllSound h → owner_of t h ≡ opened_by t h
owner-is t r = at-opened (λ (e : Exchange). subscriber e.request) 0 t r

-- the exchange e, with g before it, opened the upload t of the subscriber s with the number n
pub record OpensAs (s n : ℕ) (t : Bits128) (h : List Exchange) : Type 0 where
  pub exchange : Exchange
  pub before : List Exchange
  pub stands : Stands exchange before h
  pub is : exchange.verdict ≡ verdict.Of t (action.Upload (up.Opened n))
  pub owner : subscriber exchange.request ≡ s

abbrev pub order-older : {s n : ℕ} {t : Bits128} {h : List Exchange} (e : Exchange) → OpensAs s n t h → OpensAs s n t (e ∷ h)
order-older e o =
    record { exchange = o.exchange; before = o.before; stands = older o.stands; is = o.is; owner = o.owner }

-- the order number of an upload is that of its opening's verdict
pub order_is : (t : Bits128) {h : List Exchange} → AllSound h → ever is_upload_opening t h ≡ true → order_of t h ≡ number_at t h
order_is t {h} r z =
    let p = ever-stands is_upload_opening t h z in
    let e = p.0 in
    let g = p.1 in
    let a = p.3 in
    let n = upload-opening a.action a.kind in
    let own : e.verdict ≡ verdict.Of t (action.Upload (up.Opened n.0)) = a.is ∙ ap (verdict.Of t) n.1 in
    opening-at (λ (x : Exchange). number_given x) 0 t (action.Upload (up.Opened n.0)) r p.2 own refl
    ∙ (number-given (sound-at r p.2) own
    ∙ (sym (ap number_in own)
    ∙ (sym (opening-at (λ (x : Exchange). number_in x.verdict) 0 t (action.Upload (up.Opened n.0)) r
    p.2 own refl)
    ∙ at-opened (λ (x : Exchange). number_in x.verdict) 0 t r)))

-- the exchange that opened an upload
pub opened-order : (t : Bits128) {h : List Exchange} → AllSound h → ever is_upload_opening t h ≡ true →
    OpensAs (owner_of t h) (order_of t h) t h
opened-order t {h} r z =
    let p = ever-stands is_upload_opening t h z in
    let a = p.3 in
    let n = upload-opening a.action a.kind in
    let own : p.0.verdict ≡ verdict.Of t (action.Upload (up.Opened n.0)) = a.is ∙ ap (verdict.Of t) n.1 in
    let order : order_of t h ≡ n.0 = order_is t r z ∙ (sym (at-opened (λ (x : Exchange). number_in x.verdict) 0 t r)
    ∙ (opening-at (λ (x : Exchange). number_in x.verdict) 0 t (action.Upload (up.Opened n.0)) r
    p.2 own refl ∙ ap number_in own)) in
    record {
      exchange = p.0;
      before = p.1;
      stands = p.2;
      is = own ∙ ap (λ (m : ℕ). verdict.Of t (action.Upload (up.Opened m))) (sym order);
      owner = sym (opening-at (λ (x : Exchange). subscriber x.request) 0 t
          (action.Upload (up.Opened n.0)) r p.2 own refl);
    }

-- it is the one that the replies tell
pub opened-as : {s n : ℕ} {t : Bits128} {h : List Exchange} → AllSound h → OpensAs s n t h → (owner_of t h ≡ s) × (order_of t h ≡ n)
opened-as {s} {n} {t} r o =
    let k = action.Upload (up.Opened n) in (
      opening-at (λ (x : Exchange). subscriber x.request) 0 t k r o.stands o.is refl ∙ o.owner,
      opening-at (λ (x : Exchange). number_given x) 0 t k r o.stands o.is refl
          ∙ number-given (sound-at r o.stands) o.is,
    )

-- whether it is an upload
pub upload-id : (t : Bits128) {h : List Exchange} → AllSound h → ever is_upload_opening t h ≡ true → is_upload_id t h ≡ true
upload-id t {h} r z =
    let p = ever-stands is_upload_opening t h z in
    let a = p.3 in
    let o = or_left (is_upload_opening a.action) (is_download_opening a.action) a.kind in
    opening-at (λ (x : Exchange). is_upload_opened x) false t a.action r p.2 a.is o
    ∙ (upload-opened (sound-at r p.2) a.is ∙ a.kind)

pub download-id : (t : Bits128) {h : List Exchange} → AllSound h → ever is_download_opening t h ≡ true →
    is_upload_id t h ≡ false
download-id t {h} r z =
    let p = ever-stands is_download_opening t h z in
    let a = p.3 in
    let o = or_right (is_upload_opening a.action) (is_download_opening a.action) a.kind in
    opening-at (λ (x : Exchange). is_upload_opened x) false t a.action r p.2 a.is o
    ∙ (upload-opened (sound-at r p.2) a.is ∙ not-both a.action a.kind)
  where
    not-both : (k : Action) → is_download_opening k ≡ true → is_upload_opening k ≡ false
    not-both (action.Upload (up.Opened n)) y = never y
    not-both (action.Upload up.Took) y = refl
    not-both (action.Upload up.TookLast) y = refl
    not-both (action.Upload (up.Point k)) y = refl
    not-both (action.Upload (up.Cancelled c)) y = refl
    not-both (action.Download (down.Opened n)) y = refl
    not-both (action.Download (down.Delivered n)) y = refl
    not-both (action.Download (down.SentAgain n)) y = refl
    not-both (action.Download (down.Point d)) y = refl
    not-both (action.Download down.Cancelled) y = refl
    not-both (action.Download down.Confirmed) y = refl
    not-both (action.Download down.Declined) y = refl

-- ---- an idle upload of the bank is one by the history

-- an idle upload, by how it stands
pub idle-status : (clock : ℕ) (x : Status) → is_idle_upload_at clock x ≡ true →
    (s : ℕ) × (last : ℕ) × (x ≡ Open direction.Upload s last) × (is_idle clock last ≡ true)
idle-status clock NotOpened z = never z
idle-status clock (Open direction.Upload s last) z = (s, last, refl, z)
idle-status clock (Open direction.Download s last) z = never z
idle-status clock Booked z = never z
idle-status clock Fetched z = never z
idle-status clock Skipped z = never z
idle-status clock EndedByReceipt z = never z
idle-status clock Cancelled z = never z
idle-status clock Dropped z = never z

module _ (w : BankState) (h : List Exchange) (v : Invariant w h) (told : Told w (λ (t : Bits128). status t h)) (clock : ℕ) where
  abbrev idle : Place → Bool
  idle p = is_idle_upload clock p

  idle-used : (p : Place) → idle p ≡ true → is_free p.used ≡ false
  idle-used p z = open-used p.used (and-true (is_open p.used) (is_idle clock p.last) z).0

  dropped-apart : Apart (keep idle w.bank.places)
  dropped-apart = apart-keep idle idle-used w.bank.places
      (λ i j a b f g z. let l = v.state.sizes.places in v.state.places_apart i j (omega arith) (omega arith) f g (inl z))

  -- what the history tells of a place that is dropped
  abbrev Told-of : Place → Type 0
  Told-of p = (status p.transaction h ≡ Open direction.Upload p.subscriber p.last)
      × (is_idle clock p.last ≡ true) × (owner_of p.transaction h ≡ p.subscriber)
      × (order_of p.transaction h ≡ p.number) × In p.transaction (openings h)
      × (ever is_upload_opening p.transaction h ≡ true)

  place-told : (i : ℕ) → i < place_count → idle (place_at w.bank i) ≡ true → Told-of (place_at w.bank i)
  place-told i a z =
      let p = place_at w.bank i in
      let b = and-true (is_open p.used) (is_idle clock p.last) z in
      let u = is_open_lem p.used b.0 in
      let k : UploadTold h p (part_at w.orders i) =
      subst (λ (x : Use). PlaceTold x h p (part_at w.orders i)) u (v.places i a) in (
        told.places i a b.0,
        b.1,
        owner-is p.transaction v.sound ∙ k.place.owner,
        order_is p.transaction v.sound k.place.opened ∙ k.place.order,
        open-listed w h v (open-shown told (told.places i a b.0)),
        k.place.opened,
      )
    where
      is_open_lem : (x : Use) → is_open x ≡ true → x ≡ uses.Open
      is_open_lem uses.Free y = never y
      is_open_lem uses.Open y = refl
      is_open_lem uses.Booked y = never y

  dropped-told : (p : Place) → In p (dropped_uploads clock w.bank) → Told-of p
  unfolding dropped_uploads
  dropped-told p i =
      let k = keep-in idle w.bank.places (by_in (keep idle w.bank.places) i) in
      let x = in-row no_place k.0 in
      let same : place_at w.bank x.0 ≡ p = x.2 in
      subst Told-of same
      (place-told x.0 (let l = v.state.sizes.places in let a = x.1 in omega arith) (ap idle same ∙ k.1))

  abbrev idle_by : Bits128 → Bool
  idle_by t = is_idle_upload_at clock (standing t h)

  dropped-listed : (t : Bits128) → In t (map id_of (dropped_uploads clock w.bank)) → In t (upload_drops clock h)
  unfolding upload_drops
  dropped-listed t i =
      let m = of_map id_of (dropped_uploads clock w.bank) i in
      let k = dropped-told m.0 m.1 in
      let in_all : In m.0.transaction (opened_ids h) =
      subst (λ (l : List Bits128). In m.0.transaction l) (sym (opened-ids v.sound)) k.4 in
      subst (λ (u : Bits128). In u (keep idle_by (opened_ids h))) m.2
      (in-keep idle_by (opened_ids h) in_all
      (ap (is_idle_upload_at clock) (standing-is m.0.transaction v.sound ∙ k.0) ∙ k.1))

  upload-dropped : (t : Bits128) {d : Direction} {s last : ℕ} → d ≡ direction.Upload → is_idle clock last ≡ true →
      OpenAs w t d s last → In t (map id_of (dropped_uploads clock w.bank))
  unfolding dropped_uploads
  upload-dropped t {d} {s} {last} y z (upload u) =
      let p = place_at w.bank u.place in
      let passes : idle p ≡ true = ap (λ (x : Use). is_open x && is_idle clock p.last) u.used
      ∙ (ap (is_idle clock) u.fitting ∙ z) in
      subst (λ (i : Bits128). In i (map id_of (dropped_uploads clock w.bank))) u.transaction
      (in_map id_of (in-by (keep idle w.bank.places) (in-keep idle w.bank.places
      (row_in no_place w.bank.places u.place (let l = v.state.sizes.places in let a = u.inside in omega arith)) passes)))
  upload-dropped t y z (download u) = absurd (let x : ◌≡◌ {A = ℕ} 0 1 = cc in omega arith)

  listed-dropped : (t : Bits128) → In t (upload_drops clock h) → In t (map id_of (dropped_uploads clock w.bank))
  unfolding upload_drops
  listed-dropped t i =
      let k = keep-in idle_by (opened_ids h) i in
      let o = idle-status clock (standing t h) k.1 in
      upload-dropped t refl o.3 (open-shown told (sym (standing-is t v.sound) ∙ o.2))

  drops-rising : Rising 0 (upload_drops clock h)
  unfolding upload_drops
  drops-rising =
      subst (λ (l : List Bits128). Rising 0 (keep idle_by l)) (sym (opened-ids v.sound))
      (rising-keep idle_by 0 (omega arith) (opened-numbered v.sound).0)

  dropped-rising : Rising 0 (map id_of (dropped_uploads clock w.bank))
  unfolding dropped_uploads
  dropped-rising = rising-by dropped-apart

  -- both are in the order of the openings
  pub same-drops : map id_of (dropped_uploads clock w.bank) ≡ upload_drops clock h
  same-drops = same-rising dropped-rising drops-rising dropped-listed listed-dropped

  entries_by : (l : List Place) → ((p : Place) → In p l → Told-of p) →
      map drop_entry l ≡ map (λ (t : Bits128). entry_of kind.Dropped t h) (map id_of l)
  entries_by [] f = refl
  entries_by (p ∷ l) f =
      let k = f p (here refl) in
      let same : drop_entry p ≡ entry_of kind.Dropped p.transaction h = rw (k.2, k.3) in
      ap (λ (x : Entry). x ∷ map drop_entry l) same
      ∙ ap (λ (x : List Entry). entry_of kind.Dropped p.transaction h ∷ x) (entries_by l (λ r i. f r (there i)))

  -- with subscriber and order number of the opening
  pub same_entries : map drop_entry (dropped_uploads clock w.bank) ≡ map (λ (t : Bits128). entry_of kind.Dropped t h)
      (upload_drops clock h)
  same_entries =
      entries_by (dropped_uploads clock w.bank) dropped-told
      ∙ ap (map (λ (t : Bits128). entry_of kind.Dropped t h)) same-drops

  -- an upload that is dropped was opened, and is open by the history
  pub drop-told : (t : Bits128) → In t (upload_drops clock h) →
      (ever is_upload_opening t h ≡ true) × (s : ℕ) × (last : ℕ) × (status t h ≡ Open direction.Upload s last)
      × (is_idle clock last ≡ true)
  drop-told t i =
      let m = of_map id_of (dropped_uploads clock w.bank) (listed-dropped t i) in
      let k = dropped-told m.0 m.1 in (
        ap (λ (u : Bits128). ever is_upload_opening u h) (sym m.2) ∙ k.5,
        m.0.subscriber,
        m.0.last,
        ap (λ (u : Bits128). status u h) (sym m.2) ∙ k.0,
        k.1,
      )
