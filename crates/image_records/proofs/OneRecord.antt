-- What the conditions of one record say, in the page's own words: each is one of the tests that its record passes.
use Prim.Native.Nat.{ℕ, ◌+◌, ◌≤◌, ◌<◌}
use mathlib.Core.Bool.{Bool, true, false}
use mathlib.Core.Path.{◌≡◌, refl}
use native.Mathlib.Omega.{arith}
use lib.Dec.{leb, eqb}
use borrow.Author.Tests.{leb-true, ltb-true, lt-ltb, eqb-true, eqb-false, eq-eqb}
use Rattle.octets.proofs.Tests.{and-true}
use Rattle.frame_table.specs.Table.{last_time}
use Rattle.bank_state.specs.Limits.{window, series_limit}
use Rattle.image_records.specs.declared.layout.NonceRecord.{NonceRecord}
use Rattle.image_records.specs.declared.layout.DownloadRecord.{DownloadRecord}
use Rattle.image_records.specs.declared.layout.PlaceRecord.{PlaceRecord}
use Rattle.image_records.specs.declared.layout.EventRecord.{EventRecord}
use Rattle.image_records.specs.Layout.{open_state, booked_state}
use Rattle.image_records.specs.Records.{
  last_kind,
  fit_time,
  nonce_time,
  download_subscriber,
  download_delivered,
  download_attempts,
  download_time,
  download_holds,
  is_open,
  is_booked,
  place_state,
  place_free,
  place_subscriber,
  place_number,
  place_order,
  upload_segments,
  upload_taken,
  upload_attempts,
  upload_time,
  upload_length,
  upload_signers,
  booked_length,
  booked_rest,
  place_holds,
  event_number,
  event_clock,
  event_subscriber,
  event_type,
  event_order,
  event_running,
  event_kind,
  event_holds,
}
use Rattle.image_records.proofs.General.{implied}

-- ---- a nonce in use

module _ (now : ℕ) (n : NonceRecord) (h : nonce_time now n ≡ true) where
  -- "each timestamp .. at most clock + window"
  pub nonce-ahead : n.timestamp ≤ now + window
  nonce-ahead =
      let t = n.timestamp in
      leb-true t (now + window) (and-true (leb t (now + window)) _ (and-true (leb now (t + window)) _ h).1).0

  -- "and at most the last time"
  pub nonce-time : n.timestamp ≤ last_time
  nonce-time =
      let t = n.timestamp in
      let a = and-true (leb now (t + window)) _ h in
      let b = and-true (leb t (now + window)) _ a.1 in
      leb-true t last_time (and-true (leb t last_time) _ b.1).0

-- ---- an open download

fit-time : (now last : ℕ) → fit_time now last ≡ true → last ≤ now
fit-time now last h = leb-true last now (and-true (leb last now) _ h).0

-- "last fit is at most clock"
pub download-time : (now opened file : ℕ) (d : DownloadRecord) → download_holds now opened file d ≡ true → d.last ≤ now
download-time now opened file d h =
    let a = and-true (download_subscriber d) _ h in
    let b = and-true (download_delivered file d) _ a.1 in
    let c = and-true (download_attempts d) _ b.1 in
    fit-time now d.last (and-true (download_time now d) _ c.1).0

-- ---- a place: its tests, one by one

pub record PlaceListed (now opened : ℕ) (p : PlaceRecord) : Type 0 where
  pub state : place_state p ≡ true
  pub free : place_free p ≡ true
  pub subscriber : place_subscriber p ≡ true
  pub number : place_number opened p ≡ true
  pub order : place_order p ≡ true
  pub segments : upload_segments p ≡ true
  pub taken : upload_taken p ≡ true
  pub attempts : upload_attempts p ≡ true
  pub time : upload_time now p ≡ true
  pub length : upload_length p ≡ true
  pub signers : upload_signers p ≡ true
  pub booked : booked_length p ≡ true
  pub rest : booked_rest p ≡ true

module _ (now opened : ℕ) (p : PlaceRecord) where
  pub place-listed : place_holds now opened p ≡ true → PlaceListed now opened p
  place-listed h =
      let state = and-true (place_state p) _ h in
      let free = and-true (place_free p) _ state.1 in
      let subscriber = and-true (place_subscriber p) _ free.1 in
      let number = and-true (place_number opened p) _ subscriber.1 in
      let order = and-true (place_order p) _ number.1 in
      let segments = and-true (upload_segments p) _ order.1 in
      let taken = and-true (upload_taken p) _ segments.1 in
      let attempts = and-true (upload_attempts p) _ taken.1 in
      let time = and-true (upload_time now p) _ attempts.1 in
      let length = and-true (upload_length p) _ time.1 in
      let signers = and-true (upload_signers p) _ length.1 in
      let booked = and-true (booked_length p) _ signers.1 in
      let rest = and-true (booked_rest p) true booked.1 in
      record {
        state = state.0;
        free = free.0;
        subscriber = subscriber.0;
        number = number.0;
        order = order.0;
        segments = segments.0;
        taken = taken.0;
        attempts = attempts.0;
        time = time.0;
        length = length.0;
        signers = signers.0;
        booked = booked.0;
        rest = rest.0;
      }

module _ (now opened : ℕ) (p : PlaceRecord) (l : PlaceListed now opened p) where
  free-last : p.state ≡ 0 → p.last ≡ 0
  free-last e =
      let a = and-true (eqb p.subscriber 0) _ (implied l.free (eq-eqb p.state 0 e)) in
      let b = and-true (eqb p.high 0) _ a.1 in
      let c = and-true (eqb p.low 0) _ b.1 in
      let order = and-true (eqb p.order 0) _ c.1 in
      let d = and-true (eqb p.segments 0) _ order.1 in
      let f = and-true (eqb p.taken 0) _ d.1 in
      let g = and-true (eqb p.attempts 0) _ f.1 in
      eqb-true p.last 0 (and-true (eqb p.last 0) _ g.1).0

  free-signers : p.state ≡ 0 → p.signers ≡ 0
  free-signers e =
      let a = and-true (eqb p.subscriber 0) _ (implied l.free (eq-eqb p.state 0 e)) in
      let b = and-true (eqb p.high 0) _ a.1 in
      let c = and-true (eqb p.low 0) _ b.1 in
      let order = and-true (eqb p.order 0) _ c.1 in
      let d = and-true (eqb p.segments 0) _ order.1 in
      let f = and-true (eqb p.taken 0) _ d.1 in
      let g = and-true (eqb p.attempts 0) _ f.1 in
      let last = and-true (eqb p.last 0) _ g.1 in
      let length = and-true (eqb p.length 0) _ last.1 in
      eqb-true p.signers 0 (and-true (eqb p.signers 0) true length.1).0

  booked-last : is_booked p ≡ true → p.last ≡ 0
  booked-last e =
      let a = and-true (eqb p.segments 0) _ (implied l.rest e) in
      let b = and-true (eqb p.taken 0) _ a.1 in
      let c = and-true (eqb p.attempts 0) _ b.1 in
      eqb-true p.last 0 (and-true (eqb p.last 0) true c.1).0

  -- free, open or booked
  last-by : (t u : Bool) → is_open p ≡ t → is_booked p ≡ u → p.last ≤ now
  last-by true u e f = fit-time now p.last (implied l.time e)
  last-by false true e f = omega (arith, booked-last f)
  last-by false false e f =
      let a = eqb-false p.state open_state e in
      let b = eqb-false p.state booked_state f in
      let z : p.state ≡ 0 = omega (arith, leb-true p.state booked_state l.state) in
      omega (arith, free-last z)

  -- "last fit is at most clock"
  pub place-time : p.last ≤ now
  place-time = last-by (is_open p) (is_booked p) refl refl

  -- "state 1 or 2: the order number is below" 1,213,056
  pub place-ordered : 0 < p.state → p.order < series_limit
  place-ordered used = ltb-true p.order series_limit (implied l.order (lt-ltb 0 p.state used))

-- ---- a used event

-- a used event: its tests, one by one
pub record EventListed (now opened entered i : ℕ) (before e : EventRecord) : Type 0 where
  pub number : event_number entered i e ≡ true
  pub clock : event_clock now before e ≡ true
  pub subscriber : event_subscriber e ≡ true
  pub order_type : event_type e ≡ true
  pub order : event_order e ≡ true
  pub running : event_running opened e ≡ true
  pub kind : event_kind e ≡ true

module _ (now opened entered i : ℕ) (before e : EventRecord) where
  pub event-listed : event_holds now opened entered i before e ≡ true → EventListed now opened entered i before e
  event-listed h =
      let number = and-true (event_number entered i e) _ h in
      let clock = and-true (event_clock now before e) _ number.1 in
      let subscriber = and-true (event_subscriber e) _ clock.1 in
      let order_type = and-true (event_type e) _ subscriber.1 in
      let order = and-true (event_order e) _ order_type.1 in
      let running = and-true (event_running opened e) _ order.1 in
      let kind = and-true (event_kind e) true running.1 in
      record {
        number = number.0;
        clock = clock.0;
        subscriber = subscriber.0;
        order_type = order_type.0;
        order = order.0;
        running = running.0;
        kind = kind.0;
      }

module _ (now opened entered i : ℕ) (before e : EventRecord) (l : EventListed now opened entered i before e) where
  -- "at most clock"
  pub event-time : e.clock ≤ now
  event-time = leb-true e.clock now (and-true (leb e.clock now) _ l.clock).0

  -- "running is below openings"
  pub event-opened : e.low < opened
  event-opened = ltb-true e.low opened l.running

  -- "1 to 5"
  pub event-kinds : e.kind ≤ last_kind
  event-kinds = leb-true e.kind last_kind (and-true (leb 1 e.kind) _ l.kind).1

-- "state 1: signers are 0"; a free place has none either, as every part of it is 0
pub only-booked : (now opened : ℕ) (p : PlaceRecord) → PlaceListed now opened p
    → (p.state ≡ booked_state → ⊥) → p.signers ≡ 0
only-booked now opened p l other = at (is_open p) refl
  where
    at : (t : Bool) → is_open p ≡ t → p.signers ≡ 0
    at true e = eqb-true p.signers 0 (implied l.signers e)
    at false e =
        let z : p.state ≡ 0 = omega (arith, leb-true p.state booked_state l.state, eqb-false p.state open_state e, other) in
        free-signers now opened p l z
