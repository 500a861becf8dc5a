-- One place, its bytes and the history: what is told after each verdict, and what a request to another transaction leaves.
use Prim.Native.Nat.{ℕ, ◌+◌, ◌-◌, ◌≤◌, ◌<◌}
use mathlib.Core.Bool.{Bool, true, false, cond}
use mathlib.Core.List.{List, [], ◌∷◌, ◌++◌}
use mathlib.Core.Path.{◌≡◌, refl, sym, ap, ◌∙◌}
use native.Mathlib.Omega.{arith}
use lib.ListN.{length, get_or, set, replicate, length-append}
use Rattle.frame_table.specs.declared.fields.Bits128.{Bits128}
use Rattle.octets.specs.Bytes.{overwrite}
use Rattle.message.specs.Limits.{segment_bytes, file_bytes}
use Rattle.bank_state.specs.declared.state.Place.{Place}
use Rattle.bank_state.specs.declared.state.Use.{Use}
use Rattle.bank_state.specs.declared.state.Use.TheVariants.{Free, Open, Booked}
use Rattle.bank_state.specs.Limits.{place_count}
use Rattle.bank_state.specs.Search.{is_free}
use Rattle.bank_state.specs.State.{BankState, no_place, place_at}
use Rattle.bank_state.specs.Store.{part_at}
use Rattle.bank_verdicts.specs.declared.verdict.UploadAction.{UploadAction}
use Rattle.bank_verdicts.specs.declared.verdict.UploadAction.TheVariants as up
use Rattle.bank_verdicts.specs.declared.verdict.Action.TheVariants as action
use Rattle.bank_verdicts.specs.declared.verdict.Verdict.TheVariants as verdict
use Rattle.bank_openings.specs.Openings.{new_place}
use Rattle.bank_uploads.specs.Uploads.{grown, booked, attempted}
use Rattle.bank_history.specs.History.{Exchange, number_in, upload_kind, is_upload_opening, is_booking, is_taking, is_ending, is_action, did, ever, received, segments_at}
use Rattle.bank_admitted.specs.State.{OpenPlace}
use Rattle.bank_admitted.proofs.Parts.{written_behind}
use Rattle.bank_admitted.proofs.PlaceChange.{each-place}
use Rattle.bank_history.specs.Invariant.{UsedTold, UploadTold, OrderTold, PlaceTold}
use Rattle.bank_history.proofs.Entries.{
  ever-other,
  times-other,
  received-other,
  opening-other,
  ever-own,
  times-own,
  received-own,
  opening-own,
  ever-unknown,
  times-unknown,
  received-unknown,
}

-- ---- a request to another transaction

module _ (x : Exchange) (h : List Exchange) where
  told-other : {t : Bits128} {s m n : ℕ} {bytes : List ℕ} → did is_action t x.verdict ≡ false →
      UsedTold h t s m n bytes → UsedTold (x ∷ h) t s m n bytes
  told-other {t} {s} {m} {n} none u = record {
    opened = ever-other t x h none is_upload_opening ∙ u.opened;
    owner = opening-other t x h none _ _ ∙ u.owner;
    order = opening-other t x h none _ _ ∙ u.order;
    going = ever-other t x h none is_ending ∙ u.going;
    long = ap length (received-other t x h none) ∙ u.long;
    held = u.held ∙ ap (λ (r : List ℕ). r ++ replicate (file_bytes - n) 0) (sym (received-other t x h none));
  }

  pub place-unchanged : (p : Place) (bytes : List ℕ) (u : Use) → (is_free u ≡ false → did is_action p.transaction x.verdict ≡ false) →
      PlaceTold u h p bytes → PlaceTold u (x ∷ h) p bytes
  place-unchanged p bytes Free n s = s
  place-unchanged p bytes Open n s =
      let t = p.transaction in
      record {
        place = told-other (n refl) s.place;
        size = opening-other t x h (n refl) _ _ ∙ s.size;
        takings = times-other t x h (n refl) is_taking ∙ s.takings;
        unbooked = ever-other t x h (n refl) is_booking ∙ s.unbooked;
      }
  place-unchanged p bytes Booked n s =
      let t = p.transaction in
      let same : segments_at t (x ∷ h) ≡ segments_at t h = opening-other t x h (n refl) _ _ in
      record {
        place = told-other (n refl) s.place;
        some = let k = s.some in omega (arith, same);
        few = let k = s.few in omega (arith, same);
        whole = times-other t x h (n refl) is_taking ∙ (s.whole ∙ sym same);
        least = let k = s.least in omega (arith, same);
        largest = let k = s.largest in omega (arith, same);
        booked = ever-other t x h (n refl) is_booking ∙ s.booked;
      }

-- ---- a request to this upload

module _ (x : Exchange) (h : List Exchange) {t : Bits128} {s m n : ℕ} {bytes : List ℕ} where
  -- that neither opens it, takes of it nor ends it
  told-kept : (a : UploadAction) → x.verdict ≡ verdict.Of t (action.Upload a) → (upload_kind a).opens_upload ≡ false →
      (upload_kind a).opens_download ≡ false → (upload_kind a).takes ≡ false → (upload_kind a).ends ≡ false →
      UsedTold h t s m n bytes → UsedTold (x ∷ h) t s m n bytes
  told-kept a own opens downloads takes ends u =
      let k = action.Upload a in
      let got : received t (x ∷ h) ≡ received t h =
      received-own t k x h own ∙ ap (λ (b : Bool). cond b (received t h ++ x.request_data) (received t h)) takes in
      record {
        opened = ever-own t k x h own is_upload_opening ∙ rw opens u.opened;
        owner = opening-own t k x h own _ _ ∙ rw (opens, downloads) u.owner;
        order = opening-own t k x h own _ _ ∙ rw (opens, downloads) u.order;
        going = ever-own t k x h own is_ending ∙ rw ends u.going;
        long = ap length got ∙ u.long;
        held = u.held ∙ ap (λ (r : List ℕ). r ++ replicate (file_bytes - n) 0) (sym got);
      }

  -- that has a segment taken
  told_grown : (a : UploadAction) → x.verdict ≡ verdict.Of t (action.Upload a) → (upload_kind a).opens_upload ≡ false →
      (upload_kind a).opens_download ≡ false → (upload_kind a).takes ≡ true → (upload_kind a).ends ≡ false →
      n + length x.request_data ≤ file_bytes → UsedTold h t s m n bytes →
      UsedTold (x ∷ h) t s m (n + length x.request_data) (overwrite bytes n x.request_data)
  told_grown a own opens downloads takes ends room u =
      let k = action.Upload a in
      let got : received t (x ∷ h) ≡ received t h ++ x.request_data =
      received-own t k x h own ∙ ap (λ (b : Bool). cond b (received t h ++ x.request_data) (received t h)) takes in
      record {
        opened = ever-own t k x h own is_upload_opening ∙ rw opens u.opened;
        owner = opening-own t k x h own _ _ ∙ rw (opens, downloads) u.owner;
        order = opening-own t k x h own _ _ ∙ rw (opens, downloads) u.order;
        going = ever-own t k x h own is_ending ∙ rw ends u.going;
        long = ap length got ∙ rw (length-append, u.long);
        held =
            ap (λ (l : List ℕ). overwrite l n x.request_data) u.held
            ∙ (written_behind (received t h) x.request_data n file_bytes u.long room
            ∙ ap (λ (r : List ℕ). r ++ replicate (file_bytes - (n + length x.request_data)) 0) (sym got));
      }

module _ (x : Exchange) (h : List Exchange) (p : Place) (bytes : List ℕ) where
  abbrev t : Bits128
  t = p.transaction

  -- a recovery attempt
  pub place-attempted : (k : ℕ) → x.verdict ≡ verdict.Of t (action.Upload (up.Point k)) →
      UploadTold h p bytes → UploadTold (x ∷ h) (attempted p) bytes
  unfolding attempted
  place-attempted k own l =
      let a = action.Upload (up.Point k) in
      record {
        place = told-kept x h (up.Point k) own refl refl refl refl l.place;
        size = opening-own t a x h own _ _ ∙ l.size;
        takings = times-own t a x h own is_taking ∙ l.takings;
        unbooked = ever-own t a x h own is_booking ∙ l.unbooked;
      }

  module _ (room : p.length + length x.request_data ≤ file_bytes) (l : UploadTold h p bytes) where
    abbrev written : List ℕ
    written = overwrite bytes p.length x.request_data

    -- a segment below N taken
    pub place-grown : (c : ℕ) → x.verdict ≡ verdict.Of t (action.Upload up.Took) →
        UploadTold (x ∷ h) (grown c (length x.request_data) p) written
    unfolding grown
    place-grown c own =
        let a = action.Upload up.Took in
        record {
          place = told_grown x h up.Took own refl refl refl refl room l.place;
          size = opening-own t a x h own _ _ ∙ l.size;
          takings = times-own t a x h own is_taking ∙ (let e = l.takings in omega arith);
          unbooked = ever-own t a x h own is_booking ∙ l.unbooked;
        }

    -- segment N taken: "Segment N books the order"
    pub place-booked : {c o : ℕ} → OpenPlace c o p bytes → 1 ≤ length x.request_data → length x.request_data ≤ segment_bytes →
        x.verdict ≡ verdict.Of t (action.Upload up.TookLast) → p.taken + 1 ≡ p.segments →
        OrderTold (x ∷ h) (booked (length x.request_data) p) written
    unfolding booked
    place-booked s one short own last =
        let a = action.Upload up.TookLast in
        let size : segments_at t (x ∷ h) ≡ p.segments = opening-own t a x h own _ _ ∙ l.size in
        record {
          place = told_grown x h up.TookLast own refl refl refl refl room l.place;
          some = let k = s.some in omega (arith, size);
          few = let k = s.few in omega (arith, size);
          whole = times-own t a x h own is_taking ∙ ((let e = l.takings in omega arith) ∙ sym size);
          least = let k = s.least in omega (arith, size);
          largest = let k = s.largest in omega (arith, size);
          booked = ever-own t a x h own is_booking;
        }

-- an upload just opened, with its transaction ID and its order's number
pub place_opened : (x : Exchange) (h : List Exchange) (c number : ℕ) (t : Bits128) →
    x.verdict ≡ verdict.Of t (action.Upload (up.Opened number)) → ever is_action t h ≡ false →
    UploadTold (x ∷ h) (new_place t number c x.request) (replicate file_bytes 0)
place_opened x h c number t own new =
    let a = action.Upload (up.Opened number) in
    let none : received t (x ∷ h) ≡ [] = received-own t a x h own ∙ received-unknown t h new in
    record {
      place = record {
        opened = ever-own t a x h own is_upload_opening;
        owner = opening-own t a x h own _ _;
        order = opening-own t a x h own _ _ ∙ ap number_in own;
        going = ever-own t a x h own is_ending ∙ ever-unknown t is_ending h new;
        long = ap length none;
        held = ap (λ (r : List ℕ). r ++ replicate file_bytes 0) (sym none);
      };
      size = opening-own t a x h own _ _;
      takings = times-own t a x h own is_taking ∙ times-unknown t is_taking h new;
      unbooked = ever-own t a x h own is_booking ∙ ever-unknown t is_booking h new;
    }

-- ---- every place of a bank in which one has changed

pub places-told : (g : List Exchange) (w : BankState) (i : ℕ) (p : Place) (orders bytes : List ℕ) → length w.bank.places ≡ place_count →
    i < place_count → part_at orders i ≡ bytes → ((j : ℕ) → (j ≡ i → ⊥) → part_at orders j ≡ part_at w.orders j) →
    PlaceTold p.used g p bytes →
    ((j : ℕ) → j < place_count → (j ≡ i → ⊥) → PlaceTold (place_at w.bank j).used g (place_at w.bank j) (part_at w.orders j)) →
    (j : ℕ) → j < place_count →
    let r = get_or (set w.bank.places i p) j no_place in PlaceTold r.used g r (part_at orders j)
places-told g w i p orders bytes long inside here elsewhere new others =
    each-place w i p w.bank.openings w.bank.series w.bank.nonces orders long inside
    (λ (j : ℕ) (r : Place). PlaceTold r.used g r (part_at orders j)) (rw here new) (λ j a n. rw (elsewhere j n) (others j a n))
