-- A request to an open upload keeps the invariant, whatever the verdict.
use Prim.{tt}
use Prim.Native.Nat.{ℕ, ◌+◌, ◌≤◌, ◌<◌}
use mathlib.Core.Bool.{true, false}
use mathlib.Core.List.{List, [], ◌∷◌}
use mathlib.Core.Logic.{inl, inr}
use mathlib.Core.Path.{◌≡◌, refl, sym, ap, ◌∙◌, subst}
use native.Mathlib.Omega.{arith}
use lib.ListN.{length, get_or, set, length-replicate}
use lib.Seq.{get_or-set_same, get_or-set_other}
use Rattle.frame_table.specs.declared.fields.Bits128.{Bits128}
use Rattle.frame_table.specs.declared.fields.Fields.{Fields}
use Rattle.frame_table.specs.Forms as forms
use Rattle.octets.specs.Bytes.{overwrite}
use Rattle.frame_table.specs.Names.{subscriber, transaction, segment, last_mark, form}
use Rattle.frame_table.proofs.Bits.{bits-same}
use Rattle.message.specs.declared.codes.ReturnCode.{ReturnCode}
use Rattle.message.specs.declared.codes.ReturnCode.TheVariants as code
use Rattle.message.specs.Limits.{file_bytes}
use Rattle.message.specs.OrderNumbers.{order_number_of}
use Rattle.bank_state.specs.declared.state.Place.{Place}
use Rattle.bank_state.specs.declared.state.Use.{Use}
use Rattle.bank_state.specs.declared.state.Use.TheVariants.{Open, Booked}
use Rattle.bank_state.specs.Limits.{place_count}
use Rattle.bank_state.specs.Search.{is_free, is_booked, is_upload}
use Rattle.bank_state.specs.State.{BankState, no_place, place_at, download_at, file_length}
use Rattle.bank_state.specs.Store.{part_at, with_part}
use Rattle.bank_verdicts.specs.declared.verdict.TransactionRequest.{TransactionRequest}
use Rattle.bank_verdicts.specs.declared.verdict.UploadAction.{UploadAction}
use Rattle.bank_verdicts.specs.declared.verdict.UploadAction.TheVariants as up
use Rattle.bank_verdicts.specs.declared.verdict.Action.{Action}
use Rattle.bank_verdicts.specs.declared.verdict.Action.TheVariants as action
use Rattle.bank_verdicts.specs.declared.verdict.Verdict.{Verdict}
use Rattle.bank_verdicts.specs.declared.verdict.Verdict.TheVariants as verdict
use Rattle.bank_verdicts.specs.Judgement.{upload_at}
use Rattle.bank_uploads.specs.Uploads.{grown, booked, attempted}
use Rattle.bank_steps.specs.Steps.{on_upload, carry_out}
use Rattle.bank.specs.Call.{mailbox_segment, step_by}
use Rattle.bank_admitted.specs.State.{mailbox_file, StateHolds}
use Rattle.bank_history.specs.History.{Exchange, exchange_by, upload_kind, is_booking, is_opening, opens, remembers, is_action, did, ever}
use Rattle.bank_verdicts.specs.Refusals.{cancels, is_order, find_order}
use Rattle.bank_history.specs.Sound.{SoundRequest, SoundUpload, SoundTaking, Sound, more}
use Rattle.bank_history.specs.Signatures.{is_signing_form, is_signed}
use Rattle.bank_history.specs.Invariant.{PlaceTold, BookedIn, Invariant, signers_held}
use Rattle.bank_history.proofs.Parts.{OpenUpload, PlaceKept, place_kept}
use Rattle.bank_state.proofs.Found.{upload-found}
use Rattle.bank_state.proofs.Stores.{part_same, part-other}
use Rattle.bank_verdicts.proofs.Sound.{
  Readable,
  UploadFits,
  UploadSound,
  took,
  took_last,
  upload_point,
  abort,
  underrun,
  exceeded,
}
use Rattle.bank_verdicts.proofs.Signing.{order-found}
use Rattle.bank_steps.proofs.Cases.{request_form, ToUpload}
use Rattle.bank_admitted.proofs.Held.{place-counted, order-limited}
use Rattle.bank_admitted.proofs.PlaceChange.{changed_at}
use Rattle.bank_admitted.proofs.Uploads as admitted
use Rattle.bank_history.proofs.Entries.{did-other, known_more, booked-more, booked-last, accepted-own, series-unmoved}
use Rattle.bank_history.proofs.Memory.{memory-unchanged}
use Rattle.bank_history.proofs.Places.{place-unchanged, place-attempted, place-grown, place-booked, places-told}
use Rattle.bank_history.proofs.Records.{download-unchanged}
use Rattle.bank_history.proofs.OrderNumbers.{one-order-number}
use Rattle.bank_history.proofs.Signatures.{
  signers-unchanged,
  unsigned-form,
  transaction-form,
  unbooked-signers,
  booked-signers,
}

-- the exchange of a verdict
abbrev pub entry : Verdict → BankState → Fields → List ℕ → Exchange
entry v w q d = exchange_by (step_by v w q d) w q d

-- a reply without a segment has no data
pub bare : (w : BankState) (s : ℕ) → mailbox_segment w s 0 ≡ []
unfolding mailbox_segment
bare w s = refl

-- no request to place i is one to another place or to a download
module _ (w : BankState) (h : List Exchange) (v : Invariant w h) where
  pub place_other : (i j : ℕ) (k : Action) → i < place_count → j < place_count → (j ≡ i → ⊥) → is_free (place_at w.bank i).used ≡ false →
      is_free (place_at w.bank j).used ≡ false →
      did is_action (place_at w.bank j).transaction (verdict.Of (place_at w.bank i).transaction k) ≡ false
  place_other i j k a b n e f =
      did-other (place_at w.bank j).transaction (place_at w.bank i).transaction k (λ z. n (v.state.places_apart j i b a f e (inl z)))

  pub download-other : (i j : ℕ) (k : Action) → i < place_count → is_free (place_at w.bank i).used ≡ false →
      (download_at w.bank j).used ≡ true →
      did is_action (download_at w.bank j).transaction (verdict.Of (place_at w.bank i).transaction k) ≡ false
  download-other i j k a e f =
      did-other (download_at w.bank j).transaction (place_at w.bank i).transaction k (λ z. v.state.apart i j a e f (sym z))

-- a booked place stays, where it does not change
pub booked-at : (w w' : BankState) (t : Bits128) (b : BookedIn w t) →
    place_at w'.bank b.place ≡ place_at w.bank b.place → BookedIn w' t
booked-at w w' t b e = record {
  place = b.place;
  inside = b.inside;
  used = ap (λ (r : Place). r.used) e ∙ b.used;
  same = ap (λ (r : Place). r.transaction) e ∙ b.same;
}

-- nor where another place changes
pub still-booked : (w : BankState) (i : ℕ) (p : Place) (w' : BankState) → w'.bank.places ≡ set w.bank.places i p →
    ((place_at w.bank i).used ≡ Booked → ⊥) → (t : Bits128) → BookedIn w t → BookedIn w' t
still-booked w i p w' same unbooked t b =
    let n : b.place ≡ i → ⊥ = λ z. unbooked (ap (λ (k : ℕ). (place_at w.bank k).used) (sym z) ∙ b.used) in
    booked-at w w' t b
    (ap (λ (l : List Place). get_or l b.place no_place) same ∙ get_or-set_other w.bank.places i b.place p no_place n)

-- the upload in place i changes to p with these bytes by an action k
module _ (w : BankState) (h : List Exchange) (v : Invariant w h) (i : ℕ) (inside : i < place_count) (opened : (place_at w.bank i).used ≡ Open)
    (p : Place) (bytes : List ℕ) (full : length bytes ≡ file_bytes) (k : Action) (no_opening : is_opening k ≡ false) (x : Exchange)
    (own : x.verdict ≡ verdict.Of (place_at w.bank i).transaction k) where
  abbrev before : Place
  before = place_at w.bank i

  abbrev changed : BankState
  changed = changed_at i p w.bank.openings w.bank.series w.bank.nonces (with_part w.orders i bytes) w

  upload-step : StateHolds changed → PlaceTold p.used (x ∷ h) p bytes →
      ((t : Bits128) → ever is_booking t (x ∷ h) ≡ true → BookedIn changed t) → is_signed x ≡ false →
      ((o n : ℕ) → signers_held o n changed.bank ≡ signers_held o n w.bank) → Sound x h → Invariant changed (x ∷ h)
  unfolding mailbox_file file_length
  upload-step state new booked unsigned signers sound = record {
    state = state;
    counted = v.counted ∙ sym (accepted-own _ k x h own ∙ rw no_opening refl);
    series = λ s a b. v.series s a b ∙ sym (series-unmoved s x h (ap opens own ∙ no_opening));
    places = places-told (x ∷ h) w i p (with_part w.orders i bytes) bytes v.state.sizes.places inside
        (part_same w.orders i bytes v.state.sizes.orders full inside)
        (part-other w.orders i bytes v.state.sizes.orders full inside) new
        (λ j a n. place-unchanged x h (place_at w.bank j) (part_at w.orders j) (place_at w.bank j).used
        (λ f. about (place_at w.bank j).transaction (place_other w h v i j k inside a n used f)) (v.places j a));
    downloads = λ j. download-unchanged x h (mailbox_file w (download_at w.bank j).subscriber) (download_at w.bank j)
        (download_at w.bank j).used
        (λ f. about (download_at w.bank j).transaction (download-other w h v i j k inside used f)) (v.downloads j);
    memory = memory-unchanged _ _ x h (ap remembers own ∙ no_opening) v.memory;
    known = known_more _ k x h own w.bank.openings (place-counted w v.state i inside used) v.known;
    booked = booked;
    signers = λ o n. signers o n ∙ (v.signers o n ∙ sym (signers-unchanged _ x h unsigned));
    sound = more sound v.sound;
  }
    where
      used : is_free before.used ≡ false
      used = ap is_free opened

      about : (t : Bits128) → did is_action t (verdict.Of before.transaction k) ≡ false → did is_action t x.verdict ≡ false
      about t e = ap (did is_action t) own ∙ e

module _ (w : BankState) (h : List Exchange) (v : Invariant w h) (q : Fields) (d : List ℕ) (readable : Readable q (length d))
    (inside : upload_at w.bank q < place_count)
    (found : is_upload (subscriber q) (transaction q) (place_at w.bank (upload_at w.bank q)) ≡ true)
    (other : is_signing_form (form q) ≡ false) where
  abbrev i : ℕ
  i = upload_at w.bank q

  abbrev old : Place
  old = place_at w.bank i

  used-open : old.used ≡ Open
  used-open = admitted.used-open w v.state q d readable inside found

  upload-open : OpenUpload w.bank.clock w.bank.openings h old (part_at w.orders i)
  upload-open = subst (λ (u : Use). PlaceKept u w.bank.clock w.bank.openings h old (part_at w.orders i)) used-open
      (place_kept v i inside)

  not-booked : old.used ≡ Booked → ⊥
  not-booked e = let z : ◌≡◌ {A = ℕ} 0 1 = clash (sym used-open ∙ e) in omega arith
    where
      clash : ◌≡◌ {A = Use} Open Booked → ◌≡◌ {A = ℕ} 0 1
      clash z = cc

  -- the verdict of an action, what it leaves, and its exchange
  abbrev by : UploadAction → Verdict
  by a = verdict.Of old.transaction (action.Upload a)

  abbrev left : UploadAction → BankState
  left a = on_upload a i w d

  abbrev now : UploadAction → Exchange
  now a = entry (by a) w q d

  part-long : length (part_at w.orders i) ≡ file_bytes
  part-long = admitted.part-long w v.state q d readable inside found

  -- what was booked stays, where the action books nothing
  others-booked : (a : UploadAction) → (upload_kind a).books ≡ false → (t : Bits128) → ever is_booking t (now a ∷ h) ≡ true →
      BookedIn (left a) t
  others-booked a e t g =
      still-booked w i _ (left a) refl not-booked t
      (v.booked t (booked-more old.transaction (action.Upload a) (now a) h refl e t g))

  -- the bank in which the place is another
  abbrev having : Place → BankState
  having p = changed_at i p w.bank.openings w.bank.series w.bank.nonces w.orders w

  listed : i < length w.bank.places
  listed = let l = v.state.sizes.places in omega arith

  -- every order has its signers as before, where the place is not booked after either
  signers-stay : (p : Place) → is_booked p.used ≡ false → (o n : ℕ) →
      signers_held o n (having p).bank ≡ signers_held o n w.bank
  unfolding find_order
  signers-stay p unbooked o n = unbooked-signers o n w.bank.places i p listed (ap is_booked used-open) unbooked

  -- and where it is booked with no signers: no other place has an order of that name
  signers-booked : (p : Place) → p.subscriber ≡ old.subscriber → p.number ≡ old.number → p.signers ≡ 0 → (o n : ℕ) →
      signers_held o n (having p).bank ≡ signers_held o n w.bank
  unfolding find_order
  signers-booked p owned numbered none o n =
      booked-signers o n w.bank.places i p listed (ap is_booked used-open) none apart
    where
      used : is_free old.used ≡ false
      used = ap is_free used-open

      apart : (j : ℕ) → j < length w.bank.places → (j ≡ i → ⊥) → is_order o n p ≡ true →
          is_order o n (place_at w.bank j) ≡ true → ⊥
      apart j a z e g =
          let b : j < place_count = (let l = v.state.sizes.places in omega arith) in
          let mine = order-found o n p e in
          let its = order-found o n (place_at w.bank j) g in
          let taken : is_free (place_at w.bank j).used ≡ false = ap is_free its.0 in
          z (v.state.places_apart j i b inside taken used (inr (
            its.1 ∙ (sym mine.1 ∙ owned),
            one-order-number _ _ (order-limited w v.state j b taken) (order-limited w v.state i inside used)
                (its.2 ∙ (sym mine.2 ∙ ap order_number_of numbered)),
          )))

  sound-request : (a : UploadAction) → SoundRequest old.transaction (now a) h
  sound-request a =
      let f = upload-found (subscriber q) (transaction q) old found in
      record {
        same = bits-same old.transaction (transaction q) f.2;
        owner = upload-open.1.place.owner ∙ f.1;
        going = upload-open.1.place.going;
        unbooked = upload-open.1.unbooked;
      }

  sound-upload : (a : UploadAction) → SoundUpload old.transaction (now a) h
  sound-upload a = record { request = sound-request a; opened = upload-open.1.place.opened; bare = bare w (subscriber q) }

  -- a segment taken
  module _ (asked : form q ≡ forms.UploadTransfer) (some : 1 ≤ length d) (next : segment q ≡ old.taken + 1) where
    -- the place has room for it
    room : old.length + length d ≤ file_bytes
    room = admitted.room w v.state q d readable inside found some next

    sound-taking : (a : UploadAction) → SoundTaking old.transaction (now a) h
    sound-taking a = record {
      upload = sound-upload a;
      asked = asked;
      next = let e = upload-open.1.takings in omega arith;
      short = readable.short;
    }

    full : length (overwrite (part_at w.orders i) old.length d) ≡ file_bytes
    full = admitted.full w v.state q d readable inside found some next

    took-keeps : StateHolds (left up.Took) → (segment q ≡ old.segments → ⊥) → (segment q < old.segments → last_mark q ≡ 1 → ⊥) →
        Invariant (left up.Took) (now up.Took ∷ h)
    unfolding grown
    took-keeps state below early =
        upload-step w h v i inside used-open _ _ full (action.Upload up.Took) refl (now up.Took) refl state
        (subst (λ (u : Use). PlaceTold u (now up.Took ∷ h) (grown w.bank.clock (length d) old)
        (overwrite (part_at w.orders i) old.length d)) (sym used-open)
        (place-grown (now up.Took) h old (part_at w.orders i) room upload-open.1 w.bank.clock refl))
        (others-booked up.Took refl) (unsigned-form (now up.Took) other) (signers-stay _ (ap is_booked used-open))
        (record {
          reply = refl;
          verdict = let l : segment q < old.segments = (let b = upload-open.0.below in omega arith) in
              let z = upload-open.1.size in
              record { taking = sound-taking up.Took; below = omega arith; mark = early l };
        })

    last-booked : (t : Bits128) → ever is_booking t (now up.TookLast ∷ h) ≡ true → BookedIn (left up.TookLast) t
    unfolding booked
    last-booked =
        booked-last old.transaction (now up.TookLast) h refl (BookedIn (left up.TookLast))
        (record { place = i; inside = inside; used = ap (λ (r : Place). r.used) here; same = ap (λ (r : Place). r.transaction) here })
        (λ t g. still-booked w i _ (left up.TookLast) refl not-booked t (v.booked t g))
      where
        here : place_at (left up.TookLast).bank i ≡ booked (length d) old
        here = get_or-set_same w.bank.places i _ no_place (let z = v.state.sizes.places in omega arith)

    took-last-keeps : StateHolds (left up.TookLast) → segment q ≡ old.segments → (last_mark q ≡ 0 → ⊥) →
        Invariant (left up.TookLast) (now up.TookLast ∷ h)
    unfolding booked
    took-last-keeps state last mark =
        upload-step w h v i inside used-open _ _ full (action.Upload up.TookLast) refl (now up.TookLast) refl state
        (place-booked (now up.TookLast) h old (part_at w.orders i) room upload-open.1 upload-open.0 some readable.short refl
        (sym next ∙ last))
        last-booked (unsigned-form (now up.TookLast) other) (signers-booked _ refl refl refl)
        (record {
          reply = refl;
          verdict = record { taking = sound-taking up.TookLast; last = last ∙ sym upload-open.1.size; mark = mark };
        })

  -- a recovery attempt
  point-keeps : let a = up.Point old.taken in StateHolds (left a) → Invariant (left a) (now a ∷ h)
  unfolding attempted
  point-keeps state =
      let a : UploadAction = up.Point old.taken in
      upload-step w h v i inside used-open _ _ part-long (action.Upload a) refl (now a) refl state
      (subst (λ (u : Use). PlaceTold u (now a ∷ h) (attempted old) (part_at w.orders i)) (sym used-open)
      (place-attempted (now a) h old (part_at w.orders i) old.taken refl upload-open.1))
      (others-booked a refl) (unsigned-form (now a) other) (signers-stay _ (ap is_booked used-open))
      (record { reply = refl; verdict = record { upload = sound-upload a; point = sym upload-open.1.takings } })

  -- the transaction cancelled: "place zeroed and freed"
  cancel-keeps : (c : ReturnCode) → cancels c ≡ true → StateHolds (left (up.Cancelled c)) →
      Invariant (left (up.Cancelled c)) (now (up.Cancelled c) ∷ h)
  cancel-keeps c cancelling state =
      let a : UploadAction = up.Cancelled c in
      upload-step w h v i inside used-open _ _ (length-replicate (length (part_at w.orders i)) 0 ∙ part-long)
      (action.Upload a) refl (now a) refl state tt (others-booked a refl) (unsigned-form (now a) other) (signers-stay _ refl)
      (record { reply = refl; verdict = record { request = sound-request a; cancelling = cancelling; bare = bare w (subscriber q) } })

  upload-asked : {r : TransactionRequest} → form q ≡ request_form r → UploadFits r old q → form q ≡ forms.UploadTransfer
  upload-asked = admitted.upload-asked w v.state q d readable inside found

  upload-sound-keeps : {r : TransactionRequest} {a : UploadAction} → form q ≡ request_form r →
      (form q ≡ forms.UploadTransfer → 1 ≤ length d) → UploadSound r old q a → StateHolds (carry_out (by a) w q d) →
      Invariant (carry_out (by a) w q d) (now a ∷ h)
  upload-sound-keeps asked some (took f below early) state =
      let t = upload-asked asked f in took-keeps t (some t) f.next state below early
  upload-sound-keeps asked some (took_last f last mark) state =
      let t = upload-asked asked f in took-last-keeps t (some t) f.next state last mark
  upload-sound-keeps asked some (upload_point fits few) state = point-keeps state
  upload-sound-keeps asked some (abort fits many) state = cancel-keeps code.TransactionAbort refl state
  upload-sound-keeps asked some (underrun f below mark) state = cancel-keeps code.SegmentNumberUnderrun refl state
  upload-sound-keeps asked some (exceeded f last mark) state = cancel-keeps code.SegmentNumberExceeded refl state

pub upload-keeps : (w : BankState) (h : List Exchange) → Invariant w h → (q : Fields) (d : List ℕ) (r : TransactionRequest)
    (a : UploadAction) →
    (form q ≡ forms.UploadTransfer → 1 ≤ length d) → ToUpload w q d r a →
    let v = verdict.Of (place_at w.bank (upload_at w.bank q)).transaction (action.Upload a) in
    Invariant (carry_out v w q d) (entry v w q d ∷ h)
upload-keeps w h v q d r a some t =
    upload-sound-keeps w h v q d t.readable t.inside t.found (ap is_signing_form t.asked ∙ transaction-form r)
    t.asked some t.sound
    (admitted.upload-keeps w v.state q d r a some t)
