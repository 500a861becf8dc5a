-- A request to an open upload keeps what the state may hold, whatever the verdict.
use Prim.Native.Nat.{ℕ, ◌+◌, ◌≤◌, ◌<◌}
use mathlib.Core.Bool.{true, false, ◌&&◌}
use mathlib.Core.List.{List}
use mathlib.Core.Logic.{inl, inr}
use mathlib.Core.Path.{◌≡◌, refl, sym, ap, ◌∙◌, subst}
use native.Mathlib.Omega.{arith}
use lib.Dec.{eqb}
use lib.ListN.{length, replicate, length-replicate}
use Rattle.frame_table.specs.declared.fields.Fields.{Fields}
use Rattle.frame_table.specs.Forms as forms
use Rattle.frame_table.specs.Names.{subscriber, transaction, segment, form}
use Rattle.octets.specs.Bytes.{overwrite}
use Rattle.octets.proofs.Numbers.{length-overwrite}
use Rattle.octets.proofs.Tests.{never, and-true}
use Rattle.message.specs.declared.codes.ReturnCode.{ReturnCode}
use Rattle.message.specs.declared.codes.ReturnCode.TheVariants as code
use Rattle.message.specs.Limits.{file_bytes, max_attempts}
use Rattle.bank_state.specs.declared.state.Place.{Place}
use Rattle.bank_state.specs.declared.state.Use.{Use}
use Rattle.bank_state.specs.declared.state.Use.TheVariants.{Open}
use Rattle.bank_state.specs.Limits.{place_count}
use Rattle.bank_state.specs.Search.{is_free, is_open, is_upload, open_count, open_count_of}
use Rattle.bank_state.specs.State.{BankState, no_place, place_at}
use Rattle.bank_state.specs.Store.{part_at, with_part}
use Rattle.bank_state.proofs.Found.{upload-found}
use Rattle.bank_state.proofs.Stores.{length-with_part, part_same, part-other}
use Rattle.bank_verdicts.specs.declared.verdict.TransactionRequest.{TransactionRequest}
use Rattle.bank_verdicts.specs.declared.verdict.UploadAction.{UploadAction}
use Rattle.bank_verdicts.specs.declared.verdict.UploadAction.TheVariants as up
use Rattle.bank_verdicts.specs.declared.verdict.Action.TheVariants as action
use Rattle.bank_verdicts.specs.declared.verdict.Verdict.TheVariants as verdict
use Rattle.bank_verdicts.specs.Judgement.{upload_at}
use Rattle.bank_verdicts.proofs.Sound.{
  Readable,
  UploadFits,
  UploadSound,
  took,
  took_last,
  upload_point,
  abort,
  underrun,
  exceeded,
}
use Rattle.bank_uploads.specs.Uploads.{grown, booked, attempted}
use Rattle.bank_steps.specs.Steps.{on_upload, carry_out}
use Rattle.bank_admitted.specs.State.{OpenPlace, PlaceHolds, Alike, StateHolds}
use Rattle.bank_state.proofs.Stores.{length_part}
use Rattle.bank_admitted.proofs.Rows.{count-set-le}
use Rattle.bank_steps.proofs.Cases.{request_form, ToUpload}
use Rattle.bank_admitted.proofs.Parts.{place-attempted, place-grown, place-booked}
use Rattle.bank_admitted.proofs.Ahead.{kept-holds, ahead-stays}
use Rattle.bank_admitted.proofs.Held.{open-in-use}
use Rattle.bank_admitted.proofs.PlaceChange.{changed_at, place-change}

-- the upload in place i changes to p with these bytes
module _ (w : BankState) (v : StateHolds w) (i : ℕ) (inside : i < place_count) (opened : (place_at w.bank i).used ≡ Open) (p : Place)
    (bytes : List ℕ) (full : length bytes ≡ file_bytes) where
  abbrev before : Place
  before = place_at w.bank i

  -- a place in use stays that of its transaction, its subscriber and its order
  abbrev Same : Type 0
  Same = is_free p.used ≡ false → (p.transaction.low ≡ before.transaction.low) × (p.subscriber ≡ before.subscriber) ×
      (p.number ≡ before.number)

  alike : Same → is_free p.used ≡ false → (r : Place) → Alike p r → Alike r before
  alike same f r (inl e) = inl (sym e ∙ (same f).0)
  alike same f r (inr (s, n)) = inr (sym s ∙ (same f).1, sym n ∙ (same f).2)

  upload-step : PlaceHolds p.used w.bank.clock w.bank.openings p bytes → Same →
      StateHolds (changed_at i p w.bank.openings w.bank.series w.bank.nonces (with_part w.orders i bytes) w)
  unfolding open_count open_count_of
  upload-step new same =
      place-change w i p w.bank.openings w.bank.series w.bank.nonces (with_part w.orders i bytes) v (record {
        bytes = bytes;
        inside = inside;
        stored = length-with_part w.orders i bytes v.sizes.orders full inside ∙ v.sizes.orders;
        here = part_same w.orders i bytes v.sizes.orders full inside;
        elsewhere = part-other w.orders i bytes v.sizes.orders full inside;
        remembered = v.sizes.nonces;
        memory = v.nonces;
        grow = omega arith;
        numbers = v.numbers;
        counters = v.sizes.series;
        series_hold = kept-holds w.bank.openings i p v.series
            (ahead-stays w.bank.series before p (λ f. (used, (same f).1, (same f).2)));
        new = new;
        order = λ f. rw (same f).2 (v.orders i inside used);
        apart_place = λ j a n f g e. n (v.places_apart j i a inside g used (alike same f (place_at w.bank j) e));
        apart_download = λ j f g e. v.apart i j inside used g (sym (same f).0 ∙ e);
        open_all = let m = count-set-le (λ (r : Place). is_open r.used) w.bank.places i p no_place (λ _. ap is_open opened) in omega
            (arith, v.open_all);
        open_of = λ s. let m = count-set-le (λ (r : Place). is_open r.used && eqb r.subscriber s) w.bank.places i p no_place
            (of s) in
            omega (arith, v.open_of s);
      })
    where
      used : is_free before.used ≡ false
      used = ap is_free opened

      of : (s : ℕ) → is_open p.used && eqb p.subscriber s ≡ true → is_open before.used && eqb before.subscriber s ≡ true
      of s e =
          let a = and-true (is_open p.used) (eqb p.subscriber s) e in
          rw (opened, sym (same (open-in-use p.used a.0)).1) a.1

module _ (w : BankState) (v : StateHolds w) (q : Fields) (d : List ℕ) (readable : Readable q (length d))
    (inside : upload_at w.bank q < place_count)
    (found : is_upload (subscriber q) (transaction q) (place_at w.bank (upload_at w.bank q)) ≡ true) where
  abbrev i : ℕ
  i = upload_at w.bank q

  abbrev old : Place
  old = place_at w.bank i

  pub used-open : old.used ≡ Open
  used-open = (upload-found (subscriber q) (transaction q) old found).0

  pub upload-open : OpenPlace w.bank.clock w.bank.openings old (part_at w.orders i)
  upload-open = subst (λ (u : Use). PlaceHolds u w.bank.clock w.bank.openings old (part_at w.orders i)) used-open
      (v.places i inside)

  pub part-long : length (part_at w.orders i) ≡ file_bytes
  part-long = length_part w.orders v.sizes.orders i inside

  -- what an action leaves
  abbrev left : UploadAction → BankState
  left a = on_upload a i w d

  -- a segment taken
  module _ (some : 1 ≤ length d) (next : segment q ≡ old.taken + 1) where
    -- the place has room for it
    pub room : old.length + length d ≤ file_bytes
    room =
        let o = upload-open in
        let a = o.below in
        let b = o.few in
        let c = o.largest in
        let e = readable.short in
        omega arith

    pub full : length (overwrite (part_at w.orders i) old.length d) ≡ file_bytes
    full =
        let l = part-long in
        let r = room in
        length-overwrite (part_at w.orders i) old.length d (omega arith) ∙ l

    took-keeps : (segment q ≡ old.segments → ⊥) → StateHolds (left up.Took)
    unfolding grown
    took-keeps below =
        upload-step w v i inside used-open _ _ full
        (subst (λ (u : Use). PlaceHolds u w.bank.clock w.bank.openings (grown w.bank.clock (length d) old)
        (overwrite (part_at w.orders i) old.length d)) (sym used-open)
        (place-grown w.bank.openings old (part_at w.orders i) w.bank.clock upload-open d some readable.short room part-long
        (λ e. below (next ∙ e))))
        (λ _. (refl, refl, refl))

    took-last-keeps : StateHolds (left up.TookLast)
    unfolding booked
    took-last-keeps =
        upload-step w v i inside used-open _ _ full
        (place-booked w.bank.openings old (part_at w.orders i) w.bank.clock upload-open d some readable.short room part-long)
        (λ _. (refl, refl, refl))

  -- a recovery attempt
  point-keeps : old.attempts < max_attempts → StateHolds (left (up.Point old.taken))
  unfolding attempted
  point-keeps few =
      upload-step w v i inside used-open _ _ part-long
      (subst (λ (u : Use). PlaceHolds u w.bank.clock w.bank.openings (attempted old) (part_at w.orders i)) (sym used-open)
      (place-attempted w.bank.openings old (part_at w.orders i) w.bank.clock upload-open few))
      (λ _. (refl, refl, refl))

  -- the transaction cancelled: "place zeroed and freed"
  cancel-keeps : (c : ReturnCode) → StateHolds (left (up.Cancelled c))
  cancel-keeps c =
      upload-step w v i inside used-open _ _ (length-replicate (length (part_at w.orders i)) 0 ∙ part-long)
      (record { empty = refl; zeros = ap (λ (n : ℕ). replicate n 0) part-long })
      (λ e. never (sym e))

  -- only an upload transfer has a segment taken
  pub upload-asked : {r : TransactionRequest} → form q ≡ request_form r → UploadFits r old q → form q ≡ forms.UploadTransfer
  upload-asked asked f = asked ∙ ap request_form f.transfer

  upload-sound-keeps : {r : TransactionRequest} {a : UploadAction} → form q ≡ request_form r →
      (form q ≡ forms.UploadTransfer → 1 ≤ length d) → UploadSound r old q a →
      StateHolds (carry_out (verdict.Of old.transaction (action.Upload a)) w q d)
  upload-sound-keeps asked some (took f below early) = took-keeps (some (upload-asked asked f)) f.next below
  upload-sound-keeps asked some (took_last f last mark) = took-last-keeps (some (upload-asked asked f)) f.next
  upload-sound-keeps asked some (upload_point fits few) = point-keeps few
  upload-sound-keeps asked some (abort fits many) = cancel-keeps code.TransactionAbort
  upload-sound-keeps asked some (underrun f below mark) = cancel-keeps code.SegmentNumberUnderrun
  upload-sound-keeps asked some (exceeded f last mark) = cancel-keeps code.SegmentNumberExceeded

pub upload-keeps : (w : BankState) → StateHolds w → (q : Fields) (d : List ℕ) (r : TransactionRequest) (a : UploadAction) →
    (form q ≡ forms.UploadTransfer → 1 ≤ length d) → ToUpload w q d r a →
    StateHolds (carry_out (verdict.Of (place_at w.bank (upload_at w.bank q)).transaction (action.Upload a)) w q d)
upload-keeps w v q d r a some t = upload-sound-keeps w v q d t.readable t.inside t.found t.asked some t.sound
