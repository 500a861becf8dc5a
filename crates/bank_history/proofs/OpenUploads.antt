-- An open upload stays open, and as it is, while no idle hour passes and no request is to it.
use Prim.Native.Nat.{ℕ, ◌+◌, max}
use mathlib.Core.Bool.{false}
use mathlib.Core.List.{List}
use mathlib.Core.Path.{◌≡◌, refl, sym, ap, ◌∙◌, subst}
use native.Mathlib.Omega.{arith}
use lib.Seq.{get_or-set_other}
use borrow.Author.Tests.{le-ltb}
use Rattle.frame_table.specs.declared.fields.Bits128.{Bits128}
use Rattle.frame_table.specs.declared.fields.Fields.{Fields}
use Rattle.frame_table.specs.Names.{order_number, owner, same_bits}
use Rattle.octets.proofs.Tests.{never, and-true-right}
use Rattle.bank_state.specs.declared.state.Place.{Place}
use Rattle.bank_state.specs.Clock.{is_idle, advanced}
use Rattle.bank_state.specs.Limits.{idle_limit}
use Rattle.bank_state.specs.Search.{is_free, is_booked, free_place}
use Rattle.bank_state.specs.State.{BankState, no_place, place_at}
use Rattle.bank_state.proofs.Drops.{is_idle_place, Spot, advanced-spot}
use Rattle.bank_verdicts.specs.declared.verdict.DownloadAction.{DownloadAction}
use Rattle.bank_verdicts.specs.declared.verdict.DownloadAction.TheVariants as down
use Rattle.bank_verdicts.specs.declared.verdict.Verdict.{Verdict}
use Rattle.bank_verdicts.specs.Judgement.{upload_at, order_at}
use Rattle.bank_verdicts.proofs.Signing.{order-found}
use Rattle.bank_signing.specs.Signings.{sign}
use Rattle.bank_openings.specs.Openings.{counted, counted_upload, open_upload, open_download}
use Rattle.bank_steps.specs.Steps.{download_acts, carry_out}
use Rattle.bank_history.specs.History.{Exchange, is_action, did}
use Rattle.bank_admitted.specs.State.{Sizes}
use Rattle.bank_history.specs.Invariant.{Invariant}
use Rattle.bank_history.specs.Transactions.{UploadAt, UploadUnlessIdle}
use Rattle.bank_steps.proofs.Cases.{
  Happens,
  unreadable,
  refused,
  opens_upload,
  opens_download,
  signs,
  to_upload,
  to_download,
  upload-acts,
}
use Rattle.bank_history.proofs.Entries.{same_bits_lem}
use Rattle.bank_admitted.proofs.Clock.{sized, advanced-clock}
use Rattle.bank_admitted.proofs.Openings.{free-passes}

-- the same place, as it was
pub upload-moved : {w w' : BankState} {t : Bits128} {s k n last : ℕ} → (u : UploadAt w t s k n last) →
    place_at w'.bank u.place ≡ place_at w.bank u.place → UploadAt w' t s k n last
upload-moved u e = record {
  place = u.place;
  inside = u.inside;
  used = ap (λ (r : Place). r.used) e ∙ u.used;
  transaction = ap (λ (r : Place). r.transaction) e ∙ u.transaction;
  subscriber = ap (λ (r : Place). r.subscriber) e ∙ u.subscriber;
  taken = ap (λ (r : Place). r.taken) e ∙ u.taken;
  segments = ap (λ (r : Place). r.segments) e ∙ u.segments;
  fitting = ap (λ (r : Place). r.last) e ∙ u.fitting;
}

module _ (t : Bits128) (s k n last : ℕ) where
  -- open at the idle limit, gone after it
  pub advanced-open : (time : ℕ) (w : BankState) → Sizes w → UploadUnlessIdle w t s k n last → UploadUnlessIdle (advanced time w) t s k n last
  unfolding is_idle
  advanced-open time w sizes before h =
      let c = advanced-clock time w in
      let u = before (omega arith) in
      let z = u.fitting in
      let spot = advanced-spot time w (sized sizes) u.place u.inside in
      let m = max w.bank.clock time in
      let idle : is_idle_place m (place_at w.bank u.place) ≡ false =
      rw (u.used, le-ltb ((place_at w.bank u.place).last + idle_limit) m (omega arith)) in
      upload-moved u (ap (λ (x : Spot). x.0) (rw idle at spot))

  -- ---- a request to another transaction

  module _ (w : BankState) (h : List Exchange) (v : Invariant w h) (u : UploadAt w t s k n last) where
    -- the place of another request is another place
    other_place : (i : ℕ) (q : Bits128) → (place_at w.bank i).transaction ≡ q → same_bits t q ≡ false → u.place ≡ i → ⊥
    other_place i q e f z =
        never (sym f ∙ (ap (λ (b : Bits128). same_bits t b)
        (sym e ∙ (ap (λ (m : ℕ). (place_at w.bank m).transaction) (sym z) ∙ u.transaction)) ∙ same_bits_lem t))

    -- a request to a download leaves the places
    places-stay : (q : Fields) (i : Bits128) (a : DownloadAction) →
        place_at (download_acts a i w q).bank u.place ≡ place_at w.bank u.place
    unfolding open_download counted
    places-stay q i (down.Opened m) = refl
    places-stay q i (down.Delivered m) = refl
    places-stay q i (down.SentAgain m) = refl
    places-stay q i (down.Point m) = refl
    places-stay q i down.Cancelled = refl
    places-stay q i down.Confirmed = refl
    places-stay q i down.Declined = refl

    pub case_open : (first : ℕ) (q : Fields) (d : List ℕ) {x : Verdict} → Happens first w q d x → did is_action t x ≡ false →
        UploadAt (carry_out x w q d) t s k n last
    unfolding open_upload counted_upload open_download counted sign
    case_open first q d unreadable f = u
    case_open first q d (refused c e) f = u
    case_open first q d (signs c) f =
        upload-moved u (get_or-set_other w.bank.places (order_at w.bank q) u.place _ no_place open-unbooked)
      where
        -- the order signed is booked, and this one is open
        open-unbooked : u.place ≡ order_at w.bank q → ⊥
        open-unbooked z =
            let p = place_at w.bank (order_at w.bank q) in
            never (sym (ap is_booked u.used) ∙ (ap (λ (i : ℕ). is_booked (place_at w.bank i).used) z
            ∙ ap is_booked (order-found (owner q) (order_number q) p c.found).0))
    case_open first q d (opens_upload asked a g m inside below) f =
        upload-moved u (get_or-set_other w.bank.places (free_place w.bank) u.place _ no_place (λ z. taken_free z))
      where
        taken_free : u.place ≡ free_place w.bank → ⊥
        taken_free z =
            never (sym (ap is_free u.used)
            ∙ (ap (λ (i : ℕ). is_free (place_at w.bank i).used) z
            ∙ free-passes w.bank (let y = v.state.sizes.places in omega arith)))
    case_open first q d (opens_download asked a g m) f = upload-moved u refl
    case_open first q d (to_upload r a c) f =
        let i = upload_at w.bank q in
        subst (λ (z : BankState). UploadAt z t s k n last) (sym (upload-acts (place_at w.bank i).transaction c))
        (upload-moved u (get_or-set_other w.bank.places i u.place _ no_place
        (other_place i (place_at w.bank i).transaction refl (and-true-right (same_bits t (place_at w.bank i).transaction) ∙ f))))
    case_open first q d (to_download r a c) f = upload-moved u (places-stay q _ a)
