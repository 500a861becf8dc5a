-- What a request to an open upload never does: free a place that is not zero, book an order by any segment but its next
-- and last, or make a signer. Assumes nothing.
use Prim.Native.Nat.{ℕ, ◌+◌}
use mathlib.Core.List.{List}
use mathlib.Core.Path.{◌≡◌, refl, sym, ap, ◌∙◌}
use lib.ListN.{length, replicate}
use Rattle.frame_table.specs.declared.fields.Fields.{Fields}
use Rattle.frame_table.specs.Names.{segment}
use Rattle.octets.proofs.Tests.{never}
use Rattle.bank_state.specs.declared.state.Place.{Place}
use Rattle.bank_state.specs.declared.state.Use.TheVariants.{Free, Open, Booked}
use Rattle.bank_state.specs.Search.{is_free, is_booked}
use Rattle.bank_state.specs.State.{no_place}
use Rattle.bank_verdicts.specs.declared.verdict.TransactionRequest.{TransactionRequest}
use Rattle.bank_verdicts.specs.declared.verdict.UploadAction.{UploadAction}
use Rattle.bank_verdicts.specs.declared.verdict.UploadAction.TheVariants as up
use Rattle.bank_verdicts.specs.Judgement.{judge_upload}
use Rattle.bank_uploads.specs.Uploads.{UploadStep, grown, booked, attempted, carried_out, upload_step}
use Rattle.bank_uploads.proofs.UploadVerdicts.{last_fits}

-- "place zeroed and freed"
pub record ZeroedAndFreed (s : UploadStep) (bytes : List ℕ) : Type 0 where
  pub place : s.place ≡ no_place
  pub zeros : s.bytes ≡ replicate (length bytes) 0

-- a request with the data d to the open upload in the place p of these bytes
module _ (clock : ℕ) (p : Place) (opened : p.used ≡ Open) (q : Fields) (d bytes : List ℕ) where
  not_free : {A : Type 0} → p.used ≡ Free → A
  not_free e = never (sym (ap is_free opened) ∙ ap is_free e)

  not-booked : {A : Type 0} → p.used ≡ Booked → A
  not-booked e = never (sym (ap is_booked opened) ∙ ap is_booked e)

  -- a place that a request leaves free is zero, whatever the action
  pub freed-zero : (a : UploadAction) → let s = carried_out a clock p d bytes in
      s.place.used ≡ Free → ZeroedAndFreed s bytes
  unfolding grown booked attempted
  freed-zero (up.Opened number) e = not_free e
  freed-zero up.Took e = not_free e
  freed-zero up.TookLast e = never (ap is_free e)
  freed-zero (up.Point k) e = not_free e
  freed-zero (up.Cancelled c) e = record { place = refl; zeros = refl }

  -- "Segment N books the order": a segment that is not the next one, or not the last, books nothing
  pub booked-by-last : (r : TransactionRequest) → (upload_step clock r p q d bytes).place.used ≡ Booked →
      (segment q ≡ p.taken + 1) × (segment q ≡ p.segments)
  unfolding upload_step grown booked attempted
  booked-by-last r = at (judge_upload r p q) refl
    where
      at : (a : UploadAction) → judge_upload r p q ≡ a → (carried_out a clock p d bytes).place.used ≡ Booked →
          (segment q ≡ p.taken + 1) × (segment q ≡ p.segments)
      at (up.Opened number) h e = not-booked e
      at up.Took h e = not-booked e
      at up.TookLast h e = last_fits r p q h
      at (up.Point k) h e = not-booked e
      at (up.Cancelled c) h e = never (ap is_booked e)

  -- "booking makes nobody a signer": where there are none, a request leaves none, whatever the action
  pub none-signed : p.signers ≡ 0 → (a : UploadAction) → (carried_out a clock p d bytes).place.signers ≡ 0
  unfolding grown booked attempted
  none-signed e (up.Opened number) = e
  none-signed e up.Took = e
  none-signed e up.TookLast = refl
  none-signed e (up.Point k) = e
  none-signed e (up.Cancelled c) = refl
