-- The steps on lent rows: the rows after a step are those of the bank that the definition leaves. Assumes nothing.
use Prim.Native.Nat.{ℕ, ◌-◌}
use mathlib.Core.Bool.{Bool, false}
use mathlib.Core.List.{List}
use mathlib.Core.Path.{◌≡◌, refl, sym, ap, ◌∙◌}
use lib.ListN.{set}
use Rattle.frame_table.specs.declared.fields.Bits128.{Bits128}
use Rattle.frame_table.specs.declared.fields.Fields.{Fields}
use Rattle.bank_state.specs.declared.clock.Ended.{Ended}
use Rattle.bank_state.specs.State.{Bank}
use Rattle.bank_state.specs.declared.state.Place.{Place}
use Rattle.bank_state.specs.Clock.{end_downloads}
use Rattle.bank_state.specs.State.{bank_state, place_at, with_place, with_downloads, with_files}
use Rattle.bank_state.specs.Store.{part_at, with_part}
use Rattle.bank_rows.specs.State.{bank_of, stored, Laid}
use Rattle.bank_rows.proofs.Calls.{Within, within-own, within-ended, stored_next, laid_next, held-file}
use Rattle.bank_rows.proofs.State.{stored-own}
use Rattle.bank_verdicts.specs.declared.verdict.Context.{Context}
use Rattle.bank_verdicts.specs.declared.verdict.Action.{Action}
use Rattle.bank_verdicts.specs.declared.verdict.Action.TheVariants as action
use Rattle.message.specs.declared.directions.Direction.TheVariants as direction
use Rattle.bank_verdicts.specs.declared.verdict.TransactionRequest.{TransactionRequest}
use Rattle.bank_verdicts.specs.declared.verdict.SignedOrder.{SignedOrder}
use Rattle.bank_verdicts.specs.declared.verdict.Verdict.{Verdict}
use Rattle.bank_verdicts.specs.declared.verdict.Verdict.TheVariants as verdict
use Rattle.bank_verdicts.specs.Judgement.{opened_number, judge_opening, judge_signing, upload_at}
use Rattle.bank_verdicts.proofs.Signing.{is_acted, is_signed}
use Rattle.bank_openings.specs.Openings.{open_upload, open_download}
use Rattle.bank_signing.specs.Signings.{sign}
use Rattle.bank_uploads.specs.Uploads.{UploadStep, upload_step}
use Rattle.bank_steps.specs.Steps.{upload_verdict}
use Rattle.bank_steps.specs.Lent.{lent, state_of, kept_in, CarriedOut}
use Rattle.bank_steps.proofs.Carried.{of_none, signing-carried}
use Rattle.bank_steps.proofs.Carried.{upload-opened, download-opened, landed, upload-acts-at}

pub lent_same : {r s o p m n : List ℕ} → r ≡ s → o ≡ p → m ≡ n → lent r o m ≡ lent s p n
lent_same x y z = rw (x, y, z)

-- ---- nothing changed

pub unchanged : (s : List ℕ) → Laid s → (o m : List ℕ) → lent s o m ≡ kept_in (lent s o m) (state_of (lent s o m))
unchanged s l o m = ap (λ (r : List ℕ). lent r o m) (sym (stored-own s l))

pub none-carried : (v : Verdict) (s o m : List ℕ) (q : Fields) (d : List ℕ) → Laid s → is_acted v ≡ false
    → is_signed v ≡ false → CarriedOut v (lent s o m) q d v (lent s o m)
none-carried v s o m q d l x y = record {
  judged = refl;
  done = unchanged s l o m ∙ ap (kept_in (lent s o m)) (of_none v (state_of (lent s o m)) q d x y);
}

-- ---- an opening

module _ (s o m : List ℕ) (context : Context) (q : Fields) (d : List ℕ) {t : Bits128} {a : Action} {u : List ℕ} where
  pub upload-opening-carried : {n : ℕ} → judge_opening direction.Upload context (bank_of s) q ≡ verdict.Of t a
      → n ≡ opened_number a → u ≡ stored (open_upload t n q (bank_of s)) s
      → CarriedOut (judge_opening direction.Upload context (bank_of s) q) (lent s o m) q d (verdict.Of t a) (lent u o m)
  upload-opening-carried told e f = record {
    judged = sym told;
    done =
        lent_same
        (f ∙ ap (λ (k : ℕ). stored (open_upload t k q (bank_of s)) s) e) refl refl
        ∙ ap (kept_in (lent s o m)) (upload-opened context (bank_of s) q o m d told);
  }

  pub download-opening-carried : judge_opening direction.Download context (bank_of s) q ≡ verdict.Of t a
      → u ≡ stored (open_download t q (bank_of s)) s
      → CarriedOut (judge_opening direction.Download context (bank_of s) q) (lent s o m) q d (verdict.Of t a) (lent u o m)
  download-opening-carried told f = record {
    judged = sym told;
    done = lent_same f refl refl ∙ ap (kept_in (lent s o m)) (download-opened context (bank_of s) q o m d told);
  }

-- ---- a signing

pub signed-carried : (s o m : List ℕ) (q : Fields) (d : List ℕ) {r : Verdict} {n : SignedOrder} {added : Bool} {u : List ℕ}
    → r ≡ judge_signing (bank_of s) q → r ≡ verdict.Signed n added → u ≡ stored (sign q (bank_of s)) s
    → CarriedOut (judge_signing (bank_of s) q) (lent s o m) q d r (lent u o m)
signed-carried s o m q d is told f = record {
  judged = is;
  done = lent_same f refl refl ∙ ap (kept_in (lent s o m)) (signing-carried (bank_of s) q o m d (sym is ∙ told));
}

-- ---- the open upload in place i

module _ (s o m : List ℕ) (i : ℕ) (r : TransactionRequest) (q : Fields) (d : List ℕ)
    (e : i ≡ upload_at (bank_of s) q) where
  pub upload-carried : {p : Place} {t : ℕ} {x : UploadStep} {u after : List ℕ} → p ≡ place_at (bank_of s) i
      → t ≡ (bank_of s).clock → x ≡ upload_step t r p q d (part_at o i)
      → u ≡ stored (with_place i x.place (bank_of s)) s → after ≡ with_part o i x.bytes
      → CarriedOut (upload_verdict r i (bank_of s) q) (lent s o m) q d
      (verdict.Of p.transaction (action.Upload x.action)) (lent u after m)
  unfolding upload_step
  upload-carried {p} {t} {x} {u} {after} placed timed stepped rows bytes =
      let w = bank_state (bank_of s) o m in
      let at = place_at (bank_of s) i in
      let step : x ≡ upload_step (bank_of s).clock r at q d (part_at o i) =
      stepped ∙ ap (λ (y : Place). upload_step t r y q d (part_at o i)) placed
      ∙ ap (λ (c : ℕ). upload_step c r at q d (part_at o i)) timed in
      record {
        judged =
            ap (λ (y : Place). verdict.Of y.transaction (action.Upload x.action)) placed
            ∙ ap (λ (y : UploadStep). verdict.Of at.transaction (action.Upload y.action)) step;
        done =
            ap (λ (z : List ℕ). lent z after m) rows
            ∙ ap (λ (z : List ℕ). lent (stored (with_place i x.place (bank_of s)) s) z m) bytes
            ∙ ap (kept_in (lent s o m)) (landed i w r q d step ∙ upload-acts-at i w r q d e);
      }

-- ---- the open download of record j

module _ (s : List ℕ) (l : Laid s) where
  module _ (which : Ended) where
    abbrev left : Bank
    left = with_downloads (end_downloads which (bank_of s).downloads) (bank_of s)

    ended-within : Within s left
    ended-within = within-ended s which (within-own s l)

    pub ended-laid : (t : List ℕ) → t ≡ stored left s → Laid t
    ended-laid t e = laid_next s l left ended-within t e

    -- then a mailbox is emptied
    pub emptied-stored : (k i : ℕ) (t u : List ℕ) → i ≡ k - 1 → t ≡ stored left s
        → u ≡ stored (with_files (set (bank_of t).files i 0) (bank_of t)) t
        → u ≡ stored (with_files (set (bank_of s).files (k - 1) 0) left) s
    emptied-stored k i t u x e f =
        stored_next s l left ended-within (λ (c : Bank). with_files (set c.files i 0) c)
        (held-file i 0 ended-within.held) t u e f
        ∙ ap (λ (n : ℕ). stored (with_files (set (bank_of s).files n 0) left) s) x
