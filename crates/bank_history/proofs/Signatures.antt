-- Who has signed an order by a history: the bits of `signers_in` are the subscribers of `has_signed`, and their number is
-- `signature_count`, by induction on the history with the laws of one signer more. And what the bank holds of it where a
-- place changes. Assumes nothing.
use Prim.Native.Nat.{ℕ, zero, suc, ◌+◌, ◌≤◌, ◌<◌}
use mathlib.Core.Bool.{Bool, true, false, cond, ◌&&◌, ◌||◌}
use mathlib.Core.List.{List, [], ◌∷◌}
use mathlib.Core.Path.{◌≡◌, refl, sym, ap, ◌∙◌}
use native.Mathlib.Omega.{arith}
use lib.Dec.{eqb}
use native.Mathlib.Decide.{ℕ_discrete}
use lib.ListN.{length, get_or, set, length-set}
use lib.Seq.{get_or-set_other}
use borrow.Author.Tests.{le-leb, eqb-true, eqb-false, eq-eqb, ne_eqb}
use Rattle.octets.proofs.Tests.{never}
use Rattle.frame_table.specs.Names.{subscriber, return_code, form}
use Rattle.message.specs.declared.codes.ReturnCode.TheVariants as code
use Rattle.message.specs.Codes.{code_field}
use Rattle.message.specs.declared.editions.Edition.{Edition}
use Rattle.message.specs.declared.editions.Edition.TheVariants as edition
use Rattle.message.specs.Editions.{opening_form}
use Rattle.message.specs.Limits.{subscribers}
use Rattle.signers.specs.Signers.{has_bit, is_signer, with_signer, count_from, signer_count}
use Rattle.signers.proofs.Laws.{with-signer, nobody, nobody-yet}
use Rattle.journal.specs.declared.event.OrderName.{OrderName}
use Rattle.bank_state.specs.declared.state.Place.{Place}
use Rattle.bank_state.specs.Rows.{first_of}
use Rattle.bank_state.specs.Search.{is_booked}
use Rattle.bank_state.specs.State.{no_place}
use Rattle.bank_state.proofs.Rows.{first_passes}
use Rattle.bank_verdicts.specs.declared.verdict.TransactionRequest.{TransactionRequest}
use Rattle.bank_verdicts.specs.declared.verdict.TransactionRequest.TheVariants as asked
use Rattle.bank_verdicts.specs.Refusals.{is_order}
use Rattle.bank_steps.proofs.Cases.{request_form}
use Rattle.bank_admitted.proofs.Rows.{each_set}
use Rattle.bank_history.specs.History.{Exchange}
use Rattle.bank_history.specs.Signatures.{
  is_signing_form,
  is_signed,
  signs,
  has_signed,
  signed_from,
  signature_count,
  signers_in,
}
use Rattle.bank_history.proofs.Entries.{and_no}

-- a request that is no accepted signing leaves an order's signers
pub signers-unchanged : (o : OrderName) (x : Exchange) (h : List Exchange) → is_signed x ≡ false →
    signers_in o (x ∷ h) ≡ signers_in o h
unfolding signers_in
signers-unchanged o x h unsigned = rw unsigned refl

-- an answer with another code than 000000 is no accepted signing's
pub unsigned-code : (x : Exchange) → eqb (return_code x.reply) (code_field code.Ok) ≡ false → is_signed x ≡ false
unsigned-code x other =
    ap (λ (b : Bool). is_signing_form (form x.request) && b) other ∙ and_no (is_signing_form (form x.request))

-- nor is an answer to another request
pub unsigned-form : (x : Exchange) → is_signing_form (form x.request) ≡ false → is_signed x ≡ false
unsigned-form x other = rw other refl

-- an upload's opening is no signing
pub opening-unsigned : (e : Edition) → is_signing_form (opening_form e) ≡ false
opening-unsigned edition.V24 = refl
opening-unsigned edition.V25 = refl

-- a request to a transaction is no signing
pub transaction-form : (r : TransactionRequest) → is_signing_form (request_form r) ≡ false
transaction-form asked.UploadTransfer = refl
transaction-form asked.DownloadTransfer = refl
transaction-form asked.Receipt = refl

-- ---- the bits are the subscribers

module _ (o : OrderName) (s : ℕ) (bit : has_bit s ≡ true) where
  -- one exchange more, by its two tests
  one_more : (x : Exchange) (h : List Exchange) → is_signer s (signers_in o h) ≡ has_signed o s h →
      (t : Bool) →
      is_signer s (cond t (with_signer (subscriber x.request) (signers_in o h)) (signers_in o h))
      ≡ cond (t && eqb (subscriber x.request) s) true (has_signed o s h)
  one_more x h same false = same
  one_more x h same true = at (has_bit u) refl (eqb u s) refl
    where
      u : ℕ
      u = subscriber x.request

      at : (b : Bool) → has_bit u ≡ b → (e : Bool) → eqb u s ≡ e →
          is_signer s (with_signer u (signers_in o h)) ≡ cond e true (has_signed o s h)
      at true k true z =
          with-signer u (signers_in o h) k s
          ∙ ap (λ (b : Bool). b || is_signer s (signers_in o h)) (eq-eqb s u (sym (eqb-true u s z)))
      at true k false z =
          with-signer u (signers_in o h) k s
          ∙ ap (λ (b : Bool). b || is_signer s (signers_in o h)) (ne_eqb s u (λ e. eqb-false u s z (sym e))) ∙ same
      at false k true z = never (sym k ∙ (ap has_bit (eqb-true u s z) ∙ bit))
      at false k false z = ap (is_signer s) (nobody u (signers_in o h) k) ∙ same

  pub signer-told : (h : List Exchange) → is_signer s (signers_in o h) ≡ has_signed o s h
  unfolding signers_in has_signed
  signer-told [] = nobody-yet s
  signer-told (x ∷ h) = one_more x h (signer-told h) (signs o x)

-- ---- their number

pub has-bit : (s : ℕ) → 1 ≤ s → s ≤ subscribers → has_bit s ≡ true
unfolding has_bit
has-bit s least most = rw (le-leb 1 s least, le-leb s subscribers most)

count-told : (o : OrderName) (h : List Exchange) (s n : ℕ) → 1 ≤ s → s + n ≤ suc subscribers →
    count_from s n (signers_in o h) ≡ signed_from o s n h
unfolding count_from signed_from
count-told o h s zero least most = refl
count-told o h s (suc n) least most =
    rw (signer-told o s (has-bit s least (omega arith)) h, count-told o h (suc s) n (omega arith) (omega arith)) refl

-- "the number of signatures given is the count of signers"
pub signatures-told : (o : OrderName) (h : List Exchange) → signer_count (signers_in o h) ≡ signature_count o h
unfolding signer_count signature_count
signatures-told o h = count-told o h 1 subscribers (omega arith) (omega arith)

-- ---- the bank's signers: those of the first place with the order; nobody's change where a place changes that is not
-- booked before or after, and where a place is booked

abbrev signers_found : ℕ → ℕ → List Place → ℕ
signers_found o n l = (get_or l (first_of (is_order o n) l) no_place).signers

-- the first place that passes is the same where one place changes that passes as before
pub first-kept : (p : Place → Bool) (l : List Place) (i : ℕ) (new : Place) → p new ≡ p (get_or l i no_place) → i < length l →
    first_of p (set l i new) ≡ first_of p l
unfolding first_of
first-kept p [] i new same inside = absurd (omega arith)
first-kept p (x ∷ l) zero new same inside = rw same refl
first-kept p (x ∷ l) (suc i) new same inside =
    ap (λ (n : ℕ). cond (p x) 0 (suc n)) (first-kept p l i new same (omega arith))

-- where each place that passes has no signers, what is found has none
none_found : (p : Place → Bool) (l : List Place) →
    ((j : ℕ) → j < length l → p (get_or l j no_place) ≡ true → (get_or l j no_place).signers ≡ 0) →
    (get_or l (first_of p l) no_place).signers ≡ 0
unfolding first_of
none_found p [] none = refl
none_found p (x ∷ l) none = at (p x) refl (none_found p l (λ j a. none (suc j) (omega arith)))
  where
    at : (b : Bool) → p x ≡ b → (get_or l (first_of p l) no_place).signers ≡ 0 →
        (get_or (x ∷ l) (cond b 0 (suc (first_of p l))) no_place).signers ≡ 0
    at true e later = none 0 (omega arith) e
    at false e later = later

pub unbooked-no-order : (o n : ℕ) (p : Place) → is_booked p.used ≡ false → is_order o n p ≡ false
unfolding is_order
unbooked-no-order o n p unbooked = rw unbooked refl

-- the place i changes
module _ (o n : ℕ) (l : List Place) (i : ℕ) (new : Place) (inside : i < length l) where
  -- it has not the order, before or after
  other-signers : is_order o n (get_or l i no_place) ≡ false → is_order o n new ≡ false →
      signers_found o n (set l i new) ≡ signers_found o n l
  other-signers before after =
      ap (λ (j : ℕ). (get_or (set l i new) j no_place).signers) (first-kept (is_order o n) l i new (after ∙ sym before) inside)
      ∙ ap (λ (r : Place). r.signers) (get_or-set_other l i (first_of (is_order o n) l) new no_place apart)
    where
      apart : first_of (is_order o n) l ≡ i → ⊥
      apart z = never (sym before ∙ (ap (λ (j : ℕ). is_order o n (get_or l j no_place)) (sym z)
          ∙ first_passes (is_order o n) l no_place (omega arith)))

  -- it is not booked, before or after
  pub unbooked-signers : is_booked (get_or l i no_place).used ≡ false → is_booked new.used ≡ false →
      signers_found o n (set l i new) ≡ signers_found o n l
  unbooked-signers was is =
      other-signers (unbooked-no-order o n (get_or l i no_place) was) (unbooked-no-order o n new is)

  -- it is booked, with nobody a signer, and no other place has its name: nobody is a signer of that name, before or after
  pub booked-signers : is_booked (get_or l i no_place).used ≡ false → new.signers ≡ 0 →
      ((j : ℕ) → j < length l → (j ≡ i → ⊥) → is_order o n new ≡ true → is_order o n (get_or l j no_place) ≡ true → ⊥) →
      signers_found o n (set l i new) ≡ signers_found o n l
  booked-signers was none apart = at (is_order o n new) refl
    where
      before : is_order o n (get_or l i no_place) ≡ false
      before = unbooked-no-order o n (get_or l i no_place) was

      -- no place before has the name
      nowhere : is_order o n new ≡ true → (j : ℕ) → j < length l → is_order o n (get_or l j no_place) ≡ true → ⊥
      nowhere e j a g = by (ℕ_discrete j i)
        where
          by : Dec (j ≡ i) → ⊥
          by (yes z) = never (sym before ∙ (ap (λ (k : ℕ). is_order o n (get_or l k no_place)) (sym z) ∙ g))
          by (no z) = apart j a z e g

      at : (b : Bool) → is_order o n new ≡ b → signers_found o n (set l i new) ≡ signers_found o n l
      at false e = other-signers before e
      at true e =
          none_found (is_order o n) (set l i new)
          (λ j a. each_set l i new no_place inside
          (λ (k : ℕ) (r : Place). k < length l → is_order o n r ≡ true → r.signers ≡ 0) (λ _ _. none)
          (λ k z b g. absurd (nowhere e k b g)) j (let s = length-set l i new in omega arith))
          ∙ sym (none_found (is_order o n) l (λ j a g. absurd (nowhere e j a g)))
