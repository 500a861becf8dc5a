-- The signatures of a history as exchanges that stand in it: `has_signed` is true exactly where there is one, and an
-- exchange more adds at most one to `signature_count`. By induction on the history. Assumes nothing.
use Prim.Native.Nat.{ℕ, zero, suc, ◌+◌, ◌≤◌, ◌<◌}
use mathlib.Core.Bool.{Bool, true, false, cond, not, ◌&&◌}
use mathlib.Core.List.{List, [], ◌∷◌}
use mathlib.Core.Path.{◌≡◌, refl, ap, ◌∙◌, subst}
use native.Mathlib.Decide.{ℕ_discrete}
use native.Mathlib.Omega.{arith}
use lib.Dec.{eqb}
use borrow.Author.Tests.{eqb-true, eq-eqb, ne_eqb}
use Rattle.octets.proofs.Tests.{never, and-true}
use Rattle.frame_table.specs.declared.table.Form.{Form}
use Rattle.frame_table.specs.declared.table.Form.TheVariants.{NoForm, Request, Reply}
use Rattle.frame_table.specs.declared.table.RequestForm.TheVariants as requests
use Rattle.frame_table.specs.Forms as forms
use Rattle.frame_table.specs.Names.{subscriber, return_code, form}
use Rattle.message.specs.declared.codes.ReturnCode.TheVariants as code
use Rattle.message.specs.Codes.{code_field}
use Rattle.message.specs.Limits.{subscribers}
use Rattle.journal.specs.declared.event.OrderName.{OrderName}
use Rattle.journal.proofs.Lookup.{same-name}
use Rattle.bank_history.specs.History.{Exchange, Stands, newest, older}
use Rattle.bank_history.specs.Signatures.{
  is_signing_form,
  signed_name,
  same_name,
  is_signed,
  signs,
  has_signed,
  signed_from,
  signature_count,
}
use Rattle.bank_history.specs.Signers.{Signs, Signature}
use Rattle.bank_history.proofs.Counts.{unit}
use Rattle.bank_history.proofs.Entries.{and_no}

-- ---- names

pub same-named : (o u : OrderName) → same_name o u ≡ true → o ≡ u
unfolding same_name
same-named o u z =
    let a = and-true (eqb o.subscriber u.subscriber && eqb o.order_type u.order_type) (eqb o.number u.number) z in
    let b = and-true (eqb o.subscriber u.subscriber) (eqb o.order_type u.order_type) a.0 in
    same-name (eqb-true o.subscriber u.subscriber b.0) (eqb-true o.order_type u.order_type b.1)
    (eqb-true o.number u.number a.1)

pub name-same : (o u : OrderName) → o ≡ u → same_name o u ≡ true
unfolding same_name
name-same o u z =
    rw (
      eq-eqb o.subscriber u.subscriber (ap (λ (n : OrderName). n.subscriber) z),
      eq-eqb o.order_type u.order_type (ap (λ (n : OrderName). n.order_type) z),
      eq-eqb o.number u.number (ap (λ (n : OrderName). n.number) z),
    )

-- ---- an accepted signing

is-signing : (f : Form) → is_signing_form f ≡ true → f ≡ forms.Signing
is-signing NoForm z = never z
is-signing (Request requests.UploadOpening) z = never z
is-signing (Request requests.DownloadOpening) z = never z
is-signing (Request requests.UploadTransfer) z = never z
is-signing (Request requests.DownloadTransfer) z = never z
is-signing (Request requests.Receipt) z = never z
is-signing (Request requests.Signing) z = refl
is-signing (Request requests.ChosenOpening) z = never z
is-signing (Reply x) z = never z

pub signed-signs : (e : Exchange) → is_signed e ≡ true → Signs e
signed-signs e z =
    let a = and-true (is_signing_form (form e.request)) (eqb (return_code e.reply) (code_field code.Ok)) z in
    record {
      asked = is-signing (form e.request) a.0;
      coded = eqb-true (return_code e.reply) (code_field code.Ok) a.1;
    }

pub signs-signed : (e : Exchange) → Signs e → is_signed e ≡ true
signs-signed e s =
    ap (λ (b : Bool). b && eqb (return_code e.reply) (code_field code.Ok)) (ap is_signing_form s.asked)
    ∙ eq-eqb (return_code e.reply) (code_field code.Ok) s.coded

-- ---- the truth value and the exchange

older-signature : {o : OrderName} {s : ℕ} {h : List Exchange} (e : Exchange) → Signature o s h → Signature o s (e ∷ h)
older-signature e x = record {
  exchange = x.exchange;
  before = x.before;
  stands = older x.stands;
  signs = x.signs;
  by = x.by;
  named = x.named;
}

pub has-signature : (o : OrderName) (s : ℕ) (h : List Exchange) → has_signed o s h ≡ true → Signature o s h
unfolding has_signed
has-signature o s [] z = never z
has-signature o s (e ∷ h) z = at (signs o e && eqb (subscriber e.request) s) refl (has-signature o s h) z
  where
    at : (b : Bool) → (signs o e && eqb (subscriber e.request) s) ≡ b → (has_signed o s h ≡ true → Signature o s h) →
        cond b true (has_signed o s h) ≡ true → Signature o s (e ∷ h)
    at true y old w =
        let a = and-true (signs o e) (eqb (subscriber e.request) s) y in
        let b = and-true (is_signed e) (same_name (signed_name e) o) a.0 in
        record {
          exchange = e;
          before = h;
          stands = newest;
          signs = signed-signs e b.0;
          by = eqb-true (subscriber e.request) s a.1;
          named = same-named (signed_name e) o b.1;
        }
    at false y old w = older-signature e (old w)

stands-signed : (o : OrderName) (s : ℕ) {e : Exchange} {g h : List Exchange} → Stands e g h → is_signed e ≡ true →
    same_name (signed_name e) o ≡ true → eqb (subscriber e.request) s ≡ true → has_signed o s h ≡ true
unfolding has_signed
stands-signed o s newest a b c = rw (a, b, c)
stands-signed o s (older {x = x} p) a b c = rw (stands-signed o s p a b c) (any (signs o x && eqb (subscriber x.request) s))
  where
    any : (b : Bool) → cond b true true ≡ true
    any true = refl
    any false = refl

pub signature-has : (o : OrderName) (s : ℕ) {h : List Exchange} → Signature o s h → has_signed o s h ≡ true
signature-has o s x =
    stands-signed o s x.stands (signs-signed x.exchange x.signs) (name-same (signed_name x.exchange) o x.named)
    (eq-eqb (subscriber x.exchange.request) s x.by)

-- ---- how many have signed

none_from : (o : OrderName) (s n : ℕ) → signed_from o s n [] ≡ 0
unfolding signed_from has_signed
none_from o s zero = refl
none_from o s (suc n) = let a = none_from o (suc s) n in omega arith

-- nobody at first
pub no-signatures : (o : OrderName) → signature_count o [] ≡ 0
unfolding signature_count
no-signatures o = none_from o 1 subscribers

module _ (o : OrderName) (e : Exchange) (h : List Exchange) where
  abbrev u : ℕ
  u = subscriber e.request

  -- one, where it is the first signature of its subscriber
  abbrev one : ℕ
  one = cond (signs o e && not (has_signed o u h)) 1 0

  has_other : (s : ℕ) → (u ≡ s → ⊥) → has_signed o s (e ∷ h) ≡ has_signed o s h
  unfolding has_signed
  has_other s apart =
      ap (λ (b : Bool). cond b true (has_signed o s h))
      (ap (λ (b : Bool). signs o e && b) (ne_eqb u s apart) ∙ and_no (signs o e))

  has-own : cond (has_signed o u (e ∷ h)) 1 0 ≡ one + cond (has_signed o u h) 1 0
  unfolding has_signed
  has-own =
      ap (λ (b : Bool). cond (cond (signs o e && b) true (has_signed o u h)) 1 0) (eq-eqb u u refl)
      ∙ at (signs o e) (has_signed o u h)
    where
      at : (t b : Bool) → cond (cond (t && true) true b) 1 0 ≡ cond (t && not b) 1 0 + cond b 1 0
      at true true = refl
      at true false = refl
      at false true = refl
      at false false = refl

  from-later : (s n : ℕ) → u < s → signed_from o s n (e ∷ h) ≡ signed_from o s n h
  unfolding signed_from
  from-later s zero l = refl
  from-later s (suc n) l =
      ap (λ (b : Bool). cond b 1 0 + signed_from o (suc s) n (e ∷ h)) (has_other s (λ z. omega arith))
      ∙ ap (λ (m : ℕ). cond (has_signed o s h) 1 0 + m) (from-later (suc s) n (omega arith))

  from-own : (s n : ℕ) → s ≤ u → u < s + n → signed_from o s n (e ∷ h) ≡ one + signed_from o s n h
  unfolding signed_from
  from-own s zero least most = absurd (omega arith)
  from-own s (suc n) least most = at (ℕ_discrete u s) (from-own (suc s) n)
    where
      at : Dec (u ≡ s) → (suc s ≤ u → u < suc s + n → signed_from o (suc s) n (e ∷ h) ≡ one + signed_from o (suc s) n h) →
          cond (has_signed o s (e ∷ h)) 1 0 + signed_from o (suc s) n (e ∷ h)
          ≡ one + (cond (has_signed o s h) 1 0 + signed_from o (suc s) n h)
      at (yes z) later =
          let a = subst (λ (m : ℕ). cond (has_signed o m (e ∷ h)) 1 0 ≡ one + cond (has_signed o m h) 1 0) z has-own in
          let b = from-later (suc s) n (omega arith) in
          omega arith
      at (no z) later =
          let a = ap unit (has_other s z) in
          let b = later (omega arith) (omega arith) in
          omega arith

  pub signatures-more : 1 ≤ u → u ≤ subscribers → signature_count o (e ∷ h) ≡ one + signature_count o h
  unfolding signature_count
  signatures-more least most = from-own 1 subscribers least (omega arith)

  -- none, where it is no accepted signing
  from-none : (s n : ℕ) → is_signed e ≡ false → signed_from o s n (e ∷ h) ≡ signed_from o s n h
  unfolding signed_from has_signed
  from-none s zero none = refl
  from-none s (suc n) none =
      ap (λ (b : Bool). cond (cond (b && same_name (signed_name e) o && eqb u s) true (has_signed o s h)) 1 0
      + signed_from o (suc s) n (e ∷ h)) none
      ∙ ap (λ (m : ℕ). cond (has_signed o s h) 1 0 + m) (from-none (suc s) n none)

  pub signatures-same : is_signed e ≡ false → signature_count o (e ∷ h) ≡ signature_count o h
  unfolding signature_count
  signatures-same none = from-none 1 subscribers none
