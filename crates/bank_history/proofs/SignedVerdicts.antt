-- The verdict behind an answer to a signing: 000000 is given where the bank has signed, and nowhere else. By the cases of
-- a request, and by induction on the calls. Assumes nothing.
use mathlib.Core.Bool.{Bool, true}
use mathlib.Core.List.{List, [], ◌∷◌}
use mathlib.Core.Path.{◌≡◌, refl, sym, ap, ◌∙◌, subst}
use native.Mathlib.Omega.{arith}
use borrow.Author.Tests.{eq-eqb}
use Rattle.frame_table.specs.declared.fields.Fields.{Fields}
use Rattle.frame_table.specs.Forms as forms
use Rattle.frame_table.specs.Names.{return_code, form}
use Rattle.octets.specs.Bytes.{number}
use Rattle.octets.proofs.Tests.{never}
use Rattle.message.specs.declared.codes.ReturnCode.{ReturnCode}
use Rattle.message.specs.declared.codes.ReturnCode.TheVariants as code
use Rattle.message.specs.Codes.{code_field}
use Rattle.bank_state.specs.State.{BankState}
use Rattle.bank_verdicts.specs.declared.verdict.SignedOrder.{SignedOrder}
use Rattle.bank_verdicts.specs.declared.verdict.Verdict.{Verdict}
use Rattle.bank_verdicts.specs.declared.verdict.Verdict.TheVariants as verdict
use Rattle.message.specs.Editions.{edition_of}
use Rattle.bank_verdicts.specs.Judgement.{signed}
use Rattle.bank_steps.proofs.Cases.{
  Happens,
  unreadable,
  refused,
  opens_upload,
  opens_download,
  signs,
  to_upload,
  to_download,
  ToOrder,
}
use Rattle.bank.specs.Call.{context_of}
use Rattle.bank_history.specs.History.{Exchange, Stands, newest, older, BankCall, start, past_of}
use Rattle.bank_history.specs.Signatures.{is_signing_form}
use Rattle.bank_history.specs.FalseEconomies.{Next}
use Rattle.bank_history.specs.Signers.{Signs}
use Rattle.bank_history.proofs.Closed.{by-exchange}
use Rattle.bank_history.proofs.NextCall.{judged_bank, asked, sent, all_sound, verdict-is, request-is, case-is}
use Rattle.bank_history.proofs.Refusing.{refuses, refusing-not-ok, Refuses, verdict-refuses}
use Rattle.bank_history.proofs.Replies.{verdict_code, verdict-code}
use Rattle.bank_history.proofs.Positions.{stands-none}
use Rattle.bank_history.proofs.Signatures.{transaction-form, opening-unsigned}
use Rattle.bank_history.proofs.Theorems.{reply-is}

-- an accepted signing
abbrev pub IsSigned : Verdict → Type 0
IsSigned v = (m : SignedOrder) × (added : Bool) × (v ≡ verdict.Signed m added)

-- ---- the next call

module _ {calls : List BankCall} {e : Exchange} (n : Next calls e) where
  abbrev w : BankState
  w = judged_bank n

  abbrev q : Fields
  q = asked n

  pub asks-signing : form e.request ≡ forms.Signing → form (asked n) ≡ forms.Signing
  asks-signing z = ap form (sym (request-is n)) ∙ z

  pub coded : return_code e.reply ≡ code_field (verdict_code e.verdict)
  coded = ap return_code (reply-is (all_sound n) newest) ∙ verdict-code e.verdict e.request

  -- a signing is unreadable, refused, or signs
  pub signing-case : (P : Verdict → Type 0) → form (asked n) ≡ forms.Signing → P verdict.Unreadable →
      ((c : ReturnCode) → refuses c ≡ true → P (verdict.Refused c)) →
      (ToOrder (judged_bank n) (asked n) (sent n) → P (signed (judged_bank n).bank (asked n))) → P e.verdict
  signing-case P signing unread refuse sign =
      at (subst Refuses (sym (verdict-is n)) (verdict-refuses (context_of n.input) w q (sent n))) (case-is n)
    where
      at : {u : Verdict} → Refuses u → Happens (number n.input.ids) w q (sent n) u → P u
      at r unreadable = unread
      at r (refused c y) = refuse c r
      at r (opens_upload f a g m inside below) =
          never (sym (opening-unsigned (edition_of q)) ∙ ap is_signing_form (sym f ∙ signing))
      at r (opens_download f a g m) = never (ap is_signing_form (sym f ∙ signing))
      at r (to_upload x a t) = never (sym (transaction-form x) ∙ ap is_signing_form (sym t.asked ∙ signing))
      at r (to_download x a t) = never (sym (transaction-form x) ∙ ap is_signing_form (sym t.asked ∙ signing))
      at r (signs t) = sign t

  -- where it got 000000 it signs
  pub signs-by : Signs e → ToOrder (judged_bank n) (asked n) (sent n) × (e.verdict ≡ signed (judged_bank n).bank (asked n))
  signs-by s =
      signing-case (λ (v : Verdict). code_field (verdict_code v) ≡ code_field code.Ok →
      ToOrder w q (sent n) × (v ≡ signed w.bank q))
      (asks-signing s.asked) (λ z. absurd (omega arith))
      (λ c r z. never (sym (refusing-not-ok c r) ∙ eq-eqb (code_field c) (code_field code.Ok) z)) (λ t z. (t, refl))
      (sym coded ∙ s.coded)

  pub next-signed : Signs e → IsSigned e.verdict
  next-signed s = (_, _, (signs-by s).1)

-- ---- every list of calls

abbrev AllSigned : List Exchange → Type 0
AllSigned h = (e : Exchange) (g : List Exchange) → Stands e g h → Signs e → IsSigned e.verdict

pub all-signed : (calls : List BankCall) → AllSigned (past_of calls).history
unfolding past_of start
all-signed [] = λ e g s z. absurd (stands-none s refl)
all-signed (c ∷ calls) =
    by-exchange AllSigned calls c (all-signed calls) (λ e n. more e n (all-signed calls))
  where
    more : (e : Exchange) → Next calls e → AllSigned (past_of calls).history → AllSigned (e ∷ (past_of calls).history)
    more e n old f g newest s = next-signed n s
    more e n old f g (older p) s = old f g p s
