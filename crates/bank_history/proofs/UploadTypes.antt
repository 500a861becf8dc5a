-- Each accepted upload is of type FUL: the lines for the order type and for the other direction are passed. Assumes nothing.
use Prim.Native.Nat.{ℕ}
use mathlib.Core.Bool.{Bool, true, false, ◌||◌}
use mathlib.Core.List.{List, [], ◌∷◌}
use mathlib.Core.Path.{◌≡◌, refl, sym, ap, ◌∙◌}
use lib.Dec.{eqb}
use borrow.Author.Tests.{eqb-true, not-false}
use Rattle.frame_table.specs.declared.fields.Fields.{Fields}
use Rattle.frame_table.specs.Names.{order_type}
use Rattle.octets.specs.Bytes.{number}
use Rattle.octets.proofs.Tests.{never, or_left, or-neither}
use Rattle.message.specs.declared.codes.ReturnCode.TheVariants as code
use Rattle.message.specs.declared.editions.Edition.{Edition}
use Rattle.message.specs.declared.editions.Edition.TheVariants as edition
use Rattle.message.specs.Editions.{edition_of, opening_form}
use Rattle.message.specs.Limits.{ful, fdl}
use Rattle.bank_state.specs.State.{Bank}
use Rattle.bank_verdicts.specs.declared.verdict.Context.{Context}
use Rattle.message.specs.declared.directions.Direction.TheVariants as direction
use Rattle.bank_verdicts.specs.declared.verdict.Action.{Action}
use Rattle.bank_verdicts.specs.declared.verdict.Action.TheVariants as action
use Rattle.bank_verdicts.specs.declared.verdict.Verdict.{Verdict}
use Rattle.bank_verdicts.specs.Refusals.{unknown_type, other_direction, opening_rows}
use Rattle.bank_verdicts.specs.Judgement.{accepted, judge_opening, judge_form}
use Rattle.bank_verdicts.proofs.Lines.{passed}
use Rattle.bank_steps.proofs.Cases.{
  Happens,
  unreadable,
  refused,
  opens_upload,
  opens_download,
  signs,
  to_upload,
  to_download,
}
use Rattle.bank.specs.Call.{context_of}
use Rattle.bank_history.specs.History.{
  Exchange,
  BankCall,
  Stands,
  newest,
  older,
  is_opening,
  is_upload_opening,
  is_download_opening,
  accepts_upload,
  start,
  past_of,
}
use Rattle.bank_history.specs.FalseEconomies.{Next}
use Rattle.bank_history.specs.Series.{InSeries}
use Rattle.bank_history.proofs.Closed.{by-exchange}
use Rattle.bank_history.proofs.GoesOn.{upload-goes-on, download-goes-on}
use Rattle.bank_history.proofs.NextCall.{judged_bank, asked, sent, request-is, verdict-is, case-is}
use Rattle.bank_history.proofs.Positions.{stands-none}
use Rattle.bank_history.proofs.Theorems.{history-sound, upload-opened}
use Rattle.bank_history.proofs.UploadRequests.{verdict-by-form}

module _ (context : Context) (b : Bank) (q : Fields) where
  is-ful : unknown_type q ≡ false → other_direction direction.Upload q ≡ false → order_type q ≡ ful
  unfolding unknown_type
  is-ful known own =
      eqb-true (order_type q) ful (one_of (eqb (order_type q) ful) (eqb (order_type q) fdl)
      (not-false (eqb (order_type q) ful || eqb (order_type q) fdl) known)
      (or-neither (eqb (order_type q) fdl) _ own).0)
    where
      one_of : (x y : Bool) → x || y ≡ true → y ≡ false → x ≡ true
      one_of true y z n = refl
      one_of false y z n = never (sym n ∙ z)

  upload-typed : accepts_upload (judge_opening direction.Upload context b q) ≡ true → order_type q ≡ ful
  unfolding judge_opening opening_rows
  upload-typed z =
      let f = passed accepts_upload (opening_rows direction.Upload context.others b q) (accepted direction.Upload context.prefix b q) refl z in
      is-ful (f code.InvalidOrderType) (f code.InvalidRequest)

  -- both editions' openings are judged by one list
  opening-judged : (x : Edition) → judge_form (opening_form x) context b q ≡ judge_opening direction.Upload context b q
  opening-judged edition.V24 = refl
  opening-judged edition.V25 = refl

module _ {calls : List BankCall} {e : Exchange} (n : Next calls e) where
  goes_on : (k : Action) → is_opening k ≡ false → is_upload_opening k ≡ true → ⊥
  goes_on k o z = never (sym o ∙ or_left (is_upload_opening k) (is_download_opening k) z)

  typed-by : {u : Verdict} → e.verdict ≡ u → Happens (number n.input.ids) (judged_bank n) (asked n) (sent n) u →
      accepts_upload u ≡ true → order_type (asked n) ≡ ful
  typed-by own unreadable z = never z
  typed-by own (refused c y) z = never z
  typed-by own (opens_upload f a g m inside below) z =
      upload-typed (context_of n.input) (judged_bank n).bank (asked n)
      (ap accepts_upload (sym (verdict-is n
      ∙ (verdict-by-form (context_of n.input) (judged_bank n) (asked n) (sent n) (opening_form (edition_of (asked n))) f a
      ∙ opening-judged (context_of n.input) (judged_bank n).bank (asked n) (edition_of (asked n)))) ∙ own))
  typed-by own (opens_download f a g m) z = never z
  typed-by own (to_upload r a s) z = absurd (goes_on (action.Upload a) (upload-goes-on s.sound) z)
  typed-by own (signs s) z = never z
  typed-by own (to_download r a s) z = absurd (goes_on (action.Download a) (download-goes-on s.sound) z)

  typed-next : accepts_upload e.verdict ≡ true → order_type e.request ≡ ful
  typed-next z = ap order_type (request-is n) ∙ typed-by refl (case-is n) z

abbrev AllTyped : List Exchange → Type 0
AllTyped h = (e : Exchange) (g : List Exchange) → Stands e g h → accepts_upload e.verdict ≡ true → order_type e.request ≡ ful

all_typed : (calls : List BankCall) → AllTyped (past_of calls).history
unfolding past_of start
all_typed [] = λ e g s z. absurd (stands-none s refl)
all_typed (c ∷ calls) =
    by-exchange AllTyped calls c (all_typed calls) (λ e n. more e n (all_typed calls))
  where
    more : (e : Exchange) → Next calls e → AllTyped (past_of calls).history → AllTyped (e ∷ (past_of calls).history)
    more e n old f g newest z = typed-next n z
    more e n old f g (older s) z = old f g s z

pub series-typed : (calls : List BankCall) {s : ℕ} {e : Exchange} {g : List Exchange} → InSeries s e g (past_of calls).history →
    order_type e.request ≡ ful
series-typed calls {e = e} {g = g} i =
    all_typed calls e g i.stands (ap accepts_upload (upload-opened (history-sound calls) i.stands i.opened).1)
