-- The signatures of a history, by requests and replies alone: which signings were accepted, what they name, and who has
-- signed an order. Document 02, card 8: "Signing an order already lodged."
use Rattle.std.specs.Prelude.{ℕ, zero, suc, ◌+◌, Bool, true, false, cond, ◌&&◌, List, [], ◌∷◌, eqb}
use Rattle.frame_table.specs.declared.table.Form.{Form}
use Rattle.frame_table.specs.declared.table.Form.TheVariants.{NoForm, Request, Reply}
use Rattle.frame_table.specs.declared.table.RequestForm.{RequestForm}
use Rattle.frame_table.specs.declared.table.RequestForm.TheVariants as requests
use Rattle.frame_table.specs.Names.{subscriber, order_type, return_code, order_number, owner, form}
use Rattle.message.specs.declared.codes.ReturnCode.TheVariants as code
use Rattle.message.specs.Codes.{code_field}
use Rattle.message.specs.Limits.{subscribers}
use Rattle.signers.specs.Signers.{with_signer}
use Rattle.journal.specs.declared.event.OrderName.{OrderName}
use Rattle.bank_history.specs.History.{Exchange}

-- ---- a signing and what it names

-- "An opening of form 01 to 06, 0E, 0F, 10"
abbrev pub is_signing_request : RequestForm → Bool
is_signing_request requests.UploadOpening = false
is_signing_request requests.DownloadOpening = false
is_signing_request requests.UploadTransfer = false
is_signing_request requests.DownloadTransfer = false
is_signing_request requests.Receipt = false
is_signing_request requests.Signing = true
is_signing_request requests.ChosenOpening = false

abbrev pub is_signing_form : Form → Bool
is_signing_form NoForm = false
is_signing_form (Request x) = is_signing_request x
is_signing_form (Reply x) = false

-- it "names type FUL, an order number and its owner"
abbrev pub signed_name : Exchange → OrderName
signed_name e = record {
  subscriber = owner e.request;
  order_type = order_type e.request;
  number = order_number e.request;
}

-- whether two orders' names are one: "subscriber, type and number together"
unfoldable pub same_name : OrderName → OrderName → Bool
same_name o u =
    eqb o.subscriber u.subscriber && eqb o.order_type u.order_type && eqb o.number u.number

-- ---- a signature: a signing answered 000000

abbrev pub is_signed : Exchange → Bool
is_signed e = is_signing_form (form e.request) && eqb (return_code e.reply) (code_field code.Ok)

-- one that names this order
abbrev pub signs : OrderName → Exchange → Bool
signs o e = is_signed e && same_name (signed_name e) o

-- whether the subscriber s has signed the order
unfoldable pub has_signed : OrderName → ℕ → List Exchange → Bool
has_signed o s [] = false
has_signed o s (e ∷ h) = cond (signs o e && eqb (subscriber e.request) s) true (has_signed o s h)

-- how many of n subscribers from s on have; how many of the 8
unfoldable pub signed_from : OrderName → ℕ → ℕ → List Exchange → ℕ
signed_from o s zero h = 0
signed_from o s (suc n) h = cond (has_signed o s h) 1 0 + signed_from o (suc s) n h

unfoldable pub signature_count : OrderName → List Exchange → ℕ
signature_count o h = signed_from o 1 subscribers h

-- "the subscriber becomes a signer", "Signing again answers 000000 and adds nobody": the same as the bits of a set
unfoldable pub signers_in : OrderName → List Exchange → ℕ
signers_in o [] = 0
signers_in o (e ∷ h) = cond (signs o e) (with_signer (subscriber e.request) (signers_in o h)) (signers_in o h)
