-- Card 11, "before 2.5 the client chose the order number": the edition of a request, by its form, the two forms of an
-- upload's opening and of its reply, and where the order number stands.
use Rattle.std.specs.Prelude.{ℕ}
use Rattle.frame_table.specs.declared.fields.Fields.{Fields}
use Rattle.frame_table.specs.declared.table.Form.{Form}
use Rattle.frame_table.specs.declared.table.Form.TheVariants.{NoForm, Request, Reply}
use Rattle.frame_table.specs.declared.table.RequestForm.{RequestForm}
use Rattle.frame_table.specs.declared.table.RequestForm.TheVariants as request
use Rattle.frame_table.specs.Forms as forms
use Rattle.frame_table.specs.Names.{order_number, form}
use Rattle.message.specs.declared.editions.Edition.{Edition}
use Rattle.message.specs.declared.editions.Edition.TheVariants.{V24, V25}

-- "An upload opening with field 11 (4 bytes, H003) and 0E, besides 01 to 07, is such a client's"
abbrev pub request_edition : RequestForm → Edition
request_edition request.UploadOpening = V25
request_edition request.DownloadOpening = V25
request_edition request.UploadTransfer = V25
request_edition request.DownloadTransfer = V25
request_edition request.Receipt = V25
request_edition request.Signing = V25
request_edition request.ChosenOpening = V24

abbrev pub form_edition : Form → Edition
form_edition NoForm = V25
form_edition (Request x) = request_edition x
form_edition (Reply x) = V25

abbrev pub edition_of : Fields → Edition
edition_of q = form_edition (form q)

-- the form of an upload's opening, and of the reply that accepts it: up to 2.4 "the reply leaves 0E out", which are the
-- tags of "receipt answered"
abbrev pub opening_form : Edition → Form
opening_form V24 = forms.ChosenOpening
opening_form V25 = forms.UploadOpening

abbrev pub opened_form : Edition → Form
opened_form V24 = forms.ReceiptAnswered
opened_form V25 = forms.UploadOpened

-- the order number of the upload that a request opened: up to 2.4 the request brings it, from 2.5 on the reply
abbrev pub number_opened : Edition → Fields → Fields → ℕ
number_opened V24 q r = order_number q
number_opened V25 q r = order_number r

abbrev pub order_opened : Fields → Fields → ℕ
order_opened q r = number_opened (edition_of q) q r
