-- The outstanding request by direction and step, and the fields of the request forms. Assumes nothing.
use Prim.Native.Nat.{ℕ}
use mathlib.Core.List.{List, []}
use mathlib.Core.Path.{◌≡◌, refl, ap, ◌∙◌}
use Rattle.frame_table.specs.declared.fields.Bits128.{Bits128}
use Rattle.frame_table.specs.declared.fields.Fields.{Fields}
use Rattle.frame_table.specs.Forms as forms
use Rattle.frame_table.specs.Names.{subscriber, exchange, segments, transaction, segment, form}
use Rattle.frame_table.specs.Table.{row_fits, find_form, form_of}
use Rattle.message.specs.Requests.{upload_opening, chosen_opening, download_opening, upload_transfer, download_transfer, receipt}
use Rattle.message.specs.Segments.{segment_of, last_mark_of}
use Rattle.client_run.specs.declared.run.ClientRun.{ClientRun}
use Rattle.message.specs.declared.directions.Direction.{Direction}
use Rattle.message.specs.declared.directions.Direction.TheVariants.{Upload, Download}
use Rattle.message.specs.declared.editions.Edition.{Edition}
use Rattle.message.specs.declared.editions.Edition.TheVariants.{V24, V25}
use Rattle.message.specs.Editions.{opening_form, order_opened}
use Rattle.client_run.specs.declared.run.RunTerms.{RunTerms}
use Rattle.client_run.specs.declared.run.Step.{Step}
use Rattle.client_run.specs.declared.run.Step.TheVariants as step
use Rattle.client_run.specs.Requests.{
  nonce_of,
  opening_by,
  terms_opening,
  upload_request,
  download_request,
  request_by,
  upload_data,
  data_by,
  outstanding,
  outstanding_data,
}
use Rattle.client_run.specs.NextRun.{learned_number}
use Rattle.client_run.specs.Run.{chosen_number}
use Rattle.client_run.proofs.Names.{subscriber-opening}

-- ---- the fields of the request forms

-- an upload's opening of either edition; its subscriber and type are those of `Names`
pub form-opening : (e : Edition) (k s x : ℕ) (nonce : Bits128) (time n : ℕ)
    → form (opening_by e k s x nonce time n) ≡ opening_form e
unfolding upload_opening chosen_opening form_of find_form row_fits
form-opening V24 k s x nonce time n = refl
form-opening V25 k s x nonce time n = refl

exchange-opening : (e : Edition) (k s x : ℕ) (nonce : Bits128) (time n : ℕ)
    → exchange (opening_by e k s x nonce time n) ≡ x
unfolding upload_opening chosen_opening
exchange-opening V24 k s x nonce time n = refl
exchange-opening V25 k s x nonce time n = refl

pub segments-opening : (e : Edition) (k s x : ℕ) (nonce : Bits128) (time n : ℕ)
    → segments (opening_by e k s x nonce time n) ≡ n
unfolding upload_opening chosen_opening
segments-opening V24 k s x nonce time n = refl
segments-opening V25 k s x nonce time n = refl

-- the order number that it opens with: the one that it brings, or the one that its answer brings
pub number-opening : (e : Edition) (terms : RunTerms) (s x : ℕ) (nonce : Bits128) (time n : ℕ) (r : Fields)
    → order_opened (opening_by e (chosen_number terms) s x nonce time n) r ≡ learned_number e terms r
unfolding upload_opening chosen_opening form_of find_form row_fits
number-opening V24 terms s x nonce time n r = refl
number-opening V25 terms s x nonce time n r = refl

pub form-download_opening : (s x : ℕ) (nonce : Bits128) (time : ℕ)
    → form (download_opening s x nonce time) ≡ forms.DownloadOpening
unfolding download_opening form_of find_form row_fits
form-download_opening s x nonce time = refl

pub form-upload_transfer : (s x : ℕ) (t : Bits128) (j mark : ℕ)
    → form (upload_transfer s x t j mark) ≡ forms.UploadTransfer
unfolding upload_transfer form_of find_form row_fits
form-upload_transfer s x t j mark = refl

pub form-download_transfer : (s x : ℕ) (t : Bits128) (j : ℕ) → form (download_transfer s x t j) ≡ forms.DownloadTransfer
unfolding download_transfer form_of find_form row_fits
form-download_transfer s x t j = refl

pub form-receipt : (s x : ℕ) (t : Bits128) (n : ℕ) → form (receipt s x t n) ≡ forms.Receipt
unfolding receipt form_of find_form row_fits
form-receipt s x t n = refl

pub segment-upload_transfer : (s x : ℕ) (t : Bits128) (j mark : ℕ) → segment (upload_transfer s x t j mark) ≡ j
unfolding upload_transfer
segment-upload_transfer s x t j mark = refl

pub id-upload_transfer : (s x : ℕ) (t : Bits128) (j mark : ℕ) → transaction (upload_transfer s x t j mark) ≡ t
unfolding upload_transfer
id-upload_transfer s x t j mark = refl

pub id-receipt : (s x : ℕ) (t : Bits128) (n : ℕ) → transaction (receipt s x t n) ≡ t
unfolding receipt
id-receipt s x t n = refl

-- ---- the outstanding request

module _ (c : ClientRun) (time : ℕ) (nonce payload : List ℕ) where
  module _ (up : c.direction ≡ Upload) where
    by-upload : outstanding c time nonce ≡ upload_request c.step c time nonce
    unfolding outstanding
    by-upload = ap (λ (w : Direction). request_by w c time nonce) up

    data-upload : outstanding_data c payload ≡ upload_data c.step c.segment payload
    unfolding outstanding_data
    data-upload = ap (λ (w : Direction). data_by w c payload) up

    pub is-upload_opening : c.step ≡ step.Opening
        → outstanding c time nonce
        ≡ terms_opening c.terms c.subscriber c.exchange (nonce_of nonce c.exchange) time c.segments
    is-upload_opening at = by-upload ∙ ap (λ (s : Step). upload_request s c time nonce) at

    pub is-upload_transfer : c.step ≡ step.Segment → outstanding c time nonce
        ≡ upload_transfer c.subscriber c.exchange c.transaction c.segment
        (last_mark_of c.segment c.segments)
    is-upload_transfer at = by-upload ∙ ap (λ (s : Step). upload_request s c time nonce) at

    pub data-opening : c.step ≡ step.Opening → outstanding_data c payload ≡ []
    data-opening at = data-upload ∙ ap (λ (s : Step). upload_data s c.segment payload) at

    pub data-transfer : c.step ≡ step.Segment → outstanding_data c payload ≡ segment_of payload c.segment
    data-transfer at = data-upload ∙ ap (λ (s : Step). upload_data s c.segment payload) at

  module _ (down : c.direction ≡ Download) where
    by-download : outstanding c time nonce ≡ download_request c.step c time nonce
    unfolding outstanding
    by-download = ap (λ (w : Direction). request_by w c time nonce) down

    pub is-download_opening : c.step ≡ step.Opening
        → outstanding c time nonce ≡ download_opening c.subscriber c.exchange (nonce_of nonce c.exchange) time
    is-download_opening at = by-download ∙ ap (λ (s : Step). download_request s c time nonce) at

    pub is-download_transfer : c.step ≡ step.Segment
        → outstanding c time nonce ≡ download_transfer c.subscriber c.exchange c.transaction c.segment
    is-download_transfer at = by-download ∙ ap (λ (s : Step). download_request s c time nonce) at

    pub is-receipt : c.step ≡ step.Receipt
        → outstanding c time nonce ≡ receipt c.subscriber c.exchange c.transaction 0
    is-receipt at = by-download ∙ ap (λ (s : Step). download_request s c time nonce) at

    pub data-download : outstanding_data c payload ≡ []
    unfolding outstanding_data
    data-download = ap (λ (w : Direction). data_by w c payload) down

  -- every request carries the run's exchange number and subscriber
  exchange-by : (w : Direction) (s : Step) → c.step ≡ s → exchange (request_by w c time nonce) ≡ c.exchange
  unfolding download_opening upload_transfer download_transfer receipt
  exchange-by Upload step.Opening e =
      ap (λ (s : Step). exchange (upload_request s c time nonce)) e ∙ exchange-opening c.terms.edition _ _ _ _ _ _
  exchange-by Upload step.Segment e = ap (λ (s : Step). exchange (upload_request s c time nonce)) e
  exchange-by Upload step.Receipt e = ap (λ (s : Step). exchange (upload_request s c time nonce)) e
  exchange-by Download step.Opening e = ap (λ (s : Step). exchange (download_request s c time nonce)) e
  exchange-by Download step.Segment e = ap (λ (s : Step). exchange (download_request s c time nonce)) e
  exchange-by Download step.Receipt e = ap (λ (s : Step). exchange (download_request s c time nonce)) e

  pub outstanding-exchange : exchange (outstanding c time nonce) ≡ c.exchange
  unfolding outstanding
  outstanding-exchange = exchange-by c.direction c.step refl

  subscriber-by : (w : Direction) (s : Step) → c.step ≡ s → subscriber (request_by w c time nonce) ≡ c.subscriber
  unfolding download_opening upload_transfer download_transfer receipt
  subscriber-by Upload step.Opening e =
      ap (λ (s : Step). subscriber (upload_request s c time nonce)) e
      ∙ subscriber-opening c.terms.edition _ _ _ _ _ _
  subscriber-by Upload step.Segment e = ap (λ (s : Step). subscriber (upload_request s c time nonce)) e
  subscriber-by Upload step.Receipt e = ap (λ (s : Step). subscriber (upload_request s c time nonce)) e
  subscriber-by Download step.Opening e = ap (λ (s : Step). subscriber (download_request s c time nonce)) e
  subscriber-by Download step.Segment e = ap (λ (s : Step). subscriber (download_request s c time nonce)) e
  subscriber-by Download step.Receipt e = ap (λ (s : Step). subscriber (download_request s c time nonce)) e

  pub outstanding-subscriber : subscriber (outstanding c time nonce) ≡ c.subscriber
  unfolding outstanding
  outstanding-subscriber = subscriber-by c.direction c.step refl
