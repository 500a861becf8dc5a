-- What names a run's order: subscriber and type are those that its opening carries. Assumes nothing.
use Prim.Native.Nat.{ℕ}
use mathlib.Core.List.{List}
use mathlib.Core.Path.{◌≡◌, refl, ◌∙◌, ap}
use Rattle.frame_table.specs.declared.fields.Bits128.{Bits128}
use Rattle.frame_table.specs.Names.{subscriber, order_type}
use Rattle.message.specs.Limits.{ful}
use Rattle.message.specs.Requests.{upload_opening, chosen_opening, download_opening}
use Rattle.client_run.specs.declared.run.ClientRun.{ClientRun}
use Rattle.message.specs.declared.directions.Direction.{Direction}
use Rattle.message.specs.declared.directions.Direction.TheVariants.{Upload, Download}
use Rattle.message.specs.declared.editions.Edition.{Edition}
use Rattle.message.specs.declared.editions.Edition.TheVariants.{V24, V25}
use Rattle.client_run.specs.declared.run.Step.{Step}
use Rattle.client_run.specs.declared.run.Step.TheVariants as step
use Rattle.client_run.specs.Requests.{opening_by, upload_request, download_request, request_by, outstanding}
use Rattle.client_run.specs.Run.{order_type_of, order_name}

-- an upload's opening of either edition
pub subscriber-opening : (e : Edition) (k s x : ℕ) (nonce : Bits128) (time n : ℕ)
    → subscriber (opening_by e k s x nonce time n) ≡ s
unfolding upload_opening chosen_opening
subscriber-opening V24 k s x nonce time n = refl
subscriber-opening V25 k s x nonce time n = refl

pub type-opening : (e : Edition) (k s x : ℕ) (nonce : Bits128) (time n : ℕ)
    → order_type (opening_by e k s x nonce time n) ≡ ful
unfolding upload_opening chosen_opening
type-opening V24 k s x nonce time n = refl
type-opening V25 k s x nonce time n = refl

module _ (c : ClientRun) (time : ℕ) (nonce : List ℕ) (at : c.step ≡ step.Opening) where
  subscriber-by : (w : Direction) → subscriber (request_by w c time nonce) ≡ c.subscriber
  unfolding download_opening
  subscriber-by Upload = ap (λ (s : Step). subscriber (upload_request s c time nonce)) at ∙ subscriber-opening c.terms.edition _ _ _ _ _ _
  subscriber-by Download = ap (λ (s : Step). subscriber (download_request s c time nonce)) at

  pub opening-subscriber : subscriber (outstanding c time nonce) ≡ (order_name c).subscriber
  unfolding outstanding
  opening-subscriber = subscriber-by c.direction

  type-by : (w : Direction) → order_type (request_by w c time nonce) ≡ order_type_of w
  unfolding download_opening
  type-by Upload = ap (λ (s : Step). order_type (upload_request s c time nonce)) at ∙ type-opening c.terms.edition _ _ _ _ _ _
  type-by Download = ap (λ (s : Step). order_type (download_request s c time nonce)) at

  pub opening-type : order_type (outstanding c time nonce) ≡ (order_name c).order_type
  unfolding outstanding
  opening-type = type-by c.direction
