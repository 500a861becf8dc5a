-- The request that a run has outstanding.
use Rattle.std.specs.Prelude.{ℕ, ◌+◌, ◌*◌, ◌%◌, ◌^◌, List, [], take, drop}
use Rattle.frame_table.specs.declared.fields.Bits128.{Bits128}
use Rattle.frame_table.specs.declared.fields.Fields.{Fields}
use Rattle.octets.specs.Bytes.{number}
use Rattle.message.specs.Requests.{upload_opening, chosen_opening, download_opening, upload_transfer, download_transfer, receipt}
use Rattle.message.specs.Segments.{segment_of, last_mark_of}
use Rattle.client_run.specs.declared.run.ClientRun.{ClientRun}
use Rattle.message.specs.declared.directions.Direction.{Direction}
use Rattle.message.specs.declared.directions.Direction.TheVariants.{Upload, Download}
use Rattle.message.specs.declared.editions.Edition.{Edition}
use Rattle.message.specs.declared.editions.Edition.TheVariants.{V24, V25}
use Rattle.client_run.specs.declared.run.RunTerms.{RunTerms}
use Rattle.client_run.specs.declared.run.Step.{Step}
use Rattle.client_run.specs.declared.run.Step.TheVariants as step
use Rattle.client_run.specs.Run.{chosen_number}

-- "a nonce is 12 lent bytes, then the exchange number", whose field has 4 bytes
unfoldable pub nonce_of : List ℕ → ℕ → Bits128
nonce_of lent exchange = record { high = number (take 8 lent); low = number (drop 8 lent) * 2 ^ 32 + exchange % 2 ^ 32 }

-- an upload's opening, by its edition: in 2.4 it brings "its number", again the same where it is repeated
abbrev pub opening_by : Edition → ℕ → ℕ → ℕ → Bits128 → ℕ → ℕ → Fields
opening_by V24 chosen subscriber exchange nonce time segments =
    chosen_opening subscriber exchange nonce time segments chosen
opening_by V25 chosen subscriber exchange nonce time segments =
    upload_opening subscriber exchange nonce time segments

-- the opening of a run with these terms
abbrev pub terms_opening : RunTerms → ℕ → ℕ → Bits128 → ℕ → ℕ → Fields
terms_opening terms subscriber exchange nonce time segments =
    opening_by terms.edition (chosen_number terms) subscriber exchange nonce time segments

-- "Each call brings the time, which an opening carries as its timestamp"
abbrev pub upload_request : Step → ClientRun → ℕ → List ℕ → Fields
upload_request step.Opening c time nonce =
    terms_opening c.terms c.subscriber c.exchange (nonce_of nonce c.exchange) time c.segments
upload_request step.Segment c time nonce =
    upload_transfer c.subscriber c.exchange c.transaction c.segment (last_mark_of c.segment c.segments)
upload_request step.Receipt c time nonce = receipt c.subscriber c.exchange c.transaction 0

-- "a receipt carries code 0"
abbrev pub download_request : Step → ClientRun → ℕ → List ℕ → Fields
download_request step.Opening c time nonce =
    download_opening c.subscriber c.exchange (nonce_of nonce c.exchange) time
download_request step.Segment c time nonce = download_transfer c.subscriber c.exchange c.transaction c.segment
download_request step.Receipt c time nonce = receipt c.subscriber c.exchange c.transaction 0

abbrev pub request_by : Direction → ClientRun → ℕ → List ℕ → Fields
request_by Upload c time nonce = upload_request c.step c time nonce
request_by Download c time nonce = download_request c.step c time nonce

-- "It cuts the payload at 256 bytes"
abbrev pub upload_data : Step → ℕ → List ℕ → List ℕ
upload_data step.Opening s payload = []
upload_data step.Segment s payload = segment_of payload s
upload_data step.Receipt s payload = []

abbrev pub data_by : Direction → ClientRun → List ℕ → List ℕ
data_by Upload c payload = upload_data c.step c.segment payload
data_by Download c payload = []

-- the fields of the outstanding request, and its data
unfoldable pub outstanding : ClientRun → ℕ → List ℕ → Fields
outstanding c time nonce = request_by c.direction c time nonce

unfoldable pub outstanding_data : ClientRun → List ℕ → List ℕ
outstanding_data c payload = data_by c.direction c payload
