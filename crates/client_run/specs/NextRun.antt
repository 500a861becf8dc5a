-- "A client run is handed in and handed back at each call": the next run, by what the event led to.
use Rattle.std.specs.Prelude.{ℕ, ◌+◌, ◌-◌, ◌*◌, ◌≤◌, max, cond, List, ◌≡◌, eqb}
use Rattle.frame_table.specs.declared.fields.Fields.{Fields}
use Rattle.octets.specs.Bytes.{overwrite}
use Rattle.frame_table.specs.Names.{segments, transaction, order_number}
use Rattle.message.specs.Limits.{segment_bytes, max_segments}
use Rattle.message.specs.Segments.{segments_of}
use Rattle.client_run.specs.declared.run.ClientRun.{ClientRun}
use Rattle.message.specs.declared.directions.Direction.{Direction}
use Rattle.message.specs.declared.directions.Direction.TheVariants.{Upload, Download}
use Rattle.message.specs.declared.editions.Edition.{Edition}
use Rattle.message.specs.declared.editions.Edition.TheVariants.{V24, V25}
use Rattle.client_run.specs.declared.run.Lengths.{Lengths}
use Rattle.client_run.specs.declared.run.RunParameters.{RunParameters}
use Rattle.client_run.specs.declared.run.RunTerms.{RunTerms}
use Rattle.client_run.specs.declared.run.Stage.TheVariants as stage
use Rattle.client_run.specs.declared.run.Step.{Step}
use Rattle.client_run.specs.declared.run.Step.TheVariants as step
use Rattle.client_run.specs.declared.run.Word.{Word}
use Rattle.client_run.specs.Run.{chosen_number}

-- the bytes that count of what is lent to begin: an upload's payload; a download holds nothing yet
abbrev pub begin_length : Direction → Lengths → ℕ
begin_length Upload l = l.payload
begin_length Download l = 0

-- the run as begun, its opening outstanding under the first exchange number
unfoldable pub begun : RunParameters → ℕ → ClientRun
begun params n = record {
  stage = stage.Running;
  direction = params.direction;
  step = step.Opening;
  subscriber = params.subscriber;
  exchange = params.first;
  repeats = 0;
  terms = params.terms;
  transaction = record { high = 0; low = 0 };
  number = 0;
  length = n;
  segments = segments_of n;
  segment = 0;
  issued = 0;
}

-- the step after segment k: the receipt where a download has them all, else segment k + 1
abbrev pub step_after : Direction → ℕ → ℕ → Step
step_after Upload k n = step.Segment
step_after Download k n = cond (eqb k n) step.Receipt step.Segment

-- the run whose request after segment k is outstanding, with this many repeats:
-- "Each request takes the next exchange number"
unfoldable pub go_on : ℕ → ℕ → ClientRun → ClientRun
go_on k repeats c = record {
  stage = c.stage;
  direction = c.direction;
  step = step_after c.direction k c.segments;
  subscriber = c.subscriber;
  exchange = c.exchange + 1;
  repeats = repeats;
  terms = c.terms;
  transaction = c.transaction;
  number = c.number;
  length = c.length;
  segments = c.segments;
  segment = k + 1;
  issued = max c.issued (k + 1);
}

-- the same request again under a new exchange number
unfoldable pub repeated : ClientRun → ClientRun
repeated c = record {
  stage = c.stage;
  direction = c.direction;
  step = c.step;
  subscriber = c.subscriber;
  exchange = c.exchange + 1;
  repeats = c.repeats + 1;
  terms = c.terms;
  transaction = c.transaction;
  number = c.number;
  length = c.length;
  segments = c.segments;
  segment = c.segment;
  issued = c.issued;
}

-- the order number of an upload that was opened: in edition 2.4, whose reply "leaves 0E out", the one that the run was
-- told at begin
abbrev pub learned_number : Edition → RunTerms → Fields → ℕ
learned_number V24 terms r = chosen_number terms
learned_number V25 terms r = order_number r

-- what an opening's answer tells: the transaction ID, an upload's order number, a download's number of segments
abbrev pub learned : Direction → Fields → ClientRun → ClientRun
learned Upload r c = record {
  stage = c.stage;
  direction = c.direction;
  step = c.step;
  subscriber = c.subscriber;
  exchange = c.exchange;
  repeats = c.repeats;
  terms = c.terms;
  transaction = transaction r;
  number = learned_number c.terms.edition c.terms r;
  length = c.length;
  segments = c.segments;
  segment = 0;
  issued = c.issued;
}
learned Download r c = record {
  stage = c.stage;
  direction = c.direction;
  step = c.step;
  subscriber = c.subscriber;
  exchange = c.exchange;
  repeats = c.repeats;
  terms = c.terms;
  transaction = transaction r;
  number = 0;
  length = c.length;
  segments = segments r;
  segment = 1;
  issued = c.issued;
}

-- a download's outstanding segment, answered with d bytes, has its place in a file
abbrev pub HasPlace : ClientRun → ℕ → Type 0
HasPlace c d = c.direction ≡ Download → (1 ≤ c.segment) × (c.segment ≤ max_segments) × (d ≤ segment_bytes)

-- the bytes that count once segment s is answered with d bytes: an upload's n stay, a download holds them up to those
abbrev pub length_with : Direction → ℕ → ℕ → ℕ → ℕ
length_with Upload s d n = n
length_with Download s d n = (s - 1) * segment_bytes + d

-- the run with its outstanding segment answered with d bytes, which a download holds
abbrev pub holding : ℕ → ClientRun → ClientRun
holding d c = record {
  stage = c.stage;
  direction = c.direction;
  step = c.step;
  subscriber = c.subscriber;
  exchange = c.exchange;
  repeats = c.repeats;
  terms = c.terms;
  transaction = c.transaction;
  number = c.number;
  length = length_with c.direction c.segment d c.length;
  segments = c.segments;
  segment = c.segment;
  issued = c.issued;
}

-- "Only ... a newly held segment's bytes are written": of segment s, in a download
abbrev pub file_by : Direction → ℕ → List ℕ → List ℕ → List ℕ
file_by Upload s d file = file
file_by Download s d file = overwrite file ((s - 1) * segment_bytes) d

abbrev pub file_with : ClientRun → List ℕ → List ℕ → List ℕ
file_with c d file = file_by c.direction c.segment d file

-- the run ended with a word
unfoldable pub ended : Word → ClientRun → ClientRun
ended w c = record {
  stage = stage.Ended w;
  direction = c.direction;
  step = c.step;
  subscriber = c.subscriber;
  exchange = c.exchange;
  repeats = c.repeats;
  terms = c.terms;
  transaction = c.transaction;
  number = c.number;
  length = c.length;
  segments = c.segments;
  segment = c.segment;
  issued = c.issued;
}
