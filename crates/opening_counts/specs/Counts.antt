-- The seven counts of the accepted openings that opened a transaction, and how a call moves them: by its verdict, by
-- how many its clock drops, and by how many its receipt ends.
use Rattle.std.specs.Prelude.{ℕ, ◌+◌, ◌-◌, ◌^◌, ◌<◌, Bool, ◌&&◌, List, [], ◌∷◌, ltb, get_or}
use Rattle.bank_state.specs.Limits.{place_count}
use Rattle.bank_verdicts.specs.declared.verdict.UploadAction.{UploadAction}
use Rattle.bank_verdicts.specs.declared.verdict.UploadAction.TheVariants as up
use Rattle.bank_verdicts.specs.declared.verdict.DownloadAction.{DownloadAction}
use Rattle.bank_verdicts.specs.declared.verdict.DownloadAction.TheVariants as down
use Rattle.bank_verdicts.specs.declared.verdict.Action.{Action}
use Rattle.bank_verdicts.specs.declared.verdict.Action.TheVariants as action
use Rattle.bank_verdicts.specs.declared.verdict.Verdict.{Verdict}
use Rattle.bank_verdicts.specs.declared.verdict.Verdict.TheVariants as verdict
use Rattle.opening_counts.specs.declared.seven.Counts.{Counts}

-- ---- the seven counts, "open, booked, fetched (011000 to its receipt), skipped by receipt (011001), ended by another
-- receipt, cancelled, dropped"

-- how many they are
abbrev pub count_size : ℕ
count_size = 7

-- seven numbers in document 02's order, from 0 on, as counts
abbrev pub seven : (ℕ → ℕ) → Counts
seven f = record {
  pending = f 0;
  booked = f 1;
  fetched = f 2;
  skipped = f 3;
  ended = f 4;
  cancelled = f 5;
  dropped = f 6;
}

-- and the counts as numbers in this order
abbrev pub count_row : Counts → List ℕ
count_row c =
    c.pending ∷ c.booked ∷ c.fetched ∷ c.skipped ∷ c.ended ∷ c.cancelled ∷ c.dropped ∷ []

-- those that stand in a row of numbers from a place on
abbrev pub counts_from : ℕ → List ℕ → Counts
counts_from at rows = seven (λ (i : ℕ). get_or rows (at + i) 0)

-- before the first opening
abbrev pub no_counts : Counts
no_counts = seven (λ (i : ℕ). 0)

-- "and they add up to the openings accepted, signings aside"
abbrev pub sum : Counts → ℕ
sum c = c.pending + c.booked + c.fetched + c.skipped + c.ended + c.cancelled + c.dropped

-- ---- how a call moves them; nothing falls below 0

-- so many dropped
abbrev pub with_dropped : ℕ → Counts → Counts
with_dropped n c = record {
  pending = c.pending - n;
  booked = c.booked;
  fetched = c.fetched;
  skipped = c.skipped;
  ended = c.ended;
  cancelled = c.cancelled;
  dropped = c.dropped + n;
}

-- one opened, booked, fetched with so many others ended, skipped, cancelled
abbrev pub with_opened : Counts → Counts
with_opened c = record {
  pending = c.pending + 1;
  booked = c.booked;
  fetched = c.fetched;
  skipped = c.skipped;
  ended = c.ended;
  cancelled = c.cancelled;
  dropped = c.dropped;
}

abbrev pub with_booked : Counts → Counts
with_booked c = record {
  pending = c.pending - 1;
  booked = c.booked + 1;
  fetched = c.fetched;
  skipped = c.skipped;
  ended = c.ended;
  cancelled = c.cancelled;
  dropped = c.dropped;
}

abbrev pub with_fetched : ℕ → Counts → Counts
with_fetched others c = record {
  pending = c.pending - (1 + others);
  booked = c.booked;
  fetched = c.fetched + 1;
  skipped = c.skipped;
  ended = c.ended + others;
  cancelled = c.cancelled;
  dropped = c.dropped;
}

abbrev pub with_skipped : Counts → Counts
with_skipped c = record {
  pending = c.pending - 1;
  booked = c.booked;
  fetched = c.fetched;
  skipped = c.skipped + 1;
  ended = c.ended;
  cancelled = c.cancelled;
  dropped = c.dropped;
}

abbrev pub with_cancelled : Counts → Counts
with_cancelled c = record {
  pending = c.pending - 1;
  booked = c.booked;
  fetched = c.fetched;
  skipped = c.skipped;
  ended = c.ended;
  cancelled = c.cancelled + 1;
  dropped = c.dropped;
}

-- what an action moves, with the number of others that a receipt answered 011000 ends
abbrev pub upload_counts : UploadAction → Counts → Counts
upload_counts (up.Opened n) c = with_opened c
upload_counts up.Took c = c
upload_counts up.TookLast c = with_booked c
upload_counts (up.Point k) c = c
upload_counts (up.Cancelled r) c = with_cancelled c

abbrev pub download_counts : DownloadAction → ℕ → Counts → Counts
download_counts (down.Opened n) others c = with_opened c
download_counts (down.Delivered n) others c = c
download_counts (down.SentAgain n) others c = c
download_counts (down.Point d) others c = c
download_counts down.Cancelled others c = with_cancelled c
download_counts down.Confirmed others c = with_fetched others c
download_counts down.Declined others c = with_skipped c

abbrev pub action_counts : Action → ℕ → Counts → Counts
action_counts (action.Upload a) others c = upload_counts a c
action_counts (action.Download a) others c = download_counts a others c

-- "signings aside": a signing opens no transaction
abbrev pub verdict_counts : Verdict → ℕ → Counts → Counts
verdict_counts verdict.Unreadable others c = c
verdict_counts (verdict.Refused r) others c = c
verdict_counts (verdict.Of t a) others c = action_counts a others c
verdict_counts (verdict.Signed o added) others c = c

-- a call: first its clock drops, then its verdict does what it names
abbrev pub counts_after : Verdict → ℕ → ℕ → Counts → Counts
counts_after v gone others c = verdict_counts v others (with_dropped gone c)

-- ---- 64 bits hold each count

-- the most that one call moves: all uploads and all downloads that can be open
abbrev pub most_moved : ℕ
most_moved = place_count + place_count

unfoldable pub fits : ℕ → Bool
fits n = ltb (n + most_moved) (2 ^ 64)

-- each count can grow by what one call adds
unfoldable pub can_grow : Counts → Bool
can_grow c =
    fits c.pending && fits c.booked && fits c.fetched && fits c.skipped && fits c.ended
    && fits c.cancelled && fits c.dropped

-- room for what a verdict adds
pub record Room (others : ℕ) (c : Counts) : Type 0 where
  pub pending : c.pending + 1 < 2 ^ 64
  pub booked : c.booked + 1 < 2 ^ 64
  pub fetched : c.fetched + 1 < 2 ^ 64
  pub skipped : c.skipped + 1 < 2 ^ 64
  pub ended : c.ended + others < 2 ^ 64
  pub cancelled : c.cancelled + 1 < 2 ^ 64
