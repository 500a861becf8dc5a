-- The events of one call: how many, and which at each index. Assumes nothing.
use Prim.Native.Nat.{ℕ, zero, suc, ◌+◌, ◌<◌}
use mathlib.Core.Path.{◌≡◌, refl, ◌∙◌, ap}
use mathlib.Core.List.{List, [], ◌∷◌}
use native.Mathlib.Omega.{arith}
use lib.ListN.{length, get_or}
use lib.Seq.{length-take-le, get_or-take}
use Rattle.journal.specs.declared.event.Entry.{Entry}
use Rattle.journal.specs.declared.event.Batch.{Batch}
use Rattle.journal.specs.Events.{max_entries, no_event, no_entry, event_of, events_from, event_at, count_of, entries_in}
use Rattle.journal.proofs.Bounds.{count_most}

pub events-length : (n clock : ℕ) (l : List Entry) → length (events_from n clock l) ≡ length l
unfolding events_from
events-length n clock [] = refl
events-length n clock (e ∷ es) = ap suc (events-length _ clock es)

-- event numbers run on without a gap
pub numbered-at : (n clock : ℕ) (l : List Entry) (k : ℕ) → k < length l → get_or (events_from n clock l) k no_event ≡ event_of (suc (n + k)) clock (get_or l k no_entry)
unfolding events_from
numbered-at n clock [] k h = absurd (omega (arith, h))
numbered-at n clock (e ∷ es) zero h = ap (λ (m : ℕ). event_of (suc m) clock e) (omega arith)
numbered-at n clock (e ∷ es) (suc k) h =
    numbered-at (suc n) clock es k (omega (arith, h)) ∙ ap (λ (m : ℕ). event_of (suc m) clock (get_or es k no_entry)) further
  where
    further : suc n + k ≡ n + suc k
    further = omega arith

module _ (b : Batch) (nine : length b.entries ≡ max_entries) where
  entries-length : length (entries_in b) ≡ count_of b.count
  unfolding entries_in
  entries-length = length-take-le (count_of b.count) b.entries (omega (arith, nine, count_most b.count))

  -- a batch has as many events as its count says
  pub batch-length : (n clock : ℕ) → length (events_from n clock (entries_in b)) ≡ count_of b.count
  batch-length n clock = events-length n clock (entries_in b) ∙ entries-length

  pub batch-at : (n clock k : ℕ) → k < count_of b.count → get_or (events_from n clock (entries_in b)) k no_event ≡ event_at n clock b k
  unfolding event_at entries_in
  batch-at n clock k h =
      numbered-at n clock (entries_in b) k (omega (arith, h, entries-length))
      ∙ ap (event_of (suc (n + k)) clock) (get_or-take (count_of b.count) b.entries k no_entry h)
