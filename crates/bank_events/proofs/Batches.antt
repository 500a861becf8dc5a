-- What a batch holds, by its count. Assumes nothing.
use Prim.Native.Nat.{ℕ, ◌+◌, ◌≤◌, ◌<◌}
use mathlib.Core.Bool.{Bool, true, false, cond}
use mathlib.Core.List.{List, [], ◌∷◌, ◌++◌, append-nil}
use mathlib.Core.Path.{◌≡◌, refl, sym, ap, ◌∙◌}
use native.Mathlib.Numerals.{add-one}
use native.Mathlib.Omega.{arith}
use lib.Dec.{ltb}
use lib.ListN.{length, take, set, length-append}
use lib.Seq.{take-suc-set, length-take-le}
use borrow.Author.Tests.{ltb-false}
use Rattle.journal.specs.declared.event.Entry.{Entry}
use Rattle.journal.specs.declared.event.Batch.{Batch}
use Rattle.journal.specs.Events.{count_of, entries_in, max_entries}
use Rattle.bank_events.specs.Entries.{Holds}

count-is : (n : ℕ) → n ≤ max_entries → count_of n ≡ n
unfolding count_of
count-is n h = at (ltb n max_entries) refl
  where
    at : (t : Bool) → ltb n max_entries ≡ t → cond t n max_entries ≡ n
    at true e = refl
    at false e = let m = ltb-false n max_entries e in omega arith

module _ (b : Batch) (few : b.count ≤ max_entries) where
  pub entries-are : entries_in b ≡ take b.count b.entries
  unfolding entries_in
  entries-are = ap (λ (n : ℕ). take n b.entries) (count-is b.count few)

  -- the first entries, as many as the count says
  pub holds-first : (es : List Entry) → length es ≡ b.count → take b.count b.entries ≡ es → Holds b es
  holds-first es n e = record { count = sym n; entries = entries-are ∙ e }

  module _ (long : length b.entries ≡ max_entries) where
    pub length-entries : length (entries_in b) ≡ b.count
    length-entries = ap length entries-are ∙ length-take-le b.count b.entries (omega arith)

    pub holds-none : Holds b (entries_in b ++ [])
    holds-none = rw (append-nil (entries_in b)) (record { count = sym length-entries; entries = refl })

-- one entry more
pub holds-one : (b c : Batch) (e : Entry) → length b.entries ≡ max_entries → b.count < max_entries → c.count ≡ b.count + 1
    → c.entries ≡ set b.entries b.count e → Holds c (entries_in b ++ (e ∷ []))
holds-one b c e long few n s =
    let first : take c.count c.entries ≡ entries_in b ++ (e ∷ []) =
    rw (n, s, add-one, entries-are b (omega arith)) (take-suc-set b.entries b.count e (omega arith)) in
    let size : length (entries_in b ++ (e ∷ [])) ≡ c.count =
    simp length-append (omega (arith, length-entries b (omega arith) long)) in
    holds-first c (omega arith) (entries_in b ++ (e ∷ [])) size first
