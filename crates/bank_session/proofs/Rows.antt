-- A session's numbers are the bank's and, behind them, the number of events and the counts. Assumes nothing.
use Prim.Native.Nat.{ℕ, suc, ◌+◌, ◌≤◌}
use mathlib.Core.List.{List, ◌∷◌, ◌++◌}
use mathlib.Core.Path.{◌≡◌, sym, ap, ◌∙◌}
use native.Mathlib.Omega.{arith}
use lib.ListN.{length, get_or, drop, length-append, length-take, length-drop, take-append-drop, drop_of_length-le}
use lib.Seq.{drop-cons, get_or_at, get_or-append-add, get_or-take, take_at}
use Rattle.octets.specs.Bytes.{overwrite}
use Rattle.octets.proofs.Numbers.{overwrite-all}
use Rattle.bank_rows.specs.Layout.{clock_at, state_size}
use Rattle.bank_rows.specs.State.{bank_of}
use Rattle.bank_rows.proofs.General.{overwrite-after}
use Rattle.opening_counts.specs.declared.seven.Counts.{Counts}
use Rattle.opening_counts.specs.Counts.{count_row}
use Rattle.bank_session.specs.Session.{
  events_at,
  counts_at,
  session_size,
  bank_rows,
  event_count,
  counts_in,
  with_numbers,
}

module _ (rows : List ℕ) (long : length rows ≡ session_size) where
  pub bank-long : length (bank_rows rows) ≡ state_size
  bank-long = simp length-take (omega arith)

  -- behind the bank's numbers
  pub behind : drop state_size rows ≡ event_count rows ∷ count_row (counts_in rows)
  behind =
      let end : length rows ≤ suc (counts_at + 6) = omega arith in
      drop-cons rows events_at 0 (omega arith) ∙ ap (◌∷◌ (event_count rows))
      (drop-cons rows counts_at 0 (omega arith) ∙ ap (◌∷◌ (counts_in rows).pending)
      (drop-cons rows (counts_at + 1) 0 (omega arith) ∙ ap (◌∷◌ (counts_in rows).booked)
      (drop-cons rows (counts_at + 2) 0 (omega arith) ∙ ap (◌∷◌ (counts_in rows).fetched)
      (drop-cons rows (counts_at + 3) 0 (omega arith) ∙ ap (◌∷◌ (counts_in rows).skipped)
      (drop-cons rows (counts_at + 4) 0 (omega arith) ∙ ap (◌∷◌ (counts_in rows).ended)
      (drop-cons rows (counts_at + 5) 0 (omega arith) ∙ ap (◌∷◌ (counts_in rows).cancelled)
      (drop-cons rows (counts_at + 6) 0 (omega arith) ∙ ap (◌∷◌ (counts_in rows).dropped)
      (drop_of_length-le rows end))))))))

  pub parts : with_numbers (bank_rows rows) (event_count rows) (counts_in rows) ≡ rows
  parts = ap (λ (l : List ℕ). bank_rows rows ++ l) (sym behind) ∙ take-append-drop state_size rows

  -- the bank's numbers anew, then the others
  pub renewed : (x : List ℕ) → x ++ drop state_size rows ≡ with_numbers x (event_count rows) (counts_in rows)
  renewed x = ap (λ (l : List ℕ). x ++ l) behind

  -- the others anew
  pub counted : (n : ℕ) (c : Counts) → overwrite rows events_at (n ∷ count_row c) ≡ with_numbers (bank_rows rows) n c
  counted n c =
      ap (λ (l : List ℕ). overwrite l events_at (n ∷ count_row c)) (sym (take-append-drop state_size rows))
      ∙ (overwrite-after (bank_rows rows) (drop state_size rows) state_size 0 (n ∷ count_row c) bank-long
      ∙ ap (λ (l : List ℕ). bank_rows rows ++ l)
      (overwrite-all (drop state_size rows) (n ∷ count_row c) (length-drop state_size rows ∙ omega arith)))

-- the bank's clock stands first
pub clock-is : (rows : List ℕ) → (bank_of (bank_rows rows)).clock ≡ get_or rows clock_at 0
unfolding bank_of
clock-is rows = get_or-take state_size rows clock_at 0 (omega arith)

-- what stands behind the bank's numbers
behind-at : (x t : List ℕ) → length x ≡ state_size → (i : ℕ) → get_or (x ++ t) (state_size + i) 0 ≡ get_or t i 0
behind-at x t long i = ap (λ (k : ℕ). get_or (x ++ t) (k + i) 0) (sym long) ∙ get_or-append-add x t i 0

module _ (x : List ℕ) (long : length x ≡ state_size) (n : ℕ) (c : Counts) where
  pub bank-of-both : bank_rows (with_numbers x n c) ≡ x
  bank-of-both = take_at x (n ∷ count_row c) state_size long

  pub count-of-both : event_count (with_numbers x n c) ≡ n
  count-of-both = get_or_at x n (count_row c) 0 events_at long

  pub counts-of-both : counts_in (with_numbers x n c) ≡ c
  counts-of-both =
      let at = behind-at x (n ∷ count_row c) long in
      rw (at 1, at 2, at 3, at 4, at 5, at 6, at 7)

  pub both_long : length (with_numbers x n c) ≡ session_size
  both_long = simp length-append (omega arith)
