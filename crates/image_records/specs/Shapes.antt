-- The shapes of tests: all of some, every number below one, how many, a sum, no two the same, zeros, and records not
-- in use.
use Rattle.std.specs.Prelude.{ℕ, zero, suc, ◌+◌, ◌-◌, ◌*◌, List, [], ◌∷◌, Bool, true, cond, not, ◌&&◌, leb, eqb, take, drop}

abbrev pub all_of : List Bool → Bool
all_of [] = true
all_of (t ∷ ts) = t && all_of ts

-- where a holds, b does
abbrev pub implies : Bool → Bool → Bool
implies a b = cond a b true

abbrev pub within : ℕ → ℕ → ℕ → Bool
within least greatest n = leb least n && leb n greatest

-- n, or the most where n is above it
abbrev pub up_to : ℕ → ℕ → ℕ
up_to most n = cond (leb n most) n most

-- p holds of every number below n
unfoldable pub every : (ℕ → Bool) → ℕ → Bool
every p zero = true
every p (suc n) = p n && every p n

-- of how many numbers below n p holds
unfoldable pub count : (ℕ → Bool) → ℕ → ℕ
count p zero = 0
count p (suc n) = cond (p n) 1 0 + count p n

-- the sum of the numbers that f gives below n
unfoldable pub total : (ℕ → ℕ) → ℕ → ℕ
total f zero = 0
total f (suc n) = f n + total f n

-- no two below n are the same
unfoldable pub distinct : (ℕ → ℕ → Bool) → ℕ → Bool
distinct same n = every (λ i. every (λ j. not (same i j)) i) n

unfoldable pub all_zero : List ℕ → Bool
all_zero [] = true
all_zero (x ∷ l) = eqb x 0 && all_zero l

-- the numbers of records from the one with this index to the end of their field are 0
unfoldable pub unused : List ℕ → ℕ → ℕ → ℕ → ℕ → Bool
unused xs at width used all = all_zero (take (width * all - used * width) (drop (at + used * width) xs))
