-- Computed: seed 1's first four values and what each decides (reading 9.4), and two courses. Assumes nothing.
use mathlib.Core.List.{List, [], ◌∷◌, map}
use mathlib.Core.Path.{◌≡◌, refl}
use Rattle.line.specs.declared.decision.Decision.TheVariants.{Deliver}
use Rattle.line.specs.Generator.{left_xor, right_xor, moved}
use Rattle.line.specs.Line.{Message, made, decision, carried_out, stepped, put, out_of}
use Rattle.line.specs.Course.{course}

pub seed1 : moved 1 ≡ 270369
unfolding moved left_xor right_xor
seed1 = refl

pub seed1-second : moved 270369 ≡ 67634689
unfolding moved left_xor right_xor
seed1-second = refl

pub seed1-third : moved 67634689 ≡ 2647435461
unfolding moved left_xor right_xor
seed1-third = refl

pub seed1-fourth : moved 2647435461 ≡ 307599695
unfolding moved left_xor right_xor
seed1-fourth = refl

-- 1, 1, 5 and 7 modulo 8: twice, twice, once, once
pub seed1-decides : map (λ v. decision v 0) (270369 ∷ 67634689 ∷ 2647435461 ∷ 307599695 ∷ [])
    ≡ Deliver 2 ∷ Deliver 2 ∷ Deliver 1 ∷ Deliver 1 ∷ []
unfolding decision
seed1-decides = refl

-- seed 590 holds the first, loses the second, and lets the third out twice, behind both copies the first; the fourth comes
-- out
pub seed590 : course (made 590) ((1 ∷ []) ∷ (2 ∷ []) ∷ (3 ∷ []) ∷ (4 ∷ []) ∷ []) ≡ (3 ∷ []) ∷ (3 ∷ []) ∷ (1 ∷ []) ∷ (4 ∷ []) ∷ []
unfolding course put out_of stepped carried_out decision moved left_xor right_xor
seed590 = refl

abbrev eleven : List Message
eleven =
    (1 ∷ []) ∷ (2 ∷ []) ∷ (3 ∷ []) ∷ (4 ∷ []) ∷ (5 ∷ []) ∷ (6 ∷ []) ∷ (7 ∷ []) ∷ (8 ∷ []) ∷ (9 ∷ []) ∷ (10 ∷ []) ∷ (11 ∷ []) ∷ []

-- "Seed 144,278,828 holds eleven times in a row" (reading 9.6), but for the room: eight are held, the ninth comes out and
-- behind it the first, the tenth is held, the eleventh comes out and behind it the second
pub seed144278828 : course (made 144278828) eleven ≡ (9 ∷ []) ∷ (1 ∷ []) ∷ (11 ∷ []) ∷ (2 ∷ []) ∷ []
unfolding course put out_of stepped carried_out decision moved left_xor right_xor
seed144278828 = refl
