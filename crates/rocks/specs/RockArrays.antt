-- Tests at a rock, in arrays. Rock r is the one with the r-th lowest job; dir has 0 for a neutral rock, and else the
-- bench that the rock is directed to, plus 1.
--     first n f                      the least number below n of which f holds, and none where it holds of none
--     touches_at, other_at           an end of rock r, and its other end
--     within_at                      the round of a bench is one of the exploration
--     father_at, child_at            father and child, at an end of rock r
--     lowest_end m k low high P      the lowest end of the first k rocks that P holds of, and m where there is none
use Rattle.std.specs.Prelude.{ℕ, zero, suc, Bool, cond, ◌&&◌, ◌||◌, List, get_or, eqb, leb, ltb, Option, Some, None}
use Rattle.sums.specs.Search.{least}
use Rattle.arrays.specs.Arrays.{plus_of, lower_of}

-- The first number of which f holds.
unfoldable pub first : ℕ → (ℕ → Bool) → Option ℕ
first n f = cond (ltb (least n f) n) (Some (least n f)) None

unfoldable pub lowest_end : ℕ → ℕ → List ℕ → List ℕ → (ℕ → ℕ → Bool) → ℕ
lowest_end m zero low high P = m
lowest_end m (suc k) low high P =
    lower_of (P k (get_or high k 0)) (get_or high k 0)
    (lower_of (P k (get_or low k 0)) (get_or low k 0) (lowest_end m k low high P))

abbrev pub touches_at : List ℕ → List ℕ → ℕ → ℕ → Bool
touches_at low high r v = eqb v (get_or low r 0) || eqb v (get_or high r 0)

abbrev pub other_at : List ℕ → List ℕ → ℕ → ℕ → ℕ
other_at low high r v = cond (eqb v (get_or low r 0)) (get_or high r 0) (get_or low r 0)

-- The round of v is one of the exploration.
abbrev pub within_at : ℕ → List ℕ → ℕ → Bool
within_at benches rounds v = leb (get_or rounds v 0) benches

-- Rock r leads from its end v to a bench of the conflict set.
abbrev pub father_at : ℕ → List ℕ → List ℕ → List ℕ → List ℕ → ℕ → ℕ → Bool
father_at benches low high dir joined r v =
    eqb (get_or dir r 0) (plus_of (other_at low high r v) 1) && within_at benches joined (other_at low high r v)

-- Rock r leads from a bench of the conflict set to its end v.
abbrev pub child_at : ℕ → List ℕ → List ℕ → List ℕ → List ℕ → ℕ → ℕ → Bool
child_at benches low high dir joined r v =
    eqb (get_or dir r 0) (plus_of v 1) && within_at benches joined (other_at low high r v)
