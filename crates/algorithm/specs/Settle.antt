-- The rule for the rocks that stay neutral when no bench is overloaded: "a neutral tree points away from its lowest
-- bench; in a neutral cycle its lowest job goes to its higher bench and the rest follow round."
--     neutral_at, linked      a neutral rock at a bench; benches joined by one
--     system, system_rock     the benches and the rocks of the neutral tree or cycle of a bench
--     is_tree                 it has fewer rocks than benches
--     follow                  rocks leave marked benches, one after another
--     settle_system, settle_from, settle  one tree or cycle; one after another; all
use Rattle.std.specs.Prelude.{ℕ, zero, suc, Bool, true, false, cond, ◌&&◌, List, get_or, set, eqb, ltb}
use Rattle.sums.specs.Sum.{count}
use Rattle.sums.specs.Search.{any, least}
use Rattle.closure.specs.Closure.{reach}
use Rattle.algorithm.specs.Board.{Board, Directions, touches, other, neutral}
use Rattle.algorithm.specs.Forced.{direct, nobody}

-- The neutral rock j is at v.
abbrev pub neutral_at : Board → Directions → ℕ → ℕ → Bool
neutral_at b dir v j = touches b j v && neutral dir j

-- Two benches joined by a neutral rock; and the benches and rocks of the neutral tree or cycle of v.
abbrev pub linked : Board → Directions → ℕ → ℕ → Bool
linked b dir u v = any b.jobs (λ j. neutral_at b dir u j && eqb v (other b j u))

abbrev pub system : Board → Directions → ℕ → ℕ → Bool
system b dir v = reach b.benches (linked b dir) v

abbrev pub system_rock : Board → Directions → ℕ → ℕ → Bool
system_rock b dir v j = b.rock j && neutral dir j && system b dir v (b.low j)

-- Fewer rocks than benches.
abbrev pub is_tree : Board → Directions → ℕ → Bool
is_tree b dir v = ltb (count b.jobs (system_rock b dir v)) (count b.benches (system b dir v))

-- "the rest follow round": every neutral rock at a marked bench leaves it, and marks its other end.
unfoldable pub follow : ℕ → Board → Directions → List Bool → Directions
follow zero b dir marked = dir
follow (suc k) b dir marked =
    let v : ℕ = least b.benches (λ v. get_or marked v false && any b.jobs (neutral_at b dir v)) in
    let j : ℕ = least b.jobs (neutral_at b dir v) in
    elim (ltb v b.benches) [ false ↦ dir | true ↦ follow k b (direct b dir v j) (set marked (other b j v) true) ]

-- One neutral tree or cycle: that of bench v.
abbrev pub settle_system : Board → Directions → ℕ → Directions
settle_system b dir v =
    let j : ℕ = least b.jobs (system_rock b dir v) in
    cond (is_tree b dir v) (follow b.jobs b dir (set (nobody b) v true))
    (follow b.jobs b (direct b dir (b.low j) j) (set (nobody b) (b.high j) true))

-- One tree or cycle after another, by lowest bench.
unfoldable pub settle_from : ℕ → Board → Directions → Directions
settle_from zero b dir = dir
settle_from (suc k) b dir =
    let v : ℕ = least b.benches (λ v. any b.jobs (neutral_at b dir v)) in
    elim (ltb v b.benches) [ false ↦ dir | true ↦ settle_from k b (settle_system b dir v) ]

abbrev pub settle : Board → Directions → Directions
settle b dir = settle_from b.jobs b dir
