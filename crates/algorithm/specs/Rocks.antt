-- What Algorithm 2 takes from a day besides the words of crates/day. Weights and limits are multiplied by 3q.
--     rock d j            job j is a rock: heavy, with two benches
--     lowest, highest     the lowest bench that a job allows; of a job with two benches the other one
--     weight d j          3q × minutes
--     small, limit        the limits of Rule 2 and of PUSH
use Rattle.std.specs.Prelude.{ℕ, ◌+◌, ◌-◌, ◌*◌, Bool, ◌&&◌, eqb, ltb}
use Rattle.sums.specs.Search.{least}
use Rattle.day.specs.Day.{Day, choices, heavy, scale}

-- "its rocks are heavy jobs with two benches"
abbrev pub rock : Day → ℕ → Bool
rock d j = heavy d j && eqb (choices d j) 2

unfoldable pub lowest : Day → ℕ → ℕ
lowest d j = least d.benches (d.allows j)

unfoldable pub highest : Day → ℕ → ℕ
highest d j = least d.benches (λ b. ltb (lowest d j) b && d.allows j b)

abbrev pub weight : Day → ℕ → ℕ
weight d j = scale d * d.minutes j

-- "Rule 2 there uses edges with 3q × minutes < (2q + p) × T."
abbrev pub small : Day → ℕ
small d = (2 * d.q + d.p) * d.target

-- "PUSH is Definition 4.4.3, its bound 3q × load ≤ (5q − 2p) × T."
abbrev pub limit : Day → ℕ
limit d = (5 * d.q - 2 * d.p) * d.target
