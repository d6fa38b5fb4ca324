-- Rocks given to benches. Rocks are the numbers e below n with S e; a function `to` gives each of them a bench.
-- An orientation is two such functions, the head and the tail of each rock; a placement is a third.
--     given S to v e          e is a rock of S that `to` gives to bench v
--     number n S to v         how many rocks of S it gives to v
--     gathered n S to f v     the sum of f over these rocks
use Rattle.std.specs.Prelude.{ℕ, Bool, ◌&&◌, eqb}
use Rattle.sums.specs.Sum.{on, sum, count}

abbrev pub given : (ℕ → Bool) → (ℕ → ℕ) → ℕ → ℕ → Bool
given S to v e = S e && eqb (to e) v

abbrev pub number : ℕ → (ℕ → Bool) → (ℕ → ℕ) → ℕ → ℕ
number n S to v = count n (given S to v)

abbrev pub gathered : ℕ → (ℕ → Bool) → (ℕ → ℕ) → (ℕ → ℕ) → ℕ → ℕ
gathered n S to f v = sum n (λ e. on (given S to v e) (f e))
