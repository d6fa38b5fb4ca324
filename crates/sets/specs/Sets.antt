-- Sets of numbers below 64, benches or rocks: number u is the bit of weight 2 ^ (63 − u).
--     choices_of, lowest_of, highest_of  how many numbers a set has, its lowest and its highest
use Rattle.std.specs.Prelude.{ℕ, ◌-◌}
use Rattle.bits.specs.Bits.{is_set}
use Rattle.sums.specs.Sum.{count}
use Rattle.sums.specs.Search.{least}

-- How many numbers a set has.
unfoldable pub choices_of : ℕ → ℕ
choices_of set = count 64 (is_set 64 set)

-- The lowest number of a set.
unfoldable pub lowest_of : ℕ → ℕ
lowest_of set = least 64 (is_set 64 set)

-- The highest number of a set: the first from the last one down.
unfoldable pub highest_of : ℕ → ℕ
highest_of set = 63 - least 64 (λ i. is_set 64 set (63 - i))
