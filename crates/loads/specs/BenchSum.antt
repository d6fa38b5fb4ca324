-- The bench sum (request S-2): "Every bench sum now also promises the fullest bench, the lowest on a tie".
--     sum_of n loads       of the first n loads of a table: the largest, and the least bench that has it
--     fuller s v load     the same with one bench more: bench v, with this load
use Rattle.std.specs.Prelude.{ℕ, cond, List, get_or, ltb}
use Rattle.sums.specs.Sum.{largest, fullest}
use Rattle.loads.specs.declared.bench_sum.BenchSum.{BenchSum}

abbrev pub sum_of : ℕ → List ℕ → BenchSum
sum_of n loads =
    record { largest = largest n (λ v. get_or loads v 0); fullest = fullest n (λ v. get_or loads v 0) }

abbrev pub fuller : BenchSum → ℕ → ℕ → BenchSum
fuller s v load = cond (ltb s.largest load) (record { largest = load; fullest = v }) s
