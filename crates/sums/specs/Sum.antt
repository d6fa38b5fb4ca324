-- Finite sums and counts of index functions.
--     on b x        x where b is true, 0 where it is false
--     sum n f       f 0 + f 1 + … + f (n - 1)
--     count n f     how many i below n have f i
--     largest n f   the greatest of f 0, …, f (n - 1), and 0 where n is 0
--     fullest n f   the least i below n at which f is greatest, and 0 where n is 0
--     Fullest n f i     i is that index, as facts
use Rattle.std.specs.Prelude.{ℕ, zero, suc, ◌+◌, ◌<◌, max, ◌≡◌, Bool, true, false, eqb}
use Rattle.sums.specs.Search.{least}

abbrev pub on : Bool → ℕ → ℕ
on true x = x
on false x = 0

abbrev pub sum : ℕ → (ℕ → ℕ) → ℕ
sum zero f = 0
sum (suc n) f = sum n f + f n

abbrev pub count : ℕ → (ℕ → Bool) → ℕ
count n f = sum n (λ i. on (f i) 1)

abbrev pub largest : ℕ → (ℕ → ℕ) → ℕ
largest zero f = 0
largest (suc n) f = max (largest n f) (f n)

-- Request S-2: "the fullest bench, the lowest on a tie".
unfoldable pub fullest : ℕ → (ℕ → ℕ) → ℕ
fullest n f = least n (λ i. eqb (f i) (largest n f))

pub record Fullest (n : ℕ) (f : ℕ → ℕ) (i : ℕ) : Type 0 where
  pub one_of_them : i < n
  pub has_largest : f i ≡ largest n f
  pub lower_less : (k : ℕ) → k < i → f k < f i
