-- Sets of numbers below m, grown until nothing is added. A set is a function to Bool.
--     iterate k step S    S after k rounds of step
--     grow m R S          S and each v with R u v for some u of S below m
--     closure m R S       S after m rounds of grow: what R leads to from S
--     reach m R u         what R leads to from u alone
--     Chain m R S v       v is in S, or is led to by R, one step after another, from a number in S
use Rattle.std.specs.Prelude.{ℕ, zero, suc, ◌<◌, Bool, true, ◌&&◌, ◌||◌, ◌≡◌, eqb}
use Rattle.sums.specs.Search.{any}

abbrev pub iterate : ℕ → ((ℕ → Bool) → (ℕ → Bool)) → (ℕ → Bool) → (ℕ → Bool)
iterate zero step S = S
iterate (suc k) step S = step (iterate k step S)

unfoldable pub grow : ℕ → (ℕ → ℕ → Bool) → (ℕ → Bool) → (ℕ → Bool)
grow m R S v = S v || any m (λ u. S u && R u v)

unfoldable pub closure : ℕ → (ℕ → ℕ → Bool) → (ℕ → Bool) → (ℕ → Bool)
closure m R S = iterate m (grow m R) S

unfoldable pub reach : ℕ → (ℕ → ℕ → Bool) → ℕ → (ℕ → Bool)
reach m R u = closure m R (λ v. eqb v u)

pub data Chain (m : ℕ) (R : ℕ → ℕ → Bool) (S : ℕ → Bool) : ℕ → Type 0 where
  start : {v : ℕ} → S v ≡ true → Chain m R S v
  next : {u v : ℕ} → Chain m R S u → u < m → R u v ≡ true → Chain m R S v
