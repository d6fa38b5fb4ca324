-- Numbers of 64 bits, and lists entry by entry.
--     plus_of a b           a + b, and the greatest number where that does not fit
--     times_of a b          a × b for a below 2^20 and b below 2^30, and else 0
--     lower_of counts u v   the lower of v and u where u counts, else v
--     filled n f xs         xs with f i at each place i below n
use Rattle.std.specs.Prelude.{ℕ, zero, suc, ◌+◌, ◌*◌, min, Bool, cond, ◌&&◌, ltb, List, set}

-- ── numbers ──

abbrev pub plus_of : ℕ → ℕ → ℕ
plus_of a b = min (a + b) 18446744073709551615

-- A product, where both numbers are small enough.
abbrev pub times_of : ℕ → ℕ → ℕ
times_of a b = cond (ltb a 1048576 && ltb b 1073741824) (a * b) 0

abbrev pub lower_of : Bool → ℕ → ℕ → ℕ
lower_of counts u v = cond (counts && ltb u v) u v

-- ── lists ──

-- Entry by entry; past the end nothing is put.
module _ {ℓ} {A : Type ℓ} where
  unfoldable pub filled : ℕ → (ℕ → A) → List A → List A
  filled zero f xs = xs
  filled (suc n) f xs = set (filled n f xs) n (f n)
