-- Bounded search over index functions.
--     any n f       whether some i below n has f i
--     all n f       whether every i below n has f i
--     least n f     the least i below n with f i, and n where there is none
use Rattle.std.specs.Prelude.{ℕ, zero, suc, Bool, true, false, ◌&&◌, ◌||◌}

abbrev pub any : ℕ → (ℕ → Bool) → Bool
any zero f = false
any (suc n) f = any n f || f n

abbrev pub all : ℕ → (ℕ → Bool) → Bool
all zero f = true
all (suc n) f = all n f && f n

abbrev pub least : ℕ → (ℕ → Bool) → ℕ
least zero f = 0
least (suc n) f = elim (f 0) [ true ↦ 0 | false ↦ suc (least n (λ i. f (suc i))) ]
