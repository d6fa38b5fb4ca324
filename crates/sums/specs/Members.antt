-- The list of the indices that an index function holds of.
--     members n f   the indices below n that f holds of, rising
use Rattle.std.specs.Prelude.{ℕ, zero, suc, Bool, cond, List, [], ◌∷◌, ◌++◌}

unfoldable pub members : ℕ → (ℕ → Bool) → List ℕ
members zero f = []
members (suc n) f = members n f ++ cond (f n) (n ∷ []) []
