-- The places of an answer.
--     placed_of k job dir place  the places after the first k rocks went where they are directed, as bytes
use Rattle.std.specs.Prelude.{ℕ, zero, suc, ◌-◌, ◌%◌, List, get_or, set}

unfoldable pub placed_of : ℕ → List ℕ → List ℕ → List ℕ → List ℕ
placed_of zero job dir place = place
placed_of (suc r) job dir place = set (placed_of r job dir place) (get_or job r 0) ((get_or dir r 0 - 1) % 256)
