-- Numbers in bytes, the least significant byte first.
--     little s k       the number made of the first k bytes; bytes past the end are 0
--     little_of k n    the k bytes of n (n modulo 256 ^ k)
--     little_all k ns  the bytes of several numbers, k each, one after another
use Rattle.std.specs.Prelude.{ℕ, zero, suc, ◌+◌, ◌*◌, ◌/◌, ◌%◌, ◌^◌, List, [], ◌∷◌, ◌++◌, get_or}

unfoldable pub little : List ℕ → ℕ → ℕ
little s zero = 0
little s (suc k) = little s k + get_or s k 0 * 256 ^ k

unfoldable pub little_of : ℕ → ℕ → List ℕ
little_of zero n = []
little_of (suc k) n = n % 256 ∷ little_of k (n / 256)

unfoldable pub little_all : ℕ → List ℕ → List ℕ
little_all k [] = []
little_all k (n ∷ ns) = little_of k n ++ little_all k ns
