-- Bits of a list of bytes, most significant first.
--     bit s i       bit i of s: bit 0 is the highest bit of the first byte. Past the end it is 0
--     bits s at n   the number made of the n bits from bit at on
--     big s k       the number made of the first k bytes, the first byte highest
--     bytes_of k n   the k bytes of n, highest first (n modulo 256 ^ k)
--     is_set n m b   whether bit b of the n-bit number m is 1: bit 0 is the highest. It is false for b ≥ n
--     Bytes s       every element of s is below 256
use Rattle.std.specs.Prelude.{ℕ, zero, suc, ◌+◌, ◌-◌, ◌*◌, ◌/◌, ◌%◌, ◌^◌, ◌<◌, Bool, ◌&&◌, List, [], ◌∷◌, get_or, eqb, ltb}

unfoldable pub bit : List ℕ → ℕ → ℕ
bit s i = get_or s (i / 8) 0 / 2 ^ (7 - i % 8) % 2

unfoldable pub bits : List ℕ → ℕ → ℕ → ℕ
bits s at zero = 0
bits s at (suc n) = 2 * bits s at n + bit s (at + n)

unfoldable pub big : List ℕ → ℕ → ℕ
big s zero = 0
big s (suc k) = big s k * 256 + get_or s k 0

unfoldable pub bytes_of : ℕ → ℕ → List ℕ
bytes_of zero n = []
bytes_of (suc k) n = n / 256 ^ k % 256 ∷ bytes_of k n

unfoldable pub is_set : ℕ → ℕ → ℕ → Bool
is_set n m b = ltb b n && eqb (m / 2 ^ (n - 1 - b) % 2) 1

abbrev pub Bytes : List ℕ → Type 0
Bytes s = (i : ℕ) → get_or s i 0 < 256
