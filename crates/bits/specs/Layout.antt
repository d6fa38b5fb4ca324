-- A layout is the list of the widths, in bits, of fields that are packed one after another, most significant bit first.
-- The same layout says how fields are read and how they are written.
--     total ws        the bits of all fields
--     start ws k      the bit at which field k begins
--     field ws k s    field k of the bytes s
--     fields ws s     the values of all fields of the bytes s, in order
--     joined ws vs    the number whose bits are those of the fields vs, in order
--     packed ws vs    its bytes
--     Fit ws vs       there is one value to a width, and each fits its width
use Rattle.std.specs.Prelude.{ℕ, zero, suc, ◌+◌, ◌*◌, ◌/◌, ◌^◌, ◌<◌, List, [], ◌∷◌, length, get_or}
use Rattle.sums.specs.Table.{table}
use Rattle.bits.specs.Bits.{bits, bytes_of}

abbrev pub total : List ℕ → ℕ
total [] = 0
total (w ∷ ws) = w + total ws

abbrev pub start : List ℕ → ℕ → ℕ
start [] k = 0
start (w ∷ ws) zero = 0
start (w ∷ ws) (suc k) = w + start ws k

abbrev pub field : List ℕ → ℕ → List ℕ → ℕ
field ws k s = bits s (start ws k) (get_or ws k 0)

abbrev pub fields : List ℕ → List ℕ → List ℕ
fields ws s = table (length ws) (λ k. field ws k s)

abbrev pub joined : List ℕ → List ℕ → ℕ
joined [] vs = 0
joined (w ∷ ws) [] = 0
joined (w ∷ ws) (v ∷ vs) = v * 2 ^ total ws + joined ws vs

abbrev pub packed : List ℕ → List ℕ → List ℕ
packed ws vs = bytes_of (total ws / 8) (joined ws vs)

abbrev pub Fit : List ℕ → List ℕ → Type 0
Fit [] [] = Unit {0}
Fit [] (v ∷ vs) = ⊥
Fit (w ∷ ws) [] = ⊥
Fit (w ∷ ws) (v ∷ vs) = (v < 2 ^ w) × Fit ws vs
