-- A list of places, and the jobs of a sheet in arrays. Entry j of the list is job j's bench.
--     fits_at allowed list j        the list puts job j on a bench of its set
--     load_in jobs minutes list v   the minutes that the list puts on bench v
--     Summed jobs minutes list before after     the loads with these minutes, where they fit a number of the program
use Rattle.std.specs.Prelude.{ℕ, ◌+◌, ◌<◌, ◌^◌, ◌≡◌, Bool, List, length, get_or}
use Rattle.sums.specs.Sum.{sum}
use Rattle.bits.specs.Bits.{is_set}
use Rattle.loads.specs.Loads.{minutes_on}

abbrev pub fits_at : List ℕ → List ℕ → ℕ → Bool
fits_at allowed list j = is_set 64 (get_or allowed j 0) (get_or list j 0)

abbrev pub load_in : ℕ → List ℕ → List ℕ → ℕ → ℕ
load_in jobs minutes list v = sum jobs (minutes_on minutes list v)

-- A load that does not fit may be another there.
abbrev pub Summed : ℕ → List ℕ → List ℕ → List ℕ → List ℕ → Type 0
Summed jobs minutes list before after =
    (v : ℕ) → v < length before → get_or before v 0 + load_in jobs minutes list v < 2 ^ 63
    → get_or after v 0 ≡ get_or before v 0 + load_in jobs minutes list v
