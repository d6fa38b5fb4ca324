-- The comparison of plans in arrays.
--     gives_in jobs allowed list    the list gives each job one bench of its set
use Rattle.std.specs.Prelude.{ℕ, Bool, ◌&&◌, List, length, eqb}
use Rattle.sums.specs.Search.{all}
use Rattle.lists.specs.Lists.{fits_at}

abbrev pub gives_in : ℕ → List ℕ → List ℕ → Bool
gives_in jobs allowed list = eqb (length list) jobs && all jobs (fits_at allowed list)
