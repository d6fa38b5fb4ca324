-- FORCED ORIENTATIONS (figure 4.5). "Forced and fake orientations take the lowest bench, then the lowest job; a job
-- forced from both ends leaves the lower bench."
--     forces b dir v j    the neutral rock j is forced from v
--     direct b dir v j    the directions after rock j left v
--     forcing, forced_job  some rock is forced from v; the lowest one
--     nobody              no bench is marked
--     marked_forcing      a rock is forced from the marked bench v
--     inner, outer        the two loops
--     forced_orientations  the procedure
use Rattle.std.specs.Prelude.{ℕ, zero, suc, ◌+◌, Bool, true, false, ◌&&◌, List, get_or, set, replicate, ltb}
use Rattle.sums.specs.Search.{any, least}
use Rattle.algorithm.specs.Board.{Board, Directions, touches, other, neutral, load}

-- "dl(v) + pl(v) + rl(v) + w_vu > (5/3 + β/3)t", of a neutral rock j = vu
abbrev pub forces : Board → Directions → ℕ → ℕ → Bool
forces b dir v j = touches b j v && neutral dir j && ltb b.bound (load b dir v + b.weight j)

-- "Direct vu towards u": the rock j leaves v.
abbrev pub direct : Board → Directions → ℕ → ℕ → Directions
direct b dir v j = set dir j (suc (other b j v))

abbrev pub forcing : Board → Directions → ℕ → Bool
forcing b dir v = any b.jobs (forces b dir v)

-- The lowest job that is forced from v.
abbrev pub forced_job : Board → Directions → ℕ → ℕ
forced_job b dir v = least b.jobs (forces b dir v)

abbrev pub nobody : Board → List Bool
nobody b = replicate b.benches false

-- "∃ neutral edge v'u' … and v' ∈ MARKED"
abbrev pub marked_forcing : Board → Directions → List Bool → ℕ → Bool
marked_forcing b dir marked v = get_or marked v false && forcing b dir v

-- "While …: Direct v'u' towards u'; MARKED := MARKED ∪ {u'}."
unfoldable pub inner : ℕ → Board → Directions → List Bool → Directions
inner zero b dir marked = dir
inner (suc k) b dir marked =
    let v : ℕ = least b.benches (marked_forcing b dir marked) in
    let j : ℕ = forced_job b dir v in
    elim (ltb v b.benches) [ false ↦ dir | true ↦ inner k b (direct b dir v j) (set marked (other b j v) true) ]

-- "While ∃ neutral edge vu …: Direct vu towards u; MARKED := {u}."
unfoldable pub outer : ℕ → Board → Directions → Directions
outer zero b dir = dir
outer (suc k) b dir =
    let v : ℕ = least b.benches (forcing b dir) in
    let j : ℕ = forced_job b dir v in
    elim (ltb v b.benches) [
      | false ↦ dir
      | true ↦ outer k b (inner b.jobs b (direct b dir v j) (set (nobody b) (other b j v) true))
    ]

-- Each turn directs a rock, so that as many as there are jobs are enough.
abbrev pub forced_orientations : Board → Directions → Directions
forced_orientations b dir = outer b.jobs b dir
