-- The start of the run (section 4.2): components of rocks, peeling, and where the light jobs begin.
--     joined_by, joined, component    benches joined by a rock; the component of a bench
--     rocks_in, crowded, crowded_bench  the rocks of a component; too many; the lowest bench of such a component
--     one_cycle           as many rocks as benches
--     State               the rocks that are left, and the bench of every other job
--     left_at, hanging     a rock left at a bench; the bench has just one and is off a cycle
--     peel, start         peeling; the state with which the run starts
use Rattle.std.specs.Prelude.{ℕ, zero, suc, Bool, true, false, not, ◌&&◌, List, get_or, set, eqb, ltb}
use Rattle.sums.specs.Sum.{count}
use Rattle.sums.specs.Search.{any, least}
use Rattle.sums.specs.Table.{table}
use Rattle.closure.specs.Closure.{reach}
use Rattle.day.specs.Day.{Day}
use Rattle.algorithm.specs.Rocks.{rock, lowest}

-- "Heavy jobs join their two benches": rock j joins u and v.
abbrev pub joined_by : Day → ℕ → ℕ → ℕ → Bool
joined_by d u v j = rock d j && d.allows j u && d.allows j v && not (eqb u v)

abbrev pub joined : Day → ℕ → ℕ → Bool
joined d u v = any d.jobs (joined_by d u v)

-- The benches of the component of v.
abbrev pub component : Day → ℕ → ℕ → Bool
component d v = reach d.benches (joined d) v

abbrev pub rocks_in : Day → ℕ → ℕ
rocks_in d v = count d.jobs (λ j. rock d j && component d v (lowest d j))

-- "A component with more such jobs than benches"
abbrev pub crowded : Day → ℕ → Bool
crowded d v = ltb (count d.benches (component d v)) (rocks_in d v)

-- The lowest bench of a component with too many rocks, and the number of benches where there is none.
unfoldable pub crowded_bench : Day → ℕ
crowded_bench d = least d.benches (crowded d)

-- As many rocks as benches: the component has one cycle.
unfoldable pub one_cycle : Day → ℕ → Bool
one_cycle d v = eqb (rocks_in d v) (count d.benches (component d v))

-- The rocks that are left, and the bench of every other job.
pub record State : Type 0 where
  pub left : List Bool
  pub place : List ℕ

-- Rock j is left and has an end at v.
abbrev pub left_at : Day → List Bool → ℕ → ℕ → Bool
left_at d left v j = get_or left j false && d.allows j v

-- Bench v of a component with a cycle has exactly one rock left.
abbrev pub hanging : Day → List Bool → ℕ → Bool
hanging d left v = one_cycle d v && eqb (count d.jobs (left_at d left v)) 1

-- "Jobs hanging off a cycle point away from it and become dedicated load."
unfoldable pub peel : ℕ → Day → State → State
peel zero d s = s
peel (suc k) d s =
    let v : ℕ = least d.benches (hanging d s.left) in
    let j : ℕ = least d.jobs (left_at d s.left v) in
    elim (ltb v d.benches) [
      | false ↦ s
      | true ↦ peel k d (record { left = set s.left j false; place = set s.place j v })
    ]

-- "Each light job with a choice starts on its lowest bench."
unfoldable pub start : Day → State
start d = peel d.jobs d (record { left = table d.jobs (rock d); place = table d.jobs (lowest d) })
