-- Loads of benches, from the amounts of jobs and the places where they lie.
--     minutes_on minutes place v j         what job j puts on bench v
--     amount_on amount left place v j      the same, if the job is not left
--     added_at amount left place own j     the loads with job j
--     loads_after n amount left place own  the loads with the first n jobs
--     bench_loads n minutes place own      the same, no job left
use Rattle.std.specs.Prelude.{ℕ, zero, suc, Bool, false, cond, not, ◌&&◌, List, [], get_or, set, eqb}
use Rattle.sums.specs.Sum.{on}
use Rattle.arrays.specs.Arrays.{plus_of}

-- The minutes of job j where the table puts it on bench v.
abbrev pub minutes_on : List ℕ → List ℕ → ℕ → ℕ → ℕ
minutes_on minutes place v j = on (eqb (get_or place j 0) v) (get_or minutes j 0)

-- What job j puts on bench v, if it is not left.
abbrev pub amount_on : List ℕ → List Bool → List ℕ → ℕ → ℕ → ℕ
amount_on amount left place v j = on (not (get_or left j false) && eqb (get_or place j 0) v) (get_or amount j 0)

-- The loads after job j is added.
abbrev pub added_at : List ℕ → List Bool → List ℕ → List ℕ → ℕ → List ℕ
added_at amount left place own j =
    cond (get_or left j false) own
    (set own (get_or place j 0) (plus_of (get_or own (get_or place j 0) 0) (get_or amount j 0)))

-- Job after job. A load stops at the greatest number of 64 bits.
unfoldable pub loads_after : ℕ → List ℕ → List Bool → List ℕ → List ℕ → List ℕ
loads_after zero amount left place own = own
loads_after (suc n) amount left place own = added_at amount left place (loads_after n amount left place own) n

abbrev pub bench_loads : ℕ → List ℕ → List ℕ → List ℕ → List ℕ
bench_loads n minutes place own = loads_after n minutes [] place own
