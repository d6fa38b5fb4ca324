-- What a move changes of the loads and of the benches in reach.
--     shifted_of own u v w      the loads after weight w left bench u and came to bench v
--     lies_at choice place u v j     job j is a pebble on u, and v is one of its benches
--     ReachShifted              the sets after job j left bench u and came to bench v
--     Chosen                    the choice of each job
use Rattle.std.specs.Prelude.{ℕ, ◌-◌, ◌<◌, ◌≡◌, Bool, true, false, cond, ◌&&◌, ◌||◌, List, length, get_or, set, eqb}
use Rattle.sums.specs.Search.{any}
use Rattle.bits.specs.Bits.{is_set}
use Rattle.arrays.specs.Arrays.{plus_of}

abbrev pub shifted_of : List ℕ → ℕ → ℕ → ℕ → List ℕ
shifted_of own u v w = set (set own u (get_or own u 0 - w)) v (plus_of (get_or (set own u (get_or own u 0 - w)) v 0) w)

-- Job j is on u and has a choice that allows v.
abbrev pub lies_at : List ℕ → List ℕ → ℕ → ℕ → ℕ → Bool
lies_at choice place u v j = eqb (get_or place j 0) u && is_set 64 (get_or choice j 0) v

-- Bench u, which lost a job, reached all that it reaches now.
abbrev pub ReachShifted : ℕ → List ℕ → List ℕ → List ℕ → ℕ → ℕ → ℕ → List ℕ → Type 0
ReachShifted jobs choice place reach u v j reach' =
    (w x : ℕ) → w < length reach → x < 64
    → (any jobs (lies_at choice place u x) ≡ true → is_set 64 (get_or reach u 0) x ≡ true)
    → is_set 64 (get_or reach' w 0) x
    ≡ cond (eqb w u) (any jobs (lies_at choice place u x))
    (cond (eqb w v) (is_set 64 (get_or reach v 0) x || is_set 64 (get_or choice j 0) x)
    (is_set 64 (get_or reach w 0) x))

-- The choice of each job: the benches that it allows where it is a pebble, and else none.
abbrev pub Chosen : ℕ → List Bool → List ℕ → List ℕ → Type 0
Chosen jobs pebble allowed choice =
    (j : ℕ) → j < jobs → get_or choice j 0 ≡ cond (get_or pebble j false) (get_or allowed j 0) 0
