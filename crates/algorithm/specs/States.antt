-- The states that a run goes through.
--     Reached d m s     the run comes to the state s after m moves
--     level_of d s v    the level of a bench in the exploration of a state
--     RunFrom d m s     what is left of the run there: the turns from s, with the budget that is left
use Rattle.std.specs.Prelude.{ℕ, suc, ◌+◌, ◌≡◌, true, false, ltb}
use Rattle.day.specs.Day.{Day, long_job}
use Rattle.algorithm.specs.Explore.{round_of}
use Rattle.algorithm.specs.Start.{State, crowded_bench, start}
use Rattle.algorithm.specs.Run.{board_of, explored, can_move, next_state, turns, budget, run}

pub data Reached (d : Day) : ℕ → State → Type 0 where
  -- With a long job or a crowded component the run has no state at all.
  at_start : ltb (long_job d) d.jobs ≡ false → ltb (crowded_bench d) d.benches ≡ false → Reached d 0 (start d)
  -- "apply PUSH … Un-orient all edges and repeat this process."
  by_move : {m : ℕ} {s : State} → Reached d m s → can_move d s ≡ true → Reached d (suc m) (next_state d s)

abbrev pub level_of : Day → State → ℕ → ℕ
level_of d s v = round_of (board_of d s) (explored d s).level v

pub record RunFrom (d : Day) (m : ℕ) (s : State) : Type 0 where
  pub left : ℕ
  pub of_budget : m + left ≡ budget d
  pub goes_on : run d ≡ turns left d s m
