-- Algorithm 2 with the choices of document 01.
--     own_minutes         what a bench carries besides the rocks left
--     board_of            what the exploration of a state looks at
--     places_of            the places of a plan
--     Outcome             a plan, a long job, or a set of benches
--     moved, next_state   a state after a move, after PUSH
--     explored            the exploration of a state
--     congested, can_move  some bench is overloaded; and PUSH is possible
--     answer_at, turns    the outcome where no move is made; the turns
--     budget, run         how many moves there may be; the run
use Rattle.std.specs.Prelude.{ℕ, zero, suc, ◌+◌, ◌-◌, ◌*◌, Bool, true, false, cond, not, ◌&&◌, List, get_or, set, eqb, ltb}
use Rattle.sums.specs.Sum.{on, sum}
use Rattle.sums.specs.Search.{any}
use Rattle.sums.specs.Table.{table}
use Rattle.day.specs.Day.{Day, pebble, scale, bound, long_job, move_bound}
use Rattle.algorithm.specs.Rocks.{lowest, highest, weight, small, limit}
use Rattle.algorithm.specs.Board.{Board, Directions}
use Rattle.algorithm.specs.Explore.{Explored, activated, explore}
use Rattle.algorithm.specs.Push.{push_job, push_bench}
use Rattle.algorithm.specs.Settle.{settle}
use Rattle.algorithm.specs.Start.{State, component, crowded_bench, start}

-- The minutes of a bench besides the rocks that are left: booked, dedicated, peeled and light.
unfoldable pub own_minutes : Day → State → ℕ → ℕ
own_minutes d s v =
    d.booked v + sum d.jobs (λ j. on (not (get_or s.left j false) && eqb (get_or s.place j 0) v) (d.minutes j))

-- What the exploration looks at.
abbrev pub board_of : Day → State → Board
board_of d s =
    record {
      benches = d.benches;
      jobs = d.jobs;
      bound = bound d;
      small = small d;
      limit = limit d;
      rock = λ j. get_or s.left j false;
      low = lowest d;
      high = highest d;
      weight = weight d;
      own = λ v. scale d * own_minutes d s v;
      pebble = pebble d;
      place = λ j. get_or s.place j 0;
      allows = d.allows;
    }

-- The plan: the rocks that are left go where they are directed.
abbrev pub places_of : Day → State → Directions → List ℕ
places_of d s dir = table d.jobs (λ j. cond (get_or s.left j false) (get_or dir j 0 - 1) (get_or s.place j 0))

-- A plan with its places, a long job, or a set of benches; with the moves made.
pub data Outcome : Type 0 where
  planned : List ℕ → ℕ → Outcome
  long : ℕ → Outcome
  blocked : (ℕ → Bool) → ℕ → Outcome

-- Job j moves to v.
abbrev pub moved : State → ℕ → ℕ → State
moved s j v = record { left = s.left; place = set s.place j v }

abbrev pub explored : Day → State → Explored
explored d s = explore (board_of d s)

-- Some bench is overloaded: 𝔸₀ is not empty, and so 𝔸 is not.
abbrev pub congested : Day → State → Bool
congested d s = any d.benches (activated (board_of d s) (explored d s))

-- A bench is overloaded, and PUSH is possible.
abbrev pub can_move : Day → State → Bool
can_move d s = congested d s && ltb (push_job (board_of d s) (explored d s)) d.jobs

abbrev pub next_state : Day → State → State
next_state d s = moved s (push_job (board_of d s) (explored d s)) (push_bench (board_of d s) (explored d s))

-- The answer where no move is made any more.
unfoldable pub answer_at : Day → State → ℕ → Outcome
answer_at d s moves =
    elim (congested d s) [
      | false ↦ planned (places_of d s (settle (board_of d s) (explored d s).dir)) moves
      | true ↦ blocked (activated (board_of d s) (explored d s)) moves
    ]

-- "Apply EXPLORE2. If it ends with 𝔸₀ = ∅, return a solution. Otherwise, apply PUSH. If PUSH is impossible, declare
-- that OPT ≥ t + 1. Un-orient all edges and repeat this process."
unfoldable pub turns : ℕ → Day → State → ℕ → Outcome
turns zero d s moves = answer_at d s moves
turns (suc k) d s moves =
    elim (can_move d s) [ false ↦ answer_at d s moves | true ↦ turns k d (next_state d s) (suc moves) ]

-- Moves are at most benches × light jobs that have a choice.
abbrev pub budget : Day → ℕ
budget d = move_bound d

-- A long job first, then a crowded component, then the turns.
unfoldable pub run : Day → Outcome
run d =
    elim (ltb (long_job d) d.jobs) [
      | true ↦ long (long_job d)
      | false ↦
          elim (ltb (crowded_bench d) d.benches) [
            | true ↦ blocked (component d (crowded_bench d)) 0
            | false ↦ turns (budget d) d (start d) 0
          ]
    ]
