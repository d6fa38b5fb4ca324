-- What one exploration looks at (section 4.4.1). Weights and limits are scaled by 3q.
--     Board               rocks with their ends, loads, pebbles and limits
--     Directions          where each rock is directed
--     touches, other      an end of a rock; its other end
--     neutral, towards, away      a rock without direction; directed towards a bench; away from it
--     rock_load, load     rl(v), and the whole load of a bench
--     overloaded          a load above the bound
use Rattle.std.specs.Prelude.{ℕ, suc, ◌+◌, Bool, cond, ◌&&◌, ◌||◌, List, get_or, eqb, ltb}
use Rattle.sums.specs.Sum.{on, sum}

-- The rocks that are left, with their two ends; the load of each bench besides them; where the pebbles lie; the limits.
pub record Board : Type 0 where
  pub benches : ℕ
  pub jobs : ℕ
  pub bound : ℕ
  pub small : ℕ
  pub limit : ℕ
  pub rock : ℕ → Bool
  pub low : ℕ → ℕ
  pub high : ℕ → ℕ
  pub weight : ℕ → ℕ
  pub own : ℕ → ℕ
  pub pebble : ℕ → Bool
  pub place : ℕ → ℕ
  pub allows : ℕ → ℕ → Bool

-- Entry j is 0 while rock j is neutral, and 1 + b when it is directed towards bench b.
abbrev pub Directions : Type 0
Directions = List ℕ

-- Bench v is an end of the rock j; and the other end.
abbrev pub touches : Board → ℕ → ℕ → Bool
touches b j v = b.rock j && (eqb v (b.low j) || eqb v (b.high j))

abbrev pub other : Board → ℕ → ℕ → ℕ
other b j v = cond (eqb v (b.low j)) (b.high j) (b.low j)

abbrev pub neutral : Directions → ℕ → Bool
neutral dir j = eqb (get_or dir j 0) 0

abbrev pub towards : Directions → ℕ → ℕ → Bool
towards dir j v = eqb (get_or dir j 0) (suc v)

-- The rock is directed from v to its other end.
abbrev pub away : Board → Directions → ℕ → ℕ → Bool
away b dir j v = touches b j v && towards dir j (other b j v)

-- "rl(v)": the weight of the rocks that are directed towards v. Then all of its load.
unfoldable pub rock_load : Board → Directions → ℕ → ℕ
rock_load b dir v = sum b.jobs (λ j. on (touches b j v && towards dir j v) (b.weight j))

abbrev pub load : Board → Directions → ℕ → ℕ
load b dir v = b.own v + rock_load b dir v

-- "overloaded if dl(v) + pl(v) + rl(v) > (5/3 + β/3)t"
abbrev pub overloaded : Board → Directions → ℕ → Bool
overloaded b dir v = ltb b.bound (load b dir v)
