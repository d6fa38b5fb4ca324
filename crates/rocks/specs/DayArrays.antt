-- What the program's arrays hold of the rocks of a day, and of their components.
--     day_rocks d, day_rock d r  how many rocks a day has, and the job of rock r
--     DayRocks d n low high     the arrays hold the day's rocks, with their ends
--     balance_in d v            the balance of the component of v
--     BalancesTo f z d v xs     entry u is f of the balance of u for u below v, and else that or f of unknown; past the
--                               end z is read
--     Cycles d balance          the benches whose component has one cycle
use Rattle.std.specs.Prelude.{ℕ, ◌≤◌, ◌<◌, ◌≡◌, List, length, get_or}
use Rattle.sums.specs.Sum.{count}
use Rattle.sums.specs.Members.{members}
use Rattle.rocks.specs.declared.rocks.Limits.{Limits}
use Rattle.rocks.specs.declared.balancing.Balance.{Balance}
use Rattle.rocks.specs.declared.balancing.Balance.TheVariants.{Tree, Unknown}
use Rattle.day.specs.Day.{Day}
use Rattle.algorithm.specs.Rocks.{rock, lowest, highest}
use Rattle.algorithm.specs.Start.{component, rocks_in, one_cycle}
use Rattle.algorithm.specs.SoundDay.{SoundDay}
use Rattle.rocks.specs.SpreadArrays.{is_cycle, balance_of}

-- Rock r is the one with the r-th lowest job.
abbrev pub day_rocks : Day → ℕ
day_rocks d = count d.jobs (rock d)

abbrev pub day_rock : Day → ℕ → ℕ
day_rock d r = get_or (members d.jobs (rock d)) r 0

-- How many rocks the day has, and the two ends of each.
pub record DayRocks (d : Day) (n : Limits) (low high : List ℕ) : Type 0 where
  pub sound : SoundDay d
  pub few_benches : d.benches ≤ 64
  pub benches : n.benches ≡ d.benches
  pub jobs : n.jobs ≡ d.jobs
  pub rocks : n.rocks ≡ day_rocks d
  pub lows : (r : ℕ) → r < day_rocks d → get_or low r 0 ≡ lowest d (day_rock d r)
  pub highs : (r : ℕ) → r < day_rocks d → get_or high r 0 ≡ highest d (day_rock d r)

-- Rocks against benches, in the component of v.
abbrev pub balance_in : Day → ℕ → Balance
balance_in d v = balance_of (rocks_in d v) (count d.benches (component d v))

-- Those below v are known. An entry stands for a balance.
pub record BalancesTo {A : Type 0} (entry : Balance → A) (blank : A) (d : Day) (v : ℕ) (xs : List A) : Type 0 where
  pub room : d.benches ≤ length xs
  pub known : (u : ℕ) → u < v → u < d.benches → get_or xs u blank ≡ entry (balance_in d u)
  pub others : (u : ℕ) → u < d.benches → (get_or xs u blank ≡ entry Unknown → ⊥)
      → get_or xs u blank ≡ entry (balance_in d u)

-- Entry v says where the component of v has one cycle.
abbrev pub Cycles : Day → List Balance → Type 0
Cycles d balance = (v : ℕ) → v < d.benches → is_cycle (get_or balance v Tree) ≡ one_cycle d v
