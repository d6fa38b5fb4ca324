-- What the program's arrays hold of a day before its run.
--     heavy_of, rock_of, pebble_of      a job's kind, by its numbers
--     limits_of                 the limits of a day, with no rocks yet
--     Bounded d                 a day's numbers are small
--     Fields d jobs minutes allowed     the arrays hold the day's jobs
--     JobsOf d job              the array holds the jobs of the day's rocks
--     left_rock, left_count, hanging_of  left_at, its count, and hanging, in arrays
--     Placed d s left place      the arrays show this state
use Rattle.std.specs.Prelude.{ℕ, ◌-◌, ◌≤◌, ◌<◌, ◌^◌, ◌≡◌, Bool, true, false}
use Rattle.std.specs.Prelude.{not, ◌&&◌, List, length, get_or, eqb, leb, ltb}
use Rattle.sums.specs.Sum.{count}
use Rattle.bits.specs.Bits.{is_set}
use Rattle.rocks.specs.declared.rocks.Limits.{Limits}
use Rattle.day.specs.Day.{Day}
use Rattle.algorithm.specs.Rocks.{rock}
use Rattle.algorithm.specs.Start.{State}
use Rattle.arrays.specs.Arrays.{plus_of, times_of}
use Rattle.rocks.specs.RockArrays.{touches_at}
use Rattle.rocks.specs.SpreadArrays.{is_cycle}
use Rattle.rocks.specs.declared.balancing.Balance.{Balance}
use Rattle.rocks.specs.declared.balancing.Balance.TheVariants.{Tree}
use Rattle.sets.specs.Sets.{choices_of}
use Rattle.rocks.specs.DayArrays.{day_rocks, day_rock}

-- A job's kind, by the share, the target, its minutes and its set of benches.
abbrev pub heavy_of : ℕ → ℕ → ℕ → ℕ → Bool
heavy_of p q target minutes = ltb (times_of p target) (times_of q minutes)

abbrev pub rock_of : ℕ → ℕ → ℕ → ℕ → ℕ → Bool
rock_of p q target minutes set = heavy_of p q target minutes && eqb (choices_of set) 2

abbrev pub pebble_of : ℕ → ℕ → ℕ → ℕ → ℕ → Bool
pebble_of p q target minutes set = not (heavy_of p q target minutes) && leb 2 (choices_of set)

-- Bound, small and limit; rocks are still to be counted.
abbrev pub limits_of : ℕ → ℕ → ℕ → ℕ → ℕ → Limits
limits_of benches jobs p q target =
    record {
      benches = benches;
      jobs = jobs;
      rocks = 0;
      bound = times_of (plus_of (times_of 5 q) p) target;
      small = times_of (plus_of (times_of 2 q) p) target;
      limit = times_of (times_of 5 q - times_of 2 p) target;
    }

-- ── a day in arrays ──

-- So products are exact, and loads fit.
pub record Bounded (d : Day) : Type 0 where
  pub few_benches : d.benches ≤ 64
  pub few_jobs : d.jobs ≤ 512
  pub p_small : d.p < 128
  pub q_small : d.q < 128
  pub target_small : d.target < 2 ^ 30
  pub minutes_small : (j : ℕ) → j < d.jobs → d.minutes j < 2 ^ 20
  pub booked_small : (v : ℕ) → d.booked v < 2 ^ 30

-- The jobs' minutes and sets of benches; no set has a bench that the day has not.
pub record Fields (d : Day) (jobs : ℕ) (minutes allowed : List ℕ) : Type 0 where
  pub bounded : Bounded d
  pub jobs_are : jobs ≡ d.jobs
  pub minutes_are : (j : ℕ) → j < d.jobs → get_or minutes j 0 ≡ d.minutes j
  pub allows : (j v : ℕ) → j < d.jobs → d.allows j v ≡ (ltb v d.benches && is_set 64 (get_or allowed j 0) v)
  pub none_above : (j v : ℕ) → j < d.jobs → d.benches ≤ v → v < 64 → is_set 64 (get_or allowed j 0) v ≡ false

-- The jobs of the day's rocks.
abbrev pub JobsOf : Day → List ℕ → Type 0
JobsOf d job = (r : ℕ) → r < day_rocks d → get_or job r 0 ≡ day_rock d r

-- ── peeling in arrays ──

-- Rock r is left and has an end at v.
abbrev pub left_rock : List ℕ → List ℕ → List ℕ → List Bool → ℕ → ℕ → Bool
left_rock job low high left v r = touches_at low high r v && get_or left (get_or job r 0) false

abbrev pub left_count : ℕ → List ℕ → List ℕ → List ℕ → List Bool → ℕ → ℕ
left_count rocks job low high left v = count rocks (left_rock job low high left v)

abbrev pub hanging_of : ℕ → List ℕ → List ℕ → List ℕ → List Balance → List Bool → ℕ → Bool
hanging_of rocks job low high balance left v =
    is_cycle (get_or balance v Tree) && eqb (left_count rocks job low high left v) 1

-- One entry for each job. Only rocks are left.
pub record Placed (d : Day) (s : State) (left : List Bool) (place : List ℕ) : Type 0 where
  pub left_length : length s.left ≡ d.jobs
  pub place_length : length s.place ≡ d.jobs
  pub left_rock : (j : ℕ) → j < d.jobs → get_or s.left j false ≡ true → rock d j ≡ true
  pub left_room : d.jobs ≤ length left
  pub place_room : d.jobs ≤ length place
  pub lefts : (j : ℕ) → j < d.jobs → get_or left j false ≡ get_or s.left j false
  pub places : (j : ℕ) → j < d.jobs → get_or place j 0 ≡ get_or s.place j 0
