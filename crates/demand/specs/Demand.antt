-- What demand 3 speaks of (document 01, "The three answers"), of a day that a sheet means; heavy, light, load, bound
-- and long are the words of crates/day. A set of benches is a function to Bool, of which only the benches of the day
-- are looked at.
--     is_assignment, Assignment       each job of the day on one of its allowed benches: as a test, and as a fact
--     within_target d n       the load n is at most the target
--     keeps_target, keeps_bound   every bench of an assignment is within the target; within the demand's bound
--     SomeOver d a            the assignment a leaves some bench above the target
--     placeable d j v         bench v may take the heavy job j
--     Placement               each heavy job on an allowed bench, no bench taking two
--     kept_inside d set j v   job j may not go to v, or v is in the set
--     lies_inside d set j     all allowed benches of job j lie in the set
--     weight_inside           what weighs inside a set, for a placement
--     Blocking                the blocking sets
--     LongJob, EachFits       some job is longer than the target; no job is
--     SoundLong d j           j is the lowest job that is longer than the target
use Rattle.std.specs.Prelude.{ℕ, ◌+◌, ◌*◌, ◌≤◌, ◌<◌, ◌≡◌, Bool, true, not, ◌&&◌, ◌||◌, leb}
use Rattle.sums.specs.Sum.{on, sum, count}
use Rattle.sums.specs.Search.{all}
use Rattle.day.specs.Day.{Day, heavy, light, load_of, within_bound, too_long}

-- ── assignments ──

-- "An assignment gives each job of the sheet one of its allowed benches."
abbrev pub is_assignment : Day → (ℕ → ℕ) → Bool
is_assignment d a = all d.jobs (λ j. d.allows j (a j))

pub record Assignment (d : Day) (a : ℕ → ℕ) : Type 0 where
  pub on_allowed : (j : ℕ) → j < d.jobs → d.allows j (a j) ≡ true

-- A load within T.
abbrev pub within_target : Day → ℕ → Bool
within_target d n = leb n d.target

-- Every bench is within T.
abbrev pub keeps_target : Day → (ℕ → ℕ) → Bool
keeps_target d a = all d.benches (λ v. within_target d (load_of d a v))

-- Every bench is within the demand's bound.
abbrev pub keeps_bound : Day → (ℕ → ℕ) → Bool
keeps_bound d a = all d.benches (λ v. within_bound d (load_of d a v))

-- "every assignment leaves some bench above T"
abbrev pub SomeOver : Day → (ℕ → ℕ) → Type 0
SomeOver d a = (v : ℕ) × (v < d.benches) × (d.target < load_of d a v)

-- ── placements and blocking sets ──

-- Any allowed bench, whatever is booked there: booked minutes "are never a heavy job".
abbrev pub placeable : Day → ℕ → ℕ → Bool
placeable d j v = d.allows j v

-- "A placement puts each heavy job on an allowed bench, no bench taking two."
pub record Placement (d : Day) (place : ℕ → ℕ) : Type 0 where
  pub on_allowed : (j : ℕ) → j < d.jobs → heavy d j ≡ true → placeable d j (place j) ≡ true
  pub one_to_a_bench : (e f : ℕ) → e < d.jobs → f < d.jobs
      → heavy d e ≡ true → heavy d f ≡ true → place e ≡ place f → e ≡ f

-- Job j may not go to bench v, or v is inside.
abbrev pub kept_inside : Day → (ℕ → Bool) → ℕ → ℕ → Bool
kept_inside d set j v = not (d.allows j v) || set v

-- "light jobs whose benches all lie inside it"
abbrev pub lies_inside : Day → (ℕ → Bool) → ℕ → Bool
lies_inside d set j = all d.benches (kept_inside d set j)

-- "the heavy jobs placed inside it, plus all light jobs whose benches all lie inside it"; request S-1: booked minutes
-- count "in a blocking set that holds the bench".
abbrev pub weight_inside : Day → (ℕ → ℕ) → (ℕ → Bool) → ℕ
weight_inside d place set =
    sum d.benches (λ v. on (set v) (d.booked v))
    + (sum d.jobs (λ j. on (heavy d j && set (place j)) (d.minutes j))
    + sum d.jobs (λ j. on (light d j && lies_inside d set j) (d.minutes j)))

-- "A non-empty set of k benches is blocking if in every placement the heavy jobs placed inside it, plus all light jobs
-- whose benches all lie inside it, weigh more than k × T. Where no placement exists every non-empty set is blocking."
pub record Blocking (d : Day) (set : ℕ → Bool) : Type 0 where
  pub some_bench : 0 < count d.benches set
  pub heavier : (place : ℕ → ℕ) → Placement d place
      → count d.benches set * d.target < weight_inside d place set

-- ── long jobs ──

-- Any job with more than T minutes: one is enough to shut the rival out.
pub record LongJob (d : Day) (j : ℕ) : Type 0 where
  pub is_job : j < d.jobs
  pub longer : too_long d j ≡ true

-- "With every job at most T"
abbrev pub EachFits : Day → Type 0
EachFits d = (j : ℕ) → j < d.jobs → d.minutes j ≤ d.target

-- "Long: the lowest job with more than T minutes."
pub record SoundLong (d : Day) (j : ℕ) : Type 0 where
  pub is_long : LongJob d j
  pub lowest : (i : ℕ) → i < j → d.minutes i ≤ d.target
