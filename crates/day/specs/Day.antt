-- A day to plan: what the contents of a sheet mean, and the words that the run and the demand share (document 01, "The
-- three answers" and "The run").
--     Day                 benches, the share p / q and the target T; booked minutes of each bench; jobs, with the
--                         minutes and allowed benches of each
--     day_of c            the day of the contents c of a sheet
--     choices d j         how many benches job j may go to
--     heavy, light        the two kinds of jobs
--     pebble d j          job j is light and has a choice: chapter 4's pebbles
--     check_only d j      job j takes no minutes
--     ChecksOnly d        every job of the day is so, and no bench is booked
--     place_in places      the bench that a table of places has for each job
--     load_of d a v        the load of bench v under the assignment a
--     loads_of, largest_of  the loads of a table of places, bench by bench; the greatest of them
--     largest_load d a    the greatest load under the assignment a
--     fullest_of d places  the lowest bench that has the greatest load
--     scale, bound        3q and (5q + p) × T
--     within_bound d n    the load n is within the demand's bound
--     too_long, long_job  a job longer than T; the lowest such job, and the number of jobs where there is none
--     move_bound d        benches × light jobs that have a choice
--     with_target d t     the day with the target t in place of its own
--     total_minutes, largest_booking  the minutes of all jobs together; the longest booking of a bench
--     start_target d      their sum, where the search for the best target starts
use Rattle.std.specs.Prelude.{ℕ, ◌+◌, ◌*◌, ◌<◌, ◌≡◌, Bool, true, not, ◌&&◌, List, length, get_or, eqb, leb, ltb}
use Rattle.sums.specs.Sum.{on, sum, count, largest, fullest}
use Rattle.sums.specs.Search.{least}
use Rattle.sums.specs.Table.{table}
use Rattle.fields.specs.Contents.{Contents, booked_at}
use Rattle.fields.specs.Format.{allows as allows_bench}
use Rattle.fields.specs.Tests.{job_at}

pub record Day : Type 0 where
  pub benches : ℕ
  pub p : ℕ
  pub q : ℕ
  pub target : ℕ
  pub booked : ℕ → ℕ
  pub jobs : ℕ
  pub minutes : ℕ → ℕ
  pub allows : ℕ → ℕ → Bool

-- "benches allowed (64, the first bit is bench 0)", of the benches that the head has.
abbrev pub day_of : Contents → Day
day_of c =
    record {
      benches = c.head.benches;
      p = c.head.p;
      q = c.head.q;
      target = c.head.target;
      booked = booked_at c.booked;
      jobs = length c.jobs;
      minutes = λ j. (job_at c.jobs j).minutes;
      allows = λ j v. ltb v c.head.benches && allows_bench (job_at c.jobs j) v;
    }

-- ── jobs ──

abbrev pub choices : Day → ℕ → ℕ
choices d j = count d.benches (d.allows j)

-- "a job is heavy if q × minutes > p × T, otherwise light"
abbrev pub heavy : Day → ℕ → Bool
heavy d j = ltb (d.p * d.target) (d.q * d.minutes j)

abbrev pub light : Day → ℕ → Bool
light d j = not (heavy d j)

-- "its pebbles light jobs with two or more"
abbrev pub pebble : Day → ℕ → Bool
pebble d j = light d j && leb 2 (choices d j)

-- Request S-3: "A new sight check takes no bench minutes but must be recorded on a bench"
abbrev pub check_only : Day → ℕ → Bool
check_only d j = eqb (d.minutes j) 0

-- "such jobs alone, with no booking above 0"
pub record ChecksOnly (d : Day) : Type 0 where
  pub each_job : (j : ℕ) → j < d.jobs → check_only d j ≡ true
  pub none_booked : (v : ℕ) → v < d.benches → d.booked v ≡ 0

-- ── loads ──

-- "Entry j of the first table is job j's bench"
abbrev pub place_in : List ℕ → ℕ → ℕ
place_in places j = get_or places j 0

-- "A bench's load under it is the sum of the minutes of the jobs put there." Request S-1: booked minutes "count in
-- loads, in the bound".
abbrev pub load_of : Day → (ℕ → ℕ) → ℕ → ℕ
load_of d a v = d.booked v + sum d.jobs (λ j. on (eqb (a j) v) (d.minutes j))

-- "entry b of the second is bench b's load"
abbrev pub loads_of : Day → List ℕ → List ℕ
loads_of d places = table d.benches (load_of d (place_in places))

-- "the largest load is the greatest of them"
abbrev pub largest_load : Day → (ℕ → ℕ) → ℕ
largest_load d a = largest d.benches (load_of d a)

abbrev pub largest_of : Day → List ℕ → ℕ
largest_of d places = largest_load d (place_in places)

-- Request S-2: "the fullest bench, the lowest on a tie"
abbrev pub fullest_of : Day → List ℕ → ℕ
fullest_of d places = fullest d.benches (load_of d (place_in places))

-- "Every comparison is multiplied out by 3q and exact."
abbrev pub scale : Day → ℕ
scale d = 3 * d.q

abbrev pub bound : Day → ℕ
bound d = (5 * d.q + d.p) * d.target

-- "A load is within the demand's bound if 3q × load ≤ (5q + p) × T."
abbrev pub within_bound : Day → ℕ → Bool
within_bound d n = leb (scale d * n) (bound d)

-- ── long jobs ──

abbrev pub too_long : Day → ℕ → Bool
too_long d j = ltb d.target (d.minutes j)

-- "Long: the lowest job with more than T minutes. Tried before the run."
unfoldable pub long_job : Day → ℕ
long_job d = least d.jobs (too_long d)

-- ── moves ──

-- "Moves ≤ benches × light jobs that have a choice."
abbrev pub move_bound : Day → ℕ
move_bound d = d.benches * count d.jobs (pebble d)

-- ── other targets ──

-- Request S-4: "Ignoring the sheet's own target, return a target with its plan"
abbrev pub with_target : Day → ℕ → Day
with_target d t =
    record {
      benches = d.benches;
      p = d.p;
      q = d.q;
      target = t;
      booked = d.booked;
      jobs = d.jobs;
      minutes = d.minutes;
      allows = d.allows;
    }

-- "The search starts at the total of all minutes plus the largest booking"; booked minutes are not among the total.
abbrev pub total_minutes : Day → ℕ
total_minutes d = sum d.jobs d.minutes

abbrev pub largest_booking : Day → ℕ
largest_booking d = largest d.benches d.booked

abbrev pub start_target : Day → ℕ
start_target d = total_minutes d + largest_booking d
