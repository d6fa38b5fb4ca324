-- Small sheets on which the words of a day are computed: each word just where it holds, and just where it does not.
--     allowed-last, allowed_past_head, allowed_past_64, allowed_not_there     the allowed benches of a job
--     heavy-at_limit, heavy-above         q × minutes = p × T is light, more is heavy
--     check_at-zero, long_at-zero         at T = 0 a job of 0 minutes is light and not long, one of 1 is long
--     long_above, not_long_at_target      a job above T
--     load_of-three, booked_load          a load; booked minutes are part of it
--     fullest-of_a_tie, fullest-booked, fullest-of_fewer_jobs, fullest-of_no_loads, fullest-last
--                                         the fullest bench
--     booked_of_sheet                     the booked minutes of a sheet: its entries, and 0 past them
--     booked_light, booked_not_long, booked_moves     heavy, long and the bound of moves do not know bookings
--     bound_within, bound_above, load_at_bound    the demand's bound
--     bound_of_moves, checks_counted      benches × light jobs that have a choice, those of 0 minutes too
--     start_of_search, start_of_nothing   the total of all minutes plus the largest booking
--     another_target                      another target makes a job long, and leaves the loads
use Prim.Native.Nat.{ℕ, ◌-◌, ◌/◌}
use mathlib.Core.Path.{◌≡◌, refl}
use mathlib.Core.Bool.{true, false}
use mathlib.Core.List.{[], ◌∷◌}
use Rattle.bits.specs.Bits.{is_set}
use Rattle.sums.specs.Sum.{fullest}
use Rattle.day.specs.Day.{Day, heavy, load_of, largest_load, fullest_of, within_bound, too_long, move_bound}
use Rattle.day.specs.Day.{with_target, start_target}
use Rattle.day.specs.SmallSheets.{day_with, booked_day, bay, first, second, both, three, last}

-- ── jobs ──

-- "benches allowed (64, the first bit is bench 0)": the last bit is bench 63.
pub allowed-last : (day_with (bay 64 4 7 5) (last 5 ∷ [])).allows 0 63 ≡ true
unfolding is_set
allowed-last = refl

-- A bench that the head lacks is not allowed.
pub allowed_past_head : (day_with (bay 63 4 7 5) (last 5 ∷ [])).allows 0 63 ≡ false
unfolding is_set
allowed_past_head = refl

pub allowed_past_64 : (day_with (bay 64 4 7 5) (last 5 ∷ [])).allows 0 64 ≡ false
unfolding is_set
allowed_past_64 = refl

-- Benches 0 and 62 are other bits.
pub allowed_not_there : ((day_with (bay 64 4 7 5) (last 5 ∷ [])).allows 0 0 ≡ false) × ((day_with (bay 64 4 7 5) (last 5 ∷ [])).allows 0 62 ≡ false)
unfolding is_set
allowed_not_there = (refl, refl)

-- "heavy if q × minutes > p × T": 7 × 4 is not above 4 × 7.
pub heavy-at_limit : heavy (day_with (bay 1 4 7 7) (first 4 ∷ [])) 0 ≡ false
heavy-at_limit = refl

pub heavy-above : heavy (day_with (bay 1 4 7 7) (first 5 ∷ [])) 0 ≡ true
heavy-above = refl

-- Request S-3: jobs of 0 minutes "are light always, also at T = 0".
pub check_at-zero : heavy (day_with (bay 1 4 7 0) (first 0 ∷ [])) 0 ≡ false
check_at-zero = refl

-- At T = 0 any other job is long.
pub long_at-zero : (too_long (day_with (bay 1 4 7 0) (first 1 ∷ [])) 0 ≡ true)
    × (too_long (day_with (bay 1 4 7 0) (first 0 ∷ [])) 0 ≡ false)
long_at-zero = (refl, refl)

-- "Long: the lowest job with more than T minutes."
pub long_above : too_long (day_with (bay 1 4 7 5) (first 6 ∷ [])) 0 ≡ true
long_above = refl

pub not_long_at_target : too_long (day_with (bay 1 4 7 5) (first 5 ∷ [])) 0 ≡ false
not_long_at_target = refl

-- ── loads ──

-- Three jobs of 5 on both of two benches; jobs 0 and 1 on bench 1, job 2 on bench 0.
abbrev three_jobs : Day
three_jobs = day_with (bay 2 4 7 10) (both 5 ∷ both 5 ∷ both 5 ∷ [])

abbrev split : ℕ → ℕ
split j = 1 - j / 2

pub load_of-three : (load_of three_jobs split 0 ≡ 5) × (load_of three_jobs split 1 ≡ 10)
load_of-three = (refl, refl)

-- "3q × load ≤ (5q + p) × T", here 156: 21 × 7 is 147, 21 × 8 is 168.
pub bound_within : within_bound (day_with (bay 2 4 7 4) []) 7 ≡ true
bound_within = refl

pub bound_above : within_bound (day_with (bay 2 4 7 4) []) 8 ≡ false
bound_above = refl

-- "21 × 15 = 315 ≤ 39 × 9 = 351"
pub load_at_bound : within_bound (day_with (bay 2 4 7 9) []) 15 ≡ true
load_at_bound = refl

-- The same with 3 minutes booked on bench 0.
abbrev three_booked : Day
three_booked = booked_day (bay 2 4 7 10) (3 ∷ []) (both 5 ∷ both 5 ∷ both 5 ∷ [])

pub booked_load : (load_of three_booked split 0 ≡ 8) × (load_of three_booked split 1 ≡ 10)
booked_load = (refl, refl)

pub booked_of_sheet : (three_booked.booked 0 ≡ 3) × (three_booked.booked 1 ≡ 0) × (three_booked.booked 64 ≡ 0)
booked_of_sheet = (refl, refl, refl)

-- Request S-2: "the fullest bench, the lowest on a tie". Benches 1 and 2 have 4 each, bench 0 has 3.
pub fullest-of_a_tie : fullest_of (booked_day (bay 3 4 7 9) (3 ∷ 4 ∷ 4 ∷ []) []) [] ≡ 1
unfolding fullest
fullest-of_a_tie = refl

-- Booked minutes count: bench 0 has a job of 5, bench 1 is booked for 6.
pub fullest-booked : fullest_of (booked_day (bay 2 4 7 9) (0 ∷ 6 ∷ []) (first 5 ∷ [])) (0 ∷ []) ≡ 1
unfolding fullest
fullest-booked = refl

-- Minutes count, not jobs: bench 0 has two jobs of 1, bench 1 has one of 4.
pub fullest-of_fewer_jobs : fullest_of (day_with (bay 2 4 7 9) (first 1 ∷ first 1 ∷ second 4 ∷ [])) (0 ∷ 0 ∷ 1 ∷ []) ≡ 1
unfolding fullest
fullest-of_fewer_jobs = refl

pub fullest-of_no_loads : fullest_of (day_with (bay 3 4 7 9) []) [] ≡ 0
unfolding fullest
fullest-of_no_loads = refl

-- The last of 64 benches.
pub fullest-last : fullest_of (day_with (bay 64 4 7 5) (first 4 ∷ last 5 ∷ [])) (0 ∷ 63 ∷ []) ≡ 63
unfolding fullest
fullest-last = refl

-- Booked minutes "are never a heavy job": 7 × 4 is not above 4 × 7, whatever is booked on the job's bench.
pub booked_light : heavy (booked_day (bay 1 4 7 7) (9 ∷ []) (first 4 ∷ [])) 0 ≡ false
booked_light = refl

pub booked_not_long : too_long (booked_day (bay 1 4 7 5) (9 ∷ []) (first 5 ∷ [])) 0 ≡ false
booked_not_long = refl

-- ── moves ──

-- Three benches, T = 7. Two jobs have a choice and are light, of 4 on three benches and of 2 on two; one of 5 is heavy, one of 2 has no choice.
pub bound_of_moves : move_bound (day_with (bay 3 4 7 7) (three 4 ∷ both 5 ∷ first 2 ∷ both 2 ∷ [])) ≡ 6
unfolding is_set
bound_of_moves = refl

-- Two benches, T = 0: of two jobs of 0 minutes one has a choice.
pub checks_counted : move_bound (day_with (bay 2 4 7 0) (both 0 ∷ first 0 ∷ [])) ≡ 2
unfolding is_set
checks_counted = refl

-- Bookings on all three benches change nothing in it.
pub booked_moves :
    move_bound (booked_day (bay 3 4 7 7) (4 ∷ 5 ∷ 2 ∷ []) (three 4 ∷ both 5 ∷ first 2 ∷ both 2 ∷ [])) ≡ 6
unfolding is_set
booked_moves = refl

-- ── other targets ──

-- Request S-4: "the total of all minutes plus the largest booking": 5 + 6 + 0 and 4. The sum of the bookings is 7.
pub start_of_search : start_target (booked_day (bay 2 4 7 9) (3 ∷ 4 ∷ []) (both 5 ∷ first 6 ∷ second 0 ∷ [])) ≡ 15
start_of_search = refl

-- Without jobs it is the largest booking, and 0 without bookings.
pub start_of_nothing : (start_target (booked_day (bay 2 4 7 9) (8 ∷ 2 ∷ []) []) ≡ 8)
    × (start_target (day_with (bay 2 4 7 9) []) ≡ 0)
start_of_nothing = (refl, refl)

pub another_target : (too_long (with_target (day_with (bay 2 4 7 9) (first 6 ∷ [])) 5) 0 ≡ true)
    × (largest_load (with_target (day_with (bay 2 4 7 9) (first 6 ∷ [])) 5) (λ j. 0) ≡ 6)
another_target = (refl, refl)
