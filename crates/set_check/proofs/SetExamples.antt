-- The check of a set computed on small sheets, from their bytes. Share 4/7. Bench 0 is the bit of weight 2 ^ 63.
-- Two benches, T = 5, a job of 5 on bench 0 only, one of 5 on both, which has to go to bench 1, and one of 1 there:
--     blocking_passed           {1} weighs 6, more than T
--     at_the_target             {0} weighs 5, and that is not more
--     all_benches               {0, 1} weighs 11, more than 2 × T
--     empty_refused             no bench: number 17, place 0
--     foreign_refused           bench 2, and benches 1, 2 and 63: number 17, place 2
-- The same with T = 4:
--     long-first                long, job 0, whatever the set
--     faults_before_long        but 17 comes first
-- Two benches, T = 8, jobs of 5, 5 and 6 on both, which have no placement:
--     each_set_passes           every set but the empty one passes
-- The empty sheet:
--     sheet-first               its own fault, whatever the set is
use Prim.Native.Nat.{ℕ, ◌+◌, ◌^◌}
use mathlib.Core.Path.{◌≡◌, refl}
use mathlib.Core.List.{List, [], ◌∷◌}
use Rattle.bits.specs.Bits.{is_set}
use Rattle.fields.specs.declared.fault.Fault.TheVariants.{Truncated, SetBench}
use Rattle.fields.specs.Contents.{Contents}
use Rattle.fields.specs.Tests.{booked_faults, hyper_edge_verdict}
use Rattle.fields.specs.Format.{booked_from, sheet_bytes}
use Rattle.frame.specs.Writing.{jobs_verdict, opening_verdict, writer_verdict}
use Rattle.frame.specs.Reading.{accepted, read_from, read_sheet}
use Rattle.frame.proofs.RoundTrip.{write_read_computed}
use Rattle.day.specs.Day.{long_job}
use Rattle.day.specs.SmallSheets.{sheet, bay, first, second, both}
use Rattle.answers.specs.declared.check.SetAnswer.TheVariants.{Passed, Long, NotPassed, Fault as Faulty}
use Rattle.algorithm.specs.Rocks.{lowest, highest}
use Rattle.placements.specs.Classes.{to_low, placed, put_job, after, least_of}
use Rattle.placements.specs.LeastWeight.{blocks}
use Rattle.set_check.specs.SetCheck.{foreign_in, check_set}

abbrev bench0 : ℕ
bench0 = 2 ^ 63

abbrev bench1 : ℕ
bench1 = 2 ^ 62

abbrev bench2 : ℕ
bench2 = 2 ^ 61

-- ── a job that has to go to bench 1 ──

abbrev pub forced_contents : Contents
forced_contents = sheet (bay 2 4 7 5) (first 5 ∷ both 5 ∷ second 1 ∷ [])

abbrev pub forced_bytes : List ℕ
forced_bytes = sheet_bytes forced_contents

pub forced_read : read_sheet forced_bytes ≡ accepted forced_contents
unfolding is_set hyper_edge_verdict booked_from booked_faults jobs_verdict opening_verdict writer_verdict
forced_read = write_read_computed forced_contents refl refl refl

pub blocking_passed : check_set forced_bytes bench1 ≡ Passed
unfolding check_set foreign_in long_job is_set lowest highest to_low placed put_job after least_of blocks booked_from
blocking_passed = rw (forced_read, check_set) refl

pub at_the_target : check_set forced_bytes bench0 ≡ NotPassed
unfolding check_set foreign_in long_job is_set lowest highest to_low placed put_job after least_of blocks booked_from
at_the_target = rw (forced_read, check_set) refl

pub all_benches : check_set forced_bytes (bench0 + bench1) ≡ Passed
unfolding check_set foreign_in long_job is_set lowest highest to_low placed put_job after least_of blocks booked_from
all_benches = rw (forced_read, check_set) refl

pub empty_refused : check_set forced_bytes 0 ≡ Faulty (SetBench 0)
unfolding check_set
empty_refused = rw (forced_read, check_set) refl

pub foreign_refused : (check_set forced_bytes bench2 ≡ Faulty (SetBench 2))
    × (check_set forced_bytes (bench1 + bench2 + 1) ≡ Faulty (SetBench 2))
unfolding check_set foreign_in is_set
foreign_refused = (rw (forced_read, check_set) refl, rw (forced_read, check_set) refl)

-- ── a job longer than T ──

abbrev pub long_contents : Contents
long_contents = sheet (bay 2 4 7 4) (first 5 ∷ both 5 ∷ second 1 ∷ [])

abbrev pub long_bytes : List ℕ
long_bytes = sheet_bytes long_contents

pub long_read : read_sheet long_bytes ≡ accepted long_contents
unfolding is_set hyper_edge_verdict booked_from booked_faults jobs_verdict opening_verdict writer_verdict
long_read = write_read_computed long_contents refl refl refl

pub long-first : (check_set long_bytes bench0 ≡ Long (record { job = 0 }))
    × (check_set long_bytes (bench0 + bench1) ≡ Long (record { job = 0 }))
unfolding check_set foreign_in long_job is_set
long-first = (rw (long_read, check_set) refl, rw (long_read, check_set) refl)

pub faults_before_long : (check_set long_bytes 0 ≡ Faulty (SetBench 0))
    × (check_set long_bytes bench2 ≡ Faulty (SetBench 2))
unfolding check_set foreign_in is_set
faults_before_long = (rw (long_read, check_set) refl, rw (long_read, check_set) refl)

-- ── no placement ──

abbrev crowded_contents : Contents
crowded_contents = sheet (bay 2 4 7 8) (both 5 ∷ both 5 ∷ both 6 ∷ [])

crowded_read : read_sheet (sheet_bytes crowded_contents) ≡ accepted crowded_contents
unfolding is_set hyper_edge_verdict booked_from booked_faults jobs_verdict opening_verdict writer_verdict
crowded_read = write_read_computed crowded_contents refl refl refl

pub each_set_passes : (check_set (sheet_bytes crowded_contents) bench0 ≡ Passed)
    × (check_set (sheet_bytes crowded_contents) bench1 ≡ Passed)
    × (check_set (sheet_bytes crowded_contents) (bench0 + bench1) ≡ Passed)
unfolding check_set foreign_in long_job is_set lowest highest to_low placed put_job after least_of blocks booked_from
each_set_passes = (
  rw (crowded_read, check_set) refl,
  rw (crowded_read, check_set) refl,
  rw (crowded_read, check_set) refl,
)

-- ── no sheet ──

pub sheet-first : (set : ℕ) → check_set [] set ≡ Faulty (Truncated 0)
unfolding check_set read_sheet read_from
sheet-first set = refl
