-- The check of a page computed on small sheets, from their bytes (page_faults' FaultExamples has pages with a fault).
-- Share 4/7. Bench 0 is the bit of weight 2 ^ 63.
-- Four benches, T = 5, no job, bench 0 booked for 11 and bench 1 for 6, so that {0}, {1} and {0, 2} block:
--     each-blocks           {0}, {1} pass, in either order, and so do {0, 2}, {1}
--     first-open_named      {0}, {2}, {3}: set 1 is the first that does not block
--     union_is_not_enough   {0}, {2}: their union blocks, and set 1 does not
--     empty_passes          a page without a set passes
-- One bench, T = 5, a job of 6 on it:
--     long-first            long, job 0, for {0}, and for a page without a set
--     faults_before_long    but 17 and 18 come first
-- One bench, T = 5, a job of 5 on it:
--     says_nothing          a page without a set passes, and the job fits within T
-- The empty sheet:
--     sheet-first           its own fault, whatever the page is
use Prim.Native.Nat.{ℕ, ◌+◌, ◌^◌}
use mathlib.Core.Path.{◌≡◌, refl}
use mathlib.Core.Bool.{true}
use mathlib.Core.List.{List, [], ◌∷◌}
use Rattle.bits.specs.Bits.{is_set}
use Rattle.fields.specs.declared.fault.Fault.TheVariants.{Truncated, SetBench, SharedBench}
use Rattle.fields.specs.Contents.{Contents}
use Rattle.fields.specs.Tests.{booked_faults, hyper_edge_verdict}
use Rattle.fields.specs.Format.{booked_from, sheet_bytes}
use Rattle.frame.specs.Writing.{jobs_verdict, opening_verdict, writer_verdict}
use Rattle.frame.specs.Reading.{accepted, read_from, read_sheet}
use Rattle.frame.proofs.RoundTrip.{write_read_computed}
use Rattle.day.specs.Day.{day_of, long_job}
use Rattle.day.specs.SmallSheets.{sheet, booked_sheet, bay, first}
use Rattle.demand.specs.Demand.{is_assignment, keeps_target}
use Rattle.answers.specs.declared.check.PageAnswer.TheVariants.{Passed, Long, NotPassed, Fault as Faulty}
use Rattle.algorithm.specs.Rocks.{lowest, highest}
use Rattle.placements.specs.Classes.{to_low, placed, put_job, after, least_of}
use Rattle.placements.specs.LeastWeight.{blocks}
use Rattle.set_check.specs.SetCheck.{foreign_in}
use Rattle.page_faults.specs.PageFaults.{unfit, overlap, shares_earlier, first_faulty, page_verdict}
use Rattle.page_check.specs.PageCheck.{first_open, check_page}

abbrev pub bench0 : ℕ
bench0 = 2 ^ 63

abbrev pub bench1 : ℕ
bench1 = 2 ^ 62

abbrev pub bench2 : ℕ
bench2 = 2 ^ 61

abbrev pub bench3 : ℕ
bench3 = 2 ^ 60

-- ── booked benches ──

abbrev pub booked_contents : Contents
booked_contents = booked_sheet (bay 4 4 7 5) (11 ∷ 6 ∷ []) []

abbrev pub booked_bytes : List ℕ
booked_bytes = sheet_bytes booked_contents

pub booked_read : read_sheet booked_bytes ≡ accepted booked_contents
unfolding is_set hyper_edge_verdict booked_from booked_faults jobs_verdict opening_verdict writer_verdict
booked_read = write_read_computed booked_contents refl refl refl

pub each-blocks : (check_page booked_bytes (bench0 ∷ bench1 ∷ []) ≡ Passed)
    × (check_page booked_bytes (bench1 ∷ bench0 ∷ []) ≡ Passed)
    × (check_page booked_bytes ((bench0 + bench2) ∷ bench1 ∷ []) ≡ Passed)
unfolding check_page first_open unfit overlap shares_earlier first_faulty page_verdict foreign_in long_job is_set lowest highest
    to_low placed put_job after least_of blocks booked_from
each-blocks = (rw (booked_read, check_page) refl, rw (booked_read, check_page) refl, rw (booked_read, check_page) refl)

pub first-open_named : check_page booked_bytes (bench0 ∷ bench2 ∷ bench3 ∷ []) ≡ NotPassed 1
unfolding check_page first_open unfit overlap shares_earlier first_faulty page_verdict foreign_in long_job is_set lowest highest
    to_low placed put_job after least_of blocks booked_from
first-open_named = rw (booked_read, check_page) refl

pub union_is_not_enough : (check_page booked_bytes (bench0 ∷ bench2 ∷ []) ≡ NotPassed 1)
    × (blocks (day_of booked_contents) (is_set 64 (bench0 + bench2)) ≡ true)
unfolding check_page first_open unfit overlap shares_earlier first_faulty page_verdict foreign_in long_job is_set lowest highest
    to_low placed put_job after least_of blocks booked_from
union_is_not_enough = (rw (booked_read, check_page) refl, refl)

pub empty_passes : check_page booked_bytes [] ≡ Passed
unfolding check_page first_open unfit overlap shares_earlier first_faulty page_verdict foreign_in long_job is_set lowest highest
    to_low placed put_job after least_of blocks booked_from
empty_passes = rw (booked_read, check_page) refl

-- ── a job longer than T ──

abbrev pub long_contents : Contents
long_contents = sheet (bay 1 4 7 5) (first 6 ∷ [])

abbrev pub long_bytes : List ℕ
long_bytes = sheet_bytes long_contents

pub long_read : read_sheet long_bytes ≡ accepted long_contents
unfolding is_set hyper_edge_verdict booked_from booked_faults jobs_verdict opening_verdict writer_verdict
long_read = write_read_computed long_contents refl refl refl

pub long-first : (check_page long_bytes (bench0 ∷ []) ≡ Long (record { job = 0 }))
    × (check_page long_bytes [] ≡ Long (record { job = 0 }))
unfolding check_page unfit overlap shares_earlier first_faulty page_verdict foreign_in is_set long_job
long-first = (rw (long_read, check_page) refl, rw (long_read, check_page) refl)

pub faults_before_long : (check_page long_bytes (0 ∷ []) ≡ Faulty (SetBench 0))
    × (check_page long_bytes (bench1 ∷ []) ≡ Faulty (SetBench 0))
    × (check_page long_bytes (bench0 ∷ bench0 ∷ []) ≡ Faulty (SharedBench 1))
unfolding check_page unfit overlap shares_earlier first_faulty page_verdict foreign_in is_set
faults_before_long = (rw (long_read, check_page) refl, rw (long_read, check_page) refl, rw (long_read, check_page) refl)

-- ── a job that fits ──

abbrev pub fit_contents : Contents
fit_contents = sheet (bay 1 4 7 5) (first 5 ∷ [])

abbrev pub fit_bytes : List ℕ
fit_bytes = sheet_bytes fit_contents

pub fit_read : read_sheet fit_bytes ≡ accepted fit_contents
unfolding is_set hyper_edge_verdict booked_from booked_faults jobs_verdict opening_verdict writer_verdict
fit_read = write_read_computed fit_contents refl refl refl

pub says_nothing : (check_page fit_bytes [] ≡ Passed)
    × (is_assignment (day_of fit_contents) (λ j. 0) ≡ true)
    × (keeps_target (day_of fit_contents) (λ j. 0) ≡ true)
unfolding check_page first_open first_faulty page_verdict long_job is_set
says_nothing = (rw (fit_read, check_page) refl, refl, refl)

-- ── no sheet ──

pub sheet-first : (page : List ℕ) → check_page [] page ≡ Faulty (Truncated 0)
unfolding check_page read_sheet read_from
sheet-first page = refl
