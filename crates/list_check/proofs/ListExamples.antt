-- The check of a list computed on small sheets, from their bytes. Share 4/7.
--     long_job_passes           example 3 of document 01, one bench, a job of 5, T = 4: longer than T, and the list
--                               passes
--     nothing_to_place          no job and no place: passes with largest load 0
-- Two benches, T = 7, so that loads up to 13 are within the bound; jobs of 6 and 7 on both:
--     at_the_bound              both on bench 1: 13, exactly the bound
--     one_above_the_bound       with 7 and 7 there it is 14
--     lowest_of_a_tie           with 7 and 7 on a bench each: bench 0 is the fullest
--     place_too_few, place_too_many     number 16, also if the list with the place too many is good without it
--     bench_lacking, bench_far          a place that is no bench of the head; one that is no bench of any head
-- Two benches, a job of 5 on bench 1 only:
--     allowed_passes, not_allowed       the list that has bench 1, and the one that has bench 0
-- One bench, booked for 3 or for 4, a job of 10, T = 7:
--     booked_at_the_bound, booked_above     13 and 14
-- Two benches, bench 1 booked for 9, a job of 5 on both, T = 7:
--     booked_is-fullest         on bench 0: the largest load is what is booked
-- The empty sheet:
--     sheet-first               its own fault, whatever the list is
use Prim.Native.Nat.{ℕ}
use mathlib.Core.Path.{◌≡◌, refl}
use mathlib.Core.List.{List, [], ◌∷◌}
use Rattle.bits.specs.Bits.{is_set}
use Rattle.sums.specs.Sum.{fullest}
use Rattle.fields.specs.declared.fault.Fault.TheVariants.{Truncated, PlaceCount}
use Rattle.fields.specs.Contents.{Contents}
use Rattle.fields.specs.Tests.{booked_faults, hyper_edge_verdict}
use Rattle.fields.specs.Format.{booked_from, sheet_bytes}
use Rattle.frame.specs.Writing.{jobs_verdict, opening_verdict, writer_verdict}
use Rattle.frame.specs.Reading.{accepted, read_from, read_sheet}
use Rattle.frame.proofs.RoundTrip.{write_read_computed}
use Rattle.day.specs.SmallSheets.{sheet, booked_sheet, bay, first, second, both}
use Rattle.answers.specs.declared.check.ListAnswer.{ListAnswer}
use Rattle.answers.specs.declared.check.ListAnswer.TheVariants.{Passed, NotPassed, Fault as Faulty}
use Rattle.list_check.specs.ListCheck.{check_list}

abbrev pub passed : ℕ → ℕ → ListAnswer
passed largest fullest = Passed (record { largest = largest; fullest = fullest })

-- ── a job longer than T; no job ──

abbrev pub long_contents : Contents
long_contents = sheet (bay 1 4 7 4) (first 5 ∷ [])

pub long_read : read_sheet (sheet_bytes long_contents) ≡ accepted long_contents
unfolding is_set hyper_edge_verdict booked_from booked_faults jobs_verdict opening_verdict writer_verdict
long_read = write_read_computed long_contents refl refl refl

pub long_job_passes : check_list (sheet_bytes long_contents) (0 ∷ []) ≡ passed 5 0
unfolding check_list is_set fullest booked_from
long_job_passes = rw (long_read, check_list) refl

abbrev empty_contents : Contents
empty_contents = sheet (bay 1 4 7 0) []

empty_read : read_sheet (sheet_bytes empty_contents) ≡ accepted empty_contents
unfolding is_set hyper_edge_verdict booked_from booked_faults jobs_verdict opening_verdict writer_verdict
empty_read = write_read_computed empty_contents refl refl refl

pub nothing_to_place : check_list (sheet_bytes empty_contents) [] ≡ passed 0 0
unfolding check_list is_set fullest booked_from
nothing_to_place = rw (empty_read, check_list) refl

-- ── two jobs on both benches ──

abbrev pub two_contents : Contents
two_contents = sheet (bay 2 4 7 7) (both 6 ∷ both 7 ∷ [])

abbrev pub two_bytes : List ℕ
two_bytes = sheet_bytes two_contents

pub two_read : read_sheet two_bytes ≡ accepted two_contents
unfolding is_set hyper_edge_verdict booked_from booked_faults jobs_verdict opening_verdict writer_verdict
two_read = write_read_computed two_contents refl refl refl

pub at_the_bound : check_list two_bytes (1 ∷ 1 ∷ []) ≡ passed 13 1
unfolding check_list is_set fullest booked_from
at_the_bound = rw (two_read, check_list) refl

pub place_too_few : check_list two_bytes (1 ∷ []) ≡ Faulty PlaceCount
unfolding check_list
place_too_few = rw (two_read, check_list) refl

pub place_too_many : check_list two_bytes (1 ∷ 1 ∷ 1 ∷ []) ≡ Faulty PlaceCount
unfolding check_list
place_too_many = rw (two_read, check_list) refl

pub bench_lacking : check_list two_bytes (0 ∷ 2 ∷ []) ≡ NotPassed
unfolding check_list is_set
bench_lacking = rw (two_read, check_list) refl

pub bench_far : check_list two_bytes (0 ∷ 64 ∷ []) ≡ NotPassed
unfolding check_list is_set
bench_far = rw (two_read, check_list) refl

abbrev pub even_contents : Contents
even_contents = sheet (bay 2 4 7 7) (both 7 ∷ both 7 ∷ [])

pub even_read : read_sheet (sheet_bytes even_contents) ≡ accepted even_contents
unfolding is_set hyper_edge_verdict booked_from booked_faults jobs_verdict opening_verdict writer_verdict
even_read = write_read_computed even_contents refl refl refl

pub one_above_the_bound : check_list (sheet_bytes even_contents) (1 ∷ 1 ∷ []) ≡ NotPassed
unfolding check_list is_set booked_from
one_above_the_bound = rw (even_read, check_list) refl

pub lowest_of_a_tie : check_list (sheet_bytes even_contents) (1 ∷ 0 ∷ []) ≡ passed 7 0
unfolding check_list is_set fullest booked_from
lowest_of_a_tie = rw (even_read, check_list) refl

-- ── a job on bench 1 only ──

abbrev pub one_contents : Contents
one_contents = sheet (bay 2 4 7 7) (second 5 ∷ [])

pub one_read : read_sheet (sheet_bytes one_contents) ≡ accepted one_contents
unfolding is_set hyper_edge_verdict booked_from booked_faults jobs_verdict opening_verdict writer_verdict
one_read = write_read_computed one_contents refl refl refl

pub allowed_passes : check_list (sheet_bytes one_contents) (1 ∷ []) ≡ passed 5 1
unfolding check_list is_set fullest booked_from
allowed_passes = rw (one_read, check_list) refl

pub not_allowed : check_list (sheet_bytes one_contents) (0 ∷ []) ≡ NotPassed
unfolding check_list is_set
not_allowed = rw (one_read, check_list) refl

-- ── bookings ──

abbrev booked_contents : ℕ → Contents
booked_contents n = booked_sheet (bay 1 4 7 7) (n ∷ []) (first 10 ∷ [])

booked_read : read_sheet (sheet_bytes (booked_contents 3)) ≡ accepted (booked_contents 3)
unfolding is_set hyper_edge_verdict booked_from booked_faults jobs_verdict opening_verdict writer_verdict
booked_read = write_read_computed (booked_contents 3) refl refl refl

more_booked_read : read_sheet (sheet_bytes (booked_contents 4)) ≡ accepted (booked_contents 4)
unfolding is_set hyper_edge_verdict booked_from booked_faults jobs_verdict opening_verdict writer_verdict
more_booked_read = write_read_computed (booked_contents 4) refl refl refl

pub booked_at_the_bound : check_list (sheet_bytes (booked_contents 3)) (0 ∷ []) ≡ passed 13 0
unfolding check_list is_set fullest booked_from
booked_at_the_bound = rw (booked_read, check_list) refl

pub booked_above : check_list (sheet_bytes (booked_contents 4)) (0 ∷ []) ≡ NotPassed
unfolding check_list is_set booked_from
booked_above = rw (more_booked_read, check_list) refl

abbrev full_contents : Contents
full_contents = booked_sheet (bay 2 4 7 7) (0 ∷ 9 ∷ []) (both 5 ∷ [])

full_read : read_sheet (sheet_bytes full_contents) ≡ accepted full_contents
unfolding is_set hyper_edge_verdict booked_from booked_faults jobs_verdict opening_verdict writer_verdict
full_read = write_read_computed full_contents refl refl refl

pub booked_is-fullest : check_list (sheet_bytes full_contents) (0 ∷ []) ≡ passed 9 1
unfolding check_list is_set fullest booked_from
booked_is-fullest = rw (full_read, check_list) refl

-- ── the empty sheet ──

pub sheet-first : (list : List ℕ) → check_list [] list ≡ Faulty (Truncated 0)
unfolding check_list read_sheet read_from
sheet-first list = refl
