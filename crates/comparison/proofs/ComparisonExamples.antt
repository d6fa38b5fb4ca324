-- The comparison computed on small sheets, from their bytes: two benches, share 4/7, T = 9.
-- Two jobs of 5 on both:
--     itself_same           a list and itself: same
--     swapped_different     each job on a bench of its own, either way: different, with equal loads
--     moved_different       one job moved to the other: different
--     largest_different     all on bench 0, or all on bench 1: different, with the same largest load
--     short_first, foreign_first, long-first      the first list lacks a job, has a bench that the head lacks, or has
--                           an entry too many: place 0
--     short-second, foreign-second, long-second   the second list is so: place 1
--     both-bad              both are so: place 0
-- A job of 5 and one of 0 minutes, on both:
--     check_itself_same     a list and itself: same
--     check_moved_different the job of 0 minutes, and it alone, on another bench: different
-- 512 jobs of 5 on both:
--     last_moved_different  the last of them, and it alone, on another bench: different
-- One job of 5, for bench 1 only:
--     not_allowed_first, not_allowed-second, not_allowed-both     a list that has bench 0 is fault 13
use Prim.Native.Nat.{ℕ}
use mathlib.Core.Path.{◌≡◌, refl}
use mathlib.Core.List.{List, [], ◌∷◌, ◌++◌}
use lib.ListN.{replicate}
use Rattle.bits.specs.Bits.{is_set}
use Rattle.fields.specs.declared.fault.Fault.TheVariants.{Table}
use Rattle.fields.specs.declared.sheet.Job.{Job}
use Rattle.fields.specs.Contents.{Contents}
use Rattle.fields.specs.Tests.{booked_faults, hyper_edge_verdict}
use Rattle.fields.specs.Format.{booked_from, sheet_bytes}
use Rattle.frame.specs.Writing.{jobs_verdict, opening_verdict, writer_verdict}
use Rattle.frame.specs.Reading.{accepted, read_sheet}
use Rattle.frame.proofs.RoundTrip.{write_read_computed}
use Rattle.day.specs.SmallSheets.{sheet, bay, second, both}
use Rattle.comparison.specs.declared.compared.Compared.TheVariants.{Same, Different, Fault as ComparedFault}
use Rattle.comparison.specs.Comparison.{compare_plans}

abbrev pub two_jobs : Contents
two_jobs = sheet (bay 2 4 7 9) (both 5 ∷ both 5 ∷ [])

abbrev pub bytes : List ℕ
bytes = sheet_bytes two_jobs

pub read : read_sheet bytes ≡ accepted two_jobs
unfolding is_set hyper_edge_verdict booked_from booked_faults jobs_verdict opening_verdict writer_verdict
read = write_read_computed two_jobs refl refl refl

pub itself_same : compare_plans bytes (0 ∷ 1 ∷ []) (0 ∷ 1 ∷ []) ≡ Same
unfolding compare_plans is_set
itself_same = rw (read, compare_plans) refl

pub swapped_different : compare_plans bytes (0 ∷ 1 ∷ []) (1 ∷ 0 ∷ []) ≡ Different
unfolding compare_plans is_set
swapped_different = rw (read, compare_plans) refl

pub moved_different : compare_plans bytes (0 ∷ 1 ∷ []) (0 ∷ 0 ∷ []) ≡ Different
unfolding compare_plans is_set
moved_different = rw (read, compare_plans) refl

pub largest_different : compare_plans bytes (0 ∷ 0 ∷ []) (1 ∷ 1 ∷ []) ≡ Different
unfolding compare_plans is_set
largest_different = rw (read, compare_plans) refl

pub short_first : compare_plans bytes (0 ∷ []) (0 ∷ 1 ∷ []) ≡ ComparedFault (Table 0)
unfolding compare_plans is_set
short_first = rw (read, compare_plans) refl

pub foreign_first : compare_plans bytes (0 ∷ 2 ∷ []) (0 ∷ 1 ∷ []) ≡ ComparedFault (Table 0)
unfolding compare_plans is_set
foreign_first = rw (read, compare_plans) refl

pub long-first : compare_plans bytes (0 ∷ 1 ∷ 0 ∷ []) (0 ∷ 1 ∷ []) ≡ ComparedFault (Table 0)
unfolding compare_plans is_set
long-first = rw (read, compare_plans) refl

pub short-second : compare_plans bytes (0 ∷ 1 ∷ []) (0 ∷ []) ≡ ComparedFault (Table 1)
unfolding compare_plans is_set
short-second = rw (read, compare_plans) refl

pub foreign-second : compare_plans bytes (0 ∷ 1 ∷ []) (0 ∷ 2 ∷ []) ≡ ComparedFault (Table 1)
unfolding compare_plans is_set
foreign-second = rw (read, compare_plans) refl

pub long-second : compare_plans bytes (0 ∷ 1 ∷ []) (0 ∷ 1 ∷ 0 ∷ []) ≡ ComparedFault (Table 1)
unfolding compare_plans is_set
long-second = rw (read, compare_plans) refl

pub both-bad : compare_plans bytes (0 ∷ []) (0 ∷ 2 ∷ []) ≡ ComparedFault (Table 0)
unfolding compare_plans is_set
both-bad = rw (read, compare_plans) refl

-- ── a job of 0 minutes ──

abbrev pub job_and_check : Contents
job_and_check = sheet (bay 2 4 7 9) (both 5 ∷ both 0 ∷ [])

abbrev pub check_bytes : List ℕ
check_bytes = sheet_bytes job_and_check

pub read_check : read_sheet check_bytes ≡ accepted job_and_check
unfolding is_set hyper_edge_verdict booked_from booked_faults jobs_verdict opening_verdict writer_verdict
read_check = write_read_computed job_and_check refl refl refl

pub check_itself_same : compare_plans check_bytes (0 ∷ 1 ∷ []) (0 ∷ 1 ∷ []) ≡ Same
unfolding compare_plans is_set
check_itself_same = rw (read_check, compare_plans) refl

pub check_moved_different : compare_plans check_bytes (0 ∷ 0 ∷ []) (0 ∷ 1 ∷ []) ≡ Different
unfolding compare_plans is_set
check_moved_different = rw (read_check, compare_plans) refl

-- ── as many jobs as a sheet can have ──

abbrev pub full : Contents
full = sheet (bay 2 4 7 9) (replicate {A = Job} 512 (both 5))

pub read-full : read_sheet (sheet_bytes full) ≡ accepted full
unfolding is_set hyper_edge_verdict booked_from booked_faults jobs_verdict opening_verdict writer_verdict
read-full = write_read_computed full refl refl refl

abbrev pub all_on_0 : List ℕ
all_on_0 = replicate {A = ℕ} 512 0

abbrev pub last_on_1 : List ℕ
last_on_1 = replicate {A = ℕ} 511 0 ++ (1 ∷ [])

pub last_moved_different : compare_plans (sheet_bytes full) all_on_0 last_on_1 ≡ Different
unfolding compare_plans is_set
last_moved_different = rw (read-full, compare_plans) refl

-- ── a bench that the head has and the job does not allow ──

abbrev pub one_job : Contents
one_job = sheet (bay 2 4 7 9) (second 5 ∷ [])

pub read_one_job : read_sheet (sheet_bytes one_job) ≡ accepted one_job
unfolding is_set hyper_edge_verdict booked_from booked_faults jobs_verdict opening_verdict writer_verdict
read_one_job = write_read_computed one_job refl refl refl

pub not_allowed_first : compare_plans (sheet_bytes one_job) (0 ∷ []) (1 ∷ []) ≡ ComparedFault (Table 0)
unfolding compare_plans is_set
not_allowed_first = rw (read_one_job, compare_plans) refl

pub not_allowed-second : compare_plans (sheet_bytes one_job) (1 ∷ []) (0 ∷ []) ≡ ComparedFault (Table 1)
unfolding compare_plans is_set
not_allowed-second = rw (read_one_job, compare_plans) refl

pub not_allowed-both : compare_plans (sheet_bytes one_job) (0 ∷ []) (0 ∷ []) ≡ ComparedFault (Table 0)
unfolding compare_plans is_set
not_allowed-both = rw (read_one_job, compare_plans) refl
