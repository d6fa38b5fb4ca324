-- What the writer gives or refuses (document 01, "The writer refuses by the same tests 7 to 12 in the same order";
-- requests S-1 and S-3).
--     jobs_of ms bs           the jobs of two tables: as many as the longer one has entries; a job for which the first
--                             has none has no minutes (fields Tests `job_table`), and 10 holds of it
--     contents_of h booked ms bs      what the writer is given: a head, bookings, and the jobs of two tables
--     as_read c               the contents c as they are read back: one booked number for each of 64 benches
--     and_then                 a second verdict where the first found nothing
--     jobs_verdict m n js     9 to 11 for the jobs js, of which the first has number n
--     opening_verdict h booked    7, 8 and 14 of a head and bookings, with the bench as the place of 14 (0 for 7 and 8)
--     writer_verdict c        these, then 9 to 12, with job numbers as places
--     write_sheet c room      the length, or the fault, for an output of room bytes
--     output r c out          the whole output afterwards
use Rattle.std.specs.Prelude.{ℕ, suc, max, cond, List, [], ◌∷◌, ◌++◌, length, drop, leb, Result, Ok, Err}
use Rattle.fields.specs.declared.sheet.Head.{Head}
use Rattle.fields.specs.declared.sheet.Job.{Job}
use Rattle.fields.specs.Contents.{Contents, every_bench}
use Rattle.fields.specs.declared.fault.Fault.{Fault}
use Rattle.fields.specs.declared.fault.Fault.TheVariants.{Table}
use Rattle.fields.specs.Tests.{Verdict}
use Rattle.fields.specs.Format.{bookings, sheet_bytes}
use Rattle.fields.specs.Tests.{first_fault, head_faults, booked_faults, job_faults, job_table, hyper_edge_verdict}

abbrev pub jobs_of : List ℕ → List ℕ → List Job
jobs_of ms bs = job_table (max (length ms) (length bs)) ms bs

-- Entry b of `booked` is for bench b; past its end nothing is booked.
abbrev pub contents_of : Head → List ℕ → List ℕ → List ℕ → Contents
contents_of h booked ms bs = record { head = h; booked = booked; jobs = jobs_of ms bs }

-- "A booking of 0 is the same as none": entries that a table of bookings lacks, or has past the 64th, are 0.
abbrev pub as_read : Contents → Contents
as_read c = record { head = c.head; booked = every_bench c.booked; jobs = c.jobs }

abbrev pub and_then : Verdict → Verdict → Verdict
and_then (Ok _) w = w
and_then (Err f) w = Err f

unfoldable pub jobs_verdict : ℕ → ℕ → List Job → Verdict
jobs_verdict m n [] = Ok tt
jobs_verdict m n (j ∷ js) = and_then (first_fault (job_faults m n j n)) (jobs_verdict m (suc n) js)

-- "it tries 14 between faults 8 and 9, lowest bench first"
unfoldable pub opening_verdict : Head → List ℕ → Verdict
opening_verdict h booked =
    and_then (first_fault (head_faults h 0)) (first_fault (booked_faults h.benches (bookings booked)))

unfoldable pub writer_verdict : Contents → Verdict
writer_verdict c =
    and_then (opening_verdict c.head c.booked)
    (and_then (jobs_verdict c.head.benches 0 c.jobs) (hyper_edge_verdict c.head c.jobs))

-- "and by 13 where its output does not fit. … It returns the length written"
abbrev pub fitted : ℕ → ℕ → Result ℕ Fault
fitted n room = cond (leb n room) (Ok n) (Err (Table 0))

unfoldable pub write_sheet : Contents → ℕ → Result ℕ Fault
write_sheet c room = elim (writer_verdict c) [ Ok _ ↦ fitted (length (sheet_bytes c)) room | Err f ↦ Err f ]

-- "later bytes keep their contents. Its output keeps its contents after a fault."
unfoldable pub output : Result ℕ Fault → Contents → List ℕ → List ℕ
output (Ok n) c out = sheet_bytes c ++ drop n out
output (Err f) c out = out
