-- The tests of faults 7 to 12, 14 and 15, the same for the reader and the writer (document 01, "Faults, in checking
-- order"; request S-1).
--     Verdict                 no fault, or the one that is found
--     first_fault tests       the fault of the first test that holds
--     bench_count_fault h     7        share_fault h    8
--     job_count_fault n       9        minutes_fault j  10      allowed_fault m j   11
--     booking_fault m b       14
--     head_faults h at        7 and 8, in this order, with their place
--     booking_faults m had b at       14 and 15 for the booking b; had says which benches had a booking frame before
--     none_had                no bench had one
--     booked_faults m bs      14 and 15 for the bookings that the writer gives, with benches as places
--     job_faults m n j at     9 to 11 for job n, in this order, with their place
--     no_minutes              stands for minutes that are not given
--     job_at js n, job_table n ms bs  job n of a list; jobs given by two tables
--     longest js              W, the longest job's minutes
--     heavy_hyper_edge h w j  what 12 says of a job
--     heavy_hyper_edge_at h js n    12 holds of job n of js
--     LowestHeavyHyperEdge h js n   n is the lowest such job
--     hyper_edge_verdict h js  12: the lowest such job, if there is one
-- Tests of a width can hold for numbers handed to the writer only: a field that was read fits its width.
use Rattle.std.specs.Prelude.{ℕ, ◌*◌, ◌^◌, ◌<◌, ◌≡◌, Bool, true, false, cond, not, ◌&&◌, ◌||◌, List, [], ◌∷◌, ◌++◌}
use Rattle.std.specs.Prelude.{length, get_or, eqb, leb, ltb, Result, Ok, Err}
use Rattle.sums.specs.Sum.{count, largest}
use Rattle.sums.specs.Search.{any, least}
use Rattle.sums.specs.Table.{table}
use Rattle.fields.specs.declared.sheet.Head.{Head}
use Rattle.fields.specs.declared.sheet.Booking.{Booking}
use Rattle.fields.specs.declared.sheet.Job.{Job}
use Rattle.fields.specs.declared.fault.Fault.{Fault}
use Rattle.fields.specs.declared.fault.Fault.TheVariants.{BenchCount, Share, JobCount, Minutes, Allowed}
use Rattle.fields.specs.declared.fault.Fault.TheVariants.{HeavyHyperEdge, BookedBench, BookedTwice}
use Rattle.fields.specs.Format.{allows}

-- A test and the fault that it stands for.
pub record Test : Type 0 where
  pub holds : Bool
  pub fault : Fault

-- What the tests of a sheet give: nothing, or the fault that was found first.
abbrev pub Verdict : Type 0
Verdict = Result (Unit {0}) Fault

abbrev pub first_fault : List Test → Verdict
first_fault [] = Ok tt
first_fault (t ∷ ts) = cond t.holds (Err t.fault) (first_fault ts)

-- "7. The head has 0 benches or more than 64." Target too wide for its field: 7 too.
abbrev pub bench_count_fault : Head → Bool
bench_count_fault h = eqb h.benches 0 || ltb 64 h.benches || leb (2 ^ 30) h.target

-- "8. The share is bad: q is 0, or 7p < 4q, or p ≥ q." p or q too wide for its field: 8 too.
abbrev pub share_fault : Head → Bool
share_fault h =
    eqb h.q 0 || ltb (7 * h.p) (4 * h.q) || leb h.q h.p || leb (2 ^ 7) h.p || leb (2 ^ 7) h.q

-- "9. It is the 513th job." n is the job's number, from 0.
abbrev pub job_count_fault : ℕ → Bool
job_count_fault n = leb 512 n

-- 10. Minutes too wide for their field. Request S-3: "jobs of 0 minutes are taken"; "the writer keeps it for minutes
-- too wide for the field".
abbrev pub minutes_fault : Job → Bool
minutes_fault j = leb (2 ^ 20) j.minutes

-- "11. A job allows no bench, or a bench the head lacks." m is the head's number of benches.
abbrev pub allowed_fault : ℕ → Job → Bool
allowed_fault m j = not (any 64 (allows j)) || any 64 (λ b. leb m b && allows j b)

-- "14 says that the bench is not in the head or, from the writer, that the minutes are too wide for the field"
abbrev pub booking_fault : ℕ → Booking → Bool
booking_fault m b = leb m b.bench || leb (2 ^ 20) b.minutes

abbrev pub head_faults : Head → ℕ → List Test
head_faults h at =
    record { holds = bench_count_fault h; fault = BenchCount at }
    ∷ record { holds = share_fault h; fault = Share at }
    ∷ []

-- "then number 15 that the bench already had a booking frame"
abbrev pub booking_faults : ℕ → (ℕ → Bool) → Booking → ℕ → List Test
booking_faults m had b at =
    record { holds = booking_fault m b; fault = BookedBench at }
    ∷ record { holds = had b.bench; fault = BookedTwice at }
    ∷ []

abbrev pub none_had : ℕ → Bool
none_had b = false

-- Request S-1: the writer "never meets 15; it tries 14 .., lowest bench first": it gives a bench one booking or none.
unfoldable pub booked_faults : ℕ → List Booking → List Test
booked_faults m [] = []
booked_faults m (b ∷ bs) = booking_faults m none_had b b.bench ++ booked_faults m bs

abbrev pub job_faults : ℕ → ℕ → Job → ℕ → List Test
job_faults m n j at =
    record { holds = job_count_fault n; fault = JobCount at }
    ∷ record { holds = minutes_fault j; fault = Minutes at }
    ∷ record { holds = allowed_fault m j; fault = Allowed at }
    ∷ []

-- Stands past the end of a list of jobs.
abbrev pub no_job : Job
no_job = record { minutes = 0; allowed = 0 }

abbrev pub job_at : List Job → ℕ → Job
job_at js n = get_or js n no_job

-- Minutes that are not given are not 0: they are a number that no field holds, so that 10 holds of the job.
abbrev pub no_minutes : ℕ
no_minutes = 2 ^ 20

-- The first n jobs of two tables: minutes, and benches allowed. Where the first has no entry no minutes are given,
-- where the second has none no bench is allowed.
abbrev pub job_table : ℕ → List ℕ → List ℕ → List Job
job_table n ms bs = table n (λ i. record { minutes = get_or ms i no_minutes; allowed = get_or bs i 0 })

-- "W the longest job's minutes"
abbrev pub longest : List Job → ℕ
longest js = largest (length js) (λ n. (job_at js n).minutes)

-- "a job allows three or more benches and q × minutes > p × W"
abbrev pub heavy_hyper_edge : Head → ℕ → Job → Bool
heavy_hyper_edge h w j = leb 3 (count 64 (allows j)) && ltb (h.p * w) (h.q * j.minutes)

abbrev pub heavy_hyper_edge_at : Head → List Job → ℕ → Bool
heavy_hyper_edge_at h js n = heavy_hyper_edge h (longest js) (job_at js n)

-- "(place: the lowest such job number)"
pub record LowestHeavyHyperEdge (h : Head) (js : List Job) (n : ℕ) : Type 0 where
  pub is_job : n < length js
  pub is_heavy : heavy_hyper_edge_at h js n ≡ true
  pub none_lower : (i : ℕ) → i < n → heavy_hyper_edge_at h js i ≡ false

-- "12. After the whole sheet: … (place: the lowest such job number)"
unfoldable pub hyper_edge_verdict : Head → List Job → Verdict
hyper_edge_verdict h js =
    let n = least (length js) (heavy_hyper_edge_at h js) in
    cond (ltb n (length js)) (Err (HeavyHyperEdge n)) (Ok tt)
