-- Places of faults, and numbers of jobs, are small; a fault of bookings has the number of an entry.
-- Of verdicts:
--     cond-refused        a test and then a verdict refuse: the test's fault is given, or the verdict refuses
--     and_then-refused    two verdicts one after the other refuse: the first does, or it accepts and the second does
-- Of the writer:
--     head_place          a fault that the tests 7 and 8 find has the place that they are given
--     job_place           so has one that the tests 9 to 11 find in a job
--     jobs_place          one that they find in a list of jobs has a place of at most 512
--     hyper_edge_place    one of number 12 has the number of a job for its place
--     booked_place        a fault of bookings is 14, and has the number of an entry of the table for its place
--     opening_place       so a fault of a head and bookings has that place, or 0
--     writer_place        a fault that the writer finds has a place of at most 512, or the number of a booking's entry
--     written_place       so has one that it returns
--     written-length      a length that it returns is 13 + 7 bytes a booking above 0 + 14 bytes a job, and at most 7629
-- Of the reader:
--     reached_jobs        wherever reading comes to, it has read at most 512 jobs: the 513th is refused
--     read_jobs           a sheet that is accepted has at most 512 jobs
--     read_place          a fault of a sheet has a place of at most 65536
use Prim.Native.Nat.{ℕ, suc, ◌+◌, ◌*◌, ◌≤◌, ◌<◌, max}
use native.Mathlib.Omega.{arith}
use mathlib.Core.Path.{◌≡◌, refl, sym, ap, ◌∙◌}
use mathlib.Core.Bool.{Bool, true, false, cond}
use mathlib.Core.Logic.{◌⊎◌, inl, inr}
use mathlib.Core.List.{List, [], ◌∷◌}
use lib.ListN.{length, length-append}
use lib.Dec.{eqb, leb}
use Rattle.bools.proofs.BoolLaws.{split, tests}
use Rattle.bools.proofs.OrderLaws.{lt-or-le}
use Rattle.fields.specs.declared.sheet.Head.{Head}
use Rattle.fields.specs.declared.sheet.Job.{Job}
use Rattle.fields.specs.Contents.{Contents}
use Rattle.fields.specs.declared.fault.Fault.{Fault}
use Rattle.fields.specs.declared.fault.Fault.TheVariants.{Table, BookedBench}
use Rattle.std.specs.Prelude.{Ok, Err}
use Rattle.fields.specs.Numbers.{place_of}
use Rattle.fields.specs.Format.{head_kind, job_kind, booking_kind, kind_of, body_of, booked_from, bookings, sheet_bytes}
use Rattle.fields.specs.Tests.{first_fault, head_faults, booking_fault, booked_faults, job_faults, bench_count_fault, share_fault}
use Rattle.fields.specs.Tests.{Verdict, job_count_fault, minutes_fault, allowed_fault, hyper_edge_verdict}
use Rattle.bookings.proofs.BookingLaws.{few-bookings}
use Rattle.frame.specs.Writing.{and_then, jobs_verdict, opening_verdict, writer_verdict, write_sheet}
use Rattle.judging.specs.FrameTests.{frame_faults}
use Rattle.frame.specs.Reading.{Progress, accepted, refused, faults_at, after, read_sheet}
use Rattle.frame.specs.Frames.{NoneHolds, Reached, start, past_foreign, past_sound, FaultHere, ends_inside, in_frame, no_end, heavy_hyper_edge}
use Rattle.fields.proofs.FormatLaws.{length-sheet_bytes}
use Rattle.frame.proofs.WriterLaws.{sound-bookings, job_sound, jobs_bound, writer_verdict-sound}
use Rattle.frame.proofs.WholeFrames.{verdict_cases}
use Rattle.frame.proofs.FirstFault.{in_frame_number, lowest_hyper_edge, reached-length, read_too_long, read_fault, read_accepted}

-- ── verdicts ──

pub cond-refused : (b : Bool) (g : Fault) (v : Verdict) (f : Fault) → cond b (Err g) v ≡ Err f → (g ≡ f) ⊎ (v ≡ Err f)
cond-refused true g v f e = inl (cc)
cond-refused false g v f e = inr e

pub and_then-refused : (v w : Verdict) (f : Fault) → and_then v w ≡ Err f → (v ≡ Err f) ⊎ ((v ≡ Ok tt) × (w ≡ Err f))
and_then-refused (Ok _) w f e = inr (refl, e)
and_then-refused (Err g) w f e = inl e

-- ── the writer ──

pub head_place : (h : Head) (at : ℕ) (f : Fault) → first_fault (head_faults h at) ≡ Err f → place_of f ≡ at
head_place h at f e = elim (cond-refused (bench_count_fault h) _ _ f e) [
  | inl p ↦ sym (ap place_of p)
  | inr q ↦ elim (cond-refused (share_fault h) _ _ f q) [
    | inl p ↦ sym (ap place_of p)
    | inr r ↦ let z : ◌≡◌ {A = ℕ} 0 1 = cc in absurd (omega arith)
  ]
]

pub job_place : (m n : ℕ) (j : Job) (at : ℕ) (f : Fault) → first_fault (job_faults m n j at) ≡ Err f → place_of f ≡ at
job_place m n j at f e = elim (cond-refused (job_count_fault n) _ _ f e) [
  | inl p ↦ sym (ap place_of p)
  | inr q ↦ elim (cond-refused (minutes_fault j) _ _ f q) [
    | inl p ↦ sym (ap place_of p)
    | inr r ↦ elim (cond-refused (allowed_fault m j) _ _ f r) [
      | inl p ↦ sym (ap place_of p)
      | inr s ↦ let z : ◌≡◌ {A = ℕ} 0 1 = cc in absurd (omega arith)
    ]
  ]
]

-- Behind a sound job its number is below 512.
pub jobs_place : (m n : ℕ) (js : List Job) (f : Fault) → n ≤ 512 → jobs_verdict m n js ≡ Err f → place_of f ≤ 512
unfolding jobs_verdict
jobs_place m n [] f l e = let z : ◌≡◌ {A = ℕ} 0 1 = cc in absurd (omega arith)
jobs_place m n (j ∷ js) f l e = elim (and_then-refused (first_fault (job_faults m n j n)) (jobs_verdict m (suc n) js) f e) [
  | inl p ↦ omega (arith, job_place m n j n f p)
  | inr q ↦ jobs_place m (suc n) js f (job_sound m n j n q.0).number_below_512 q.1
]

pub hyper_edge_place : (h : Head) (js : List Job) (f : Fault) → hyper_edge_verdict h js ≡ Err f → place_of f < length js
hyper_edge_place h js f e = let r = lowest_hyper_edge h js f e in omega (arith, ap place_of r.1, r.2.is_job)

booked_from_lem : (m i : ℕ) (ns : List ℕ) (f : Fault) → first_fault (booked_faults m (booked_from i ns)) ≡ Err f
    → (b : ℕ) × (f ≡ BookedBench b) × (b < i + length ns)
unfolding booked_from booked_faults
booked_from_lem m i [] f e = let z : ◌≡◌ {A = ℕ} 0 1 = cc in absurd (omega arith)
booked_from_lem m i (n ∷ ns) f e = elim (split (eqb n 0)) [
  | inl p ↦ let (b, is, l) = booked_from_lem m (suc i) ns f (rw p at e) in (b, is, omega arith)
  | inr p ↦ elim (cond-refused (booking_fault m (record { bench = i; minutes = n })) _ _ f (rw p at e)) [
    | inl q ↦ (i, sym q, omega arith)
    | inr q ↦ let (b, is, l) = booked_from_lem m (suc i) ns f q in (b, is, omega arith)
  ]
]

pub booked_place : (m : ℕ) (bs : List ℕ) (f : Fault) → first_fault (booked_faults m (bookings bs)) ≡ Err f
    → (b : ℕ) × (f ≡ BookedBench b) × (b < length bs)
booked_place m bs f e = let (b, is, l) = booked_from_lem m 0 bs f e in (b, is, omega arith)

pub opening_place : (h : Head) (bs : List ℕ) (f : Fault) → opening_verdict h bs ≡ Err f → place_of f ≤ length bs
unfolding opening_verdict
opening_place h bs f e = elim (and_then-refused (first_fault (head_faults h 0)) _ f e) [
  | inl p ↦ omega (arith, head_place h 0 f p)
  | inr q ↦ let (b, is, l) = booked_place h.benches bs f q.1 in omega (arith, ap place_of is)
]

pub writer_place : (c : Contents) (f : Fault) → writer_verdict c ≡ Err f → place_of f ≤ max 512 (length c.booked)
unfolding writer_verdict
writer_place c f e = elim (and_then-refused (opening_verdict c.head c.booked) _ f e) [
  | inl p ↦ omega (arith, opening_place c.head c.booked f p)
  | inr q ↦ elim (and_then-refused (jobs_verdict c.head.benches 0 c.jobs) _ f q.1) [
    | inl p ↦ omega (arith, jobs_place c.head.benches 0 c.jobs f (omega arith) p)
    | inr r ↦
        let few = jobs_bound c.head.benches 0 c.jobs r.0 (omega arith) in
        omega (arith, hyper_edge_place c.head c.jobs f r.1, few)
  ]
]

fitted_place : (b : Bool) (n : ℕ) (f : Fault) → cond b (Ok n) (Err (Table 0)) ≡ Err f → place_of f ≡ 0
fitted_place true n f e = let z : ◌≡◌ {A = ℕ} 0 1 = cc in absurd (omega arith)
fitted_place false n f e = let g : Table 0 ≡ f = cc in sym (ap place_of g)

pub written_place : (c : Contents) (room : ℕ) (f : Fault) → write_sheet c room ≡ Err f
    → place_of f ≤ max 512 (length c.booked)
unfolding write_sheet
written_place c room f e = elim (verdict_cases (writer_verdict c)) [
  | inl a ↦
      let size : ℕ = length (sheet_bytes c) in
      omega (arith, fitted_place (leb size room) size f (rw (a, write_sheet) at e))
  | inr a ↦ let g : a.0 ≡ f = cc in writer_place c f (a.1 ∙ ap Err g)
]

fitted-length : (b : Bool) (m n : ℕ) → cond b (Ok m) (Err (Table 0)) ≡ Ok n → m ≡ n
fitted-length true m n e = cc
fitted-length false m n e = let z : ◌≡◌ {A = ℕ} 0 1 = cc in absurd (omega arith)

pub written-length : (c : Contents) (room n : ℕ) → write_sheet c room ≡ Ok n
    → (n ≡ 13 + 7 * length (bookings c.booked) + 14 * length c.jobs) × (n ≤ 7629)
unfolding write_sheet
written-length c room n e = elim (verdict_cases (writer_verdict c)) [
  | inl a ↦
      let size : ℕ = length (sheet_bytes c) in
      let same : size ≡ n = fitted-length (leb size room) size n (rw (a, write_sheet) at e) in
      let s = writer_verdict-sound c a in
      let few = few-bookings c.head.benches c.booked (sound-bookings c.head.benches c.booked s.bookings) in
      omega (arith, same, length-sheet_bytes c, s.at_most_512_jobs, s.head.at_most_64_benches)
  | inr a ↦ let z : ◌≡◌ {A = ℕ} 0 1 = cc in absurd (omega arith)
]

-- ── the reader ──

few-after : (g : Progress) (at : ℕ) (f : List ℕ) → length g.contents.jobs ≤ 512 → NoneHolds (faults_at g at f)
    → length (after g (kind_of f) (body_of f)).contents.jobs ≤ 512
unfolding frame_faults after
few-after g at f l n = elim (split (eqb (kind_of f) head_kind)) [
  | inl p ↦ rw p l
  | inr p ↦ elim (split (eqb (kind_of f) job_kind)) [
    | inl q ↦ let t = rw (p, q) at n.1.1.1.1 in rw (p, q, length-append) (omega tests)
    | inr q ↦ elim (split (eqb (kind_of f) booking_kind)) [ inl r ↦ rw (p, q, r) l | inr r ↦ rw (p, q, r) l ]
  ]
]

pub reached_jobs : {s : List ℕ} {at : ℕ} {rest : List ℕ} {g : Progress} → Reached s at rest g
    → length g.contents.jobs ≤ 512
reached_jobs start = omega arith
reached_jobs (past_foreign r w) = reached_jobs r
reached_jobs (past_sound {at} {f} {rest} {g} r w v n) = few-after g at f (reached_jobs r) n

pub read_jobs : (s : List ℕ) (c : Contents) → read_sheet s ≡ accepted c → length c.jobs ≤ 512
read_jobs s c e =
    let x = (read_accepted s c e).1 in
    omega (arith, reached_jobs x.reached, ap (λ (y : Contents). length y.jobs) x.contents_read)

fault_here_place : {s : List ℕ} {at : ℕ} {rest : List ℕ} {g : Progress} {f : Fault} → length s ≤ 65536 → Reached s at rest g
    → FaultHere s at rest g f → place_of f ≤ 65536
fault_here_place l r (ends_inside h c) = omega (arith, reached-length r)
fault_here_place {at} {g} {f} l r (in_frame frame later e w v t) = omega (arith, reached-length r, in_frame_number g at frame f t)
fault_here_place l r (no_end e n) = l
fault_here_place l r (heavy_hyper_edge e c low) = omega (arith, reached_jobs r, low.is_job)

pub read_place : (s : List ℕ) (f : Fault) → read_sheet s ≡ refused f → place_of f ≤ 65536
read_place s f e = elim (lt-or-le 65536 (length s)) [
  | inl l ↦ let t = read_too_long s l in let p : place_of f ≡ 0 = cc in omega arith
  | inr l ↦ let x = read_fault s f l e in fault_here_place l x.reached x.fault_here
]
