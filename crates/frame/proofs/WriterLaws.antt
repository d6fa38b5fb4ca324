-- What it means that the tests 7 to 12 and 14, by which the writer refuses, find no fault.
--     cond-accepted           passed on from bookings BookingLaws
--     and_then-accepted       two verdicts one after the other accept: each of them does
--     head_sound, sound-head  the tests 7 and 8 find no fault in a head: then it is sound, and back
--     bookings_sound, sound-bookings  the test 14 finds no fault in a table of bookings: then they are sound, and back
--     opening_sound, sound_opening    so for 7, 8 and 14 in a head and bookings
--     job_sound, sound-job    the tests 9 to 11 find no fault in a job: then it is sound, and back
--     jobs_verdict-sound, sound-jobs_verdict  they find none in a list of jobs: then each job is sound, and back
--     jobs_verdict-none       the last two as one
--     jobs_bound              where they find none, there are at most 512 jobs
--     writer_verdict-sound, sound-writer_verdict  7 to 12 and 14 find no fault: then the sheet is sound, and back
--     write_accepted, write_refused, output-refused       what the writer returns and gives, by its verdict
--     output-later            behind the sheet every byte of the output is as before
-- A loop over a list of jobs, at job i:
--     jobs_verdict-drop       no fault at job i: the verdict is that on the jobs behind it
--     jobs_verdict-fault      a fault at job i is the verdict
--     jobs_verdict-over       no job is left: accepted
use Prim.Native.Nat.{ℕ, zero, suc, ◌+◌, ◌*◌, ◌^◌, ◌≤◌, ◌<◌}
use native.Mathlib.Nat.{add-zero, zero-add, add-suc, suc-add}
use native.Mathlib.Omega.{arith}
use mathlib.Core.Path.{◌≡◌, refl}
use mathlib.Core.Bool.{Bool, false, not, ◌&&◌, ◌||◌}
use mathlib.Core.List.{List, [], ◌∷◌}
use mathlib.Core.Logic.{◌↔◌, inl, inr}
use lib.ListN.{length, drop}
use lib.Seq.{drop-cons, drop_at}
use lib.Dec.{eqb, ltb, leb}
use borrow.Author.Tests.{le-leb, lt-leb}
use Rattle.bools.proofs.BoolLaws.{split, clash, tests, and_intro, and-false_left, and-false_right, or-false, or-false_left, or-false_right, not-false, not_intro_false}
use Rattle.bools.proofs.OrderLaws.{lt-or-le}
use Rattle.sums.specs.Search.{any}
use Rattle.sums.proofs.SearchLaws.{any_intro, any_elim, any_false, any_none}
use Rattle.fields.specs.declared.sheet.Head.{Head}
use Rattle.fields.specs.declared.sheet.Job.{Job}
use Rattle.fields.specs.Contents.{Contents}
use Rattle.fields.specs.declared.fault.Fault.{Fault}
use Rattle.fields.specs.Tests.{Verdict}
use Rattle.std.specs.Prelude.{Result, Ok, Err}
use Rattle.fields.specs.Format.{allows, bookings, sheet_bytes}
use Rattle.fields.specs.Tests.{booked_faults, first_fault, head_faults, job_faults, no_job, job_at, bench_count_fault, share_fault, job_count_fault, minutes_fault, allowed_fault}
pub use Rattle.bookings.proofs.BookingLaws.{cond-accepted}
use Rattle.bookings.proofs.BookingLaws.{bookings-fit, fit-bookings}
use Rattle.frame.specs.Writing.{and_then, jobs_verdict, opening_verdict, writer_verdict, fitted}
use Rattle.frame.specs.Writing.{write_sheet, output}
use Rattle.frame.specs.Sound.{SoundHead, SoundBookings, SoundJob, SoundSheet}

-- ── verdicts ──

pub and_then-accepted : (v w : Verdict) → and_then v w ≡ Ok tt → (v ≡ Ok tt) × (w ≡ Ok tt)
and_then-accepted (Ok _) w e = (refl, e)
and_then-accepted (Err f) w e = let z : ◌≡◌ {A = ℕ} 0 1 = cc in absurd (omega arith)

none_of_three : (a b c : Bool) → (a || b || c) ≡ false → (a ≡ false) × (b ≡ false) × (c ≡ false)
none_of_three a b c e =
    let l : (a || b) ≡ false = or-false_left (a || b) c e in
    (or-false_left a b l, or-false_right a b l, or-false_right (a || b) c e)

-- ── the head ──

bench_count_fault-none : (h : Head) → bench_count_fault h ≡ false → (0 < h.benches) × (h.benches ≤ 64) × (h.target < 2 ^ 30)
bench_count_fault-none h e = let a = none_of_three (eqb h.benches 0) (ltb 64 h.benches) (leb (2 ^ 30) h.target) e in omega tests

share_fault-none : (h : Head) → share_fault h ≡ false
    → (0 < h.q) × (4 * h.q ≤ 7 * h.p) × (h.p < h.q) × (h.p < 128) × (h.q < 128)
share_fault-none h e =
    let ratio = eqb h.q 0 || ltb (7 * h.p) (4 * h.q) || leb h.q h.p in
    let a = none_of_three ratio (leb (2 ^ 7) h.p) (leb (2 ^ 7) h.q) e in
    let b = none_of_three (eqb h.q 0) (ltb (7 * h.p) (4 * h.q)) (leb h.q h.p) a.0 in
    omega tests

pub head_sound : (h : Head) (at : ℕ) → first_fault (head_faults h at) ≡ Ok tt → SoundHead h
head_sound h at e =
    let a = cond-accepted (bench_count_fault h) _ _ e in
    let b = cond-accepted (share_fault h) _ _ a.1 in
    omega (tests, bench_count_fault-none h a.0, share_fault-none h b.0)

pub sound-head : (h : Head) (at : ℕ) → SoundHead h → first_fault (head_faults h at) ≡ Ok tt
sound-head h at s =
    let no-bench : eqb h.benches 0 ≡ false = omega tests in
    let many-benches : ltb 64 h.benches ≡ false = omega tests in
    let wide-target : leb (2 ^ 30) h.target ≡ false = omega tests in
    let zero-q : eqb h.q 0 ≡ false = omega tests in
    let small-share : ltb (7 * h.p) (4 * h.q) ≡ false = omega tests in
    let large-share : leb h.q h.p ≡ false = omega tests in
    let wide-p : leb (2 ^ 7) h.p ≡ false = omega tests in
    let wide-q : leb (2 ^ 7) h.q ≡ false = omega tests in
    rw (no-bench, many-benches, wide-target, zero-q, small-share, large-share, wide-p, wide-q)

-- ── bookings ──

pub bookings-sound : (m : ℕ) (bs : List ℕ) → first_fault (booked_faults m (bookings bs)) ≡ Ok tt → SoundBookings m bs
bookings-sound m bs e =
    record { booked_fit = λ b. (bookings-fit m bs e b).0; none_past_head = λ b. (bookings-fit m bs e b).1 }

pub sound-bookings : (m : ℕ) (bs : List ℕ) → SoundBookings m bs → first_fault (booked_faults m (bookings bs)) ≡ Ok tt
sound-bookings m bs s = fit-bookings m bs s.booked_fit s.none_past_head

pub opening_sound : (h : Head) (bs : List ℕ) → opening_verdict h bs ≡ Ok tt
    → SoundHead h × SoundBookings h.benches bs
unfolding opening_verdict
opening_sound h bs e =
    let a = and_then-accepted (first_fault (head_faults h 0)) _ e in
    (head_sound h 0 a.0, bookings-sound h.benches bs a.1)

pub sound_opening : (h : Head) (bs : List ℕ) → SoundHead h → SoundBookings h.benches bs
    → opening_verdict h bs ≡ Ok tt
unfolding opening_verdict
sound_opening h bs s b = rw (sound-head h 0 s, sound-bookings h.benches bs b)

-- ── a job ──

pub job_sound : (m n : ℕ) (j : Job) (at : ℕ) → first_fault (job_faults m n j at) ≡ Ok tt → SoundJob m n j
job_sound m n j at e =
    let a = cond-accepted (job_count_fault n) _ _ e in
    let b = cond-accepted (minutes_fault j) _ _ a.1 in
    let c = cond-accepted (allowed_fault m j) _ _ b.1 in
    let wide : leb (2 ^ 20) j.minutes ≡ false = b.0 in
    let some : not (any 64 (allows j)) ≡ false = or-false_left _ (any 64 (λ b. leb m b && allows j b)) c.0 in
    let wrong : any 64 (λ b. leb m b && allows j b) ≡ false = or-false_right (not (any 64 (allows j))) _ c.0 in
    record {
      number_below_512 = omega tests;
      minutes_fit = omega tests;
      allows_some = any_elim 64 (allows j) (not-false (any 64 (allows j)) some);
      allows_below = λ i l p. elim (lt-or-le i m) [
        | inl h ↦ h
        | inr h ↦ clash (and_intro (le-leb m i h) p) (any_none 64 (λ b. leb m b && allows j b) wrong i l)
      ];
    }

pub sound-job : (m n : ℕ) (j : Job) (at : ℕ) → SoundJob m n j → first_fault (job_faults m n j at) ≡ Ok tt
sound-job m n j at s =
    let count : job_count_fault n ≡ false = omega tests in
    let wide : leb (2 ^ 20) j.minutes ≡ false = omega tests in
    let b = s.allows_some in
    let some : not (any 64 (allows j)) ≡ false = not_intro_false (any_intro 64 (allows j) b.0 b.1 b.2) in
    let wrong : any 64 (λ i. leb m i && allows j i) ≡ false = any_false 64 (λ i. leb m i && allows j i) (λ i l. elim (split (allows j i)) [
      | inl p ↦ and-false_left (allows j i) (lt-leb m i (s.allows_below i l p))
      | inr q ↦ and-false_right (leb m i) q
    ]) in
    let allowed : allowed_fault m j ≡ false = or-false some wrong in
    rw (count, wide, allowed)

-- ── a list of jobs ──

pub jobs_verdict-sound : (m n : ℕ) (js : List Job) → jobs_verdict m n js ≡ Ok tt
    → (i : ℕ) → i < length js → SoundJob m (n + i) (job_at js i)
unfolding jobs_verdict
jobs_verdict-sound m n [] e i l = absurd (omega arith)
jobs_verdict-sound m n (j ∷ js) e zero l =
    rw add-zero (job_sound m n j n (and_then-accepted (first_fault (job_faults m n j n)) _ e).0)
jobs_verdict-sound m n (j ∷ js) e (suc i) l =
    rw (add-suc, ← suc-add) (jobs_verdict-sound m (suc n) js (and_then-accepted (first_fault (job_faults m n j n)) _ e).1 i (omega arith))

pub sound-jobs_verdict : (m n : ℕ) (js : List Job) → ((i : ℕ) → i < length js → SoundJob m (n + i) (job_at js i))
    → jobs_verdict m n js ≡ Ok tt
unfolding jobs_verdict
sound-jobs_verdict m n [] s = refl
sound-jobs_verdict m n (j ∷ js) s =
    let first : first_fault (job_faults m n j n) ≡ Ok tt = sound-job m n j n (rw add-zero at (s 0 (omega arith))) in
    let rest : jobs_verdict m (suc n) js ≡ Ok tt =
    sound-jobs_verdict m (suc n) js (λ i l. rw (suc-add, ← add-suc) (s (suc i) (omega arith))) in
    rw (first, rest)

pub jobs_verdict-none : (m n : ℕ) (js : List Job)
    → (jobs_verdict m n js ≡ Ok tt) ↔ ((i : ℕ) → i < length js → SoundJob m (n + i) (job_at js i))
jobs_verdict-none m n js = (jobs_verdict-sound m n js, sound-jobs_verdict m n js)

pub jobs_bound : (m n : ℕ) (js : List Job) → jobs_verdict m n js ≡ Ok tt → n ≤ 512 → n + length js ≤ 512
unfolding jobs_verdict
jobs_bound m n [] e h = omega arith
jobs_bound m n (j ∷ js) e h =
    let a = and_then-accepted (first_fault (job_faults m n j n)) _ e in
    omega (arith, jobs_bound m (suc n) js a.1 (job_sound m n j n a.0).number_below_512)

-- ── the loop over the jobs ──

pub jobs_verdict-drop : (m n i : ℕ) (js : List Job) → i < length js → first_fault (job_faults m (n + i) (job_at js i) (n + i)) ≡ Ok tt
    → jobs_verdict m (n + i) (drop i js) ≡ jobs_verdict m (n + suc i) (drop (suc i) js)
unfolding jobs_verdict
jobs_verdict-drop m n i js l e = rw (drop-cons js i no_job, e, add-suc)

pub jobs_verdict-fault : (m n i : ℕ) (js : List Job) (f : Fault) → i < length js
    → first_fault (job_faults m (n + i) (job_at js i) (n + i)) ≡ Err f → jobs_verdict m (n + i) (drop i js) ≡ Err f
unfolding jobs_verdict
jobs_verdict-fault m n i js f l e = rw (drop-cons js i no_job, e)

pub jobs_verdict-over : (m n i : ℕ) (js : List Job) → length js ≤ i → jobs_verdict m (n + i) (drop i js) ≡ Ok tt
unfolding jobs_verdict
jobs_verdict-over m n zero [] h = refl
jobs_verdict-over m n zero (j ∷ js) h = absurd (omega arith)
jobs_verdict-over m n (suc i) [] h = refl
jobs_verdict-over m n (suc i) (j ∷ js) h = rw (add-suc, ← suc-add) (jobs_verdict-over m (suc n) i js (omega arith))

-- ── the whole sheet ──

pub writer_verdict-sound : (c : Contents) → writer_verdict c ≡ Ok tt → SoundSheet c
unfolding writer_verdict
writer_verdict-sound c e =
    let a = and_then-accepted (opening_verdict c.head c.booked) _ e in
    let b = and_then-accepted (jobs_verdict c.head.benches 0 c.jobs) _ a.1 in
    let opening = opening_sound c.head c.booked a.0 in
    record {
      head = opening.0;
      bookings = opening.1;
      jobs = λ i l. rw zero-add at (jobs_verdict-sound c.head.benches 0 c.jobs b.0 i l);
      at_most_512_jobs = omega (arith, jobs_bound c.head.benches 0 c.jobs b.0 (omega arith));
      no_heavy_hyper_edge = b.1;
    }

pub sound-writer_verdict : (c : Contents) → SoundSheet c → writer_verdict c ≡ Ok tt
unfolding writer_verdict
sound-writer_verdict c s =
    let opening = sound_opening c.head c.booked s.head s.bookings in
    let jobs : jobs_verdict c.head.benches 0 c.jobs ≡ Ok tt =
    sound-jobs_verdict c.head.benches 0 c.jobs (λ i l. rw zero-add (s.jobs i l)) in
    rw (opening, jobs) s.no_heavy_hyper_edge

-- ── what is returned ──

pub write_accepted : (c : Contents) (room : ℕ) → writer_verdict c ≡ Ok tt
    → write_sheet c room ≡ fitted (length (sheet_bytes c)) room
unfolding write_sheet
write_accepted c room e = rw (e, write_sheet)

pub write_refused : (c : Contents) (room : ℕ) (f : Fault) → writer_verdict c ≡ Err f → write_sheet c room ≡ Err f
unfolding write_sheet
write_refused c room f e = rw (e, write_sheet)

pub output-refused : (w : Result ℕ Fault) (f : Fault) (c : Contents) (out : List ℕ) → w ≡ Err f → output w c out ≡ out
unfolding output
output-refused w f c out e = rw e

pub output-later : (n : ℕ) (c : Contents) (out : List ℕ) → length (sheet_bytes c) ≡ n
    → drop n (output (Ok n) c out) ≡ drop n out
unfolding output
output-later n c out e = drop_at (sheet_bytes c) (drop n out) n e
