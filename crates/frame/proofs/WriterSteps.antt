-- What each step of the writer does to its output and to its verdict. A law's premises are what the calls before it
-- ensure.
-- Bytes of the output:
--     written, written_after  passed on from packing PutLaws
--     jobs_none, jobs_more    no job makes no bytes; a job's frame behind those of the first i
--     bookings-put            the frames of the bookings in the part of the output that is left for them
--     sheet_put               the head, the bookings, the jobs and the end are the sheet
-- Jobs of two tables:
--     given h booked n ms bs  what the program writes: a head, bookings, and n jobs of two tables
--     length-job_table        there are n of them
--     job_at_lem, minutes_at  job i, and its minutes
-- Verdict:
--     verdict_from m n ms bs i    9 to 11 for the jobs from job i on
--     jobs_sound, jobs_fault, jobs_over   job i is sound, is faulty, or does not exist
--     opening_refused, opening_passed     the head is faulty, or only the bookings are left to judge
--     opening_fault, job_fault, all_checked       head or bookings are faulty, a job is, or only 12 is left to judge
--     hyper_edges_ready       where head and jobs are sound, their numbers fit what 12 computes
-- What is returned:
--     refused, no_room, all-written       the check refuses, the output is too short, or the sheet is written
--     head_ready, bookings-ready, few_jobs, minutes_ready     where the check accepts, all numbers fit their fields
--     few_benches, bookings-few   and there are at most 64 benches, and as many bookings
use Prim.Native.Nat.{ℕ, ◌+◌, ◌-◌, ◌*◌, ◌^◌, ◌≤◌, ◌<◌}
use native.Mathlib.Nat.{zero-add, add-zero}
use native.Mathlib.Numerals.{add-one}
use native.Mathlib.Omega.{arith}
use mathlib.Core.Path.{◌≡◌, sym, ap, ◌∙◌}
use mathlib.Core.List.{List, [], ◌∷◌, ◌++◌, append-nil}
use lib.ListN.{length, get_or, take, drop, length-append, take-append-drop}
use borrow.Author.Tests.{le-leb, lt-leb}
use Rattle.sums.specs.Table.{table}
use Rattle.sums.proofs.TableLaws.{length-table, get_or-table, table-snoc}
use Rattle.fields.specs.declared.sheet.Booking.{Booking}
use Rattle.fields.specs.declared.sheet.Head.{Head}
use Rattle.fields.specs.declared.sheet.Job.{Job}
use Rattle.fields.specs.Contents.{Contents}
use Rattle.fields.specs.declared.fault.Fault.{Fault}
use Rattle.fields.specs.declared.fault.Fault.TheVariants.{Table}
use Rattle.std.specs.Prelude.{Ok, Err}
use Rattle.fields.specs.Format.{head_frame, job_frame, end_frame, bookings, booking_frames, job_frames, sheet_bytes}
use Rattle.fields.specs.Tests.{first_fault, head_faults, booked_faults, job_faults, no_job, no_minutes, job_at, job_table}
use Rattle.fields.specs.Tests.{Verdict, hyper_edge_verdict}
use Rattle.packing.specs.Packing.{frame_put}
use Rattle.bookings.specs.Bookings.{cut_bookings}
use Rattle.bookings.proofs.BookingLaws.{few-bookings, cut_bookings-fit}
use Rattle.frame.specs.Writing.{jobs_verdict, opening_verdict, writer_verdict, fitted, write_sheet}
use Rattle.frame.specs.Sound.{SoundSheet}
pub use Rattle.packing.proofs.PutLaws.{written, written_after}
use Rattle.packing.proofs.PutLaws.{NarrowHead, part_put}
use Rattle.fields.proofs.FormatLaws.{length-head_frame, length-booking_frames, length-job_frames, length-sheet_bytes}
use Rattle.fields.proofs.FormatLaws.{job_frames-append}
use Rattle.frame.proofs.WriterLaws.{sound-bookings, opening_sound, jobs_verdict-sound, writer_verdict-sound}
use Rattle.frame.proofs.WriterLaws.{jobs_verdict-drop, jobs_verdict-fault, jobs_verdict-over, write_accepted}
use Rattle.frame.proofs.WriterLaws.{write_refused}

-- ── the jobs of two tables ──

abbrev pub given : Head → List ℕ → ℕ → List ℕ → List ℕ → Contents
given h booked n ms bs = record { head = h; booked = booked; jobs = job_table n ms bs }

module _ (n : ℕ) (ms bs : List ℕ) where
  pub length-job_table : length (job_table n ms bs) ≡ n
  length-job_table = length-table n (λ k. record { minutes = get_or ms k no_minutes; allowed = get_or bs k 0 })

  pub job_at_lem : (i : ℕ) → i < n
      → job_at (job_table n ms bs) i ≡ record { minutes = get_or ms i no_minutes; allowed = get_or bs i 0 }
  job_at_lem i l = get_or-table n (λ k. record { minutes = get_or ms k no_minutes; allowed = get_or bs k 0 }) i no_job l

  pub minutes_at : (i : ℕ) → i < n → (job_at (job_table n ms bs) i).minutes < 2 ^ 20 → get_or ms i no_minutes < 2 ^ 20
  minutes_at i l h = rw (job_at_lem i l) at h

-- ── the frames of the jobs, and of the sheet ──

pub jobs_none : (start : ℕ) (out : List ℕ) → out ≡ written out start (job_frames []) (start + 0)
unfolding job_frames
jobs_none start out = rw (add-zero start, append-nil (take start out)) (sym (take-append-drop start out))

job_frames-more : (i : ℕ) (job : ℕ → Job) → job_frames (table (i + 1) job) ≡ job_frames (table i job) ++ job_frame (job i)
unfolding job_frames
job_frames-more i job =
    ap (λ (n : ℕ). job_frames (table n job)) (add-one i)
    ∙ ap job_frames (table-snoc i job)
    ∙ job_frames-append (table i job) (job i ∷ [])
    ∙ ap (λ (s : List ℕ). job_frames (table i job) ++ s) (append-nil (job_frame (job i)))

pub jobs_more : (start : ℕ) (out ms bs : List ℕ) (i : ℕ) (j : Job) {one two : List ℕ} → start ≤ length out
    → one ≡ written out start (job_frames (job_table i ms bs)) (start + 14 * i)
    → j.minutes ≡ get_or ms i no_minutes → j.allowed ≡ get_or bs i 0
    → two ≡ written one (start + 14 * i) (job_frame j) (start + 14 * i + 14)
    → two ≡ written out start (job_frames (job_table (i + 1) ms bs)) (start + 14 * (i + 1))
jobs_more start out ms bs i j l first m b second =
    let job : ℕ → Job = λ n. record { minutes = get_or ms n no_minutes; allowed = get_or bs n 0 } in
    let end : start + 14 * i + 14 ≡ start + 14 * (i + 1) = omega arith in
    let size : start + length (job_frames (table i job)) ≡ start + 14 * i =
    omega (arith, length-job_frames (table i job), length-table i job) in
    second
    ∙ rw (first, m, b, end, job_frames-more i job)
    (written_after out start (job_frames (table i job)) (job_frame (job i)) (start + 14 * i) (start + 14 * (i + 1))
    l size (omega arith))

-- The part of the output that is left for the bookings is as long as their frames.
pub bookings-put : (m : ℕ) (booked out : List ℕ) {n : ℕ} → m ≤ 64
    → first_fault (booked_faults m (bookings booked)) ≡ Ok tt
    → n ≡ 7 * length (bookings booked) → 10 + n ≤ length out
    → frame_put (booking_frames (cut_bookings (bookings booked))) 0 (take n (drop 10 out))
    ≡ booking_frames (bookings booked)
bookings-put m booked out {n} few ok e l =
    let frames = booking_frames (bookings booked) in
    let size = length-booking_frames (bookings booked) in
    ap (λ (bs : List Booking). frame_put (booking_frames bs) 0 (take n (drop 10 out)))
    (cut_bookings-fit m (bookings booked) few ok)
    ∙ part_put frames out n 10 (omega arith) (omega arith)

module _ (out : List ℕ) (h : Head) (booked ms bs : List ℕ) (n : ℕ) where
  abbrev js : List Job
  js = job_table n ms bs

  abbrev frames : List ℕ
  frames = booking_frames (bookings booked)

  pub sheet_put : {start : ℕ} {one two three four : List ℕ} → start ≡ 10 + 7 * length (bookings booked)
      → start + 14 * n + 3 ≤ length out
      → one ≡ head_frame h ++ drop 10 out
      → two ≡ written one 10 frames start
      → three ≡ written two start (job_frames js) (start + 14 * n)
      → four ≡ written three (start + 14 * n + 3 - 3) end_frame (start + 14 * n + 3 - 3 + 3)
      → four ≡ sheet_bytes (given h booked n ms bs) ++ drop (start + 14 * n + 3) out
  sheet_put {start} {two = two} {three = three} is-start l first second third fourth =
      let front = head_frame h ++ frames in
      let most = front ++ job_frames js in
      let middle : start + 14 * n + 3 - 3 ≡ start + 14 * n = omega arith in
      let head-end : 0 + length (head_frame h) ≡ 10 = omega (arith, length-head_frame h) in
      let front-end : 0 + length front ≡ start =
      omega (arith, head-end, length-append (head_frame h) frames, length-booking_frames (bookings booked)) in
      let most-end : 0 + length most ≡ start + 14 * n =
      omega (arith, front-end, length-append front (job_frames js), length-job_frames js, length-job_table n ms bs) in
      let both : two ≡ written out 0 front start =
      second ∙ rw first (written_after out 0 (head_frame h) frames 10 start (omega arith) head-end (omega arith)) in
      let all : three ≡ written out 0 most (start + 14 * n) =
      third
      ∙ rw both
      (written_after out 0 front (job_frames js) start (start + 14 * n) (omega arith) front-end (omega arith)) in
      fourth
      ∙ rw (all, middle)
      (written_after out 0 most end_frame (start + 14 * n) (start + 14 * n + 3) (omega arith) most-end (omega arith))

-- ── the verdict on the jobs ──

module _ (m n : ℕ) (ms bs : List ℕ) where
  abbrev pub verdict_from : ℕ → Verdict
  verdict_from i = jobs_verdict m i (drop i (job_table n ms bs))

  -- What the tests find in job i, which the program has read from the tables.
  found : (i : ℕ) (j : Job) {v w : Verdict} → i < n → j.minutes ≡ get_or ms i no_minutes → j.allowed ≡ get_or bs i 0
      → v ≡ first_fault (job_faults m i j i) → v ≡ w
      → first_fault (job_faults m (0 + i) (job_at (job_table n ms bs) i) (0 + i)) ≡ w
  found i j l p q e a = rw (zero-add i, job_at_lem n ms bs i l, ← p, ← q) (sym e ∙ a)

  pub jobs_sound : (i : ℕ) (j : Job) {v : Verdict} → i < n → j.minutes ≡ get_or ms i no_minutes → j.allowed ≡ get_or bs i 0
      → v ≡ first_fault (job_faults m i j i) → v ≡ Ok tt → verdict_from i ≡ verdict_from (i + 1)
  jobs_sound i j l p q e a =
      rw (add-one i)
      (simp zero-add at (jobs_verdict-drop m 0 i (job_table n ms bs) (omega (arith, length-job_table n ms bs)) (found i j l p q e a)))

  pub jobs_fault : (i : ℕ) (j : Job) {v : Verdict} {f : Fault} → i < n → j.minutes ≡ get_or ms i no_minutes
      → j.allowed ≡ get_or bs i 0
      → v ≡ first_fault (job_faults m i j i) → v ≡ Err f → verdict_from i ≡ Err f
  jobs_fault i j {f = f} l p q e a =
      rw zero-add at (jobs_verdict-fault m 0 i (job_table n ms bs) f (omega (arith, length-job_table n ms bs)) (found i j l p q e a))

  pub jobs_over : (i : ℕ) → n ≤ i → verdict_from i ≡ Ok tt
  jobs_over i l = rw zero-add at (jobs_verdict-over m 0 i (job_table n ms bs) (omega (arith, length-job_table n ms bs)))

-- ── the verdict on the contents ──

module _ (h : Head) (booked : List ℕ) {v : Verdict} (head : v ≡ first_fault (head_faults h 0)) where
  pub opening_refused : {f : Fault} → v ≡ Err f → Err f ≡ opening_verdict h booked
  unfolding opening_verdict
  opening_refused a = rw (← head, a)

  pub opening_passed : {w : Verdict} → v ≡ Ok tt → w ≡ first_fault (booked_faults h.benches (bookings booked))
      → w ≡ opening_verdict h booked
  unfolding opening_verdict
  opening_passed a e = rw (← head, a) e

module _ (c : Contents) {v : Verdict} (opening : v ≡ opening_verdict c.head c.booked) where
  pub opening_fault : {f : Fault} → v ≡ Err f → Err f ≡ writer_verdict c
  unfolding writer_verdict
  opening_fault a = rw (← opening, a)

  pub job_fault : {w : Verdict} {f : Fault} → v ≡ Ok tt → w ≡ jobs_verdict c.head.benches 0 c.jobs
      → w ≡ Err f → Err f ≡ writer_verdict c
  unfolding writer_verdict
  job_fault a jobs b = rw (← opening, a, ← jobs, b)

  pub all_checked : {w x : Verdict} → v ≡ Ok tt → w ≡ jobs_verdict c.head.benches 0 c.jobs → w ≡ Ok tt
      → x ≡ hyper_edge_verdict c.head c.jobs → x ≡ writer_verdict c
  unfolding writer_verdict
  all_checked a jobs b last = rw (← opening, a, ← jobs, b) last

pub hyper_edges_ready : (h : Head) (booked : List ℕ) (n : ℕ) (ms bs : List ℕ) {v w : Verdict}
    → v ≡ opening_verdict h booked → v ≡ Ok tt
    → w ≡ jobs_verdict h.benches 0 (job_table n ms bs) → w ≡ Ok tt
    → (h.p < 128) × (h.q < 128) × ((i : ℕ) → i < n → get_or ms i no_minutes < 2 ^ 20)
hyper_edges_ready h booked n ms bs opening a jobs b =
    let s = (opening_sound h booked (sym opening ∙ a)).0 in
    let job = jobs_verdict-sound h.benches 0 (job_table n ms bs) (sym jobs ∙ b) in
    (s.p_fits, s.q_fits, λ i l. minutes_at n ms bs i l (job i (omega (arith, length-job_table n ms bs))).minutes_fit)

-- ── what is returned ──

module _ (h : Head) (booked : List ℕ) (n : ℕ) (ms bs : List ℕ) {v : Verdict}
    (e : v ≡ writer_verdict (given h booked n ms bs)) where
  pub refused : (room : ℕ) {f : Fault} → v ≡ Err f → Err f ≡ write_sheet (given h booked n ms bs) room
  refused room {f} a = sym (write_refused (given h booked n ms bs) room f (sym e ∙ a))

  module _ (a : v ≡ Ok tt) where
    sound : SoundSheet (given h booked n ms bs)
    sound = writer_verdict-sound (given h booked n ms bs) (sym e ∙ a)

    pub head_ready : NarrowHead h
    head_ready = omega (arith, sound.head)

    pub few_benches : h.benches ≤ 64
    few_benches = sound.head.at_most_64_benches

    pub bookings-ready : first_fault (booked_faults h.benches (bookings booked)) ≡ Ok tt
    bookings-ready = sound-bookings h.benches booked sound.bookings

    pub bookings-few : length (bookings booked) ≤ 64
    bookings-few = omega (arith, few_benches, few-bookings h.benches booked bookings-ready)

    pub few_jobs : n ≤ 512
    few_jobs = omega (arith, sound.at_most_512_jobs, length-job_table n ms bs)

    pub minutes_ready : (i : ℕ) → i < n → get_or ms i no_minutes < 2 ^ 20
    minutes_ready i l = minutes_at n ms bs i l (sound.jobs i (omega (arith, length-job_table n ms bs))).minutes_fit

    module _ (start room : ℕ) (is-start : start ≡ 10 + 7 * length (bookings booked)) where
      fits : write_sheet (given h booked n ms bs) room ≡ fitted (start + 14 * n + 3) room
      fits =
          let size : length (sheet_bytes (given h booked n ms bs)) ≡ start + 14 * n + 3 =
          omega (arith, length-sheet_bytes (given h booked n ms bs), length-job_table n ms bs) in
          write_accepted (given h booked n ms bs) room (sym e ∙ a) ∙ ap (λ (k : ℕ). fitted k room) size

      pub no_room : room < start + 14 * n + 3 → Err (Table 0) ≡ write_sheet (given h booked n ms bs) room
      no_room l = rw (fits, lt-leb (start + 14 * n + 3) room l)

      pub all-written : start + 14 * n + 3 ≤ room
          → Ok (start + 14 * n + 3) ≡ write_sheet (given h booked n ms bs) room
      all-written l = rw (fits, le-leb (start + 14 * n + 3) room l)
