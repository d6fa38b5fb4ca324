-- Only the first 513 jobs matter to the writer: with more than 512 it refuses, by a fault that it finds at job 512 or before.
--     jobs_of-take        the jobs of the first k entries of two tables are the first k jobs of the tables
--     first_jobs c        the contents c with its first 513 jobs only
--     jobs_verdict-take   the tests 9 to 11 come to the same verdict on the first 513 jobs as on all
--     jobs_needed         all jobs are among the first 513, or the writer refuses both by the same fault
--     verdict_enough, write_enough, output-enough     what it finds, returns and gives for the first 513 jobs and for all
--     jobs_enough, output-jobs_enough                 the same for two tables, of which the first 513 entries are taken
use Prim.Native.Nat.{ℕ, zero, suc, ◌+◌, ◌≤◌, ◌<◌, min, max}
use native.Mathlib.Omega.{arith}
use mathlib.Core.Path.{◌≡◌, refl, sym, ap, ◌∙◌}
use mathlib.Core.Logic.{◌⊎◌, inl, inr}
use mathlib.Core.List.{List, [], ◌∷◌}
use lib.ListN.{length, get_or, take, length-take}
use lib.Seq.{take_all, get_or-take}
use borrow.Author.Tests.{le-leb}
use Rattle.bools.proofs.OrderLaws.{lt-or-le}
use Rattle.sums.specs.Table.{table}
use Rattle.sums.proofs.TableLaws.{table_cong, take-table-min}
use Rattle.fields.specs.declared.sheet.Head.{Head}
use Rattle.fields.specs.declared.sheet.Job.{Job}
use Rattle.fields.specs.Contents.{Contents}
use Rattle.fields.specs.declared.fault.Fault.{Fault}
use Rattle.std.specs.Prelude.{Err}
use Rattle.fields.specs.Tests.{no_minutes, first_fault, job_faults}
use Rattle.frame.specs.Writing.{jobs_of, contents_of, and_then, jobs_verdict, opening_verdict}
use Rattle.frame.specs.Writing.{writer_verdict, write_sheet, output}
use Rattle.frame.proofs.WriterLaws.{jobs_bound, write_refused, output-refused}
use Rattle.frame.proofs.WholeFrames.{verdict_cases}

-- ── the first jobs of two tables ──

pub jobs_of-take : (k : ℕ) (ms bs : List ℕ) → jobs_of (take k ms) (take k bs) ≡ take k (jobs_of ms bs)
jobs_of-take k ms bs =
    let job : ℕ → Job = λ i. record { minutes = get_or ms i no_minutes; allowed = get_or bs i 0 } in
    let first : ℕ → Job = λ i. record { minutes = get_or (take k ms) i no_minutes; allowed = get_or (take k bs) i 0 } in
    let n : ℕ = max (length ms) (length bs) in
    let e : max (length (take k ms)) (length (take k bs)) ≡ min k n = rw (length-take k ms, length-take k bs) (omega arith) in
    ap (λ (i : ℕ). table i first) e
    ∙ table_cong (min k n) first job
    (λ i l. let h : i < k = omega arith in rw (get_or-take k ms i no_minutes h, get_or-take k bs i 0 h))
    ∙ sym (take-table-min k n job)

-- ── the verdict ──

pub jobs_verdict-take : (m n k : ℕ) (js : List Job) → n ≤ 512 → n + k ≡ 513 → jobs_verdict m n (take k js) ≡ jobs_verdict m n js
unfolding jobs_verdict
jobs_verdict-take m n zero js l e = absurd (omega arith)
jobs_verdict-take m n (suc k) [] l e = refl
jobs_verdict-take m n (suc k) (j ∷ js) l e = elim (lt-or-le n 512) [
  | inl h ↦ ap (and_then (first_fault (job_faults m n j n))) (jobs_verdict-take m (suc n) k js h (omega arith))
  | inr h ↦ rw (le-leb 512 n h)
]

abbrev pub first_jobs : Contents → Contents
first_jobs c = record { head = c.head; booked = c.booked; jobs = take 513 c.jobs }

pub jobs_needed : (c : Contents)
    → (first_jobs c ≡ c) ⊎ ((f : Fault) × (writer_verdict (first_jobs c) ≡ Err f) × (writer_verdict c ≡ Err f))
unfolding writer_verdict
jobs_needed c =
    let m : ℕ = c.head.benches in
    let js : List Job = c.jobs in
    let same = jobs_verdict-take m 0 513 js (omega arith) refl in
    elim (verdict_cases (opening_verdict c.head c.booked)) [
      | inr a ↦ inr (a.0, rw a.1, rw a.1)
      | inl a ↦ elim (verdict_cases (jobs_verdict m 0 js)) [
        | inl b ↦ inl
            (ap (λ (us : List Job). record { head = c.head; booked = c.booked; jobs = us })
            (take_all 513 js (omega (arith, jobs_bound m 0 js b (omega arith)))))
        | inr b ↦ inr (b.0, rw (a, same, b.1), rw (a, b.1))
      ]
    ]

pub verdict_enough : (c : Contents) → writer_verdict (first_jobs c) ≡ writer_verdict c
verdict_enough c = elim (jobs_needed c) [ inl e ↦ ap writer_verdict e | inr r ↦ r.1 ∙ sym r.2 ]

-- ── what is returned ──

pub write_enough : (c : Contents) (room : ℕ) → write_sheet (first_jobs c) room ≡ write_sheet c room
write_enough c room = elim (jobs_needed c) [
  | inl e ↦ ap (λ (x : Contents). write_sheet x room) e
  | inr r ↦ write_refused (first_jobs c) room r.0 r.1 ∙ sym (write_refused c room r.0 r.2)
]

pub output-enough : (c : Contents) (room : ℕ) (out : List ℕ)
    → output (write_sheet (first_jobs c) room) (first_jobs c) out ≡ output (write_sheet c room) c out
output-enough c room out = elim (jobs_needed c) [
  | inl e ↦ ap (λ (x : Contents). output (write_sheet x room) x out) e
  | inr r ↦
      output-refused _ r.0 (first_jobs c) out (write_refused (first_jobs c) room r.0 r.1)
      ∙ sym (output-refused _ r.0 c out (write_refused c room r.0 r.2))
]

-- ── two tables ──

module _ (h : Head) (booked ms bs : List ℕ) where
  contents_of-take : contents_of h booked (take 513 ms) (take 513 bs) ≡ first_jobs (contents_of h booked ms bs)
  contents_of-take = ap (λ (js : List Job). record { head = h; booked = booked; jobs = js }) (jobs_of-take 513 ms bs)

  pub jobs_enough : (room : ℕ)
      → write_sheet (contents_of h booked (take 513 ms) (take 513 bs)) room ≡ write_sheet (contents_of h booked ms bs) room
  jobs_enough room =
      ap (λ (c : Contents). write_sheet c room) contents_of-take ∙ write_enough (contents_of h booked ms bs) room

  pub output-jobs_enough : (room : ℕ) (out : List ℕ)
      → output (write_sheet (contents_of h booked (take 513 ms) (take 513 bs)) room)
      (contents_of h booked (take 513 ms) (take 513 bs)) out
      ≡ output (write_sheet (contents_of h booked ms bs) room) (contents_of h booked ms bs) out
  output-jobs_enough room out =
      ap (λ (c : Contents). output (write_sheet c room) c out) contents_of-take
      ∙ output-enough (contents_of h booked ms bs) room out
