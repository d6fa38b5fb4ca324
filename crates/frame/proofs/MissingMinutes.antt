-- No silent zero (request S-3): what the writer makes of a job for which the table of minutes has no entry.
--     written_minutes     in a sheet that is written every job has an entry in the table of minutes
--     unwritten           where that table is shorter than the one of benches allowed, no sheet is written
--     first_unwritten     the first job without minutes is refused by 10, with its number as the place, if 7, 8, 14 and
--                         the tests of the jobs before it find nothing (past the 512th job 9 comes first)
use Prim.Native.Nat.{ℕ, zero, suc, ◌+◌, ◌^◌, ◌<◌, max}
use native.Mathlib.Nat.{zero-add, add-zero, add-suc, suc-add}
use native.Mathlib.Omega.{arith}
use mathlib.Core.Path.{◌≡◌, refl, sym, ap, ◌∙◌}
use mathlib.Core.Logic.{inl, inr}
use mathlib.Core.List.{List, [], ◌∷◌}
use lib.ListN.{length, get_or, take, drop, get_or-eq_default}
use lib.Seq.{take_all}
use borrow.Author.Tests.{le-leb, lt-leb}
use Rattle.bools.proofs.OrderLaws.{lt-or-le}
use Rattle.fields.specs.declared.sheet.Head.{Head}
use Rattle.fields.specs.declared.sheet.Job.{Job}
use Rattle.fields.specs.Contents.{Contents}
use Rattle.fields.specs.declared.fault.Fault.{Fault}
use Rattle.fields.specs.declared.fault.Fault.TheVariants.{Minutes}
use Rattle.std.specs.Prelude.{Ok, Err}
use Rattle.fields.specs.Tests.{no_minutes, first_fault, job_faults, job_at}
use Rattle.frame.specs.Writing.{jobs_of, contents_of, jobs_verdict, opening_verdict, writer_verdict, write_sheet}
use Rattle.frame.proofs.WholeFrames.{verdict_cases}
use Rattle.frame.proofs.WriterLaws.{and_then-accepted, jobs_verdict-fault, writer_verdict-sound, write_refused}
use Rattle.frame.proofs.WriterSteps.{length-job_table, job_at_lem, minutes_at}
use Rattle.frame.proofs.EnoughJobs.{jobs_of-take}

no_length : {f : Fault} {n : ℕ} → Err f ≡ Ok n → ⊥
no_length e = let z : ◌≡◌ {A = ℕ} 0 1 = cc in omega arith

-- Where the first k jobs are sound, the verdict is that on the jobs behind them.
jobs_verdict-past : (m n k : ℕ) (js : List Job) → jobs_verdict m n (take k js) ≡ Ok tt
    → jobs_verdict m n js ≡ jobs_verdict m (n + k) (drop k js)
unfolding jobs_verdict
jobs_verdict-past m n zero js e = rw add-zero
jobs_verdict-past m n (suc k) [] e = refl
jobs_verdict-past m n (suc k) (j ∷ js) e =
    let a = and_then-accepted (first_fault (job_faults m n j n)) _ e in
    rw (a.0, add-suc, ← suc-add) (jobs_verdict-past m (suc n) k js a.1)

module _ (h : Head) (booked ms bs : List ℕ) (room n : ℕ)
    (written : write_sheet (contents_of h booked ms bs) room ≡ Ok n) (j : ℕ) (below : j < length (jobs_of ms bs)) where
  abbrev all : ℕ
  all = max (length ms) (length bs)

  accepted : writer_verdict (contents_of h booked ms bs) ≡ Ok tt
  accepted = elim (verdict_cases (writer_verdict (contents_of h booked ms bs))) [
    | inl a ↦ a
    | inr a ↦ absurd (no_length (sym (write_refused (contents_of h booked ms bs) room a.0 a.1) ∙ written))
  ]

  fits : get_or ms j no_minutes < 2 ^ 20
  fits =
      minutes_at all ms bs j (omega (arith, length-job_table all ms bs))
      ((writer_verdict-sound (contents_of h booked ms bs) accepted).jobs j below).minutes_fit

  pub written_minutes : (j < length ms) × (get_or ms j no_minutes < 2 ^ 20)
  written_minutes = (
    elim (lt-or-le j (length ms)) [
      | inl l ↦ l
      | inr l ↦ absurd (omega (arith, fits, get_or-eq_default ms no_minutes l))
    ],
    fits,
  )

module _ (h : Head) (booked ms bs : List ℕ) (shorter : length ms < length bs) where
  abbrev given : Contents
  given = contents_of h booked ms bs

  abbrev js : List Job
  js = jobs_of ms bs

  there : length ms < length js
  there = omega (arith, length-job_table (max (length ms) (length bs)) ms bs)

  not-given : (job_at js (length ms)).minutes ≡ no_minutes
  not-given =
      ap (λ (j : Job). j.minutes) (job_at_lem (max (length ms) (length bs)) ms bs (length ms) (omega arith))
      ∙ get_or-eq_default ms no_minutes (omega arith)

  pub unwritten : (room : ℕ) → (f : Fault) × (write_sheet given room ≡ Err f)
  unwritten room = elim (verdict_cases (writer_verdict given)) [
    | inl a ↦ absurd (omega (arith, not-given, ((writer_verdict-sound given a).jobs (length ms) there).minutes_fit))
    | inr a ↦ (a.0, write_refused given room a.0 a.1)
  ]

  module _ (opening : opening_verdict h booked ≡ Ok tt)
      (before : jobs_verdict h.benches 0 (jobs_of ms (take (length ms) bs)) ≡ Ok tt)
      (few : length ms < 512) where
    found : first_fault (job_faults h.benches (0 + length ms) (job_at js (length ms)) (0 + length ms))
        ≡ Err (Minutes (length ms))
    found =
        rw (
          zero-add,
          lt-leb 512 (length ms) few,
          le-leb (2 ^ 20) (job_at js (length ms)).minutes (omega (arith, not-given)),
        )

    jobs_before : jobs_verdict h.benches 0 (take (length ms) js) ≡ Ok tt
    jobs_before =
        let all-given : take (length ms) ms ≡ ms = take_all (length ms) ms (omega arith) in
        ap (jobs_verdict h.benches 0)
        (sym (jobs_of-take (length ms) ms bs) ∙ ap (λ (xs : List ℕ). jobs_of xs (take (length ms) bs)) all-given)
        ∙ before

    jobs_refused : jobs_verdict h.benches 0 js ≡ Err (Minutes (length ms))
    jobs_refused =
        jobs_verdict-past h.benches 0 (length ms) js jobs_before
        ∙ jobs_verdict-fault h.benches 0 (length ms) js (Minutes (length ms)) there found

    pub first_unwritten : (room : ℕ) → write_sheet given room ≡ Err (Minutes (length ms))
    unfolding writer_verdict
    first_unwritten room = write_refused given room (Minutes (length ms)) (rw (opening, jobs_refused))
