-- A list of places and the arrays of a sound sheet, in terms of its day.
--     fits_is             each job is on a bench of its set: the list is an assignment
--     few_jobs, few_benches     the program has room for the jobs and the benches
--     small-sum           what a list puts on a bench is small
--     sum_is              it is the minutes of the jobs that the day puts there
-- And of the length of a list:
--     front_enough        where there are fewer jobs than n, the first n entries show whether there is one to a job
use Prim.Native.Nat.{ℕ, ◌*◌, ◌≤◌, ◌<◌, ◌^◌}
use mathlib.Core.Path.{◌≡◌, ap, ◌∙◌}
use mathlib.Core.Logic.{◌⊎◌, inl, inr, ◌≢◌}
use mathlib.Core.List.{List}
use native.Mathlib.Omega.{arith}
use lib.ListN.{length, get_or, take, length-take}
use lib.Seq.{take_all}
use lib.Dec.{eqb}
use borrow.Author.Tests.{lt-ltb, le-ltb}
use Rattle.bools.proofs.BoolLaws.{split}
use Rattle.bools.proofs.OrderLaws.{lt-or-le}
use Rattle.sums.specs.Sum.{on, sum}
use Rattle.sums.specs.Search.{all}
use Rattle.sums.proofs.SearchLaws.{all_cong}
use Rattle.sums.proofs.SumLaws.{on-le, sum_cong, sum_bound}
use Rattle.bits.specs.Bits.{is_set}
use Rattle.bits.proofs.SetBits.{is_set-past}
use Rattle.fields.specs.Contents.{Contents}
use Rattle.fields.specs.Tests.{job_at}
use Rattle.frame.specs.Tables.{Tables}
use Rattle.day.specs.Day.{Day, day_of, place_in}
use Rattle.demand.specs.Demand.{is_assignment}
use Rattle.loads.specs.Loads.{minutes_on}
use Rattle.lists.specs.Lists.{fits_at, load_in}

module _ (c : Contents) (benches : ℕ) (booked : List ℕ) (jobs : ℕ) (minutes allowed : List ℕ)
    (T : Tables c benches booked jobs minutes allowed) where
  abbrev d : Day
  d = day_of c

  -- No set has a bench beyond the head's.
  has_is : (j v : ℕ) → j < d.jobs → is_set 64 (get_or allowed j 0) v ≡ d.allows j v
  has_is j v l = elim (lt-or-le v d.benches) [
    | inl b ↦ rw (T.allowed_are j l, lt-ltb v d.benches b)
    | inr b ↦ elim (lt-or-le 63 v) [
      | inl far ↦ rw (is_set-past 64 (get_or allowed j 0) v (omega arith), le-ltb v d.benches b)
      | inr near ↦ elim (split (is_set 64 (job_at c.jobs j).allowed v)) [
        | inl p ↦ absurd (omega (arith, (T.sound.jobs j l).allows_below v (omega arith) p))
        | inr p ↦ rw (T.allowed_are j l, p, le-ltb v d.benches b)
      ]
    ]
  ]

  pub fits_is : (list : List ℕ) → all jobs (fits_at allowed list) ≡ is_assignment d (place_in list)
  fits_is list =
      ap (λ (n : ℕ). all n (fits_at allowed list)) T.jobs_are
      ∙ all_cong d.jobs (fits_at allowed list) (λ j. d.allows j (place_in list j))
      (λ j l. has_is j (place_in list j) l)

  pub few_jobs : jobs ≤ 512
  few_jobs = omega (arith, T.jobs_are, T.sound.at_most_512_jobs)

  pub few_benches : benches ≤ 64
  few_benches = omega (arith, T.benches_are, T.sound.head.at_most_64_benches)

  pub small-sum : (list : List ℕ) (v : ℕ) → load_in jobs minutes list v ≤ 2 ^ 29
  small-sum list v =
      let each : load_in jobs minutes list v ≤ jobs * 1048576 =
      sum_bound jobs 1048576 (minutes_on minutes list v)
      (λ j l.
      let in_list : j < d.jobs = omega (arith, T.jobs_are) in
      omega (
        arith,
        on-le (eqb (get_or list j 0) v) (get_or minutes j 0),
        T.minutes_are j in_list,
        (T.sound.jobs j in_list).minutes_fit,
      )) in
      let few = few_jobs in
      omega arith

  pub sum_is : (list : List ℕ) (v : ℕ)
      → load_in jobs minutes list v ≡ sum d.jobs (λ j. on (eqb (place_in list j) v) (d.minutes j))
  sum_is list v =
      ap (λ (n : ℕ). sum n (minutes_on minutes list v)) T.jobs_are
      ∙ sum_cong d.jobs (minutes_on minutes list v) (λ j. on (eqb (place_in list j) v) (d.minutes j))
      (λ j l. ap (on (eqb (place_in list j) v)) (T.minutes_are j l))

-- ── the length of a list ──

pub front_enough : (n jobs : ℕ) → jobs < n → (list : List ℕ)
    → (take n list ≡ list) ⊎ ((length (take n list) ≢ jobs) × (length list ≢ jobs))
front_enough n jobs few list = elim (lt-or-le n (length list)) [
  | inl long ↦ inr (λ e. omega (arith, length-take n list), λ e. omega arith)
  | inr short ↦ inl (take_all n list short)
]
