-- From the contents of an accepted sheet to a day that the theorems ask for.
--     choices-at_most         a job has at most as many benches on the day as bits in its field
--     many_benches_light      where no job is long, a job that allows three or more benches is light
--     accepted_at             the day of sound contents is an accepted day, whatever target it is given
--     accepted_day            so it is with its own
--     start_fits              the target at which the search for the best one starts has 30 bits
--     none_long               no job is longer than the target, where the search for a long job finds none
--     sound_day               an accepted day without a long job is sound
use Prim.Native.Nat.{ℕ, ◌*◌, ◌^◌, ◌≤◌, ◌<◌}
use mathlib.Core.Path.{◌≡◌}
use mathlib.Core.Logic.{inl, inr}
use mathlib.Core.Bool.{false}
use native.Mathlib.Omega.{arith}
use native.Mathlib.Nat.{le_trans, mul-le-mul_left}
use lib.ListN.{length}
use lib.Dec.{leb, ltb}
use borrow.Author.Tests.{ltb-true, ltb-false, lt-ltb, le-leb}
use Rattle.bools.proofs.BoolLaws.{clash, and_intro, and_left, and_right, and-false_elim}
use Rattle.bools.proofs.OrderLaws.{lt-or-le}
use Rattle.sums.specs.Sum.{count}
use Rattle.sums.proofs.SumLaws.{sum_bound}
use Rattle.sums.proofs.CountLaws.{count_mono, count-prefix}
use Rattle.sums.proofs.LargestLaws.{largest-le}
use Rattle.sums.proofs.SearchLaws.{least-before}
use Rattle.fields.specs.Contents.{Contents}
use Rattle.fields.specs.Format.{allows}
use Rattle.fields.specs.Tests.{job_at, longest}
use Rattle.frame.specs.Sound.{SoundSheet}
use Rattle.frame.proofs.FirstFault.{none_hyper_edge}
use Rattle.day.specs.Day.{Day, day_of, choices, too_long, long_job, with_target, start_target}
use Rattle.demand.specs.Demand.{EachFits}
use Rattle.algorithm.specs.SoundDay.{AcceptedDay, SoundDay}

module _ (d : Day) where
  pub none_long : ltb (long_job d) d.jobs ≡ false → EachFits d
  unfolding long_job
  none_long none j l =
      let far : d.jobs ≤ long_job d = ltb-false (long_job d) d.jobs none in
      ltb-false d.target (d.minutes j) (least-before d.jobs (too_long d) j (omega arith))

  pub sound_day : AcceptedDay d → EachFits d → SoundDay d
  sound_day accepted fits = record {
    positive = accepted.positive;
    below_one = accepted.below_one;
    share = accepted.share;
    some_bench = accepted.some_bench;
    allowed_below = accepted.allowed_below;
    fits = fits;
    heavy_two = accepted.heavy_two fits;
  }

module _ (c : Contents) where
  minutes : ℕ → ℕ
  minutes j = (job_at c.jobs j).minutes

  choices-at_most : (n j : ℕ) → c.head.benches ≤ n → choices (day_of c) j ≤ count n (allows (job_at c.jobs j))
  choices-at_most n j few =
      let m : ℕ = c.head.benches in
      le_trans
      (count_mono m ((day_of c).allows j) (allows (job_at c.jobs j)) (λ v l p. and_right (ltb v m) (allows (job_at c.jobs j) v) p))
      (count-prefix m n (allows (job_at c.jobs j)) few)

  module _ (sound : SoundSheet c) where
    -- With W the longest job's minutes, fault 12 leaves q × minutes ≤ p × W, and no job is longer than T.
    many_benches_light : (t : ℕ) → EachFits (with_target (day_of c) t) → (j : ℕ) → j < length c.jobs
        → 3 ≤ count 64 (allows (job_at c.jobs j)) → c.head.q * minutes j ≤ c.head.p * t
    unfolding minutes
    many_benches_light t fits j l many =
        let p : ℕ = c.head.p in
        let q : ℕ = c.head.q in
        elim (and-false_elim (leb 3 (count 64 (allows (job_at c.jobs j)))) (ltb (p * longest c.jobs) (q * minutes j))
        (none_hyper_edge c.head c.jobs sound.no_heavy_hyper_edge j l)) [
          | inl few ↦ clash (le-leb 3 (count 64 (allows (job_at c.jobs j))) many) few
          | inr light ↦ omega (
            arith,
            ltb-false (p * longest c.jobs) (q * minutes j) light,
            mul-le-mul_left p (largest-le (length c.jobs) minutes t fits),
          )
        ]

    pub accepted_at : (t : ℕ) → AcceptedDay (with_target (day_of c) t)
    unfolding minutes
    accepted_at t =
        let m : ℕ = c.head.benches in
        record {
          benches_there = sound.head.some_bench;
          positive = sound.head.q_positive;
          below_one = sound.head.share_below_one;
          share = sound.head.share_large_enough;
          some_bench = λ j l. let (v, low, on) = (sound.jobs j l).allows_some in
              (v, (sound.jobs j l).allows_below v low on, and_intro (lt-ltb v m ((sound.jobs j l).allows_below v low on)) on);
          allowed_below = λ j v p. ltb-true v m (and_left (ltb v m) (allows (job_at c.jobs j) v) p);
          heavy_two = λ fits j l is-heavy. elim (lt-or-le 2 (choices (day_of c) j)) [
            | inl many ↦
                let light : c.head.q * minutes j ≤ c.head.p * t =
                many_benches_light t fits j l (le_trans many (choices-at_most 64 j sound.head.at_most_64_benches))
                in
                absurd (omega (arith, ltb-true (c.head.p * t) (c.head.q * minutes j) is-heavy))
            | inr few ↦ few
          ];
        }

    pub accepted_day : AcceptedDay (day_of c)
    accepted_day = accepted_at c.head.target

    -- 512 jobs and a booking of fewer than 2 ^ 20 minutes each.
    pub start_fits : start_target (day_of c) < 2 ^ 30
    start_fits =
        let total = sum_bound (length c.jobs) 1048576 (day_of c).minutes
        (λ j l. omega (arith, (sound.jobs j l).minutes_fit)) in
        let most = largest-le c.head.benches (day_of c).booked 1048576
        (λ v l. omega (arith, sound.bookings.booked_fit v)) in
        omega (arith, total, most, sound.at_most_512_jobs)
