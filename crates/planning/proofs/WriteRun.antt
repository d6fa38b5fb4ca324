-- The tables of a plan.
--     filled-front         a table whose front is filled
--     plan_written         both tables and the numbers of a plan, from the places and the loads
use Prim.Native.Nat.{ℕ, ◌+◌, ◌-◌, ◌*◌, ◌≤◌, ◌<◌, ◌^◌}
use mathlib.Core.Path.{◌≡◌, sym, ap, ap₂, ◌∙◌}
use mathlib.Core.Bool.{Bool, true, false}
use mathlib.Core.Logic.{inl, inr}
use mathlib.Core.List.{List, ◌++◌}
use native.Mathlib.Omega.{arith}
use native.Mathlib.Nat.{mul-le-mul, le_refl}
use lib.ListN.{length, get_or, drop, length-append, length-drop, get_or-append}
use lib.Dec.{eqb}
use lib.Seq.{ext_get_or, get_or-append-add, get_or-drop}
use Rattle.bools.proofs.OrderLaws.{lt-or-le}
use Rattle.sums.specs.Sum.{on, sum}
use Rattle.sums.specs.Table.{table}
use Rattle.sums.proofs.SumLaws.{sum_cong, sum_bound}
use Rattle.sums.proofs.LargestLaws.{largest_cong, fullest_cong}
use Rattle.sums.proofs.TableLaws.{length-table, get_or-table, table_cong, table-get_or}
use Rattle.day.specs.Day.{Day, place_in, load_of, largest_of, fullest_of}
use Rattle.answers.specs.declared.answer.Answer.TheVariants.{Plan}
use Rattle.algorithm.specs.Answer.{plan_shown}
use Rattle.arrays.specs.Arrays.{filled}
use Rattle.loads.specs.declared.bench_sum.BenchSum.{BenchSum}
use Rattle.loads.specs.BenchSum.{sum_of}
use Rattle.loads.specs.Loads.{minutes_on}
use Rattle.arrays.proofs.FilledLaws.{length-filled, get_or-filled, filled-rest}
use Rattle.planning.specs.Places.{Places, PlanWritten}

-- ── a table whose front is filled ──

pub filled-front : (n : ℕ) (f : ℕ → ℕ) (xs : List ℕ) → n ≤ length xs → filled n f xs ≡ table n f ++ drop n xs
filled-front n f xs room =
    let back : length (table n f ++ drop n xs) ≡ length xs =
    length-append (table n f) (drop n xs) ∙ omega (arith, length-table n f, length-drop n xs) in
    ext_get_or 0 (filled n f xs) (table n f ++ drop n xs) (length-filled f n xs ∙ sym back)
    (λ i h. elim (lt-or-le i n) [
      | inl l ↦
          get_or-filled f n xs i 0 l (omega (arith, length-filled f n xs))
          ∙ sym (get_or-append (table n f) (drop n xs) 0 i (omega (arith, length-table n f)) ∙ get_or-table n f i 0 l)
      | inr l ↦
          let at : i ≡ length (table n f) + (i - n) = omega (arith, length-table n f) in
          let there : n + (i - n) ≡ i = omega arith in
          filled-rest f n xs i 0 l
          ∙ sym (ap (λ (k : ℕ). get_or (table n f ++ drop n xs) k 0) at
          ∙ get_or-append-add (table n f) (drop n xs) (i - n) 0
          ∙ get_or-drop n xs (i - n) 0 ∙ ap (λ (k : ℕ). get_or xs k 0) there)
    ])

-- ── a plan ──

-- What a table shows of the jobs of a day, put on the benches of another table.
module _ (d : Day) (jobs benches : ℕ) (minutes booked place ps : List ℕ)
    (P : Places d jobs benches minutes booked place ps)
    (bench : List ℕ) (copied : (j : ℕ) → j < d.jobs → get_or bench j 0 ≡ get_or place j 0) where
  bench_is : (j : ℕ) → j < d.jobs → get_or bench j 0 ≡ place_in ps j
  bench_is j h = copied j h ∙ P.places_are j h

  same_load : (v : ℕ) → v < d.benches
      → get_or booked v 0 + sum jobs (minutes_on minutes bench v) ≡ load_of d (place_in ps) v
  same_load v l =
      ap₂ (λ (a b : ℕ). a + b) (P.booked_are v l)
      (ap (λ (k : ℕ). sum k (minutes_on minutes bench v)) P.fields.jobs_are
      ∙ sum_cong d.jobs (minutes_on minutes bench v) (λ j. on (eqb (place_in ps j) v) (d.minutes j))
      (λ j h. rw (bench_is j h, P.fields.minutes_are j h)))

  small_load : (v : ℕ) → load_of d (place_in ps) v < 2 ^ 63
  small_load v =
      let B = P.fields.bounded in
      let most : sum d.jobs (λ j. on (eqb (place_in ps j) v) (d.minutes j)) ≤ d.jobs * 1048576 =
      sum_bound d.jobs 1048576 (λ j. on (eqb (place_in ps j) v) (d.minutes j))
      (λ j h. part (eqb (place_in ps j) v) (d.minutes j) (B.minutes_small j h)) in
      omega (arith, most, mul-le-mul B.few_jobs (le_refl 1048576), B.booked_small v)
    where
      part : (b : Bool) (x : ℕ) → x < 2 ^ 20 → on b x ≤ 1048576
      part true x h = omega arith
      part false x h = omega arith

  -- The loads, which begin with the booked minutes, and the tables filled with them.
  pub plan_written : (moves : ℕ) (load places loads : List ℕ) {places' loads' : List ℕ} {s : BenchSum}
      → ((v : ℕ) → v < 64 → get_or booked v 0 + sum jobs (minutes_on minutes bench v) < 2 ^ 63
      → get_or load v 0 ≡ get_or booked v 0 + sum jobs (minutes_on minutes bench v))
      → d.jobs ≤ length places → d.benches ≤ length loads
      → places' ≡ filled jobs (λ i. get_or bench i 0) places → loads' ≡ filled benches (λ i. get_or load i 0) loads
      → s ≡ sum_of benches load
      → PlanWritten (plan_shown d ps moves) (record { largest = s.largest; moves = moves; fullest = s.fullest })
      places loads places' loads'
  plan_written moves load places loads {places'} {loads'} {s} sums rp rl ep el es =
      let load_is : (v : ℕ) → v < d.benches → get_or load v 0 ≡ load_of d (place_in ps) v =
      λ v h.
      sums v (omega (arith, P.fields.bounded.few_benches)) (omega (arith, same_load v h, small_load v))
      ∙ same_load v h in
      let sum_is : s ≡ sum_of d.benches load = es ∙ ap (λ (k : ℕ). sum_of k load) P.benches_are in
      let largest-is : s.largest ≡ largest_of d ps =
      ap (λ (x : BenchSum). x.largest) sum_is
      ∙ largest_cong d.benches (λ v. get_or load v 0) (load_of d (place_in ps)) load_is in
      let fullest-is : s.fullest ≡ fullest_of d ps =
      ap (λ (x : BenchSum). x.fullest) sum_is
      ∙ fullest_cong d.benches (λ v. get_or load v 0) (load_of d (place_in ps)) load_is in
      record {
        numbers = ap₂ (λ (k v : ℕ). Plan (record { largest = k; moves = moves; fullest = v })) largest-is fullest-is;
        new_places =
            ep ∙ ap (λ (k : ℕ). filled k (λ i. get_or bench i 0) places) P.fields.jobs_are
            ∙ filled-front d.jobs (λ i. get_or bench i 0) places rp
            ∙ ap₂ (λ (a : List ℕ) (k : ℕ). a ++ drop k places)
            (table_cong d.jobs (λ i. get_or bench i 0) (λ i. get_or ps i 0) bench_is
            ∙ ap (λ (k : ℕ). table k (λ i. get_or ps i 0)) (sym P.one_to_a_job) ∙ table-get_or ps 0)
            (sym P.one_to_a_job);
        new_loads =
            el ∙ ap (λ (k : ℕ). filled k (λ i. get_or load i 0) loads) P.benches_are
            ∙ filled-front d.benches (λ i. get_or load i 0) loads rl
            ∙ ap₂ (λ (a : List ℕ) (k : ℕ). a ++ drop k loads)
            (table_cong d.benches (λ i. get_or load i 0) (load_of d (place_in ps)) load_is)
            (sym (length-table d.benches (load_of d (place_in ps))));
      }
