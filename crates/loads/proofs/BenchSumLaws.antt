-- The largest load and the fullest bench, bench by bench, and the loads of all jobs.
--     fuller-taken, fuller-kept     one law for each way in which a bench is taken in
--     sum_none, sum_more            of no bench, and of one bench more
--     all_summed                    a table that leaves no job: the loads are those of all jobs
use Prim.Native.Nat.{ℕ, suc, ◌+◌, ◌≤◌, ◌<◌}
use mathlib.Core.Path.{◌≡◌, refl, sym, ap, ap₂, ◌∙◌}
use mathlib.Core.Bool.{false}
use mathlib.Core.List.{List, []}
use native.Mathlib.Omega.{arith}
use native.Mathlib.Numerals.{add-one}
use lib.ListN.{get_or, replicate}
use mathlib.Core.Logic.{inl, inr}
use borrow.Author.Tests.{lt-ltb, le-ltb}
use Rattle.bools.proofs.OrderLaws.{lt-or-le}
use Rattle.sums.specs.Sum.{largest, fullest}
use Rattle.sums.proofs.LargestLaws.{fullest-above, fullest-kept}
use Rattle.sums.proofs.TableLaws.{get_or-same}
use Rattle.loads.specs.declared.bench_sum.BenchSum.{BenchSum}
use Rattle.loads.specs.BenchSum.{sum_of, fuller}
use Rattle.loads.specs.Loads.{loads_after, bench_loads}
use Rattle.loads.proofs.LoadLaws.{after_cong}

pub fuller-taken : (s : BenchSum) (v load : ℕ) → s.largest < load
    → record { largest = load; fullest = v } ≡ fuller s v load
fuller-taken s v load h = rw (lt-ltb s.largest load h)

pub fuller-kept : (s : BenchSum) (v load : ℕ) → load ≤ s.largest → s ≡ fuller s v load
fuller-kept s v load h = rw (le-ltb s.largest load h)

pub sum_none : (loads : List ℕ) → record { largest = 0; fullest = 0 } ≡ sum_of 0 loads
unfolding fullest
sum_none loads = refl

fuller-more : (loads : List ℕ) (n : ℕ) → fuller (sum_of n loads) n (get_or loads n 0) ≡ sum_of (suc n) loads
fuller-more loads n =
    let f : ℕ → ℕ = λ v. get_or loads v 0 in
    elim (lt-or-le (largest n f) (f n)) [
      | inl above ↦
          let most : f n ≡ largest (suc n) f = omega arith in
          sym (fuller-taken (sum_of n loads) n (f n) above)
          ∙ ap₂ (λ (a b : ℕ). record { largest = a; fullest = b }) most (sym (fullest-above n f above))
      | inr small ↦
          let most : largest n f ≡ largest (suc n) f = omega arith in
          sym (fuller-kept (sum_of n loads) n (f n) small)
          ∙ ap₂ (λ (a b : ℕ). record { largest = a; fullest = b }) most (sym (fullest-kept n f small))
    ]

pub sum_more : (loads : List ℕ) (n : ℕ) {s next : BenchSum} {load : ℕ} → s ≡ sum_of n loads → load ≡ get_or loads n 0
    → next ≡ fuller s n load → next ≡ sum_of (n + 1) loads
sum_more loads n e at step =
    step ∙ ap₂ (λ (s : BenchSum) (l : ℕ). fuller s n l) e at ∙ fuller-more loads n
    ∙ ap (λ (k : ℕ). sum_of k loads) (sym (add-one n))

-- ── all jobs ──

pub all_summed : (jobs : ℕ) (minutes place own : List ℕ) (k : ℕ) {after : List ℕ}
    → after ≡ loads_after jobs minutes (replicate k false) place own → after ≡ bench_loads jobs minutes place own
all_summed jobs minutes place own k e =
    e ∙ after_cong jobs minutes (replicate k false) [] place own (get_or-same k false)
