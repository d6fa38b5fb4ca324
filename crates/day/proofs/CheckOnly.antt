-- Jobs of 0 minutes (request S-3), of any day: whatever its share, its target and its bookings.
--     no_minutes              such a job has 0 minutes
--     not-heavy, check_only_light     it is light, also where the target is 0
--     check_only_short        it is never long
--     check_only_counted      with two benches or more it is one of the light jobs that have a choice
--     above-zero-long         where the target is 0, every other job is long
--     no_load                 a day of such jobs alone, with no booking above 0, has no load, however they are placed
use Prim.Native.Nat.{ℕ, ◌*◌, ◌<◌}
use native.Mathlib.Nat.{mul-zero}
use native.Mathlib.Omega.{arith}
use mathlib.Core.Path.{◌≡◌, ap, ◌∙◌}
use mathlib.Core.Bool.{true, false}
use lib.Dec.{eqb, leb}
use borrow.Author.Tests.{eqb-true, eqb-false, lt-ltb, le-ltb}
use Rattle.bools.proofs.BoolLaws.{and_intro, not_intro_true}
use Rattle.sums.specs.Sum.{on}
use Rattle.sums.proofs.SumLaws.{on-le, sum-zero}
use Rattle.day.specs.Day.{Day, choices, heavy, light, pebble, check_only, ChecksOnly, load_of, too_long}

module _ (d : Day) (j : ℕ) where
  module _ (check : check_only d j ≡ true) where
    pub no_minutes : d.minutes j ≡ 0
    no_minutes = eqb-true (d.minutes j) 0 check

    -- q × 0 is above no p × T.
    pub not-heavy : heavy d j ≡ false
    not-heavy =
        le-ltb (d.p * d.target) (d.q * d.minutes j)
        (omega (arith, ap (λ (m : ℕ). d.q * m) no_minutes ∙ mul-zero d.q))

    pub check_only_light : light d j ≡ true
    check_only_light = not_intro_true not-heavy

    pub check_only_short : too_long d j ≡ false
    check_only_short = le-ltb d.target (d.minutes j) (omega (arith, no_minutes))

    pub check_only_counted : leb 2 (choices d j) ≡ true → pebble d j ≡ true
    check_only_counted many = and_intro check_only_light many

  pub above-zero-long : d.target ≡ 0 → check_only d j ≡ false → too_long d j ≡ true
  above-zero-long e other =
      let some : d.minutes j ≡ 0 → ⊥ = eqb-false (d.minutes j) 0 other in
      lt-ltb d.target (d.minutes j) (omega arith)

pub no_load : (d : Day) → ChecksOnly d → (a : ℕ → ℕ) (v : ℕ) → v < d.benches → load_of d a v ≡ 0
no_load d checks a v l =
    let none = sum-zero d.jobs (λ j. on (eqb (a j) v) (d.minutes j))
    (λ j below. omega (arith, on-le (eqb (a j) v) (d.minutes j), no_minutes d j (checks.each_job j below))) in
    omega (arith, none, checks.none_booked v l)
