-- Small sheets on which the words of the demand are computed: each word just where it holds, and just where it does not.
--     fits_at_target, not_fits_above      a job above T
--     assigned, not_assigned              each job on one of its benches
--     kept_at_target, not_kept_above      every bench within T
--     over_above, not_over_at_target      some bench above T
--     booked_not_kept, booked_over        the rival is bound by bookings: a minute booked puts a bench above T
--     light_outside, rival_of_three       a light job does not weigh inside a set that lacks one of its benches
--     heavy-elsewhere                     a heavy job does not weigh inside a set that it is placed outside of
--     weight_at_target, weight_above      k × T does not block, one minute more does
--     booked_weight                       so does a minute that is booked on a bench of the set
--     placed_where_booked                 a heavy job is placed on a bench that is booked for as long
--     unplaceable_blocks                  two heavy jobs of one bench: no placement, so every bench blocks
--     empty_blocks_not                    but the empty set does not
use Prim.Native.Nat.{ℕ, ◌-◌, zero, suc, ◌/◌, ◌≤◌, ◌<◌}
use mathlib.Core.Path.{◌≡◌, refl, sym, ◌∙◌}
use mathlib.Core.Bool.{true, false}
use mathlib.Core.List.{List, [], ◌∷◌}
use native.Mathlib.Omega.{arith}
use lib.Dec.{eqb}
use borrow.Author.Tests.{ltb-true}
use Rattle.bools.proofs.BoolLaws.{clash, and_left}
use Rattle.bits.specs.Bits.{is_set}
use Rattle.fields.specs.declared.sheet.Job.{Job}
use Rattle.day.specs.Day.{heavy, load_of}
use Rattle.day.specs.SmallSheets.{day_with, booked_day, bay, first, second, both}
use Rattle.demand.specs.Demand.{is_assignment, Assignment, keeps_target, SomeOver}
use Rattle.demand.specs.Demand.{placeable, Placement, weight_inside, Blocking, EachFits}

-- ── jobs ──

-- "With every job at most T"
pub fits_at_target : EachFits (day_with (bay 1 4 7 5) (first 5 ∷ []))
fits_at_target zero l = omega arith
fits_at_target (suc j) l = absurd (omega arith)

pub not_fits_above : EachFits (day_with (bay 1 4 7 5) (first 6 ∷ [])) → ⊥
not_fits_above fits = omega (arith, fits 0 (omega arith))

-- ── assignments ──

-- Three jobs of 5 on both of two benches.
abbrev three_jobs : List Job
three_jobs = both 5 ∷ both 5 ∷ both 5 ∷ []

-- Jobs 0 and 1 on bench 1, job 2 on bench 0.
abbrev split : ℕ → ℕ
split j = 1 - j / 2

pub assigned : is_assignment (day_with (bay 2 4 7 10) three_jobs) split ≡ true
unfolding is_set
assigned = refl

-- Job 1 does not allow bench 0.
pub not_assigned : Assignment (day_with (bay 2 4 7 10) (both 5 ∷ second 5 ∷ [])) (λ j. 0) → ⊥
unfolding is_set
not_assigned a = clash (a.on_allowed 1 (omega arith)) refl

-- Loads 5 and 10.
pub kept_at_target : keeps_target (day_with (bay 2 4 7 10) three_jobs) split ≡ true
kept_at_target = refl

pub not_kept_above : keeps_target (day_with (bay 2 4 7 9) three_jobs) split ≡ false
not_kept_above = refl

pub over_above : SomeOver (day_with (bay 2 4 7 9) three_jobs) split
over_above = (1, omega arith, omega arith)

pub not_over_at_target : SomeOver (day_with (bay 2 4 7 10) three_jobs) split → ⊥
not_over_at_target (v, l, over) = omega (arith, at_most v l, over)
  where
    at_most : (v : ℕ) → v < 2 → load_of (day_with (bay 2 4 7 10) three_jobs) split v ≤ 10
    at_most zero l = omega arith
    at_most (suc zero) l = omega arith
    at_most (suc (suc v)) l = absurd (omega arith)

-- With a minute booked on bench 1 the loads are 5 and 11.
pub booked_not_kept : keeps_target (booked_day (bay 2 4 7 10) (0 ∷ 1 ∷ []) three_jobs) split ≡ false
booked_not_kept = refl

pub booked_over : SomeOver (booked_day (bay 2 4 7 10) (0 ∷ 1 ∷ []) three_jobs) split
booked_over = (1, omega arith, omega arith)

-- ── placements and blocking sets ──

-- With T = 10 the three jobs are light: 35 is not above 40. Counted as inside {0} or {1}, they would weigh 15 > 10 there.
pub light_outside : (weight_inside (day_with (bay 2 4 7 10) three_jobs) (λ j. 0) (λ v. eqb v 0) ≡ 0) × (weight_inside (day_with (bay 2 4 7 10) three_jobs) (λ j. 0) (λ v. eqb v 1) ≡ 0)
unfolding is_set
light_outside = (refl, refl)

-- On that sheet the rival keeps every bench within the target, so the set must not block.
pub rival_of_three : (is_assignment (day_with (bay 2 4 7 10) three_jobs) split ≡ true) × (keeps_target (day_with (bay 2 4 7 10) three_jobs) split ≡ true)
rival_of_three = (assigned, kept_at_target)

-- A heavy job of 5 on both of two benches and a light one of 1 on bench 0, T = 5: with the heavy one on bench 1, {0} carries 1.
abbrev one_heavy : List Job
one_heavy = both 5 ∷ first 1 ∷ []

pub heavy-elsewhere : Blocking (day_with (bay 2 4 7 5) one_heavy) (λ v. eqb v 0) → ⊥
unfolding is_set
heavy-elsewhere blocks = omega (arith, blocks.heavier (λ j. 1 - j) placed)
  where
    placed : Placement (day_with (bay 2 4 7 5) one_heavy) (λ j. 1 - j)
    placed = record { on_allowed = on-bench-1; one_to_a_bench = λ e f le lf he hf same. omega arith }
      where
        on-bench-1 : (j : ℕ) → j < 2 → heavy (day_with (bay 2 4 7 5) one_heavy) j ≡ true → placeable (day_with (bay 2 4 7 5) one_heavy) j (1 - j) ≡ true
        on-bench-1 zero l heavy = refl
        on-bench-1 (suc zero) l heavy = refl
        on-bench-1 (suc (suc j)) l heavy = absurd (omega arith)

-- Two benches, T = 5: a heavy job of 4 on each, and light ones of 2 and n on bench 0.
abbrev full_bay : ℕ → List Job
full_bay n = first 4 ∷ second 4 ∷ first 2 ∷ first n ∷ []

-- 4 + 4 + 2 is 2 × 5.
pub weight_at_target : Blocking (day_with (bay 2 4 7 5) (full_bay 0)) (λ v. true) → ⊥
unfolding is_set
weight_at_target blocks = omega (arith, blocks.heavier (λ j. j) placed)
  where
    placed : Placement (day_with (bay 2 4 7 5) (full_bay 0)) (λ j. j)
    placed = record { on_allowed = own-bench; one_to_a_bench = λ e f le lf he hf same. omega arith }
      where
        own-bench : (j : ℕ) → j < 4 → heavy (day_with (bay 2 4 7 5) (full_bay 0)) j ≡ true → placeable (day_with (bay 2 4 7 5) (full_bay 0)) j j ≡ true
        own-bench zero l heavy = refl
        own-bench (suc zero) l heavy = refl
        own-bench (suc (suc zero)) l heavy = clash heavy refl
        own-bench (suc (suc (suc zero))) l heavy = clash heavy refl
        own-bench (suc (suc (suc (suc j)))) l heavy = absurd (omega arith)

pub weight_above : Blocking (day_with (bay 2 4 7 5) (full_bay 1)) (λ v. true)
unfolding is_set
weight_above = record { some_bench = omega arith; heavier = λ place placed. omega arith }

-- With a minute booked on bench 1 in place of the last job's.
pub booked_weight : Blocking (booked_day (bay 2 4 7 5) (0 ∷ 1 ∷ []) (full_bay 0)) (λ v. true)
unfolding is_set
booked_weight = record { some_bench = omega arith; heavier = λ place placed. omega arith }

-- Booked minutes "are never a heavy job": with 4 minutes booked on each bench the heavy jobs of 4 are placed as before.
abbrev heavy_pair : List Job
heavy_pair = first 4 ∷ second 4 ∷ []

pub placed_where_booked : Placement (booked_day (bay 2 4 7 5) (4 ∷ 4 ∷ []) heavy_pair) (λ j. j)
unfolding is_set
placed_where_booked = record { on_allowed = own-bench; one_to_a_bench = λ e f le lf he hf same. omega arith }
  where
    own-bench : (j : ℕ) → j < 2 → heavy (booked_day (bay 2 4 7 5) (4 ∷ 4 ∷ []) heavy_pair) j ≡ true
        → placeable (booked_day (bay 2 4 7 5) (4 ∷ 4 ∷ []) heavy_pair) j j ≡ true
    own-bench zero l heavy = refl
    own-bench (suc zero) l heavy = refl
    own-bench (suc (suc j)) l heavy = absurd (omega arith)

-- Two heavy jobs of 4 on bench 0: "Where no placement exists every non-empty set is blocking", bench 1 too.
abbrev two_on_one : List Job
two_on_one = first 4 ∷ first 4 ∷ []

pub unplaceable_blocks : Blocking (day_with (bay 2 4 7 5) two_on_one) (λ v. eqb v 1)
unfolding is_set
unplaceable_blocks = record { some_bench = omega arith; heavier = λ place placed. absurd (none place placed) }
  where
    on-bench-0 : (j v : ℕ) → j < 2 → (day_with (bay 2 4 7 5) two_on_one).allows j v ≡ true → v ≡ 0
    on-bench-0 j zero l on = refl
    on-bench-0 zero (suc zero) l on = clash on refl
    on-bench-0 (suc zero) (suc zero) l on = clash on refl
    on-bench-0 (suc (suc j)) (suc zero) l on = absurd (omega arith)
    on-bench-0 j (suc (suc v)) l on = absurd (omega (arith, ltb-true (suc (suc v)) 2 (and_left _ _ on)))

    none : (place : ℕ → ℕ) → Placement (day_with (bay 2 4 7 5) two_on_one) place → ⊥
    none place placed =
        let at : (j : ℕ) → j < 2 → heavy (day_with (bay 2 4 7 5) two_on_one) j ≡ true → place j ≡ 0 = λ j l heavy. on-bench-0 j (place j) l (placed.on_allowed j l heavy) in
        omega (arith, placed.one_to_a_bench 0 1 (omega arith) (omega arith) refl refl (at 0 (omega arith) refl ∙ sym (at 1 (omega arith) refl)))

pub empty_blocks_not : Blocking (day_with (bay 2 4 7 5) two_on_one) (λ v. false) → ⊥
empty_blocks_not blocks = omega (arith, blocks.some_bench)
