-- Plans that have equal loads and are not the same (request S-8), on the sheets of ComparisonExamples.
--     swapped_loads         two equal jobs, each on a bench of its own, either way
--     check_moved_loads     a job of 0 minutes on another bench,
--     check_moved           and it alone
--     other_loads           loads that are not equal: one job of 5, on bench 1 or 2 of three; the largest is the same,
--                           and so is that of bench 0
--     not_conversely        so plans that are the same have equal loads (PlanLoads), but not conversely
use Prim.Native.Nat.{ℕ, zero, suc}
use native.Mathlib.Omega.{arith}
use mathlib.Core.Path.{◌≡◌, refl, sym, ◌∙◌}
use mathlib.Core.List.{List, [], ◌∷◌}
use Rattle.bits.specs.Bits.{is_set}
use Rattle.fields.specs.Contents.{Contents}
use Rattle.frame.specs.Reading.{accepted, read_sheet}
use Rattle.day.specs.Day.{day_of}
use Rattle.day.specs.SmallSheets.{day_with, bay, three}
use Rattle.comparison.specs.declared.compared.Compared.TheVariants.{Same, Different}
use Rattle.comparison.specs.Comparison.{compare_plans, Gives, EqualLoads, OnlyChecksMoved, EqualLoadsAlone}
use Rattle.comparison.proofs.ComparisonLaws.{true-gives}
use Rattle.comparison.proofs.PlanLoads.{loads_computed}
use Rattle.comparison.proofs.ComparisonExamples.{two_jobs, bytes, read, swapped_different}
use Rattle.comparison.proofs.ComparisonExamples.{job_and_check, check_bytes, read_check, check_moved_different}

pub swapped_loads : EqualLoadsAlone bytes two_jobs (0 ∷ 1 ∷ []) (1 ∷ 0 ∷ [])
unfolding is_set
swapped_loads =
    record {
      read = read;
      first_gives = true-gives (day_of two_jobs) (0 ∷ 1 ∷ []) refl;
      second_gives = true-gives (day_of two_jobs) (1 ∷ 0 ∷ []) refl;
      equal_loads = loads_computed (day_of two_jobs) (0 ∷ 1 ∷ []) (1 ∷ 0 ∷ []) refl;
      different = swapped_different;
    }

pub check_moved_loads : EqualLoadsAlone check_bytes job_and_check (0 ∷ 0 ∷ []) (0 ∷ 1 ∷ [])
unfolding is_set
check_moved_loads =
    record {
      read = read_check;
      first_gives = true-gives (day_of job_and_check) (0 ∷ 0 ∷ []) refl;
      second_gives = true-gives (day_of job_and_check) (0 ∷ 1 ∷ []) refl;
      equal_loads = loads_computed (day_of job_and_check) (0 ∷ 0 ∷ []) (0 ∷ 1 ∷ []) refl;
      different = check_moved_different;
    }

pub check_moved : OnlyChecksMoved (day_of job_and_check) (0 ∷ 0 ∷ []) (0 ∷ 1 ∷ [])
check_moved zero l above = refl
check_moved (suc zero) l above = cc
check_moved (suc (suc j)) l above = absurd (omega arith)

pub other_loads : EqualLoads (day_with (bay 3 4 7 9) (three 5 ∷ [])) (1 ∷ []) (2 ∷ []) → ⊥
other_loads same = let five : ◌≡◌ {A = ℕ} 5 0 = same 1 (omega arith) in omega (arith, five)

-- "Such plans have equal loads, but not conversely."
pub not_conversely : ((s : List ℕ) (c : Contents) → read_sheet s ≡ accepted c
    → (first second : List ℕ) → Gives (day_of c) first → Gives (day_of c) second
    → EqualLoads (day_of c) first second → compare_plans s first second ≡ Same) → ⊥
not_conversely conversely =
    let x = swapped_loads in
    let same : Same ≡ Different =
    sym (conversely bytes two_jobs x.read (0 ∷ 1 ∷ []) (1 ∷ 0 ∷ []) x.first_gives x.second_gives
    x.equal_loads) ∙ x.different in
    let z : ◌≡◌ {A = ℕ} 0 1 = cc in
    omega arith
