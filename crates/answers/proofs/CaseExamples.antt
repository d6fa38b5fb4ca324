-- Number and values of each answer.
--     plan_case, long_case, none_case     three values, in the order in which they are told; 0 where there are fewer
--     fault_case                          a fault has its own number, and its place
--     best_case, best_fault_case          the same of the search for the best target: five values
--     list_passed_case, list_not_passed_case, list_fault_case     the same of the check of a list
--     set_passed_case, set_long_case, set_not_passed_case, set_fault_case     the same of the check of a set
--     page_passed_case, page_long_case, page_not_passed_case, page_faults     the same of the check of a page
--     only_a_plan_is_one, only_long_is_long     what counts as a plan, and as long
use mathlib.Core.Path.{◌≡◌, refl}
use mathlib.Core.Bool.{true, false}
use mathlib.Core.List.{[], ◌∷◌}
use Rattle.fields.specs.declared.fault.Fault.TheVariants.{Truncated, PlaceCount, SetBench, SharedBench}
use Rattle.answers.specs.declared.answer.Answer.TheVariants.{Plan, Long, None, Fault as Faulty}
use Rattle.answers.specs.declared.best.BestAnswer.TheVariants.{Best, Fault as BestFaulty}
use Rattle.answers.specs.declared.check.ListAnswer.TheVariants.{Passed, NotPassed, Fault as ListFaulty}
use Rattle.answers.specs.declared.check.SetAnswer.TheVariants.{Passed as SetPassed, Long as SetLong}
use Rattle.answers.specs.declared.check.SetAnswer.TheVariants.{NotPassed as SetNotPassed, Fault as SetFaulty}
use Rattle.answers.specs.declared.check.PageAnswer.TheVariants.{Passed as PagePassed, Long as PageLong}
use Rattle.answers.specs.declared.check.PageAnswer.TheVariants.{NotPassed as PageNotPassed, Fault as PageFaulty}
use Rattle.answers.specs.Answers.{case_of, is_plan, is_long}
use Rattle.answers.specs.BestAnswers.{best_case_of}
use Rattle.answers.specs.CheckAnswers.{list_case_of, set_case_of, page_case_of}

-- Largest load 7, two moves, bench 1 the fullest.
pub plan_case : case_of (Plan (record { largest = 7; moves = 2; fullest = 1 }))
    ≡ record { number = 1; values = 7 ∷ 2 ∷ 1 ∷ [] }
plan_case = refl

pub long_case : case_of (Long (record { job = 4 })) ≡ record { number = 2; values = 4 ∷ 0 ∷ 0 ∷ [] }
long_case = refl

pub none_case : case_of (None (record { set = 3; moves = 2 })) ≡ record { number = 3; values = 3 ∷ 2 ∷ 0 ∷ [] }
none_case = refl

pub fault_case : case_of (Faulty (Truncated 9)) ≡ record { number = 2; values = 9 ∷ [] }
fault_case = refl

-- Target 5, then the plan of before, after eleven runs.
pub best_case : best_case_of
    (Best (record { target = 5; plan = record { largest = 7; moves = 2; fullest = 1 }; runs = 11 }))
    ≡ record { number = 1; values = 5 ∷ 7 ∷ 2 ∷ 1 ∷ 11 ∷ [] }
best_case = refl

pub best_fault_case : best_case_of (BestFaulty (Truncated 9)) ≡ record { number = 2; values = 9 ∷ [] }
best_fault_case = refl

-- Largest load 7, on bench 1.
pub list_passed_case : list_case_of (Passed (record { largest = 7; fullest = 1 }))
    ≡ record { number = 1; values = 7 ∷ 1 ∷ [] }
list_passed_case = refl

pub list_not_passed_case : list_case_of NotPassed ≡ record { number = 0; values = 0 ∷ 0 ∷ [] }
list_not_passed_case = refl

pub list_fault_case : list_case_of (ListFaulty PlaceCount) ≡ record { number = 16; values = 0 ∷ [] }
list_fault_case = refl

pub set_passed_case : set_case_of SetPassed ≡ record { number = 1; values = 0 ∷ [] }
set_passed_case = refl

pub set_long_case : set_case_of (SetLong (record { job = 4 })) ≡ record { number = 2; values = 4 ∷ [] }
set_long_case = refl

pub set_not_passed_case : set_case_of SetNotPassed ≡ record { number = 0; values = 0 ∷ [] }
set_not_passed_case = refl

pub set_fault_case : set_case_of (SetFaulty (SetBench 9)) ≡ record { number = 17; values = 9 ∷ [] }
set_fault_case = refl

pub page_passed_case : page_case_of PagePassed ≡ record { number = 1; values = 0 ∷ [] }
page_passed_case = refl

pub page_long_case : page_case_of (PageLong (record { job = 4 })) ≡ record { number = 2; values = 4 ∷ [] }
page_long_case = refl

-- Set 6 is the first that is not blocking.
pub page_not_passed_case : page_case_of (PageNotPassed 6) ≡ record { number = 0; values = 6 ∷ [] }
page_not_passed_case = refl

pub page_faults : (page_case_of (PageFaulty (SetBench 3)) ≡ record { number = 17; values = 3 ∷ [] })
    × (page_case_of (PageFaulty (SharedBench 3)) ≡ record { number = 18; values = 3 ∷ [] })
page_faults = (refl, refl)

pub only_a_plan_is_one : (is_plan (Plan (record { largest = 7; moves = 2; fullest = 1 })) ≡ true)
    × (is_plan (Long (record { job = 4 })) ≡ false)
    × (is_plan (None (record { set = 5; moves = 3 })) ≡ false)
    × (is_plan (Faulty (Truncated 9)) ≡ false)
only_a_plan_is_one = (refl, refl, refl, refl)

pub only_long_is_long : (is_long (Plan (record { largest = 7; moves = 2; fullest = 1 })) ≡ false)
    × (is_long (Long (record { job = 4 })) ≡ true)
    × (is_long (None (record { set = 5; moves = 3 })) ≡ false)
    × (is_long (Faulty (Truncated 9)) ≡ false)
only_long_is_long = (refl, refl, refl, refl)
