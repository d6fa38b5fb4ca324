-- What the checks answer (requests S-6 and S-7).
--     list_case_of    the number of an answer to a list, and its values
--     set_case_of     the same of an answer to a set
--     page_case_of    the same of an answer to a page of sets
use Rattle.std.specs.Prelude.{[], ◌∷◌}
use Rattle.fields.specs.Numbers.{number_of, place_of}
use Rattle.answers.specs.declared.check.ListAnswer.{ListAnswer}
use Rattle.answers.specs.declared.check.ListAnswer.TheVariants.{Passed, NotPassed, Fault as Faulty}
use Rattle.answers.specs.declared.check.SetAnswer.{SetAnswer}
use Rattle.answers.specs.declared.check.SetAnswer.TheVariants.{Passed as SetPassed, Long as SetLong}
use Rattle.answers.specs.declared.check.SetAnswer.TheVariants.{NotPassed as SetNotPassed, Fault as SetFaulty}
use Rattle.answers.specs.declared.check.PageAnswer.{PageAnswer}
use Rattle.answers.specs.declared.check.PageAnswer.TheVariants.{Passed as PagePassed, Long as PageLong}
use Rattle.answers.specs.declared.check.PageAnswer.TheVariants.{NotPassed as PageNotPassed, Fault as PageFaulty}
use Rattle.answers.specs.Answers.{Case}

-- 1 passed, with "a passed list's largest load" and its fullest bench, 0 not passed; a fault has its own number and its
-- place.
abbrev pub list_case_of : ListAnswer → Case
list_case_of (Passed p) = record { number = 1; values = p.largest ∷ p.fullest ∷ [] }
list_case_of NotPassed = record { number = 0; values = 0 ∷ 0 ∷ [] }
list_case_of (Faulty f) = record { number = number_of f; values = place_of f ∷ [] }

-- 1 passed, 0 not passed; 2 long "with the lowest such job", as of a plan.
abbrev pub set_case_of : SetAnswer → Case
set_case_of SetPassed = record { number = 1; values = 0 ∷ [] }
set_case_of (SetLong l) = record { number = 2; values = l.job ∷ [] }
set_case_of SetNotPassed = record { number = 0; values = 0 ∷ [] }
set_case_of (SetFaulty f) = record { number = number_of f; values = place_of f ∷ [] }

-- As of a set; not passed "the first set that is not blocking is named".
abbrev pub page_case_of : PageAnswer → Case
page_case_of PagePassed = record { number = 1; values = 0 ∷ [] }
page_case_of (PageLong l) = record { number = 2; values = l.job ∷ [] }
page_case_of (PageNotPassed set) = record { number = 0; values = set ∷ [] }
page_case_of (PageFaulty f) = record { number = number_of f; values = place_of f ∷ [] }
