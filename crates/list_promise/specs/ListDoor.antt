-- The check of a list of places for C (the header yinqocha.h says the same in words).
--     door_list s list na   the answer to the bytes s and the list, with room for na answer numbers
--     short_fault r         the fault without room for the answer, by what the sheet is read as
--     list_word a           what a call returns: the number of the answer, or the word of a fault
--     list_numbers a        the numbers of the answer table: the answer's two values; none after a fault
--     ListCalled            what a call returns, and what it leaves in the answer's table
use Rattle.std.specs.Prelude.{ℕ, ◌≡◌, cond, List, [], ltb}
use Rattle.fields.specs.declared.fault.Fault.{Fault}
use Rattle.fields.specs.declared.fault.Fault.TheVariants.{Table}
use Rattle.frame.specs.Reading.{Read, accepted, refused, read_sheet}
use Rattle.day.specs.Day.{day_of}
use Rattle.answers.specs.declared.check.ListAnswer.{ListAnswer}
use Rattle.answers.specs.declared.check.ListAnswer.TheVariants.{Passed, NotPassed, Fault as Faulty}
use Rattle.answers.specs.CheckAnswers.{list_case_of}
use Rattle.list_check.specs.ListCheck.{listed_of}
use Rattle.tables.specs.Tables.{put_numbers}
use Rattle.tables.specs.Words.{fault_word}

-- After the faults of the sheet, fault 13: the answer's table is shorter than its two numbers. Then number 16.
unfoldable pub door_list : List ℕ → List ℕ → ℕ → ListAnswer
door_list s list na =
    elim (read_sheet s) [
      | refused f ↦ Faulty f
      | accepted c ↦ cond (ltb na 2) (Faulty (Table 0)) (listed_of (day_of c) list)
    ]

unfoldable pub short_fault : Read → Fault
short_fault (refused f) = f
short_fault (accepted c) = Table 0

abbrev pub list_word : ListAnswer → ℕ
list_word (Passed p) = (list_case_of (Passed p)).number
list_word NotPassed = (list_case_of NotPassed).number
list_word (Faulty f) = fault_word f

abbrev pub list_numbers : ListAnswer → List ℕ
list_numbers (Passed p) = (list_case_of (Passed p)).values
list_numbers NotPassed = (list_case_of NotPassed).values
list_numbers (Faulty f) = []

pub record ListCalled (a : ListAnswer) (r : ℕ) (numbers numbers' : List ℕ) : Type 0 where
  pub word : r ≡ list_word a
  pub new_numbers : numbers' ≡ put_numbers (list_numbers a) numbers
