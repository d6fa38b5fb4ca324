-- The check of a set of benches for C (the header yinqocha.h says the same in words).
--     door_set s set na     the answer to the bytes s and the set, with room for na answer numbers
--     set_word a            what a call returns: the number of the answer, or the word of a fault
--     set_numbers a         the numbers of the answer table: the answer's value; none after a fault
--     SetCalled             what a call returns, and what it leaves in the answer's table
-- The fault without room for the answer is list_promise's `short_fault`.
use Rattle.std.specs.Prelude.{ℕ, ◌≡◌, cond, List, [], ltb}
use Rattle.fields.specs.declared.fault.Fault.TheVariants.{Table}
use Rattle.frame.specs.Reading.{accepted, refused, read_sheet}
use Rattle.day.specs.Day.{day_of}
use Rattle.answers.specs.declared.check.SetAnswer.{SetAnswer}
use Rattle.answers.specs.declared.check.SetAnswer.TheVariants.{Passed, Long, NotPassed, Fault as Faulty}
use Rattle.answers.specs.CheckAnswers.{set_case_of}
use Rattle.set_check.specs.SetCheck.{set_answer}
use Rattle.tables.specs.Tables.{put_numbers}
use Rattle.tables.specs.Words.{fault_word}

-- After the faults of the sheet, fault 13: the answer's table is shorter than its number. Then number 17.
unfoldable pub door_set : List ℕ → ℕ → ℕ → SetAnswer
door_set s set na =
    elim (read_sheet s) [
      | refused f ↦ Faulty f
      | accepted c ↦ cond (ltb na 1) (Faulty (Table 0)) (set_answer (day_of c) set)
    ]

abbrev pub set_word : SetAnswer → ℕ
set_word Passed = (set_case_of Passed).number
set_word (Long l) = (set_case_of (Long l)).number
set_word NotPassed = (set_case_of NotPassed).number
set_word (Faulty f) = fault_word f

abbrev pub set_numbers : SetAnswer → List ℕ
set_numbers Passed = (set_case_of Passed).values
set_numbers (Long l) = (set_case_of (Long l)).values
set_numbers NotPassed = (set_case_of NotPassed).values
set_numbers (Faulty f) = []

pub record SetCalled (a : SetAnswer) (r : ℕ) (numbers numbers' : List ℕ) : Type 0 where
  pub word : r ≡ set_word a
  pub new_numbers : numbers' ≡ put_numbers (set_numbers a) numbers
