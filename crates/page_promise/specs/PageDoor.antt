-- The check of a page of sets for C (the header yinqocha.h says the same in words).
--     door_page s page na   the answer to the bytes s and the page, with room for na answer numbers
--     page_word a           what a call returns: the number of the answer, or the word of a fault
--     page_numbers a        the numbers of the answer table: the answer's value; none after a fault
--     PageCalled            what a call returns, and what it leaves in the answer's table
-- The fault without room for the answer is list_promise's `short_fault`.
use Rattle.std.specs.Prelude.{ℕ, ◌≡◌, cond, List, [], ltb}
use Rattle.fields.specs.declared.fault.Fault.TheVariants.{Table}
use Rattle.frame.specs.Reading.{accepted, refused, read_sheet}
use Rattle.day.specs.Day.{day_of}
use Rattle.answers.specs.declared.check.PageAnswer.{PageAnswer}
use Rattle.answers.specs.declared.check.PageAnswer.TheVariants.{Passed, Long, NotPassed, Fault as Faulty}
use Rattle.answers.specs.CheckAnswers.{page_case_of}
use Rattle.page_check.specs.PageCheck.{page_answer}
use Rattle.tables.specs.Tables.{put_numbers}
use Rattle.tables.specs.Words.{fault_word}

-- After the faults of the sheet, fault 13: the answer's table is shorter than its number. Then the page's faults.
unfoldable pub door_page : List ℕ → List ℕ → ℕ → PageAnswer
door_page s page na =
    elim (read_sheet s) [
      | refused f ↦ Faulty f
      | accepted c ↦ cond (ltb na 1) (Faulty (Table 0)) (page_answer (day_of c) page)
    ]

abbrev pub page_word : PageAnswer → ℕ
page_word Passed = (page_case_of Passed).number
page_word (Long l) = (page_case_of (Long l)).number
page_word (NotPassed i) = (page_case_of (NotPassed i)).number
page_word (Faulty f) = fault_word f

abbrev pub page_numbers : PageAnswer → List ℕ
page_numbers Passed = (page_case_of Passed).values
page_numbers (Long l) = (page_case_of (Long l)).values
page_numbers (NotPassed i) = (page_case_of (NotPassed i)).values
page_numbers (Faulty f) = []

pub record PageCalled (a : PageAnswer) (r : ℕ) (numbers numbers' : List ℕ) : Type 0 where
  pub word : r ≡ page_word a
  pub new_numbers : numbers' ≡ put_numbers (page_numbers a) numbers
