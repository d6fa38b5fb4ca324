-- Planning and comparing for C (the header yinqocha.h says the same in words).
--     door_answer s np nl na    the reply to the bytes s, with room for np places, nl loads and na answer numbers
--     plan_word a               what planning returns: the answer's number, or the word of a fault
--     answer_numbers a          the numbers of the answer table: the answer's values; none after a fault
--     Called                    what a call returns, and what it leaves in the three tables
--     compared_word c           what comparing returns: 1 same, 0 different, or the fault
use Rattle.std.specs.Prelude.{ℕ, ◌≡◌, cond, ◌||◌, List, [], ltb}
use Rattle.fields.specs.declared.fault.Fault.TheVariants.{Table}
use Rattle.frame.specs.Reading.{accepted, refused, read_sheet}
use Rattle.day.specs.Day.{day_of}
use Rattle.answers.specs.declared.answer.Answer.{Answer}
use Rattle.answers.specs.declared.answer.Answer.TheVariants.{Plan, Long, None, Fault as Faulty}
use Rattle.answers.specs.Answers.{Reply, fault_reply, case_of}
use Rattle.algorithm.specs.Answer.{answer_to, short_tables}
use Rattle.comparison.specs.declared.compared.Compared.{Compared}
use Rattle.comparison.specs.declared.compared.Compared.TheVariants.{Same, Different, Fault as ComparedFault}
use Rattle.tables.specs.Tables.{put_numbers}
use Rattle.tables.specs.Words.{fault_word}

-- Fault 13, after the faults of the sheet: a table is shorter than the jobs, the benches or an answer's three numbers.
unfoldable pub door_answer : List ℕ → ℕ → ℕ → ℕ → Reply
door_answer s np nl na =
    elim (read_sheet s) [
      | refused f ↦ fault_reply f
      | accepted c ↦ cond (short_tables c np nl || ltb na 3) (fault_reply (Table 0)) (answer_to (day_of c))
    ]

abbrev pub plan_word : Answer → ℕ
plan_word (Plan p) = (case_of (Plan p)).number
plan_word (Long l) = (case_of (Long l)).number
plan_word (None n) = (case_of (None n)).number
plan_word (Faulty f) = fault_word f

abbrev pub answer_numbers : Answer → List ℕ
answer_numbers (Plan p) = (case_of (Plan p)).values
answer_numbers (Long l) = (case_of (Long l)).values
answer_numbers (None n) = (case_of (None n)).values
answer_numbers (Faulty f) = []

pub record Called (a : Reply) (r : ℕ) (places loads numbers places' loads' numbers' : List ℕ) : Type 0 where
  pub word : r ≡ plan_word a.answer
  pub new_places : places' ≡ put_numbers a.places places
  pub new_loads : loads' ≡ put_numbers a.loads loads
  pub new_numbers : numbers' ≡ put_numbers (answer_numbers a.answer) numbers

abbrev pub compared_word : Compared → ℕ
compared_word Same = 1
compared_word Different = 0
compared_word (ComparedFault f) = fault_word f
