-- The best target for C (the header yinqocha.h says the same in words).
--     door_best s np nl na    the reply to the bytes s, with room for np places, nl loads and na answer numbers
--     best_word a             what a call returns: the number of the answer, or the word of a fault
--     best_numbers a          the numbers of the answer table: the answer's five values; none after a fault
--     BestCalled              what a call returns, and what it leaves in the three tables
use Rattle.std.specs.Prelude.{ℕ, ◌≡◌, cond, ◌||◌, List, [], ltb}
use Rattle.fields.specs.declared.fault.Fault.TheVariants.{Table}
use Rattle.frame.specs.Reading.{accepted, refused, read_sheet}
use Rattle.day.specs.Day.{day_of}
use Rattle.answers.specs.declared.best.BestAnswer.{BestAnswer}
use Rattle.answers.specs.declared.best.BestAnswer.TheVariants.{Best, Fault as Faulty}
use Rattle.answers.specs.BestAnswers.{BestReply, best_fault, best_case_of}
use Rattle.algorithm.specs.Answer.{short_tables}
use Rattle.algorithm.specs.Best.{best_to}
use Rattle.tables.specs.Tables.{put_numbers}
use Rattle.tables.specs.Words.{fault_word}

-- Fault 13, after the faults of the sheet: a table is shorter than the jobs, the benches or the answer's five numbers.
unfoldable pub door_best : List ℕ → ℕ → ℕ → ℕ → BestReply
door_best s np nl na =
    elim (read_sheet s) [
      | refused f ↦ best_fault f
      | accepted c ↦ cond (short_tables c np nl || ltb na 5) (best_fault (Table 0)) (best_to (day_of c))
    ]

abbrev pub best_word : BestAnswer → ℕ
best_word (Best b) = (best_case_of (Best b)).number
best_word (Faulty f) = fault_word f

abbrev pub best_numbers : BestAnswer → List ℕ
best_numbers (Best b) = (best_case_of (Best b)).values
best_numbers (Faulty f) = []

pub record BestCalled (a : BestReply) (r : ℕ) (places loads numbers places' loads' numbers' : List ℕ) : Type 0 where
  pub word : r ≡ best_word a.answer
  pub new_places : places' ≡ put_numbers a.places places
  pub new_loads : loads' ≡ put_numbers a.loads loads
  pub new_numbers : numbers' ≡ put_numbers (best_numbers a.answer) numbers
