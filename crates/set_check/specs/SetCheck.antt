-- The check of a set of benches (request S-6). A set is a number of 64 bits: "the first bit is bench 0".
--     foreign_in benches set    the lowest bench of the set that the head lacks, and 64 where it lacks none
--     foreign_of benches set    this bench, if there is one
--     answered_by d set rest    number 17, then long, then the rest
--     first_answer d set        what is answered before the set is judged
--     set_answer d set          the answer for the day of an accepted sheet
--     check_set s set           the answer for the bytes s
use Rattle.std.specs.Prelude.{ℕ, cond, not, ◌&&◌, List, eqb, ltb, Option}
use Rattle.std.specs.Bool.{then_some}
use Rattle.bits.specs.Bits.{is_set}
use Rattle.sums.specs.Search.{least}
use Rattle.fields.specs.declared.fault.Fault.TheVariants.{SetBench}
use Rattle.frame.specs.Reading.{accepted, refused, read_sheet}
use Rattle.day.specs.Day.{Day, day_of, long_job}
use Rattle.answers.specs.declared.check.SetAnswer.{SetAnswer}
use Rattle.answers.specs.declared.check.SetAnswer.TheVariants.{Passed, Long, NotPassed, Fault as Faulty}
use Rattle.placements.specs.LeastWeight.{blocks}

unfoldable pub foreign_in : ℕ → ℕ → ℕ
foreign_in benches set = least 64 (λ v. is_set 64 set v && not (ltb v benches))

abbrev pub foreign_of : ℕ → ℕ → Option ℕ
foreign_of benches set = then_some (ltb (foreign_in benches set) 64) (foreign_in benches set)

-- "number 17 that the set is empty or names a bench not in the head"; "If some job exceeds T, the answer to a set is
-- long with the lowest such job, after the faults."
abbrev pub answered_by : Day → ℕ → SetAnswer → SetAnswer
answered_by d set rest =
    cond (eqb set 0) (Faulty (SetBench 0))
    (cond (ltb (foreign_in d.benches set) 64) (Faulty (SetBench (foreign_in d.benches set)))
    (cond (ltb (long_job d) d.jobs) (Long (record { job = long_job d })) rest))

-- Until it is judged a set has not passed.
abbrev pub first_answer : Day → ℕ → SetAnswer
first_answer d set = answered_by d set NotPassed

-- "A set is passed if and only if it is blocking."
abbrev pub set_answer : Day → ℕ → SetAnswer
set_answer d set = answered_by d set (cond (blocks d (is_set 64 set)) Passed NotPassed)

-- "After the sheet's faults"
unfoldable pub check_set : List ℕ → ℕ → SetAnswer
check_set s set = elim (read_sheet s) [ refused f ↦ Faulty f | accepted c ↦ set_answer (day_of c) set ]
