-- What reading a sheet gives C callers: what it holds, as a table of numbers (the header yinqocha.h says the same in
-- words).
--     head_numbers h        benches, p, q and target
--     job_numbers js        minutes and benches allowed of each job
--     contents_numbers c    those of the head, then the minutes booked on each of 64 benches, then those of the jobs
--     contents_bytes c      the bytes that they take
--     read_word r room      what reading returns: the number of jobs, or the fault; 13 where the numbers do not fit
--     contents_table r t    the table afterwards
use Rattle.std.specs.Prelude.{ℕ, ◌+◌, ◌*◌, cond, List, [], ◌∷◌, ◌++◌, length, drop, ltb}
use Rattle.bits.specs.Little.{little_all}
use Rattle.fields.specs.declared.sheet.Head.{Head}
use Rattle.fields.specs.declared.sheet.Job.{Job}
use Rattle.fields.specs.Contents.{Contents}
use Rattle.fields.specs.declared.fault.Fault.TheVariants.{Table}
use Rattle.frame.specs.Reading.{Read, accepted, refused}
use Rattle.tables.specs.Words.{fault_word}

abbrev pub head_numbers : Head → List ℕ
head_numbers h = h.benches ∷ h.p ∷ h.q ∷ h.target ∷ []

unfoldable pub job_numbers : List Job → List ℕ
job_numbers [] = []
job_numbers (j ∷ js) = j.minutes ∷ j.allowed ∷ job_numbers js

abbrev pub contents_numbers : Contents → List ℕ
contents_numbers c = head_numbers c.head ++ c.booked ++ job_numbers c.jobs

abbrev pub contents_bytes : Contents → ℕ
contents_bytes c = 544 + 16 * length c.jobs

unfoldable pub read_word : Read → ℕ → ℕ
read_word (accepted c) room = cond (ltb room (contents_bytes c)) (fault_word (Table 0)) (length c.jobs)
read_word (refused f) room = fault_word f

unfoldable pub contents_table : Read → List ℕ → List ℕ
contents_table (accepted c) t =
    cond (ltb (length t) (contents_bytes c)) t (little_all 8 (contents_numbers c) ++ drop (contents_bytes c) t)
contents_table (refused f) t = t
