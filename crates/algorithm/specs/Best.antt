-- The best target (request S-4): the search, and the reply to a day and to the bytes of a sheet.
--     gives_plan d t       the planner gives a plan at the target t; long and none both count as refused
--     Search               the two bounds of the search, and the targets run so far
--     middle s             the middle of the two, rounded down
--     after_plan, after_refusal   what its run makes of the search
--     seek k d s           the search from s on, for at most k runs
--     at_start d            the search after the run of the start
--     searched d           the search at its end
--     best_target d        the target that it ends with
--     targets_run d        how many targets were run
--     best_to d            the reply to a day
--     best_for s np nl     the reply to the bytes s, with tables of np and nl entries
use Rattle.std.specs.Prelude.{ℕ, zero, suc, ◌+◌, ◌/◌, Bool, true, false, cond, List, [], ◌∷◌, length, ltb}
use Rattle.fields.specs.declared.fault.Fault.TheVariants.{Table}
use Rattle.frame.specs.Reading.{accepted, refused, read_sheet}
use Rattle.day.specs.Day.{Day, day_of, with_target, start_target}
use Rattle.answers.specs.Answers.{is_plan}
use Rattle.answers.specs.BestAnswers.{BestReply, best_reply, best_fault}
use Rattle.algorithm.specs.Answer.{answer_to, short_tables}

unfoldable pub gives_plan : Day → ℕ → Bool
gives_plan d t = is_plan (answer_to (with_target d t)).answer

-- "It keeps the lowest target known to give a plan and one more than the highest known to be refused (at first 0)":
-- high and low. The targets run are there to be counted, the last one first; what is run next does not look at them.
pub record Search : Type 0 where
  pub low : ℕ
  pub high : ℕ
  pub tried : List ℕ

-- "tries the middle of the two rounded down"
abbrev pub middle : Search → ℕ
middle s = (s.low + s.high) / 2

abbrev pub after_plan : Search → Search
after_plan s = record { low = s.low; high = middle s; tried = middle s ∷ s.tried }

abbrev pub after_refusal : Search → Search
after_refusal s = record { low = suc (middle s); high = s.high; tried = middle s ∷ s.tried }

-- "and stops when they meet"
unfoldable pub seek : ℕ → Day → Search → Search
seek zero d s = s
seek (suc k) d s =
    elim (ltb s.low s.high) [
      | false ↦ s
      | true ↦
          elim (gives_plan d (middle s)) [
            | true ↦ seek k d (after_plan s)
            | false ↦ seek k d (after_refusal s)
          ]
    ]

-- "The start is run first and counted".
abbrev pub at_start : Day → Search
at_start d = record { low = 0; high = start_target d; tried = start_target d ∷ [] }

-- Every run brings the bounds together by one at least, so that this many runs are enough (BestLaws `bounds_meet`).
unfoldable pub searched : Day → Search
searched d = seek (start_target d) d (at_start d)

abbrev pub best_target : Day → ℕ
best_target d = (searched d).high

abbrev pub targets_run : Day → ℕ
targets_run d = length (searched d).tried

-- "return a target with its plan", and the number of targets run.
abbrev pub best_to : Day → BestReply
best_to d = best_reply (best_target d) (targets_run d) (answer_to (with_target d (best_target d)))

-- Faults as planning has them.
unfoldable pub best_for : List ℕ → ℕ → ℕ → BestReply
best_for s np nl =
    elim (read_sheet s) [
      | refused f ↦ best_fault f
      | accepted c ↦ cond (short_tables c np nl) (best_fault (Table 0)) (best_to (day_of c))
    ]
