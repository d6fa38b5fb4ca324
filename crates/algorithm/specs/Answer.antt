-- The planner's reply (document 01, "The three answers"): to a day, to the contents of a sheet, to its bytes.
--     plan_shown d ps moves   the plan with the places ps, as a reply: their loads, the largest, and the fullest bench
--     shown d o               an outcome of the run as a reply, the benches of a set rising
--     answer_to d             the reply to a day
--     checks_reply d          the reply to a day of check-only jobs alone
--     plan_contents c         the reply to the contents c, with the faults 7 to 12 and 14
--     short_tables c np nl    fault 13: a table of np places or of nl loads is too short for the contents c
--     answer_for s np nl      the reply to the bytes s, with tables of np and nl entries
use Rattle.std.specs.Prelude.{ℕ, Bool, cond, ◌||◌, List, length, ltb, Ok, Err}
use Rattle.sums.specs.Members.{members}
use Rattle.sums.specs.Table.{table}
use Rattle.fields.specs.Contents.{Contents}
use Rattle.fields.specs.declared.fault.Fault.TheVariants.{Table}
use Rattle.frame.specs.Reading.{accepted, refused, read_sheet}
use Rattle.frame.specs.Writing.{writer_verdict}
use Rattle.day.specs.Day.{Day, day_of, loads_of, largest_of, fullest_of}
use Rattle.answers.specs.Answers.{Reply, plan_reply, long_reply, none_reply, fault_reply}
use Rattle.algorithm.specs.Rocks.{lowest}
use Rattle.algorithm.specs.Run.{Outcome, planned, long, blocked, run}

abbrev pub plan_shown : Day → List ℕ → ℕ → Reply
plan_shown d places moves =
    plan_reply (record { largest = largest_of d places; moves = moves; fullest = fullest_of d places })
    places (loads_of d places)

abbrev pub shown : Day → Outcome → Reply
shown d (planned places moves) = plan_shown d places moves
shown d (long j) = long_reply j
shown d (blocked set moves) = none_reply (members d.benches set) moves

abbrev pub answer_to : Day → Reply
answer_to d = shown d (run d)

-- Request S-3: check-only jobs alone "give a plan with largest load 0": each on its lowest bench, no move, no load.
abbrev pub checks_reply : Day → Reply
checks_reply d =
    plan_reply (record { largest = 0; moves = 0; fullest = 0 })
    (table d.jobs (lowest d)) (table d.benches (λ v. 0))

-- The faults 7 to 12 and 14 first.
abbrev pub plan_contents : Contents → Reply
plan_contents c = elim (writer_verdict c) [ Ok _ ↦ answer_to (day_of c) | Err f ↦ fault_reply f ]

-- "The table of places is shorter than the jobs, or the table of loads shorter than the benches"
abbrev pub short_tables : Contents → ℕ → ℕ → Bool
short_tables c np nl = ltb np (length c.jobs) || ltb nl c.head.benches

unfoldable pub answer_for : List ℕ → ℕ → ℕ → Reply
answer_for s np nl =
    elim (read_sheet s) [
      | refused f ↦ fault_reply f
      | accepted c ↦ cond (short_tables c np nl) (fault_reply (Table 0)) (answer_to (day_of c))
    ]
