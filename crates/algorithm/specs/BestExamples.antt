-- Searches for the best target (request S-4) as one table: contents of a sheet, and the reply. Share 4/7 unless said;
-- the target of each head is one that the search does not use.
--     BestExample, best_row, best_booked_row  one row
--     best                 a target, the targets run, and the plan: largest load, moves, fullest bench, places, loads
--     gap_contents         a sheet on which refusal is not monotone in the target
--     best_examples        the table
-- Proved in BestExampleLaws.
use Rattle.std.specs.Prelude.{ℕ, List, [], ◌∷◌}
use Rattle.fields.specs.declared.sheet.Head.{Head}
use Rattle.fields.specs.declared.sheet.Job.{Job}
use Rattle.fields.specs.Contents.{Contents}
use Rattle.day.specs.SmallSheets.{sheet, booked_sheet, bay, first, second, both}
use Rattle.answers.specs.BestAnswers.{BestReply, best_reply}
use Rattle.algorithm.specs.Examples.{plan}

pub record BestExample : Type 0 where
  pub contents : Contents
  pub reply : BestReply

abbrev pub best_row : Head → List Job → BestReply → BestExample
best_row h js r = record { contents = sheet h js; reply = r }

abbrev pub best_booked_row : Head → List ℕ → List Job → BestReply → BestExample
best_booked_row h bs js r = record { contents = booked_sheet h bs js; reply = r }

abbrev pub best : ℕ → ℕ → ℕ → ℕ → ℕ → List ℕ → List ℕ → BestReply
best target runs largest moves fullest places loads = best_reply target runs (plan largest moves fullest places loads)

-- Share 5/6, benches booked for 14 and 35, jobs of 6, 30 and 27 on both. The planner gives a plan at 32, 34, 35 and
-- from 37 on, and refuses 33 and 36: at 33 the job of 27 is light and lies on bench 0, at 36 that of 30 too.
abbrev pub gap_contents : Contents
gap_contents = booked_sheet (bay 2 5 6 9) (14 ∷ 35 ∷ []) (both 6 ∷ both 30 ∷ both 27 ∷ [])

unfoldable pub best_examples : List BestExample
best_examples =
    -- No job: the start is 0, and it is run.
    best_row (bay 1 4 7 9) [] (best 0 1 0 0 0 [] (0 ∷ []))
    -- Jobs of 0 minutes alone.
    ∷ best_row (bay 2 4 7 9) (both 0 ∷ second 0 ∷ []) (best 0 1 0 0 0 (0 ∷ 1 ∷ []) (0 ∷ 0 ∷ []))
    -- One job of 5 (examples 2 and 3): 5 is run, then 2 and 4, which are long.
    ∷ best_row (bay 1 4 7 4) (first 5 ∷ []) (best 5 3 5 0 0 (0 ∷ []) (5 ∷ []))
    -- Three jobs of 5 on both benches (examples 4 and 5): 15, 7, 11, 9, 8; there is none at 7 and at 8.
    ∷ best_row (bay 2 4 7 4) (both 5 ∷ both 5 ∷ both 5 ∷ [])
    (best 9 5 15 0 0 (0 ∷ 0 ∷ 0 ∷ []) (15 ∷ 0 ∷ []))
    -- Four jobs of 2 on both (example 8): 8, 4, 2, 3. The plan is that of 4, with its move; 2 and 3 are run later.
    ∷ best_row (bay 2 4 7 9) (both 2 ∷ both 2 ∷ both 2 ∷ both 2 ∷ [])
    (best 4 4 6 1 0 (1 ∷ 0 ∷ 0 ∷ 0 ∷ []) (6 ∷ 2 ∷ []))
    -- Bookings alone: 4, 2, 3. At 3 a load of 4 is within the bound, 84 ≤ 117; at 2 it is not, 84 > 78.
    ∷ best_booked_row (bay 2 4 7 9) (3 ∷ 4 ∷ []) [] (best 3 3 4 0 1 [] (3 ∷ 4 ∷ []))
    -- Jobs of 5 on bench 0 and of 2 on both, bench 0 booked for 3: the start is 7 + 3, then 5, 2, 4.
    ∷ best_booked_row (bay 2 4 7 9) (3 ∷ []) (first 5 ∷ both 2 ∷ [])
    (best 5 4 8 1 0 (0 ∷ 1 ∷ []) (8 ∷ 2 ∷ []))
    -- 98, 49, 24, 37, 31, 34, 33. The lowest target with a plan is 32, and the one above all that are refused is 37.
    ∷ record { contents = gap_contents; reply = best 34 7 65 0 1 (0 ∷ 1 ∷ 0 ∷ []) (47 ∷ 65 ∷ []) }
    ∷ []
