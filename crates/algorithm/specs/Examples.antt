-- The starred bay examples of document 01 as one table: contents of a sheet, and the reply that the document gives.
--     Example, row     one row
--     plan             a plan as a reply
--     examples         the table, in the document's order; 9 and 10 have several rows
--     error_examples   sheets on which an error in the run would change the answer
--     booked_row, booked_examples  sheets with bookings, on most of which they change the answer (request S-1)
--     fullest_examples  sheets on which another bench than the fullest might be named (request S-2)
--     check_examples   sheets with jobs of 0 minutes (request S-3)
-- Proved in ExampleLaws.
use Rattle.std.specs.Prelude.{ℕ, List, [], ◌∷◌}
use Rattle.fields.specs.declared.sheet.Head.{Head}
use Rattle.fields.specs.declared.sheet.Job.{Job}
use Rattle.fields.specs.Contents.{Contents}
use Rattle.fields.specs.declared.fault.Fault.TheVariants.{Share, Minutes, HeavyHyperEdge, BookedBench}
use Rattle.day.specs.SmallSheets.{sheet, booked_sheet, bay, first, second, third, both, outside, three}
use Rattle.answers.specs.Answers.{Reply, plan_reply, long_reply, none_reply, fault_reply}

pub record Example : Type 0 where
  pub contents : Contents
  pub reply : Reply

abbrev pub row : Head → List Job → Reply → Example
row h js r = record { contents = sheet h js; reply = r }

-- A plan: its largest load, the moves, the fullest bench, the places and the loads.
abbrev pub plan : ℕ → ℕ → ℕ → List ℕ → List ℕ → Reply
plan largest moves fullest places loads =
    plan_reply (record { largest = largest; moves = moves; fullest = fullest }) places loads

unfoldable pub examples : List Example
examples =
    -- 1. One bench, no job, T = 0: plan, largest load 0, 0 moves.
    row (bay 1 4 7 0) [] (plan 0 0 0 [] (0 ∷ []))
    -- 2. One bench, one job of 5 on it, T = 5: plan, 5, 0 moves.
    ∷ row (bay 1 4 7 5) (first 5 ∷ []) (plan 5 0 0 (0 ∷ []) (5 ∷ []))
    -- 3. The same with T = 4: long, job 0.
    ∷ row (bay 1 4 7 4) (first 5 ∷ []) (long_reply 0)
    -- 4. Two benches, three jobs of 5 on both, T = 8: none, benches 0 and 1, 0 moves.
    ∷ row (bay 2 4 7 8) (both 5 ∷ both 5 ∷ both 5 ∷ []) (none_reply (0 ∷ 1 ∷ []) 0)
    -- 5. The same with T = 9: all on bench 0; plan, 15, 0 moves.
    ∷ row (bay 2 4 7 9) (both 5 ∷ both 5 ∷ both 5 ∷ []) (plan 15 0 0 (0 ∷ 0 ∷ 0 ∷ []) (15 ∷ 0 ∷ []))
    -- 6. Two jobs of 5 on both, T = 5: job 0 on bench 1, job 1 on bench 0.
    ∷ row (bay 2 4 7 5) (both 5 ∷ both 5 ∷ []) (plan 5 0 0 (1 ∷ 0 ∷ []) (5 ∷ 5 ∷ []))
    -- 7. One job of 5 on both of two benches, T = 5: bench 1.
    ∷ row (bay 2 4 7 5) (both 5 ∷ []) (plan 5 0 1 (1 ∷ []) (0 ∷ 5 ∷ []))
    -- 8. Two benches, four jobs of 2 on both, T = 4: job 0 moves to bench 1; plan, 6, 1 move.
    ∷ row (bay 2 4 7 4) (both 2 ∷ both 2 ∷ both 2 ∷ both 2 ∷ []) (plan 6 1 0 (1 ∷ 0 ∷ 0 ∷ 0 ∷ []) (6 ∷ 2 ∷ []))
    -- 9. Share 5/9: fault 8. Share 99/100 is taken, 7/7 is not.
    ∷ row (bay 1 5 9 5) [] (fault_reply (Share 0))
    ∷ row (bay 1 99 100 5) [] (plan 0 0 0 [] (0 ∷ []))
    ∷ row (bay 1 7 7 5) [] (fault_reply (Share 0))
    -- 10. Three benches, jobs of 7 on bench 0 and 4 on all: taken. With 5 for 4: fault 12, job 1.
    ∷ row (bay 3 4 7 7) (first 7 ∷ three 4 ∷ []) (plan 11 0 0 (0 ∷ 0 ∷ []) (11 ∷ 0 ∷ 0 ∷ []))
    ∷ row (bay 3 4 7 7) (first 7 ∷ three 5 ∷ []) (fault_reply (HeavyHyperEdge 1))
    ∷ []

unfoldable pub error_examples : List Example
error_examples =
    -- "Trusting a forced orientation": at first bench 0 forces job 0 to bench 1 and so overloads it. After job 2 has
    -- moved to bench 2, bench 1 forces job 0 to bench 0. Kept on bench 1 it would end the run with none, bench 1; and
    -- yet the rival keeps every bench within 3, with job 0 on bench 0 and jobs 2 and 3 on bench 2.
    row (bay 3 2 3 3) (both 3 ∷ second 3 ∷ outside 1 ∷ three 2 ∷ []) (plan 5 1 0 (0 ∷ 1 ∷ 2 ∷ 0 ∷ []) (5 ∷ 3 ∷ 1 ∷ []))
    -- "Rounding (2q + p) × T / (3q) down": the jobs of 6 are under the limit of Rule 2 (126 < 144), so bench 1 has
    -- level 0 like bench 0, and no job can be pushed. With the limit rounded to 6 bench 1 would have level 1, and job
    -- 0 be pushed there: plan, 13, 1 move.
    ∷ row (bay 2 4 7 8) (both 3 ∷ both 6 ∷ both 6 ∷ first 7 ∷ second 3 ∷ []) (none_reply (0 ∷ 1 ∷ []) 0)
    -- With one loop over all benches in FORCED ORIENTATIONS, bench 1 would be given both rocks in one turn: none,
    -- benches 0 and 1, 0 moves.
    ∷ row (bay 2 4 7 3) (both 3 ∷ both 1 ∷ first 2 ∷ both 3 ∷ []) (plan 5 1 0 (1 ∷ 1 ∷ 0 ∷ 0 ∷ []) (5 ∷ 4 ∷ []))
    -- With PUSH up to the bound, job 3 would be pushed to bench 1, whose load is above (5q − 2p) × T (84 > 81): none,
    -- bench 0, 1 move.
    ∷ row (bay 2 4 7 3) (both 2 ∷ first 3 ∷ first 3 ∷ both 1 ∷ both 2 ∷ []) (none_reply (0 ∷ 1 ∷ []) 0)
    ∷ []

abbrev pub booked_row : Head → List ℕ → List Job → Reply → Example
booked_row h bs js r = record { contents = booked_sheet h bs js; reply = r }

unfoldable pub booked_examples : List Example
booked_examples =
    -- Booked minutes alone are a load.
    booked_row (bay 2 4 7 9) (0 ∷ 9 ∷ []) [] (plan 9 0 1 [] (0 ∷ 9 ∷ []))
    -- A booking above T, at the bound (21 × 13 = 39 × 7), is no reason for long or none. One minute more is above it.
    ∷ booked_row (bay 1 4 7 7) (13 ∷ []) [] (plan 13 0 0 [] (13 ∷ []))
    ∷ booked_row (bay 1 4 7 7) (14 ∷ []) [] (none_reply (0 ∷ []) 0)
    -- Booked minutes and a job up to the bound, and above it.
    ∷ booked_row (bay 1 4 7 5) (4 ∷ []) (first 5 ∷ []) (plan 9 0 0 (0 ∷ []) (9 ∷ []))
    ∷ booked_row (bay 1 4 7 5) (5 ∷ []) (first 5 ∷ []) (none_reply (0 ∷ []) 0)
    -- Long speaks of jobs only.
    ∷ booked_row (bay 2 4 7 4) (100 ∷ []) (both 4 ∷ second 5 ∷ []) (long_reply 1)
    -- A booking of heavy size is no heavy job: two more heavy jobs have their benches.
    ∷ booked_row (bay 2 4 7 5) (4 ∷ 4 ∷ []) (both 5 ∷ both 5 ∷ []) (plan 9 0 0 (1 ∷ 0 ∷ []) (9 ∷ 9 ∷ []))
    -- Fault 12 does not know bookings.
    ∷ booked_row (bay 3 4 7 100) (90 ∷ []) (first 7 ∷ three 5 ∷ []) (fault_reply (HeavyHyperEdge 1))
    -- Example 8 with bench 0 booked: a second move.
    ∷ booked_row (bay 2 4 7 4) (2 ∷ []) (both 2 ∷ both 2 ∷ both 2 ∷ both 2 ∷ [])
    (plan 6 2 0 (1 ∷ 1 ∷ 0 ∷ 0 ∷ []) (6 ∷ 4 ∷ []))
    -- A booking forces a rock away, which without it would go to bench 1.
    ∷ booked_row (bay 2 2 3 1) (0 ∷ 1 ∷ []) (both 1 ∷ []) (plan 1 0 0 (0 ∷ []) (1 ∷ 1 ∷ []))
    -- A booking overloads its bench, and stays when the job there has moved.
    ∷ booked_row (bay 2 3 4 2) (5 ∷ []) (both 1 ∷ []) (none_reply (0 ∷ []) 1)
    -- A booking counts in Rule 1.
    ∷ booked_row (bay 2 2 3 1) (1 ∷ 1 ∷ []) (both 1 ∷ []) (none_reply (0 ∷ 1 ∷ []) 0)
    -- A booking counts in PUSH: job 0 may not be pushed to bench 1.
    ∷ booked_row (bay 2 42 43 2) (3 ∷ 3 ∷ []) (both 1 ∷ []) (none_reply (0 ∷ 1 ∷ []) 0)
    -- A booked bench joins a blocking set.
    ∷ booked_row (bay 2 2 3 1) (0 ∷ 3 ∷ []) (first 1 ∷ first 1 ∷ []) (none_reply (0 ∷ 1 ∷ []) 0)
    -- Fault 14, lowest bench first: a bench that the head lacks; minutes too wide. 0 for such a bench is no fault.
    ∷ booked_row (bay 2 4 7 5) (1 ∷ 0 ∷ 1 ∷ 1 ∷ []) (both 9 ∷ []) (fault_reply (BookedBench 2))
    ∷ booked_row (bay 2 4 7 5) (1 ∷ 1048576 ∷ 1 ∷ []) [] (fault_reply (BookedBench 1))
    ∷ booked_row (bay 1 4 7 5) (0 ∷ 0 ∷ []) [] (plan 0 0 0 [] (0 ∷ []))
    ∷ []

unfoldable pub fullest_examples : List Example
fullest_examples =
    -- All loads are 0: bench 0.
    row (bay 3 4 7 9) [] (plan 0 0 0 [] (0 ∷ 0 ∷ 0 ∷ []))
    -- A tie of benches 1 and 2, bench 0 below them: the lower of the two.
    ∷ booked_row (bay 3 4 7 9) (3 ∷ 4 ∷ 4 ∷ []) [] (plan 4 0 1 [] (3 ∷ 4 ∷ 4 ∷ []))
    -- A tie of a loaded bench and a booked one, the loaded one lower, then the booked one.
    ∷ booked_row (bay 3 4 7 9) (0 ∷ 0 ∷ 5 ∷ []) (second 5 ∷ []) (plan 5 0 1 (1 ∷ []) (0 ∷ 5 ∷ 5 ∷ []))
    ∷ booked_row (bay 3 4 7 9) (0 ∷ 5 ∷ []) (third 5 ∷ []) (plan 5 0 1 (2 ∷ []) (0 ∷ 5 ∷ 5 ∷ []))
    -- A bench that is only booked is the fullest, though others have jobs.
    ∷ booked_row (bay 3 4 7 9) (0 ∷ 0 ∷ 6 ∷ []) (first 5 ∷ second 4 ∷ []) (plan 6 0 2 (0 ∷ 1 ∷ []) (5 ∷ 4 ∷ 6 ∷ []))
    -- The fullest bench has one job, another has three.
    ∷ row (bay 2 4 7 9) (first 1 ∷ first 1 ∷ second 4 ∷ first 1 ∷ []) (plan 4 0 1 (0 ∷ 0 ∷ 1 ∷ 0 ∷ []) (3 ∷ 4 ∷ []))
    ∷ []

unfoldable pub check_examples : List Example
check_examples =
    -- Such jobs alone, T = 0 and T = 9: each on its lowest bench, largest load 0.
    row (bay 3 4 7 0) (second 0 ∷ both 0 ∷ three 0 ∷ []) (plan 0 0 0 (1 ∷ 0 ∷ 0 ∷ []) (0 ∷ 0 ∷ 0 ∷ []))
    ∷ row (bay 3 4 7 9) (second 0 ∷ both 0 ∷ three 0 ∷ []) (plan 0 0 0 (1 ∷ 0 ∷ 0 ∷ []) (0 ∷ 0 ∷ 0 ∷ []))
    -- T = 0 and a job of 1 minute beside one of 0: long, with the job of 1.
    ∷ row (bay 2 4 7 0) (both 0 ∷ first 1 ∷ []) (long_reply 1)
    -- T = 0 and a minute booked on bench 1: that bench is above the bound.
    ∷ booked_row (bay 2 4 7 0) (0 ∷ 1 ∷ []) (both 0 ∷ []) (none_reply (1 ∷ []) 0)
    -- Booked on bench 0, where the job begins: it moves to bench 1, and bench 0 stays above the bound.
    ∷ booked_row (bay 2 4 7 0) (1 ∷ []) (both 0 ∷ []) (none_reply (0 ∷ []) 1)
    -- Example 8 with a job of 0 minutes before the others: PUSH moves it first, then job 1.
    ∷ row (bay 2 4 7 4) (both 0 ∷ both 2 ∷ both 2 ∷ both 2 ∷ both 2 ∷ [])
    (plan 6 2 0 (1 ∷ 1 ∷ 0 ∷ 0 ∷ 0 ∷ []) (6 ∷ 2 ∷ []))
    -- Example 7 with a job of 0 minutes on bench 0, dedicated load of no weight.
    ∷ row (bay 2 4 7 5) (both 5 ∷ first 0 ∷ []) (plan 5 0 1 (1 ∷ 0 ∷ []) (0 ∷ 5 ∷ []))
    -- Example 10 with 0 for 4: fault 12 never holds of such a job.
    ∷ row (bay 3 4 7 7) (first 7 ∷ three 0 ∷ []) (plan 7 0 0 (0 ∷ 0 ∷ []) (7 ∷ 0 ∷ 0 ∷ []))
    -- Minutes too wide for their field are fault 10 still.
    ∷ row (bay 1 4 7 0) (first 0 ∷ first 1048576 ∷ []) (fault_reply (Minutes 1))
    ∷ []
