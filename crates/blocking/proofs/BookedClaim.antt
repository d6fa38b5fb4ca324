-- Bookings in the claim (request S-1), from the bytes of a sheet to both tables.
-- Example 8 of document 01 with 2 minutes booked on bench 0, tables of exactly the needed size:
--     read_booked             its sheet is accepted, with its booking
--     answer_booked           the planner's answer: a move more than in example 8
--     booked_claimed          it is claimed
--     loads_without_bookings  the same plan with loads that leave the booking out
--     bound_without_bookings  the plan of example 8: within the bound only without the booking
-- One bench, T = 7, 14 minutes booked on it and no job:
--     answer_only_booked      none with bench 0
--     booked_bench_planned    a plan with load 0
--     booked_rival            every assignment leaves the bench above T
use Prim.Native.Nat.{ℕ}
use mathlib.Core.Path.{◌≡◌, refl}
use mathlib.Core.Bool.{false}
use mathlib.Core.List.{List, [], ◌∷◌}
use native.Mathlib.Omega.{arith}
use Rattle.bools.proofs.BoolLaws.{clash}
use Rattle.bits.specs.Bits.{is_set}
use Rattle.sums.specs.Members.{members}
use Rattle.sums.specs.Sum.{fullest}
use Rattle.closure.specs.Closure.{grow, closure, reach}
use Rattle.fields.specs.Contents.{Contents}
use Rattle.fields.specs.Format.{booked_from, sheet_bytes}
use Rattle.fields.specs.Tests.{booked_faults, hyper_edge_verdict}
use Rattle.frame.specs.Reading.{accepted, read_sheet}
use Rattle.frame.specs.Writing.{jobs_verdict, opening_verdict, writer_verdict}
use Rattle.frame.proofs.RoundTrip.{write_read_computed}
use Rattle.day.specs.Day.{day_of, long_job}
use Rattle.day.specs.SmallSheets.{booked_sheet, bay, both}
use Rattle.demand.specs.Demand.{Assignment, SomeOver}
use Rattle.answers.specs.declared.answer.Answer.{Answer}
use Rattle.answers.specs.declared.answer.Answer.TheVariants.{Plan}
use Rattle.answers.specs.Answers.{Reply, plan_reply, none_reply, set_of}
use Rattle.algorithm.specs.Rocks.{lowest, highest}
use Rattle.algorithm.specs.Board.{rock_load}
use Rattle.algorithm.specs.Forced.{inner, outer}
use Rattle.algorithm.specs.Explore.{conflict_set, construct, activate, open_round, rounds, explore}
use Rattle.algorithm.specs.Settle.{follow, settle_from}
use Rattle.algorithm.specs.Start.{crowded_bench, one_cycle, peel, start}
use Rattle.algorithm.specs.Run.{own_minutes, answer_at, turns, run}
use Rattle.algorithm.specs.Answer.{answer_to, short_tables, answer_for}
use Rattle.blocking.specs.Claim.{Answerable, PlannerClaim}
use Rattle.blocking.proofs.Claim.{planner_claim}
use Rattle.blocking.proofs.ClaimRefusals.{plan_of}

-- ── example 8 with a booking ──

abbrev pub booked8 : Contents
booked8 = booked_sheet (bay 2 4 7 4) (2 ∷ []) (both 2 ∷ both 2 ∷ both 2 ∷ both 2 ∷ [])

abbrev bytes8 : List ℕ
bytes8 = sheet_bytes booked8

abbrev booked_reply : Reply
booked_reply = plan_reply (plan_of 6 2 0) (1 ∷ 1 ∷ 0 ∷ 0 ∷ []) (6 ∷ 4 ∷ [])

pub read_booked : read_sheet bytes8 ≡ accepted booked8
unfolding is_set hyper_edge_verdict booked_from booked_faults jobs_verdict opening_verdict writer_verdict
read_booked = write_read_computed booked8 refl refl refl

run-booked : answer_to (day_of booked8) ≡ booked_reply
unfolding fullest is_set grow closure reach lowest highest long_job rock_load inner outer conflict_set construct activate
    open_round rounds explore follow settle_from crowded_bench one_cycle peel start own_minutes answer_at turns run members
run-booked = refl

pub answer_booked : (np nl : ℕ) → short_tables booked8 np nl ≡ false → answer_for bytes8 np nl ≡ booked_reply
unfolding answer_for
answer_booked np nl enough = rw (read_booked, enough, answer_for) run-booked

abbrev four_places : List ℕ
four_places = 9 ∷ 9 ∷ 9 ∷ 9 ∷ []

abbrev two_loads : List ℕ
two_loads = 9 ∷ 9 ∷ []

answerable : Answerable bytes8 four_places two_loads booked8
answerable = record { sheet_accepted = read_booked; place_to_a_job = omega arith; load_to_a_bench = omega arith }

abbrev Claimed : Answer → List ℕ → List ℕ → Type 0
Claimed r places' loads' = PlannerClaim bytes8 four_places two_loads r places' loads'

pub booked_claimed : Claimed (Plan (plan_of 6 2 0)) (1 ∷ 1 ∷ 0 ∷ 0 ∷ []) (6 ∷ 4 ∷ [])
booked_claimed = rw (answer_booked 4 2 refl) at (planner_claim bytes8 four_places two_loads)

pub loads_without_bookings : Claimed (Plan (plan_of 4 2 0)) (1 ∷ 1 ∷ 0 ∷ 0 ∷ []) (4 ∷ 4 ∷ []) → ⊥
loads_without_bookings c =
    omega (arith, (c.plan_right booked8 answerable (plan_of 4 2 0) refl).its_loads 0 (omega arith))

-- 21 × 8 = 168 is above 39 × 4 = 156.
pub bound_without_bookings : Claimed (Plan (plan_of 8 1 0)) (1 ∷ 0 ∷ 0 ∷ 0 ∷ []) (8 ∷ 2 ∷ []) → ⊥
bound_without_bookings c =
    clash ((c.plan_right booked8 answerable (plan_of 8 1 0) refl).within_bound 0 (omega arith)) refl

-- ── a booking alone ──

abbrev pub only_booked : Contents
only_booked = booked_sheet (bay 1 4 7 7) (14 ∷ []) []

abbrev only_bytes : List ℕ
only_bytes = sheet_bytes only_booked

only_read : read_sheet only_bytes ≡ accepted only_booked
unfolding is_set hyper_edge_verdict booked_from booked_faults jobs_verdict opening_verdict writer_verdict
only_read = write_read_computed only_booked refl refl refl

only_run : answer_to (day_of only_booked) ≡ none_reply (0 ∷ []) 0
unfolding is_set grow closure reach lowest highest long_job rock_load inner outer conflict_set construct activate open_round rounds explore follow settle_from crowded_bench one_cycle peel start own_minutes answer_at turns run members set_of
only_run = refl

pub answer_only_booked : answer_for only_bytes 0 1 ≡ none_reply (0 ∷ []) 0
unfolding answer_for
answer_only_booked = rw (only_read, answer_for) only_run

only_answerable : Answerable only_bytes [] (9 ∷ []) only_booked
only_answerable = record { sheet_accepted = only_read; place_to_a_job = omega arith; load_to_a_bench = omega arith }

pub booked_bench_planned : PlannerClaim only_bytes [] (9 ∷ []) (Plan (plan_of 0 0 0)) [] (0 ∷ []) → ⊥
booked_bench_planned c =
    omega (arith, (c.plan_right only_booked only_answerable (plan_of 0 0 0) refl).its_loads 0 (omega arith))

pub booked_rival : (a : ℕ → ℕ) → Assignment (day_of only_booked) a → SomeOver (day_of only_booked) a
booked_rival a each = (0, omega arith, omega arith)
