-- The examples hold of the meaning itself.
--     examples-hold     for every row of the table the answer is the one that document 01 gives
--     one_move          example 8 reaches a state by a move, so that the theorems about such states are not empty
--     errors_shut_out   for every row of the second table the answer is not that of a run with the error
--     bookings_hold     for every row of the third table the answer is that of the day with its bookings
--     fullest-named     for every row of the fourth table the answer names the fullest bench
--     checks_hold       for every row of the fifth table the answer is that of the day with its jobs of 0 minutes
use mathlib.Core.Path.{◌≡◌, refl}
use mathlib.Core.List.{[], ◌∷◌, map}
use Rattle.bits.specs.Bits.{is_set}
use Rattle.sums.specs.Members.{members}
use Rattle.sums.specs.Sum.{fullest}
use Rattle.closure.specs.Closure.{grow, closure, reach}
use Rattle.fields.specs.Tests.{booked_faults, hyper_edge_verdict}
use Rattle.fields.specs.Format.{booked_from}
use Rattle.frame.specs.Writing.{jobs_verdict, opening_verdict, writer_verdict}
use Rattle.day.specs.Day.{Day, long_job}
use Rattle.answers.specs.Answers.{set_of}
use Rattle.algorithm.specs.Rocks.{lowest, highest}
use Rattle.algorithm.specs.Board.{rock_load}
use Rattle.algorithm.specs.Forced.{inner, outer}
use Rattle.algorithm.specs.Explore.{conflict_set, construct, activate, open_round, rounds, explore}
use Rattle.algorithm.specs.Settle.{follow, settle_from}
use Rattle.algorithm.specs.Start.{crowded_bench, one_cycle, peel, start}
use Rattle.algorithm.specs.Run.{own_minutes, next_state, answer_at, turns, run}
use Rattle.algorithm.specs.States.{Reached, at_start, by_move}
use Rattle.algorithm.specs.Answer.{plan_contents}
use Rattle.day.specs.SmallSheets.{day_with, bay, both}
use Rattle.algorithm.specs.Examples.{examples, error_examples, booked_examples, fullest_examples, check_examples}

pub examples-hold : map (λ e. plan_contents e.contents) examples ≡ map (λ e. e.reply) examples
unfolding examples fullest is_set grow closure reach hyper_edge_verdict booked_from booked_faults jobs_verdict
    opening_verdict writer_verdict lowest highest long_job rock_load inner outer conflict_set construct activate open_round
    rounds explore follow settle_from crowded_bench one_cycle peel start own_minutes answer_at turns run members set_of
examples-hold = refl

abbrev day8 : Day
day8 = day_with (bay 2 4 7 4) (both 2 ∷ both 2 ∷ both 2 ∷ both 2 ∷ [])

pub one_move : Reached day8 1 (next_state day8 (start day8))
unfolding is_set grow closure reach lowest highest long_job rock_load inner outer conflict_set construct activate open_round rounds explore crowded_bench one_cycle peel start own_minutes
one_move = by_move (at_start refl refl) refl

pub errors_shut_out : map (λ e. plan_contents e.contents) error_examples ≡ map (λ e. e.reply) error_examples
unfolding error_examples fullest is_set grow closure reach hyper_edge_verdict booked_from booked_faults jobs_verdict
    opening_verdict writer_verdict lowest highest long_job rock_load inner outer conflict_set construct activate open_round
    rounds explore follow settle_from crowded_bench one_cycle peel start own_minutes answer_at turns run members set_of
errors_shut_out = refl

pub bookings_hold : map (λ e. plan_contents e.contents) booked_examples ≡ map (λ e. e.reply) booked_examples
unfolding booked_examples fullest is_set grow closure reach hyper_edge_verdict booked_from booked_faults jobs_verdict
    opening_verdict writer_verdict lowest highest long_job rock_load inner outer conflict_set construct activate open_round
    rounds explore follow settle_from crowded_bench one_cycle peel start own_minutes answer_at turns run members set_of
bookings_hold = refl

pub fullest-named : map (λ e. plan_contents e.contents) fullest_examples ≡ map (λ e. e.reply) fullest_examples
unfolding fullest_examples fullest is_set grow closure reach hyper_edge_verdict booked_from booked_faults jobs_verdict
    opening_verdict writer_verdict lowest highest long_job rock_load inner outer conflict_set construct activate open_round
    rounds explore follow settle_from crowded_bench one_cycle peel start own_minutes answer_at turns run members set_of
fullest-named = refl

pub checks_hold : map (λ e. plan_contents e.contents) check_examples ≡ map (λ e. e.reply) check_examples
unfolding check_examples fullest is_set grow closure reach hyper_edge_verdict booked_from booked_faults jobs_verdict
    opening_verdict writer_verdict lowest highest long_job rock_load inner outer conflict_set construct activate open_round
    rounds explore follow settle_from crowded_bench one_cycle peel start own_minutes answer_at turns run members set_of
checks_hold = refl
