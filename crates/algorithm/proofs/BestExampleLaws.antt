-- The searches of specs/BestExamples hold of the meaning itself.
--     best_examples_hold     for every row of the table the reply is the one that it gives
--     not_monotone           a target may be refused above one that gives a plan: no run can be spared by it
use mathlib.Core.Path.{◌≡◌, refl}
use mathlib.Core.Bool.{true, false}
use mathlib.Core.List.{[], ◌∷◌, map}
use Rattle.bits.specs.Bits.{is_set}
use Rattle.sums.specs.Members.{members}
use Rattle.sums.specs.Sum.{fullest}
use Rattle.closure.specs.Closure.{grow, closure, reach}
use Rattle.fields.specs.Format.{booked_from}
use Rattle.day.specs.Day.{day_of, long_job}
use Rattle.answers.specs.Answers.{set_of}
use Rattle.algorithm.specs.Rocks.{lowest, highest}
use Rattle.algorithm.specs.Board.{rock_load}
use Rattle.algorithm.specs.Forced.{inner, outer}
use Rattle.algorithm.specs.Explore.{conflict_set, construct, activate, open_round, rounds, explore}
use Rattle.algorithm.specs.Settle.{follow, settle_from}
use Rattle.algorithm.specs.Start.{crowded_bench, one_cycle, peel, start}
use Rattle.algorithm.specs.Run.{own_minutes, answer_at, turns, run}
use Rattle.algorithm.specs.Best.{gives_plan, seek, searched, best_to}
use Rattle.algorithm.specs.BestExamples.{gap_contents, best_examples}

pub best_examples_hold : map (λ e. best_to (day_of e.contents)) best_examples ≡ map (λ e. e.reply) best_examples
unfolding best_examples fullest is_set grow closure reach booked_from lowest highest long_job rock_load inner outer
    conflict_set construct activate open_round rounds explore follow settle_from crowded_bench one_cycle peel start
    own_minutes answer_at turns run members set_of gives_plan seek searched
best_examples_hold = refl

pub not_monotone : map (gives_plan (day_of gap_contents)) (31 ∷ 32 ∷ 33 ∷ 34 ∷ 35 ∷ 36 ∷ 37 ∷ [])
    ≡ false ∷ true ∷ false ∷ true ∷ true ∷ false ∷ true ∷ []
unfolding fullest is_set grow closure reach booked_from lowest highest long_job rock_load inner outer conflict_set construct
    activate open_round rounds explore follow settle_from crowded_bench one_cycle peel start own_minutes answer_at turns run
    members set_of gives_plan
not_monotone = refl
