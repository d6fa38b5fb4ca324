-- Example 2 of document 01, from the bytes of its sheet to the two lines.
use mathlib.Core.Path.{◌≡◌, refl}
use mathlib.Core.List.{[], ◌∷◌}
use Rattle.bits.specs.Bits.{bit, bits, is_set}
use Rattle.sums.specs.Members.{members}
use Rattle.sums.specs.Sum.{fullest}
use Rattle.closure.specs.Closure.{grow, closure, reach}
use Rattle.fields.specs.Tests.{hyper_edge_verdict}
use Rattle.frame.specs.Reading.{frame_faults, after, read_from, read_sheet}
use Rattle.day.specs.Day.{long_job}
use Rattle.algorithm.specs.Rocks.{lowest, highest}
use Rattle.algorithm.specs.Board.{rock_load}
use Rattle.algorithm.specs.Forced.{inner, outer}
use Rattle.algorithm.specs.Explore.{conflict_set, construct, activate, open_round, rounds, explore}
use Rattle.algorithm.specs.Settle.{follow, settle_from}
use Rattle.algorithm.specs.Start.{crowded_bench, one_cycle, peel, start}
use Rattle.algorithm.specs.Run.{own_minutes, answer_at, turns, run}
use Rattle.algorithm.specs.Answer.{answer_for}
use Rattle.lines.specs.Lines.{digits_within, digits, spaced, line, job_lines, lines_of}
use Rattle.printing.specs.ExampleSheet.{one_job}
use Rattle.bay.specs.Printed.{printed_lines}

-- "For example 2 it prints exactly two lines", `plan 5 0 0` (largest load, moves, fullest bench) and `0 0`.
pub example_2 : printed_lines one_job ≡
    112 ∷ 108 ∷ 97 ∷ 110 ∷ 32 ∷ 53 ∷ 32 ∷ 48 ∷ 32 ∷ 48 ∷ 10 ∷ 48 ∷ 32 ∷ 48 ∷ 10 ∷ []
unfolding printed_lines lines_of job_lines line spaced digits digits_within
    fullest answer_for read_sheet read_from frame_faults after hyper_edge_verdict bit bits is_set members grow closure reach
    lowest highest long_job rock_load inner outer conflict_set construct activate open_round rounds explore
    follow settle_from crowded_bench one_cycle peel start own_minutes answer_at turns run
example_2 = refl
