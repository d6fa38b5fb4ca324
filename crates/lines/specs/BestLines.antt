-- What the program prints for the best target (request S-4), in bytes.
--     best_letters            the letters of the word `best`
--     best_lines_of a places  the text of an answer; places are the benches of the jobs, in order
use Rattle.std.specs.Prelude.{ℕ, List, [], ◌∷◌, ◌++◌}
use Rattle.answers.specs.declared.answer.Answer.TheVariants.{Plan, Fault}
use Rattle.answers.specs.declared.best.BestAnswer.{BestAnswer}
use Rattle.answers.specs.declared.best.BestAnswer.TheVariants.{Best, Fault as BestFault}
use Rattle.lines.specs.Lines.{digits, line, lines_of}

abbrev pub best_letters : List ℕ
best_letters = 98 ∷ 101 ∷ 115 ∷ 116 ∷ []

-- "return a target with its plan", and of the targets run "their number is reported": a line with the target and that
-- number, and then the lines of the plan, as they are for a sheet that has this target. A fault has the same line too.
unfoldable pub best_lines_of : BestAnswer → List ℕ → List ℕ
best_lines_of (Best b) places =
    line (best_letters ∷ digits b.target ∷ digits b.runs ∷ [])
    ++ lines_of (Plan b.plan) places
best_lines_of (BestFault f) places = lines_of (Fault f) places
