-- A number and a space, and the line of the two others.
use mathlib.Core.List.{[], ◌∷◌}
use Rattle.lines.proofs.BufferLaws.{puts_then, puts_as}
use Rattle.lines.specs.Lines.{digits}
use Rattle.lines.proofs.LineSteps.{line_word}
use Rattle.lines.proofs.line.triple.Goals as goal

pub returns : goal.returns
returns c =
    puts_as (line_word (digits c.args.x) (digits c.args.y) (digits c.args.z ∷ []))
    (puts_then (puts_then c.number-end.ensures c.byte-end.ensures) c.pair.ensures)
