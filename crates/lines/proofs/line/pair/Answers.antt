-- A number, a space and a number, and the newline.
use Rattle.lines.proofs.BufferLaws.{puts_then, puts_as}
use Rattle.lines.specs.Lines.{digits}
use Rattle.lines.proofs.LineSteps.{line-pair}
use Rattle.lines.proofs.line.pair.Goals as goal

pub returns : goal.returns
returns c =
    puts_as (line-pair (digits c.args.x) (digits c.args.y)) (puts_then (puts_then c.number-end.ensures
    c.word-end.ensures) c.end_line.ensures)
