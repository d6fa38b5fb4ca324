-- The loop's invariant: the lines of the first j jobs are put.
use Rattle.lines.specs.Buffer.{Puts}
use Rattle.lines.specs.Lines.{job_lines}
use Rattle.lines.proofs.line.jobs.Given as goal

abbrev pub invariant-loop-j : goal.invariant-loop-j
invariant-loop-j l = Puts l.initial.out l.at (job_lines l.j l.places) l.out l.end
