-- The loop's invariant: the benches of the set below b are put.
use Rattle.lines.specs.Buffer.{Puts}
use Rattle.lines.proofs.LineSteps.{benches_below}
use Rattle.lines.proofs.line.benches.Given as goal

abbrev pub invariant-loop-b : goal.invariant-loop-b
invariant-loop-b l = Puts l.initial.out l.at (benches_below l.set l.b) l.out l.end
