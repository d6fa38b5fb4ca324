-- The jobs passed were gathered.
use Rattle.start.proofs.StartLaws.{Gathered}
use Rattle.start.proofs.start.gather.Given as goal

abbrev pub invariant-loop-j : goal.invariant-loop-j
invariant-loop-j l = Gathered l.jobs l.marked l.allowed l.initial.job l.initial.low l.initial.high l.j l.k l.job l.low l.high
