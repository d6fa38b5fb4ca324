-- The numbers before i stand at the front of the table (FrontSteps).
use Rattle.tables.proofs.FrontSteps.{FrontPut}
use Rattle.tables.proofs.front.put_front.Given as goal

abbrev pub invariant-loop-i : goal.invariant-loop-i
invariant-loop-i l = FrontPut l.from l.initial.t l.t l.i
