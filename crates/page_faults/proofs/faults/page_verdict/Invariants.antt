-- What the loop keeps is Tried of FaultRun.
use Rattle.page_faults.proofs.FaultRun.{Tried}
use Rattle.page_faults.proofs.faults.page_verdict.Given as goal

abbrev pub invariant-loop-i : goal.invariant-loop-i
invariant-loop-i l = Tried l.benches l.page l.seen l.i
