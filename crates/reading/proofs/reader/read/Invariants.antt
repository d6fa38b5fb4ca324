-- `read`: the loop keeps ReadState: what reading the sheet gives is what reading on from here gives. Each way through
-- the body is a law of ReadState.
use Prim.Native.Nat.{◌-◌}
use lib.ListN.{length}
use Rattle.frame.proofs.ReadState.{ReadState}
use Rattle.reading.proofs.reader.read.Given as goal

abbrev pub invariant-loop-at : goal.invariant-loop-at
invariant-loop-at l = ReadState l.s l.sheet l.stage l.had l.at

abbrev pub decreases-loop-at : goal.decreases-loop-at
decreases-loop-at l = length l.s - l.at
