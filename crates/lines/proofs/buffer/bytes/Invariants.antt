-- The loop's invariant: the bytes of s passed are put.
use lib.ListN.{take}
use Rattle.lines.specs.Buffer.{Puts}
use Rattle.lines.proofs.buffer.bytes.Given as goal

abbrev pub invariant-loop-b : goal.invariant-loop-b
invariant-loop-b l = Puts l.initial.out l.at (take l.b-index l.s) l.out l.end
