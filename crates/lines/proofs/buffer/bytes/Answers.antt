-- The loop's invariant: the bytes of s passed are put.
use lib.Seq.{take_all}
use Rattle.lines.proofs.BufferLaws.{puts_none, puts_then, puts_as}
use Rattle.lines.proofs.LineSteps.{take_more}
use Rattle.lines.proofs.buffer.bytes.Goals as goal

pub loop-b-init : goal.loop-b-init
loop-b-init c = puts_none c.args.out.now c.args.at c.min-end.ensures

pub loop-b-preserved : goal.loop-b-preserved
loop-b-preserved c =
    puts_as (take_more c.args.s.now c.loop-b.b-index c.loop-b-test.true) (puts_then c.loop-b.invariant c.byte-end.ensures)

pub returns : goal.returns
returns c = puts_as (take_all c.loop-b.b-index c.args.s.now c.loop-b-test.false) c.loop-b.invariant
