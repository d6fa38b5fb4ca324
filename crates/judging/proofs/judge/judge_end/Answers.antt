-- `judge_end`: at each return the tests that led there decide between the faults 4 and 5.
use borrow.Author.Tests.{eq-eqb, ne_eqb}
use lib.ListN.{length}
use Rattle.judging.specs.Steps.{frame_of}
use Rattle.judging.specs.FrameTests.{frame_faults}
use Rattle.judging.proofs.StageLaws.{misplaced-unless_open}
use Rattle.judging.proofs.judge.judge_end.Goals as goal

pub returns-then-body-ne0 : goal.returns-then-body-ne0
unfolding frame_of frame_faults
returns-then-body-ne0 c =
    let a = c.args in
    rw (c.in-Open.is, ne_eqb (length a.body.now) 0 c.if-body-ne0.true)

pub returns : goal.returns
unfolding frame_of frame_faults
returns c =
    let a = c.args in
    rw (c.in-Open.is, eq-eqb (length a.body.now) 0 c.if-body-ne0.false)

pub returns-in_default : goal.returns-in_default
unfolding frame_of frame_faults
returns-in_default c = rw (misplaced-unless_open c.args.stage 0 c.in_default.not-Open).1
