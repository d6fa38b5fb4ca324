-- `judge`: each kind has its own judge; any other kind is fault 3.
use native.Mathlib.Omega.{arith}
use borrow.Author.Tests.{ne_eqb}
use Rattle.judging.specs.Steps.{frame_of}
use Rattle.judging.specs.FrameTests.{frame_faults}
use Rattle.judging.proofs.judge.judge.Goals as goal

pub returns-in-1 : goal.returns-in-1
unfolding frame_of frame_faults
returns-in-1 c = rw c.in-1.is c.judge_head.ensures

pub returns-in-2 : goal.returns-in-2
unfolding frame_of frame_faults
returns-in-2 c = rw c.in-2.is c.judge_job.ensures

pub returns-in-3 : goal.returns-in-3
unfolding frame_of frame_faults
returns-in-3 c = rw c.in-3.is c.judge_end.ensures

pub returns-in-4 : goal.returns-in-4
unfolding frame_of frame_faults
returns-in-4 c = rw c.in-4.is c.judge_booking.ensures

pub returns-in_default : goal.returns-in_default
unfolding frame_of frame_faults
returns-in_default c =
    let kind = c.args.kind in
    rw (
      ne_eqb kind 1 (λ e. omega arith),
      ne_eqb kind 2 (λ e. omega arith),
      ne_eqb kind 3 (λ e. omega arith),
      ne_eqb kind 4 (λ e. omega arith),
    )
