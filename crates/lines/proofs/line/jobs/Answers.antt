-- The loop's invariant: the lines of the first j jobs are put.
use Prim.Native.Nat.{ℕ}
use native.Mathlib.Omega.{arith}
use mathlib.Core.Path.{◌≡◌, ap}
use lib.ListN.{length}
use Rattle.lines.specs.Lines.{job_lines}
use Rattle.lines.proofs.BufferLaws.{puts_none, puts_then, puts_as}
use Rattle.lines.proofs.LineSteps.{jobs_none, jobs_more}
use Rattle.lines.proofs.line.jobs.Goals as goal

pub loop-j-init : goal.loop-j-init
loop-j-init c = puts_as (jobs_none c.args.places.now) (puts_none c.args.out.now c.args.at c.min-end.ensures)

pub loop-j-preserved : goal.loop-j-preserved
loop-j-preserved c = puts_as (jobs_more c.args.places.now c.loop-j.j) (puts_then c.loop-j.invariant c.pair-end.ensures)

pub returns : goal.returns
returns c =
    let e : c.loop-j.j ≡ length c.args.places.now = omega arith in
    puts_as (ap (λ (n : ℕ). job_lines n c.args.places.now) e) c.loop-j.invariant
