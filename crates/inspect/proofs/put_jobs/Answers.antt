-- The numbers of the first i jobs stand from byte 544 on, and all else is as it was.
use Prim.Native.Nat.{◌+◌, ◌*◌}
use native.Mathlib.Omega.{arith}
use mathlib.Core.Path.{◌≡◌, ◌∙◌}
use Rattle.tables.proofs.TableSteps.{put_some}
use Rattle.read_door.proofs.ReadSteps.{jobs_none, jobs_more}
use Rattle.inspect.proofs.put_jobs.Goals as goal

pub loop-i-init : goal.loop-i-init
loop-i-init c = jobs_none c.args.table.now

pub loop-i-preserved : goal.loop-i-preserved
loop-i-preserved c =
    jobs_more c.args.table.now c.args.minutes.now c.args.allowed.now c.loop-i.i (omega arith) (omega arith)
    c.loop-i.invariant (c.put.ensures ∙ put_some _ (68 + 2 * c.loop-i.i) _ (omega arith))
    (c.put-in-loop-i.ensures ∙ put_some _ (69 + 2 * c.loop-i.i) _ (omega arith))

pub returns : goal.returns
returns c =
    let e : c.loop-i.i ≡ c.args.n = omega arith in
    rw (← e) c.loop-i.invariant
