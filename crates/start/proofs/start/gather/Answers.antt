-- The jobs passed were gathered.
use mathlib.Core.Path.{sym, ap, ◌∙◌}
use native.Mathlib.Omega.{arith}
use lib.ListN.{set}
use Rattle.sums.proofs.CountLaws.{count-le}
use Rattle.sets.specs.Sets.{lowest_of, highest_of}
use Rattle.start.proofs.StartLaws.{marks, gathered_starts, gathered_more, gathered_past, gathered-all}
use Rattle.start.proofs.start.gather.Goals.{then-at, else-at}
use Rattle.start.proofs.start.gather.Goals as goal

pub loop-j-init : goal.loop-j-init
loop-j-init c =
    gathered_starts c.args.jobs c.args.marked.now c.args.allowed.now c.args.job.now c.args.low.now c.args.high.now

pub overflow_add-k : goal.overflow_add-k
overflow_add-k c =
    omega (arith, c.loop-j.invariant.so_many, count-le c.loop-j.j (marks c.args.marked.now), c.loop-j-test.true, c.ranges.jobs)

pub loop-j-preserved : goal.loop-j-preserved
loop-j-preserved c = elim c.if-at.branch [
  | then-at w ↦
      gathered_more _ _ _ _ _ _ c.loop-j.invariant c.loop-j-test.true (sym c.at.ensures ∙ w.if-at.true) w.k-is
      (w.job-is ∙ w.put.ensures)
      (w.low-is ∙ w.put-then-at.ensures ∙ ap (set c.loop-j.low c.loop-j.k) (w.lowest.ensures ∙ ap lowest_of w.at-set.ensures))
      (w.high-is ∙ w.put-then-at-2.ensures ∙ ap (set c.loop-j.high c.loop-j.k) (w.highest.ensures ∙ ap highest_of w.at-set.ensures))
  | else-at w ↦
      gathered_past _ _ _ _ _ _ c.loop-j.invariant (sym c.at.ensures ∙ w.if-at.false) w.k-is w.job-is w.low-is w.high-is
]

pub returns : goal.returns
returns c = (
  gathered-all _ _ _ _ _ _ c.loop-j.invariant c.loop-j.auto.j-end (omega arith),
  c.loop-j.invariant.jobs_in,
  c.loop-j.invariant.lows_in,
  c.loop-j.invariant.highs_in,
)
