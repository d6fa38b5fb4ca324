-- The weights of the rocks passed are filled in.
use Prim.Native.Nat.{ℕ}
use mathlib.Core.Path.{ap, ◌∙◌}
use lib.ListN.{get_or}
use Rattle.arrays.proofs.FilledLaws.{filled_none, filled_more}
use Rattle.run.proofs.tables.pick.Goals as goal

pub loop-r-init : goal.loop-r-init
loop-r-init c = filled_none (λ r. get_or c.args.amount.now (get_or c.args.job.now r 0) 0) c.args.weight.now

pub loop-r-preserved : goal.loop-r-preserved
loop-r-preserved c =
    filled_more (λ r. get_or c.args.amount.now (get_or c.args.job.now r 0) 0) c.loop-r.r c.args.weight.now
    c.loop-r.invariant (c.at-in-loop-r.ensures ∙ ap (λ (k : ℕ). get_or c.args.amount.now k 0) c.at.ensures)
    c.put.ensures
