-- The places of the rocks passed.
use mathlib.Core.Path.{ap, ◌∙◌}
use lib.ListN.{set}
use Rattle.run.proofs.TableRun.{placed_none, placed_more}
use Rattle.run.proofs.tables.place_rocks.Goals as goal

pub loop-r-init : goal.loop-r-init
loop-r-init c = placed_none c.args.job.now c.args.dir.now c.args.place.now

pub loop-r-preserved : goal.loop-r-preserved
loop-r-preserved c =
    placed_more c.args.job.now c.args.dir.now c.args.place.now c.loop-r.r c.loop-r.invariant c.at.ensures
    c.saturating_sub-v.ensures c.at-in-loop-r.ensures (c.put.ensures ∙ ap (set c.loop-r.place c.at-in-loop-r.result) c.of.ensures)
