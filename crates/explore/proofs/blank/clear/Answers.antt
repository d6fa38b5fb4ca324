-- Table by table (BlankRun).
use Rattle.explore.proofs.BlankRun.{cleared}
use Rattle.explore.proofs.blank.clear.Goals as goal

pub returns : goal.returns
returns c = λ sized B.
    cleared c.args.n c.args.own.now c.args.dir.now c.args.load.now c.args.joined.now c.args.level.now _ _ _ _ sized B
    c.saturating_add-never.ensures c.fill.ensures c.to_numbers.ensures c.fill-2.ensures c.fill-3.ensures
