-- What is left of the set without the benches of the head (CheckRun).
use mathlib.Core.Path.{◌∙◌}
use Rattle.set_check.proofs.CheckRun.{foreign_is}
use Rattle.set_check.proofs.check.foreign.Goals as goal

pub returns : goal.returns
returns c =
    c.then_some.ensures
    ∙ foreign_is c.args.benches c.args.set c.everywhere.result c.less.result c.everywhere.ensures c.less.ensures
    c.lowest-lacking.ensures
