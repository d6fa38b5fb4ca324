-- The component, as a set (DayRun).
use Rattle.decisions.proofs.DayRun.{crowded_set}
use Rattle.deciding.proofs.deciding.crowded.Goals as goal

pub returns : goal.returns
returns c d R below =
    crowded_set d c.args.v c.component-set.result c.component-set.type_inv (c.component-set.ensures d R below)
