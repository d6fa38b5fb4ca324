-- Each product is that of the definition.
use Rattle.list_check.proofs.CheckRun.{within_exact}
use Rattle.list_check.proofs.check.within.Goals as goal

pub returns : goal.returns
returns c =
    λ s sound e small. within_exact s sound c.args.h e c.args.load small c.times-scale.ensures
    c.times.ensures c.saturating_add-share.ensures c.times-2.ensures c.times-3.ensures
