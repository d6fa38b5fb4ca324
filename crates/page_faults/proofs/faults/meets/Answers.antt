-- By the benches that both have (FaultRun).
use Rattle.page_faults.proofs.FaultRun.{meets_is}
use Rattle.page_faults.proofs.faults.meets.Goals as goal

pub returns : goal.returns
returns c =
    meets_is c.args.seen c.args.set c.common.result c.common.type_inv c.common.ensures
