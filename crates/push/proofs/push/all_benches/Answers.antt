-- All numbers but those from `benches` on.
use Rattle.push.proofs.PushRun.{all_below}
use Rattle.push.proofs.push.all_benches.Goals as goal

pub returns : goal.returns
returns c =
    all_below c.args.benches c.above.result c.with-past.result c.less.result c.above.ensures c.with-past.ensures
    c.less.ensures
