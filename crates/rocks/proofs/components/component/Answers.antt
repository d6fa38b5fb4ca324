-- What neutral rocks link to a bench is its component (ComponentRun).
use lib.ListN.{replicate}
use Rattle.sums.proofs.TableLaws.{get_or-same}
use Rattle.rocks.proofs.ComponentRun.{component-found}
use Rattle.rocks.proofs.components.component.Goals as goal

pub returns : goal.returns
returns c =
    λ d R hv.
    component-found d c.args.n c.args.low.now c.args.high.now R (replicate 512 0) (get_or-same 512 0)
    c.args.v c.with.result c.spread.result hv c.with.ensures c.spread.ensures
