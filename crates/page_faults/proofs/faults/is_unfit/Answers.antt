-- An empty set, else the lowest bench that the head lacks (FaultRun).
use mathlib.Core.Path.{◌∙◌}
use borrow.Author.Tests.{eq-eqb}
use Rattle.page_faults.proofs.FaultRun.{unfit-empty, unfit-found}
use Rattle.page_faults.proofs.faults.is_unfit.Goals as goal

pub returns-then-set-eq0 : goal.returns-then-set-eq0
returns-then-set-eq0 c =
    eq-eqb c.args.set 0 c.if-set-eq0.true ∙ unfit-empty c.args.benches c.args.set c.if-set-eq0.true

pub returns-else-set-eq0 : goal.returns-else-set-eq0
returns-else-set-eq0 c =
    c.is_some.ensures
    ∙ unfit-found c.args.benches c.args.set c.ranges.set.fits c.if-set-eq0.false c.foreign.ensures
