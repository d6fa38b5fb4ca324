-- `finish`: the stage decides; the numbers were read from fields, so 12 is looked for.
use mathlib.Core.Path.{◌∙◌}
use Rattle.checks.proofs.HyperEdges.{checked_fits}
use Rattle.reading.proofs.reader.finish.Goals as goal

pub returns-in-Closed : goal.returns-in-Closed
returns-in-Closed c bs =
    let a = c.args in
    rw c.in-Closed.is
    (c.check_hyper_edges.ensures ∙ checked_fits a.minutes.now a.allowed.now a.count a.h c.requires)
