-- From run to run, until the bounds meet (SearchRun).
use native.Mathlib.Omega.{arith}
use mathlib.Core.Path.{◌∙◌}
use Rattle.searching.proofs.SearchRun.{start_is, search_ends}
use Rattle.searching.proofs.searching.search.Goals as goal

pub loop-kept-init : goal.loop-kept-init
loop-kept-init c d L =
    c.begin-kept.ensures d L
    (c.start_target-start.ensures
    ∙ start_is d c.args.h c.args.jobs c.args.minutes.now c.args.allowed.now _ L)

pub returns : goal.returns
returns c d L = search_ends d c.loop-kept.kept (c.loop-kept.invariant d L) (omega (arith, c.loop-kept-test.false))
