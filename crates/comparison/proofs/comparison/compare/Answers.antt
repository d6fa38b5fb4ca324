-- By cases on what is read.
use Rattle.comparison.proofs.CompareRun.{refused_is, accepted_is}
use Rattle.comparison.proofs.comparison.compare.Goals as goal

pub returns-in-Err : goal.returns-in-Err
returns-in-Err c = refused_is c.args.s.now c.args.first.now c.args.second.now c.read.ensures c.in-Err.is

pub returns-in-Ok : goal.returns-in-Ok
returns-in-Ok c =
    accepted_is c.args.s.now c.args.first.now c.args.second.now c.in-Ok.sheet c.read.ensures c.in-Ok.is
    c.compare_lists.ensures
