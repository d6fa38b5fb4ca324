-- `entry_or`: past its end the list reads as the number given for that.
use Rattle.sums.proofs.TableLaws.{get_or-there}
use Rattle.checks.proofs.hyper_edges.entry_or.Goals as goal

pub returns-then-n-t : goal.returns-then-n-t
returns-then-n-t c =
    let a = c.args in
    get_or-there a.t.now a.n 0 a.missing c.if-n-t.true
