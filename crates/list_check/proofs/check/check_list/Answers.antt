-- By cases on what is read.
use Rattle.list_check.proofs.CheckRun.{refused_is, accepted_is}
use Rattle.list_check.proofs.check.check_list.Goals as goal

pub returns-in-Err : goal.returns-in-Err
returns-in-Err c =
    let whole = refused_is c.args.s.now c.args.list.now c.read.ensures c.in-Err.is in
    record { equation = whole.0; claim = whole.1 }

pub returns-in-Ok : goal.returns-in-Ok
returns-in-Ok c =
    let whole = accepted_is c.args.s.now c.args.list.now c.in-Ok.sheet c.read.ensures c.in-Ok.is c.check_places.ensures in
    record { equation = whole.0; claim = whole.1 }
