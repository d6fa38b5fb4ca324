-- By cases on what is read.
use Rattle.set_check.proofs.CheckRun.{refused_is, accepted_is}
use Rattle.set_check.proofs.SetLaws.{promised}
use Rattle.set_check.proofs.check.check_set.Goals as goal

pub returns-in-Err : goal.returns-in-Err
returns-in-Err c =
    let whole = promised c.args.s.now c.args.set c.ranges.set.fits
    (refused_is c.args.s.now c.args.set c.read.ensures c.in-Err.is) in
    record { equation = whole.0; claim = whole.1 }

pub returns-in-Ok : goal.returns-in-Ok
returns-in-Ok c =
    let whole = promised c.args.s.now c.args.set c.ranges.set.fits
    (accepted_is c.args.s.now c.args.set c.in-Ok.sheet c.read.ensures c.in-Ok.is c.check_sheet.ensures) in
    record { equation = whole.0; claim = whole.1 }
