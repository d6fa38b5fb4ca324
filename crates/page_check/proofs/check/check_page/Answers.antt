-- By cases on what is read.
use Rattle.page_check.proofs.PageRun.{refused_is, accepted_is}
use Rattle.page_check.proofs.PageLaws.{promised}
use Rattle.page_check.proofs.check.check_page.Goals as goal

pub returns-in-Err : goal.returns-in-Err
returns-in-Err c =
    let whole = promised c.args.s.now c.args.page.now
    (refused_is c.args.s.now c.args.page.now c.read.ensures c.in-Err.is) in
    record { equation = whole.0; claim = whole.1 }

pub returns-in-Ok : goal.returns-in-Ok
returns-in-Ok c =
    let whole = promised c.args.s.now c.args.page.now
    (accepted_is c.args.s.now c.args.page.now c.in-Ok.sheet c.read.ensures c.in-Ok.is c.check_sheet.ensures) in
    record { equation = whole.0; claim = whole.1 }
