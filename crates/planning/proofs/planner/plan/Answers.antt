-- By whether the sheet is read (SheetRun).
use Rattle.planning.proofs.SheetRun.{refused_answer, accepted_answer}
use Rattle.planning.proofs.planner.plan.Goals as goal

pub returns-in-Err : goal.returns-in-Err
returns-in-Err c =
    rw c.unwritten.ensures
    (refused_answer c.args.s.now _ _ c.args.places.now c.args.loads.now c.read.ensures c.in-Err.is)

pub returns-in-Ok : goal.returns-in-Ok
returns-in-Ok c =
    accepted_answer c.args.s.now _ _ c.args.places.now c.args.loads.now c.read.ensures c.in-Ok.is c.plan_sheet.ensures
