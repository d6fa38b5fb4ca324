-- By whether the sheet is read (BestRun), and what follows from the equation (BestDemand).
use lib.ListN.{length}
use Rattle.best_target.proofs.BestRun.{best_refused, refusal-answered, read_answered}
use Rattle.best_target.proofs.BestDemand.{answered_claim}
use Rattle.best_target.proofs.finder.best.Goals as goal

pub returns-in-Err : goal.returns-in-Err
returns-in-Err c =
    let places = c.args.places.now in
    let loads = c.args.loads.now in
    let told = refusal-answered
    (best_refused c.args.s.now (length places) (length loads) c.read.ensures c.in-Err.is) c.refusal.ensures places
    loads in
    record { equation = told; claim = answered_claim c.args.s.now places loads _ _ _ told }

pub returns-in-Ok : goal.returns-in-Ok
returns-in-Ok c =
    let places = c.args.places.now in
    let loads = c.args.loads.now in
    let told = read_answered c.args.s.now (length places) (length loads) places loads c.read.ensures c.in-Ok.is
    c.best_of_sheet.ensures in
    record { equation = told; claim = answered_claim c.args.s.now places loads _ _ _ told }
