-- The text of each answer, from what the calls put one behind the other.
use Rattle.lines.proofs.BestSteps.{best_put, best_fault_put}
use Rattle.texts.proofs.best.best_text.Goals as goal

pub returns-in-Best : goal.returns-in-Best
returns-in-Best c =
    best_put c.args.places.now c.in-Best.is
    c.bytes-end.ensures c.pair-end.ensures c.plan_lines.ensures

pub returns-in-Fault : goal.returns-in-Fault
returns-in-Fault c =
    best_fault_put c.args.places.now c.in-Fault.is
    c.fault_line.ensures
