-- The word, the line of the three numbers, and the lines of the jobs.
use Rattle.lines.proofs.LineSteps.{plan_put}
use Rattle.texts.proofs.answer.plan_lines.Goals as goal

pub returns : goal.returns
returns c =
    plan_put c.args.places.now c.args.a c.bytes-end.ensures c.triple-end.ensures c.jobs.ensures
