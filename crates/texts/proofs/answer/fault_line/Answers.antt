-- The word, and the line of the two numbers.
use Rattle.lines.proofs.LineSteps.{fault_put}
use Rattle.texts.proofs.answer.fault_line.Goals as goal

pub returns : goal.returns
returns c =
    let f = c.args.f in
    fault_put f c.number.ensures c.place.ensures c.bytes-end.ensures
    c.pair.ensures
