-- The text of each answer, from what the calls put one behind the other.
use Rattle.lines.proofs.BufferLaws.{puts_as}
use Rattle.lines.proofs.LineSteps.{long_put, none_put, fault_alone, text_put}
use Rattle.texts.proofs.answer.text.Goals as goal

pub returns-in-Plan : goal.returns-in-Plan
returns-in-Plan c =
    text_put c.args.places.now c.in-Plan.is
    c.plan_lines.ensures

pub returns-in-Long : goal.returns-in-Long
returns-in-Long c =
    let places = c.args.places.now in
    text_put places c.in-Long.is
    (long_put places c.in-Long.a c.bytes-end.ensures c.word-end.ensures
    c.end_line.ensures)

pub returns-in-None : goal.returns-in-None
returns-in-None c =
    let places = c.args.places.now in
    text_put places c.in-None.is
    (none_put places c.in-None.a c.bytes-end-in-None.ensures c.word-end-in-None.ensures
    c.benches-end.ensures c.end_line-in-None.ensures)

pub returns-in-Fault : goal.returns-in-Fault
returns-in-Fault c =
    let places = c.args.places.now in
    text_put places c.in-Fault.is
    (puts_as (fault_alone c.in-Fault.f places) c.fault_line.ensures)
