-- The verdict is that of the head where it refuses, and else that of the bookings.
use Rattle.std.proofs.lemmas.Result.{err_from_is_err_and}
use Rattle.frame.proofs.WriterSteps.{opening_refused, opening_passed}
use Rattle.writing.proofs.writer.check_opening.Goals as goal

pub returns-in_err-check_head : goal.returns-in_err-check_head
returns-in_err-check_head c =
    let a = c.args in
    let p = err_from_is_err_and c.from_residual.result c.from_residual.ensures.1 in
    rw (p.1, p.2) (opening_refused a.h a.booked.now c.check_head.ensures c.in_err-check_head.was)

pub returns : goal.returns
returns c =
    let a = c.args in
    opening_passed a.h a.booked.now c.check_head.ensures c.in_ok-check_head.was c.check_bookings.ensures
