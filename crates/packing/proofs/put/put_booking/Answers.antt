-- The header and the fields are put one behind the other; together they are the booking's frame.
use native.Mathlib.Omega.{arith}
use Rattle.packing.specs.Packing.{cut_booking}
use Rattle.packing.proofs.PutLaws.{booking_none, booking_put}
use Rattle.packing.proofs.put.put_booking.Goals as goal

pub returns-then-out-lt7 : goal.returns-then-out-lt7
returns-then-out-lt7 c = let a = c.args in booking_none (cut_booking a.b) a.out.now (omega arith)

pub returns : goal.returns
returns c =
    let a = c.args in
    booking_put a.out.now (cut_booking a.b) (omega arith) (omega arith)
    c.packed.ensures c.put.ensures c.put-2.ensures
