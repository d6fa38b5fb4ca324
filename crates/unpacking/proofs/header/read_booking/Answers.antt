-- `read_booking`: the fields are digits of the booking's four bytes (Fields).
use native.Mathlib.Omega.{arith}
use Rattle.bits.specs.Bits.{Bytes}
use Rattle.unpacking.proofs.FieldLaws.{booking_digits_lem}
use Rattle.unpacking.proofs.header.read_booking.Goals as goal

pub returns : goal.returns
returns c =
    let s = c.args.body.now in
    let ok : Bytes s = λ i. omega (arith, c.shared_slice_known-1.given i) in
    rw c.big4-n.ensures.0 (booking_digits_lem s ok)
