-- `booking_spare`: the last six bits of the booking's four bytes (Fields).
use native.Mathlib.Omega.{arith}
use Rattle.bits.specs.Bits.{Bytes}
use Rattle.unpacking.proofs.FieldLaws.{booking_spare_digits}
use Rattle.unpacking.proofs.header.booking_spare.Goals as goal

pub returns : goal.returns
returns c =
    let s = c.args.body.now in
    let ok : Bytes s = λ i. omega (arith, c.shared_slice_known-1.given i) in
    rw c.big4.ensures.0 (booking_spare_digits s ok)
