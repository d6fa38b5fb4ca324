-- `head_spare`: the last five bits of the head's seven bytes (Fields).
use native.Mathlib.Omega.{arith}
use Rattle.bits.specs.Bits.{Bytes}
use Rattle.unpacking.proofs.FieldLaws.{head_spare_digits}
use Rattle.unpacking.proofs.header.head_spare.Goals as goal

pub returns : goal.returns
returns c =
    let s = c.args.body.now in
    let ok : Bytes s = λ i. omega (arith, c.shared_slice_known-1.given i) in
    rw c.big7.ensures.0 (head_spare_digits s ok)
