-- `read_head`: the fields are digits of the head's seven bytes (Fields).
use native.Mathlib.Omega.{arith}
use Rattle.bits.specs.Bits.{Bytes}
use Rattle.unpacking.proofs.FieldLaws.{head_digits_lem}
use Rattle.unpacking.proofs.header.read_head.Goals as goal

pub returns : goal.returns
returns c =
    let s = c.args.body.now in
    let ok : Bytes s = λ i. omega (arith, c.shared_slice_known-1.given i) in
    rw c.big7-n.ensures.0 (head_digits_lem s ok)
