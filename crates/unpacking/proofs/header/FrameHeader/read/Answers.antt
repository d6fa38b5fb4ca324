-- `FrameHeader::read`: the fields are digits of the header's three bytes (Fields).
use native.Mathlib.Omega.{arith}
use Rattle.bits.specs.Bits.{Bytes}
use Rattle.unpacking.proofs.FieldLaws.{version_digits, kind_digits, length_digits}
use Rattle.unpacking.proofs.header.FrameHeader.read.Goals as goal

pub returns : goal.returns
returns c =
    let s = c.args.s.now in
    let ok : Bytes s = λ i. omega (arith, c.shared_slice_known-1.given i) in (
      rw c.big3-n.ensures.0 (version_digits s ok),
      rw c.big3-n.ensures.0 (kind_digits s ok),
      rw c.big3-n.ensures.0 (length_digits s ok),
      omega arith,
    )
