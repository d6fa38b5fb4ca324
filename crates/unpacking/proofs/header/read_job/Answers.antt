-- `read_job`: the minutes lie in the first eight bytes, the benches straddle them and the last three (Fields).
use native.Mathlib.Omega.{arith}
use Rattle.bits.specs.Bits.{Bytes}
use Rattle.unpacking.proofs.FieldLaws.{job_digits_lem}
use Rattle.unpacking.proofs.header.read_job.Goals as goal

pub returns : goal.returns
returns c =
    let s = c.args.body.now in
    let ok : Bytes s = λ i. omega (arith, c.shared_slice_known-1.given i) in
    rw (c.big8-front.ensures, c.job_back-back.ensures.0) (job_digits_lem s ok)
