-- `job_spare`: the last four bits of the job's last three bytes (Fields).
use native.Mathlib.Omega.{arith}
use Rattle.bits.specs.Bits.{Bytes}
use Rattle.unpacking.proofs.FieldLaws.{job_spare_digits}
use Rattle.unpacking.proofs.header.job_spare.Goals as goal

pub returns : goal.returns
returns c =
    let s = c.args.body.now in
    let ok : Bytes s = λ i. omega (arith, c.shared_slice_known-1.given i) in
    rw c.job_back.ensures.0 (job_spare_digits s ok)
