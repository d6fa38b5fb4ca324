-- The header and the two parts of the body are put one behind the other; together they are the job's frame.
use native.Mathlib.Omega.{arith}
use Rattle.packing.specs.Packing.{cut_job}
use Rattle.packing.proofs.PutLaws.{job_none, job_put, high_fits}
use Rattle.packing.proofs.put.put_job.Goals as goal

pub returns-then-out-lt14 : goal.returns-then-out-lt14
returns-then-out-lt14 c = let a = c.args in job_none (cut_job a.j) 0 a.out.now (omega arith)

pub overflow_add-j : goal.overflow_add-j
overflow_add-j c =
    let a = c.args in
    record { fits = high_fits _ a.j.allowed (omega arith) (omega arith) }

pub returns : goal.returns
returns c =
    let a = c.args in
    job_put a.out.now (cut_job a.j) 0 (omega arith) (omega arith) (omega arith)
    c.packed.ensures c.put.ensures c.put-2.ensures c.put-3.ensures
