-- The header and the fields are put one behind the other; together they are the head's frame.
use native.Mathlib.Omega.{arith}
use Rattle.packing.specs.Packing.{cut_head}
use Rattle.packing.proofs.PutLaws.{head_none, head_put}
use Rattle.packing.proofs.put.put_head.Goals as goal

pub returns-then-out-lt10 : goal.returns-then-out-lt10
returns-then-out-lt10 c = let a = c.args in head_none (cut_head a.h) a.out.now (omega arith)

pub returns : goal.returns
returns c =
    let a = c.args in
    head_put a.out.now (cut_head a.h) (omega arith) (omega arith)
    c.packed.ensures c.put.ensures c.put-2.ensures
