-- The header alone is the end's frame.
use native.Mathlib.Omega.{arith}
use Rattle.packing.proofs.PutLaws.{end_none, end_put}
use Rattle.packing.proofs.put.put_end.Goals as goal

pub returns-then-out-lt3 : goal.returns-then-out-lt3
returns-then-out-lt3 c = let a = c.args in end_none a.at a.out.now (omega arith)

pub returns-then-out-at : goal.returns-then-out-at
returns-then-out-at c = let a = c.args in end_none a.at a.out.now (omega arith)

pub returns : goal.returns
returns c =
    let a = c.args in
    end_put a.out.now a.at (omega arith) c.packed.ensures c.put.ensures
