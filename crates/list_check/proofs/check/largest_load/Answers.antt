-- The loads begin with what is booked.
use native.Mathlib.Omega.{arith}
use Rattle.list_check.proofs.CheckRun.{largest-found}
use Rattle.list_check.proofs.check.largest_load.Goals as goal

pub returns : goal.returns
returns c =
    λ s allowed t. largest-found s _ _ _ _ allowed t c.args.list.now 64 (omega arith) c.sum_list.new.load
    c.to_numbers.ensures c.sum_list.ensures.loads c.sum_list.ensures.fullest
