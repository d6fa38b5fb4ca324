-- `job_back`: the definition of `big`, at the bytes behind the first eight.
use native.Mathlib.Omega.{arith}
use lib.Seq.{get_or-drop}
use Rattle.bits.specs.Bits.{big}
use Rattle.unpacking.proofs.header.job_back.Goals as goal

pub returns : goal.returns
unfolding big
returns c =
    let s = c.args.body.now in
    omega (arith, get_or-drop 8 s 0 0, get_or-drop 8 s 1 0, get_or-drop 8 s 2 0)
