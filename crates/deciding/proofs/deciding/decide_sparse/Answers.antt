-- Weights and pebbles (DayRun). The table has the balances themselves.
use Prim.Native.Nat.{ℕ}
use mathlib.Core.Path.{sym, subst}
use mathlib.Core.Bool.{Bool, false}
use mathlib.Core.List.{List}
use native.Mathlib.Omega.{arith}
use lib.ListN.{replicate, length-replicate}
use Rattle.std.proofs.lemmas.List.{map-id}
use Rattle.rocks.specs.declared.balancing.Balance.{Balance}
use Rattle.run.specs.Held.{Sparse}
use Rattle.decisions.proofs.DayRun.{pebble-marks, weighed, burdened}
use Rattle.deciding.proofs.deciding.decide_sparse.Goals as goal

pub returns : goal.returns
returns c d L S =
    let h = c.args.h in
    let n = c.args.n in
    let minutes = c.args.minutes.now in
    let allowed = c.args.allowed.now in
    let booked = c.args.booked in
    let F = L.fields in
    let nb = S.day_rocks.benches in
    c.decide_run.ensures d minutes (record {
      fields = F;
      sparse_day = subst (λ (xs : List Balance). Sparse d n c.args.job.now c.args.low.now c.args.high.now xs c.args.rock)
          (sym (map-id c.args.balance.now)) S;
      pebbly = pebble-marks d h n.jobs minutes allowed booked L
          (replicate 512 false) (omega (arith, length-replicate {A = Bool} 512 false))
          c.mark_pebbles.ensures;
      amounts = weighed d h n.jobs minutes allowed booked L
          (replicate 512 0) (omega (arith, length-replicate {A = ℕ} 512 0)) c.weigh-2.ensures;
      burdens = burdened d h n.jobs minutes allowed booked L n.benches nb
          (replicate 64 0) (omega (arith, length-replicate {A = ℕ} 64 0)) c.weigh.ensures;
    })
