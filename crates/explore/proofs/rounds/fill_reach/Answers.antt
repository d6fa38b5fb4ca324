-- The sets hold what the pebbles among the jobs passed allow (ReachRun).
use native.Mathlib.Omega.{arith}
use Rattle.explore.proofs.ReachRun.{filled_none, filled_next}
use Rattle.explore.proofs.rounds.fill_reach.Goals as goal

pub loop-j-init : goal.loop-j-init
loop-j-init c = λ b same few Q e. filled_none b 64 few e

pub loop-j-preserved : goal.loop-j-preserved
loop-j-preserved c = λ b same few Q e.
    filled_next b c.args.pebble.now c.args.allowed.now c.args.place.now c.loop-j.reach c.loop-j.j Q (omega (arith, same))
    (c.loop-j.invariant b same few Q e) c.add_pebble.ensures
