-- The sets hold what the pebbles among the jobs passed allow (ReachRun).
use mathlib.Core.Path.{◌≡◌}
use Prim.Native.Nat.{◌≤◌}
use lib.ListN.{replicate}
use Rattle.algorithm.specs.Board.{Board}
use Rattle.rocks.specs.BoardArrays.{Pebbles}
use Rattle.explore.proofs.ReachRun.{Filled}
use Rattle.explore.proofs.rounds.fill_reach.Given as goal

abbrev pub invariant-loop-j : goal.invariant-loop-j
invariant-loop-j l =
    (b : Board) → l.fn.n.jobs ≡ b.jobs → b.benches ≤ 64 → Pebbles b l.pebble l.allowed l.place
    → l.initial.reach ≡ replicate 64 0 → Filled b l.j l.reach
