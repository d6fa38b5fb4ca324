-- Turn by turn (StateRun).
use Prim.Native.Nat.{◌-◌}
use mathlib.Core.Path.{◌≡◌}
use lib.ListN.{length}
use Rattle.day.specs.Day.{Day}
use Rattle.rock_graph.specs.Graph.{lows, highs, weights}
use Rattle.run.specs.Held.{Ready}
use Rattle.run.proofs.StateRun.{Turning}
use Rattle.turns.proofs.loops.turns.Given as goal

abbrev pub invariant-loop : goal.invariant-loop
invariant-loop l = record {
  load_room : length l.load ≡ 64;
  joined_room : length l.joined ≡ 64;
  level_room : length l.level ≡ 64;
  turning : (d : Day) (R : Ready d l.n (lows l.graph) (highs l.graph) (weights l.graph) l.amount l.pebble l.allowed)
      → length l.initial.dir ≡ 64
      → Turning d l.n (lows l.graph) (highs l.graph) (weights l.graph) l.amount l.pebble l.allowed R l.end
      l.initial.s l.initial.place l.initial.own l.initial.reach
      → Turning d l.n (lows l.graph) (highs l.graph) (weights l.graph) l.amount l.pebble l.allowed R
      (l.end - l.counter) l.s l.place l.own l.reach;
}
