-- What the light jobs passed weigh that can go nowhere but into the set (WeightLaws).
use mathlib.Core.Path.{◌≡◌}
use Rattle.sums.specs.Sum.{sum}
use Rattle.day.specs.Day.{Day}
use Rattle.placing.specs.ClassArrays.{Holds}
use Rattle.weighing.proofs.WeightLaws.{light_at}
use Rattle.weighing.proofs.weighing.light_weight.Given as goal

abbrev pub invariant-loop-j : goal.invariant-loop-j
invariant-loop-j l = (d : Day) → (H : Holds d l.bay l.jobs l.minutes l.allowed)
    → l.total ≡ sum l.j (light_at d l.bay l.jobs l.minutes l.allowed H)
