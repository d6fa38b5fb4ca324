-- What is booked on the benches passed (WeightLaws).
use mathlib.Core.Path.{◌≡◌}
use Rattle.sums.specs.Sum.{sum}
use Rattle.day.specs.Day.{Day}
use Rattle.weighing.specs.Weights.{Bookings}
use Rattle.weighing.proofs.WeightLaws.{booked_in}
use Rattle.weighing.proofs.weighing.booked_weight.Given as goal

abbrev pub invariant-loop-v : goal.invariant-loop-v
invariant-loop-v l = (d : Day) → (B : Bookings d l.benches l.booked)
    → l.total ≡ sum l.v (booked_in d l.benches l.booked l.set B)
