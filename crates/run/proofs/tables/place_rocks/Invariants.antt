-- The places of the rocks passed.
use mathlib.Core.Path.{◌≡◌}
use Rattle.run.specs.TableArrays.{placed_of}
use Rattle.run.proofs.tables.place_rocks.Given as goal

abbrev pub invariant-loop-r : goal.invariant-loop-r
invariant-loop-r l = l.place ≡ placed_of l.r l.job l.dir l.initial.place
