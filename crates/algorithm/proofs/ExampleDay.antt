-- A small day, so that the hypotheses on days are not empty by mistake: benches 0 and 1 joined by two rocks, and a third rock that hangs
-- off bench 1 to bench 2.
--     example-sound, example-uncrowded     it is sound, and no component is crowded
--     example_left, example-place          the third rock is peeled, and goes to bench 2
--     example-spread                       the two rocks that are left go round
use Prim.Native.Nat.{ℕ, zero, suc, ◌≤◌}
use mathlib.Core.Path.{◌≡◌, refl}
use mathlib.Core.Bool.{Bool, true, false, ◌&&◌, ◌||◌}
use mathlib.Core.List.{[], ◌∷◌}
use native.Mathlib.Omega.{arith}
use lib.Dec.{eqb, ltb}
use borrow.Author.Tests.{ltb-true}
use Rattle.bools.proofs.BoolLaws.{and_left}
use Rattle.sums.specs.Table.{table}
use Rattle.day.specs.Day.{Day, choices}
use Rattle.algorithm.specs.Rocks.{lowest, highest}
use Rattle.algorithm.specs.Start.{crowded_bench, one_cycle, peel, start}
use Rattle.algorithm.specs.Settle.{follow, settle_from}
use Rattle.algorithm.specs.SoundDay.{SoundDay, Uncrowded}
use Rattle.closure.specs.Closure.{grow, closure, reach}
use Rattle.algorithm.proofs.RockGraph.{uncrowded}
use Rattle.algorithm.proofs.SpreadLaws.{settled_all, spread_of}

abbrev ends : ℕ → ℕ → Bool
ends zero v = eqb v 0 || eqb v 1
ends (suc zero) v = eqb v 0 || eqb v 1
ends (suc (suc j)) v = eqb v 1 || eqb v 2

abbrev example : Day
example =
    record {
      benches = 3;
      jobs = 3;
      p = 4;
      q = 5;
      target = 10;
      minutes = λ j. 9;
      allows = λ j v. ltb v 3 && ends j v;
      booked = λ v. 0;
    }

example-sound : SoundDay example
example-sound =
    record {
      positive = omega arith;
      below_one = omega arith;
      share = omega arith;
      some_bench = λ j h. (1, omega arith, one j);
      allowed_below = λ j v p. ltb-true v 3 (and_left (ltb v 3) (ends j v) p);
      fits = λ j h. omega arith;
      heavy_two = λ j h p. few j;
    }
  where
    one : (j : ℕ) → (ltb 1 3 && ends j 1) ≡ true
    one zero = refl
    one (suc zero) = refl
    one (suc (suc j)) = refl

    few : (j : ℕ) → choices example j ≤ 2
    few zero = omega arith
    few (suc zero) = omega arith
    few (suc (suc j)) = omega arith

none-crowded : crowded_bench example ≡ 3
unfolding crowded_bench reach closure grow lowest
none-crowded = refl

example-uncrowded : Uncrowded example
example-uncrowded = uncrowded example none-crowded

example_left : (start example).left ≡ true ∷ true ∷ false ∷ []
unfolding start peel one_cycle reach closure grow lowest
example_left = refl

example-place : (start example).place ≡ 0 ∷ 0 ∷ 2 ∷ []
unfolding start peel one_cycle reach closure grow lowest
example-place = refl

example-spread : table 2 (spread_of example) ≡ 1 ∷ 0 ∷ []
unfolding spread_of settled_all settle_from follow start peel one_cycle reach closure grow lowest highest
example-spread = refl
