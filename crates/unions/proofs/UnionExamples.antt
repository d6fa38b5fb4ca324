-- Unions on a small day. Three benches, T = 4, share 4/7, no job, bench 1 booked for 10.
--     left_blocks, right_blocks     {0, 1} and {1, 2} weigh 10, more than 2 × T
--     shared_not_blocking           their union weighs 10 too, and that is not more than 3 × T: sets that share a bench
--                                   may block, and their union not
--     one_order, other_order        {0, 1} and {2} joined either way are all three benches
use Prim.Native.Nat.{ℕ, ◌/◌}
use mathlib.Core.Path.{◌≡◌, refl}
use mathlib.Core.Bool.{Bool, true}
use mathlib.Core.List.{[], ◌∷◌}
use native.Mathlib.Omega.{arith}
use lib.Dec.{eqb, ltb}
use Rattle.sums.specs.Search.{all}
use Rattle.day.specs.Day.{Day}
use Rattle.day.specs.SmallSheets.{booked_day, bay}
use Rattle.demand.specs.Demand.{Placement, Blocking}
use Rattle.unions.specs.Unions.{union, one, join, joined}

abbrev middle_booked : Day
middle_booked = booked_day (bay 3 4 7 4) (0 ∷ 10 ∷ []) []

abbrev left : ℕ → Bool
left v = ltb v 2

abbrev right : ℕ → Bool
right v = ltb 0 v

pub left_blocks : Blocking middle_booked left
left_blocks = record { some_bench = omega arith; heavier = λ place pl. omega arith }

pub right_blocks : Blocking middle_booked right
right_blocks = record { some_bench = omega arith; heavier = λ place pl. omega arith }

nothing_placed : Placement middle_booked (λ j. 0)
nothing_placed =
    record { on_allowed = λ j l. absurd (omega arith); one_to_a_bench = λ e f l. absurd (omega arith) }

pub shared_not_blocking : Blocking middle_booked (union left right) → ⊥
shared_not_blocking B = omega (arith, B.heavier (λ j. 0) nothing_placed)

-- Set 0 is {0, 1}, set 1 is {2}.
abbrev sets : ℕ → ℕ → Bool
sets i v = eqb (v / 2) i

pub one_order : all 3 (joined sets (join (one 0) (one 1))) ≡ true
one_order = refl

pub other_order : all 3 (joined sets (join (one 1) (one 0))) ≡ true
other_order = refl
