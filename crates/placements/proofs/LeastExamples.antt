-- The least weight of a placement and the test of a set, computed on small days. Share 4/7.
-- Two benches, T = 5, a job of 5 on bench 0 only and one of 5 on both, which has to go to bench 1:
--     forced-outside, forced-inside     the least weight inside {0} and inside {1} is 5
--     at_the_target             so {1} weighs k × T, and does not block
--     one_above, booked_above   with a light job of 1 that allows bench 1 only, or with 1 minute booked there, it does
--     light_with_a_choice       a light job of 1 that allows both benches does not count
-- Two benches, T = 5, jobs of 5 and 4 on both, a cycle of two:
--     cycle_least               either job may be inside {0}: the least weight is 4
--     cycle_booked, cycle_open  so with 2 booked on bench 0 that bench blocks, and with 1 it does not
-- Two benches, T = 8, three jobs of 5 on both (example 4):
--     no_placement              there is no placement
--     any_set-blocks, no_set-blocks     every set but the empty one blocks
-- Three benches, T = 5, a job of 5 on benches 0 and 1 and one of 4 on benches 0 and 2, a tree:
--     tree-middle, tree-leaf, tree-two, tree-leaves, tree_all     the least weights inside {0}, {1}, {0, 1}, {1, 2}
--                               and all benches
-- One bench, T = 0, and T = 1, nothing to do:
--     nothing_weighs            an idle bench does not block
use Prim.Native.Nat.{ℕ, ◌+◌, ◌^◌}
use mathlib.Core.Path.{◌≡◌, refl}
use mathlib.Core.Bool.{true, false}
use mathlib.Core.List.{[], ◌∷◌}
use Rattle.bits.specs.Bits.{is_set}
use Rattle.day.specs.Day.{Day}
use Rattle.day.specs.SmallSheets.{day_with, booked_day, bay, first, second, both, outside}
use Rattle.algorithm.specs.Rocks.{lowest, highest}
use Rattle.std.specs.Prelude.{None, Some}
use Rattle.placements.specs.Classes.{to_low, placed, put_job, after, least_of}
use Rattle.placements.specs.LeastWeight.{least_heavy, blocks}

abbrev bench0 : ℕ
bench0 = 2 ^ 63

abbrev bench1 : ℕ
bench1 = 2 ^ 62

abbrev bench2 : ℕ
bench2 = 2 ^ 61

-- ── one bench only ──

abbrev forced : Day
forced = day_with (bay 2 4 7 5) (first 5 ∷ both 5 ∷ [])

pub forced-outside : least_heavy forced (is_set 64 bench0) ≡ Some 5
unfolding is_set lowest highest to_low placed put_job after least_of
forced-outside = refl

pub forced-inside : least_heavy forced (is_set 64 bench1) ≡ Some 5
unfolding is_set lowest highest to_low placed put_job after least_of
forced-inside = refl

pub at_the_target : blocks forced (is_set 64 bench1) ≡ false
unfolding is_set lowest highest to_low placed put_job after least_of blocks
at_the_target = refl

pub one_above : blocks (day_with (bay 2 4 7 5) (first 5 ∷ both 5 ∷ second 1 ∷ [])) (is_set 64 bench1) ≡ true
unfolding is_set lowest highest to_low placed put_job after least_of blocks
one_above = refl

pub booked_above : blocks (booked_day (bay 2 4 7 5) (0 ∷ 1 ∷ []) (first 5 ∷ both 5 ∷ [])) (is_set 64 bench1) ≡ true
unfolding is_set lowest highest to_low placed put_job after least_of blocks
booked_above = refl

pub light_with_a_choice : blocks (day_with (bay 2 4 7 5) (first 5 ∷ both 5 ∷ both 1 ∷ [])) (is_set 64 bench1) ≡ false
unfolding is_set lowest highest to_low placed put_job after least_of blocks
light_with_a_choice = refl

-- ── a cycle of two ──

pub cycle_least : least_heavy (day_with (bay 2 4 7 5) (both 5 ∷ both 4 ∷ [])) (is_set 64 bench0) ≡ Some 4
unfolding is_set lowest highest to_low placed put_job after least_of
cycle_least = refl

pub cycle_booked : blocks (booked_day (bay 2 4 7 5) (2 ∷ []) (both 5 ∷ both 4 ∷ [])) (is_set 64 bench0) ≡ true
unfolding is_set lowest highest to_low placed put_job after least_of blocks
cycle_booked = refl

pub cycle_open : blocks (booked_day (bay 2 4 7 5) (1 ∷ []) (both 5 ∷ both 4 ∷ [])) (is_set 64 bench0) ≡ false
unfolding is_set lowest highest to_low placed put_job after least_of blocks
cycle_open = refl

-- ── no placement ──

abbrev crowded : Day
crowded = day_with (bay 2 4 7 8) (both 5 ∷ both 5 ∷ both 5 ∷ [])

pub no_placement : least_heavy crowded (is_set 64 bench0) ≡ None
unfolding is_set lowest highest to_low placed put_job after least_of
no_placement = refl

pub any_set-blocks : (blocks crowded (is_set 64 bench0) ≡ true) × (blocks crowded (is_set 64 bench1) ≡ true)
    × (blocks crowded (is_set 64 (bench0 + bench1)) ≡ true)
unfolding is_set lowest highest to_low placed put_job after least_of blocks
any_set-blocks = (refl, refl, refl)

pub no_set-blocks : blocks crowded (is_set 64 0) ≡ false
unfolding is_set lowest highest to_low placed put_job after least_of blocks
no_set-blocks = refl

-- ── a tree ──

abbrev tree : Day
tree = day_with (bay 3 4 7 5) (both 5 ∷ outside 4 ∷ [])

pub tree-middle : least_heavy tree (is_set 64 bench0) ≡ Some 0
unfolding is_set lowest highest to_low placed put_job after least_of
tree-middle = refl

pub tree-leaf : least_heavy tree (is_set 64 bench1) ≡ Some 0
unfolding is_set lowest highest to_low placed put_job after least_of
tree-leaf = refl

pub tree-two : least_heavy tree (is_set 64 (bench0 + bench1)) ≡ Some 5
unfolding is_set lowest highest to_low placed put_job after least_of
tree-two = refl

pub tree-leaves : least_heavy tree (is_set 64 (bench1 + bench2)) ≡ Some 4
unfolding is_set lowest highest to_low placed put_job after least_of
tree-leaves = refl

pub tree_all : least_heavy tree (is_set 64 (bench0 + bench1 + bench2)) ≡ Some 9
unfolding is_set lowest highest to_low placed put_job after least_of
tree_all = refl

-- ── an idle bench ──

pub nothing_weighs : (blocks (day_with (bay 1 4 7 0) []) (is_set 64 bench0) ≡ false)
    × (blocks (day_with (bay 1 4 7 1) []) (is_set 64 bench0) ≡ false)
unfolding is_set lowest highest to_low placed put_job after least_of blocks
nothing_weighs = (refl, refl)
