-- What PUSH asks for (Definition 4.4.3).
--     Pushed b x j v      the pebble j may be pushed to the bench v, condition by condition
--     push_allowed        the test can_push says so
--     pushed_level        the bench that the pebble lies on is active
--     pushed_joined       v is in the conflict set
--     pushed_fits         v takes the pebble besides its load and stays within the bound
--     pushed_critical     where the fathers of v are light, v has room for the pebble beside any one rock inside the conflict set
use Prim.Native.Nat.{ℕ, suc, ◌+◌, ◌≤◌, ◌<◌}
use mathlib.Core.Path.{◌≡◌}
use mathlib.Core.Logic.{◌⊎◌, ⊎_elim}
use mathlib.Core.Bool.{Bool, true, not, ◌&&◌, ◌||◌}
use lib.Dec.{eqb, leb}
use native.Mathlib.Omega.{arith}
use borrow.Author.Tests.{ltb-true, leb-true, eqb-true, lt-ltb}
use Rattle.bools.proofs.BoolLaws.{and_intro, and_left, and_right, or_elim, not-true, clash}
use Rattle.sums.proofs.SearchLaws.{all_elim}
use Rattle.algorithm.specs.Board.{Board, touches, other, load}
use Rattle.algorithm.specs.Explore.{Explored, never, in_conflict, activated, father}
use Rattle.algorithm.specs.Push.{leaf, light_fathers, can_push}
use Rattle.algorithm.specs.Properties.{SoundBoard, rnd, lev, Facts}
use Rattle.algorithm.proofs.ConflictLaws.{towards-weight, conflict_ends}

pub record Pushed (b : Board) (x : Explored) (j v : ℕ) : Type 0 where
  pub pebble : b.pebble j ≡ true
  pub allowed : b.allows j v ≡ true
  pub active : lev b x v ≤ b.benches
  pub one_higher : lev b x v ≡ suc (lev b x (b.place j))
  pub load_low : load b x.dir v ≤ b.limit
  pub leaf_or_light : (leaf b x v ≡ true) ⊎ (light_fathers b x v ≡ true)

pub push_allowed : (b : Board) (x : Explored) (j v : ℕ) → can_push b x j v ≡ true → Pushed b x j v
push_allowed b x j v p =
    record {
      pebble = and_left pebble allows (and_left (pebble && allows) active to-active);
      allowed = and_right pebble allows (and_left (pebble && allows) active to-active);
      active = omega (arith, ltb-true (lev b x v) (never b) (and_right (pebble && allows) active to-active));
      one_higher = eqb-true (lev b x v) (suc (lev b x (b.place j))) (and_right (pebble && allows && active) higher to-higher);
      load_low = leb-true (load b x.dir v) b.limit (and_right (pebble && allows && active && higher) low to_low);
      leaf_or_light = or_elim (leaf b x v) (light_fathers b x v) (and_right (pebble && allows && active && higher && low) _ p);
    }
  where
    pebble : Bool
    pebble = b.pebble j

    allows : Bool
    allows = b.allows j v

    active : Bool
    active = activated b x v

    higher : Bool
    higher = eqb (lev b x v) (suc (lev b x (b.place j)))

    low : Bool
    low = leb (load b x.dir v) b.limit

    to_low : (pebble && allows && active && higher && low) ≡ true
    to_low = and_left (pebble && allows && active && higher && low) (leaf b x v || light_fathers b x v) p

    to-higher : (pebble && allows && active && higher) ≡ true
    to-higher = and_left (pebble && allows && active && higher) low to_low

    to-active : (pebble && allows && active) ≡ true
    to-active = and_left (pebble && allows && active) higher to-higher

module _ (b : Board) (ok : SoundBoard b) (x : Explored) (facts : Facts b x) (j v : ℕ) (hj : j < b.jobs) (h : v < b.benches) (push : Pushed b x j v) where
  pub pushed_level : lev b x (b.place j) < b.benches
  pushed_level = omega (arith, push.active, push.one_higher)

  pub pushed_joined : rnd b x v ≤ b.benches
  pushed_joined = omega (arith, facts.joined_first v h, push.active)

  pub pushed_fits : load b x.dir v + b.weight j ≤ b.bound
  pushed_fits = omega (arith, push.load_low, ok.pebble_light j hj push.pebble)

  -- A rock that leads away from v weighs little by the second case of the definition, one that leads to v by the limit on the load of v.
  pub pushed_critical : light_fathers b x v ≡ true → (e : ℕ) → e < b.jobs → touches b e v ≡ true → rnd b x (other b e v) ≤ b.benches
      → b.own v + b.weight j + b.weight e ≤ b.bound
  pushed_critical light e he t joined =
      ⊎_elim
      (λ d. omega (arith, pushed_fits, towards-weight b x.dir e v he t d))
      (λ d.
      let f : father b x.dir (in_conflict b x) v e ≡ true = and_intro d (lt-ltb (rnd b x (other b e v)) (never b) (omega arith)) in
      let low : b.own v + b.weight e ≤ b.limit =
      ⊎_elim (λ no-father. clash f (not-true _ no-father)) (λ l. leb-true (b.own v + b.weight e) b.limit l)
      (or_elim _ _ (all_elim b.jobs (λ i. not (father b x.dir (in_conflict b x) v i) || leb (b.own v + b.weight i) b.limit) light e he))
      in
      omega (arith, ok.pebble_light j hj push.pebble))
      (conflict_ends b ok x facts e v he h t pushed_joined)
