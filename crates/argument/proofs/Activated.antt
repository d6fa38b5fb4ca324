-- The activated set blocks (Lemma 4.4.4): where no move is left, the activated benches carry more than the target each, in every placement.
--     over_activated      the sum of a function over the activated benches
--     benches_have        the bench inequality, summed over the activated benches
--     rocks_weigh         the rocks placed on activated benches: what they weigh, and what they weigh less than the target
--     activated_blocks    the activated benches, if there are any, carry in every placement more than their number times the target
use Prim.Native.Nat.{ℕ, ◌+◌, ◌-◌, ◌*◌, ◌≤◌, ◌<◌}
use mathlib.Core.Bool.{Bool, ◌&&◌}
use mathlib.Core.Path.{◌≡◌}
use native.Mathlib.Omega.{arith}
use native.Mathlib.Nat.{mul-le-mul_left}
use Rattle.bools.proofs.BoolLaws.{and_left}
use Rattle.sums.specs.Sum.{on, sum, count}
use Rattle.sums.proofs.MoreSumLaws.{sum-on_mono, sum-on_cong, sum-on-add, sum-on-mul, sum-on-const}
use Rattle.argument.specs.Exploration.{Exploration, NoMoveLeft, InsidePlacement, target, inside, children, fathers, over_children, over_fathers}
use Rattle.argument.proofs.ExplorationLaws.{inside-rock}
use Rattle.argument.proofs.Gifts.{gift_head, gift_tail, gifts_enough}
use Rattle.argument.proofs.BenchInequality.{bench_inequality}
use Rattle.argument.proofs.Counting.{placed_activated, children-activated, fathers-activated, placed-at_most_activated}

abbrev over_activated : Exploration → (ℕ → ℕ) → ℕ
over_activated x f = sum x.benches (λ v. on (x.activated v) (f v))

module _ (x : Exploration) (no_move : NoMoveLeft x) where
  benches_have : (2 * x.R + 2 + 4 * x.d) * count x.benches x.activated
      + 2 * (over_activated x (over_children x (gift_head x)) + over_activated x (over_fathers x (gift_tail x)))
      ≤ 2 * over_activated x x.own + (2 * x.R + 1) * over_activated x (children x) + 4 * x.d * over_activated x (fathers x)
  benches_have = omega (
    arith,
    sum-on_mono x.benches x.activated (λ v. need + 2 * gifts v) (λ v. 2 * x.own v + (2 * x.R + 1) * children x v + 4 * x.d * fathers x v)
        (bench_inequality x no_move),
    add (λ v. need) (λ v. 2 * gifts v),
    sum-on-const x.benches x.activated need,
    mul 2 gifts,
    add (over_children x (gift_head x)) (over_fathers x (gift_tail x)),
    add (λ v. 2 * x.own v + (2 * x.R + 1) * children x v) (λ v. 4 * x.d * fathers x v),
    add (λ v. 2 * x.own v) (λ v. (2 * x.R + 1) * children x v),
    mul 2 x.own,
    mul (2 * x.R + 1) (children x),
    mul (4 * x.d) (fathers x),
  )
    where
      need : ℕ
      need = 2 * x.R + 2 + 4 * x.d

      gifts : ℕ → ℕ
      gifts v = over_children x (gift_head x) v + over_fathers x (gift_tail x) v

      add : (f g : ℕ → ℕ) → over_activated x (λ v. f v + g v) ≡ over_activated x f + over_activated x g
      add = sum-on-add x.benches x.activated

      mul : (c : ℕ) (f : ℕ → ℕ) → over_activated x (λ v. c * f v) ≡ c * over_activated x f
      mul = sum-on-mul x.benches x.activated

  module _ (place : ℕ → ℕ) (placement : InsidePlacement x place) where
    rocks_weigh : sum x.jobs (λ e. on (inside x e && x.activated (place e)) (x.weight e))
        + sum x.jobs (λ e. on (inside x e && x.activated (place e)) (target x - x.weight e)) ≡ target x * placed_activated x place
    rocks_weigh = omega (
      arith,
      sum-on-add x.jobs there x.weight (λ e. target x - x.weight e),
      sum-on_cong x.jobs there (λ e. x.weight e + (target x - x.weight e)) (λ e. target x)
          (λ e l p. omega (arith, no_move.rock_fits e l (inside-rock x e (and_left (inside x e) (x.activated (place e)) p)))),
      sum-on-const x.jobs there (target x),
    )
      where
        there : ℕ → Bool
        there e = inside x e && x.activated (place e)

    -- With g rocks placed on a activated benches: twice what these carry is at least a (2R + 2 + 4d) + 2 t g - (2R + 1) g - 4d g,
    -- which is a (2R + 2 + 4d) - (1 + 2d) g, and with g ≤ a at least a (2R + 2d + 1), more than twice a t.
    pub activated_blocks : 0 < count x.benches x.activated
        → count x.benches x.activated * target x
        < sum x.benches (λ v. on (x.activated v) (x.own v)) + sum x.jobs (λ e. on (inside x e && x.activated (place e)) (x.weight e))
    activated_blocks some = omega (
      arith,
      benches_have,
      gifts_enough x no_move place placement,
      rocks_weigh,
      mul-le-mul_left (2 * x.R + 1) (children-activated x no_move place placement),
      mul-le-mul_left (4 * x.d) (fathers-activated x no_move place placement),
      mul-le-mul_left (1 + 2 * x.d) (placed-at_most_activated x no_move place placement),
    )
