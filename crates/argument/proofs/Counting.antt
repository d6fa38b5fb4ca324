-- Counting: the activated benches have no more children, no more fathers, and are no fewer, than the rocks that a placement puts on them.
--     placed                          how many rocks inside a placement puts on v
--     placed_activated                how many it puts on activated benches
--     forced                          a rock was forced from each bench of the conflict set that is not activated
--     father_of_conflict, child_of_conflict       so such a bench has a father, and it has a child
--     place_below                     a rock inside is placed on a bench
--     placed-at_most_one              on each bench at most one
--     placed-outside_conflict         on a bench outside the conflict set none
--     ends_activated                  the activated benches are ends of at most as many rocks as are placed on them
--     children-activated, fathers-activated       as heads, and as tails
--     placed-at_most_activated        at most as many rocks are placed on activated benches as there are such benches
use Prim.Native.Nat.{ℕ, ◌+◌, ◌≤◌, ◌<◌}
use mathlib.Core.Bool.{true, false, ◌&&◌}
use mathlib.Core.Path.{◌≡◌, sym, ◌∙◌, ap}
use mathlib.Core.Logic.{inl, inr}
use native.Mathlib.Omega.{arith}
use Rattle.bools.proofs.BoolLaws.{split, clash}
use Rattle.bools.proofs.OrderLaws.{lt-or-le}
use Rattle.sums.specs.Sum.{on, sum, count}
use Rattle.sums.proofs.CountLaws.{sum-on-at_most}
use Rattle.sums.proofs.MoreSumLaws.{sum-exchange}
use Rattle.argument.specs.Orientation.{number}
use Rattle.argument.specs.Exploration.{Exploration, NoMoveLeft, FatherAbove, InsidePlacement, bound, inside, children, fathers, into}
use Rattle.argument.proofs.OrientationLaws.{number-pos, number-none, number-one, number-all, number-over}
use Rattle.argument.proofs.ExplorationLaws.{inside-head, inside-tail, father_above, into-none}

abbrev pub placed : Exploration → (ℕ → ℕ) → ℕ → ℕ
placed x place v = number x.jobs (inside x) place v

abbrev pub placed_activated : Exploration → (ℕ → ℕ) → ℕ
placed_activated x place = count x.jobs (λ e. inside x e && x.activated (place e))

-- ── the conflict set ──

module _ (x : Exploration) (no_move : NoMoveLeft x) (v : ℕ) (below : v < x.benches) (conflict : x.conflict v ≡ true) (idle : x.activated v ≡ false) where
  forced : FatherAbove x (bound x) (x.own v + into x v) v
  forced = elim (no_move.conflict_cause v below conflict) [ inl a ↦ clash (no_move.type_a_activated v below a) idle | inr e ↦ e ]

  pub father_of_conflict : 0 < fathers x v
  father_of_conflict = number-pos x.jobs (inside x) x.tail v forced.father forced.below forced.within forced.leaves

  -- Without a child in(v) is 0, and Rule 1 applies to the rock that was forced from v.
  pub child_of_conflict : 0 < children x v
  child_of_conflict = elim (lt-or-le 0 (children x v)) [
    | inl some ↦ some
    | inr none ↦ clash (no_move.rule_one_applied v below conflict (father_above x (omega (arith, into-none x v (omega arith))) forced)) idle
  ]

-- ── a placement ──

module _ (x : Exploration) (no_move : NoMoveLeft x) (place : ℕ → ℕ) (placement : InsidePlacement x place) where
  pub place_below : (e : ℕ) → e < x.jobs → inside x e ≡ true → place e < x.benches
  place_below e l p = elim (placement.on_an_end e l p) [
    | inl q ↦ rw q (no_move.head_below e l p)
    | inr q ↦ rw q (no_move.tail_below e l p)
  ]

  pub placed-at_most_one : (v : ℕ) → placed x place v ≤ 1
  placed-at_most_one v = number-one x.jobs (inside x) place v placement.one_to_a_bench

  pub placed-outside_conflict : (v : ℕ) → x.conflict v ≡ false → placed x place v ≡ 0
  placed-outside_conflict v out = number-none x.jobs (inside x) place v (λ e l p q. elim (placement.on_an_end e l p) [
    | inl r ↦ clash (ap x.conflict (sym q ∙ r) ∙ inside-head x e p) out
    | inr r ↦ clash (ap x.conflict (sym q ∙ r) ∙ inside-tail x e p) out
  ])

  -- Each rock inside has one head, one tail and one place, so over all benches children, fathers and placed rocks make the same number.
  -- A bench that is not activated has at most one placed rock, and none outside the conflict set: no more than it has children, and fathers.
  -- So over the activated benches it is the other way round.
  ends_activated : (end : ℕ → ℕ) → ((e : ℕ) → e < x.jobs → inside x e ≡ true → end e < x.benches)
      → ((v : ℕ) → v < x.benches → x.conflict v ≡ true → x.activated v ≡ false → 0 < number x.jobs (inside x) end v)
      → sum x.benches (λ v. on (x.activated v) (number x.jobs (inside x) end v)) ≤ placed_activated x place
  ends_activated end end_Below some = omega (
    arith,
    number-over x.benches x.jobs (inside x) place place_below x.activated,
    sum-exchange x.benches x.activated (placed x place) (number x.jobs (inside x) end) fewer
        (number-all x.benches x.jobs (inside x) place place_below ∙ sym (number-all x.benches x.jobs (inside x) end end_Below)),
  )
    where
      fewer : (v : ℕ) → v < x.benches → x.activated v ≡ false → placed x place v ≤ number x.jobs (inside x) end v
      fewer v below idle = elim (split (x.conflict v)) [
        | inl conflict ↦ omega (arith, placed-at_most_one v, some v below conflict idle)
        | inr out ↦ omega (arith, placed-outside_conflict v out)
      ]

  pub children-activated : sum x.benches (λ v. on (x.activated v) (children x v)) ≤ placed_activated x place
  children-activated = ends_activated x.head no_move.head_below (child_of_conflict x no_move)

  pub fathers-activated : sum x.benches (λ v. on (x.activated v) (fathers x v)) ≤ placed_activated x place
  fathers-activated = ends_activated x.tail no_move.tail_below (father_of_conflict x no_move)

  pub placed-at_most_activated : placed_activated x place ≤ count x.benches x.activated
  placed-at_most_activated = omega (
    arith,
    number-over x.benches x.jobs (inside x) place place_below x.activated,
    sum-on-at_most x.benches x.activated (placed x place) 1 (λ v l a. placed-at_most_one v),
  )
