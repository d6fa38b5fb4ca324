-- The bench inequality: what an activated bench has, by itself and by its rocks, is enough for the target and for its gifts.
--     Enough k                the inequality for bench v, if it has k children: 2R + 2 + 4d and twice all its gifts are at most 2 own + (2R + 1) k + 4d |F|
--     children-shares         the shares of the rocks in D(v), with in(v), are at most t for each of them
--     children-shares_small, fathers-shares_small     the shares in D(v), and in F(v), are at most 2d for each rock
--     fathers-shares          a rock e in F(v) with b < z + e takes not 2d but t - e, less than t + z - b
--     children-gifts, fathers-gifts       gifts and what is saved are at most the shares
--     earlier_saves           a bench with an earlier neighbour saves d
--     no_child, one_child, more-children  the inequality for benches with 0, 1 and at least 2 children
--     one_child-type_a        and for a Type A bench with 1 child
--     bench_inequality        the inequality for every activated bench
use Prim.Native.Nat.{ℕ, zero, suc, ◌+◌, ◌*◌, ◌≤◌, ◌<◌}
use mathlib.Core.Bool.{true}
use mathlib.Core.Path.{◌≡◌, refl, ap}
use mathlib.Core.Logic.{inl, inr}
use native.Mathlib.Omega.{arith}
use native.Mathlib.Nat.{mul-le-mul_right}
use Rattle.argument.specs.Exploration.{Exploration, NoMoveLeft, FatherAbove, EarlierNeighbour, target, bound, push_limit, inside}
use Rattle.argument.specs.Exploration.{children, fathers, over_children, over_fathers, into}
use Rattle.argument.proofs.OrientationLaws.{gathered-add, gathered_mono, gathered-term, gathered-at_most, gathered-gap}
use Rattle.argument.proofs.ExplorationLaws.{inside-rock}
use Rattle.argument.proofs.Gifts.{share, saved_head, saved_tail, gift_head, gift_tail, share-small, share-fits}
use Rattle.argument.proofs.Gifts.{saved-earlier, gift_head-saved, gift_tail-saved}

abbrev pub Enough : Exploration → ℕ → ℕ → Type 0
Enough x v k = 2 * x.R + 2 + 4 * x.d + 2 * (over_children x (gift_head x) v + over_fathers x (gift_tail x) v)
    ≤ 2 * x.own v + (2 * x.R + 1) * k + 4 * x.d * fathers x v

module _ (x : Exploration) (no_move : NoMoveLeft x) (v : ℕ) where
  -- ── shares ──

  children-shares : over_children x (share x) v + into x v ≤ target x * children x v
  children-shares = omega (
    arith,
    gathered-add x.jobs (inside x) x.head v (share x) x.weight,
    gathered-at_most x.jobs (inside x) x.head v (λ e. share x e + x.weight e) (target x)
        (λ e l p q. share-fits x e (no_move.rock_fits e l (inside-rock x e p))),
  )

  children-shares_small : over_children x (share x) v ≤ 2 * x.d * children x v
  children-shares_small = gathered-at_most x.jobs (inside x) x.head v (share x) (2 * x.d) (λ e l p q. share-small x e)

  fathers-shares_small : over_fathers x (share x) v ≤ 2 * x.d * fathers x v
  fathers-shares_small = gathered-at_most x.jobs (inside x) x.tail v (share x) (2 * x.d) (λ e l p q. share-small x e)

  fathers-shares : (b z : ℕ) → FatherAbove x b z v → over_fathers x (share x) v + 2 * x.d + b < 2 * x.d * fathers x v + target x + z
  fathers-shares b z e = omega (
    arith,
    gathered-gap x.jobs (inside x) x.tail v (share x) (2 * x.d) (λ i l p q. share-small x i) e.father e.below e.within e.leaves,
    share-fits x e.father (no_move.rock_fits e.father e.below (inside-rock x e.father e.within)),
    e.above,
  )

  -- ── gifts ──

  children-gifts : over_children x (gift_head x) v + over_children x (saved_head x) v ≤ over_children x (share x) v
  children-gifts = omega (
    arith,
    gathered-add x.jobs (inside x) x.head v (gift_head x) (saved_head x),
    gathered_mono x.jobs (inside x) x.head v (λ e. gift_head x e + saved_head x e) (share x) (λ e l p q. omega (arith, gift_head-saved x e)),
  )

  fathers-gifts : over_fathers x (gift_tail x) v + over_fathers x (saved_tail x) v ≤ over_fathers x (share x) v
  fathers-gifts = omega (
    arith,
    gathered-add x.jobs (inside x) x.tail v (gift_tail x) (saved_tail x),
    gathered_mono x.jobs (inside x) x.tail v (λ e. gift_tail x e + saved_tail x e) (share x) (λ e l p q. omega (arith, gift_tail-saved x e)),
  )

  earlier_saves : EarlierNeighbour x v → x.d ≤ over_children x (saved_head x) v + over_fathers x (saved_tail x) v
  earlier_saves u = let e = u.joining in elim u.earlier [
    | inl (q, less) ↦ omega (
      arith,
      gathered-term x.jobs (inside x) x.head v (saved_head x) e u.below u.within q,
      saved-earlier x e (x.head e) (x.tail e) u.small (omega (arith, ap x.rank q)),
    )
    | inr (q, less) ↦ omega (
      arith,
      gathered-term x.jobs (inside x) x.tail v (saved_tail x) e u.below u.within q,
      saved-earlier x e (x.tail e) (x.head e) u.small (omega (arith, ap x.rank q)),
    )
  ]

  -- ── the cases ──

  -- The gifts of v are at most the shares. Those to D(v) are at most t |D| - in(v), and at most 2d |D|; those to F(v) are at most 2d |F|,
  -- and where a father e has b < z + e, less than 2d |F| - 2d + t + z - b. Why v is in the conflict set, and why it is activated, give b and z.

  -- in(v) is 0: the bench is full by itself, or a rock was forced from it that with its own load alone passes B.
  no_child : v < x.benches → x.conflict v ≡ true → children x v ≡ 0 → Enough x v 0
  no_child below conflict none = let empty = rw none at children-shares in
      elim (no_move.conflict_cause v below conflict) [
        | inl a ↦ elim (no_move.type_a_full v below a) [
          | inl full ↦ omega (arith, children-gifts, fathers-gifts, fathers-shares_small)
          | inr (some, e) ↦ absurd (omega arith)
        ]
        | inr e ↦ omega (arith, children-gifts, fathers-gifts, fathers-shares (bound x) (x.own v + into x v) e)
      ]

  one_child-type_a : v < x.benches → x.type_a v ≡ true → children x v ≡ 1 → Enough x v 1
  one_child-type_a below a one = let whole = rw one at children-shares in
      let small = rw one at children-shares_small in
      elim (no_move.type_a_full v below a) [
        | inl full ↦ omega (arith, children-gifts, fathers-gifts, fathers-shares_small)
        | inr (some, e) ↦ omega (arith, children-gifts, fathers-gifts, fathers-shares (push_limit x) (x.own v) e)
      ]

  -- A bench activated by Rule 2 is of Type A, or had a rock forced from it with in(v) counted; that the gift to the earlier neighbour saves d is enough.
  one_child : v < x.benches → x.conflict v ≡ true → x.activated v ≡ true → children x v ≡ 1 → Enough x v 1
  one_child below conflict active one = let whole = rw one at children-shares in
      let small = rw one at children-shares_small in
      elim (no_move.activated_cause v below active) [
        | inl a ↦ one_child-type_a below a one
        | inr (inl e) ↦ omega (arith, no_move.heavy_limit, children-gifts, fathers-gifts, fathers-shares (bound x) (x.own v) e)
        | inr (inr u) ↦ elim (no_move.conflict_cause v below conflict) [
          | inl a ↦ one_child-type_a below a one
          | inr e ↦ omega (arith, children-gifts, fathers-gifts, earlier_saves u, fathers-shares (bound x) (x.own v + into x v) e)
        ]
      ]

  -- Here R ≥ 6d is used: k children bring (2R + 1) k, which is 2R + 2 + 4d and 4d for each of them.
  more-children : (k : ℕ) → children x v ≡ suc (suc k) → Enough x v (suc (suc k))
  more-children k more = let small = rw more at children-shares_small in
      omega (arith, children-gifts, fathers-gifts, fathers-shares_small, no_move.share_limit, mul-le-mul_right k no_move.share_limit)

  pub bench_inequality : v < x.benches → x.activated v ≡ true → Enough x v (children x v)
  bench_inequality below active = by-children (children x v) refl
    where
      conflict : x.conflict v ≡ true
      conflict = no_move.activated_conflict v below active

      by-children : (k : ℕ) → children x v ≡ k → Enough x v k
      by-children zero none = no_child below conflict none
      by-children (suc zero) one = one_child below conflict active one
      by-children (suc (suc k)) more = more-children k more
