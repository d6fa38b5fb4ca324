-- Gifts: what an activated bench hands to the rocks inside that it is an end of, to make up for what a rock weighs less than the target.
--     share e             min (t - e, 2d)
--     saved v u e         of v, for a rock e to u: d where e is below R and u has the smaller rank
--     saved_head, saved_tail          what the head of a rock saves, and what its tail saves
--     gift_head, gift_tail            the gift of the head to a rock, and of the tail: its share less what is saved
--     share-small         a share is at most 2d
--     share-fits          with the weight of its rock it is at most t
--     saved-earlier       d is saved where the rock is below R and the other end has the smaller rank
--     saved-large         nothing is saved for a rock from R on
--     saved-later         nor where the other end has not the smaller rank
--     saved-at_most, saved-at_most-share      what is saved is at most d, and at most the share
--     saved-once          both ends together save at most d
--     gift_head-saved, gift_tail-saved        a gift and what is saved make a share
--     rock_inequality     the gifts to a rock with an activated end make up for what it weighs less than the target
--     gifts_enough        so all gifts make up for what the rocks placed on activated benches weigh less
use Prim.Native.Nat.{ℕ, ◌+◌, ◌-◌, ◌*◌, ◌≤◌, ◌<◌, min}
use mathlib.Core.Bool.{true, ◌&&◌}
use mathlib.Core.Path.{◌≡◌, sym, ◌∙◌, ap}
use mathlib.Core.Logic.{◌⊎◌, inl, inr}
use lib.Dec.{ltb}
use native.Mathlib.Omega.{arith}
use borrow.Author.Tests.{lt-ltb, le-ltb}
use Rattle.bools.proofs.BoolLaws.{split, and-false_right}
use Rattle.bools.proofs.OrderLaws.{lt-or-le}
use Rattle.sums.specs.Sum.{on, sum}
use Rattle.sums.proofs.SumLaws.{on-le, sum-add, sum-le}
use Rattle.argument.specs.Exploration.{Exploration, NoMoveLeft, InsidePlacement, target, inside, over_children, over_fathers}
use Rattle.argument.proofs.OrientationLaws.{gathered-over}
use Rattle.argument.proofs.ExplorationLaws.{inside-rock}

abbrev pub share : Exploration → ℕ → ℕ
share x e = min (target x - x.weight e) (2 * x.d)

abbrev pub saved : Exploration → ℕ → ℕ → ℕ → ℕ
saved x v u e = on (ltb (x.weight e) x.R && ltb (x.rank u) (x.rank v)) x.d

abbrev pub saved_head : Exploration → ℕ → ℕ
saved_head x e = saved x (x.head e) (x.tail e) e

abbrev pub saved_tail : Exploration → ℕ → ℕ
saved_tail x e = saved x (x.tail e) (x.head e) e

abbrev pub gift_head : Exploration → ℕ → ℕ
gift_head x e = share x e - saved_head x e

abbrev pub gift_tail : Exploration → ℕ → ℕ
gift_tail x e = share x e - saved_tail x e

module _ (x : Exploration) (e : ℕ) where
  -- ── shares ──

  pub share-small : share x e ≤ 2 * x.d
  share-small = omega arith

  pub share-fits : x.weight e ≤ target x → share x e + x.weight e ≤ target x
  share-fits h = omega arith

  -- ── what is saved ──

  pub saved-earlier : (v u : ℕ) → x.weight e < x.R → x.rank u < x.rank v → saved x v u e ≡ x.d
  saved-earlier v u small less = cc (lt-ltb (x.weight e) x.R small, lt-ltb (x.rank u) (x.rank v) less)

  pub saved-large : (v u : ℕ) → x.R ≤ x.weight e → saved x v u e ≡ 0
  saved-large v u large = cc (le-ltb (x.weight e) x.R large)

  saved-later : (v u : ℕ) → x.rank v ≤ x.rank u → saved x v u e ≡ 0
  saved-later v u more = cc (and-false_right (ltb (x.weight e) x.R) (le-ltb (x.rank u) (x.rank v) more))

  saved-at_most : (v u : ℕ) → saved x v u e ≤ x.d
  saved-at_most v u = on-le (ltb (x.weight e) x.R && ltb (x.rank u) (x.rank v)) x.d

  pub saved-once : (v u : ℕ) → saved x v u e + saved x u v e ≤ x.d
  saved-once v u = elim (lt-or-le (x.rank u) (x.rank v)) [
    | inl less ↦ omega (arith, saved-at_most v u, saved-later u v (omega arith))
    | inr more ↦ omega (arith, saved-at_most u v, saved-later v u more)
  ]

  saved-at_most-share : (v u : ℕ) → saved x v u e ≤ share x e
  saved-at_most-share v u = elim (lt-or-le (x.weight e) x.R) [
    | inl small ↦ omega (arith, saved-at_most v u)
    | inr large ↦ omega (arith, saved-large v u large)
  ]

  pub gift_head-saved : gift_head x e + saved_head x e ≡ share x e
  gift_head-saved = omega (arith, saved-at_most-share (x.head e) (x.tail e))

  pub gift_tail-saved : gift_tail x e + saved_tail x e ≡ share x e
  gift_tail-saved = omega (arith, saved-at_most-share (x.tail e) (x.head e))

-- ── rocks ──

module _ (x : Exploration) (no_move : NoMoveLeft x) where
  -- A rock e below R lacks t - e, which is more than d and less than 3d, and has both ends activated. Their gifts are two shares less d,
  -- since only one end has the larger rank: 4d less d is enough, and so is twice t - e less d.
  -- A rock from R on lacks at most d, and the gift of one end is all of it.
  pub rock_inequality : (e : ℕ) → e < x.jobs → inside x e ≡ true → (x.activated (x.head e) ≡ true) ⊎ (x.activated (x.tail e) ≡ true)
      → target x - x.weight e ≤ on (x.activated (x.head e)) (gift_head x e) + on (x.activated (x.tail e)) (gift_tail x e)
  rock_inequality e l p one = elim (lt-or-le (x.weight e) x.R) [
    | inl small ↦ let (a, b) = both small one in rw (a, b) (omega (
      arith,
      no_move.heavy_limit,
      no_move.rock_heavy e l (inside-rock x e p),
      gift_head-saved x e,
      gift_tail-saved x e,
      saved-once x e (x.head e) (x.tail e),
    ))
    | inr large ↦ elim one [
      | inl a ↦ rw a (omega (arith, gift_head-saved x e, saved-large x e (x.head e) (x.tail e) large))
      | inr a ↦ rw a (omega (arith, gift_tail-saved x e, saved-large x e (x.tail e) (x.head e) large))
    ]
  ]
    where
      both : x.weight e < x.R → (x.activated (x.head e) ≡ true) ⊎ (x.activated (x.tail e) ≡ true)
          → (x.activated (x.head e) ≡ true) × (x.activated (x.tail e) ≡ true)
      both small (inl a) = (a, sym (no_move.rule_two_applied e l p small) ∙ a)
      both small (inr a) = (no_move.rule_two_applied e l p small ∙ a, a)

  pub gifts_enough : (place : ℕ → ℕ) → InsidePlacement x place
      → sum x.jobs (λ e. on (inside x e && x.activated (place e)) (target x - x.weight e))
      ≤ sum x.benches (λ v. on (x.activated v) (over_children x (gift_head x) v))
      + sum x.benches (λ v. on (x.activated v) (over_fathers x (gift_tail x) v))
  gifts_enough place placement = omega (
    arith,
    gathered-over x.benches x.jobs (inside x) x.head no_move.head_below x.activated (gift_head x),
    gathered-over x.benches x.jobs (inside x) x.tail no_move.tail_below x.activated (gift_tail x),
    sum-add x.jobs heads tails,
    sum-le x.jobs (λ e. on (inside x e && x.activated (place e)) (target x - x.weight e)) (λ e. heads e + tails e) enough,
  )
    where
      heads : ℕ → ℕ
      heads e = on (inside x e && x.activated (x.head e)) (gift_head x e)

      tails : ℕ → ℕ
      tails e = on (inside x e && x.activated (x.tail e)) (gift_tail x e)

      end-activated : (e : ℕ) → x.activated (place e) ≡ true → (place e ≡ x.head e) ⊎ (place e ≡ x.tail e)
          → (x.activated (x.head e) ≡ true) ⊎ (x.activated (x.tail e) ≡ true)
      end-activated e a (inl q) = inl (ap x.activated (sym q) ∙ a)
      end-activated e a (inr q) = inr (ap x.activated (sym q) ∙ a)

      enough : (e : ℕ) → e < x.jobs → on (inside x e && x.activated (place e)) (target x - x.weight e) ≤ heads e + tails e
      enough e l = elim (split (inside x e)) [
        | inl p ↦ elim (split (x.activated (place e))) [
          | inl a ↦ rw (p, a) (rock_inequality e l p (end-activated e a (placement.on_an_end e l p)))
          | inr a ↦ rw (p, a) (omega arith)
        ]
        | inr p ↦ rw p (omega arith)
      ]
