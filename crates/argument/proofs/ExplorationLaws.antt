-- Laws of the rocks inside the conflict set.
--     inside_intro        a rock with both ends in the conflict set is inside
--     inside-rock, inside-head, inside-tail       what is inside is a rock, and its head and its tail are in the conflict set
--     father_above        a father rock that with z passes b, with z' passes b', if b' is above b by no more than z' is above z
--     into-none           a bench without a child has in(v) = 0
--     children-all, fathers-all       double counting: the children of all benches, and the fathers, are the rocks inside
--     into-all            and in(v) of all benches is what the rocks inside weigh
use Prim.Native.Nat.{ℕ, ◌+◌, ◌≤◌, ◌<◌}
use mathlib.Core.Bool.{true, ◌&&◌}
use mathlib.Core.Path.{◌≡◌}
use native.Mathlib.Omega.{arith}
use Rattle.bools.proofs.BoolLaws.{and_intro, and_left, and_right}
use Rattle.sums.specs.Sum.{on, sum, count}
use Rattle.argument.specs.Exploration.{Exploration, FatherAbove, inside, children, fathers, into}
use Rattle.argument.proofs.OrientationLaws.{gathered_none, gathered-all, number-all}

module _ (x : Exploration) (e : ℕ) where
  pub inside_intro : x.rock e ≡ true → x.conflict (x.head e) ≡ true → x.conflict (x.tail e) ≡ true → inside x e ≡ true
  inside_intro r p q = and_intro (and_intro r p) q

  pub inside-rock : inside x e ≡ true → x.rock e ≡ true
  inside-rock p = and_left (x.rock e) (x.conflict (x.head e)) (and_left (x.rock e && x.conflict (x.head e)) (x.conflict (x.tail e)) p)

  pub inside-head : inside x e ≡ true → x.conflict (x.head e) ≡ true
  inside-head p = and_right (x.rock e) (x.conflict (x.head e)) (and_left (x.rock e && x.conflict (x.head e)) (x.conflict (x.tail e)) p)

  pub inside-tail : inside x e ≡ true → x.conflict (x.tail e) ≡ true
  inside-tail p = and_right (x.rock e && x.conflict (x.head e)) (x.conflict (x.tail e)) p

module _ (x : Exploration) where
  pub father_above : {b z b' z' v : ℕ} → b' + z ≤ b + z' → FatherAbove x b z v → FatherAbove x b' z' v
  father_above h e = record { father = e.father; below = e.below; within = e.within; leaves = e.leaves; above = omega (arith, e.above) }

  pub into-none : (v : ℕ) → children x v ≡ 0 → into x v ≡ 0
  into-none v none = gathered_none x.jobs (inside x) x.head v x.weight none

  module _ (head-below : (e : ℕ) → e < x.jobs → inside x e ≡ true → x.head e < x.benches) where
    pub children-all : sum x.benches (children x) ≡ count x.jobs (inside x)
    children-all = number-all x.benches x.jobs (inside x) x.head head-below

    pub into-all : sum x.benches (into x) ≡ sum x.jobs (λ e. on (inside x e) (x.weight e))
    into-all = gathered-all x.benches x.jobs (inside x) x.head head-below x.weight

  module _ (tail-below : (e : ℕ) → e < x.jobs → inside x e ≡ true → x.tail e < x.benches) where
    pub fathers-all : sum x.benches (fathers x) ≡ count x.jobs (inside x)
    fathers-all = number-all x.benches x.jobs (inside x) x.tail tail-below
