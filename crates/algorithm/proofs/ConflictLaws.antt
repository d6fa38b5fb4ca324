-- Consequences of the properties E1 to E9 of an exploration, for rocks at benches of the conflict set.
--     directed_ends          a rock that is not neutral leads to the bench at hand or away from it
--     towards-weight         a rock that is directed towards a bench is part of its rock load
--     tail_first             a directed rock's tail joined the conflict set no later than its head
--     conflict_ends          at a bench of the conflict set every rock leads to it or away from it
--     leaf-unloaded          a bench of the conflict set with no child there has no rock load
--     own_overloaded         a bench that its own load overloads has level 0
--     critical_level         a bench whose own load leaves no room for one of its rocks is active once both ends of the rock are in conflict
use Prim.Native.Nat.{ℕ, suc, ◌+◌, ◌≤◌, ◌<◌}
use mathlib.Core.Path.{◌≡◌, sym, ap, ◌∙◌}
use mathlib.Core.Logic.{◌⊎◌, inl, inr, ⊎_elim}
use mathlib.Core.Bool.{Bool, true, false, ◌&&◌}
use lib.ListN.{get_or}
use native.Mathlib.Omega.{arith}
use borrow.Author.Tests.{eqb-false, eq-eqb, lt-ltb}
use Rattle.bools.proofs.BoolLaws.{split, clash, and_intro, and_left, and_right, not-true}
use Rattle.bools.proofs.OrderLaws.{lt-or-le}
use Rattle.sums.specs.Sum.{on}
use Rattle.sums.proofs.SumLaws.{sum-zero}
use Rattle.sums.proofs.MoreSumLaws.{sum-on-term}
use Rattle.sums.proofs.SearchLaws.{any_none}
use Rattle.algorithm.specs.Board.{Board, Directions, touches, other, neutral, towards, away, rock_load}
use Rattle.algorithm.specs.Explore.{Explored, never, in_conflict, child}
use Rattle.algorithm.specs.Push.{leaf}
use Rattle.algorithm.specs.Properties.{SoundBoard, Pointed, rnd, lev, Facts}
use Rattle.algorithm.proofs.BoardLaws.{touches-rock, touches-end, other-low, other-high, other-touches, other-other, other-below, other_differs, towards-unique}

module _ (b : Board) (ok : SoundBoard b) (dir : Directions) (pointed : Pointed b dir) (e v : ℕ) (h : e < b.jobs) (t : touches b e v ≡ true) where
  pub directed_ends : neutral dir e ≡ false → (towards dir e v ≡ true) ⊎ (away b dir e v ≡ true)
  directed_ends n =
      ⊎_elim (λ z. absurd (eqb-false (get_or dir e 0) 0 n z))
      (⊎_elim
      (λ q. ⊎_elim (λ w. inl (to v (q ∙ ap suc (sym w)))) (λ w. inr (and_intro t (to (other b e v) (q ∙ ap suc (sym (other-high b ok e v h r w)))))) ends)
      (λ q. ⊎_elim (λ w. inr (and_intro t (to (other b e v) (q ∙ ap suc (sym (other-low b e v w)))))) (λ w. inl (to v (q ∙ ap suc (sym w)))) ends))
      (pointed.to_an_end e h r)
    where
      r : b.rock e ≡ true
      r = touches-rock b e v t

      ends : (v ≡ b.low e) ⊎ (v ≡ b.high e)
      ends = touches-end b e v t

      to : (u : ℕ) → get_or dir e 0 ≡ suc u → towards dir e u ≡ true
      to u q = eq-eqb (get_or dir e 0) (suc u) q

pub towards-weight : (b : Board) (dir : Directions) (e v : ℕ) → e < b.jobs → touches b e v ≡ true → towards dir e v ≡ true
    → b.weight e ≤ rock_load b dir v
unfolding rock_load
towards-weight b dir e v h t d = sum-on-term b.jobs (λ j. touches b j v && towards dir j v) b.weight e h (and_intro t d)

module _ (b : Board) (ok : SoundBoard b) (x : Explored) (facts : Facts b x) where
  pub tail_first : (e v : ℕ) → e < b.jobs → v < b.benches → touches b e v ≡ true → towards x.dir e v ≡ true
      → rnd b x (other b e v) ≤ rnd b x v
  tail_first e v he h t d = ⊎_elim late (λ l. l) (lt-or-le (rnd b x v) (rnd b x (other b e v)))
    where
      back : other b e (other b e v) ≡ v
      back = other-other b ok e v he t

      late : rnd b x v < rnd b x (other b e v) → rnd b x (other b e v) ≤ rnd b x v
      late l =
          absurd (other_differs b ok e v he t (sym (towards-unique x.dir e v (other b e v) d
          (facts.border e (other b e v) he (other-below b ok e v he t) (other-touches b ok e v he t) (rw back l)))))

  pub conflict_ends : (e v : ℕ) → e < b.jobs → v < b.benches → touches b e v ≡ true → rnd b x v ≤ b.benches
      → (towards x.dir e v ≡ true) ⊎ (away b x.dir e v ≡ true)
  conflict_ends e v he h t joined = directed_ends b ok x.dir facts.pointed e v he t (facts.conflict_directed e v he h t joined)

  pub leaf-unloaded : (v : ℕ) → v < b.benches → rnd b x v ≤ b.benches → leaf b x v ≡ true → rock_load b x.dir v ≡ 0
  unfolding rock_load
  leaf-unloaded v h joined l =
      sum-zero b.jobs (λ j. on (touches b j v && towards x.dir j v) (b.weight j))
      (λ j hj. ⊎_elim (λ p. absurd (no-child j hj p)) (λ p. ap (λ (k : Bool). on k (b.weight j)) p)
      (split (touches b j v && towards x.dir j v)))
    where
      no-child : (j : ℕ) → j < b.jobs → (touches b j v && towards x.dir j v) ≡ true → ⊥
      no-child j hj p =
          let t = and_left (touches b j v) (towards x.dir j v) p in
          let d = and_right (touches b j v) (towards x.dir j v) p in
          clash (and_intro p (lt-ltb (rnd b x (other b j v)) (never b) (omega (arith, tail_first j v hj h t d))))
          (any_none b.jobs (child b x.dir (in_conflict b x) v) (not-true _ l) j hj)

  pub own_overloaded : (v : ℕ) → v < b.benches → b.bound < b.own v → lev b x v ≡ 0
  own_overloaded v h over = facts.overloaded_level v h (omega arith)

  -- Led away from the bench, the rock makes it critical (E6); led towards it, the rock overloads it (E2).
  pub critical_level : (i e v : ℕ) → i ≤ b.benches → e < b.jobs → v < b.benches → touches b e v ≡ true → rnd b x v ≤ i
      → rnd b x (other b e v) ≤ i → b.bound < b.own v + b.weight e → lev b x v ≤ i
  critical_level i e v hi he h t here there over =
      ⊎_elim
      (λ d. omega (arith, facts.overloaded_level v h (omega (arith, towards-weight b x.dir e v he t d))))
      (λ d. facts.rule_one i e v hi he h d here there over)
      (conflict_ends e v he h t (omega arith))
