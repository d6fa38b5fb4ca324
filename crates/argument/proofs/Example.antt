-- A small exploration in which no move is left, so that the hypotheses of the theorem can be met.
-- Three benches with own loads 8, 2 and 8; rocks of weight 6 from bench 1 to bench 0 and from bench 2 to bench 1; t = 7, B = 13, P = 9.
-- Bench 0 is overloaded, bench 1 is in the conflict set and not activated, bench 2 is activated by Rule 1.
--     own_load, activated_bench, overloaded_bench     its own loads, its activated benches, its overloaded bench
--     example             the exploration
--     example-no_move     no move is left in it
--     example-placement   each rock on its head
--     example-blocks      the two activated benches carry more than twice the target
use Prim.Native.Nat.{ℕ, zero, suc, ◌+◌, ◌*◌, ◌<◌}
use mathlib.Core.Bool.{Bool, true, false}
use mathlib.Core.Path.{◌≡◌, refl}
use mathlib.Core.Logic.{◌⊎◌, inl, inr}
use native.Mathlib.Omega.{arith}
use Rattle.bools.proofs.BoolLaws.{clash}
use Rattle.argument.specs.Exploration.{Exploration, NoMoveLeft, FatherAbove, EarlierNeighbour, InsidePlacement, bound, push_limit, children, into}
use Rattle.argument.proofs.Activated.{activated_blocks}

abbrev own_load : ℕ → ℕ
own_load zero = 8
own_load (suc zero) = 2
own_load (suc (suc v)) = 8

abbrev activated_bench : ℕ → Bool
activated_bench zero = true
activated_bench (suc zero) = false
activated_bench (suc (suc v)) = true

abbrev overloaded_bench : ℕ → Bool
overloaded_bench zero = true
overloaded_bench (suc v) = false

abbrev example : Exploration
example = record {
  d = 1;
  R = 6;
  h = 4;
  benches = 3;
  jobs = 2;
  rock = λ e. true;
  head = λ e. e;
  tail = λ e. suc e;
  weight = λ e. 6;
  conflict = λ v. true;
  activated = activated_bench;
  type_a = overloaded_bench;
  rank = λ v. v;
  own = own_load;
}

pub example-no_move : NoMoveLeft example
example-no_move = record {
  share_limit = omega arith;
  heavy_limit = refl;
  rock_heavy = λ e l p. omega arith;
  rock_fits = λ e l p. omega arith;
  head_below = λ e l p. omega arith;
  tail_below = λ e l p. omega arith;
  type_a_activated = type_a-activated;
  activated_conflict = λ v l a. refl;
  type_a_full = type_a-full;
  conflict_cause = conflict-cause;
  rule_one_applied = rule-one-applied;
  rule_two_applied = λ e l p small. absurd (omega arith);
  activated_cause = activated-cause;
}
  where
    type_a-activated : (v : ℕ) → v < 3 → overloaded_bench v ≡ true → activated_bench v ≡ true
    type_a-activated zero l a = refl
    type_a-activated (suc v) l a = clash a refl

    type_a-full : (v : ℕ) → v < 3 → overloaded_bench v ≡ true
        → (push_limit example < own_load v + into example v) ⊎ ((0 < children example v) × FatherAbove example (push_limit example) (own_load v) v)
    type_a-full zero l a = inl (omega arith)
    type_a-full (suc v) l a = clash a refl

    forced : (v : ℕ) → v < 2 → FatherAbove example (bound example) (own_load (suc v) + into example (suc v)) (suc v)
    forced zero l = record { father = 0; below = omega arith; within = refl; leaves = refl; above = omega arith }
    forced (suc zero) l = record { father = 1; below = omega arith; within = refl; leaves = refl; above = omega arith }
    forced (suc (suc v)) l = absurd (omega arith)

    conflict-cause : (v : ℕ) → v < 3 → true ≡ true → (overloaded_bench v ≡ true) ⊎ FatherAbove example (bound example) (own_load v + into example v) v
    conflict-cause zero l c = inl refl
    conflict-cause (suc v) l c = inr (forced v (omega arith))

    rule-one-applied : (v : ℕ) → v < 3 → true ≡ true → FatherAbove example (bound example) (own_load v) v → activated_bench v ≡ true
    rule-one-applied zero l c e = refl
    rule-one-applied (suc zero) l c e = absurd (omega (arith, e.above))
    rule-one-applied (suc (suc v)) l c e = refl

    activated-cause : (v : ℕ) → v < 3 → activated_bench v ≡ true
        → (overloaded_bench v ≡ true) ⊎ (FatherAbove example (bound example) (own_load v) v ⊎ EarlierNeighbour example v)
    activated-cause zero l a = inl refl
    activated-cause (suc zero) l a = clash a refl
    activated-cause (suc (suc zero)) l a = inr (inl (record { father = 1; below = omega arith; within = refl; leaves = refl; above = omega arith }))
    activated-cause (suc (suc (suc v))) l a = absurd (omega arith)

pub example-placement : InsidePlacement example (λ e. e)
example-placement = record { on_an_end = λ e l p. inl refl; one_to_a_bench = λ e f l k p q same. same }

pub example-blocks : 2 * 7 < 8 + 8 + 6
example-blocks = activated_blocks example example-no_move (λ e. e) example-placement (omega arith)
