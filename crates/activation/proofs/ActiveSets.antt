-- The search for a bench to activate goes through the benches that wait.
--     Leaving           what the loop keeps: who left the set has the round
--     active_goes_on, active_ends     a turn of the loop, and its end
use Rattle.std.proofs.Common.{Some, None}
use Prim.Native.Nat.{ℕ, suc, ◌≤◌, ◌<◌}
use mathlib.Core.Path.{◌≡◌, refl, sym, ap, subst, ◌∙◌}
use mathlib.Core.Bool.{Bool, true, false, cond, not, ◌&&◌, ◌||◌}
use mathlib.Core.Logic.{inl, inr}
use mathlib.Core.List.{List}
use native.Mathlib.Omega.{arith}
use lib.Dec.{eqb}
use lib.ListN.{length, get_or, set}
use lib.Seq.{get_or-set_same, get_or-set_other}
use borrow.Author.Tests.{eq-eqb, ne_eqb}
use Rattle.bools.proofs.BoolLaws.{and_intro, and_left, and_right, and-false_right, or_right, or-false, not-true, and_unit}
use Rattle.bools.proofs.OrderLaws.{eq-or-ne}
use Rattle.sums.proofs.SearchLaws.{least-holds}
use Rattle.bits.specs.Bits.{is_set}
use Rattle.bits.proofs.SetBits.{is_set-zero}
use Rattle.rocks.specs.declared.rocks.Limits.{Limits}
use Rattle.algorithm.specs.Board.{Board, Directions}
use Rattle.algorithm.specs.Explore.{activate}
use Rattle.rocks.specs.RockArrays.{within_at}
use Rattle.rocks.specs.BoardArrays.{rocks_of, Rocks, Directed, Owned, Rounds}
use Rattle.activation.specs.ActivationArrays.{activates_at, rule_one_at, rule_two_at, Waits}
use Rattle.rock_graph.specs.Neighbours.{Incident}
use Rattle.forced.specs.SetArrays.{Covers}
use Rattle.forced.specs.CandidateArrays.{some_rock, bench_of}
use Rattle.forced.proofs.AnswerLaws.{some_first}
use Rattle.rocks.proofs.RockLaws.{end_below}
use Rattle.forced.proofs.CandidateLaws.{bench_near, candidate_lowest, candidate_none, candidate_below, rock-ends, few-rocks, few_benches}
use Rattle.activation.proofs.ActivateRun.{Activating, activating_ends, activating_goes_on}
use Rattle.activation.proofs.WaitLaws.{waits_left}

-- The bench that is found is in the set.
bench_inside : (incident : List ℕ) (P : ℕ → ℕ → Bool) (cand v : ℕ) → Some v ≡ bench_of incident P cand
    → is_set 64 cand v ≡ true
unfolding bench_of
bench_inside incident P cand v bench =
    let (e, h) = some_first (λ u. is_set 64 cand u && some_rock incident P u) v bench in
    and_left (is_set 64 cand v) (some_rock incident P v)
    (subst (λ (k : ℕ). (is_set 64 cand k && some_rock incident P k) ≡ true) (sym e)
    (least-holds 64 (λ k. is_set 64 cand k && some_rock incident P k) (subst (λ (k : ℕ). k < 64) e h)))

none_left : (a : Bool) → (a && not a) ≡ false
none_left true = refl
none_left false = refl

-- ── who left has the round ──

module _ (wait i : ℕ) (level₀ : List ℕ) where
  pub record Leaving (left : ℕ) (level : List ℕ) : Type 0 where
    pub inside : (v : ℕ) → v < 64 → is_set 64 left v ≡ true → is_set 64 wait v ≡ true
    pub long : length level ≡ length level₀
    pub gone : (v : ℕ) → v < length level₀ → v < 64 → get_or level v 0 ≡ cond (is_set 64 wait v && not (is_set 64 left v)) i (get_or level₀ v 0)

  pub leaving_goes_on : (incident : List ℕ) (P : ℕ → ℕ → Bool) (left v one left' : ℕ) (level : List ℕ) → Leaving left level → Some v ≡ bench_of incident P left
      → ((u : ℕ) → u < 64 → is_set 64 one u ≡ (is_set 64 0 u || eqb u v)) → ((u : ℕ) → is_set 64 left' u ≡ (is_set 64 left u && not (is_set 64 one u)))
      → {level' : List ℕ} → level' ≡ set level v i → length level' ≡ length level₀ → Leaving left' level'
  leaving_goes_on incident P left v one left' level L bench eo el {level'} et long =
      let h : v < 64 = bench_near incident P left v bench in
      let waited = L.inside v h (bench_inside incident P left v bench) in
      record {
        inside = λ u hu p. L.inside u hu (and_left (is_set 64 left u) (not (is_set 64 one u)) (sym (el u) ∙ p));
        long = long;
        gone = λ u l hu. ap (λ (x : List ℕ). get_or x u 0) et ∙ elim (eq-or-ne u v) [
          | inl at ↦
              let mine : is_set 64 one u ≡ true = eo u hu ∙ or_right (is_set 64 0 u) (eq-eqb u v at) in
              let left_it : is_set 64 left' u ≡ false = el u ∙ and-false_right (is_set 64 left u) (ap not mine) in
              let went : (is_set 64 wait u && not (is_set 64 left' u)) ≡ true = and_intro (ap (is_set 64 wait) at ∙ waited) (ap not left_it) in
              ap (λ (k : ℕ). get_or (set level v i) k 0) at ∙ get_or-set_same level v i 0 (omega (arith, L.long))
              ∙ sym (ap (λ (c : Bool). cond c i (get_or level₀ u 0)) went)
          | inr ne ↦
              let other : is_set 64 one u ≡ false = eo u hu ∙ or-false (is_set-zero 64 u) (ne_eqb u v ne) in
              let kept : is_set 64 left' u ≡ is_set 64 left u = el u ∙ and_unit (is_set 64 left u) (ap not other) in
              get_or-set_other level v u i 0 ne ∙ L.gone u l hu ∙ ap (λ (k : Bool). cond (is_set 64 wait u && not k) i (get_or level₀ u 0)) (sym kept)
        ];
      }

-- ── the activation of a board's benches ──

module _ (b : Board) (n : Limits) (low high weight own : List ℕ) (R : Rocks b n low high weight) (few : rocks_of b ≤ 64) (incident : List ℕ) (H : Incident n low high incident)
    (O : Owned b own) (dirs : Directions) (dir : List ℕ) (D : Directed b dirs dir) (xs joined : List ℕ) (X : Rounds b xs joined)
    (i wait : ℕ) (in-time : i ≤ n.benches) (level₀ : List ℕ) (ys : List ℕ) (Y : Rounds b ys level₀) (W : Waits n joined level₀ wait) where
  abbrev acts : List ℕ → ℕ → ℕ → Bool
  acts level = activates_at n low high weight own dir joined level

  still_waits : (left : ℕ) (level : List ℕ) → Leaving wait i level₀ left level → Waits n joined level left
  still_waits left level L =
      waits_left n i joined level₀ level wait left in-time (few_benches b n low high weight R) (omega (arith, Y.room, R.benches)) L.gone W

  covers : (left : ℕ) (level : List ℕ) → Leaving wait i level₀ left level → Covers n low high (acts level) left
  covers left level L r v h t p =
      let rules = rule_one_at n low high weight own dir joined r v || rule_two_at n low high weight dir joined level r v in
      let inside = and_left (within_at n.benches joined v) (not (within_at n.benches level v) && rules) p in
      let rest = and_right (within_at n.benches joined v) (not (within_at n.benches level v) && rules) p in
      still_waits left level L v
      (end_below low high n.benches r v (rock-ends b n low high weight R r h) t)
      inside (not-true (within_at n.benches level v) (and_left (not (within_at n.benches level v)) rules rest))

  module _ {k : ℕ} {level : List ℕ} (A : Activating b n low high weight own R O dirs dir D xs joined X i ys k level) (left : ℕ) (L : Leaving wait i level₀ left level) where
    pub active_ends : None ≡ bench_of incident (acts level) left → Rounds b (activate b.benches b i dirs xs ys) level
    active_ends stop =
        activating_ends b n low high weight own R O dirs dir D xs joined X A n.benches
        (candidate_none n low high incident H (few-rocks b n low high weight R few) (rock-ends b n low high weight R) (few_benches b n low high weight R) (acts level) left
        (covers left level L) stop)
        refl

    pub active_goes_on : (v k' : ℕ) → Some v ≡ bench_of incident (acts level) left → k ≡ suc k'
        → {level' : List ℕ} → level' ≡ set level v i
        → Activating b n low high weight own R O dirs dir D xs joined X i ys k' level'
    active_goes_on v k' bench turn q =
        let below : v < n.benches =
        candidate_below n low high incident H (few-rocks b n low high weight R few) (rock-ends b n low high weight R) (few_benches b n low high weight R) (acts level) left
        (covers left level L) v bench in
        let lowest =
        candidate_lowest n low high incident H (few-rocks b n low high weight R few) (rock-ends b n low high weight R) (few_benches b n low high weight R) (acts level) left
        (covers left level L) v bench in
        activating_goes_on b n low high weight own R O dirs dir D xs joined X A v lowest k' (λ s. omega arith) turn q
