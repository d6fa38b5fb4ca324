-- E2 and E3: overloaded benches, and rocks that stay neutral.
--     Overloads b k x         the overloaded benches were overloaded at the start, and have level 0 once round 0 is over
--     building_overloads      the conflict set construction overloads no bench
--     round_overloads         nor does a round, and after round 0 the overloaded benches have level 0
--     explored_overloads      only the first call of FORCED ORIENTATIONS overloads benches, and they have level 0
--     explored_cause          an overloaded bench has too much by its own load and at most one rock
--     explored_unforced       a neutral rock is forced from neither end
use Prim.Native.Nat.{ℕ, zero, suc, ◌+◌, ◌≤◌, ◌<◌}
use mathlib.Core.Path.{◌≡◌, ◌∙◌}
use mathlib.Core.Logic.{◌⊎◌, inl, inr, ⊎_elim}
use mathlib.Core.Bool.{true, false, ◌&&◌}
use mathlib.Core.List.{List}
use native.Mathlib.Omega.{arith}
use lib.Dec.{ltb}
use borrow.Author.Tests.{lt-ltb, ltb-false}
use Rattle.bools.proofs.BoolLaws.{clash, and_intro, and-false_elim}
use Rattle.bools.proofs.OrderLaws.{lt-or-le}
use Rattle.sums.proofs.SearchLaws.{any_none}
use Rattle.sums.proofs.TableLaws.{length-table}
use Rattle.algorithm.specs.Board.{Board, Directions, touches, neutral, towards, load}
use Rattle.algorithm.specs.Forced.{forces}
use Rattle.algorithm.specs.Explore.{Explored, type_a, unexplored, explore}
use Rattle.algorithm.specs.Properties.{SoundBoard, lev}
use Rattle.algorithm.proofs.ForcedInterface.{ForcedLaws}
use Rattle.algorithm.proofs.Keeping.{marks_old}
use Rattle.algorithm.proofs.RoundSteps.{Building, fake-parts}
use Rattle.algorithm.proofs.RoundLaws.{Ready, Between, Round, building_induction, activating_marks, opened_ready, type_a-level}
use Rattle.algorithm.proofs.RoundLaws.{round_marks_level}
use Rattle.algorithm.proofs.ExploreRounds.{Ended, rounds-induction, rounds-later, unexplored-between, explore-rounds}
use Rattle.algorithm.proofs.BorderLaws.{explored_between}

abbrev pub Overloads : Board → ℕ → Explored → Type 0
Overloads b k x = (v : ℕ) → v < b.benches → b.bound < load b x.dir v → (b.bound < load b (unexplored b).dir v) × (0 < k → lev b x v ≡ 0)

module _ (b : Board) (ok : SoundBoard b) (laws : ForcedLaws b) where
  pub building_overloads : {i : ℕ} {dir last-dir : Directions} {joined last-joined : List ℕ} → Building b i dir joined last-dir last-joined → Ready b dir joined
      → (v : ℕ) → v < b.benches → b.bound < load b last-dir v → b.bound < load b dir v
  building_overloads {i} {dir} building ready v h =
      building_induction b ok laws i (λ d xs. b.bound < load b d v → b.bound < load b dir v)
      (λ d xs u r hu p q. q)
      (λ d xs u j r hu hj f q over.
      let parts = fake-parts b d xs u j f in
      ⊎_elim q
      (λ within-bound. absurd (omega (arith, laws.fake_keeps d r.pointed r.stable u j hu hj parts.1 parts.2 v h within-bound)))
      (lt-or-le b.bound (load b d v)))
      building ready (λ p. p)

  -- Round 0 opens with the overloaded benches.
  first_level : (x z : Explored) → Between b 0 x → Round b 0 x z → (v : ℕ) → v < b.benches → b.bound < load b x.dir v → lev b z v ≡ 0
  first_level x z between round v h over =
      let opened = type_a-level b 0 x v h (lt-ltb b.bound (load b x.dir v) over) in
      marks_old (activating_marks round.activation (length-table b.benches _)) v h (omega arith) ∙ opened

  pub round_overloads : (k : ℕ) (x z : Explored) → Between b k x → Round b k x z → Overloads b k x → Overloads b (suc k) z
  round_overloads zero x z between round overloads v h over =
      let before = building_overloads round.building (opened_ready b ok laws 0 x between) v h over in
      ((overloads v h before).0, λ p. first_level x z between round v h before)
  round_overloads (suc k) x z between round overloads v h over =
      let before = building_overloads round.building (opened_ready b ok laws (suc k) x between) v h over in
      let level = (overloads v h before).1 (omega arith) in
      ((overloads v h before).0, λ p. marks_old (round_marks_level b ok laws (suc k) x between z round) v h (omega arith) ∙ level)

  pub explored_overloads : (v : ℕ) → v < b.benches → b.bound < load b (explore b).dir v
      → (b.bound < load b (unexplored b).dir v) × (lev b (explore b) v ≡ 0)
  explored_overloads v h over = go ended.rounds_done ended.kept ended.none_opens
    where
      ended : Ended b (Overloads b) (explore b)
      ended =
          rounds-induction b ok laws (Overloads b) (explore b)
          (λ k x z hk between round after rest p. round_overloads k x z between round p)
          (explore-rounds b ok laws) (unexplored-between b ok laws) (λ u hu o. (o, λ p. absurd (omega arith)))

      go : (k : ℕ) → Overloads b k (explore b) → ((u : ℕ) → u < b.benches → type_a b k (explore b) u ≡ false)
          → (b.bound < load b (unexplored b).dir v) × (lev b (explore b) v ≡ 0)
      go zero overloads none = clash (lt-ltb b.bound (load b (explore b).dir v) over) (none v h)
      go (suc k) overloads none = ((overloads v h over).0, (overloads v h over).1 (omega arith))

  pub explored_cause : (v : ℕ) → v < b.benches → b.bound < load b (explore b).dir v
      → (b.bound < b.own v)
      ⊎ ((e : ℕ) × (e < b.jobs) × (touches b e v ≡ true) × (towards (explore b).dir e v ≡ true) × (b.bound < b.own v + b.weight e))
  explored_cause v h over =
      let kept = rounds-later b ok laws (explore-rounds b ok laws) (unexplored-between b ok laws) in
      ⊎_elim inl (λ c. inr (c.0, c.1, c.2, kept.directions.keeps c.0 v c.3, c.4))
      (laws.first_overloads v h (explored_overloads v h over).0)

  pub explored_unforced : (e v : ℕ) → e < b.jobs → v < b.benches → touches b e v ≡ true → neutral (explore b).dir e ≡ true
      → load b (explore b).dir v + b.weight e ≤ b.bound
  explored_unforced e v h hv t n =
      let dir = (explore b).dir in
      ⊎_elim (λ p. clash (and_intro t n) p) (ltb-false b.bound (load b dir v + b.weight e))
      (and-false_elim (touches b e v && neutral dir e) (ltb b.bound (load b dir v + b.weight e))
      (any_none b.jobs (forces b dir v) ((explored_between b ok laws).1.stable v hv) e h))
