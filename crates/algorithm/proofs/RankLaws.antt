-- E7: why a bench was activated, with a rank that grows in the order of activation.
--     ByRuleOne, ByRuleTwo    two of the causes
--     LevelCause b dir xs ls rank v   v was overloaded, or in reach of a lower level, or activated by rule 1, or by rule 2 through a bench of lower rank
--     level_cause_kept        later directions, rounds and levels keep the cause, and so does a rank that changes for no activated bench
--     Ranked b dir xs ls      a rank, a number above the ranks of all activated benches, and a cause for each of them
--     ranked_step, activating_ranked      a bench that a rule activates gets the next rank
--     opened_ranked           the Type A benches of a round get the next rank
--     round_ranked, explored_ranked       so after each round, and at the end, the activated benches are ranked
use Prim.Native.Nat.{ℕ, suc, ◌+◌, ◌≤◌, ◌<◌}
use mathlib.Core.Path.{◌≡◌, refl, subst, ◌∙◌}
use mathlib.Core.Logic.{◌⊎◌, inl, inr, ⊎_elim, ◌≢◌}
use mathlib.Core.Bool.{Bool, true, false, cond, ◌&&◌, ◌||◌}
use mathlib.Core.List.{List}
use native.Mathlib.Omega.{arith}
use lib.ListN.{length, set, length-set}
use lib.Seq.{get_or-set_same, get_or-set_other}
use lib.Dec.{eqb, ltb}
use borrow.Author.Tests.{eq-eqb, ne_eqb, ltb-true, ltb-false}
use Rattle.bools.proofs.BoolLaws.{split, and_left, and_right, or_elim}
use Rattle.bools.proofs.OrderLaws.{eq-or-ne}
use Rattle.sums.proofs.SearchLaws.{any_elim}
use Rattle.sums.proofs.TableLaws.{length-table}
use Rattle.algorithm.specs.Board.{Board, Directions, touches, other, towards, away, load}
use Rattle.algorithm.specs.Explore.{activates, Explored, never, round_of, within, father, child, critical, rule2, type_a, explore, opened_levels}
use Rattle.algorithm.specs.Properties.{SoundBoard}
use Rattle.algorithm.proofs.GrowthLaws.{Grows, grows_refl}
use Rattle.algorithm.proofs.BoardLaws.{other-below, other_differs}
use Rattle.algorithm.proofs.ForcedInterface.{ForcedLaws}
use Rattle.algorithm.proofs.Keeping.{keeps-away, keeps-load, Marks, Before, marks_refl, marks_old, marks-set, before_marks}
use Rattle.algorithm.proofs.Keeping.{before_more}
use Rattle.algorithm.proofs.RoundSteps.{Activating, settled, activating, activates-parts}
use Rattle.algorithm.proofs.RoundLaws.{Between, Round, opened_level_marks, type_a-inactive, type_a-level, other-level, round_keeps}
use Rattle.algorithm.proofs.RoundLaws.{round_marks_joined}
use Rattle.algorithm.proofs.OpenedLaws.{ByPebble, opening_kept, type_a-opening}
use Rattle.algorithm.proofs.ExploreRounds.{rounds-induction, unexplored-joined, unexplored-between, explore-rounds}

abbrev pub ByRuleOne : Board → Directions → List ℕ → List ℕ → ℕ → Type 0
ByRuleOne b dir xs ls v =
    (e : ℕ) × (e < b.jobs) × (away b dir e v ≡ true) × (round_of b xs (other b e v) ≤ round_of b ls v) × (b.bound < b.own v + b.weight e)

abbrev pub ByRuleTwo : Board → List ℕ → (ℕ → ℕ) → ℕ → Type 0
ByRuleTwo b ls rank v =
    (e : ℕ) × (e < b.jobs) × (touches b e v ≡ true) × (b.weight e < b.small) × (round_of b ls (other b e v) ≤ round_of b ls v) × (rank (other b e v) < rank v)

abbrev pub LevelCause : Board → Directions → List ℕ → List ℕ → (ℕ → ℕ) → ℕ → Type 0
LevelCause b dir xs ls rank v =
    ((round_of b ls v ≡ 0) × (b.bound < load b dir v)) ⊎ (ByPebble b ls v ⊎ (ByRuleOne b dir xs ls v ⊎ ByRuleTwo b ls rank v))

pub record Ranked (b : Board) (dir : Directions) (xs ls : List ℕ) : Type 0 where
  pub rank : ℕ → ℕ
  pub top : ℕ
  pub below_top : (v : ℕ) → v < b.benches → round_of b ls v ≤ b.benches → rank v < top
  pub cause : (v : ℕ) → v < b.benches → round_of b ls v ≤ b.benches → LevelCause b dir xs ls rank v

module _ (b : Board) (ok : SoundBoard b) where
  pub level_cause_kept : (i l : ℕ) (dir later : Directions) (xs ys ls ms : List ℕ) (rank new-rank : ℕ → ℕ) → Grows dir later → Marks b i xs ys → Marks b l ls ms
      → ((u : ℕ) → u < b.benches → round_of b ls u ≤ b.benches → new-rank u ≡ rank u)
      → (v : ℕ) → v < b.benches → round_of b ls v ≤ b.benches → LevelCause b dir xs ls rank v → LevelCause b later ys ms new-rank v
  level_cause_kept i l dir later xs ys ls ms rank new-rank keeps marks levels ranks v h f cause =
      let same = marks_old levels v h f in
      let rank-v = ranks v h f in
      ⊎_elim
      (λ c. inl (same ∙ c.0, omega (arith, keeps-load b keeps v)))
      (λ rest. inr (⊎_elim
      (λ c.
      let place-below = ok.allowed_below c.0 (b.place c.0) c.1 (ok.pebble_allowed c.0 c.1 c.2) in
      let there = marks_old levels (b.place c.0) place-below (omega arith) in
      inl (c.0, c.1, c.2, c.3, omega arith))
      (λ more. inr (⊎_elim
      (λ c.
      let t = and_left (touches b c.0 v) (towards dir c.0 (other b c.0 v)) c.2 in
      let there = marks_old marks (other b c.0 v) (other-below b ok c.0 v c.1 t) (omega arith) in
      inl (c.0, c.1, keeps-away b keeps c.0 v c.2, omega arith, c.4))
      (λ c.
      let u-below = other-below b ok c.0 v c.1 c.2 in
      let there = marks_old levels (other b c.0 v) u-below (omega arith) in
      let rank-u = ranks (other b c.0 v) u-below (omega arith) in
      inr (c.0, c.1, c.2, c.3, omega arith, omega arith))
      more))
      rest))
      cause

  -- ── activation ──

  module _ (i : ℕ) (hi : i ≤ b.benches) (dir : Directions) (xs : List ℕ) (joined-before : Before b (suc i) xs) where
    new_cause : (ls : List ℕ) → length ls ≡ b.benches → Before b (suc i) ls → (rank new-rank : ℕ → ℕ) (top : ℕ) (v : ℕ) → v < b.benches
        → ((u : ℕ) → u < b.benches → round_of b ls u ≤ b.benches → new-rank u < top) → new-rank v ≡ top
        → (critical b dir xs v || rule2 b dir xs ls v) ≡ true → LevelCause b dir xs (set ls v i) new-rank v
    new_cause ls l before rank new-rank top v h lower highest rule =
        let here = get_or-set_same ls v i (never b) (omega arith) in
        ⊎_elim
        (λ one.
        let (e, he, p) = any_elim b.jobs (λ j. father b dir (within b xs) v j && ltb b.bound (b.own v + b.weight j)) one in
        let f = and_left (father b dir (within b xs) v e) (ltb b.bound (b.own v + b.weight e)) p in
        let over = ltb-true b.bound (b.own v + b.weight e) (and_right (father b dir (within b xs) v e) (ltb b.bound (b.own v + b.weight e)) p) in
        let a = and_left (away b dir e v) (within b xs (other b e v)) f in
        let t = and_left (touches b e v) (towards dir e (other b e v)) a in
        let inside = ltb-true (round_of b xs (other b e v)) (never b) (and_right (away b dir e v) (within b xs (other b e v)) f) in
        inr (inr (inl (e, he, a, ⊎_elim (λ q. omega arith) (λ q. absurd (omega arith)) (joined-before.before (other b e v) (other-below b ok e v he t)), over))))
        (λ two.
        let near : ℕ → Bool = λ j. father b dir (within b xs) v j || child b dir (within b xs) v j in
        let (e, he, p) = any_elim b.jobs (λ j. (father b dir (within b xs) v j || child b dir (within b xs) v j) && within b ls (other b j v) && ltb (b.weight j) b.small) two in
        let both = and_left (near e && within b ls (other b e v)) (ltb (b.weight e) b.small) p in
        let small = ltb-true (b.weight e) b.small (and_right (near e && within b ls (other b e v)) (ltb (b.weight e) b.small) p) in
        let active = ltb-true (round_of b ls (other b e v)) (never b) (and_right (near e) (within b ls (other b e v)) both) in
        let t : touches b e v ≡ true =
        ⊎_elim
        (λ f. and_left (touches b e v) (towards dir e (other b e v)) (and_left (away b dir e v) (within b xs (other b e v)) f))
        (λ c. and_left (touches b e v) (towards dir e v) (and_left (touches b e v && towards dir e v) (within b xs (other b e v)) c))
        (or_elim (father b dir (within b xs) v e) (child b dir (within b xs) v e) (and_left (near e) (within b ls (other b e v)) both))
        in
        let u-below = other-below b ok e v he t in
        let there = get_or-set_other ls v (other b e v) i (never b) (other_differs b ok e v he t) in
        inr (inr (inr (
          e,
          he,
          t,
          small,
          ⊎_elim (λ q. omega arith) (λ q. absurd (omega arith)) (before.before (other b e v) u-below),
          omega (arith, lower (other b e v) u-below (omega arith)),
        ))))
        (or_elim (critical b dir xs v) (rule2 b dir xs ls v) rule)

    pub ranked_step : (ls : List ℕ) → length ls ≡ b.benches → Before b (suc i) ls → (v : ℕ) → v < b.benches → activates b dir xs ls v ≡ true
        → Ranked b dir xs ls → Ranked b dir xs (set ls v i)
    ranked_step ls l before v h a ranked =
        let parts = activates-parts b dir xs ls v a in
        let levels = marks-set b i ls v l h parts.1 in
        let out = ltb-false (round_of b ls v) (never b) parts.1 in
        let new-rank : ℕ → ℕ = λ u. cond (eqb u v) ranked.top (ranked.rank u) in
        let here : (u : ℕ) → u ≡ v → new-rank u ≡ ranked.top = λ u e. rw (eq-eqb u v e) in
        let rest : (u : ℕ) → u ≢ v → new-rank u ≡ ranked.rank u = λ u ne. rw (ne_eqb u v ne) in
        let same : (u : ℕ) → u < b.benches → round_of b ls u ≤ b.benches → new-rank u ≡ ranked.rank u =
        λ u hu f. ⊎_elim (λ e. absurd (omega (arith, subst (λ (n : ℕ). round_of b ls n ≤ b.benches) e f))) (rest u) (eq-or-ne u v)
        in
        let lower : (u : ℕ) → u < b.benches → round_of b ls u ≤ b.benches → new-rank u < ranked.top =
        λ u hu f. omega (arith, same u hu f, ranked.below_top u hu f)
        in
        record {
          rank = new-rank;
          top = suc ranked.top;
          below_top = λ u hu f. ⊎_elim (λ e. omega (arith, here u e))
              (λ ne. omega (arith, lower u hu (omega (arith, get_or-set_other ls v u i (never b) ne)))) (eq-or-ne u v);
          cause = λ u hu f. ⊎_elim
              (λ e. rw e (new_cause ls l before ranked.rank new-rank ranked.top v h lower (here v refl) parts.2))
              (λ ne.
              let g : round_of b ls u ≤ b.benches = omega (arith, get_or-set_other ls v u i (never b) ne) in
              level_cause_kept i i dir dir xs xs ls (set ls v i) ranked.rank new-rank grows_refl marks_refl levels same u hu g (ranked.cause u hu g))
              (eq-or-ne u v);
        }

    pub activating_ranked : {ls last : List ℕ} → Activating b i dir xs ls last → length ls ≡ b.benches → Before b (suc i) ls → Ranked b dir xs ls → Ranked b dir xs last
    activating_ranked (settled none) l before ranked = ranked
    activating_ranked (activating {level = ls} v h a rest) l before ranked =
        activating_ranked rest (length-set ls v i ∙ l) (before_more (marks-set b i ls v l h (activates-parts b dir xs ls v a).1) before)
        (ranked_step ls l before v h a ranked)

  -- ── rounds ──

  module _ (laws : ForcedLaws b) where
    type_a-cause : (k : ℕ) (x : Explored) (later : Directions) (ys : List ℕ) (rank : ℕ → ℕ) → Between b k x → Grows x.dir later
        → (v : ℕ) → v < b.benches → type_a b k x v ≡ true → LevelCause b later ys (opened_levels b k x) rank v
    type_a-cause k x later ys rank between keeps v h t =
        let level : round_of b (opened_levels b k x) v ≤ b.benches = omega (arith, type_a-level b k x v h t, between.in_time) in
        ⊎_elim inl (λ c. inr (inl c))
        (opening_kept b ok keeps (marks_refl {k = k} {xs = opened_levels b k x}) v h level (type_a-opening b ok laws k x between v h t))

    pub opened_ranked : (k : ℕ) (x z : Explored) → Between b k x → Round b k x z → Ranked b x.dir x.joined x.level → Ranked b z.dir z.joined (opened_levels b k x)
    opened_ranked k x z between round ranked =
        let levels = opened_level_marks b ok laws k x between in
        let keeps = round_keeps b ok laws k x between z round in
        let new-rank : ℕ → ℕ = λ u. cond (type_a b k x u) ranked.top (ranked.rank u) in
        let here : (u : ℕ) → type_a b k x u ≡ true → new-rank u ≡ ranked.top = λ u t. rw t in
        let rest : (u : ℕ) → type_a b k x u ≡ false → new-rank u ≡ ranked.rank u = λ u t. rw t in
        let same : (u : ℕ) → u < b.benches → round_of b x.level u ≤ b.benches → new-rank u ≡ ranked.rank u =
        λ u hu f. ⊎_elim (λ t. absurd (omega (arith, type_a-inactive b k x between u hu t))) (rest u) (split (type_a b k x u))
        in
        record {
          rank = new-rank;
          top = suc ranked.top;
          below_top = λ u hu f. ⊎_elim (λ t. omega (arith, here u t))
              (λ t. omega (arith, rest u t, ranked.below_top u hu (omega (arith, other-level b k x u hu t)))) (split (type_a b k x u));
          cause = λ u hu f. ⊎_elim
              (λ t. type_a-cause k x z.dir z.joined new-rank between keeps u hu t)
              (λ t.
              let g : round_of b x.level u ≤ b.benches = omega (arith, other-level b k x u hu t) in
              level_cause_kept k k x.dir z.dir x.joined z.joined x.level (opened_levels b k x) ranked.rank new-rank keeps
              (round_marks_joined b ok laws k x between z round) levels same u hu g (ranked.cause u hu g))
              (split (type_a b k x u));
        }

    pub round_ranked : (k : ℕ) (x z : Explored) → Between b k x → Round b k x z → Between b (suc k) z
        → Ranked b x.dir x.joined x.level → Ranked b z.dir z.joined z.level
    round_ranked k x z between round after ranked =
        activating_ranked k between.in_time z.dir z.joined after.joined_before round.activation (length-table b.benches _)
        (before_marks (opened_level_marks b ok laws k x between) between.level_before) (opened_ranked k x z between round ranked)

    pub explored_ranked : Ranked b (explore b).dir (explore b).joined (explore b).level
    explored_ranked =
        (rounds-induction b ok laws (λ k x. Ranked b x.dir x.joined x.level) (explore b)
        (λ k x z hk between round after rest p. round_ranked k x z between round after p)
        (explore-rounds b ok laws) (unexplored-between b ok laws)
        (record {
          rank = λ v. 0;
          top = 0;
          below_top = λ v h f. absurd (omega (arith, unexplored-joined b ok laws v h));
          cause = λ v h f. absurd (omega (arith, unexplored-joined b ok laws v h));
        })
        ).kept
