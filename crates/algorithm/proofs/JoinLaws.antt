-- E5: why a bench joined the conflict set.
--     Origin b dir xs         the tail of a directed rock is in the conflict set, or the rock was forced from it
--     origin-direct, origin_forced      fake orientations from the conflict set, and forced ones, keep this
--     JoinCause b dir xs ls v     v joined as a Type A bench, which opened its round, or by a rock that was forced from it
--     Caused b dir xs ls      each bench of the conflict set has such a cause
--     join_cause_kept         later directions, rounds and levels keep the cause
--     building_caused         each bench that joins in the construction has a cause
--     round_caused, explored_caused     so after each round, and at the end, each bench of the conflict set has one
use Prim.Native.Nat.{ℕ, suc, ◌+◌, ◌≤◌, ◌<◌}
use mathlib.Core.Path.{◌≡◌, sym, ap, subst, ◌∙◌}
use mathlib.Core.Logic.{◌⊎◌, inl, inr, ⊎_elim}
use mathlib.Core.Bool.{true, not, ◌&&◌}
use mathlib.Core.List.{List}
use native.Mathlib.Omega.{arith}
use lib.ListN.{length, get_or, set, replicate, get_or-replicate}
use lib.Seq.{get_or-set_same, get_or-set_other}
use borrow.Author.Tests.{eqb-true, ltb-true, lt-ltb}
use Rattle.bools.proofs.BoolLaws.{split, clash, and_intro, and_left, and_right, not-true}
use Rattle.bools.proofs.OrderLaws.{eq-or-ne}
use Rattle.sums.proofs.TableLaws.{length-table}
use Rattle.algorithm.specs.Board.{Board, Directions, touches, other, neutral, towards, away, load}
use Rattle.algorithm.specs.Forced.{direct}
use Rattle.algorithm.specs.Explore.{Explored, never, round_of, within, in_conflict, joins, type_a, unexplored, explore, opened_levels, opened_joined}
use Rattle.algorithm.specs.Properties.{SoundBoard, Pointed, ForcedSteps, no_step, a_step}
use Rattle.algorithm.proofs.GrowthLaws.{Grows, grows-direct, grows_refl}
use Rattle.algorithm.proofs.BoardLaws.{other-other, other-below, other_differs, touches-below, towards-unique, direct-towards}
use Rattle.algorithm.proofs.BoardLaws.{direct-towards-rest, pointed_start, pointed-direct}
use Rattle.algorithm.proofs.ForcedInterface.{ForcedLaws}
use Rattle.algorithm.proofs.Keeping.{keeps-away, keeps-load, forces-parts, Marks, Before, marks_refl}
use Rattle.algorithm.proofs.Keeping.{marks_old, marks-set, before_marks, before_more}
use Rattle.algorithm.proofs.RoundSteps.{Building, joins-parts, fake-parts, call-fake}
use Rattle.algorithm.proofs.RoundLaws.{Ready, Between, Round, building_induction, activating_marks}
use Rattle.algorithm.proofs.RoundLaws.{opened_joined_marks, opened_level_marks, opened_ready, type_a-level, type_a-joined, other-joined}
use Rattle.algorithm.proofs.OpenedLaws.{Opening, opening_kept, type_a-opening}
use Rattle.algorithm.proofs.ExploreRounds.{rounds-induction, unexplored-joined, unexplored-between, explore-rounds}

abbrev pub Origin : Board → Directions → List ℕ → Type 0
Origin b dir xs = (e v : ℕ) → e < b.jobs → away b dir e v ≡ true → (within b xs v ≡ true) ⊎ (b.bound < load b dir v + b.weight e)

abbrev pub JoinCause : Board → Directions → List ℕ → List ℕ → ℕ → Type 0
JoinCause b dir xs ls v =
    ((round_of b ls v ≤ round_of b xs v) × Opening b dir ls v)
    ⊎ ((e : ℕ) × (e < b.jobs) × (away b dir e v ≡ true) × (round_of b xs (other b e v) ≤ round_of b xs v) × (b.bound < load b dir v + b.weight e))

abbrev pub Caused : Board → Directions → List ℕ → List ℕ → Type 0
Caused b dir xs ls = (v : ℕ) → v < b.benches → round_of b xs v ≤ b.benches → JoinCause b dir xs ls v

module _ (b : Board) (ok : SoundBoard b) where
  -- ── where directed rocks come from ──

  pub origin-direct : (dir : Directions) (xs : List ℕ) → Pointed b dir → Origin b dir xs → (x e : ℕ) → e < b.jobs → touches b e x ≡ true → neutral dir e ≡ true
      → (within b xs x ≡ true) ⊎ (b.bound < load b dir x + b.weight e) → Origin b (direct b dir x e) xs
  origin-direct dir xs pointed origin x e h t n cause f v hf a =
      let later = direct b dir x e in
      let grows = keeps-load b (grows-direct b dir x e n) v in
      let tv = and_left (touches b f v) (towards later f (other b f v)) a in
      let s = and_right (touches b f v) (towards later f (other b f v)) a in
      ⊎_elim
      (λ q.
      let te : touches b e v ≡ true = subst (λ (i : ℕ). touches b i v ≡ true) q tv in
      let se : towards later e (other b e v) ≡ true = subst (λ (i : ℕ). towards later i (other b i v) ≡ true) q s in
      let heads = towards-unique later e (other b e v) (other b e x) se (direct-towards b dir x e (omega (arith, pointed.one_to_a_job))) in
      let same : v ≡ x = sym (other-other b ok e v h te) ∙ ap (other b e) heads ∙ other-other b ok e x h t in
      ⊎_elim
      (λ c. inl (rw same c))
      (λ (c : b.bound < load b dir x + b.weight e). inr (rw (same, q) (omega (arith, keeps-load b (grows-direct b dir x e n) x))))
      cause)
      (λ ne. ⊎_elim inl (λ c. inr (omega arith)) (origin f v hf (and_intro tv (sym (direct-towards-rest b dir x e f (other b f v) ne) ∙ s))))
      (eq-or-ne f e)

  pub origin_forced : (xs : List ℕ) {dir last : Directions} → ForcedSteps b dir last → Pointed b dir → Origin b dir xs → Origin b last xs
  origin_forced xs no_step pointed origin = origin
  origin_forced xs (a_step {dir = d} x e hx h f rest) pointed origin =
      let parts = forces-parts b d x e f in
      origin_forced xs rest (pointed-direct b ok d pointed x e h parts.0) (origin-direct d xs pointed origin x e h parts.0 parts.1 (inr parts.2))

  origin_marks : (dir : Directions) (i : ℕ) (xs ys : List ℕ) → Marks b i xs ys → Origin b dir xs → Origin b dir ys
  origin_marks dir i xs ys marks origin e v h a =
      let t = and_left (touches b e v) (towards dir e (other b e v)) a in
      ⊎_elim
      (λ c.
      let inside = ltb-true (round_of b xs v) (never b) c in
      let same = marks_old marks v (touches-below b ok e v h t) (omega arith) in
      inl (lt-ltb (round_of b ys v) (never b) (omega arith)))
      inr
      (origin e v h a)

  -- ── causes ──

  pub join_cause_kept : {i l : ℕ} {dir later : Directions} {xs ys ls ms : List ℕ} → Grows dir later → Marks b i xs ys → Marks b l ls ms
      → (v : ℕ) → v < b.benches → round_of b xs v ≤ b.benches → JoinCause b dir xs ls v → JoinCause b later ys ms v
  join_cause_kept {dir} {xs} {ys} {ls} {ms} keeps marks levels v h f cause =
      let same = marks_old marks v h f in
      ⊎_elim
      (λ c.
      let level = marks_old levels v h (omega arith) in
      inl (omega arith, opening_kept b ok keeps levels v h (omega arith) c.1))
      (λ c.
      let t = and_left (touches b c.0 v) (towards dir c.0 (other b c.0 v)) c.2 in
      let there = marks_old marks (other b c.0 v) (other-below b ok c.0 v c.1 t) (omega arith) in
      inr (c.0, c.1, keeps-away b keeps c.0 v c.2, omega arith, omega (arith, keeps-load b keeps v)))
      cause

  -- A bench joins by a rock that leads into the conflict set. The bench was outside, so no fake orientation directed the rock: it was forced.
  joining_cause : (i : ℕ) (ls : List ℕ) (dir : Directions) (xs : List ℕ) → length xs ≡ b.benches → (v : ℕ) → v < b.benches
      → joins b dir xs v ≡ true → Origin b dir xs → i ≤ b.benches → Before b (suc i) xs → JoinCause b dir (set xs v i) ls v
  joining_cause i ls dir xs l v h p origin hi before =
      let (out, some) = joins-parts b dir xs v p in
      let (e, he, f) = some in
      let a = and_left (away b dir e v) (within b xs (other b e v)) f in
      let t = and_left (touches b e v) (towards dir e (other b e v)) a in
      let inside = ltb-true (round_of b xs (other b e v)) (never b) (and_right (away b dir e v) (within b xs (other b e v)) f) in
      let here = get_or-set_same xs v i (never b) (omega arith) in
      let there = get_or-set_other xs v (other b e v) i (never b) (other_differs b ok e v he t) in
      ⊎_elim
      (λ c. clash c out)
      (λ c. inr (e, he, a, ⊎_elim (λ q. omega arith) (λ q. absurd (omega arith)) (before.before (other b e v) (other-below b ok e v he t)), c))
      (origin e v he a)

  module _ (laws : ForcedLaws b) where
    pub building_caused : {i : ℕ} {dir last-dir : Directions} {joined last-joined : List ℕ} (ls : List ℕ) → i ≤ b.benches
        → Building b i dir joined last-dir last-joined → Ready b dir joined
        → Origin b dir joined × Caused b dir joined ls × Before b (suc i) joined
        → Origin b last-dir last-joined × Caused b last-dir last-joined ls × Before b (suc i) last-joined
    building_caused {i} ls hi building ready =
        building_induction b ok laws i (λ d xs. Origin b d xs × Caused b d xs ls × Before b (suc i) xs)
        (λ d xs v r h p q.
        let marks = marks-set b i xs v r.joined_length h (joins-parts b d xs v p).0 in (
          origin_marks d i xs (set xs v i) marks q.0,
          (λ u hu f. ⊎_elim
              (λ e. rw e (joining_cause i ls d xs r.joined_length v h p q.0 hi q.2))
              (λ ne.
              let same = get_or-set_other xs v u i (never b) ne in
              join_cause_kept grows_refl marks (marks_refl {k = i} {xs = ls}) u hu (omega arith) (q.1 u hu (omega arith)))
              (eq-or-ne u v)),
          before_more marks q.2,
        ))
        (λ d xs v j r h hj f q.
        let parts = fake-parts b d xs v j f in
        let called = call-fake b ok laws d r.pointed v j hj parts.1 parts.2 in (
          origin_forced xs called.1 (pointed-direct b ok d r.pointed v j hj parts.1)
              (origin-direct d xs r.pointed q.0 v j hj parts.1 parts.2 (inl parts.0)),
          (λ u hu g. join_cause_kept called.3 (marks_refl {k = i} {xs = xs}) (marks_refl {k = i} {xs = ls}) u hu g (q.1 u hu g)),
          q.2,
        ))
        building ready

    -- A Type A bench joins and is activated in the same round.
    opened_caused : (k : ℕ) (x : Explored) → Between b k x → Caused b x.dir x.joined x.level → Caused b x.dir (opened_joined b k x) (opened_levels b k x)
    opened_caused k x between caused v h f =
        ⊎_elim
        (λ p.
        let t = and_left (type_a b k x v) (not (in_conflict b x v)) p in
        let out = not-true (in_conflict b x v) (and_right (type_a b k x v) (not (in_conflict b x v)) p) in
        inl (omega (arith, type_a-level b k x v h t, type_a-joined b k x v h t out), type_a-opening b ok laws k x between v h t))
        (λ p.
        let same = other-joined b k x v h p in
        join_cause_kept grows_refl (opened_joined_marks b k x) (opened_level_marks b ok laws k x between) v h (omega arith) (caused v h (omega arith)))
        (split (type_a b k x v && not (in_conflict b x v)))

    pub round_caused : (k : ℕ) (x z : Explored) → Between b k x → Round b k x z
        → Origin b x.dir x.joined × Caused b x.dir x.joined x.level → Origin b z.dir z.joined × Caused b z.dir z.joined z.level
    round_caused k x z between round p =
        let after = building_caused (opened_levels b k x) between.in_time round.building (opened_ready b ok laws k x between) (
          origin_marks x.dir k x.joined (opened_joined b k x) (opened_joined_marks b k x) p.0,
          opened_caused k x between p.1,
          before_marks (opened_joined_marks b k x) between.joined_before,
        )
        in (
          after.0,
          λ v h f. join_cause_kept grows_refl (marks_refl {k = k} {xs = z.joined}) (activating_marks round.activation (length-table b.benches _)) v h f (after.1 v h f),
        )

    pub explored_caused : Caused b (explore b).dir (explore b).joined (explore b).level
    explored_caused =
        (rounds-induction b ok laws (λ k x. Origin b x.dir x.joined × Caused b x.dir x.joined x.level) (explore b)
        (λ k x z hk between round after rest p. round_caused k x z between round p)
        (explore-rounds b ok laws) (unexplored-between b ok laws) (
          origin_forced (unexplored b).joined (laws.call (replicate b.jobs 0) (pointed_start b)).1 (pointed_start b)
              (λ e v h a. absurd (omega (
                arith,
                get_or-replicate {A = ℕ} b.jobs e 0 0 h,
                eqb-true (get_or (replicate b.jobs 0) e 0) (suc (other b e v)) (and_right (touches b e v) (towards (replicate b.jobs 0) e (other b e v)) a),
              ))),
          λ v h f. absurd (omega (arith, unexplored-joined b ok laws v h)),
        )
        ).kept.1
