-- The two loops of FORCED ORIENTATIONS with their candidates.
--     InnerSets     the inner loop: every marked bench from which a rock is forced is a candidate, and every other one is watched; the neutral rocks
--     OuterSets     the outer loop: every bench from which a rock is forced is a candidate; the neutral rocks
use Rattle.std.proofs.Common.{Some, None}
use Prim.Native.Nat.{ℕ, suc, ◌≤◌, ◌<◌}
use mathlib.Core.Path.{◌≡◌, refl, sym, subst, ◌∙◌}
use mathlib.Core.Bool.{Bool, true, false, ◌||◌}
use mathlib.Core.Logic.{inl, inr, ◌≢◌}
use mathlib.Core.List.{List}
use native.Mathlib.Omega.{arith}
use lib.ListN.{length, get_or, set, replicate, length-set, length-replicate, get_or-replicate}
use lib.Bits.{bit_or}
use lib.Dec.{eqb}
use lib.Seq.{get_or-set_same, get_or-set_other}
use borrow.Author.Tests.{eq-eqb, eqb-true}
use Rattle.bools.proofs.BoolLaws.{clash, or_left, or_right, or_elim}
use Rattle.bools.proofs.OrderLaws.{eq-or-ne}
use Rattle.bits.specs.Bits.{is_set}
use Rattle.bits.proofs.SetBits.{is_set-zero}
use Rattle.rocks.specs.declared.rocks.Limits.{Limits}
use Rattle.algorithm.specs.Board.{Board, Directions}
use Rattle.algorithm.specs.Forced.{direct, nobody, inner, forced_orientations}
use Rattle.algorithm.specs.Properties.{Pointed}
use Rattle.arrays.specs.Arrays.{plus_of}
use Rattle.rocks.specs.RockArrays.{touches_at, other_at}
use Rattle.forced.specs.SetArrays.{forced_at, forces_at, Covers, Nowhere, Tails}
use Rattle.rocks.specs.BoardArrays.{rocks_of, rock_at, Rocks, Seen}
use Rattle.rock_graph.specs.Neighbours.{Incident}
use Rattle.forced.specs.CandidateArrays.{Neutral, rock_of, bench_of, Left, CoversBut}
use Rattle.sets.proofs.SetLaws.{or-is_set}
use Rattle.forced.proofs.CandidateLaws.{covers_left, rock-ends, few-rocks, few_benches, nowhere}
use Rattle.forced.proofs.NeutralLaws.{WithOne, WithoutOne, neutral_next}
use Rattle.forced.proofs.ForcedRun.{Inner, inner-starts, inner-next, inner-ends, inner-spent, Outer, outer-goes_on, outer-ends, outer-spent, forced-step}
use Rattle.rocks.proofs.BoardLaws.{directs_seen}
use Rattle.forced.proofs.ForcedSets.{Inside, forces-marked, forced_marked, forced_forces, bench_same, left_same, search_found, search_none, bench_below, other_near, forces_after, tails_next, nowhere_forced}

module _ (b : Board) (n : Limits) (low high weight : List ℕ) (R : Rocks b n low high weight) (incident : List ℕ) (few : rocks_of b ≤ 64) (H : Incident n low high incident) where
  -- ── the inner loop ──

  module _ (dirs : Directions) (first watch : ℕ) (dir₀ : List ℕ) (tails₀ : ℕ) where
    pub record InnerSets (k : ℕ) (dir loads : List ℕ) (cand tails neutral : ℕ) : Type 0 where
      pub marked : List Bool
      pub long : length marked ≡ 64
      pub loop : Inner b n low high weight R dirs (set (nobody b) first true) k dir loads marked
      pub covers : Covers n low high (forced_at n.bound weight dir loads marked) cand
      pub inside : Inside cand marked
      pub rest : (r v : ℕ) → r < n.rocks → touches_at low high r v ≡ true → forces_at n.bound weight dir loads r v ≡ true
          → (is_set 64 watch v || is_set 64 cand v) ≡ true
      pub away : (dir₁ : List ℕ) → Tails n low high dir₁ dir₀ tails₀ → Tails n low high dir₁ dir tails
      pub free : Neutral n dir neutral

    pub inner-sets_start : (k cand neutral : ℕ) {loads : List ℕ} → Seen b dirs dir₀ loads → k ≡ n.jobs → first < 64 → WithOne 0 cand first
        → Neutral n dir₀ neutral → CoversBut n low high (forces_at n.bound weight dir₀ loads) watch first → InnerSets k dir₀ loads cand tails₀ neutral
    inner-sets_start k cand neutral {loads} S e h one N C =
        let ms : List Bool = set (replicate 64 false) first true in
        let wide : length (replicate 64 false) ≡ 64 = length-replicate 64 false in
        let is-first : is_set 64 cand first ≡ true = one first h ∙ or_right (is_set 64 0 first) (eq-eqb first first refl) in
        let first-is : (v : ℕ) → v < 64 → get_or ms v false ≡ true → v ≡ first =
        λ v hv p. elim (eq-or-ne v first) [
          | inl q ↦ q
          | inr q ↦ clash p (get_or-set_other (replicate 64 false) first v true false q ∙ get_or-replicate 64 v false false hv)
        ] in
        record {
          marked = ms;
          long = length-set (replicate 64 false) first true ∙ wide;
          loop = inner-starts b n low high weight R dirs first k S refl e;
          covers = λ r v l t p.
              subst (λ (w : ℕ). is_set 64 cand w ≡ true)
              (sym (first-is v (bench_below b n low high weight R r v l t) (forced_marked n.bound weight dir₀ loads ms r v p))) is-first;
          inside = λ v hv p. elim (or_elim (is_set 64 0 v) (eqb v first) (sym (one v hv) ∙ p)) [
            | inl q ↦ clash q (is_set-zero 64 v)
            | inr q ↦
                subst (λ (w : ℕ). get_or ms w false ≡ true) (sym (eqb-true v first q))
                (get_or-set_same (replicate 64 false) first true false (omega (arith, wide)))
          ];
          rest = λ r v l t p. elim (or_elim (is_set 64 watch v) (eqb v first) (C r v l t p)) [
            | inl q ↦ or_left (is_set 64 cand v) q
            | inr q ↦ or_right (is_set 64 watch v) (subst (λ (w : ℕ). is_set 64 cand w ≡ true) (sym (eqb-true v first q)) is-first)
          ];
          away = λ dir₁ T. T;
          free = N;
        }

    module _ {k : ℕ} {dir loads : List ℕ} {cand tails neutral : ℕ} (I : InnerSets k dir loads cand tails neutral) where
      -- What a bench of cand or watch is after the benches passed are left out.
      rest_left : (left : ℕ) → Left incident (forces_at n.bound weight dir loads) cand left
          → (r v : ℕ) → r < n.rocks → touches_at low high r v ≡ true → forces_at n.bound weight dir loads r v ≡ true
          → (is_set 64 watch v || is_set 64 left v) ≡ true
      rest_left left L r v l t p = elim (or_elim (is_set 64 watch v) (is_set 64 cand v) (I.rest r v l t p)) [
        | inl q ↦ or_left (is_set 64 left v) q
        | inr q ↦
            or_right (is_set 64 watch v)
            (covers_left n low high incident H (few-rocks b n low high weight R few) (rock-ends b n low high weight R) (few_benches b n low high weight R)
            (forced_at n.bound weight dir loads I.marked) cand I.covers left
            (left_same n.bound weight dir loads I.marked incident cand I.inside left L) r v l t
            (sym (forces-marked n.bound weight dir loads I.marked r v (I.inside v (bench_below b n low high weight R r v l t) q)) ∙ p))
      ]

      pub inner-sets_spent : k ≤ 0
          → Seen b (inner b.jobs b dirs (set (nobody b) first true)) dir loads × Covers n low high (forces_at n.bound weight dir loads) (bit_or watch cand)
          × ((dir₁ : List ℕ) → Tails n low high dir₁ dir₀ tails₀ → Tails n low high dir₁ dir tails) × Neutral n dir neutral
      inner-sets_spent none =
          (inner-spent b n low high weight R I.loop none, λ r v l t p. or-is_set watch cand v ∙ I.rest r v l t p, I.away, I.free)

      pub inner-sets_ends : None ≡ bench_of incident (forces_at n.bound weight dir loads) cand
          → Seen b (inner b.jobs b dirs (set (nobody b) first true)) dir loads × Covers n low high (forces_at n.bound weight dir loads) watch
          × ((dir₁ : List ℕ) → Tails n low high dir₁ dir₀ tails₀ → Tails n low high dir₁ dir tails) × Neutral n dir neutral
      inner-sets_ends stop =
          let P : ℕ → ℕ → Bool = forced_at n.bound weight dir loads I.marked in
          let none = nowhere n low high incident H (few-rocks b n low high weight R few) (rock-ends b n low high weight R) (few_benches b n low high weight R)
          P cand I.covers (stop ∙ bench_same n.bound weight dir loads I.marked incident cand I.inside) in (
            inner-ends b n low high weight R I.loop n.benches
                (search_none b n low high weight R incident few H dir loads I.marked cand I.covers I.inside stop) refl,
            λ r w l t p. elim (or_elim (is_set 64 watch w) (is_set 64 cand w) (I.rest r w l t p)) [
              | inl q ↦ q
              | inr q ↦
                  clash (sym (forces-marked n.bound weight dir loads I.marked r w (I.inside w (bench_below b n low high weight R r w l t) q)) ∙ p)
                  (none r w l t)
            ],
            I.away,
            I.free,
          )

      pub inner-sets_next : (v r u left cand' tails' neutral' k' : ℕ) {dir' loads' : List ℕ}
          → Some v ≡ bench_of incident (forces_at n.bound weight dir loads) cand
          → Some r ≡ rock_of incident (forces_at n.bound weight dir loads) v
          → Left incident (forces_at n.bound weight dir loads) cand left → k ≡ suc k'
          → u ≡ other_at low high r v → dir' ≡ set dir r (plus_of u 1) → loads' ≡ set loads u (plus_of (get_or loads u 0) (get_or weight r 0))
          → WithOne tails tails' v → WithoutOne neutral neutral' r → WithOne left cand' u
          → InnerSets k' dir' loads' cand' tails' neutral'
      inner-sets_next v r u left cand' tails' neutral' k' {dir'} {loads'} bench rock L turn at ed el tail less come =
          let S = search_found b n low high weight R incident few H dir loads I.marked cand I.covers I.inside v r bench rock in
          let far : u < 64 = subst (λ (x : ℕ). x < 64) (sym at) (other_near b n low high weight R r v S.below S.touched) in
          let room : r < length dir = omega (arith, S.below, R.rocks, I.loop.seen.directed.room) in
          let x : ℕ = plus_of (get_or loads u 0) (get_or weight r 0) in
          let ms : List Bool = set I.marked u true in
          let before : (s w : ℕ) → forces_at n.bound weight dir' loads' s w ≡ true → w ≢ u → forces_at n.bound weight dir loads s w ≡ true =
          λ s w p apart. forces_after b n low high weight R r v u S.below S.touched at dir room loads x s w
          (rw (← ed, ← el) p) apart in
          let kept = covers_left n low high incident H (few-rocks b n low high weight R few) (rock-ends b n low high weight R) (few_benches b n low high weight R)
          (forced_at n.bound weight dir loads I.marked) cand I.covers left
          (left_same n.bound weight dir loads I.marked incident cand I.inside left L) in
          record {
            marked = ms;
            long = length-set I.marked u true ∙ I.long;
            loop = inner-next b n low high weight R I.loop v S.lowest u r k' S.some turn S.first at ed el refl;
            covers = λ s w l t p.
                let hw : w < 64 = bench_below b n low high weight R s w l t in
                come w hw ∙ elim (eq-or-ne w u) [
                  | inl q ↦ or_right (is_set 64 left w) (eq-eqb w u q)
                  | inr q ↦
                      let old = before s w (forced_forces n.bound weight dir' loads' ms s w p) q in
                      let was : get_or I.marked w false ≡ true =
                      sym (get_or-set_other I.marked u w true false q) ∙ forced_marked n.bound weight dir' loads' ms s w p in
                      or_left (eqb w u) (kept s w l t (sym (forces-marked n.bound weight dir loads I.marked s w was) ∙ old))
                ];
            inside = λ w hw p. elim (eq-or-ne w u) [
              | inl q ↦ subst (λ (y : ℕ). get_or ms y false ≡ true) (sym q) (get_or-set_same I.marked u true false (omega (arith, I.long)))
              | inr q ↦
                  get_or-set_other I.marked u w true false q
                  ∙ I.inside w hw (L.inside w hw (elim (or_elim (is_set 64 left w) (eqb w u) (sym (come w hw) ∙ p)) [
                    | inl y ↦ y
                    | inr y ↦ absurd (q (eqb-true w u y))
                  ]))
            ];
            rest = λ s w l t p.
                let hw : w < 64 = bench_below b n low high weight R s w l t in
                elim (eq-or-ne w u) [
                  | inl q ↦ or_right (is_set 64 watch w) (come w hw ∙ or_right (is_set 64 left w) (eq-eqb w u q))
                  | inr q ↦ elim (or_elim (is_set 64 watch w) (is_set 64 left w) (rest_left left L s w l t (before s w p q))) [
                    | inl y ↦ or_left (is_set 64 cand' w) y
                    | inr y ↦ or_right (is_set 64 watch w) (come w hw ∙ or_left (eqb w u) y)
                  ]
                ];
            away = λ dir₁ T. rw ed (tails_next b n low high weight R r v u S.below S.touched at dir room dir₁ tails tails' tail (I.away dir₁ T));
            free = neutral_next n dir r u room ed neutral neutral' less I.free;
          }

  -- ── the outer loop ──

  module _ (dirs : Directions) (dir₀ : List ℕ) where
    pub record OuterSets (k : ℕ) (dir loads : List ℕ) (left tails neutral : ℕ) : Type 0 where
      pub pointed : Pointed b dirs
      pub loop : Outer b n low high weight R dirs k dir loads
      pub covers : Covers n low high (forces_at n.bound weight dir loads) left
      pub away : Tails n low high dir₀ dir tails
      pub free : Neutral n dir neutral

    everywhere : (v : ℕ) → v < 64 → get_or (replicate 64 true) v false ≡ true
    everywhere v h = get_or-replicate 64 v true false h

    module _ {k : ℕ} {dir loads : List ℕ} {left tails neutral : ℕ} (O : OuterSets k dir loads left tails neutral) where
      all_covers : Covers n low high (forced_at n.bound weight dir loads (replicate 64 true)) left
      all_covers r v l t p = O.covers r v l t (forced_forces n.bound weight dir loads (replicate 64 true) r v p)

      pub outer_sets_spent : k ≤ 0
          → Seen b (forced_orientations b dirs) dir loads × Tails n low high dir₀ dir tails × Nowhere n low high (forces_at n.bound weight dir loads)
          × Neutral n dir neutral
      outer_sets_spent none =
          let S = outer-spent b n low high weight R O.loop none in
          (S, O.away, nowhere_forced b n low high weight R dirs dir loads O.pointed S, O.free)

      pub outer_sets_ends : None ≡ bench_of incident (forces_at n.bound weight dir loads) left
          → Seen b (forced_orientations b dirs) dir loads × Tails n low high dir₀ dir tails × Nowhere n low high (forces_at n.bound weight dir loads)
          × Neutral n dir neutral
      outer_sets_ends stop =
          let S = outer-ends b n low high weight R O.loop n.benches (replicate 64 true) (λ u h. everywhere u (omega (arith, R.few_benches)))
          (search_none b n low high weight R incident few H dir loads (replicate 64 true) left all_covers (λ u h p. everywhere u h) stop) refl in
          (S, O.away, nowhere_forced b n low high weight R dirs dir loads O.pointed S, O.free)

      pub outer_sets_next : (v r u left₁ tails₁ neutral₁ left₂ tails₂ neutral₂ k' : ℕ) (dir₁ loads₁ : List ℕ) {dir₂ loads₂ : List ℕ}
          → Some v ≡ bench_of incident (forces_at n.bound weight dir loads) left
          → Some r ≡ rock_of incident (forces_at n.bound weight dir loads) v
          → Left incident (forces_at n.bound weight dir loads) left left₁ → k ≡ suc k'
          → u ≡ other_at low high r v → dir₁ ≡ set dir r (plus_of u 1) → loads₁ ≡ set loads u (plus_of (get_or loads u 0) (get_or weight r 0))
          → WithOne tails tails₁ v → WithoutOne neutral neutral₁ r
          → ((x : Directions) → Neutral n dir₁ neutral₁ → CoversBut n low high (forces_at n.bound weight dir₁ loads₁) left₁ u → u < 64 → Seen b x dir₁ loads₁
          → Seen b (inner b.jobs b x (set (nobody b) u true)) dir₂ loads₂ × Covers n low high (forces_at n.bound weight dir₂ loads₂) left₂
          × ((d : List ℕ) → Tails n low high d dir₁ tails₁ → Tails n low high d dir₂ tails₂) × Neutral n dir₂ neutral₂)
          → OuterSets k' dir₂ loads₂ left₂ tails₂ neutral₂
      outer_sets_next v r u left₁ tails₁ neutral₁ left₂ tails₂ neutral₂ k' dir₁ loads₁ {dir₂} {loads₂} bench rock L turn at ed el tail less call =
          let ms : List Bool = replicate 64 true in
          let S = search_found b n low high weight R incident few H dir loads ms left all_covers (λ w h p. everywhere w h) v r bench rock in
          let far : u < 64 = subst (λ (x : ℕ). x < 64) (sym at) (other_near b n low high weight R r v S.below S.touched) in
          let room : r < length dir = omega (arith, S.below, R.rocks, O.loop.seen.directed.room) in
          let kept = covers_left n low high incident H (few-rocks b n low high weight R few) (rock-ends b n low high weight R) (few_benches b n low high weight R)
          (forces_at n.bound weight dir loads) left O.covers left₁ L in
          let but : CoversBut n low high (forces_at n.bound weight dir₁ loads₁) left₁ u =
          λ s w l t p. elim (eq-or-ne w u) [
            | inl q ↦ or_right (is_set 64 left₁ w) (eq-eqb w u q)
            | inr q ↦
                or_left (eqb w u)
                (kept s w l t
                (forces_after b n low high weight R r v u S.below S.touched at dir room loads (plus_of (get_or loads u 0) (get_or weight r 0)) s w
                (rw (← ed, ← el) p) q))
          ] in
          let step = forced-step b n low high weight R O.loop.now_dirs dir loads O.loop.seen ms v r S.lowest S.some S.first in
          let shown : Seen b (direct b O.loop.now_dirs v (rock_at b r)) dir₁ loads₁ =
          rw (ed, el, at) (directs_seen b n low high weight R O.loop.now_dirs r v step.rock_below step.touched dir loads O.loop.seen step.free) in
          let free : Neutral n dir₁ neutral₁ = neutral_next n dir r u room ed neutral neutral₁ less O.free in
          let after = call (direct b O.loop.now_dirs v (rock_at b r)) free but far shown in
          record {
            pointed = O.pointed;
            loop =
                outer-goes_on b n low high weight R O.loop v ms (λ w h. everywhere w (omega (arith, R.few_benches))) S.lowest u r k' dir₂ loads₂ S.some turn S.first at
                (λ x seen. (call x free but far (rw (ed, el) seen)).0);
            covers = after.1;
            free = after.3;
            away = after.2 dir₀ (rw ed (tails_next b n low high weight R r v u S.below S.touched at dir room dir₀ tails tails₁ tail O.away));
          }
