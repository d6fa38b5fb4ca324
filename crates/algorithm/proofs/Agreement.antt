-- E4: a safe set without Type A benches stays outside the conflict set.
--     Agrees b U o dir        each directed rock that touches U is directed as o has it
--     agrees-load             so a bench of a safe set keeps within the bound
--     outside_end             a rock between a bench outside of a safe set and one in it leads into the set
--     forced_end              a forced rock that touches a safe set is directed as o has it
--     agrees-direct, agrees_forced      directing a rock as o has it, and forced orientations, keep the agreement
--     Apart b U xs            no bench of U has a round in xs
--     building_agrees         the conflict set construction keeps agreement and apartness
--     type_a-outside          a Type A bench is not in U, if no pebble on a bench of level below i may go to U
--     rounds_outside, explored_outside        so the benches of U join after round i, if at all
use Prim.Native.Nat.{ℕ, zero, suc, ◌+◌, ◌≤◌, ◌<◌}
use mathlib.Core.Path.{◌≡◌, sym, ap, subst, ◌∙◌}
use mathlib.Core.Logic.{⊎_elim, ◌≢◌}
use mathlib.Core.Bool.{Bool, true, false, not, ◌&&◌}
use mathlib.Core.List.{List}
use native.Mathlib.Omega.{arith}
use lib.ListN.{get_or, replicate, get_or-replicate}
use lib.Seq.{get_or-set_other}
use lib.Dec.{eqb}
use borrow.Author.Tests.{eq-eqb, eqb-true, ltb-true}
use Rattle.bools.proofs.BoolLaws.{split, clash, and_intro, and_left, and_right, and-false_left, and-false_right}
use Rattle.bools.proofs.OrderLaws.{lt-or-le, eq-or-ne}
use Rattle.sums.specs.Sum.{on}
use Rattle.sums.proofs.SumLaws.{on_mono, sum-le, sum-gap}
use Rattle.sums.proofs.SearchLaws.{any_elim}
use Rattle.algorithm.specs.Board.{Board, Directions, touches, other, neutral, towards, away, rock_load, load}
use Rattle.algorithm.specs.Forced.{forces, direct}
use Rattle.algorithm.specs.Explore.{Explored, never, round_of, within, in_conflict, activated, joins, in_reach, type_a, unexplored, explore}
use Rattle.algorithm.specs.Properties.{SoundBoard, Pointed, ForcedSteps, no_step, a_step, Safe, rnd, lev}
use Rattle.algorithm.proofs.BoardLaws.{touches-rock, touches-below, touches-low, touches-high, touches-other, other-other, other-below}
use Rattle.algorithm.proofs.BoardLaws.{other_differs, neutral-directed, towards-unique, direct-towards, direct-towards-rest, pointed_start}
use Rattle.algorithm.proofs.BoardLaws.{pointed-direct}
use Rattle.algorithm.proofs.ForcedInterface.{ForcedLaws}
use Rattle.algorithm.proofs.Keeping.{forces-parts}
use Rattle.algorithm.proofs.RoundSteps.{Building, joins-parts, fake-parts, call-fake}
use Rattle.algorithm.proofs.RoundLaws.{Ready, Between, Round, building_induction, opened_ready, other-joined, round_marks_joined}
use Rattle.algorithm.proofs.ExploreRounds.{Rounds, one_round, Later, rounds-induction, rounds-later, unexplored-joined, unexplored-between}
use Rattle.algorithm.proofs.ExploreRounds.{explore-rounds}

abbrev pub Agrees : Board → (ℕ → Bool) → (ℕ → ℕ) → Directions → Type 0
Agrees b U o dir = (e v u : ℕ) → e < b.jobs → touches b e v ≡ true → U v ≡ true → towards dir e u ≡ true → o e ≡ u

abbrev pub Apart : Board → (ℕ → Bool) → List ℕ → Type 0
Apart b U xs = (v : ℕ) → v < b.benches → U v ≡ true → never b ≤ round_of b xs v

module _ (b : Board) (ok : SoundBoard b) (U : ℕ → Bool) (o : ℕ → ℕ) (safe : Safe b U o) where
  -- ── loads ──

  term_agrees : (dir : Directions) → Agrees b U o dir → (v : ℕ) → U v ≡ true → (e : ℕ) → e < b.jobs
      → on (touches b e v && towards dir e v) (b.weight e) ≤ on (b.rock e && eqb (o e) v) (b.weight e)
  term_agrees dir agrees v uv e h =
      on_mono (touches b e v && towards dir e v) (b.rock e && eqb (o e) v)
      (λ p.
      let t = and_left (touches b e v) (towards dir e v) p in
      and_intro (touches-rock b e v t) (eq-eqb (o e) v (agrees e v v h t uv (and_right (touches b e v) (towards dir e v) p))))
      (omega arith)

  pub agrees-load : (dir : Directions) → Agrees b U o dir → (v : ℕ) → v < b.benches → U v ≡ true → load b dir v ≤ b.bound
  unfolding rock_load
  agrees-load dir agrees v h uv =
      let less = sum-le b.jobs (λ e. on (touches b e v && towards dir e v) (b.weight e)) (λ e. on (b.rock e && eqb (o e) v) (b.weight e)) (term_agrees dir agrees v uv) in
      omega (arith, safe.kept v h uv)

  -- A neutral rock that o gives to v has room there too.
  agrees_room : (dir : Directions) → Agrees b U o dir → (v e : ℕ) → v < b.benches → U v ≡ true → e < b.jobs → touches b e v ≡ true
      → neutral dir e ≡ true → o e ≡ v → load b dir v + b.weight e ≤ b.bound
  unfolding rock_load
  agrees_room dir agrees v e h uv he t n q =
      let old : on (touches b e v && towards dir e v) (b.weight e) ≡ 0 =
      ap (λ (k : Bool). on k (b.weight e))
      (and-false_right (touches b e v) (⊎_elim (λ p. absurd (neutral-directed dir e v n p)) (λ p. p) (split (towards dir e v))))
      in
      let new : on (b.rock e && eqb (o e) v) (b.weight e) ≡ b.weight e =
      ap (λ (k : Bool). on k (b.weight e)) (and_intro (touches-rock b e v t) (eq-eqb (o e) v q))
      in
      let less = sum-gap b.jobs (λ i. on (touches b i v && towards dir i v) (b.weight i)) (λ i. on (b.rock i && eqb (o i) v) (b.weight i)) e (b.weight e) he
      (term_agrees dir agrees v uv) (omega arith)
      in
      omega (arith, safe.kept v h uv)

  -- ── single orientations ──

  oriented_end : (e : ℕ) → e < b.jobs → b.rock e ≡ true → touches b e (o e) ≡ true
  oriented_end e h r = ⊎_elim (λ q. rw q (touches-low b e r)) (λ q. rw q (touches-high b e r)) (safe.orientation e h r)

  pub outside_end : (e x v : ℕ) → e < b.jobs → v < b.benches → touches b e x ≡ true → U x ≡ false → touches b e v ≡ true → U v ≡ true → o e ≡ other b e x
  outside_end e x v h hv tx ux tv uv =
      let differ : v ≢ x = λ q. clash uv (ap U q ∙ ux) in
      let end = touches-other b ok e x v h tx tv differ in
      let back : other b e v ≡ x = ap (other b e) end ∙ other-other b ok e x h tx in
      safe.into e v h hv tv uv (ap U back ∙ ux) ∙ end

  -- If o directed a forced rock to the bench that forces it, that bench would be in U by safety; o has all the rocks there that are directed to it,
  -- and the bound would be passed.
  pub forced_end : (dir : Directions) → Agrees b U o dir → (x e : ℕ) → x < b.benches → e < b.jobs → forces b dir x e ≡ true
      → (v : ℕ) → v < b.benches → touches b e v ≡ true → U v ≡ true → o e ≡ other b e x
  forced_end dir agrees x e hx h f v hv tv uv =
      let parts = forces-parts b dir x e f in
      ⊎_elim
      (λ ux. ⊎_elim
      (λ q. absurd (omega (arith, agrees_room dir agrees x e hx ux h parts.0 parts.1 q)))
      (λ ne. touches-other b ok e x (o e) h parts.0 (oriented_end e h (touches-rock b e x parts.0)) ne)
      (eq-or-ne (o e) x))
      (λ ux. outside_end e x v h hv parts.0 ux tv uv)
      (split (U x))

  pub agrees-direct : (dir : Directions) → Pointed b dir → Agrees b U o dir → (x e : ℕ) → e < b.jobs
      → ((v : ℕ) → touches b e v ≡ true → U v ≡ true → o e ≡ other b e x) → Agrees b U o (direct b dir x e)
  agrees-direct dir pointed agrees x e h end f v u hf tv uv s =
      ⊎_elim
      (λ q.
      let head = towards-unique (direct b dir x e) f u (other b e x) s
      (subst (λ (k : ℕ). towards (direct b dir x e) k (other b e x) ≡ true) (sym q) (direct-towards b dir x e (omega (arith, pointed.one_to_a_job))))
      in
      ap o q ∙ end v (subst (λ (k : ℕ). touches b k v ≡ true) q tv) uv ∙ sym head)
      (λ ne. agrees f v u hf tv uv (sym (direct-towards-rest b dir x e f u ne) ∙ s))
      (eq-or-ne f e)

  pub agrees_forced : {dir last : Directions} → ForcedSteps b dir last → Pointed b dir → Agrees b U o dir → Agrees b U o last
  agrees_forced no_step pointed agrees = agrees
  agrees_forced (a_step {dir = d} x e hx h f rest) pointed agrees =
      let t = (forces-parts b d x e f).0 in
      agrees_forced rest (pointed-direct b ok d pointed x e h t)
      (agrees-direct d pointed agrees x e h (λ v tv uv. forced_end d agrees x e hx h f v (touches-below b ok e v h tv) tv uv))

  -- ── rounds ──

  module _ (laws : ForcedLaws b) where
    -- A bench that joins points into the conflict set, and o has it so too: by safety it is not in U.
    joiner_outside : (dir : Directions) (xs : List ℕ) → Agrees b U o dir → Apart b U xs → (v : ℕ) → joins b dir xs v ≡ true → U v ≡ false
    joiner_outside dir xs agrees apart v p =
        let (e, h, f) = (joins-parts b dir xs v p).1 in
        let a = and_left (away b dir e v) (within b xs (other b e v)) f in
        let t = and_left (touches b e v) (towards dir e (other b e v)) a in
        let s = and_right (touches b e v) (towards dir e (other b e v)) a in
        let inside = ltb-true (round_of b xs (other b e v)) (never b) (and_right (away b dir e v) (within b xs (other b e v)) f) in
        ⊎_elim
        (λ uv. ⊎_elim
        (λ uu. absurd (omega (arith, apart (other b e v) (other-below b ok e v h t) uu)))
        (λ uu. absurd (other_differs b ok e v h t (sym (agrees e v (other b e v) h t uv s) ∙ safe.into e v h (touches-below b ok e v h t) t uv uu)))
        (split (U (other b e v))))
        (λ uv. uv)
        (split (U v))

    pub building_agrees : {i : ℕ} {dir last-dir : Directions} {joined last-joined : List ℕ} → Building b i dir joined last-dir last-joined → Ready b dir joined
        → Agrees b U o dir × Apart b U joined → Agrees b U o last-dir × Apart b U last-joined
    building_agrees {i} building ready =
        building_induction b ok laws i (λ d xs. Agrees b U o d × Apart b U xs)
        (λ d xs v r hv p q. (
          q.0,
          λ u hu uu. ⊎_elim
              (λ e. clash uu (ap U e ∙ joiner_outside d xs q.0 q.1 v p))
              (λ ne. rw (get_or-set_other xs v u i (never b) ne) (q.1 u hu uu))
              (eq-or-ne u v),
        ))
        (λ d xs v j r hv hj f q.
        let parts = fake-parts b d xs v j f in
        let uv : U v ≡ false = ⊎_elim (λ p. absurd (omega (arith, q.1 v hv p, ltb-true (round_of b xs v) (never b) parts.0))) (λ p. p) (split (U v)) in
        let called = call-fake b ok laws d r.pointed v j hj parts.1 parts.2 in (
          agrees_forced called.1 (pointed-direct b ok d r.pointed v j hj parts.1)
              (agrees-direct d r.pointed q.0 v j hj (λ u tu uu. outside_end j v u hj (touches-below b ok j u hj tu) parts.1 uv tu uu)),
          q.1,
        ))
        building ready

    module _ (i : ℕ) (y : Explored)
        (no_way : (j v : ℕ) → j < b.jobs → b.pebble j ≡ true → lev b y (b.place j) < i → b.allows j v ≡ true → U v ≡ false) where
      pub type_a-outside : (k : ℕ) (x : Explored) → Between b k x → Later b k x y → k ≤ i → Agrees b U o x.dir
          → (v : ℕ) → v < b.benches → type_a b k x v ≡ true → U v ≡ false
      type_a-outside zero x between later hk agrees v h t =
          ⊎_elim (λ uv. absurd (omega (arith, agrees-load x.dir agrees v h uv, ltb-true b.bound (load b x.dir v) t))) (λ uv. uv) (split (U v))
      type_a-outside (suc k) x between later hk agrees v h t =
          let (j, hj, p) = any_elim b.jobs (λ j. b.pebble j && b.allows j v && eqb (suc (round_of b x.level (b.place j))) (suc k))
          (and_right (not (activated b x v)) (in_reach b (suc k) x.level v) t)
          in
          let both = and_left (b.pebble j && b.allows j v) (eqb (suc (round_of b x.level (b.place j))) (suc k)) p in
          let pebble = and_left (b.pebble j) (b.allows j v) both in
          let level = eqb-true (suc (round_of b x.level (b.place j))) (suc k) (and_right (b.pebble j && b.allows j v) (eqb (suc (round_of b x.level (b.place j))) (suc k)) p) in
          let there = ok.allowed_below j (b.place j) hj (ok.pebble_allowed j hj pebble) in
          let same = later.level_same (b.place j) there (omega (arith, between.in_time)) in
          no_way j v hj pebble (omega arith) (and_right (b.pebble j) (b.allows j v) both)

      Outside : ℕ → Explored → Type 0
      Outside k x = ((v : ℕ) → v < b.benches → U v ≡ true → i < rnd b x v) × (k ≤ i → Agrees b U o x.dir × Apart b U x.joined)

      round_outside : i ≤ b.benches → (k : ℕ) (x z : Explored) → Between b k x → Round b k x z → Later b k x y → Outside k x → Outside (suc k) z
      unfolding Outside
      round_outside hi k x z between round later p =
          ⊎_elim
          (λ late. (
            λ v h uv. ⊎_elim (λ q. omega (arith, p.0 v h uv)) (λ q. omega arith) ((round_marks_joined b ok laws k x between z round).mark v h),
            λ h. absurd (omega arith),
          ))
          (λ early.
          let (agrees, apart) = p.1 early in
          let after = building_agrees round.building (opened_ready b ok laws k x between) (
            agrees,
            λ v h uv.
                rw (other-joined b k x v h (and-false_left (not (in_conflict b x v))
                (⊎_elim (λ t. clash uv (type_a-outside k x between later early agrees v h t)) (λ t. t) (split (type_a b k x v)))))
                (apart v h uv),
          )
          in
          (λ v h uv. omega (arith, after.1 v h uv), λ h. after))
          (lt-or-le i k)

      pub rounds_outside : i ≤ b.benches → Rounds b 0 (unexplored b) y → (v : ℕ) → v < b.benches → U v ≡ true → i < rnd b y v
      unfolding Outside
      rounds_outside hi all =
          (rounds-induction b ok laws Outside y
          (λ k x z hk between round after rest p. round_outside hi k x z between round (rounds-later b ok laws (one_round hk round rest) between) p)
          all (unexplored-between b ok laws) (
            (λ v h uv. omega (arith, unexplored-joined b ok laws v h)),
            λ h. (
              agrees_forced (laws.call (replicate b.jobs 0) (pointed_start b)).1 (pointed_start b)
                  (λ e v u he t uv s. absurd (omega (arith, get_or-replicate {A = ℕ} b.jobs e 0 0 he, eqb-true (get_or (replicate b.jobs 0) e 0) (suc u) s))),
              λ v h uv. omega (arith, unexplored-joined b ok laws v h),
            ),
          )
          ).kept.0

pub explored_outside : (b : Board) → SoundBoard b → ForcedLaws b → (i : ℕ) (U : ℕ → Bool) (o : ℕ → ℕ) → i ≤ b.benches → Safe b U o
    → ((j v : ℕ) → j < b.jobs → b.pebble j ≡ true → lev b (explore b) (b.place j) < i → b.allows j v ≡ true → U v ≡ false)
    → (v : ℕ) → v < b.benches → U v ≡ true → i < rnd b (explore b) v
explored_outside b ok laws i U o hi safe no_way = rounds_outside b ok U o safe laws i (explore b) no_way hi (explore-rounds b ok laws)
