-- The directions of an exploration, completed by an orientation of the rocks that stay neutral, and what is safe under them.
--     NeutralSpread b dir o      o gives each neutral rock one of its ends, and no bench two of them
--     spread-neutral             an orientation with at most one rock to a bench is such a one
--     completed dir o            a rock goes where dir has it, and where o has it if it is neutral
--     completed-neutral, completed-directed     the two cases
--     completed-orientation      the completion gives each rock one of its ends
--     completed-same             at a bench to which no neutral rock is given the completed load is the rock load
--     completed-load             the completion overloads no bench that is not overloaded without it
--     later b x i                the benches that joined the conflict set after round i, or never
--     completed-conflict         at a bench of the conflict set the completed load is the rock load
--     later-safe                 property S: the later benches are safe under the completed directions
use Prim.Native.Nat.{ℕ, suc, ◌+◌, ◌-◌, ◌≤◌, ◌<◌}
use mathlib.Core.Path.{◌≡◌, sym, ap, subst, ◌∙◌}
use mathlib.Core.Logic.{◌⊎◌, inl, inr, ⊎_elim, ◌≢◌}
use mathlib.Core.Bool.{Bool, true, false, cond, ◌&&◌}
use lib.ListN.{get_or}
use lib.Dec.{eqb, ltb}
use native.Mathlib.Omega.{arith}
use borrow.Author.Tests.{eqb-true, eqb-false, eq-eqb, ne_eqb}
use Rattle.bools.proofs.BoolLaws.{split, clash, and_intro, and_left, and_right, and-false_right, bool_ext, tests}
use Rattle.bools.proofs.OrderLaws.{lt-or-le}
use Rattle.sums.specs.Sum.{on}
use Rattle.sums.specs.Search.{any}
use Rattle.sums.proofs.SumLaws.{sum_cong, sum-update}
use Rattle.sums.proofs.SearchLaws.{any_elim, any_none}
use Rattle.algorithm.specs.Board.{Board, Directions, touches, neutral, towards, rock_load, load}
use Rattle.algorithm.specs.Explore.{Explored}
use Rattle.algorithm.specs.Properties.{Pointed, Orientation, oriented_load, Safe, Spread, rnd, Facts}
use Rattle.algorithm.proofs.BoardLaws.{touches-rock, touches-low, touches-high, neutral-directed}

pub record NeutralSpread (b : Board) (dir : Directions) (o : ℕ → ℕ) : Type 0 where
  pub to_an_end : (j : ℕ) → j < b.jobs → b.rock j ≡ true → neutral dir j ≡ true → (o j ≡ b.low j) ⊎ (o j ≡ b.high j)
  pub one_each : (e f : ℕ) → e < b.jobs → f < b.jobs → b.rock e ≡ true → b.rock f ≡ true
      → neutral dir e ≡ true → neutral dir f ≡ true → o e ≡ o f → e ≡ f

pub spread-neutral : (b : Board) (dir : Directions) (o : ℕ → ℕ) → Spread b o → NeutralSpread b dir o
spread-neutral b dir o spread =
    record {
      to_an_end = λ j h r n. spread.orientation j h r;
      one_each = λ e f he hf re rf ne nf same. spread.one_each e f he hf re rf same;
    }

unfoldable pub completed : Directions → (ℕ → ℕ) → ℕ → ℕ
completed dir o j = cond (neutral dir j) (o j) (get_or dir j 0 - 1)

module _ (dir : Directions) (o : ℕ → ℕ) (j : ℕ) where
  pub completed-neutral : neutral dir j ≡ true → completed dir o j ≡ o j
  unfolding completed
  completed-neutral n = rw n

  pub completed-directed : (v : ℕ) → towards dir j v ≡ true → completed dir o j ≡ v
  unfolding completed
  completed-directed v t =
      let e : get_or dir j 0 ≡ suc v = eqb-true (get_or dir j 0) (suc v) t in
      rw (ne_eqb (get_or dir j 0) 0 (λ z. omega arith)) (omega arith)

  -- A rock that the completion gives to v is neutral and o has it so, or it is directed towards v.
  completed-cases : (v : ℕ) → completed dir o j ≡ v → ((neutral dir j ≡ true) × (o j ≡ v)) ⊎ (towards dir j v ≡ true)
  unfolding completed
  completed-cases v e =
      ⊎_elim (λ n. inl (n, sym (completed-neutral n) ∙ e))
      (λ n.
      let is : get_or dir j 0 - 1 ≡ v = rw n at e in
      inr (eq-eqb (get_or dir j 0) (suc v) (omega (tests, n))))
      (split (neutral dir j))

module _ (b : Board) (dir : Directions) (pointed : Pointed b dir) (o : ℕ → ℕ) (spread : NeutralSpread b dir o) where
  pub completed-orientation : Orientation b (completed dir o)
  completed-orientation j h r =
      ⊎_elim (λ n. rw (completed-neutral dir o j n) (spread.to_an_end j h r n))
      (λ n.
      ⊎_elim (λ z. absurd (eqb-false (get_or dir j 0) 0 n z))
      (⊎_elim (λ e. inl (completed-directed dir o j (b.low j) (eq-eqb _ _ e))) (λ e. inr (completed-directed dir o j (b.high j) (eq-eqb _ _ e))))
      (pointed.to_an_end j h r))
      (split (neutral dir j))

  module _ (v : ℕ) where
    to_v : ℕ → Bool
    to_v j = b.rock j && eqb (completed dir o j) v

    headed : ℕ → Bool
    headed j = touches b j v && towards dir j v

    headed-touches : (j : ℕ) → j < b.jobs → b.rock j ≡ true → towards dir j v ≡ true → touches b j v ≡ true
    headed-touches j h r t =
        let e = eqb-true (get_or dir j 0) (suc v) t in
        ⊎_elim (λ z. absurd (omega arith))
        (⊎_elim
        (λ q. let w : v ≡ b.low j = omega arith in rw w (touches-low b j r))
        (λ q. let w : v ≡ b.high j = omega arith in rw w (touches-high b j r)))
        (pointed.to_an_end j h r)

    given-touches : (j : ℕ) → j < b.jobs → b.rock j ≡ true → neutral dir j ≡ true → o j ≡ v → touches b j v ≡ true
    given-touches j h r n is =
        subst (λ (u : ℕ). touches b j u ≡ true) is
        (⊎_elim (λ w. rw w (touches-low b j r)) (λ w. rw w (touches-high b j r)) (spread.to_an_end j h r n))

    same_rock : (j : ℕ) → j < b.jobs → (b.rock j ≡ true → neutral dir j ≡ true → o j ≢ v) → to_v j ≡ headed j
    unfolding to_v headed
    same_rock j h none =
        bool_ext (to_v j) (headed j)
        (λ p.
        let r = and_left (b.rock j) (eqb (completed dir o j) v) p in
        let e = eqb-true (completed dir o j) v (and_right (b.rock j) (eqb (completed dir o j) v) p) in
        ⊎_elim (λ q. absurd (none r q.0 q.1)) (λ t. and_intro (headed-touches j h r t) t) (completed-cases dir o j v e))
        (λ p.
        let t = and_left (touches b j v) (towards dir j v) p in
        let d = and_right (touches b j v) (towards dir j v) p in
        and_intro (touches-rock b j v t) (eq-eqb (completed dir o j) v (completed-directed dir o j v d)))

    pub completed-same : ((j : ℕ) → j < b.jobs → b.rock j ≡ true → neutral dir j ≡ true → o j ≢ v)
        → oriented_load b (completed dir o) v ≡ rock_load b dir v
    unfolding rock_load to_v headed
    completed-same none =
        sum_cong b.jobs (λ j. on (to_v j) (b.weight j)) (λ j. on (headed j) (b.weight j))
        (λ j h. ap (λ (k : Bool). on k (b.weight j)) (same_rock j h (none j h)))

    -- A neutral rock that is given to v is the only one, and adds its weight.
    completed-one : (e : ℕ) → e < b.jobs → b.rock e ≡ true → neutral dir e ≡ true → o e ≡ v
        → oriented_load b (completed dir o) v ≡ rock_load b dir v + b.weight e
    unfolding rock_load to_v headed
    completed-one e h r n is =
        let rest = sum-update b.jobs (λ j. on (to_v j) (b.weight j)) (λ j. on (headed j) (b.weight j)) e h
        (λ j hj ne. ap (λ (k : Bool). on k (b.weight j)) (same_rock j hj (λ rj nj q. ne (spread.one_each j e hj h rj r nj n (q ∙ sym is)))))
        in
        let here : on (to_v e) (b.weight e) ≡ b.weight e =
        ap (λ (k : Bool). on k (b.weight e)) (and_intro r (eq-eqb (completed dir o e) v (completed-neutral dir o e n ∙ is)))
        in
        let there : on (headed e) (b.weight e) ≡ 0 =
        ap (λ (k : Bool). on k (b.weight e))
        (and-false_right (touches b e v) (ne_eqb (get_or dir e 0) (suc v) (λ q. neutral-directed dir e v n (eq-eqb _ _ q))))
        in
        omega arith

    -- A bench is given at most one neutral rock, and no neutral rock is forced from it.
    pub completed-load : ((e : ℕ) → e < b.jobs → touches b e v ≡ true → neutral dir e ≡ true → load b dir v + b.weight e ≤ b.bound)
        → load b dir v ≤ b.bound → b.own v + oriented_load b (completed dir o) v ≤ b.bound
    completed-load unforced fits = ⊎_elim one none (split (any b.jobs given))
      where
        given : ℕ → Bool
        given j = b.rock j && neutral dir j && eqb (o j) v

        one : any b.jobs given ≡ true → b.own v + oriented_load b (completed dir o) v ≤ b.bound
        one p =
            let (e, h, q) = any_elim b.jobs given p in
            let rn = and_left (b.rock e && neutral dir e) (eqb (o e) v) q in
            let r = and_left (b.rock e) (neutral dir e) rn in
            let n = and_right (b.rock e) (neutral dir e) rn in
            let is = eqb-true (o e) v (and_right (b.rock e && neutral dir e) (eqb (o e) v) q) in
            omega (arith, completed-one e h r n is, unforced e h (given-touches e h r n is) n)

        none : any b.jobs given ≡ false → b.own v + oriented_load b (completed dir o) v ≤ b.bound
        none p =
            omega (arith, completed-same (λ j h r n q. clash (and_intro (and_intro r n) (eq-eqb (o j) v q)) (any_none b.jobs given p j h)))

-- ── the benches that joined late ──

abbrev pub later : Board → Explored → ℕ → ℕ → Bool
later b x i v = ltb i (rnd b x v)

module _ (b : Board) (x : Explored) (facts : Facts b x) (o : ℕ → ℕ) (spread : NeutralSpread b x.dir o) where
  pub completed-conflict : (v : ℕ) → v < b.benches → rnd b x v ≤ b.benches
      → oriented_load b (completed x.dir o) v ≡ rock_load b x.dir v
  completed-conflict v h joined =
      completed-same b x.dir facts.pointed o spread v
      (λ j hj r n q.
      clash n (facts.conflict_directed j v hj h (given-touches b x.dir facts.pointed o spread v j hj r n q) joined))

  -- A rock on the border leads to the bench that joined later (E1). An overloaded bench has level 0 and joined in round 0 (E2, E9),
  -- so a later bench is within the bound, and stays so under the completion (E3).
  pub later-safe : (i : ℕ) → Safe b (later b x i) (completed x.dir o)
  later-safe i =
      record {
        orientation = completed-orientation b x.dir facts.pointed o spread;
        into = λ j v hj h t u w. completed-directed x.dir o j v (facts.border j v hj h t (omega tests));
        kept = λ v h u.
            completed-load b x.dir facts.pointed o spread v (λ e he t n. facts.neutral_unforced e v he h t n)
            (⊎_elim (λ over. absurd (omega (tests, facts.overloaded_level v h over, facts.joined_first v h))) (λ fits. fits)
            (lt-or-le b.bound (load b x.dir v)));
      }
