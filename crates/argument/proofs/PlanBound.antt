-- A plan (outline, section 5): with no bench overloaded every load of the planned places is within the bound.
--     not-overloaded          with no bench activated, no bench is overloaded
--     term, newcomer          what a rock adds to bench v; it was neutral and comes to v
--     kept_term, one_more     a rock that was directed adds what it added before; with one newcomer, no other rock adds more
--     rocks_without, rocks_with       the rock load without a newcomer, and with one
--     settled-load            after the rule for neutral rocks every load on the board is within the bound
--     place_of d s dir j       the planned place of job j
--     place_is, place_left, place_rest        what it is, for rocks that are left and for other jobs
--     comes, stays, left_comes, job-load      a rock that is left comes to v; another job stays there; what a job adds to the load of v
--     planned-load            the load of the planned places is the load on the board
--     planned_allowed         each job is planned on one of its benches
--     plan_directions, plan_of  the directions of the plan, and its places
--     day_plan_bound          the loads of the plan of a day, booked minutes included, are within the bound
--     plan_assignment, plan_keeps_bound       the plan of a day is an assignment, and keeps the demand's bound
use Prim.Native.Nat.{ℕ, suc, ◌+◌, ◌-◌, ◌*◌, ◌≤◌, ◌<◌}
use mathlib.Core.Path.{◌≡◌, sym, ◌∙◌}
use mathlib.Core.Logic.{◌⊎◌, inl, inr, ⊎_elim}
use mathlib.Core.Bool.{Bool, true, false, cond, not, ◌&&◌}
use native.Mathlib.Omega.{arith}
use lib.ListN.{get_or}
use lib.Dec.{eqb}
use borrow.Author.Tests.{lt-ltb, le-leb, eq-eqb, eqb-true}
use Rattle.bools.proofs.BoolLaws.{split, clash, and_intro, and_left, and_right, or_left, or_right, bool_ext}
use Rattle.bools.proofs.OrderLaws.{lt-or-le}
use Rattle.sums.specs.Sum.{on, sum}
use Rattle.sums.specs.Search.{any}
use Rattle.sums.proofs.SumLaws.{sum-le, sum-add, sum-at, sum_cong}
use Rattle.sums.proofs.MoreSumLaws.{sum-on-mul}
use Rattle.sums.proofs.SearchLaws.{any_elim, any_none, all_intro}
use Rattle.sums.proofs.TableLaws.{get_or-table}
use Rattle.day.specs.Day.{Day, load_of, scale, bound, within_bound}
use Rattle.algorithm.specs.Rocks.{lowest, highest}
use Rattle.algorithm.specs.Board.{Board, Directions, touches, neutral, towards, rock_load, load}
use Rattle.algorithm.specs.Explore.{Explored, never, activated}
use Rattle.algorithm.specs.Properties.{SoundBoard, Facts, lev}
use Rattle.algorithm.specs.Settle.{settle}
use Rattle.algorithm.specs.Start.{State}
use Rattle.algorithm.specs.Run.{own_minutes, board_of, places_of, explored, congested}
use Rattle.demand.specs.Demand.{Assignment, keeps_bound}
use Rattle.argument.specs.RunFacts.{SoundState, Settled}
use Rattle.algorithm.proofs.RockLaws.{low_allowed, high_allowed}

-- ── on the board ──

module _ (b : Board) (x : Explored) (facts : Facts b x) (calm : (v : ℕ) → v < b.benches → activated b x v ≡ false) where
  not-overloaded : (v : ℕ) → v < b.benches → load b x.dir v ≤ b.bound
  not-overloaded v l = elim (lt-or-le b.bound (load b x.dir v)) [
    | inl over ↦ clash (lt-ltb (lev b x v) (never b) (omega (arith, facts.overloaded_level v l over))) (calm v l)
    | inr fine ↦ fine
  ]

  -- A bench receives at most one of the rocks that were neutral, and a neutral rock is not forced from it (E3): with it the load is within the bound.
  module _ (after : Directions) (settled : Settled b x.dir after) (v : ℕ) (l : v < b.benches) where
    term : Directions → ℕ → ℕ
    term dir j = on (touches b j v && towards dir j v) (b.weight j)

    newcomer : ℕ → Bool
    newcomer j = touches b j v && towards after j v && neutral x.dir j

    kept_term : (j : ℕ) → j < b.jobs → newcomer j ≡ false → term after j ≤ term x.dir j
    unfolding term newcomer
    kept_term j lj old = elim (split (touches b j v && towards after j v)) [
      | inr none ↦ rw none (omega arith)
      | inl there ↦
          let t : touches b j v ≡ true = and_left (touches b j v) (towards after j v) there in
          let to : towards after j v ≡ true = and_right (touches b j v) (towards after j v) there in
          let set : neutral x.dir j ≡ false = elim (split (neutral x.dir j)) [ inl n ↦ clash (and_intro there n) old | inr n ↦ n ] in
          let same : get_or after j 0 ≡ get_or x.dir j 0 = settled.kept j lj set in
          let to' : towards x.dir j v ≡ true = rw (sym same) to in
          rw (there, and_intro t to') (omega arith)
    ]

    rocks_without : any b.jobs newcomer ≡ false → rock_load b after v ≤ rock_load b x.dir v
    unfolding rock_load term
    rocks_without none = sum-le b.jobs (term after) (term x.dir) (λ j lj. kept_term j lj (any_none b.jobs newcomer none j lj))

    module _ (e : ℕ) (le : e < b.jobs) (new : newcomer e ≡ true) where
      one_more : (j : ℕ) → j < b.jobs → term after j ≤ term x.dir j + on (eqb j e) (b.weight j)
      unfolding term newcomer
      one_more j lj = elim (split (newcomer j)) [
        | inr old ↦ omega (arith, kept_term j lj old)
        | inl also ↦
            let there : (touches b j v && towards after j v) ≡ true = and_left (touches b j v && towards after j v) (neutral x.dir j) also in
            let here : (touches b e v && towards after e v) ≡ true = and_left (touches b e v && towards after e v) (neutral x.dir e) new in
            let same : j ≡ e =
            settled.one_each j e v lj le
            (and_left (touches b j v) (towards after j v) there) (and_left (touches b e v) (towards after e v) here)
            (and_right (touches b j v && towards after j v) (neutral x.dir j) also)
            (and_right (touches b e v && towards after e v) (neutral x.dir e) new)
            (and_right (touches b j v) (towards after j v) there) (and_right (touches b e v) (towards after e v) here)
            in
            rw (there, eq-eqb j e same) (omega arith)
      ]

      rocks_with : rock_load b after v ≤ rock_load b x.dir v + b.weight e
      unfolding rock_load term
      rocks_with = omega (
        arith,
        sum-le b.jobs (term after) (λ j. term x.dir j + on (eqb j e) (b.weight j)) one_more,
        sum-add b.jobs (term x.dir) (λ j. on (eqb j e) (b.weight j)),
        sum-at b.jobs b.weight e le,
      )

    pub settled-load : load b after v ≤ b.bound
    unfolding newcomer
    settled-load = elim (split (any b.jobs newcomer)) [
      | inr none ↦ omega (arith, rocks_without none, not-overloaded v l)
      | inl some ↦
          let (e, le, new) = any_elim b.jobs newcomer some in
          let here : (touches b e v && towards after e v) ≡ true = and_left (touches b e v && towards after e v) (neutral x.dir e) new in
          omega (
            arith,
            rocks_with e le new,
            facts.neutral_unforced e v le l (and_left (touches b e v) (towards after e v) here)
                (and_right (touches b e v && towards after e v) (neutral x.dir e) new),
          )
    ]

-- ── the planned places ──

abbrev pub place_of : Day → State → Directions → ℕ → ℕ
place_of d s dir j = get_or (places_of d s dir) j 0

module _ (d : Day) (s : State) (dir : Directions)
    (directed : (j : ℕ) → j < d.jobs → get_or s.left j false ≡ true → (get_or dir j 0 ≡ suc (lowest d j)) ⊎ (get_or dir j 0 ≡ suc (highest d j))) where
  place_is : (j : ℕ) → j < d.jobs → place_of d s dir j ≡ cond (get_or s.left j false) (get_or dir j 0 - 1) (get_or s.place j 0)
  place_is j l = get_or-table d.jobs (λ j. cond (get_or s.left j false) (get_or dir j 0 - 1) (get_or s.place j 0)) j 0 l

  place_left : (j : ℕ) → j < d.jobs → get_or s.left j false ≡ true → get_or dir j 0 ≡ suc (place_of d s dir j)
  place_left j l r =
      let p : place_of d s dir j ≡ get_or dir j 0 - 1 = rw r at (place_is j l) in
      ⊎_elim (λ e. omega arith) (λ e. omega arith) (directed j l r)

  place_rest : (j : ℕ) → j < d.jobs → get_or s.left j false ≡ false → place_of d s dir j ≡ get_or s.place j 0
  place_rest j l r = rw r at (place_is j l)

  -- A rock that is left comes to v if it is directed to v; any other job stays where the state has it.
  module _ (v : ℕ) where
    comes : ℕ → Bool
    comes j = touches (board_of d s) j v && towards dir j v

    stays : ℕ → Bool
    stays j = not (get_or s.left j false) && eqb (get_or s.place j 0) v

    left_comes : (j : ℕ) → j < d.jobs → get_or s.left j false ≡ true → comes j ≡ eqb (place_of d s dir j) v
    unfolding comes
    left_comes j l r =
        let to : get_or dir j 0 ≡ suc (place_of d s dir j) = place_left j l r in
        bool_ext (comes j) (eqb (place_of d s dir j) v)
        (λ c. eq-eqb (place_of d s dir j) v (omega (arith, eqb-true (get_or dir j 0) (suc v) (and_right (touches (board_of d s) j v) (towards dir j v) c))))
        (λ p.
        let here : place_of d s dir j ≡ v = eqb-true (place_of d s dir j) v p in
        and_intro
        (and_intro r
        (⊎_elim
        (λ e. or_left (eqb v (highest d j)) (eq-eqb v (lowest d j) (omega arith)))
        (λ e. or_right (eqb v (lowest d j)) (eq-eqb v (highest d j) (omega arith)))
        (directed j l r)))
        (eq-eqb (get_or dir j 0) (suc v) (omega arith)))

    job-load : (j : ℕ) → j < d.jobs → on (eqb (place_of d s dir j) v) (d.minutes j) ≡ on (stays j) (d.minutes j) + on (comes j) (d.minutes j)
    unfolding comes stays
    job-load j l = elim (split (get_or s.left j false)) [
      | inl r ↦
          let c : comes j ≡ eqb (place_of d s dir j) v = left_comes j l r in
          let z : stays j ≡ false = rw r in
          rw (z, c) (omega arith)
      | inr r ↦
          let c : comes j ≡ false = rw r in
          let z : stays j ≡ eqb (place_of d s dir j) v = rw (r, place_rest j l r) in
          rw (z, c) (omega arith)
    ]

    pub planned-load : scale d * load_of d (place_of d s dir) v ≡ load (board_of d s) dir v
    unfolding own_minutes rock_load comes stays
    planned-load =
        let split-load : sum d.jobs (λ j. on (eqb (place_of d s dir j) v) (d.minutes j))
        ≡ sum d.jobs (λ j. on (stays j) (d.minutes j)) + sum d.jobs (λ j. on (comes j) (d.minutes j)) =
        sum_cong d.jobs _ _ job-load ∙ sum-add d.jobs (λ j. on (stays j) (d.minutes j)) (λ j. on (comes j) (d.minutes j))
        in
        let rocks : sum d.jobs (λ j. on (comes j) (scale d * d.minutes j)) ≡ scale d * sum d.jobs (λ j. on (comes j) (d.minutes j)) =
        sum-on-mul d.jobs comes (scale d) d.minutes
        in
        rw split-load (omega (arith, rocks))

  pub planned_allowed : SoundBoard (board_of d s) → SoundState d s → (j : ℕ) → j < d.jobs → d.allows j (place_of d s dir j) ≡ true
  planned_allowed ok state j l = elim (split (get_or s.left j false)) [
    | inl r ↦
        let to : get_or dir j 0 ≡ suc (place_of d s dir j) = place_left j l r in
        ⊎_elim
        (λ e. let p : place_of d s dir j ≡ lowest d j = omega arith in rw p (low_allowed d j (state.left_rock j l r)))
        (λ e. let p : place_of d s dir j ≡ highest d j = omega arith in rw p (high_allowed d j (state.left_rock j l r)))
        (directed j l r)
    | inr r ↦ rw (place_rest j l r) (state.place_allowed j l r)
  ]

-- ── the answer ──

-- The directions of the plan.
abbrev pub plan_directions : Day → State → Directions
plan_directions d s = settle (board_of d s) (explored d s).dir

module _ (d : Day) (s : State) (facts : Facts (board_of d s) (explored d s))
    (settled : Settled (board_of d s) (explored d s).dir (plan_directions d s)) (calm : congested d s ≡ false) where
  pub day_plan_bound : (v : ℕ) → v < d.benches
      → scale d * load_of d (place_of d s (plan_directions d s)) v ≤ bound d
  day_plan_bound v l =
      rw (planned-load d s (plan_directions d s) settled.directed v)
      (settled-load (board_of d s) (explored d s) facts (any_none d.benches (activated (board_of d s) (explored d s)) calm) (plan_directions d s) settled v l)

-- The places of the plan of a day.
abbrev pub plan_of : Day → State → ℕ → ℕ
plan_of d s = place_of d s (plan_directions d s)

module _ (d : Day) (s : State) (settled : Settled (board_of d s) (explored d s).dir (plan_directions d s)) where
  pub plan_assignment : SoundBoard (board_of d s) → SoundState d s → Assignment d (plan_of d s)
  plan_assignment ok state = record { on_allowed = planned_allowed d s (plan_directions d s) settled.directed ok state }

  pub plan_keeps_bound : Facts (board_of d s) (explored d s) → congested d s ≡ false → keeps_bound d (plan_of d s) ≡ true
  plan_keeps_bound facts calm =
      all_intro d.benches (λ v. within_bound d (load_of d (plan_of d s) v))
      (λ v l. le-leb (scale d * load_of d (plan_of d s) v) (bound d) (day_plan_bound d s facts settled calm v l))
