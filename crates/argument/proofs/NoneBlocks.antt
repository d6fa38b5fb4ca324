-- The answer None (Lemma 4.4.4, from the run to the sheet): with no move left the activated benches are a blocking set.
--     placement_of            a placement of the day's heavy jobs is one of the rocks inside
--     target_is               t is 3q × T
--     left_heavy              a rock that is left is heavy
--     own_weighs              what the activated benches carry besides rocks
--     pebble-inside           a light job on an activated bench has all its benches activated
--     light-inside            so does one with a single bench: every light job on an activated bench lies inside
--     rest_placed             a heavy job that is not left lies where every placement has it
--     carried, placed_inside, weighs  a job that is not left, on an activated bench; a rock inside placed on one; what a job weighs inside
--     rest_weighs             a job that is not left, on an activated bench, weighs inside in every placement
--     left_weighs             so does a rock inside, placed on an activated bench
--     job_weighs, all_weigh   so does each job that the activated benches carry, and all of them together
--     day_blocks              the activated benches block
--     no_push                 where no move is made, no pebble can be pushed
--     some-activated          where a bench is overloaded, some bench is activated
--     activated-blocking      the blocking set of a day
--     unplaceable_blocking    where no placement exists every non-empty set is blocking
--     component-blocking      in particular a component with more rocks than benches
use Prim.Native.Nat.{ℕ, ◌+◌, ◌*◌, ◌≤◌, ◌<◌}
use mathlib.Core.Path.{◌≡◌, ap, ◌∙◌}
use mathlib.Core.Logic.{◌⊎◌, inl, inr}
use mathlib.Core.Bool.{Bool, true, false, not, ◌&&◌}
use native.Mathlib.Omega.{arith}
use native.Mathlib.Nat.{lt_of_mul-lt-mul_left}
use lib.ListN.{get_or}
use lib.Dec.{eqb, leb, ltb}
use borrow.Author.Tests.{ltb-false, leb-false, eq-eqb}
use Rattle.bools.proofs.BoolLaws.{split, and_intro, and_left, and-false_right, or_left, or_right, not-true, not_intro_true}
use Rattle.bools.proofs.OrderLaws.{lt-or-le}
use Rattle.sums.specs.Sum.{on, sum, count}
use Rattle.sums.specs.Search.{any}
use Rattle.sums.proofs.SumLaws.{sum-le, sum-add, on-le}
use Rattle.sums.proofs.CountLaws.{count-pos}
use Rattle.sums.proofs.MoreSumLaws.{sum-on-add, sum-on-mul, sum-gather}
use Rattle.sums.proofs.SearchLaws.{any_elim, any_none, all_intro, least-before}
use Rattle.closure.proofs.ClosureLaws.{reach_refl}
use Rattle.day.specs.Day.{Day, choices, heavy, light, pebble, scale}
use Rattle.algorithm.specs.Rocks.{lowest, highest, small}
use Rattle.algorithm.specs.SoundDay.{SoundDay}
use Rattle.algorithm.specs.Board.{towards}
use Rattle.algorithm.specs.Explore.{Explored, activated}
use Rattle.algorithm.specs.Properties.{SoundBoard, Facts, lev}
use Rattle.algorithm.specs.Properties.{JoinedBy}
use Rattle.algorithm.specs.Push.{can_push, push_job}
use Rattle.algorithm.specs.Start.{State, joined, component, crowded}
use Rattle.algorithm.specs.Run.{own_minutes, board_of, explored, congested, can_move}
use Rattle.demand.specs.Demand.{Placement, kept_inside, lies_inside, weight_inside, Blocking}
use Rattle.argument.specs.Exploration.{InsidePlacement, inside}
use Rattle.argument.specs.RunFacts.{SoundState, PeeledPlaced, CrowdedUnplaceable}
use Rattle.argument.proofs.ExplorationLaws.{inside-rock}
use Rattle.algorithm.proofs.RockLaws.{allowed_end}
use Rattle.argument.proofs.DayLaws.{one_choice}
use Rattle.argument.proofs.ExplorationOfBoard.{head_of, tail_of, exploration_of, activated-level, level-activated}
use Rattle.argument.proofs.NoMoveOfBoard.{board_blocks}

module _ (d : Day) (sound : SoundDay d) (s : State) (state : SoundState d s) (ok : SoundBoard (board_of d s)) where
  target_is : small d + ok.limits.d ≡ scale d * d.target
  target_is = omega (arith, ok.limits.bound_is)

  left_heavy : (j : ℕ) → j < d.jobs → get_or s.left j false ≡ true → heavy d j ≡ true
  left_heavy j l r = and_left (heavy d j) (eqb (choices d j) 2) (state.left_rock j l r)

  -- What the activated benches carry besides the rocks left: each bench's share, or job by job.
  own_weighs : (set : ℕ → Bool) → sum d.benches (λ v. on (set v) (scale d * own_minutes d s v))
      ≡ scale d * (sum d.benches (λ v. on (set v) (d.booked v))
      + sum d.jobs (λ j. on (not (get_or s.left j false) && set (get_or s.place j 0)) (d.minutes j)))
  unfolding own_minutes
  own_weighs set =
      sum-on-mul d.benches set (scale d) (own_minutes d s)
      ∙ ap (λ (k : ℕ). scale d * k)
      (sum-on-add d.benches set d.booked (λ v. sum d.jobs (λ j. on (rest j && eqb (get_or s.place j 0) v) (d.minutes j)))
      ∙ ap (λ (k : ℕ). sum d.benches (λ v. on (set v) (d.booked v)) + k)
      (sum-gather d.benches d.jobs rest (λ j. get_or s.place j 0) d.minutes
      (λ j l r. sound.allowed_below j (get_or s.place j 0) (state.place_allowed j l (not-true _ r))) set))
    where
      rest : ℕ → Bool
      rest j = not (get_or s.left j false)

  module _ (x : Explored) (facts : Facts (board_of d s) x) where
    -- E8, and a finite level is below the number of benches.
    pebble-inside : (j : ℕ) → j < d.jobs → pebble d j ≡ true → activated (board_of d s) x (get_or s.place j 0) ≡ true
        → (v : ℕ) → d.allows j v ≡ true → activated (board_of d s) x v ≡ true
    pebble-inside j l p a v may =
        let below : get_or s.place j 0 < d.benches = ok.allowed_below j (get_or s.place j 0) l (ok.pebble_allowed j l p) in
        let finite : lev (board_of d s) x (get_or s.place j 0) ≤ d.benches = activated-level (board_of d s) x (get_or s.place j 0) a in
        level-activated (board_of d s) x v
        (omega (arith, facts.next_level j v l p may finite, facts.level_below (get_or s.place j 0) below finite))

    light-inside : (j : ℕ) → j < d.jobs → heavy d j ≡ false → get_or s.left j false ≡ false
        → activated (board_of d s) x (get_or s.place j 0) ≡ true → lies_inside d (activated (board_of d s) x) j ≡ true
    light-inside j l light r a =
        all_intro d.benches (kept_inside d (activated (board_of d s) x) j) (λ v lv. elim (split (d.allows j v)) [
          | inr no-bench ↦ or_left (activated (board_of d s) x v) (not_intro_true no-bench)
          | inl may ↦ or_right (not (d.allows j v)) (there v may)
        ])
      where
        there : (v : ℕ) → d.allows j v ≡ true → activated (board_of d s) x v ≡ true
        there v may = elim (split (leb 2 (choices d j))) [
          | inl two ↦ pebble-inside j l (and_intro (not_intro_true light) two) a v may
          | inr one ↦
              let few : choices d j ≤ 1 = omega (arith, leb-false 2 (choices d j) one) in
              rw (one_choice d sound j v (get_or s.place j 0) few may (state.place_allowed j l r)) a
        ]

    module _ (peeled : PeeledPlaced d s) (place : ℕ → ℕ) (placed : Placement d place) where
      placement_of : InsidePlacement (exploration_of (board_of d s) x ok facts) place
      placement_of = record {
        on_an_end = λ e le i. end e (allowed_end d e (state.left_rock e le (left-of e i)) (place e)
            (sound.allowed_below e (place e) (placed.on_allowed e le (left_heavy e le (left-of e i)))) (placed.on_allowed e le (left_heavy e le (left-of e i))));
        one_to_a_bench = λ e f le lf i k same. placed.one_to_a_bench e f le lf (left_heavy e le (left-of e i)) (left_heavy f lf (left-of f k)) same;
      }
        where
          left-of : (e : ℕ) → inside (exploration_of (board_of d s) x ok facts) e ≡ true → get_or s.left e false ≡ true
          left-of e i = inside-rock (exploration_of (board_of d s) x ok facts) e i

          end : (e : ℕ) → (place e ≡ lowest d e) ⊎ (place e ≡ highest d e)
              → (place e ≡ head_of (board_of d s) x.dir e) ⊎ (place e ≡ tail_of (board_of d s) x.dir e)
          end e (inl low) = elim (split (towards x.dir e (lowest d e))) [ inl p ↦ inl (rw p low) | inr p ↦ inr (rw p low) ]
          end e (inr high) = elim (split (towards x.dir e (lowest d e))) [ inl p ↦ inr (rw p high) | inr p ↦ inl (rw p high) ]

      -- A heavy job that is not left lies where every placement has it: it has one bench, or was peeled.
      rest_placed : (j : ℕ) → j < d.jobs → heavy d j ≡ true → get_or s.left j false ≡ false → place j ≡ get_or s.place j 0
      rest_placed j l is-heavy r = elim (lt-or-le 1 (choices d j)) [
        | inl more ↦
            let two : choices d j ≡ 2 = omega (arith, sound.heavy_two j l is-heavy) in
            peeled place placed j l (and_intro is-heavy (eq-eqb (choices d j) 2 two)) r
        | inr one ↦ one_choice d sound j (place j) (get_or s.place j 0) one (placed.on_allowed j l is-heavy) (state.place_allowed j l r)
      ]

      carried : ℕ → Bool
      carried j = not (get_or s.left j false) && activated (board_of d s) x (get_or s.place j 0)

      placed_inside : ℕ → Bool
      placed_inside j = inside (exploration_of (board_of d s) x ok facts) j && activated (board_of d s) x (place j)

      weighs : ℕ → ℕ
      weighs j = on (heavy d j && activated (board_of d s) x (place j)) (d.minutes j)
          + on (not (heavy d j) && lies_inside d (activated (board_of d s) x) j) (d.minutes j)

      rest_weighs : (j : ℕ) → j < d.jobs → get_or s.left j false ≡ false → activated (board_of d s) x (get_or s.place j 0) ≡ true → d.minutes j ≤ weighs j
      unfolding weighs
      rest_weighs j l r a = elim (split (heavy d j)) [
        | inl is-heavy ↦
            let there : activated (board_of d s) x (place j) ≡ true = ap (activated (board_of d s) x) (rest_placed j l is-heavy r) ∙ a in
            rw (is-heavy, there) (omega arith)
        | inr light ↦ rw (light, light-inside j l light r a) (omega arith)
      ]

      left_weighs : (j : ℕ) → j < d.jobs → get_or s.left j false ≡ true → on (placed_inside j) (d.minutes j) ≤ weighs j
      unfolding weighs placed_inside
      left_weighs j l r = elim (split (activated (board_of d s) x (place j))) [
        | inl a ↦ rw (left_heavy j l r, a) (omega (arith, on-le (inside (exploration_of (board_of d s) x ok facts) j && true) (d.minutes j)))
        | inr a ↦ rw (and-false_right (inside (exploration_of (board_of d s) x ok facts) j) a) (omega arith)
      ]

      job_weighs : (j : ℕ) → j < d.jobs → on (carried j) (d.minutes j) + on (placed_inside j) (d.minutes j) ≤ weighs j
      unfolding carried placed_inside
      job_weighs j l = elim (split (get_or s.left j false)) [
        | inl r ↦
            let none : carried j ≡ false = rw r in
            rw none (omega (arith, left_weighs j l r))
        | inr r ↦
            let none : placed_inside j ≡ false = rw r in
            elim (split (activated (board_of d s) x (get_or s.place j 0))) [
              | inl a ↦ rw (none, and_intro (not_intro_true r) a) (omega (arith, rest_weighs j l r a))
              | inr a ↦ rw (none, and-false_right (not (get_or s.left j false)) a) (omega arith)
            ]
      ]

      -- All jobs together.
      all_weigh : sum d.jobs (λ j. on (carried j) (d.minutes j)) + sum d.jobs (λ j. on (placed_inside j) (d.minutes j))
          ≤ sum d.jobs (λ j. on (heavy d j && activated (board_of d s) x (place j)) (d.minutes j))
          + sum d.jobs (λ j. on (not (heavy d j) && lies_inside d (activated (board_of d s) x) j) (d.minutes j))
      unfolding weighs
      all_weigh = omega (
        arith,
        sum-le d.jobs (λ j. on (carried j) (d.minutes j) + on (placed_inside j) (d.minutes j)) weighs job_weighs,
        sum-add d.jobs (λ j. on (carried j) (d.minutes j)) (λ j. on (placed_inside j) (d.minutes j)),
        sum-add d.jobs (λ j. on (heavy d j && activated (board_of d s) x (place j)) (d.minutes j))
            (λ j. on (not (heavy d j) && lies_inside d (activated (board_of d s) x) j) (d.minutes j)),
      )

      -- The theorem about the board speaks of weights times 3q; what it counts is at most what weighs inside.
      pub day_blocks : JoinedBy (board_of d s) x → ((j v : ℕ) → j < d.jobs → v < d.benches → can_push (board_of d s) x j v ≡ false)
          → 0 < count d.benches (activated (board_of d s) x)
          → count d.benches (activated (board_of d s) x) * d.target < weight_inside d place (activated (board_of d s) x)
      unfolding carried placed_inside
      day_blocks joined_by no_push some =
          let k : ℕ = count d.benches (activated (board_of d s) x) in
          let booked : ℕ = sum d.benches (λ v. on (activated (board_of d s) x v) (d.booked v)) in
          let rest : ℕ = sum d.jobs (λ j. on (carried j) (d.minutes j)) in
          let rocks : ℕ = sum d.jobs (λ j. on (placed_inside j) (d.minutes j)) in
          let scaled : scale d * (k * d.target) < scale d * (booked + rest + rocks) = scaled-blocks joined_by no_push some in
          let plain : k * d.target < booked + rest + rocks = lt_of_mul-lt-mul_left (scale d) scaled in
          omega (arith, all_weigh)
        where
          scaled-blocks : JoinedBy (board_of d s) x → ((j v : ℕ) → j < d.jobs → v < d.benches → can_push (board_of d s) x j v ≡ false)
              → 0 < count d.benches (activated (board_of d s) x)
              → scale d * (count d.benches (activated (board_of d s) x) * d.target)
              < scale d * (sum d.benches (λ v. on (activated (board_of d s) x v) (d.booked v)) + sum d.jobs (λ j. on (carried j) (d.minutes j))
              + sum d.jobs (λ j. on (placed_inside j) (d.minutes j)))
          scaled-blocks joined_by no_push some = omega (
            arith,
            rw target_is at (board_blocks (board_of d s) x ok facts joined_by no_push place placement_of some),
            own_weighs (activated (board_of d s) x),
            sum-on-mul d.jobs placed_inside (scale d) d.minutes,
          )

-- ── the answer ──

module _ (d : Day) (s : State) (crowd : congested d s ≡ true) where
  pub no_push : can_move d s ≡ false → (j v : ℕ) → j < d.jobs → v < d.benches → can_push (board_of d s) (explored d s) j v ≡ false
  no_push stuck j v lj lv =
      let first : ℕ = push_job (board_of d s) (explored d s) in
      let none : ltb first d.jobs ≡ false = rw crowd at stuck in
      let far : d.jobs ≤ first = ltb-false first d.jobs none in
      any_none d.benches (can_push (board_of d s) (explored d s) j)
      (least-before d.jobs (λ i. any d.benches (can_push (board_of d s) (explored d s) i)) j (omega arith)) v lv

  some-activated : 0 < count d.benches (activated (board_of d s) (explored d s))
  some-activated =
      let (v, lv, a) = any_elim d.benches (activated (board_of d s) (explored d s)) crowd in
      count-pos d.benches (activated (board_of d s) (explored d s)) v lv a

module _ (d : Day) where
  pub activated-blocking : (s : State) → SoundDay d → SoundState d s → SoundBoard (board_of d s) → Facts (board_of d s) (explored d s)
      → PeeledPlaced d s → congested d s ≡ true → can_move d s ≡ false → Blocking d (activated (board_of d s) (explored d s))
  activated-blocking s sound state ok facts peeled crowd stuck = record {
    some_bench = some-activated d s crowd;
    heavier = λ place placed.
        day_blocks d sound s state ok (explored d s) facts peeled place placed facts.joined_by (no_push d s crowd stuck) (some-activated d s crowd);
  }

  -- "Where no placement exists every non-empty set is blocking."
  pub unplaceable_blocking : (set : ℕ → Bool) → 0 < count d.benches set → ((place : ℕ → ℕ) → Placement d place → ⊥) → Blocking d set
  unplaceable_blocking set some none = record { some_bench = some; heavier = λ place placed. absurd (none place placed) }

  pub component-blocking : CrowdedUnplaceable d → (v : ℕ) → v < d.benches → crowded d v ≡ true → Blocking d (component d v)
  component-blocking unplaceable v lv full =
      unplaceable_blocking (component d v)
      (count-pos d.benches (component d v) v lv (reach_refl d.benches (joined d) v)) (unplaceable v lv full)
