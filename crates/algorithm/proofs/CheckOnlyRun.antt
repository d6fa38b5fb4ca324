-- The run on a day of check-only jobs alone, with no booking above 0 (request S-3), whatever its target, also 0.
--     no_rock                 no job is a rock
--     start-of_checks         nothing is peeled: every job begins, and stays, on its lowest bench
--     explored-none           no bench has a load, so none is overloaded, and the exploration ends before round 0
--     run-of_checks           the run ends at once, with a plan
--     answer_of_checks        the reply: largest load 0, no move, bench 0 the fullest, no load on any bench
-- Why: such a job is light and weighs nothing. So no component has a rock, no bench is above the bound, which may be 0,
-- and no bench opens the first round.
use Prim.Native.Nat.{ℕ, zero, suc, ◌*◌, ◌<◌}
use native.Mathlib.Nat.{mul-zero}
use native.Mathlib.Omega.{arith}
use mathlib.Core.Path.{◌≡◌, refl, sym, ap, ◌∙◌}
use mathlib.Core.Bool.{false, not, ◌&&◌}
use mathlib.Core.List.{List}
use lib.ListN.{get_or}
use lib.Dec.{eqb, ltb}
use borrow.Author.Tests.{le-ltb, ne_eqb, eq-eqb}
use Rattle.bools.proofs.BoolLaws.{and-false_left, and-false_right}
use Rattle.sums.specs.Sum.{on, count, largest, fullest}
use Rattle.sums.specs.Search.{any, least}
use Rattle.sums.specs.Table.{table}
use Rattle.sums.proofs.SumLaws.{on-le, sum-zero}
use Rattle.sums.proofs.LargestLaws.{largest-le, fullest_cong}
use Rattle.sums.proofs.SearchLaws.{least-none, least_bound, any_false}
use Rattle.sums.proofs.TableLaws.{get_or-table, get_or-same, table_cong}
use Rattle.day.specs.Day.{Day, ChecksOnly, load_of, place_in, largest_of, bound, scale, long_job, too_long, move_bound}
use Rattle.day.proofs.CheckOnly.{no_minutes, check_only_short, not-heavy, no_load}
use Rattle.algorithm.specs.Rocks.{rock, lowest, weight}
use Rattle.algorithm.specs.Board.{Board, Directions, touches, towards, rock_load, load, overloaded}
use Rattle.algorithm.specs.Explore.{never, activated, type_a, rounds, unexplored, explore}
use Rattle.algorithm.specs.Settle.{settle}
use Rattle.algorithm.specs.Start.{State, component, rocks_in, crowded, crowded_bench, left_at, hanging, one_cycle, peel, start}
use Rattle.algorithm.specs.Run.{planned, own_minutes, board_of, places_of, explored, congested, answer_at, turns, run}
use Rattle.algorithm.specs.Answer.{shown, answer_to, checks_reply}
use Rattle.algorithm.proofs.Budget.{turns-stop, run-turns}

fullest-of_none : (n : ℕ) → fullest n (λ v. 0) ≡ 0
unfolding fullest
fullest-of_none n =
    let most : largest n (λ v. 0) ≡ 0 = omega (arith, largest-le n (λ v. 0) 0 (λ v l. omega arith)) in
    omega (arith, least_bound n (λ v. eqb 0 (largest n (λ v. 0))) 0 (eq-eqb 0 (largest n (λ v. 0)) (sym most)))

-- Nothing hangs off a cycle: nothing is peeled.
peel-none : (k : ℕ) (d : Day) (s : State) → ((v : ℕ) → v < d.benches → hanging d s.left v ≡ false) → peel k d s ≡ s
unfolding peel
peel-none zero d s none = refl
peel-none (suc k) d s none =
    let past : ltb (least d.benches (hanging d s.left)) d.benches ≡ false =
    le-ltb _ d.benches (omega (arith, least-none d.benches (hanging d s.left) none)) in
    rw (past, peel)

module _ (d : Day) (checks : ChecksOnly d) where
  weightless : (j : ℕ) → j < d.jobs → d.minutes j ≡ 0
  weightless j l = no_minutes d j (checks.each_job j l)

  none_long : ltb (long_job d) d.jobs ≡ false
  unfolding long_job
  none_long =
      le-ltb _ d.jobs
      (omega (arith, least-none d.jobs (too_long d) (λ j l. check_only_short d j (checks.each_job j l))))

  -- ── no rocks ──

  pub no-rock : (j : ℕ) → j < d.jobs → rock d j ≡ false
  no-rock j l = and-false_left _ (not-heavy d j (checks.each_job j l))

  none-crowded : ltb (crowded_bench d) d.benches ≡ false
  unfolding crowded_bench
  none-crowded =
      let few : (v : ℕ) → v < d.benches → crowded d v ≡ false = λ v l.
      let none = sum-zero d.jobs (λ j. on (rock d j && component d v (lowest d j)) 1)
      (λ j below. rw (no-rock j below)) in
      le-ltb (count d.benches (component d v)) (rocks_in d v) (omega (arith, none)) in
      le-ltb _ d.benches (omega (arith, least-none d.benches (crowded d) few))

  -- ── the start ──

  abbrev first : State
  first = record { left = table d.jobs (rock d); place = table d.jobs (lowest d) }

  none_left : (j : ℕ) → j < d.jobs → get_or first.left j false ≡ false
  none_left j l = get_or-table d.jobs (rock d) j false l ∙ no-rock j l

  none_hangs : (v : ℕ) → v < d.benches → hanging d first.left v ≡ false
  none_hangs v l =
      let none = sum-zero d.jobs (λ j. on (left_at d first.left v j) 1) (λ j below. rw (none_left j below)) in
      and-false_right (one_cycle d v)
      (ne_eqb (count d.jobs (left_at d first.left v)) 1 (λ one. omega (arith, none)))

  pub start-of_checks : start d ≡ first
  unfolding start
  start-of_checks = peel-none d.jobs d first none_hangs

  -- ── the exploration ──

  abbrev board : Board
  board = board_of d first

  no_own : (v : ℕ) → v < d.benches → own_minutes d first v ≡ 0
  unfolding own_minutes
  no_own v l =
      let none = sum-zero d.jobs
      (λ j. on (not (get_or first.left j false) && eqb (get_or first.place j 0) v) (d.minutes j))
      (λ j below. omega (
        arith,
        weightless j below,
        on-le (not (get_or first.left j false) && eqb (get_or first.place j 0) v) (d.minutes j),
      )) in
      omega (arith, none, checks.none_booked v l)

  no-rock-load : (dir : Directions) (v : ℕ) → rock_load board dir v ≡ 0
  unfolding rock_load
  no-rock-load dir v =
      sum-zero d.jobs (λ j. on (touches board j v && towards dir j v) (weight d j))
      (λ j below. rw (none_left j below))

  none-overloaded : (dir : Directions) (v : ℕ) → v < d.benches → overloaded board dir v ≡ false
  none-overloaded dir v l =
      le-ltb (bound d) (load board dir v)
      (omega (arith, no-rock-load dir v, ap (λ (m : ℕ). scale d * m) (no_own v l) ∙ mul-zero (scale d)))

  pub explored-none : explored d first ≡ unexplored board
  unfolding explore rounds
  explored-none =
      let none : any d.benches (type_a board 0 (unexplored board)) ≡ false =
      any_false d.benches (type_a board 0 (unexplored board)) (none-overloaded (unexplored board).dir) in
      rw (none, rounds)

  calm : congested d first ≡ false
  calm =
      any_false d.benches (activated board (explored d first)) (λ v l. rw explored-none (unmarked v l))
    where
      unmarked : (v : ℕ) → v < d.benches → activated board (unexplored board) v ≡ false
      unmarked v l = le-ltb _ (never board) (omega (arith, get_or-same d.benches (never board) v))

  -- ── the reply ──

  abbrev places : List ℕ
  places = table d.jobs (lowest d)

  places-are : places_of d first (settle board (explored d first).dir) ≡ places
  places-are =
      table_cong d.jobs _ (lowest d)
      (λ j l. rw (none_left j l) (get_or-table d.jobs (lowest d) j 0 l))

  pub run-of_checks : run d ≡ planned places 0
  unfolding answer_at
  run-of_checks =
      let over : answer_at d first 0 ≡ planned places 0 =
      rw (calm, answer_at) (ap (λ (ps : List ℕ). planned ps 0) places-are) in
      run-turns d none_long none-crowded
      ∙ ap (λ (s : State). turns (move_bound d) d s 0) start-of_checks
      ∙ turns-stop d first 0 (move_bound d) (rw calm)
      ∙ over

  pub answer_of_checks : answer_to d ≡ checks_reply d
  answer_of_checks =
      let none : (v : ℕ) → v < d.benches → load_of d (place_in places) v ≡ 0 = no_load d checks (place_in places) in
      let most : largest_of d places ≡ 0 = omega (
        arith,
        largest-le d.benches (load_of d (place_in places)) 0
            (λ v l. omega (arith, none v l)),
      ) in
      ap (shown d) run-of_checks
      ∙ rw (
        most,
        fullest_cong d.benches (load_of d (place_in places)) (λ v. 0) none,
        fullest-of_none d.benches,
        table_cong d.benches (load_of d (place_in places)) (λ v. 0) none,
      )
