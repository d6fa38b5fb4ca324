-- The tables of the run show the board of each state that it reaches.
--     held-rocks, held_pebbles, few_rocks     from Ready and Held
--     ready_table                             the table that is made of the rocks serves as they do
--     own-total, held_owned                   the sums of weights are the board's own loads
use Prim.Native.Nat.{ℕ, ◌+◌, ◌*◌, ◌≤◌, ◌<◌, ◌^◌}
use mathlib.Core.Path.{◌≡◌, refl, sym, ap, ◌∙◌}
use mathlib.Core.Bool.{Bool, true, false, not, ◌&&◌, ◌||◌}
use mathlib.Core.List.{List}
use native.Mathlib.Omega.{arith}
use lib.ListN.{get_or}
use lib.Dec.{eqb}
use Rattle.sums.specs.Sum.{on, sum, count}
use Rattle.sums.proofs.SumLaws.{sum_cong, sum-le, sum-mul, sum-split-on, on-le}
use Rattle.sums.specs.Members.{members}
use Rattle.sums.proofs.CountLaws.{count_cong, count_mono, count-le}
use Rattle.rocks.specs.declared.rocks.Limits.{Limits}
use Rattle.algorithm.specs.Board.{Directions, touches, towards, rock_load, load}
use Rattle.day.specs.Day.{Day, scale}
use Rattle.algorithm.specs.Rocks.{weight, rock, lowest, highest}
use Rattle.algorithm.specs.Start.{State}
use Rattle.algorithm.specs.SoundDay.{SoundDay, Uncrowded}
use Rattle.algorithm.specs.Run.{board_of, own_minutes}
use Rattle.rocks.specs.BoardArrays.{rocks_of, rock_at, Rocks, Owned, Pebbles}
use Rattle.rock_graph.specs.declared.lent.Graph.{Graph}
use Rattle.rock_graph.specs.Graph.{lows, highs, weights as weights_in, Tabled}
use Rattle.loads.specs.Loads.{amount_on}
use Rattle.run.specs.Held.{is_left, left_job, Ready, Held}
use Rattle.algorithm.proofs.Graph.{inside}
use Rattle.algorithm.proofs.RockGraph.{rocks, rocks-sparse}
use Rattle.algorithm.proofs.Peeling.{start-peeled}
use Rattle.algorithm.proofs.Moves.{Good}
use Rattle.algorithm.proofs.DayFacts.{good_sound, reached_good}

scaled_same : (k x : ℕ) (a : Bool) → k * on a x ≡ on a (k * x)
scaled_same k x true = refl
scaled_same k x false = omega arith

and_part : (a b : Bool) (x : ℕ) → on (a && b) x ≤ on a x
and_part true b x = on-le b x
and_part false b x = omega arith

rock-part : (l e t : Bool) (x : ℕ) → on (l && e && t) x ≤ on l x
rock-part true true t x = on-le t x
rock-part true false t x = omega arith
rock-part false e t x = omega arith

-- At most one rock to a bench is left.
pub few_left : (d : Day) → SoundDay d → Uncrowded d → d.benches ≤ 64 → count d.jobs (is_left d) ≤ 64
few_left d sound free few =
    let all : ℕ → Bool = λ v. true in
    let some : count d.jobs (is_left d) ≤ rocks d all =
    count_mono d.jobs (is_left d) (inside (rock d) (lowest d) (highest d) all)
    (λ j h l. let r : rock d j ≡ true = (start-peeled d sound).left_rock j h l in rw r) in
    omega (arith, some, rocks-sparse d free all, count-le d.benches all)

module _ (d : Day) (n : Limits) (low high weights amount : List ℕ) (pebbles : List Bool) (allowed : List ℕ)
    (R : Ready d n low high weights amount pebbles allowed) where
  module _ (m : ℕ) (s : State) (left : List Bool) (place : List ℕ) (H : Held d m s left place) where
    pub held_good : Good d s
    held_good = reached_good d R.sound R.uncrowded H.reached

    pub same_left : (j : ℕ) → get_or s.left j false ≡ is_left d j
    same_left j = ap (λ (l : List Bool). get_or l j false) held_good.left_kept

    -- The weights on a bench besides its rocks.
    pub own-sum : (v : ℕ) → scale d * own_minutes d s v
        ≡ scale d * d.booked v + sum d.jobs (λ j. on (not (get_or s.left j false) && eqb (get_or s.place j 0) v) (weight d j))
    unfolding own_minutes
    own-sum v =
        let f : ℕ → ℕ = λ j. on (not (get_or s.left j false) && eqb (get_or s.place j 0) v) (d.minutes j) in
        omega (
          arith,
          sum-mul d.jobs (scale d) f,
          sum_cong d.jobs (λ j. scale d * f j) (λ j. on (not (get_or s.left j false) && eqb (get_or s.place j 0) v) (weight d j))
              (λ j h. scaled_same (scale d) (d.minutes j) (not (get_or s.left j false) && eqb (get_or s.place j 0) v)),
        )

    own_light : (v : ℕ) → scale d * own_minutes d s v ≤ scale d * d.booked v + sum d.jobs (λ j. on (not (get_or s.left j false)) (weight d j))
    own_light v = omega (
      arith,
      own-sum v,
      sum-le d.jobs (λ j. on (not (get_or s.left j false) && eqb (get_or s.place j 0) v) (weight d j)) (λ j. on (not (get_or s.left j false)) (weight d j))
          (λ j h. and_part (not (get_or s.left j false)) (eqb (get_or s.place j 0) v) (weight d j)),
    )

    rocks-light : (dirs : Directions) (v : ℕ) → rock_load (board_of d s) dirs v ≤ sum d.jobs (λ j. on (get_or s.left j false) (weight d j))
    unfolding rock_load
    rocks-light dirs v =
        sum-le d.jobs (λ j. on (touches (board_of d s) j v && towards dirs j v) (weight d j)) (λ j. on (get_or s.left j false) (weight d j))
        (λ j h. rock-part (get_or s.left j false) (eqb v (lowest d j) || eqb v (highest d j)) (towards dirs j v) (weight d j))

    pub loads_light : (dirs : Directions) (v : ℕ) → load (board_of d s) dirs v < 2 ^ 62
    loads_light dirs v =
        omega (arith, own_light v, rocks-light dirs v, R.light v, sum-split-on d.jobs (λ j. get_or s.left j false) (weight d))

    pub rock-count : rocks_of (board_of d s) ≡ count d.jobs (is_left d)
    rock-count = count_cong d.jobs (λ j. get_or s.left j false) (is_left d) (λ j h. same_left j)

    pub rock-job : (r : ℕ) → rock_at (board_of d s) r ≡ left_job d r
    rock-job r = ap (λ (l : List Bool). get_or (members d.jobs (λ j. get_or l j false)) r 0) held_good.left_kept

    pub held-rocks : Rocks (board_of d s) n low high weights
    held-rocks =
        record {
          sound = good_sound d R.sound R.uncrowded s held_good;
          benches = R.benches;
          jobs = R.jobs;
          rocks = R.rocks ∙ sym rock-count;
          bound = R.bounds;
          small = R.smalls;
          limit = R.limits;
          few_benches = R.few_benches;
          lows = λ r h. R.lows r (omega (arith, rock-count)) ∙ ap (lowest d) (sym (rock-job r));
          highs = λ r h. R.highs r (omega (arith, rock-count)) ∙ ap (highest d) (sym (rock-job r));
          weights = λ r h. R.heavies r (omega (arith, rock-count)) ∙ ap (weight d) (sym (rock-job r));
          loads_fit = λ dirs v. omega (arith, loads_light dirs v);
        }

    pub held_pebbles : Pebbles (board_of d s) pebbles allowed place
    held_pebbles = record { are = R.pebbly; allow = R.allowing; lie = λ j h p. H.places j h }

    pub few-rocks : rocks_of (board_of d s) ≤ 64
    few-rocks = omega (arith, rock-count, few_left d R.sound R.uncrowded R.few_benches)

    -- The sums of the weights on each bench are the board's own loads.
    pub held_owned : (own : List ℕ)
        → ((v : ℕ) → v < d.benches → scale d * d.booked v + sum d.jobs (amount_on amount left place v) < 2 ^ 63
        → get_or own v 0 ≡ scale d * d.booked v + sum d.jobs (amount_on amount left place v))
        → Owned (board_of d s) own
    held_owned own sums =
        record {
          entries = λ v h.
              let same = same_sum v in
              let fits : scale d * own_minutes d s v < 2 ^ 63 =
              omega (arith, own_light v, R.light v, sum-split-on d.jobs (λ j. get_or s.left j false) (weight d)) in
              sums v h (omega (arith, same, own-sum v, fits)) ∙ omega (arith, same, own-sum v);
        }
      where
        same_sum : (v : ℕ) → sum d.jobs (amount_on amount left place v)
            ≡ sum d.jobs (λ j. on (not (get_or s.left j false) && eqb (get_or s.place j 0) v) (weight d j))
        same_sum v =
            sum_cong d.jobs (amount_on amount left place v)
            (λ j. on (not (get_or s.left j false) && eqb (get_or s.place j 0) v) (weight d j))
            (λ j h. rw (H.lefts j h, H.places j h, R.amounts j h))

-- The table that is made of the rocks holds them too.
pub ready_table : (d : Day) (n : Limits) (low high weights amount : List ℕ) (pebbles : List Bool) (allowed : List ℕ) (graph : Graph)
    → Ready d n low high weights amount pebbles allowed → Tabled n low high weights graph
    → Ready d n (lows graph) (highs graph) (weights_in graph) amount pebbles allowed
ready_table d n low high weights amount pebbles allowed graph R T =
    let few = few_left d R.sound R.uncrowded R.few_benches in
    record {
      sound = R.sound;
      uncrowded = R.uncrowded;
      few_benches = R.few_benches;
      few_jobs = R.few_jobs;
      light = R.light;
      benches = R.benches;
      jobs = R.jobs;
      rocks = R.rocks;
      bounds = R.bounds;
      smalls = R.smalls;
      limits = R.limits;
      lows = λ r h. T.same_lows r (omega (arith, h, few)) ∙ R.lows r h;
      highs = λ r h. T.same_highs r (omega (arith, h, few)) ∙ R.highs r h;
      heavies = λ r h. T.same_weights r (omega (arith, h, few)) ∙ R.heavies r h;
      amounts = R.amounts;
      pebbly = R.pebbly;
      allowing = R.allowing;
    }
