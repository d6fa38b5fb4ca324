-- From the last state of the run to the decision.
--     placed_else, placed_rock     where the rocks that are left go, and where all other jobs stay
--     settled_places       the places with the rocks settled are those of the plan
--     finish_none, finish_plan     the decision at the last state
--     ready                the tables of the rocks that are left, from those of a day
use Prim.Native.Nat.{ℕ, zero, suc, ◌-◌, ◌%◌, ◌≤◌, ◌<◌}
use mathlib.Core.Path.{◌≡◌, refl, sym, ap, ap₂, ◌∙◌}
use mathlib.Core.Bool.{Bool, true, false, cond, ◌&&◌}
use mathlib.Core.Logic.{◌≢◌, inl, inr, ⊎_elim}
use mathlib.Core.List.{List}
use native.Mathlib.Omega.{arith}
use native.Mathlib.Nat.{mod-eq_of_lt}
use lib.ListN.{length, get_or, set, replicate, get_or-replicate, length-set}
use lib.Dec.{ltb}
use lib.Seq.{get_or-set_same, get_or-set_other}
use borrow.Author.Tests.{lt-ltb}
use Rattle.bools.proofs.BoolLaws.{split, clash}
use Rattle.bools.proofs.OrderLaws.{last_or_below}
use Rattle.sums.specs.Sum.{count}
use Rattle.sums.specs.Members.{members}
use Rattle.sums.proofs.TableLaws.{length-table, get_or-table}
use Rattle.sums.proofs.MembersLaws.{member_below, member_holds, member_index}
use Rattle.bits.specs.Bits.{is_set}
use Rattle.day.specs.Day.{Day, pebble, bound, long_job}
use Rattle.answers.proofs.SetLaws.{set_of-members}
use Rattle.algorithm.specs.Rocks.{weight, small, limit}
use Rattle.algorithm.specs.Board.{Board}
use Rattle.algorithm.specs.Explore.{Explored, activated}
use Rattle.algorithm.specs.Settle.{settle}
use Rattle.algorithm.specs.Start.{start, crowded_bench}
use Rattle.algorithm.specs.Run.{board_of, explored, congested, places_of, planned, blocked, answer_at, run}
use Rattle.algorithm.specs.SoundDay.{SoundDay, Uncrowded}
use Rattle.algorithm.proofs.RockGraph.{uncrowded_test}
use Rattle.algorithm.proofs.Budget.{run-turns}
use Rattle.arrays.specs.Arrays.{filled}
use Rattle.arrays.proofs.FilledLaws.{get_or-filled}
use Rattle.sets.specs.Sets.{lowest_of, highest_of}
use Rattle.rocks.specs.declared.rocks.Limits.{Limits}
use Rattle.rocks.specs.BoardArrays.{rocks_of, rock_at, Rocks, Directed}
use Rattle.rocks.proofs.BoardLaws.{rock_differs}
use Rattle.start.specs.StartArrays.{Fields, Placed}
use Rattle.start.proofs.RocksRun.{left_count, left_jobs, left_lows, left_highs}
use Rattle.run.specs.declared.state.State.{State as Kept}
use Rattle.run.specs.TableArrays.{placed_of}
use Rattle.run.specs.Held.{Ready, Last, is_left, left_job}
use Rattle.run.proofs.HeldLaws.{few_left, held-rocks, rock-job}
use Rattle.run.proofs.StartState.{begins_light}
use Rattle.run.proofs.StateRun.{calm_shown, busy_shown}
use Rattle.decisions.specs.declared.decision.Decision.TheVariants.{Plan, None}
use Rattle.decisions.specs.Decision.{decision_of, places_in, Decides}

-- ── where the rocks that are left go ──

module _ (n : ℕ) (job_of : ℕ → ℕ) (job dir place : List ℕ) (apart : (r s : ℕ) → r < n → s < n → r ≢ s → job_of r ≢ job_of s)
    (jobs-are : (r : ℕ) → r < n → get_or job r 0 ≡ job_of r) (room : (r : ℕ) → r < n → job_of r < length place) where
  length-placed : (k : ℕ) → length (placed_of k job dir place) ≡ length place
  unfolding placed_of
  length-placed zero = refl
  length-placed (suc k) = length-set (placed_of k job dir place) (get_or job k 0) ((get_or dir k 0 - 1) % 256) ∙ length-placed k

  pub placed_else : (k : ℕ) → k ≤ n → (j : ℕ) → ((r : ℕ) → r < k → j ≢ job_of r) → get_or (placed_of k job dir place) j 0 ≡ get_or place j 0
  unfolding placed_of
  placed_else zero h j other = refl
  placed_else (suc k) h j other =
      get_or-set_other (placed_of k job dir place) (get_or job k 0) j ((get_or dir k 0 - 1) % 256) 0 (λ e. other k (omega arith) (e ∙ jobs-are k (omega arith)))
      ∙ placed_else k (omega arith) j (λ r l. other r (omega arith))

  pub placed_rock : (k : ℕ) → k ≤ n → (r : ℕ) → r < k → get_or (placed_of k job dir place) (job_of r) 0 ≡ (get_or dir r 0 - 1) % 256
  unfolding placed_of
  placed_rock zero h r l = absurd (omega arith)
  placed_rock (suc k) h r l = elim (last_or_below {i = r} {n = k} l) [
    | inl e ↦
        let here : job_of r ≡ get_or job k 0 = ap job_of e ∙ sym (jobs-are k (omega arith)) in
        ap (λ (i : ℕ). get_or (set (placed_of k job dir place) (get_or job k 0) ((get_or dir k 0 - 1) % 256)) i 0) here
        ∙ get_or-set_same (placed_of k job dir place) (get_or job k 0) ((get_or dir k 0 - 1) % 256) 0
        (omega (arith, length-placed k, jobs-are k (omega arith), room k (omega arith)))
        ∙ ap (λ (i : ℕ). (get_or dir i 0 - 1) % 256) (sym e)
    | inr b ↦
        get_or-set_other (placed_of k job dir place) (get_or job k 0) (job_of r) ((get_or dir k 0 - 1) % 256) 0
        (λ e. apart r k (omega arith) (omega arith) (λ q. omega arith) (e ∙ jobs-are k (omega arith)))
        ∙ placed_rock k (omega arith) r b
  ]

-- ── the decision at the last state ──

module _ (d : Day) (n : Limits) (low high weights amount : List ℕ) (pebbles : List Bool) (allowed : List ℕ)
    (R : Ready d n low high weights amount pebbles allowed) (kept : Kept) (before aims : List ℕ)
    (L : Last d kept before aims) where
  abbrev b : Board
  b = board_of d L.state

  abbrev x : Explored
  x = explored d L.state

  pub last_rocks : Rocks b n low high weights
  last_rocks =
      held-rocks d n low high weights amount pebbles allowed R L.moves L.state (start d).left before L.held

  -- A rock is directed towards one of its ends, so its bench fits a byte.
  aim-small : (j : ℕ) → j < d.jobs → b.rock j ≡ true → {dir : List ℕ} → Directed b (settle b x.dir) dir → get_or (settle b x.dir) j 0 - 1 < 256
  aim-small j h is D =
      let sound = last_rocks.sound in
      let low_end = sound.ends_differ j h is in
      let high_end = sound.ends_below j h is in
      ⊎_elim (λ e. omega (arith, e))
      (⊎_elim (λ e. omega (arith, e, low_end, high_end, R.few_benches)) (λ e. omega (arith, e, high_end, R.few_benches)))
      (D.pointed.to_an_end j h is)

  -- The places with the rocks settled are those of the plan.
  pub settled_places : (job dir place : List ℕ) → ((r : ℕ) → r < count d.jobs (is_left d)
      → get_or job r 0 ≡ left_job d r)
      → Directed b (settle b x.dir) dir → place ≡ placed_of n.rocks job dir before
      → (j : ℕ) → j < d.jobs → get_or place j 0 ≡ get_or (places_of d L.state (settle b x.dir)) j 0
  settled_places job dir place jobs-are D e j h =
      let H = L.held in
      let k = n.rocks in
      let rocks-are : k ≡ rocks_of b = last_rocks.rocks in
      let job_is : (r : ℕ) → r < k → get_or job r 0 ≡ rock_at b r =
      λ r l. jobs-are r (omega (arith, R.rocks)) ∙ sym (rock-job d n low high weights amount pebbles allowed R
      L.moves L.state (start d).left before H r) in
      let apart : (r s : ℕ) → r < k → s < k → r ≢ s → rock_at b r ≢ rock_at b s = λ r s hr hs ne. rock_differs b r s (omega arith) (omega arith) ne in
      let room : (r : ℕ) → r < k → rock_at b r < length before =
      λ r l. omega (arith, member_below d.jobs b.rock r 0 (omega arith), H.room) in
      let shown-place : get_or (places_of d L.state (settle b x.dir)) j 0
      ≡ cond (b.rock j) (get_or (settle b x.dir) j 0 - 1) (get_or L.state.place j 0) =
      get_or-table d.jobs (λ i. cond (b.rock i) (get_or (settle b x.dir) i 0 - 1) (get_or L.state.place i 0)) j 0 h in
      ap (λ (xs : List ℕ). get_or xs j 0) e ∙ elim (split (b.rock j)) [
        | inl is ↦
            let (r, l, q) = member_index d.jobs b.rock 0 j h is in
            let below : r < k = omega (arith, rocks-are) in
            ap (λ (i : ℕ). get_or (placed_of k job dir before) i 0) (sym q)
            ∙ placed_rock k (rock_at b) job dir before apart job_is room k (omega arith) r below
            ∙ ap (λ (i : ℕ). (i - 1) % 256) (D.entries r l ∙ ap (λ (i : ℕ). get_or (settle b x.dir) i 0) q) ∙ mod-eq_of_lt (aim-small j h is D)
            ∙ sym (shown-place ∙ ap (λ (t : Bool). cond t (get_or (settle b x.dir) j 0 - 1) (get_or L.state.place j 0)) is)
        | inr not_left ↦
            placed_else k (rock_at b) job dir before apart job_is room k (omega arith) j
            (λ r l q. clash (member_holds d.jobs b.rock r 0 (omega (arith, rocks-are))) (ap b.rock (sym q) ∙ not_left))
            ∙ H.places j h
            ∙ sym (shown-place ∙ ap (λ (t : Bool). cond t (get_or (settle b x.dir) j 0 - 1) (get_or L.state.place j 0)) not_left)
      ]

  module _ (short : ltb (long_job d) d.jobs ≡ false) (sparse : ltb (crowded_bench d) d.benches ≡ false) where
    at_last_none : congested d L.state ≡ true → run d ≡ blocked (activated b x) L.moves
    unfolding answer_at
    at_last_none crowd = run-turns d short sparse ∙ L.same ∙ rw (crowd, answer_at)

    at_last_plan : congested d L.state ≡ false → run d ≡ planned (places_of d L.state (settle b x.dir)) L.moves
    unfolding answer_at
    at_last_plan calm = run-turns d short sparse ∙ L.same ∙ rw (calm, answer_at)

    pub finish_none : kept.active ≢ 0 → Decides d (record { decision = None (record { set = kept.active; moves = kept.moves }); places = replicate 512 0 })
    finish_none some =
        let crowd = busy_shown b x R.few_benches kept.active L.active some L.active_fits in
        let ends = at_last_none crowd in
        let set_is = set_of-members d.benches (activated b x) R.few_benches kept.active L.active_fits
        L.active in
        record {
          decision = ap₂ (λ (s m : ℕ). None (record { set = s; moves = m })) set_is L.made ∙ sym (ap
              (decision_of d) ends);
          places = λ j h. get_or-replicate {A = ℕ} 512 j 0 0 (omega (arith, R.few_jobs)) ∙ sym (ap (λ o. get_or (places_in o) j 0) ends);
          one_to_a_job = λ p e. clash {b = true} refl cc;
        }

    pub finish_plan : (places : List ℕ) → kept.active ≡ 0
        → ((j : ℕ) → j < d.jobs → get_or places j 0 ≡ get_or (places_of d L.state (settle b x.dir)) j 0)
        → Decides d (record { decision = Plan (record { moves = kept.moves }); places = places })
    finish_plan places none are =
        let calm = calm_shown b x R.few_benches kept.active L.active none in
        let ends = at_last_plan calm in
        record {
          decision = ap (λ (m : ℕ). Plan (record { moves = m })) L.made ∙ sym (ap (decision_of d) ends);
          places = λ j h. are j h ∙ sym (ap (λ o. get_or (places_in o) j 0) ends);
          one_to_a_job = λ p e. ap (λ o. length (places_in o)) ends ∙ length-table d.jobs _;
        }

-- ── the run from the tables of a day ──

module _ (d : Day) (n m : Limits) (minutes allowed : List ℕ) (F : Fields d n.jobs minutes allowed)
    (sound : SoundDay d) (sparse : ltb (crowded_bench d) d.benches ≡ false)
    (left : List Bool) (place : List ℕ) (P : Placed d (start d) left place) where
  uncrowded : Uncrowded d
  uncrowded = uncrowded_test d sparse

  pub ready : (low high weights amount job low₀ high₀ weights₀ job₀ : List ℕ) (pebbles : List Bool)
      → m.benches ≡ d.benches → m.jobs ≡ d.jobs → m.bound ≡ bound d → m.small ≡ small d → m.limit ≡ limit d
      → m.rocks ≡ count n.jobs (λ j. get_or left j false)
      → 64 ≤ length low₀ → 64 ≤ length high₀ → 64 ≤ length weights₀ → 64 ≤ length job₀
      → job ≡ filled m.rocks (λ r. get_or (members n.jobs (λ j. get_or left j false)) r 0) job₀
      → low ≡ filled m.rocks (λ r. lowest_of (get_or allowed (get_or (members n.jobs (λ j. get_or left j false)) r 0) 0)) low₀
      → high ≡ filled m.rocks (λ r. highest_of (get_or allowed (get_or (members n.jobs (λ j. get_or left j false)) r 0) 0)) high₀
      → weights ≡ filled m.rocks (λ r. get_or amount (get_or job r 0) 0) weights₀
      → ((j : ℕ) → j < d.jobs → get_or amount j 0 ≡ weight d j) → ((j : ℕ) → j < d.jobs → get_or pebbles j false ≡ pebble d j)
      → Ready d m low high weights amount pebbles allowed × ((r : ℕ) → r < count d.jobs (is_left d) → get_or job r 0 ≡ left_job d r)
  ready low high weights amount job low₀ high₀ weights₀ job₀ pebbles mb mj m1 m2 m3 mr rl rh rw' rj ej el eh ew amounts pebbly =
      let few = few_left d sound uncrowded F.bounded.few_benches in
      let lefts = left_count d n.jobs minutes allowed F sound (start d) left place P in
      let job_is : (r : ℕ) → r < count d.jobs (is_left d) → get_or job r 0 ≡ left_job d r =
      λ r h. left_jobs d n.jobs minutes allowed F sound (start d) left place P m.rocks mr r h job₀ (omega arith) ej in (
        record {
          sound = sound;
          uncrowded = uncrowded;
          few_benches = F.bounded.few_benches;
          few_jobs = F.bounded.few_jobs;
          light = begins_light d n.jobs minutes allowed F;
          benches = mb;
          jobs = mj;
          rocks = mr ∙ lefts;
          bounds = m1;
          smalls = m2;
          limits = m3;
          lows = λ r h. left_lows d n.jobs minutes allowed F sound (start d) left place P m.rocks mr r h low₀ (omega arith) el;
          highs = λ r h. left_highs d n.jobs minutes allowed F sound (start d) left place P m.rocks mr r h high₀ (omega arith) eh;
          heavies = λ r h.
              ap (λ (xs : List ℕ). get_or xs r 0) ew
              ∙ get_or-filled (λ i. get_or amount (get_or job i 0) 0) m.rocks weights₀ r 0 (omega (arith, mr, lefts)) (omega arith)
              ∙ ap (λ (k : ℕ). get_or amount k 0) (job_is r h) ∙ amounts (left_job d r) (member_below d.jobs (is_left d) r 0 h);
          amounts = amounts;
          pebbly = pebbly;
          allowing = λ j v h l. sym (F.allows j v h ∙ ap (λ (t : Bool). t && is_set 64 (get_or allowed j 0) v) (lt-ltb v d.benches l));
        },
        job_is,
      )
