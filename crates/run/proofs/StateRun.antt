-- The program's state follows the turns of the run.
--     calm_shown, busy_shown          the set of the activated benches is empty where no bench is overloaded, and only there
--     orients                         what an exploration makes of the state
--     push_found_at                   the pair that a push finds
--     push_moves, push_stays          what a push makes of the state
--     Turning                         what the loop of the turns keeps; how it goes on, and how it ends
use Prim.Native.Nat.{ℕ, suc, ◌+◌, ◌-◌, ◌*◌, ◌%◌, ◌≤◌, ◌<◌, ◌^◌}
use mathlib.Core.Path.{◌≡◌, refl, sym, ap, subst, ◌∙◌}
use mathlib.Core.Bool.{Bool, true, false, ◌&&◌}
use mathlib.Core.Logic.{inl, inr, ◌≢◌}
use mathlib.Core.List.{List}
use native.Mathlib.Omega.{arith}
use native.Mathlib.Nat.{mul-le-mul, mod-eq_of_lt}
use lib.ListN.{length, get_or, set, replicate, length-set}
use lib.Dec.{ltb}
use lib.Seq.{get_or-set_same, get_or-set_other}
use borrow.Author.Tests.{lt-ltb, le-ltb, ltb-true, ne_eqb}
use Rattle.bools.proofs.BoolLaws.{split, clash, and_intro, and_left, and_right, and-false_left, and-false_right, not_intro_true}
use Rattle.bools.proofs.OrderLaws.{eq-or-ne}
use Rattle.sums.specs.Sum.{count}
use Rattle.sums.specs.Search.{any}
use Rattle.sums.proofs.SearchLaws.{any_intro, any_elim, any_false, any-least, least-holds}
use Rattle.sums.proofs.CountLaws.{count-le}
use Rattle.bits.specs.Bits.{is_set}
use Rattle.bits.proofs.SetBits.{is_set-zero, any-is_set}
use Rattle.rocks.specs.declared.rocks.Limits.{Limits}
use Rattle.run.specs.declared.state.State.{State as Kept}
use Rattle.algorithm.specs.Board.{Board}
use Rattle.algorithm.specs.Explore.{Explored, never, round_of, activated}
use Rattle.algorithm.specs.Push.{can_push, push_job, push_bench}
use Rattle.day.specs.Day.{Day, pebble}
use Rattle.algorithm.specs.Start.{State, start}
use Rattle.algorithm.specs.Run.{board_of, explored, congested, can_move, next_state, turns, budget}
use Rattle.algorithm.specs.States.{Reached, by_move}
use Rattle.arrays.specs.Arrays.{plus_of}
use Rattle.rocks.specs.BoardArrays.{Owned, Rounds}
use Rattle.explore.specs.ExploreArrays.{Reaches}
use Rattle.push.specs.PushArrays.{Receivers, Choices, first_move}
use Rattle.push.specs.declared.push.Move.{Move}
use Rattle.push.proofs.PushRun.{move_none}
use Rattle.std.specs.Prelude.{Option, Some, None}
use Rattle.std.proofs.lemmas.Option.{none-some, same_Some}
use Rattle.rock_graph.specs.declared.lent.Graph.{Graph}
use Rattle.rock_graph.specs.Graph.{lows, highs, weights, Mapped, RockGraph}
use Rattle.push.specs.KeptArrays.{shifted_of, ReachShifted, Chosen}
use Rattle.rocks.specs.Shown.{Shown, ShowsActive}
use Rattle.run.specs.Held.{Ready, Held, Holds, Explores, Pushed, a_move, no_move, Last}
use Rattle.algorithm.proofs.PushLaws.{push_allowed}
use Rattle.algorithm.proofs.Budget.{turns_move, turns-stop}
use Rattle.algorithm.proofs.DayFacts.{reached-run}
use Rattle.arrays.proofs.NumberLaws.{plus_one}
use Rattle.run.proofs.MoveRun.{moved_owned, moved_reach, held_choices}
use Rattle.run.proofs.HeldLaws.{held_good, held-rocks, few-rocks}

-- ── the set of the activated benches ──

module _ (b : Board) (x : Explored) (few : b.benches ≤ 64) (set : ℕ) (A : ShowsActive b x set) where
  pub calm_shown : set ≡ 0 → any b.benches (activated b x) ≡ false
  calm_shown none = any_false b.benches (activated b x) (λ v h. elim (split (activated b x v)) [
    | inr p ↦ p
    | inl p ↦
        clash (A v (omega arith) ∙ and_intro (lt-ltb v b.benches h) p) (ap (λ (k : ℕ). is_set 64 k v) none ∙ is_set-zero 64 v)
  ])

  pub busy_shown : set ≢ 0 → set < 2 ^ 64 → any b.benches (activated b x) ≡ true
  busy_shown some fits =
      let (v, h, p) = any_elim 64 (is_set 64 set) (any-is_set 64 set fits ∙ not_intro_true (ne_eqb set 0 some)) in
      let both : (ltb v b.benches && activated b x v) ≡ true = sym (A v h) ∙ p in
      any_intro b.benches (activated b x) v (ltb-true v b.benches (and_left (ltb v b.benches) (activated b x v) both))
      (and_right (ltb v b.benches) (activated b x v) both)

-- ── an exploration, and what a push finds ──

-- The rocks of the day, as a table.
module _ (d : Day) (n : Limits) (graph : Graph) (amount : List ℕ) (pebbles : List Bool) (allowed : List ℕ)
    (R : Ready d n (lows graph) (highs graph) (weights graph) amount pebbles allowed) (M : Mapped n graph) where
  held_graph : (m : ℕ) (s : State) (place : List ℕ) → Held d m s (start d).left place → RockGraph (board_of d s) n graph
  held_graph m s place H =
      record {
        rocks = held-rocks d n (lows graph) (highs graph) (weights graph) amount pebbles allowed R m s
            (start d).left place H;
        few_rocks = few-rocks d n (lows graph) (highs graph) (weights graph) amount pebbles allowed R m s
            (start d).left place H;
        maps = M;
      }

  -- The tables of the state are only read.
  pub orients : (m : ℕ) (s : State) (before after : Kept) (place own reach : List ℕ)
      → Holds d m s before place own reach
      → after.moves ≡ before.moves → {dir load joined level : List ℕ}
      → (RockGraph (board_of d s) n graph → Owned (board_of d s) own → Reaches (board_of d s) reach
      → Shown (board_of d s) (explored d s) dir load joined level × ShowsActive (board_of d s) (explored d s)
      after.active)
      → after.active < 2 ^ 64 → Holds d m s after place own reach × Explores d s after dir load joined level
  orients m s before after place own reach H k call fits =
      let X = call (held_graph m s place H.held) H.owned H.reaches in (
        record {
          held = H.held;
          made = k ∙ H.made;
          own_room = H.own_room;
          reach_room = H.reach_room;
          owned = H.owned;
          reaches = H.reaches;
        },
        record { shown = X.0; active = X.1; active_fits = fits },
      )

  -- The first move, from what the two functions of the search promise.
  pub push_found_at : (m : ℕ) (s : State) (kept : Kept) (place own reach dir load joined level : List ℕ)
      → Holds d m s kept place own reach → Explores d s kept dir load joined level
      → (choice : List ℕ) → Chosen n.jobs pebbles allowed choice → (receivers : List ℕ) {found : Option Move}
      → (RockGraph (board_of d s) n graph → Owned (board_of d s) own
      → Shown (board_of d s) (explored d s) dir load joined level
      → replicate {A = ℕ} 66 0 ≡ replicate {A = ℕ} 66 0 → Receivers (board_of d s) (explored d s) receivers)
      → (RockGraph (board_of d s) n graph → Choices (board_of d s) choice place
      → Rounds (board_of d s) (explored d s).level level → Receivers (board_of d s) (explored d s) receivers
      → found ≡ first_move (board_of d s) (explored d s))
      → found ≡ first_move (board_of d s) (explored d s)
  push_found_at m s kept place own reach dir load joined level H X choice C receivers receive find =
      let G = held_graph m s place H.held in
      find G
      (held_choices d n (lows graph) (highs graph) (weights graph) amount pebbles allowed R m s (start d).left place H.held
      choice C)
      X.shown.level (receive G H.owned X.shown refl)

module _ (d : Day) (n : Limits) (low high weights amount : List ℕ) (pebbles : List Bool) (allowed : List ℕ)
    (R : Ready d n low high weights amount pebbles allowed) where
  -- ── a push ──

  few_moves : (m : ℕ) (s : State) → Reached d m s → m ≤ 32768
  few_moves m s came =
      let rest = reached-run d R.sound R.uncrowded came in
      let pebbles-few : count d.jobs (pebble d) ≤ 512 = omega (arith, count-le d.jobs (pebble d), R.few_jobs) in
      let most : d.benches * count d.jobs (pebble d) ≤ 64 * 512 = mul-le-mul R.few_benches pebbles-few in
      omega (arith, rest.of_budget, most)

  can_move_lem : (s : State) → push_job (board_of d s) (explored d s) < d.jobs → can_move d s ≡ true
  can_move_lem s h =
      let b = board_of d s in
      let x = explored d s in
      let (v, l, p) = any_elim d.benches (can_push b x (push_job b x)) (least-holds d.jobs (λ j. any d.benches (can_push b x j)) h) in
      and_intro (any_intro d.benches (activated b x) v l (lt-ltb (round_of b x.level v) (never b) (omega (arith, (push_allowed b x (push_job b x) v p).active)))) (lt-ltb (push_job b x) d.jobs h)

  pub push_moves : (choice : List ℕ) → Chosen n.jobs pebbles allowed choice
      → (m : ℕ) (s : State) (before after : Kept) (place own reach place' own' reach' : List ℕ)
      → Holds d m s before place own reach
      → (job bench : ℕ) → push_job (board_of d s) (explored d s) < d.jobs
      → job ≡ push_job (board_of d s) (explored d s) → bench ≡ push_bench (board_of d s) (explored d s)
      → place' ≡ set place job (bench % 256) → after.moves ≡ plus_of before.moves 1
      → {u : ℕ} → u ≡ get_or place job 0 → own' ≡ shifted_of own u bench (get_or amount job 0)
      → length reach' ≡ length reach → ReachShifted n.jobs choice place' reach u bench job reach'
      → after.active ≡ before.active → Pushed d m s before place own reach (Some after) place' own' reach'
  push_moves choice C m s before after place own reach place' own' reach' K job bench found ej bench-is p₀ q {u} eu eo₁
      sized S₁ unchanged =
      let left = (start d).left in
      let H = K.held in
      let b = board_of d s in
      let x = explored d s in
      let j = push_job b x in
      let v = push_bench b x in
      let h : job < d.jobs = omega (arith, ej, found) in
      let can = can_move_lem s found in
      let some = least-holds d.jobs (λ i. any d.benches (can_push b x i)) found in
      let benched : v < d.benches = any-least d.benches (can_push b x j) some in
      let p : place' ≡ set place job bench =
      p₀ ∙ ap (set place job) (mod-eq_of_lt (let few : bench < 256 = omega
      (arith, bench-is, benched, R.few_benches) in few)) in
      let allowed-push = push_allowed b x j v (least-holds d.benches (can_push b x j) benched) in
      let is : pebble d job ≡ true = subst (λ (k : ℕ). pebble d k ≡ true) (sym ej) allowed-push.pebble in
      let H₁ : Held d (suc m) (next_state d s) left place' = record {
        reached = by_move H.reached can;
        lefts = H.lefts;
        room = omega (arith, ap length p, length-set place job bench, H.room);
        places = λ i l'. ap (λ (xs : List ℕ). get_or xs i 0) p ∙ elim (eq-or-ne i job) [
          | inl e ↦
              subst (λ (k : ℕ). get_or (set place job bench) k 0 ≡ get_or (set s.place j v) k 0) (sym e)
              (get_or-set_same place job bench 0 (omega (arith, H.room, h)) ∙ bench-is
              ∙ sym (subst (λ (k : ℕ). get_or (set s.place j v) k 0 ≡ v) (sym ej)
              (get_or-set_same s.place j v 0 (omega (
                arith,
                found,
                (held_good d n low high weights amount pebbles
                    allowed R m s left place H).one_to_a_job,
              )))))
          | inr ne ↦
              get_or-set_other place job i bench 0 ne ∙ H.places i l' ∙ sym (get_or-set_other s.place j i v 0
              (λ e. ne (e ∙ sym ej)))
        ];
      } in
      let eo : own' ≡ shifted_of own (get_or place job 0) bench (get_or amount job 0) =
      eo₁ ∙ ap (λ (k : ℕ). shifted_of own k bench (get_or amount job 0)) eu in
      let S : ReachShifted n.jobs choice place' reach (get_or place job 0) bench job reach' =
      subst (λ (k : ℕ). ReachShifted n.jobs choice place' reach k bench job reach') eu S₁ in
      let at-bench : bench < d.benches = omega (arith, bench-is, benched) in
      a_move after refl can
      (record {
        held = H₁;
        made = q ∙ ap (λ (k : ℕ). plus_of k 1) K.made ∙ plus_one m (omega (arith, few_moves m s H.reached));
        own_room = ap length eo ∙ shifted-length own (get_or place job 0) bench (get_or amount job 0) ∙ K.own_room;
        reach_room = sized ∙ K.reach_room;
        owned = moved_owned d n low high weights amount pebbles allowed R m s left place H job bench h at-bench is
            place' p
            (suc m) (next_state d s) H₁ own own' K.own_room K.owned eo;
        reaches = moved_reach d n low high weights amount pebbles allowed R m s left place H job bench h at-bench is
            place' p
            (suc m) (next_state d s) H₁ choice C reach reach' K.reach_room K.reaches S;
      })
      unchanged
    where
      shifted-length : (xs : List ℕ) (u v w : ℕ) → length (shifted_of xs u v w) ≡ length xs
      shifted-length xs u v w =
          length-set (set xs u (get_or xs u 0 - w)) v (plus_of (get_or (set xs u
          (get_or xs u 0 - w)) v 0) w) ∙ length-set xs u (get_or xs u 0 - w)

  pub push_stays : (m : ℕ) (s : State) (kept : Kept) (place own reach : List ℕ)
      → None ≡ first_move (board_of d s) (explored d s) → {after : Option Kept} → after ≡ None
      → Pushed d m s kept place own reach after place own reach
  push_stays m s kept place own reach none there = no_move there (move_none (board_of d s) (explored d s) none) refl refl refl

  -- ── the turns ──

  -- Before an exploration: k − 1 moves may follow.
  pub record Turning (k : ℕ) (kept : Kept) (place own reach : List ℕ) : Type 0 where
    pub moves : ℕ
    pub state : State
    pub holds : Holds d moves state kept place own reach
    pub in_all : k + moves ≡ suc (budget d)
    pub same : turns (budget d) d (start d) 0 ≡ turns (k - 1) d state moves

  few-turns : budget d ≤ 32768
  few-turns =
      let pebbles-few : count d.jobs (pebble d) ≤ 512 = omega (arith, count-le d.jobs (pebble d), R.few_jobs) in
      mul-le-mul R.few_benches pebbles-few

  pub starts : (first : Kept) (place own reach : List ℕ) {k i : ℕ} → k ≡ budget d → i ≡ plus_of k 1
      → Holds d 0 (start d) first place own reach → Turning i first place own reach
  starts first place own reach {k} {i} e one H =
      let next : i ≡ suc (budget d) = one ∙ ap (λ (a : ℕ). plus_of a 1) e ∙ plus_one (budget d) (omega (arith, few-turns)) in
      record {
        moves = 0;
        state = start d;
        holds = H;
        in_all = omega (arith, next);
        same = let all : budget d ≡ i - 1 = omega (arith, next) in ap (λ (a : ℕ). turns a d (start d) 0) all;
      }

  module _ {k : ℕ} {kept : Kept} {place own reach : List ℕ} (T : Turning k kept place own reach) where
    moves_few : T.moves ≤ budget d
    moves_few = omega (arith, (reached-run d R.sound R.uncrowded T.holds.held.reached).of_budget)

    pub turning_spent : {after : Kept} {places dir : List ℕ} → k ≤ 0 → Last d after places dir
    turning_spent none = absurd (omega (arith, moves_few, T.in_all))

    module _ {after : Kept} {dir load joined level : List ℕ}
        (O : Holds d T.moves T.state after place own reach × Explores d
        T.state after dir load joined level) where
      stop : can_move d T.state ≡ false → Last d after place dir
      stop cannot =
          record {
            moves = T.moves;
            state = T.state;
            held = O.0.held;
            made = O.0.made;
            directed = O.1.shown.seen.directed;
            active = O.1.active;
            active_fits = O.1.active_fits;
            same = T.same ∙ turns-stop d T.state T.moves (k - 1) cannot;
          }

      pub turning_calm : after.active ≡ 0 → Last d after place dir
      turning_calm none =
          let still : congested d T.state ≡ false =
          calm_shown (board_of d T.state) (explored d T.state) R.few_benches after.active O.1.active none in
          stop (and-false_left (ltb (push_job (board_of d T.state) (explored d T.state)) d.jobs) still)

      module _ {last : Option Kept} {place' own' reach' : List ℕ} (P : Pushed d T.moves
          T.state after place own reach last place' own' reach') where
        pub turning_stuck : last ≡ None → Last d after place' dir
        turning_stuck nothing = stuck P
          where
            stuck : Pushed d T.moves T.state after place own reach last place' own' reach' → Last d after place' dir
            stuck (a_move next some can H unchanged) = absurd (none-some next (sym nothing ∙ some))
            stuck (no_move there none ep eo er) =
                subst (λ (xs : List ℕ). Last d after xs dir) (sym ep)
                (stop (and-false_right (congested d T.state) (le-ltb (push_job (board_of d T.state) (explored d
                T.state)) d.jobs (omega (arith, none)))))

        pub turning_next : (next : Kept) {l : ℕ} → last ≡ Some next → k ≡ l + 1 → Turning l next place' own' reach'
        turning_next next {l} is more = go P
          where
            go : Pushed d T.moves T.state after place own reach last place' own' reach' → Turning l next place' own' reach'
            go (a_move kept₁ some can H unchanged) =
                let few = (reached-run d R.sound R.uncrowded H.held.reached).of_budget in
                let e : k - 1 ≡ suc (l - 1) = omega (arith, few, T.in_all) in
                record {
                  moves = suc T.moves;
                  state = next_state d T.state;
                  holds = subst (λ (x : Kept). Holds d (suc T.moves) (next_state d T.state) x place' own' reach')
                      (same_Some kept₁ next (sym some ∙ is)) H;
                  in_all = omega (arith, T.in_all);
                  same = T.same ∙ ap (λ (i : ℕ). turns i d T.state T.moves) e ∙ turns_move d T.state T.moves (l - 1) can;
                }
            go (no_move there none ep eo er) = absurd (none-some next (sym there ∙ is))
