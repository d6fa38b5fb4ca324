-- The rounds of an exploration, with the sets that they keep.
--     Exploration           what the loop over the rounds keeps
--     covers_touched        a rock that is forced has its ends among the benches with a rock
--     exploration_starts, exploration_goes_on, exploration_ends, exploration_spent     how it starts, goes on and ends
use Prim.Native.Nat.{ℕ, ◌+◌, ◌^◌, ◌≤◌, ◌<◌}
use mathlib.Core.Path.{◌≡◌}
use mathlib.Core.Bool.{Bool, true, cond, not, ◌&&◌, ◌||◌}
use mathlib.Core.Logic.{inl, inr, ◌≢◌}
use mathlib.Core.List.{List}
use native.Mathlib.Omega.{arith}
use lib.Dec.{ltb}
use lib.ListN.{length, get_or, replicate}
use Rattle.bools.proofs.OrderLaws.{lt-or-le}
use Rattle.sums.specs.Search.{any}
use Rattle.bits.specs.Bits.{is_set}
use Rattle.rocks.specs.declared.rocks.Limits.{Limits}
use Rattle.algorithm.specs.Board.{Board, Directions}
use Rattle.algorithm.specs.Forced.{forced_orientations}
use Rattle.algorithm.specs.Explore.{construct, activate, explore, opened_joined}
use Rattle.arrays.specs.Arrays.{plus_of}
use Rattle.rocks.specs.BoardArrays.{rocks_of, Rocks, Directed, Seen, Rounds}
use Rattle.conflict.specs.ConflictArrays.{joins_at, fake_at, Built, Grew}
use Rattle.activation.specs.ActivationArrays.{Waits}
use Rattle.explore.specs.ExploreArrays.{Reaches}
use Rattle.rock_graph.specs.Neighbours.{Neighbours, Touches}
use Rattle.forced.specs.SetArrays.{Covers, Nowhere, forces_at}
use Rattle.forced.specs.CandidateArrays.{Neutral}
use Rattle.rocks.specs.Shown.{Shown, ShowsActive}
use Rattle.rocks.proofs.RockLaws.{end_below}
use Rattle.forced.proofs.CandidateLaws.{rock-ends, few-rocks, few_benches}
use Rattle.explore.proofs.RoundSets.{Raised, Sets, sets_start, joins_covered, fakes_covered, waits_asked, sets_next}
use Rattle.explore.proofs.RoundRun.{Exploring, exploring_starts, exploring_joined, exploring_goes_on, exploring_ends, exploring_spent}

positive : (a : ℕ) → a ≢ 0 → 0 < a
positive a ne = elim (lt-or-le 0 a) [ inl h ↦ h | inr h ↦ absurd (ne (omega arith)) ]

module _ (b : Board) (n : Limits) (low high weight : List ℕ) (R : Rocks b n low high weight) where
  pub covers_touched : (P : ℕ → ℕ → Bool) (touched : ℕ) → rocks_of b ≤ 64 → Touches n low high touched → Covers n low high P touched
  covers_touched P touched few T r v h t p =
      let hv = end_below low high n.benches r v (rock-ends b n low high weight R r h) t in
      T r v h (omega (arith, h, few-rocks b n low high weight R few)) (omega (arith, hv, few_benches b n low high weight R)) t

  pub record Exploration (i all : ℕ) (dir load joined level : List ℕ) (neutral active fresh wait : ℕ) : Type 0 where
    pub exploring : Exploring b n low high weight R i dir load joined level
    pub sets : Sets n low high weight i all dir load joined level active fresh wait
    pub free : Neutral n dir neutral

  pub exploration_starts : (m all neutral : ℕ) {dir load joined level : List ℕ} → b.benches ≤ m → Seen b (forced_orientations b (replicate b.jobs 0)) dir load
      → Nowhere n low high (forces_at n.bound weight dir load) → Neutral n dir neutral → ((v : ℕ) → v < 64 → is_set 64 all v ≡ ltb v n.benches)
      → joined ≡ replicate m (plus_of n.benches 1) → level ≡ replicate m (plus_of n.benches 1) → Exploration 0 all dir load joined level neutral 0 0 0
  exploration_starts m all neutral few S none free alls j l =
      record {
        exploring = exploring_starts b n low high weight R m few S j l;
        sets = sets_start n low high weight (few_benches b n low high weight R) (rock-ends b n low high weight R) m all (omega (arith, R.benches)) j l alls none;
        free = free;
      }

  pub exploration_spent : {i all neutral active fresh wait : ℕ} {dir load joined level : List ℕ} → Exploration i all dir load joined level neutral active fresh wait
      → n.benches < i → Shown b (explore b) dir load joined level × ShowsActive b (explore b) active
  exploration_spent E over = exploring_spent b n low high weight R E.exploring over E.sets

  module _ (idle : ℕ) {i all neutral active reach fresh wait opened : ℕ} {reaches dir load joined level joined' level' : List ℕ} (T : Reaches b reaches)
      (E : Exploration i all dir load joined level neutral active fresh wait) (in-time : i ≤ n.benches)
      (ei : (v : ℕ) → is_set 64 idle v ≡ (is_set 64 all v && not (is_set 64 active v)))
      (e : (v : ℕ) → v < 64 → is_set 64 idle v ≡ true → is_set 64 reach v ≡ any 64 (λ u. is_set 64 fresh u && is_set 64 (get_or reaches u 0) v))
      (O : Raised n i all active reach load joined level opened joined' level') where
    pub exploration_ends : opened ≡ 0 → Shown b (explore b) dir load joined' level' × ShowsActive b (explore b) active
    exploration_ends shut = exploring_ends b n low high weight R idle T E.exploring in-time ei e E.sets O shut

    module _ (few : rocks_of b ≤ 64) (neighbours : List ℕ) (touched cand fakes grown neutral' waiting rest asked left went fresh' active' : ℕ) (dir' load' joined'' level'' : List ℕ)
        (N : Neighbours n low high neighbours) (K : Touches n low high touched)
        (ec : (v : ℕ) → v < 64 → is_set 64 touched v ≡ true → is_set 64 cand v ≡ any 64 (λ u. is_set 64 opened u && is_set 64 (get_or neighbours u 0) v))
        (ek : (v : ℕ) → is_set 64 fakes v ≡ (is_set 64 opened v && is_set 64 touched v))
        (build : (dirs : Directions) (xs : List ℕ) → i ≤ b.benches → Neutral n dir neutral → Covers n low high (joins_at n.benches low high dir joined') cand
        → Covers n low high (fake_at n.benches dir joined') fakes → Nowhere n low high (forces_at n.bound weight dir load)
        → Seen b dirs dir load → Rounds b xs joined'
        → Built b (construct b.jobs b i dirs xs) dir' load' joined'' × Grew n joined' joined'' grown × Nowhere n low high (joins_at n.benches low high dir' joined'')
        × Nowhere n low high (fake_at n.benches dir' joined'') × Nowhere n low high (forces_at n.bound weight dir' load') × Neutral n dir' neutral')
        (eg : (v : ℕ) → is_set 64 waiting v ≡ (is_set 64 wait v || is_set 64 grown v))
        (er : (v : ℕ) → is_set 64 rest v ≡ (is_set 64 waiting v && not (is_set 64 opened v)))
        (ea : (v : ℕ) → is_set 64 asked v ≡ (is_set 64 all v && is_set 64 rest v))
        (step : (v : ℕ) → v < length level' → v < 64 → get_or level'' v 0 ≡ cond (is_set 64 asked v && not (is_set 64 left v)) i (get_or level' v 0))
        (act : (dirs : Directions) (xs ys : List ℕ) → i ≤ n.benches → Waits n joined'' level' asked → Directed b dirs dir' → Rounds b xs joined'' → Rounds b ys level'
        → Rounds b (activate b.benches b i dirs xs ys) level'')
        (ew : (v : ℕ) → is_set 64 went v ≡ (is_set 64 asked v && not (is_set 64 left v)))
        (ef : (v : ℕ) → is_set 64 fresh' v ≡ (is_set 64 opened v || is_set 64 went v))
        (en : (v : ℕ) → is_set 64 active' v ≡ (is_set 64 active v || is_set 64 fresh' v)) where
      board_time : i ≤ b.benches
      board_time = omega (arith, in-time, R.benches)

      built : (dirs : Directions) (xs : List ℕ) → Seen b dirs dir load → Rounds b xs joined'
          → Built b (construct b.jobs b i dirs xs) dir' load' joined'' × Grew n joined' joined'' grown × Nowhere n low high (joins_at n.benches low high dir' joined'')
          × Nowhere n low high (fake_at n.benches dir' joined'') × Nowhere n low high (forces_at n.bound weight dir' load') × Neutral n dir' neutral'
      built dirs xs S X =
          build dirs xs board_time E.free
          (joins_covered n low high weight (few_benches b n low high weight R) (rock-ends b n low high weight R) in-time E.sets O neighbours touched cand (few-rocks b n low high weight R few) N K ec)
          (fakes_covered n low high weight (few_benches b n low high weight R) (rock-ends b n low high weight R) in-time E.sets O touched fakes (few-rocks b n low high weight R few) K ek)
          E.sets.forces S X

      pub exploration_goes_on : opened ≢ 0 → opened < 2 ^ 64 → length joined'' ≡ length joined' → length level'' ≡ length level'
          → Exploration (i + 1) all dir' load' joined'' level'' neutral' active' fresh' left
      exploration_goes_on some fits lj ll =
          let now-x = E.exploring.now_x in
          let G = built now-x.dir (opened_joined b i now-x) E.exploring.shown.seen (exploring_joined b n low high weight R idle T E.exploring in-time ei e E.sets O) in
          let W = waits_asked n low high weight (few_benches b n low high weight R) (rock-ends b n low high weight R) in-time E.sets O grown waiting rest asked joined'' G.1 eg er ea in
          record {
            exploring =
                exploring_goes_on b n low high weight R idle T E.exploring in-time ei e E.sets O (positive opened some) fits (λ dirs xs S X. (built dirs xs S X).0)
                (λ dirs xs ys D X Y. act dirs xs ys in-time W D X Y);
            sets =
                sets_next n low high weight (few_benches b n low high weight R) (rock-ends b n low high weight R) in-time E.sets O grown waiting rest asked joined'' G.1 eg er ea
                left went fresh' active' dir' load' level'' step ew ef en lj ll G.2 G.3 G.4;
            free = G.5;
          }
