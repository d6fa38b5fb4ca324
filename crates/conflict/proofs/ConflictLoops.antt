-- The two loops of the construction of the conflict set, each search through its candidates.
--     rock_out, rock_there      a search through the rocks of a bench
--     fake_lowest, fake_none    the lowest neutral rock of a bench, where it is in the conflict set
--     Closes, Closed            what the loop that closes the conflict set keeps, and what it leaves behind
--     Builds, Ends              the same of the loop with the fake orientations, which keeps the neutral rocks too
use Rattle.std.specs.Prelude.{Option, Some, None, is_some}
use Prim.Native.Nat.{ℕ, suc, ◌≤◌, ◌<◌}
use mathlib.Core.Path.{◌≡◌, refl, sym, ap, subst, ◌∙◌}
use mathlib.Core.Bool.{Bool, true, false, ◌&&◌, ◌||◌}
use mathlib.Core.Logic.{◌≢◌}
use mathlib.Core.List.{List}
use native.Mathlib.Omega.{arith}
use lib.Bits.{bit_or}
use lib.ListN.{get_or, set, length}
use lib.Dec.{eqb, ltb}
use Rattle.bools.proofs.BoolLaws.{and_right, and-false_right, and_unit}
use Rattle.sums.specs.Search.{least}
use Rattle.sums.proofs.SearchLaws.{least-none, least_cong}
use Rattle.bits.specs.Bits.{is_set}
use Rattle.rocks.specs.declared.rocks.Limits.{Limits}
use Rattle.algorithm.specs.Board.{Board, Directions}
use Rattle.algorithm.specs.Forced.{forced_orientations}
use Rattle.algorithm.specs.Explore.{conflict_set, construct}
use Rattle.arrays.specs.Arrays.{plus_of}
use Rattle.sets.specs.Sets.{lowest_of}
use Rattle.rocks.specs.RockArrays.{lowest_end, touches_at, other_at, within_at}
use Rattle.rocks.specs.BoardArrays.{rocks_of, Rocks, Directed, Seen, Rounds}
use Rattle.conflict.specs.ConflictArrays.{joins_at, fake_at, Built, Grew}
use Rattle.rock_graph.specs.Neighbours.{Incident, Neighbours}
use Rattle.forced.specs.SetArrays.{Covers, Nowhere, forces_at, Tails}
use Rattle.forced.specs.CandidateArrays.{Neutral, some_rock, bench_of, rock_of}
use Rattle.forced.proofs.AnswerLaws.{first_at, first_past}
use Rattle.forced.proofs.CandidateLaws.{Met, rock_found, rock_none, bench_near, rock_met, first_rock, candidate_below, candidate_lowest, candidate_none, rock-ends, few-rocks, few_benches, nowhere as found_nowhere}
use Rattle.forced.proofs.NeutralLaws.{WithOne, LessOne, BothOf, without_one, free-least, neutral_next}
use Rattle.conflict.proofs.ConflictRun.{Closing, closing_goes_on, closing_ends, closing_spent, Building, building_starts, building_goes_on, building_ends, building_spent, faked, fake-seen}
use Rattle.conflict.proofs.ConflictSets.{grew_none, grew_join, closed_nowhere, neutral-nowhere, Growing, growing_goes_on, fakes_more, forces-far, joins-tails, fakes_rest}

-- ── a search through the rocks of a bench ──

module _ (incident : List ℕ) (P : ℕ → ℕ → Bool) (v : ℕ) where
  pub rock_out : ((r : ℕ) → P r v ≡ false) → None ≡ rock_of incident P v
  unfolding rock_of
  rock_out none =
      let e = least-none 64 (λ r. is_set 64 (get_or incident v 0) r && P r v)
      (λ r l. and-false_right (is_set 64 (get_or incident v 0) r) (none r)) in
      first_past (λ r. is_set 64 (get_or incident v 0) r && P r v) (omega (arith, e))

  -- There is such a rock where one is found.
  pub rock_there : is_some (rock_of incident P v) ≡ some_rock incident P v
  rock_there = there (rock_of incident P v) refl
    where
      there : (found : Option ℕ) → found ≡ rock_of incident P v → is_some found ≡ some_rock incident P v
      there None e = sym (rock_none incident P v e)
      there (Some r) e = sym (rock_found incident P v r e)

module _ (n : Limits) (low high dir incident : List ℕ) (neutral : ℕ) (H : Incident n low high incident) (N : Neutral n dir neutral) (v : ℕ) (hv : v < 64) (set : ℕ)
    (both : BothOf set (get_or incident v 0) neutral) where
  fake_least : (benches : ℕ) (joined : List ℕ) → within_at benches joined v ≡ true → (r : ℕ) → r ≡ lowest_of set
      → r ≡ least 64 (λ k. is_set 64 (get_or incident v 0) k && fake_at benches dir joined k v)
  unfolding lowest_of
  fake_least benches joined p r e =
      e ∙ least_cong 64 (is_set 64 set) (λ k. is_set 64 set k && within_at benches joined v) (λ k l. sym (and_unit (is_set 64 set k) p))
      ∙ free-least n low high dir incident neutral H N v hv set both (λ k. within_at benches joined v)

  pub fake_lowest : (benches : ℕ) (joined : List ℕ) → within_at benches joined v ≡ true → (r : ℕ) → r ≡ lowest_of set → r < 64
      → Some r ≡ rock_of incident (fake_at benches dir joined) v
  unfolding rock_of
  fake_lowest benches joined p r e h =
      first_at (λ k. is_set 64 (get_or incident v 0) k && fake_at benches dir joined k v) r (fake_least benches joined p r e) h

  pub fake_none : (benches : ℕ) (joined : List ℕ) → within_at benches joined v ≡ true → (r : ℕ) → r ≡ lowest_of set → 64 ≤ r
      → None ≡ rock_of incident (fake_at benches dir joined) v
  unfolding rock_of
  fake_none benches joined p r e h =
      let same = fake_least benches joined p r e in
      first_past (λ k. is_set 64 (get_or incident v 0) k && fake_at benches dir joined k v) (omega (arith, same))

module _ (b : Board) (n : Limits) (low high weight : List ℕ) (R : Rocks b n low high weight) (few : rocks_of b ≤ 64) (incident : List ℕ) (H : Incident n low high incident) where
  rocks_fit : n.rocks ≤ 64
  rocks_fit = few-rocks b n low high weight R few

  ends : (r : ℕ) → r < n.rocks → (get_or low r 0 < n.benches) × (get_or high r 0 < n.benches)
  ends = rock-ends b n low high weight R

  narrow : n.benches ≤ 64
  narrow = few_benches b n low high weight R

  -- ── closing the conflict set ──

  pub record Closes (i : ℕ) (dirs : Directions) (xs dir first : List ℕ) (k cand grown : ℕ) (joined : List ℕ) : Type 0 where
    pub closing : Closing b n low high weight R i dirs xs k joined
    pub growing : Growing b n low high weight R dir first cand grown joined

  abbrev pub Closed : ℕ → Directions → List ℕ → List ℕ → List ℕ → List ℕ → ℕ → Type 0
  Closed i dirs xs dir first joined grown =
      Rounds b (conflict_set b.benches b i dirs xs) joined × Grew n first joined grown × Nowhere n low high (joins_at n.benches low high dir joined)

  module _ (i : ℕ) (dirs : Directions) (xs dir first : List ℕ) (hi : i ≤ b.benches) (D : Directed b dirs dir) (X : Rounds b xs first) where
    ended : {k cand grown : ℕ} {joined : List ℕ} → Closes i dirs xs dir first k cand grown joined → Rounds b (conflict_set b.benches b i dirs xs) joined
        → Closed i dirs xs dir first joined grown
    ended {k} {cand} {grown} {joined} C Y = (Y, C.growing.grew, closed_nowhere b n low high weight R i dirs xs dir joined hi D X.one_to_a_bench Y)

    pub closes_spent : {k cand grown : ℕ} {joined : List ℕ} → Closes i dirs xs dir first k cand grown joined → k ≤ 0 → Closed i dirs xs dir first joined grown
    closes_spent C none = ended C (closing_spent b n low high weight R C.closing none)

    module _ {k cand grown : ℕ} {joined : List ℕ} (C : Closes i dirs xs dir first k cand grown joined) where
      pub closes_ends : None ≡ bench_of incident (joins_at n.benches low high dir joined) cand
          → Closed i dirs xs dir first joined grown
      closes_ends past =
          let P = joins_at n.benches low high dir joined in
          let none = candidate_none n low high incident H rocks_fit ends narrow P cand C.growing.covers past in
          ended C (closing_ends b n low high weight R D C.closing n.benches none refl)

      pub closes_goes_on : (neighbours : List ℕ) → Neighbours n low high neighbours → (v k' : ℕ)
          → Some v ≡ bench_of incident (joins_at n.benches low high dir joined) cand → k ≡ suc k'
          → {joined' : List ℕ} → joined' ≡ set joined v i → (rest more grown' : ℕ)
          → ((u : ℕ) → u < 64 → is_set 64 grown' u ≡ (is_set 64 grown u || eqb u v))
          → ((u : ℕ) → u < 64 → is_set 64 rest u ≡ (is_set 64 cand u && ltb v u))
          → more ≡ get_or neighbours v 0 → Closes i dirs xs dir first k' (bit_or rest more) grown' joined'
      closes_goes_on neighbours N v k' bench turn q rest more grown' with-v above at-v =
          let P = joins_at n.benches low high dir joined in
          let lowest = candidate_lowest n low high incident H rocks_fit ends narrow P cand C.growing.covers v bench in
          let below = candidate_below n low high incident H rocks_fit ends narrow P cand C.growing.covers v bench in
          record {
            closing = closing_goes_on b n low high weight R D C.closing v lowest k' (λ s. omega arith) turn q;
            growing =
                growing_goes_on b n low high weight R few neighbours N i v C.growing C.closing.rounds.room hi lowest (omega (arith, R.benches)) q
                rest more grown' with-v above at-v;
          }

  -- ── fake orientations ──

  pub record Builds (i : ℕ) (dirs : Directions) (xs first : List ℕ) (k : ℕ) (dir loads joined : List ℕ) (cand fakes grown neutral : ℕ) : Type 0 where
    pub building : Building b n low high weight R i dirs xs k dir loads joined
    pub joining : Covers n low high (joins_at n.benches low high dir joined) cand
    pub faking : Covers n low high (fake_at n.benches dir joined) fakes
    pub quiet : Nowhere n low high (forces_at n.bound weight dir loads)
    pub grew : Grew n first joined grown
    pub free : Neutral n dir neutral

  abbrev pub Ends : ℕ → Directions → List ℕ → List ℕ → List ℕ → List ℕ → List ℕ → ℕ → ℕ → Type 0
  Ends i dirs xs first dir loads joined grown neutral =
      Built b (construct b.jobs b i dirs xs) dir loads joined × Grew n first joined grown × Nowhere n low high (joins_at n.benches low high dir joined)
      × Nowhere n low high (fake_at n.benches dir joined) × Nowhere n low high (forces_at n.bound weight dir loads) × Neutral n dir neutral

  pub builds_starts : (i : ℕ) (dirs : Directions) (xs first : List ℕ) (k : ℕ) {dir loads : List ℕ} (cand fakes none neutral : ℕ) → k ≡ n.jobs
      → Neutral n dir neutral → Covers n low high (joins_at n.benches low high dir first) cand → Covers n low high (fake_at n.benches dir first) fakes
      → Nowhere n low high (forces_at n.bound weight dir loads) → Seen b dirs dir loads → Rounds b xs first
      → Builds i dirs xs first k dir loads first cand fakes none neutral
  builds_starts i dirs xs first k cand fakes none neutral e N J F Q S X =
      record {
        building = building_starts b n low high weight R i dirs xs k S X e;
        joining = J;
        faking = F;
        quiet = Q;
        grew = grew_none n first none;
        free = N;
      }

  module _ {i : ℕ} {dirs : Directions} {xs first : List ℕ} {k : ℕ} {dir loads joined : List ℕ} {cand fakes grown neutral : ℕ}
      (B : Builds i dirs xs first k dir loads joined cand fakes grown neutral) (joined' : List ℕ) (more : ℕ)
      (C : Closed i B.building.now_dirs B.building.now_xs dir joined joined' more) where
    pub builds_spent : k ≤ 0 → Ends i dirs xs first dir loads joined' (bit_or grown more) neutral
    builds_spent none = (
      building_spent b n low high weight R B.building C.0 none,
      grew_join n first joined joined' grown more B.grew C.1,
      C.2,
      neutral-nowhere b n low high weight R B.building.now_dirs dir joined' B.building.seen.directed (omega (arith, B.building.few)),
      B.quiet,
      B.free,
    )

    abbrev P : ℕ → ℕ → Bool
    P = fake_at n.benches dir joined'

    covers : Covers n low high P (bit_or fakes more)
    covers = fakes_more b n low high weight R dir joined joined' fakes more B.faking C.1

    pub builds_ends : None ≡ bench_of incident P (bit_or fakes more) → Ends i dirs xs first dir loads joined' (bit_or grown more) neutral
    builds_ends past = (
      building_ends b n low high weight R B.building C.0 n.benches
          (candidate_none n low high incident H rocks_fit ends narrow P (bit_or fakes more) covers past) refl,
      grew_join n first joined joined' grown more B.grew C.1,
      C.2,
      found_nowhere n low high incident H rocks_fit ends narrow P (bit_or fakes more) covers past,
      B.quiet,
      B.free,
    )

    module _ (v : ℕ) (bench : Some v ≡ bench_of incident P (bit_or fakes more))
        (r u : ℕ) (rock : Some r ≡ rock_of incident P v) (at : u ≡ other_at low high r v) where
      h : v < 64
      h = bench_near incident P (bit_or fakes more) v bench

      lowest : v ≡ lowest_end n.benches n.rocks low high P
      lowest = candidate_lowest n low high incident H rocks_fit ends narrow P (bit_or fakes more) covers v bench

      below : v < n.benches
      below = candidate_below n low high incident H rocks_fit ends narrow P (bit_or fakes more) covers v bench

      is_first : r ≡ least n.rocks (λ j. touches_at low high j v && P j v)
      is_first = first_rock n low high incident H rocks_fit ends narrow P v r h rock

      met : Met n low high incident H rocks_fit ends narrow P v r
      met = rock_met n low high incident H rocks_fit ends narrow P v r h rock

      not_all : v ≢ n.benches
      not_all s = omega (arith, below)

      abbrev turned : List ℕ
      turned = set dir r (plus_of u 1)

      abbrev heavier : List ℕ
      heavier = set loads u (plus_of (get_or loads u 0) (get_or weight r 0))

      abbrev next_dirs : Directions
      next_dirs = faked b n low high weight R B.building C.0 v lowest u r not_all is_first at

      next_seen : Seen b next_dirs turned heavier
      next_seen = fake-seen b n low high weight R B.building C.0 v lowest u r not_all is_first at

      room : n.rocks ≤ length dir
      room = omega (arith, R.rocks, B.building.seen.directed.room)

      next_watch : (none watch : ℕ) → none ≡ 0 → ((w : ℕ) → w < 64 → is_set 64 watch w ≡ (is_set 64 none w || eqb w u))
          → Covers n low high (forces_at n.bound weight turned heavier) watch
      next_watch none watch z is =
          subst (λ (x : ℕ). Covers n low high (forces_at n.bound weight (set dir r (plus_of x 1)) (set loads x (plus_of (get_or loads u 0) (get_or weight r 0)))) watch) (sym at)
          (forces-far b n low high weight R dir loads joined' r v met.below met.touched room B.quiet (plus_of (get_or loads u 0) (get_or weight r 0)) watch
          (λ w l. is w l ∙ ap (λ (m : ℕ). is_set 64 m w || eqb w u) z ∙ ap (λ (x : ℕ). is_set 64 0 w || eqb w x) at))

      after_call : {dir' loads' : List ℕ} (rest fakes' tails neutral' k' : ℕ) → k ≡ suc k'
          → Seen b (forced_orientations b next_dirs) dir' loads' → Tails n low high turned dir' tails → Nowhere n low high (forces_at n.bound weight dir' loads') → Neutral n dir' neutral'
          → ((w : ℕ) → w < 64 → is_set 64 rest w ≡ (is_set 64 (bit_or fakes more) w && ltb v w)) → ((w : ℕ) → w < 64 → is_set 64 fakes' w ≡ (is_set 64 rest w || eqb w v))
          → Builds i dirs xs first k' dir' loads' joined' tails fakes' (bit_or grown more) neutral'
      after_call {dir'} {loads'} rest fakes' tails neutral' k' turn S T Q N above with-v =
          let in-v : within_at n.benches joined' v ≡ true = and_right (eqb (get_or dir r 0) 0) (within_at n.benches joined' v) met.met in
          let D : Directed b next_dirs (set dir r (plus_of (other_at low high r v) 1)) = subst (λ (x : ℕ). Directed b next_dirs (set dir r (plus_of x 1))) at next_seen.directed in
          record {
            building = building_goes_on b n low high weight R B.building C.0 v lowest u r not_all is_first at k' turn S;
            joining =
                joins-tails b n low high weight R dir loads joined' r v met.below met.touched room next_dirs dir' D S.directed in-v C.2 tails
                (subst (λ (x : ℕ). Tails n low high (set dir r (plus_of x 1)) dir' tails) at T);
            faking =
                fakes_rest b n low high weight R dir loads joined' r v met.below met.touched room next_dirs dir' D S.directed in-v lowest
                (bit_or fakes more) rest fakes' covers above with-v;
            quiet = Q;
            grew = grew_join n first joined joined' grown more B.grew C.1;
            free = N;
          }

      pub builds_goes_on : {dir₁ loads₁ dir' loads' : List ℕ} (none watch rest fakes' tails one neutral₁ neutral' k' : ℕ) → k ≡ suc k' → none ≡ 0
          → ((w : ℕ) → w < 64 → is_set 64 watch w ≡ (is_set 64 none w || eqb w u)) → dir₁ ≡ set dir r (plus_of u 1)
          → loads₁ ≡ set loads u (plus_of (get_or loads u 0) (get_or weight r 0))
          → WithOne 0 one r → LessOne neutral neutral₁ one
          → ((x : Directions) → Neutral n dir₁ neutral₁ → Covers n low high (forces_at n.bound weight dir₁ loads₁) watch → Seen b x dir₁ loads₁
          → Seen b (forced_orientations b x) dir' loads' × Tails n low high dir₁ dir' tails × Nowhere n low high (forces_at n.bound weight dir' loads')
          × Neutral n dir' neutral')
          → ((w : ℕ) → w < 64 → is_set 64 rest w ≡ (is_set 64 (bit_or fakes more) w && ltb v w)) → ((w : ℕ) → w < 64 → is_set 64 fakes' w ≡ (is_set 64 rest w || eqb w v))
          → Builds i dirs xs first k' dir' loads' joined' tails fakes' (bit_or grown more) neutral'
      builds_goes_on {dir₁} {loads₁} {dir'} {loads'} none watch rest fakes' tails one neutral₁ neutral' k' turn z is ed el single less call above with-v =
          let W : Covers n low high (forces_at n.bound weight dir₁ loads₁) watch = rw (ed, el) (next_watch none watch z is) in
          let S : Seen b next_dirs dir₁ loads₁ = rw (ed, el) next_seen in
          let N : Neutral n dir₁ neutral₁ = neutral_next n dir r u (omega (arith, met.below, room)) ed neutral neutral₁ (without_one neutral neutral₁ one r single less) B.free in
          let called = call next_dirs N W S in
          after_call rest fakes' tails neutral' k' turn called.0 (subst (λ (x : List ℕ). Tails n low high x dir' tails) ed called.1) called.2 called.3 above with-v
