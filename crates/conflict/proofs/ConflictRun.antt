-- The arrays follow the construction of the conflict set.
--     father-same, child-same       the tests of the arrays are those of the definition
--     rounds-set                    the array after a bench gets a round
--     Closing                       what the loop keeps that closes the conflict set; how it goes on, and how it ends
--     Building                      the same of the loop with the fake orientations
use Prim.Native.Nat.{ℕ, zero, suc, ◌≤◌, ◌<◌}
use mathlib.Core.Path.{◌≡◌, refl, sym, ap, ap₂, subst, ◌∙◌}
use mathlib.Core.Bool.{Bool, true, false, not, ◌&&◌}
use mathlib.Core.Logic.{inl, inr, ◌≢◌}
use mathlib.Core.List.{List}
use native.Mathlib.Omega.{arith}
use lib.ListN.{get_or, set, length-set}
use lib.Dec.{eqb, ltb}
use lib.Seq.{get_or-set_same, get_or-set_other}
use borrow.Author.Tests.{lt-ltb, le-ltb}
use Rattle.bools.proofs.BoolLaws.{and-false_right}
use Rattle.bools.proofs.OrderLaws.{eq-or-ne, lt_of_ne}
use Rattle.sums.specs.Search.{any, least}
use Rattle.sums.proofs.SearchLaws.{any_cong, any-least, least_cong, least-le, least-holds}
use Rattle.sums.proofs.CountLaws.{count-le, count_mono}
use Rattle.rocks.specs.declared.rocks.Limits.{Limits}
use Rattle.algorithm.specs.Board.{Board, Directions, touches, other, neutral, towards}
use Rattle.algorithm.specs.Forced.{direct, forced_orientations}
use Rattle.algorithm.specs.Explore.{never, within, father, joins, conflict_set, fake, Constructed, construct}
use Rattle.arrays.specs.Arrays.{plus_of}
use Rattle.rocks.specs.RockArrays.{lowest_end, touches_at, other_at, within_at, father_at, child_at}
use Rattle.rocks.specs.BoardArrays.{rocks_of, rock_at, Rocks, Directed, Seen, Rounds}
use Rattle.conflict.specs.ConflictArrays.{joins_at, fake_at, Built}
use Rattle.algorithm.proofs.BoardLaws.{other-below}
use Rattle.algorithm.proofs.RoundSteps.{fake-parts}
use Rattle.algorithm.proofs.StepLaws.{steps-neutral}
use Rattle.algorithm.proofs.TurnLaws.{neutrals, neutrals-direct}
use Rattle.algorithm.proofs.ForcedLaws.{forced_call}
use Rattle.rocks.proofs.ScanLaws.{board_lowest, board_first, rock_below}
use Rattle.rocks.proofs.BoardLaws.{other_at_lem, directs_seen, within_same}
use Rattle.arrays.proofs.NumberLaws.{plus_one}
use Rattle.sums.proofs.SearchLaws.{any-and}

pub rounds-set : (b : Board) (xs rounds : List ℕ) (v i : ℕ) → Rounds b xs rounds → Rounds b (set xs v i) (set rounds v i)
rounds-set b xs rounds v i X =
    record {
      one_to_a_bench = length-set xs v i ∙ X.one_to_a_bench;
      room = omega (arith, length-set rounds v i, X.room);
      entries = λ u h. elim (eq-or-ne u v) [
        | inl e ↦
            subst (λ (k : ℕ). get_or (set rounds v i) k 0 ≡ get_or (set xs v i) k (never b)) (sym e)
            (get_or-set_same rounds v i 0 (omega (arith, X.room)) ∙ sym (get_or-set_same xs v i (never b) (omega (arith, X.one_to_a_bench))))
        | inr ne ↦ get_or-set_other rounds v u i 0 ne ∙ X.entries u h ∙ sym (get_or-set_other xs v u i (never b) ne)
      ];
    }

-- ── the loops of the definition, turn by turn ──

set-stops : (k : ℕ) (b : Board) (i : ℕ) (dirs : Directions) (xs : List ℕ) → least b.benches (joins b dirs xs) ≡ b.benches → conflict_set k b i dirs xs ≡ xs
unfolding conflict_set
set-stops zero b i dirs xs e = refl
set-stops (suc k) b i dirs xs e =
    let p : ltb (least b.benches (joins b dirs xs)) b.benches ≡ false = le-ltb (least b.benches (joins b dirs xs)) b.benches (omega arith) in
    rw (p, conflict_set)

set-goes : (k : ℕ) (b : Board) (i : ℕ) (dirs : Directions) (xs : List ℕ) → ltb (least b.benches (joins b dirs xs)) b.benches ≡ true
    → conflict_set (suc k) b i dirs xs ≡ conflict_set k b i dirs (set xs (least b.benches (joins b dirs xs)) i)
unfolding conflict_set
set-goes k b i dirs xs p = rw (p, conflict_set)

set-turns : (k k' : ℕ) (b : Board) (i : ℕ) (dirs : Directions) (xs : List ℕ) (v : ℕ) → k ≡ suc k'
    → v ≡ least b.benches (joins b dirs xs) → v < b.benches
    → conflict_set k b i dirs xs ≡ conflict_set k' b i dirs (set xs v i)
set-turns k k' b i dirs xs v turn e h =
    ap (λ (m : ℕ). conflict_set m b i dirs xs) turn
    ∙ subst (λ (u : ℕ). conflict_set (suc k') b i dirs xs ≡ conflict_set k' b i dirs (set xs u i)) (sym e)
    (set-goes k' b i dirs xs (lt-ltb (least b.benches (joins b dirs xs)) b.benches (subst (λ (u : ℕ). u < b.benches) e h)))

abbrev closure : Board → ℕ → Directions → List ℕ → List ℕ
closure b i dirs xs = conflict_set b.benches b i dirs xs

abbrev faker : Board → Directions → List ℕ → ℕ
faker b dirs closed = least b.benches (λ v. any b.jobs (fake b dirs closed v))

construct-ends : (k : ℕ) (b : Board) (i : ℕ) (dirs : Directions) (xs : List ℕ) → faker b dirs (closure b i dirs xs) ≡ b.benches
    → construct k b i dirs xs ≡ record { dir = dirs; joined = closure b i dirs xs }
unfolding construct
construct-ends zero b i dirs xs e = refl
construct-ends (suc k) b i dirs xs e =
    let p : ltb (faker b dirs (closure b i dirs xs)) b.benches ≡ false = le-ltb (faker b dirs (closure b i dirs xs)) b.benches (omega arith) in
    rw (p, construct)

construct-none : (b : Board) (i : ℕ) (dirs : Directions) (xs : List ℕ) → construct zero b i dirs xs ≡ record { dir = dirs; joined = closure b i dirs xs }
unfolding construct
construct-none b i dirs xs = refl

construct-goes : (k : ℕ) (b : Board) (i : ℕ) (dirs : Directions) (xs : List ℕ) → ltb (faker b dirs (closure b i dirs xs)) b.benches ≡ true
    → construct (suc k) b i dirs xs
    ≡ construct k b i (forced_orientations b (direct b dirs (faker b dirs (closure b i dirs xs)) (least b.jobs (fake b dirs (closure b i dirs xs) (faker b dirs (closure b i dirs xs))))))
    (closure b i dirs xs)
unfolding construct
construct-goes k b i dirs xs p = rw (p, construct)

construct-turns : (k k' : ℕ) (b : Board) (i : ℕ) (dirs : Directions) (xs : List ℕ) (v : ℕ) → k ≡ suc k'
    → v ≡ faker b dirs (closure b i dirs xs) → v < b.benches
    → construct k b i dirs xs
    ≡ construct k' b i (forced_orientations b (direct b dirs v (least b.jobs (fake b dirs (closure b i dirs xs) v)))) (closure b i dirs xs)
construct-turns k k' b i dirs xs v turn e h =
    ap (λ (m : ℕ). construct m b i dirs xs) turn
    ∙ subst (λ (u : ℕ). construct (suc k') b i dirs xs
    ≡ construct k' b i (forced_orientations b (direct b dirs u (least b.jobs (fake b dirs (closure b i dirs xs) u)))) (closure b i dirs xs)) (sym e)
    (construct-goes k' b i dirs xs (lt-ltb (faker b dirs (closure b i dirs xs)) b.benches (subst (λ (u : ℕ). u < b.benches) e h)))

-- ── the tests, reordered ──

joins-order : (t w a c : Bool) → (t && (w && (a && c))) ≡ (w && ((t && a) && c))
joins-order true w a c = refl
joins-order false w a c = sym (and-false_right w refl)

fake-order : (t f w : Bool) → (t && (f && w)) ≡ ((w && t) && f)
fake-order true true true = refl
fake-order true true false = refl
fake-order true false true = refl
fake-order true false false = refl
fake-order false f true = refl
fake-order false f false = refl

module _ (b : Board) (n : Limits) (low high weight : List ℕ) (R : Rocks b n low high weight) where
  module _ (dirs : Directions) (dir : List ℕ) (D : Directed b dirs dir) (xs rounds : List ℕ) (X : Rounds b xs rounds) where
    -- Rock j leads from v to a bench of the set, and from a bench of the set to v; v is one of its ends.
    abbrev leaves : ℕ → ℕ → Bool
    leaves j v = towards dirs j (other b j v) && within b xs (other b j v)

    abbrev comes : ℕ → ℕ → Bool
    comes j v = towards dirs j v && within b xs (other b j v)

    pub other-within : (r v : ℕ) → r < rocks_of b → touches b (rock_at b r) v ≡ true
        → within_at n.benches rounds (other_at low high r v) ≡ within b xs (other b (rock_at b r) v)
    other-within r v h t =
        ap (λ (k : ℕ). within_at n.benches rounds k) (other_at_lem b n low high weight R r v h)
        ∙ within_same b n low high weight R xs rounds X (other b (rock_at b r) v) (other-below b R.sound (rock_at b r) v (rock_below b n low high weight R r h) t)

    pub father-same : (r v : ℕ) → r < rocks_of b → touches b (rock_at b r) v ≡ true → father_at n.benches low high dir rounds r v ≡ leaves (rock_at b r) v
    father-same r v h t =
        let far = other-below b R.sound (rock_at b r) v (rock_below b n low high weight R r h) t in
        ap₂ (λ (x y : Bool). x && y)
        (ap₂ eqb (D.entries r h)
        (ap (λ (k : ℕ). plus_of k 1) (other_at_lem b n low high weight R r v h) ∙ plus_one (other b (rock_at b r) v) (omega (arith, far, R.few_benches))))
        (other-within r v h t)

    pub child-same : (r v : ℕ) → r < rocks_of b → v < b.benches → touches b (rock_at b r) v ≡ true → child_at n.benches low high dir rounds r v ≡ comes (rock_at b r) v
    child-same r v h l t =
        ap₂ (λ (x y : Bool). x && y) (ap₂ eqb (D.entries r h) (plus_one v (omega (arith, R.few_benches)))) (other-within r v h t)

    -- ── the searches ──

    joins-same : (r v : ℕ) → r < rocks_of b → v < b.benches → touches b (rock_at b r) v ≡ true
        → joins_at n.benches low high dir rounds r v ≡ (not (within b xs v) && leaves (rock_at b r) v)
    joins-same r v h l t = ap₂ (λ (x y : Bool). x && y) (ap not (within_same b n low high weight R xs rounds X v l)) (father-same r v h t)

    pub lowest_joining : lowest_end n.benches n.rocks low high (joins_at n.benches low high dir rounds) ≡ least b.benches (joins b dirs xs)
    lowest_joining =
        board_lowest b n low high weight R (joins_at n.benches low high dir rounds) (λ j v. not (within b xs v) && leaves j v) joins-same
        ∙ least_cong b.benches (λ v. any b.jobs (λ j. touches b j v && (not (within b xs v) && leaves j v))) (joins b dirs xs)
        (λ v l.
        any_cong b.jobs (λ j. touches b j v && (not (within b xs v) && leaves j v)) (λ j. not (within b xs v) && father b dirs (within b xs) v j)
        (λ j h. joins-order (touches b j v) (not (within b xs v)) (towards dirs j (other b j v)) (within b xs (other b j v)))
        ∙ any-and b.jobs (not (within b xs v)) (father b dirs (within b xs) v))

    abbrev fakes : ℕ → ℕ → Bool
    fakes j v = neutral dirs j && within b xs v

    fake-same : (r v : ℕ) → r < rocks_of b → v < b.benches → touches b (rock_at b r) v ≡ true → fake_at n.benches dir rounds r v ≡ fakes (rock_at b r) v
    fake-same r v h l t = ap₂ (λ (x y : Bool). x && y) (ap (λ (k : ℕ). eqb k 0) (D.entries r h)) (within_same b n low high weight R xs rounds X v l)

    fakes-there : (v j : ℕ) → (touches b j v && fakes j v) ≡ fake b dirs xs v j
    fakes-there v j = fake-order (touches b j v) (neutral dirs j) (within b xs v)

    any-fake : (v : ℕ) → any b.jobs (λ j. touches b j v && fakes j v) ≡ any b.jobs (fake b dirs xs v)
    any-fake v = any_cong b.jobs (λ j. touches b j v && fakes j v) (fake b dirs xs v) (λ j h. fakes-there v j)

    pub lowest-fake : lowest_end n.benches n.rocks low high (fake_at n.benches dir rounds) ≡ faker b dirs xs
    lowest-fake =
        board_lowest b n low high weight R (fake_at n.benches dir rounds) fakes fake-same
        ∙ least_cong b.benches (λ v. any b.jobs (λ j. touches b j v && fakes j v)) (λ v. any b.jobs (fake b dirs xs v)) (λ v l. any-fake v)

    -- The bench and the rock that the searches find.
    pub record FakeStep (v r : ℕ) : Type 0 where
      pub bench_below : v < b.benches
      pub rock_below : r < rocks_of b
      pub rock_is : rock_at b r ≡ least b.jobs (fake b dirs xs v)
      pub touched : touches b (rock_at b r) v ≡ true
      pub free : neutral dirs (rock_at b r) ≡ true

    pub fake-step : (v r : ℕ) → v ≡ lowest_end n.benches n.rocks low high (fake_at n.benches dir rounds) → v ≢ n.benches
        → r ≡ least n.rocks (λ i. touches_at low high i v && fake_at n.benches dir rounds i v) → FakeStep v r
    fake-step v r e ne first =
        let some : ℕ → Bool = λ u. any b.jobs (fake b dirs xs u) in
        let at : v ≡ least b.benches some = e ∙ lowest-fake in
        let below : v < b.benches = lt_of_ne v b.benches (subst (λ (k : ℕ). k ≤ b.benches) (sym at) (least-le b.benches some)) (λ q. ne (q ∙ sym R.benches)) in
        let here : some v ≡ true =
        subst (λ (k : ℕ). some k ≡ true) (sym at) (least-holds b.benches some (subst (λ (k : ℕ). k < b.benches) at below)) in
        let rock = board_first b n low high weight R (fake_at n.benches dir rounds) fakes fake-same v below (any-fake v ∙ here) r first in
        let is : rock_at b r ≡ least b.jobs (fake b dirs xs v) =
        rock.1 ∙ least_cong b.jobs (λ j. touches b j v && fakes j v) (fake b dirs xs v) (λ j h. fakes-there v j) in
        let it : fake b dirs xs v (rock_at b r) ≡ true =
        subst (λ (k : ℕ). fake b dirs xs v k ≡ true) (sym is)
        (least-holds b.jobs (fake b dirs xs v) (any-least b.jobs (fake b dirs xs v) here)) in
        let parts = fake-parts b dirs xs v (rock_at b r) it in
        record { bench_below = below; rock_below = rock.0; rock_is = is; touched = parts.1; free = parts.2 }

  -- ── closing the conflict set ──

  pub record Closing (i : ℕ) (dirs : Directions) (xs : List ℕ) (k : ℕ) (joined : List ℕ) : Type 0 where
    pub now_xs : List ℕ
    pub rounds : Rounds b now_xs joined
    pub same : conflict_set b.benches b i dirs xs ≡ conflict_set k b i dirs now_xs

  pub closing_starts : (i : ℕ) (dirs : Directions) (xs : List ℕ) (k : ℕ) {joined : List ℕ} → Rounds b xs joined → k ≡ n.benches → Closing i dirs xs k joined
  closing_starts i dirs xs k X e = record { now_xs = xs; rounds = X; same = ap (λ (m : ℕ). conflict_set m b i dirs xs) (sym (e ∙ R.benches)) }

  pub closing_spent : {i : ℕ} {dirs : Directions} {xs : List ℕ} {k : ℕ} {joined : List ℕ} → Closing i dirs xs k joined → k ≤ 0
      → Rounds b (conflict_set b.benches b i dirs xs) joined
  unfolding conflict_set
  closing_spent {i} {dirs} {xs} {k} {joined} C none =
      let e : k ≡ 0 = omega arith in
      subst (λ (x : List ℕ). Rounds b x joined) (sym (C.same ∙ ap (λ (m : ℕ). conflict_set m b i dirs C.now_xs) e)) C.rounds

  module _ {i : ℕ} {dirs : Directions} {xs : List ℕ} {k : ℕ} {dir joined : List ℕ} (D : Directed b dirs dir) (C : Closing i dirs xs k joined) (v : ℕ)
      (e : v ≡ lowest_end n.benches n.rocks low high (joins_at n.benches low high dir joined)) where
    closing_at : v ≡ least b.benches (joins b dirs C.now_xs)
    closing_at = e ∙ lowest_joining dirs dir D C.now_xs joined C.rounds

    pub closing_ends : v ≡ n.benches → Rounds b (conflict_set b.benches b i dirs xs) joined
    closing_ends stop =
        subst (λ (x : List ℕ). Rounds b x joined) (sym (C.same ∙ set-stops k b i dirs C.now_xs (sym closing_at ∙ stop ∙ R.benches))) C.rounds

    pub closing_goes_on : (k' : ℕ) {joined' : List ℕ} → v ≢ n.benches → k ≡ suc k' → joined' ≡ set joined v i → Closing i dirs xs k' joined'
    closing_goes_on k' {joined'} ne turn q =
        let below : v < b.benches =
        lt_of_ne v b.benches (subst (λ (m : ℕ). m ≤ b.benches) (sym closing_at) (least-le b.benches (joins b dirs C.now_xs))) (λ s. ne (s ∙ sym R.benches)) in
        record {
          now_xs = set C.now_xs v i;
          rounds = subst (λ (x : List ℕ). Rounds b (set C.now_xs v i) x) (sym q) (rounds-set b C.now_xs joined v i C.rounds);
          same = C.same ∙ set-turns k k' b i dirs C.now_xs v turn closing_at below;
        }

  -- ── fake orientations ──

  pub record Building (i : ℕ) (dirs : Directions) (xs : List ℕ) (k : ℕ) (dir loads joined : List ℕ) : Type 0 where
    pub now_dirs : Directions
    pub now_xs : List ℕ
    pub seen : Seen b now_dirs dir loads
    pub rounds : Rounds b now_xs joined
    pub few : neutrals b now_dirs ≤ k
    pub same : construct b.jobs b i dirs xs ≡ construct k b i now_dirs now_xs

  pub building_starts : (i : ℕ) (dirs : Directions) (xs : List ℕ) (k : ℕ) {dir loads joined : List ℕ} → Seen b dirs dir loads → Rounds b xs joined → k ≡ n.jobs
      → Building i dirs xs k dir loads joined
  building_starts i dirs xs k S X e =
      record {
        now_dirs = dirs;
        now_xs = xs;
        seen = S;
        rounds = X;
        few = omega (arith, e, R.jobs, count-le b.jobs (neutral dirs));
        same = ap (λ (m : ℕ). construct m b i dirs xs) (sym (e ∙ R.jobs));
      }

  module _ {i : ℕ} {dirs : Directions} {xs : List ℕ} {k : ℕ} {dir loads joined : List ℕ} (B : Building i dirs xs k dir loads joined) {joined' : List ℕ}
      (X : Rounds b (conflict_set b.benches b i B.now_dirs B.now_xs) joined') where
    built : construct b.jobs b i dirs xs ≡ record { dir = B.now_dirs; joined = closure b i B.now_dirs B.now_xs }
        → Built b (construct b.jobs b i dirs xs) dir loads joined'
    built e = subst (λ (c : Constructed). Built b c dir loads joined') (sym e) (record { seen = B.seen; joined = X })

    pub building_spent : k ≤ 0 → Built b (construct b.jobs b i dirs xs) dir loads joined'
    building_spent none =
        let e : k ≡ 0 = omega arith in
        built (B.same ∙ ap (λ (m : ℕ). construct m b i B.now_dirs B.now_xs) e ∙ construct-none b i B.now_dirs B.now_xs)

    module _ (v : ℕ) (e : v ≡ lowest_end n.benches n.rocks low high (fake_at n.benches dir joined')) where
      abbrev closed : List ℕ
      closed = closure b i B.now_dirs B.now_xs

      building_at : v ≡ faker b B.now_dirs closed
      building_at = e ∙ lowest-fake B.now_dirs dir B.seen.directed closed joined' X

      pub building_ends : v ≡ n.benches → Built b (construct b.jobs b i dirs xs) dir loads joined'
      building_ends stop = built (B.same ∙ construct-ends k b i B.now_dirs B.now_xs (sym building_at ∙ stop ∙ R.benches))

      module _ (u r : ℕ) (ne : v ≢ n.benches) (first : r ≡ least n.rocks (λ j. touches_at low high j v && fake_at n.benches dir joined' j v))
          (at : u ≡ other_at low high r v) where
        step : FakeStep B.now_dirs dir B.seen.directed closed joined' X v r
        step = fake-step B.now_dirs dir B.seen.directed closed joined' X v r e ne first

        abbrev pub faked : Directions
        faked = direct b B.now_dirs v (least b.jobs (fake b B.now_dirs closed v))

        pub fake-seen : Seen b faked (set dir r (plus_of u 1)) (set loads u (plus_of (get_or loads u 0) (get_or weight r 0)))
        fake-seen =
            subst (λ (x : ℕ). Seen b faked (set dir r (plus_of x 1)) (set loads x (plus_of (get_or loads x 0) (get_or weight r 0)))) (sym at)
            (subst (λ (x : ℕ). Seen b (direct b B.now_dirs v x) (set dir r (plus_of (other_at low high r v) 1))
            (set loads (other_at low high r v) (plus_of (get_or loads (other_at low high r v) 0) (get_or weight r 0)))) step.rock_is
            (directs_seen b n low high weight R B.now_dirs r v step.rock_below step.touched dir loads B.seen step.free))

        fewer : (k' : ℕ) → k ≡ suc k' → neutrals b (forced_orientations b faked) ≤ k'
        fewer k' turn =
            let j = rock_at b r in
            let is : direct b B.now_dirs v j ≡ faked = ap (direct b B.now_dirs v) step.rock_is in
            let drops : neutrals b faked < neutrals b B.now_dirs =
            subst (λ (x : Directions). neutrals b x < neutrals b B.now_dirs) is
            (neutrals-direct b B.seen.directed.pointed v j (rock_below b n low high weight R r step.rock_below) step.free) in
            let call = forced_call b R.sound faked fake-seen.directed.pointed in
            omega (arith, B.few, drops, count_mono b.jobs (neutral (forced_orientations b faked)) (neutral faked) (λ i h q. steps-neutral b call.steps i q))

        pub building_goes_on : (k' : ℕ) {dir' loads' : List ℕ} → k ≡ suc k' → Seen b (forced_orientations b faked) dir' loads' → Building i dirs xs k' dir' loads' joined'
        building_goes_on k' turn S =
            record {
              now_dirs = forced_orientations b faked;
              now_xs = closed;
              seen = S;
              rounds = X;
              few = fewer k' turn;
              same = B.same ∙ construct-turns k k' b i B.now_dirs B.now_xs v turn building_at step.bench_below;
            }
