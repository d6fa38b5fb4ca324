-- The arrays follow FORCED ORIENTATIONS, one direction after another.
--     lowest-forcing, first-forced        the bench and the rock that the searches find are those of the definition
--     Inner, Outer                        what the two loops keep; how they go on, and how they end
use Prim.Native.Nat.{ℕ, zero, suc, ◌+◌, ◌≤◌, ◌<◌}
use mathlib.Core.Path.{◌≡◌, refl, sym, ap, subst, ◌∙◌}
use mathlib.Core.Bool.{Bool, true, false, ◌&&◌}
use mathlib.Core.Logic.{⊎_elim, ◌≢◌}
use mathlib.Core.List.{List}
use native.Mathlib.Omega.{arith}
use lib.ListN.{get_or, set, replicate}
use lib.Dec.{ltb}
use borrow.Author.Tests.{lt-ltb, le-ltb}
use Rattle.bools.proofs.BoolLaws.{split, and_intro, and_left, and_right}
use Rattle.bools.proofs.OrderLaws.{lt_of_ne}
use Rattle.sums.specs.Search.{any, least}
use Rattle.sums.proofs.SearchLaws.{any_cong, any_false, least_cong, least-le, least-holds}
use Rattle.rocks.specs.declared.rocks.Limits.{Limits}
use Rattle.algorithm.specs.Board.{Board, Directions, touches, other, neutral, load}
use Rattle.algorithm.specs.Forced.{forces, direct, forcing, marked_forcing, forced_job, nobody, inner, outer, forced_orientations}
use Rattle.arrays.specs.Arrays.{plus_of}
use Rattle.rocks.specs.RockArrays.{lowest_end, touches_at, other_at}
use Rattle.forced.specs.SetArrays.{forced_at}
use Rattle.rocks.specs.BoardArrays.{rocks_of, rock_at, Rocks, Seen}
use Rattle.algorithm.proofs.StepLaws.{forces-touches, forces-neutral}
use Rattle.algorithm.proofs.TurnLaws.{forced_job-forces, inner-stop, inner-go, outer-stop, outer-go}
use Rattle.forced.proofs.MarkLaws.{Marked, marked_none, marked-set}
use Rattle.rocks.proofs.ScanLaws.{board_lowest, board_first}
use Rattle.rocks.proofs.BoardLaws.{other_at_lem, directs_seen}

-- ── the loops of the definition, turn by turn ──

inner-stops : (k : ℕ) (b : Board) (dirs : Directions) (ms : List Bool) → least b.benches (marked_forcing b dirs ms) ≡ b.benches → inner k b dirs ms ≡ dirs
unfolding inner
inner-stops zero b dirs ms e = refl
inner-stops (suc k) b dirs ms e = inner-stop k b dirs ms (le-ltb (least b.benches (marked_forcing b dirs ms)) b.benches (omega arith))

inner-turns : (k k' : ℕ) (b : Board) (dirs : Directions) (ms : List Bool) (v : ℕ) → k ≡ suc k'
    → v ≡ least b.benches (marked_forcing b dirs ms) → v < b.benches
    → inner k b dirs ms ≡ inner k' b (direct b dirs v (forced_job b dirs v)) (set ms (other b (forced_job b dirs v) v) true)
inner-turns k k' b dirs ms v turn e h =
    ap (λ (i : ℕ). inner i b dirs ms) turn
    ∙ subst (λ (u : ℕ). inner (suc k') b dirs ms
    ≡ inner k' b (direct b dirs u (forced_job b dirs u)) (set ms (other b (forced_job b dirs u) u) true)) (sym e)
    (inner-go k' b dirs ms (lt-ltb (least b.benches (marked_forcing b dirs ms)) b.benches (subst (λ (u : ℕ). u < b.benches) e h)))

outer-stops : (k : ℕ) (b : Board) (dirs : Directions) → least b.benches (forcing b dirs) ≡ b.benches → outer k b dirs ≡ dirs
unfolding outer
outer-stops zero b dirs e = refl
outer-stops (suc k) b dirs e = outer-stop k b dirs (le-ltb (least b.benches (forcing b dirs)) b.benches (omega arith))

outer-turns : (k k' : ℕ) (b : Board) (dirs : Directions) (v : ℕ) → k ≡ suc k' → v ≡ least b.benches (forcing b dirs) → v < b.benches
    → outer k b dirs ≡ outer k' b (inner b.jobs b (direct b dirs v (forced_job b dirs v)) (set (nobody b) (other b (forced_job b dirs v) v) true))
outer-turns k k' b dirs v turn e h =
    ap (λ (i : ℕ). outer i b dirs) turn
    ∙ subst (λ (u : ℕ). outer (suc k') b dirs
    ≡ outer k' b (inner b.jobs b (direct b dirs u (forced_job b dirs u)) (set (nobody b) (other b (forced_job b dirs u) u) true))) (sym e)
    (outer-go k' b dirs (lt-ltb (least b.benches (forcing b dirs)) b.benches (subst (λ (u : ℕ). u < b.benches) e h)))

with_mark : (a b m c : Bool) → m ≡ true → (a && (b && m && c)) ≡ (a && b && c)
with_mark true true m c e = rw e
with_mark true false m c e = refl
with_mark false b m c e = refl

without_mark : (a b m c : Bool) → m ≡ false → (a && (b && m && c)) ≡ false
without_mark true true m c e = rw e
without_mark true false m c e = refl
without_mark false b m c e = refl

-- ── the searches ──

module _ (b : Board) (n : Limits) (low high weight : List ℕ) (R : Rocks b n low high weight) where
  module _ (dirs : Directions) (dir loads : List ℕ) (S : Seen b dirs dir loads) (marked : List Bool) where
    abbrev forced : ℕ → ℕ → Bool
    forced j v = neutral dirs j && get_or marked v false && ltb b.bound (load b dirs v + b.weight j)

    forced-same : (r v : ℕ) → r < rocks_of b → v < b.benches → touches b (rock_at b r) v ≡ true
        → forced_at n.bound weight dir loads marked r v ≡ forced (rock_at b r) v
    forced-same r v h l t = rw (S.directed.entries r h, S.loaded.entries v l, R.weights r h, R.bound)

    forces-marked : (v i : ℕ) → get_or marked v false ≡ true → (touches b i v && forced i v) ≡ forces b dirs v i
    forces-marked v i m = with_mark (touches b i v) (neutral dirs i) (get_or marked v false) (ltb b.bound (load b dirs v + b.weight i)) m

    marked-forcing : (v : ℕ) → v < b.benches → any b.jobs (λ i. touches b i v && forced i v) ≡ (get_or marked v false && forcing b dirs v)
    marked-forcing v l = ⊎_elim
        (λ m. any_cong b.jobs (λ i. touches b i v && forced i v) (forces b dirs v) (λ i h. forces-marked v i m) ∙ sym (ap (λ (k : Bool). k && forcing b dirs v) m))
        (λ m. any_false b.jobs (λ i. touches b i v && forced i v)
        (λ i h. without_mark (touches b i v) (neutral dirs i) (get_or marked v false) (ltb b.bound (load b dirs v + b.weight i)) m)
        ∙ sym (ap (λ (k : Bool). k && forcing b dirs v) m))
        (split (get_or marked v false))

    pub first-forced : (v : ℕ) → v < b.benches → get_or marked v false ≡ true → forcing b dirs v ≡ true
        → (r : ℕ) → r ≡ least n.rocks (λ i. touches_at low high i v && forced_at n.bound weight dir loads marked i v)
        → (r < rocks_of b) × (rock_at b r ≡ forced_job b dirs v)
    first-forced v l m f r e =
        let there = board_first b n low high weight R (forced_at n.bound weight dir loads marked) forced forced-same v l
        (marked-forcing v l ∙ and_intro m f) r e in
        (there.0, there.1 ∙ least_cong b.jobs (λ i. touches b i v && forced i v) (forces b dirs v) (λ i h. forces-marked v i m))

    pub lowest-forcing : lowest_end n.benches n.rocks low high (forced_at n.bound weight dir loads marked)
        ≡ least b.benches (λ v. get_or marked v false && forcing b dirs v)
    lowest-forcing =
        board_lowest b n low high weight R (forced_at n.bound weight dir loads marked) forced forced-same
        ∙ least_cong b.benches (λ v. any b.jobs (λ j. touches b j v && forced j v)) (λ v. get_or marked v false && forcing b dirs v) marked-forcing

    -- The bench and the rock that the searches find.
    pub record Step (v r : ℕ) : Type 0 where
      pub bench_below : v < b.benches
      pub rock_below : r < rocks_of b
      pub rock_is : rock_at b r ≡ forced_job b dirs v
      pub touched : touches b (rock_at b r) v ≡ true
      pub free : neutral dirs (rock_at b r) ≡ true

    pub forced-step : (v r : ℕ) → v ≡ lowest_end n.benches n.rocks low high (forced_at n.bound weight dir loads marked) → v ≢ n.benches
        → r ≡ least n.rocks (λ i. touches_at low high i v && forced_at n.bound weight dir loads marked i v) → Step v r
    forced-step v r e ne first =
        let at : v ≡ least b.benches (λ u. get_or marked u false && forcing b dirs u) = e ∙ lowest-forcing in
        let below : v < b.benches = lt_of_ne v b.benches (subst (λ (k : ℕ). k ≤ b.benches) (sym at) (least-le b.benches (λ u. get_or marked u false && forcing b dirs u))) (λ q. ne (q ∙ sym R.benches)) in
        let both : (get_or marked v false && forcing b dirs v) ≡ true =
        subst (λ (k : ℕ). (get_or marked k false && forcing b dirs k) ≡ true) (sym at)
        (least-holds b.benches (λ u. get_or marked u false && forcing b dirs u) (subst (λ (k : ℕ). k < b.benches) at below)) in
        let m = and_left (get_or marked v false) (forcing b dirs v) both in
        let f = and_right (get_or marked v false) (forcing b dirs v) both in
        let rock = first-forced v below m f r first in
        let forces-it : forces b dirs v (rock_at b r) ≡ true = rw rock.1 (forced_job-forces b dirs v f) in
        record {
          bench_below = below;
          rock_below = rock.0;
          rock_is = rock.1;
          touched = forces-touches b dirs v (rock_at b r) forces-it;
          free = forces-neutral b dirs v (rock_at b r) forces-it;
        }

  -- ── the inner loop ──

  pub record Inner (dirs : Directions) (ms : List Bool) (k : ℕ) (dir loads : List ℕ) (marked : List Bool) : Type 0 where
    pub now_dirs : Directions
    pub now_marks : List Bool
    pub seen : Seen b now_dirs dir loads
    pub marks : Marked b now_marks marked
    pub same : inner b.jobs b dirs ms ≡ inner k b now_dirs now_marks

  module _ {dirs : Directions} {ms : List Bool} {k : ℕ} {dir loads : List ℕ} {marked : List Bool} (I : Inner dirs ms k dir loads marked) (v : ℕ)
      (e : v ≡ lowest_end n.benches n.rocks low high (forced_at n.bound weight dir loads marked)) where
    inner-at : v ≡ least b.benches (marked_forcing b I.now_dirs I.now_marks)
    inner-at = e ∙ lowest-forcing I.now_dirs dir loads I.seen marked
        ∙ least_cong b.benches (λ u. get_or marked u false && forcing b I.now_dirs u) (marked_forcing b I.now_dirs I.now_marks)
        (λ u l. ap (λ (x : Bool). x && forcing b I.now_dirs u) (I.marks.entries u l))

    pub inner-ends : v ≡ n.benches → Seen b (inner b.jobs b dirs ms) dir loads
    inner-ends stop = subst (λ (x : Directions). Seen b x dir loads) (sym (I.same ∙ inner-stops k b I.now_dirs I.now_marks (sym inner-at ∙ stop ∙ R.benches))) I.seen

    pub inner-goes_on : (u r k' : ℕ) → v ≢ n.benches → k ≡ suc k'
        → r ≡ least n.rocks (λ i. touches_at low high i v && forced_at n.bound weight dir loads marked i v) → u ≡ other_at low high r v
        → Inner dirs ms k' (set dir r (plus_of u 1)) (set loads u (plus_of (get_or loads u 0) (get_or weight r 0))) (set marked u true)
    inner-goes_on u r k' ne turn first at =
        let step = forced-step I.now_dirs dir loads I.seen marked v r e ne first in
        let j = forced_job b I.now_dirs v in
        let far : u ≡ other b j v = at ∙ other_at_lem b n low high weight R r v step.rock_below ∙ ap (λ (x : ℕ). other b x v) step.rock_is in
        record {
          now_dirs = direct b I.now_dirs v j;
          now_marks = set I.now_marks (other b j v) true;
          seen =
              subst (λ (x : ℕ). Seen b (direct b I.now_dirs v j) (set dir r (plus_of x 1)) (set loads x (plus_of (get_or loads x 0) (get_or weight r 0)))) (sym at)
              (subst (λ (x : ℕ). Seen b (direct b I.now_dirs v x) (set dir r (plus_of (other_at low high r v) 1))
              (set loads (other_at low high r v) (plus_of (get_or loads (other_at low high r v) 0) (get_or weight r 0)))) step.rock_is
              (directs_seen b n low high weight R I.now_dirs r v step.rock_below step.touched dir loads I.seen step.free));
          marks = subst (λ (x : ℕ). Marked b (set I.now_marks x true) (set marked u true)) far (marked-set b I.now_marks marked u I.marks);
          same = I.same ∙ inner-turns k k' b I.now_dirs I.now_marks v turn inner-at step.bench_below;
        }

    pub inner-next : (u r k' : ℕ) {dir' loads' : List ℕ} {marked' : List Bool} → v ≢ n.benches → k ≡ suc k'
        → r ≡ least n.rocks (λ i. touches_at low high i v && forced_at n.bound weight dir loads marked i v) → u ≡ other_at low high r v
        → dir' ≡ set dir r (plus_of u 1) → loads' ≡ set loads u (plus_of (get_or loads u 0) (get_or weight r 0)) → marked' ≡ set marked u true
        → Inner dirs ms k' dir' loads' marked'
    inner-next u r k' ne turn first at d l m = rw (d, l, m) (inner-goes_on u r k' ne turn first at)

  pub inner-starts : (dirs : Directions) (first k : ℕ) {dir loads : List ℕ} {marked : List Bool} → Seen b dirs dir loads
      → marked ≡ set (replicate 64 false) first true → k ≡ n.jobs → Inner dirs (set (nobody b) first true) k dir loads marked
  inner-starts dirs first k S m e =
      record {
        now_dirs = dirs;
        now_marks = set (nobody b) first true;
        seen = S;
        marks = rw m (marked-set b (nobody b) (replicate 64 false) first (marked_none b 64 R.few_benches));
        same = ap (λ (i : ℕ). inner i b dirs (set (nobody b) first true)) (sym (e ∙ R.jobs));
      }

  pub inner-spent : {dirs : Directions} {ms : List Bool} {k : ℕ} {dir loads : List ℕ} {marked : List Bool} → Inner dirs ms k dir loads marked → k ≤ 0
      → Seen b (inner b.jobs b dirs ms) dir loads
  unfolding inner
  inner-spent {dirs} {ms} {k} {dir} {loads} I none =
      let e : k ≡ 0 = omega arith in
      subst (λ (x : Directions). Seen b x dir loads) (sym (I.same ∙ ap (λ (i : ℕ). inner i b I.now_dirs I.now_marks) e)) I.seen

  -- ── the outer loop ──

  pub record Outer (dirs : Directions) (k : ℕ) (dir loads : List ℕ) : Type 0 where
    pub now_dirs : Directions
    pub seen : Seen b now_dirs dir loads
    pub same : forced_orientations b dirs ≡ outer k b now_dirs

  module _ {dirs : Directions} {k : ℕ} {dir loads : List ℕ} (O : Outer dirs k dir loads) (v : ℕ) (marked : List Bool)
      (everywhere : (u : ℕ) → u < b.benches → get_or marked u false ≡ true)
      (e : v ≡ lowest_end n.benches n.rocks low high (forced_at n.bound weight dir loads marked)) where
    outer-at : v ≡ least b.benches (forcing b O.now_dirs)
    outer-at = e ∙ lowest-forcing O.now_dirs dir loads O.seen marked
        ∙ least_cong b.benches (λ u. get_or marked u false && forcing b O.now_dirs u) (forcing b O.now_dirs)
        (λ u l. ap (λ (x : Bool). x && forcing b O.now_dirs u) (everywhere u l))

    pub outer-ends : v ≡ n.benches → Seen b (forced_orientations b dirs) dir loads
    outer-ends stop = subst (λ (x : Directions). Seen b x dir loads) (sym (O.same ∙ outer-stops k b O.now_dirs (sym outer-at ∙ stop ∙ R.benches))) O.seen

    pub outer-goes_on : (u r k' : ℕ) (dir' loads' : List ℕ) → v ≢ n.benches → k ≡ suc k'
        → r ≡ least n.rocks (λ i. touches_at low high i v && forced_at n.bound weight dir loads marked i v) → u ≡ other_at low high r v
        → ((x : Directions) → Seen b x (set dir r (plus_of u 1)) (set loads u (plus_of (get_or loads u 0) (get_or weight r 0)))
        → Seen b (inner b.jobs b x (set (nobody b) u true)) dir' loads')
        → Outer dirs k' dir' loads'
    outer-goes_on u r k' dir' loads' ne turn first at call =
        let step = forced-step O.now_dirs dir loads O.seen marked v r e ne first in
        let j = forced_job b O.now_dirs v in
        let far : u ≡ other b j v = at ∙ other_at_lem b n low high weight R r v step.rock_below ∙ ap (λ (x : ℕ). other b x v) step.rock_is in
        record {
          now_dirs = inner b.jobs b (direct b O.now_dirs v j) (set (nobody b) (other b j v) true);
          seen =
              subst (λ (x : ℕ). Seen b (inner b.jobs b (direct b O.now_dirs v j) (set (nobody b) x true)) dir' loads') far
              (call (direct b O.now_dirs v j)
              (subst (λ (x : ℕ). Seen b (direct b O.now_dirs v j) (set dir r (plus_of x 1)) (set loads x (plus_of (get_or loads x 0) (get_or weight r 0)))) (sym at)
              (subst (λ (x : ℕ). Seen b (direct b O.now_dirs v x) (set dir r (plus_of (other_at low high r v) 1))
              (set loads (other_at low high r v) (plus_of (get_or loads (other_at low high r v) 0) (get_or weight r 0)))) step.rock_is
              (directs_seen b n low high weight R O.now_dirs r v step.rock_below step.touched dir loads O.seen step.free))));
          same = O.same ∙ outer-turns k k' b O.now_dirs v turn outer-at step.bench_below;
        }

  pub outer-starts : (dirs : Directions) (k : ℕ) {dir loads : List ℕ} → Seen b dirs dir loads → k ≡ n.jobs → Outer dirs k dir loads
  outer-starts dirs k S e = record { now_dirs = dirs; seen = S; same = ap (λ (i : ℕ). outer i b dirs) (sym (e ∙ R.jobs)) }

  pub outer-spent : {dirs : Directions} {k : ℕ} {dir loads : List ℕ} → Outer dirs k dir loads → k ≤ 0 → Seen b (forced_orientations b dirs) dir loads
  unfolding outer
  outer-spent {dirs} {k} {dir} {loads} O none =
      let e : k ≡ 0 = omega arith in
      subst (λ (x : Directions). Seen b x dir loads) (sym (O.same ∙ ap (λ (i : ℕ). outer i b O.now_dirs) e)) O.seen
