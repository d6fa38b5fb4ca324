-- The arrays follow the rule for the rocks that stay neutral, one direction after another.
--     marks_none, marks_more          no bench is marked; one bench more
--     lowest-neutral, neutral-step    the bench and the rock that the searches find are those of the definition
--     Following                       what the loop of follow keeps; how it goes on, and how it ends
--     linked-board, system-shown      the benches that the arrays link are those of the board, and so is what spreads
--     system-rocks, system-size, system-first     the rocks and benches in the set of a system are those of the system
--     settle-tree, settle-cycle       a system that is a tree, and one that is not
--     Settles                         what the loop of settle keeps; how it goes on, and how it ends
use Prim.Native.Nat.{ℕ, zero, suc, ◌+◌, ◌≤◌, ◌<◌}
use mathlib.Core.Path.{◌≡◌, refl, sym, ap, ap₂, subst, ◌∙◌}
use mathlib.Core.Bool.{Bool, true, false, cond, ◌&&◌, ◌||◌}
use mathlib.Core.Logic.{inl, inr, ⊎_elim, ◌≢◌}
use mathlib.Core.List.{List}
use native.Mathlib.Omega.{arith}
use lib.ListN.{get_or, set, length-set, length-replicate, get_or-replicate}
use lib.Seq.{get_or-set_same, get_or-set_other}
use lib.Dec.{eqb, ltb}
use borrow.Author.Tests.{eq-eqb, ne_eqb, lt-ltb, le-ltb, ltb-true, ltb-false}
use Rattle.std.specs.Prelude.{Option, Some, None}
use Rattle.std.specs.Bool.{then_some}
use Rattle.std.proofs.lemmas.Option.{none-some, same_Some}
use Rattle.bools.proofs.BoolLaws.{split, and_intro, and_right, or_left, or_right, or_unit}
use Rattle.bools.proofs.OrderLaws.{eq-or-ne}
use Rattle.sums.specs.Sum.{count}
use Rattle.sums.specs.Search.{any, least}
use Rattle.sums.proofs.SearchLaws.{any_cong, any_false, any_intro, any-least, least_cong, least-le, least-holds}
use Rattle.sums.proofs.CountLaws.{count_cong, count-pos, count-pos_elim}
use Rattle.sums.proofs.MembersLaws.{any-members, count-members, least-members-found}
use Rattle.bits.specs.Bits.{is_set}
use Rattle.bits.proofs.SetBits.{is_set-zero}
use Rattle.closure.specs.Closure.{closure}
use Rattle.closure.proofs.ClosureLaws.{reach_refl}
use Rattle.sets.specs.Sets.{choices_of}
use Rattle.sets.proofs.SetLaws.{choices_below}
use Rattle.rocks.specs.declared.rocks.Limits.{Limits}
use Rattle.algorithm.specs.Board.{Board, Directions, touches, other, neutral}
use Rattle.algorithm.specs.Forced.{direct, nobody}
use Rattle.algorithm.specs.Settle.{neutral_at, linked, system, system_rock, is_tree, follow, settle_system, settle_from, settle}
use Rattle.arrays.specs.Arrays.{plus_of}
use Rattle.rocks.specs.RockArrays.{first, lowest_end, touches_at, other_at}
use Rattle.rocks.specs.BoardArrays.{rocks_of, rock_at, Rocks, Directed}
use Rattle.rocks.specs.declared.balancing.Balance.{Balance}
use Rattle.rocks.specs.declared.balancing.Balance.TheVariants.{Tree, OneCycle, Crowded}
use Rattle.rocks.specs.SpreadArrays.{neutral_rock, inside_at, links_at, linked_at, balance_of, Within, Shows}
use Rattle.settle.specs.SettleArrays.{follows_at, ShowsMarks}
use Rattle.algorithm.proofs.FollowLaws.{neutral_at-touches}
use Rattle.rocks.proofs.FirstLaws.{first-some, first-none}
use Rattle.rocks.proofs.SpreadRun.{shows_entry, reach-shown}
use Rattle.rocks.proofs.ScanLaws.{and_assoc, board_lowest, board_first, rock_holds, low_below, high_below}
use Rattle.rocks.proofs.BoardLaws.{other_at_lem, directs_directed}

mark_yes : (a b m : Bool) → m ≡ true → (a && (b && m)) ≡ (a && b)
mark_yes true true m e = e
mark_yes true false m e = refl
mark_yes false b m e = refl

mark_no : (a b m : Bool) → m ≡ false → (a && (b && m)) ≡ false
mark_no true true m e = e
mark_no true false m e = refl
mark_no false b m e = refl

regroup : (a b c d : Bool) → (((a && b) && c) && d) ≡ (a && ((b && c) && d))
regroup true b c d = refl
regroup false b c d = refl

balance_tree : (x y : ℕ) → balance_of x y ≡ Tree → ltb x y ≡ true
balance_tree x y e = elim (split (ltb x y)) [
  | inl p ↦ p
  | inr p ↦ elim (split (eqb x y)) [
    | inl q ↦ let z : OneCycle ≡ Tree = rw (p, q) at e in absurd (cc)
    | inr q ↦ let z : Crowded ≡ Tree = rw (p, q) at e in absurd (cc)
  ]
]

balance_cycle : (x y : ℕ) → balance_of x y ≢ Tree → ltb x y ≡ false
balance_cycle x y ne = elim (split (ltb x y)) [ inl p ↦ absurd (ne (rw p)) | inr p ↦ p ]

-- ── a number below n, or none ──

module _ (n i : ℕ) {r : Option ℕ} (e : r ≡ then_some (ltb i n) i) where
  below-some : {v : ℕ} → r ≡ Some v → (v ≡ i) × (v < n)
  below-some {v} found = elim (split (ltb i n)) [
    | inl p ↦
        let same : v ≡ i = same_Some v i (sym found ∙ e ∙ ap (λ (x : Bool). then_some x i) p) in
        (same, omega (arith, same, ltb-true i n p))
    | inr p ↦ absurd (none-some v (sym (sym found ∙ e ∙ ap (λ (x : Bool). then_some x i) p)))
  ]

  below-none : r ≡ None → n ≤ i
  below-none none = elim (split (ltb i n)) [
    | inl p ↦ absurd (none-some i (sym none ∙ e ∙ ap (λ (x : Bool). then_some x i) p))
    | inr p ↦ ltb-false i n p
  ]

-- ── marks as a set ──

pub marks_none : (b : Board) → ShowsMarks b (nobody b) 0
marks_none b =
    record {
      one_to_a_bench = length-replicate b.benches false;
      entries = λ v h. is_set-zero 64 v ∙ sym (get_or-replicate b.benches v false false h);
    }

pub marks_more : (b : Board) (ms : List Bool) (marked u next : ℕ) → b.benches ≤ 64 → ShowsMarks b ms marked
    → ((w : ℕ) → w < 64 → is_set 64 next w ≡ (is_set 64 marked w || eqb w u)) → ShowsMarks b (set ms u true) next
marks_more b ms marked u next few M step =
    record {
      one_to_a_bench = length-set ms u true ∙ M.one_to_a_bench;
      entries = λ v h. step v (omega arith) ∙ elim (eq-or-ne v u) [
        | inl e ↦
            or_right (is_set 64 marked v) (eq-eqb v u e)
            ∙ sym (ap (λ (k : ℕ). get_or (set ms u true) k false) e ∙ get_or-set_same ms u true false (omega (arith, M.one_to_a_bench)))
        | inr ne ↦ or_unit (is_set 64 marked v) (ne_eqb v u ne) ∙ M.entries v h ∙ sym (get_or-set_other ms u v true false ne)
      ];
    }

-- ── the loops of the definitions, turn by turn ──

abbrev marked_bench : Board → Directions → List Bool → ℕ
marked_bench b dirs ms = least b.benches (λ v. get_or ms v false && any b.jobs (neutral_at b dirs v))

abbrev neutral_bench : Board → Directions → ℕ
neutral_bench b dirs = least b.benches (λ v. any b.jobs (neutral_at b dirs v))

abbrev neutral_job : Board → Directions → ℕ → ℕ
neutral_job b dirs v = least b.jobs (neutral_at b dirs v)

follow-stop : (k : ℕ) (b : Board) (dirs : Directions) (ms : List Bool) → ltb (marked_bench b dirs ms) b.benches ≡ false → follow (suc k) b dirs ms ≡ dirs
unfolding follow
follow-stop k b dirs ms e = cc

follow-go : (k : ℕ) (b : Board) (dirs : Directions) (ms : List Bool) → ltb (marked_bench b dirs ms) b.benches ≡ true
    → follow (suc k) b dirs ms
    ≡ follow k b (direct b dirs (marked_bench b dirs ms) (neutral_job b dirs (marked_bench b dirs ms)))
    (set ms (other b (neutral_job b dirs (marked_bench b dirs ms)) (marked_bench b dirs ms)) true)
unfolding follow
follow-go k b dirs ms e = cc

follow-stops : (k : ℕ) (b : Board) (dirs : Directions) (ms : List Bool) → marked_bench b dirs ms ≡ b.benches → follow k b dirs ms ≡ dirs
unfolding follow
follow-stops zero b dirs ms e = refl
follow-stops (suc k) b dirs ms e = follow-stop k b dirs ms (le-ltb (marked_bench b dirs ms) b.benches (omega arith))

follow-turns : (k l : ℕ) (b : Board) (dirs : Directions) (ms : List Bool) (v : ℕ) → k ≡ l + 1 → v ≡ marked_bench b dirs ms
    → v < b.benches → follow k b dirs ms ≡ follow l b (direct b dirs v (neutral_job b dirs v)) (set ms (other b (neutral_job b dirs v) v) true)
follow-turns k l b dirs ms v more e h =
    let turns : k ≡ suc l = omega arith in
    subst (λ (u : ℕ). follow k b dirs ms ≡ follow l b (direct b dirs u (neutral_job b dirs u)) (set ms (other b (neutral_job b dirs u) u) true)) (sym e)
    (ap (λ (i : ℕ). follow i b dirs ms) turns
    ∙ follow-go l b dirs ms (lt-ltb (marked_bench b dirs ms) b.benches (subst (λ (u : ℕ). u < b.benches) e h)))

settle-stop : (k : ℕ) (b : Board) (dirs : Directions) → ltb (neutral_bench b dirs) b.benches ≡ false → settle_from (suc k) b dirs ≡ dirs
unfolding settle_from
settle-stop k b dirs e = cc

settle-go : (k : ℕ) (b : Board) (dirs : Directions) → ltb (neutral_bench b dirs) b.benches ≡ true
    → settle_from (suc k) b dirs ≡ settle_from k b (settle_system b dirs (neutral_bench b dirs))
unfolding settle_from
settle-go k b dirs e = cc

settle-stops : (k : ℕ) (b : Board) (dirs : Directions) → neutral_bench b dirs ≡ b.benches → settle_from k b dirs ≡ dirs
unfolding settle_from
settle-stops zero b dirs e = refl
settle-stops (suc k) b dirs e = settle-stop k b dirs (le-ltb (neutral_bench b dirs) b.benches (omega arith))

settle-turns : (k l : ℕ) (b : Board) (dirs : Directions) (v : ℕ) → k ≡ l + 1 → v ≡ neutral_bench b dirs → v < b.benches
    → settle_from k b dirs ≡ settle_from l b (settle_system b dirs v)
settle-turns k l b dirs v more e h =
    let turns : k ≡ suc l = omega arith in
    subst (λ (u : ℕ). settle_from k b dirs ≡ settle_from l b (settle_system b dirs u)) (sym e)
    (ap (λ (i : ℕ). settle_from i b dirs) turns
    ∙ settle-go l b dirs (lt-ltb (neutral_bench b dirs) b.benches (subst (λ (u : ℕ). u < b.benches) e h)))

module _ (b : Board) (n : Limits) (low high weight : List ℕ) (R : Rocks b n low high weight) where
  -- ── the searches ──

  module _ (dirs : Directions) (dir : List ℕ) (D : Directed b dirs dir) where
    neutral-same : (r : ℕ) → r < rocks_of b → neutral_rock dir r ≡ neutral dirs (rock_at b r)
    neutral-same r h = ap (λ (k : ℕ). eqb k 0) (D.entries r h)

    module _ (S : ℕ → Bool) where
      marked-any : (v : ℕ) → any b.jobs (λ j. touches b j v && (neutral dirs j && S v)) ≡ (S v && any b.jobs (neutral_at b dirs v))
      marked-any v = ⊎_elim
          (λ m. any_cong b.jobs (λ j. touches b j v && (neutral dirs j && S v)) (neutral_at b dirs v)
          (λ j h. mark_yes (touches b j v) (neutral dirs j) (S v) m) ∙ sym (ap (λ (k : Bool). k && any b.jobs (neutral_at b dirs v)) m))
          (λ m. any_false b.jobs (λ j. touches b j v && (neutral dirs j && S v))
          (λ j h. mark_no (touches b j v) (neutral dirs j) (S v) m) ∙ sym (ap (λ (k : Bool). k && any b.jobs (neutral_at b dirs v)) m))
          (split (S v))

      pub lowest-neutral : lowest_end n.benches n.rocks low high (follows_at dir S) ≡ least b.benches (λ v. S v && any b.jobs (neutral_at b dirs v))
      lowest-neutral =
          board_lowest b n low high weight R (follows_at dir S) (λ j v. neutral dirs j && S v)
          (λ r v h l t. ap (λ (x : Bool). x && S v) (neutral-same r h))
          ∙ least_cong b.benches (λ v. any b.jobs (λ j. touches b j v && (neutral dirs j && S v)))
          (λ v. S v && any b.jobs (neutral_at b dirs v)) (λ v l. marked-any v)

      lowest-at-most : lowest_end n.benches n.rocks low high (follows_at dir S) ≤ n.benches
      lowest-at-most = omega (arith, lowest-neutral, least-le b.benches (λ v. S v && any b.jobs (neutral_at b dirs v)), R.benches)

      -- The bench and the rock that the searches find.
      pub record Step (v r : ℕ) : Type 0 where
        pub bench_below : v < b.benches
        pub rock_below : r < rocks_of b
        pub rock_is : rock_at b r ≡ neutral_job b dirs v
        pub touched : touches b (rock_at b r) v ≡ true

      neutral-step : (v r : ℕ) → v ≡ lowest_end n.benches n.rocks low high (follows_at dir S) → v < n.benches
          → r ≡ least n.rocks (λ i. touches_at low high i v && neutral_rock dir i) → Step v r
      neutral-step v r e found first =
          let at : v ≡ least b.benches (λ u. S u && any b.jobs (neutral_at b dirs u)) = e ∙ lowest-neutral in
          let below : v < b.benches = omega (arith, R.benches) in
          let both : (S v && any b.jobs (neutral_at b dirs v)) ≡ true =
          subst (λ (k : ℕ). (S k && any b.jobs (neutral_at b dirs k)) ≡ true) (sym at)
          (least-holds b.benches (λ u. S u && any b.jobs (neutral_at b dirs u)) (subst (λ (k : ℕ). k < b.benches) at below)) in
          let some = and_right (S v) (any b.jobs (neutral_at b dirs v)) both in
          let rock = board_first b n low high weight R (λ i u. neutral_rock dir i) (λ j u. neutral dirs j) (λ i u h l t. neutral-same i h) v below some r first in
          let here : neutral_at b dirs v (rock_at b r) ≡ true =
          subst (λ (j : ℕ). neutral_at b dirs v j ≡ true) (sym rock.1) (least-holds b.jobs (neutral_at b dirs v) (any-least b.jobs (neutral_at b dirs v) some)) in
          record { bench_below = below; rock_below = rock.0; rock_is = rock.1; touched = neutral_at-touches b dirs v (rock_at b r) here }

  -- ── the loop of follow ──

  -- The arrays show directions and marks from which the rest of follow gives what it gives from the start.
  pub record Following (dirs : Directions) (ms : List Bool) (k : ℕ) (dir : List ℕ) (marked : ℕ) : Type 0 where
    pub now_dirs : Directions
    pub now_marks : List Bool
    pub directed : Directed b now_dirs dir
    pub marks : ShowsMarks b now_marks marked
    pub same : follow b.jobs b dirs ms ≡ follow k b now_dirs now_marks

  module _ {dirs : Directions} {ms : List Bool} {k : ℕ} {dir : List ℕ} {marked : ℕ} (I : Following dirs ms k dir marked) where
    abbrev lowest_marked : ℕ
    lowest_marked = lowest_end n.benches n.rocks low high (follows_at dir (is_set 64 marked))

    follow-at : lowest_marked ≡ marked_bench b I.now_dirs I.now_marks
    follow-at = lowest-neutral I.now_dirs dir I.directed (is_set 64 marked)
        ∙ least_cong b.benches (λ u. is_set 64 marked u && any b.jobs (neutral_at b I.now_dirs u))
        (λ u. get_or I.now_marks u false && any b.jobs (neutral_at b I.now_dirs u))
        (λ u l. ap (λ (x : Bool). x && any b.jobs (neutral_at b I.now_dirs u)) (I.marks.entries u l))

    pub follow-ends : {o : Option ℕ} → o ≡ then_some (ltb lowest_marked n.benches) lowest_marked → o ≡ None
        → Directed b (follow b.jobs b dirs ms) dir
    follow-ends e none =
        let far = below-none n.benches lowest_marked e none in
        let stop : marked_bench b I.now_dirs I.now_marks ≡ b.benches =
        omega (arith, far, follow-at, R.benches, lowest-at-most I.now_dirs dir I.directed (is_set 64 marked)) in
        subst (λ (x : Directions). Directed b x dir) (sym (I.same ∙ follow-stops k b I.now_dirs I.now_marks stop)) I.directed

    module _ {o : Option ℕ} {v : ℕ} (e : o ≡ then_some (ltb lowest_marked n.benches) lowest_marked) (some : o ≡ Some v) where
      abbrev neutral_here : ℕ → Bool
      neutral_here i = touches_at low high i v && neutral_rock dir i

      next_step : (r : ℕ) → r ≡ least n.rocks neutral_here → Step I.now_dirs dir I.directed (is_set 64 marked) v r
      next_step r first =
          let at = below-some n.benches lowest_marked e some in
          neutral-step I.now_dirs dir I.directed (is_set 64 marked) v r at.0 at.1 first

      pub some_rock : {q : Option ℕ} → q ≡ first n.rocks neutral_here → q ≡ None → ⊥
      some_rock is none =
          omega (arith, (next_step (least n.rocks neutral_here) refl).rock_below, R.rocks, first-none n.rocks neutral_here is none)

      pub follow-next : {q : Option ℕ} {u r next l : ℕ} {dir' : List ℕ} → k ≡ l + 1 → q ≡ first n.rocks neutral_here → q ≡ Some r
          → u ≡ other_at low high r v → dir' ≡ set dir r (plus_of u 1)
          → ((w : ℕ) → w < 64 → is_set 64 next w ≡ (is_set 64 marked w || eqb w u)) → Following dirs ms l dir' next
      follow-next {q} {u} {r} {next} {l} {dir'} more is rock at d m =
          let step = next_step r (first-some n.rocks neutral_here is rock).0 in
          let j = neutral_job b I.now_dirs v in
          let far : u ≡ other b j v = at ∙ other_at_lem b n low high weight R r v step.rock_below ∙ ap (λ (x : ℕ). other b x v) step.rock_is in
          record {
            now_dirs = direct b I.now_dirs v j;
            now_marks = set I.now_marks (other b j v) true;
            directed =
                subst (λ (x : List ℕ). Directed b (direct b I.now_dirs v j) x) (sym (d ∙ ap (λ (x : ℕ). set dir r (plus_of x 1)) at))
                (subst (λ (x : ℕ). Directed b (direct b I.now_dirs v x) (set dir r (plus_of (other_at low high r v) 1))) step.rock_is
                (directs_directed b n low high weight R I.now_dirs r v step.rock_below step.touched dir I.directed));
            marks = subst (λ (x : ℕ). ShowsMarks b (set I.now_marks x true) next) far (marks_more b I.now_marks marked u next R.few_benches I.marks m);
            same = I.same ∙ follow-turns k l b I.now_dirs I.now_marks v more ((below-some n.benches lowest_marked e some).0 ∙ follow-at) step.bench_below;
          }

  pub follow-starts : (dirs : Directions) (ms : List Bool) (k : ℕ) {dir : List ℕ} {marked : ℕ} → Directed b dirs dir → ShowsMarks b ms marked → k ≡ n.jobs
      → Following dirs ms k dir marked
  follow-starts dirs ms k D M e =
      record { now_dirs = dirs; now_marks = ms; directed = D; marks = M; same = ap (λ (i : ℕ). follow i b dirs ms) (sym (e ∙ R.jobs)) }

  pub follow-spent : {dirs : Directions} {ms : List Bool} {k : ℕ} {dir : List ℕ} {marked : ℕ} → Following dirs ms k dir marked → k ≤ 0
      → Directed b (follow b.jobs b dirs ms) dir
  unfolding follow
  follow-spent {dirs} {ms} {k} {dir} I none =
      let e : k ≡ 0 = omega arith in
      subst (λ (x : Directions). Directed b x dir) (sym (I.same ∙ ap (λ (i : ℕ). follow i b I.now_dirs I.now_marks) e)) I.directed

  -- ── what the arrays link ──

  pub within-board : Within n.benches n.rocks low high
  within-board r h =
      let l : r < rocks_of b = omega (arith, R.rocks) in
      (omega (arith, low_below b n low high weight R r l, R.benches), omega (arith, high_below b n low high weight R r l, R.benches))

  module _ (dirs : Directions) (dir : List ℕ) (D : Directed b dirs dir) where
    abbrev links : ℕ → ℕ → ℕ → Bool
    links u v j = (eqb u (b.low j) || eqb u (b.high j)) && neutral dirs j && eqb v (other b j u)

    links-same : (u v r : ℕ) → r < rocks_of b → links_at low high dir u v r ≡ links u v (rock_at b r)
    links-same u v r h = rw (R.lows r h, R.highs r h, D.entries r h)

    pub linked-board : (u v : ℕ) → linked_at n.rocks low high dir u v ≡ linked b dirs u v
    linked-board u v =
        ap (λ (k : ℕ). any k (links_at low high dir u v)) R.rocks
        ∙ any_cong (rocks_of b) (links_at low high dir u v) (λ r. links u v (rock_at b r)) (links-same u v)
        ∙ sym (any-members b.jobs b.rock (links u v) 0)
        ∙ any_cong b.jobs (λ j. b.rock j && links u v j) (λ j. neutral_at b dirs u j && eqb v (other b j u))
        (λ j h. sym (regroup (b.rock j) (eqb u (b.low j) || eqb u (b.high j)) (neutral dirs j) (eqb v (other b j u))))

    -- ── a system ──

    -- What spreads from one bench is its system.
    pub system-shown : (v one set : ℕ) → v < b.benches → ((w : ℕ) → w < 64 → is_set 64 one w ≡ (is_set 64 0 w || eqb w v))
        → ((T : ℕ → Bool) → Within n.benches n.rocks low high → Shows n.benches T one
        → Shows n.benches (closure n.benches (linked_at n.rocks low high dir) T) set)
        → Shows b.benches (system b dirs v) set
    system-shown =
        reach-shown n.benches b.benches n.rocks low high dir (linked b dirs) R.benches R.few_benches within-board (λ u v hu hv. linked-board u v)

    module _ (v : ℕ) (below : v < b.benches) (chosen : ℕ) (X : Shows b.benches (system b dirs v) chosen) where
      abbrev within : ℕ → Bool
      within j = neutral dirs j && system b dirs v (b.low j)

      rock-within : (j : ℕ) → j < b.jobs → system_rock b dirs v j ≡ (b.rock j && within j)
      rock-within j h = and_assoc (b.rock j) (neutral dirs j) (system b dirs v (b.low j))

      inside_same : (r : ℕ) → r < rocks_of b → inside_at low dir (is_set 64 chosen) r ≡ within (rock_at b r)
      inside_same r h = ap₂ ◌&&◌ (ap (λ (k : ℕ). eqb k 0) (D.entries r h))
          (shows_entry b.benches (system b dirs v) chosen X (get_or low r 0) (low_below b n low high weight R r h) ∙ ap (system b dirs v) (R.lows r h))

      pub system-rocks : count n.rocks (inside_at low dir (is_set 64 chosen)) ≡ count b.jobs (system_rock b dirs v)
      system-rocks =
          ap (λ (k : ℕ). count k (inside_at low dir (is_set 64 chosen))) R.rocks
          ∙ count_cong (rocks_of b) (inside_at low dir (is_set 64 chosen)) (λ r. within (rock_at b r)) inside_same
          ∙ sym (count-members b.jobs b.rock within 0)
          ∙ sym (count_cong b.jobs (system_rock b dirs v) (λ j. b.rock j && within j) rock-within)

      pub system-size : choices_of chosen ≡ count b.benches (system b dirs v)
      system-size = choices_below chosen b.benches (system b dirs v) X.room (λ u h. X.entries u)

      pub system-first : 0 < count b.jobs (system_rock b dirs v) → (r : ℕ) → r ≡ least n.rocks (inside_at low dir (is_set 64 chosen))
          → (r < rocks_of b) × (rock_at b r ≡ least b.jobs (system_rock b dirs v))
      system-first some r e =
          let first : r ≡ least (rocks_of b) (λ i. within (rock_at b i)) = e ∙ ap (λ (k : ℕ). least k (inside_at low dir (is_set 64 chosen))) R.rocks
          ∙ least_cong (rocks_of b) (inside_at low dir (is_set 64 chosen)) (λ i. within (rock_at b i)) inside_same in
          let (j, l, p) = count-pos_elim b.jobs (system_rock b dirs v) some in
          let found : least (rocks_of b) (λ i. within (rock_at b i)) < rocks_of b = any-least (rocks_of b) (λ i. within (rock_at b i))
          (sym (any-members b.jobs b.rock within 0) ∙ any_intro b.jobs (λ i. b.rock i && within i) j l (sym (rock-within j l) ∙ p)) in (
            subst (λ (k : ℕ). k < rocks_of b) (sym first) found,
            ap (rock_at b) first ∙ sym (least_cong b.jobs (system_rock b dirs v) (λ i. b.rock i && within i) rock-within
                ∙ least-members-found b.jobs b.rock within 0 found),
          )

      module _ {kind : Balance} (e : kind ≡ balance_of (count n.rocks (inside_at low dir (is_set 64 chosen))) (choices_of chosen)) where
        balance_is : kind ≡ balance_of (count b.jobs (system_rock b dirs v)) (count b.benches (system b dirs v))
        balance_is = e ∙ ap₂ balance_of system-rocks system-size

        pub settle-tree : (marked : ℕ) {dir' : List ℕ} → kind ≡ Tree → ((w : ℕ) → w < 64 → is_set 64 marked w ≡ (is_set 64 0 w || eqb w v))
            → ((ms : List Bool) → ShowsMarks b ms marked → Directed b (follow b.jobs b dirs ms) dir') → Directed b (settle_system b dirs v) dir'
        settle-tree marked {dir'} zero-kind m call =
            let tree : is_tree b dirs v ≡ true = balance_tree (count b.jobs (system_rock b dirs v)) (count b.benches (system b dirs v)) (sym balance_is ∙ zero-kind) in
            let j = least b.jobs (system_rock b dirs v) in
            subst (λ (x : Directions). Directed b x dir')
            (sym (ap (λ (t : Bool). cond t (follow b.jobs b dirs (set (nobody b) v true))
            (follow b.jobs b (direct b dirs (b.low j) j) (set (nobody b) (b.high j) true))) tree))
            (call (set (nobody b) v true) (marks_more b (nobody b) 0 v marked R.few_benches (marks_none b) m))

        some_inside : kind ≢ Tree → (is_tree b dirs v ≡ false) × (0 < count b.jobs (system_rock b dirs v))
        some_inside ne =
            let rocks = count b.jobs (system_rock b dirs v) in
            let benches = count b.benches (system b dirs v) in
            let cycle : is_tree b dirs v ≡ false = balance_cycle rocks benches (λ z. ne (balance_is ∙ z)) in
            (cycle, omega (arith, ltb-false rocks benches cycle, count-pos b.benches (system b dirs v) v below (reach_refl b.benches (linked b dirs) v)))

        -- A system that is no tree has a rock.
        pub some_cycle : {q : Option ℕ} → kind ≢ Tree → q ≡ first n.rocks (inside_at low dir (is_set 64 chosen)) → q ≡ None → ⊥
        some_cycle ne is none =
            omega (
              arith,
              (system-first (some_inside ne).1 (least n.rocks (inside_at low dir (is_set 64 chosen))) refl).0,
              R.rocks,
              first-none n.rocks (inside_at low dir (is_set 64 chosen)) is none,
            )

        pub settle-cycle : {q : Option ℕ} {r l u : ℕ} (marked : ℕ) {dir₁ dir' : List ℕ} → kind ≢ Tree
            → q ≡ first n.rocks (inside_at low dir (is_set 64 chosen)) → q ≡ Some r
            → l ≡ get_or low r 0 → u ≡ other_at low high r l → dir₁ ≡ set dir r (plus_of u 1)
            → ((w : ℕ) → w < 64 → is_set 64 marked w ≡ (is_set 64 0 w || eqb w u))
            → ((x : Directions) (ms : List Bool) → Directed b x dir₁ → ShowsMarks b ms marked → Directed b (follow b.jobs b x ms) dir')
            → Directed b (settle_system b dirs v) dir'
        settle-cycle {q} {r} {l} {u} marked {dir₁} {dir'} ne rock-is found le ue de me call =
            let (cycle, some) = some_inside ne in
            let first-one = (first-some n.rocks (inside_at low dir (is_set 64 chosen)) rock-is found).0 in
            let (h, is) = system-first some r first-one in
            let j = least b.jobs (system_rock b dirs v) in
            let at : l ≡ b.low (rock_at b r) = le ∙ R.lows r h in
            let is-rock = rock_holds b n low high weight R r h in
            let t : touches b (rock_at b r) l ≡ true = and_intro is-rock (or_left (eqb l (b.high (rock_at b r))) (eq-eqb l (b.low (rock_at b r)) at)) in
            let far : u ≡ b.high j =
            ue ∙ other_at_lem b n low high weight R r l h
            ∙ ap (λ (k : Bool). cond k (b.high (rock_at b r)) (b.low (rock_at b r))) (eq-eqb l (b.low (rock_at b r)) at) ∙ ap b.high is in
            let near : l ≡ b.low j = at ∙ ap b.low is in
            let D₁ : Directed b (direct b dirs (b.low j) j) dir₁ =
            subst (λ (x : List ℕ). Directed b (direct b dirs (b.low j) j) x) (sym (de ∙ ap (λ (k : ℕ). set dir r (plus_of k 1)) ue))
            (subst (λ (k : ℕ). Directed b (direct b dirs k j) (set dir r (plus_of (other_at low high r l) 1))) near
            (subst (λ (k : ℕ). Directed b (direct b dirs l k) (set dir r (plus_of (other_at low high r l) 1))) is
            (directs_directed b n low high weight R dirs r l h t dir D))) in
            let M : ShowsMarks b (set (nobody b) (b.high j) true) marked =
            subst (λ (k : ℕ). ShowsMarks b (set (nobody b) k true) marked) far (marks_more b (nobody b) 0 u marked R.few_benches (marks_none b) me) in
            subst (λ (x : Directions). Directed b x dir')
            (sym (ap (λ (c : Bool). cond c (follow b.jobs b dirs (set (nobody b) v true))
            (follow b.jobs b (direct b dirs (b.low j) j) (set (nobody b) (b.high j) true))) cycle))
            (call (direct b dirs (b.low j) j) (set (nobody b) (b.high j) true) D₁ M)

  -- ── one system after another ──

  -- The array shows directions from which the rest of settle gives what it gives from the start.
  pub record Settles (dirs : Directions) (k : ℕ) (dir : List ℕ) : Type 0 where
    pub now_dirs : Directions
    pub directed : Directed b now_dirs dir
    pub same : settle b dirs ≡ settle_from k b now_dirs

  module _ {dirs : Directions} {k : ℕ} {dir : List ℕ} (I : Settles dirs k dir) (all : ℕ)
      (everywhere : (u : ℕ) → u < 64 → is_set 64 all u ≡ ltb u n.benches) where
    abbrev lowest_bench : ℕ
    lowest_bench = lowest_end n.benches n.rocks low high (follows_at dir (is_set 64 all))

    settle-at : lowest_bench ≡ neutral_bench b I.now_dirs
    settle-at = lowest-neutral I.now_dirs dir I.directed (is_set 64 all)
        ∙ least_cong b.benches (λ u. is_set 64 all u && any b.jobs (neutral_at b I.now_dirs u)) (λ u. any b.jobs (neutral_at b I.now_dirs u))
        (λ u l. ap (λ (x : Bool). x && any b.jobs (neutral_at b I.now_dirs u)) (everywhere u (omega (arith, R.few_benches)) ∙ lt-ltb u n.benches (omega (arith, R.benches))))

    pub settle-ends : {o : Option ℕ} → o ≡ then_some (ltb lowest_bench n.benches) lowest_bench → o ≡ None
        → Directed b (settle b dirs) dir
    settle-ends e none =
        let far = below-none n.benches lowest_bench e none in
        let stop : neutral_bench b I.now_dirs ≡ b.benches =
        omega (arith, far, settle-at, R.benches, lowest-at-most I.now_dirs dir I.directed (is_set 64 all)) in
        subst (λ (x : Directions). Directed b x dir) (sym (I.same ∙ settle-stops k b I.now_dirs stop)) I.directed

    pub settle-next : {o : Option ℕ} {v l : ℕ} {dir' : List ℕ} → o ≡ then_some (ltb lowest_bench n.benches) lowest_bench
        → o ≡ Some v → k ≡ l + 1
        → ((x : Directions) → Directed b x dir → v < b.benches → Directed b (settle_system b x v) dir') → Settles dirs l dir'
    settle-next {o} {v} {l} e some more call =
        let at = below-some n.benches lowest_bench e some in
        let below : v < b.benches = omega (arith, at.1, R.benches) in
        record {
          now_dirs = settle_system b I.now_dirs v;
          directed = call I.now_dirs I.directed below;
          same = I.same ∙ settle-turns k l b I.now_dirs v more (at.0 ∙ settle-at) below;
        }

  pub settle-starts : (dirs : Directions) (k : ℕ) {dir : List ℕ} → Directed b dirs dir → k ≡ n.jobs → Settles dirs k dir
  settle-starts dirs k D e = record { now_dirs = dirs; directed = D; same = ap (λ (i : ℕ). settle_from i b dirs) (sym (e ∙ R.jobs)) }

  pub settle-spent : {dirs : Directions} {k : ℕ} {dir : List ℕ} → Settles dirs k dir → k ≤ 0 → Directed b (settle b dirs) dir
  unfolding settle_from
  settle-spent {dirs} {k} {dir} I none =
      let e : k ≡ 0 = omega arith in
      subst (λ (x : Directions). Directed b x dir) (sym (I.same ∙ ap (λ (i : ℕ). settle_from i b I.now_dirs) e)) I.directed
