-- Where no pebble can be pushed, the exploration of a board meets the hypotheses H1 to H6 of Lemma 4.4.4.
--     activated-in_conflict   H2: an activated bench is in the conflict set
--     opens_of                a bench that opened a round is of Type A
--     opened-activated        and it is activated
--     child-counts, father-heavy      what forbids a push besides the load: a child, and a father that is too heavy
--     push_blocked            H3: an activated bench that a pebble could reach is too full for it
--     opened_full             H3: so are all Type A benches
--     joined_cause_of         H4
--     inside-head-touches, inside-tail-other, inside-tail-touches, inside-head-other, inside-away     the ends of a rock inside
--     rule_one_applies        H5: Rule 1
--     rule_two_ends           H5: of a rock below R both ends are activated or neither
--     to_or-away              a rock at a bench of the conflict set is directed to it or away from it
--     earlier_neighbour       a rock of Rule 2 leads to a bench of smaller rank
--     activated-cause_of      H6
--     no_move_left            all of them
--     board_blocks            the activated benches carry in every placement of the rocks left more than their number times the target
use Prim.Native.Nat.{ℕ, suc, ◌+◌, ◌*◌, ◌≤◌, ◌<◌}
use mathlib.Core.Path.{◌≡◌, sym, ap, subst, ◌∙◌}
use mathlib.Core.Logic.{◌⊎◌, inl, inr}
use mathlib.Core.Bool.{true, false, not, ◌&&◌, ◌||◌}
use native.Mathlib.Omega.{arith}
use lib.ListN.{get_or}
use lib.Dec.{eqb, leb, ltb}
use borrow.Author.Tests.{lt-ltb, ltb-true, leb-false, eq-eqb}
use Rattle.bools.proofs.BoolLaws.{split, clash, and_intro, and_left, and_right, or_left, or_right, or_elim, or-false_left, or-false_right, not-false, bool_ext}
use Rattle.sums.specs.Sum.{on, sum, count}
use Rattle.sums.specs.Search.{any}
use Rattle.sums.proofs.SearchLaws.{any_intro, any_elim, all-false}
use Rattle.algorithm.specs.Board.{Board, touches, other, neutral, towards, away, rock_load, load}
use Rattle.algorithm.specs.Explore.{Explored, in_conflict, activated, father, child}
use Rattle.algorithm.specs.Push.{leaf, light_fathers, can_push}
use Rattle.algorithm.specs.Properties.{SoundBoard, Facts, rnd, lev}
use Rattle.algorithm.proofs.BoardLaws.{touches-rock, touches-end, touches-below, other-low, other-high, other-touches, other-other, other-below}
use Rattle.argument.specs.Exploration.{Exploration, FatherAbove, EarlierNeighbour, NoMoveLeft, InsidePlacement, bound, push_limit, inside, children, into}
use Rattle.algorithm.specs.Properties.{Opened, JoinedBy}
use Rattle.argument.proofs.ExplorationLaws.{inside-rock, inside-head, inside-tail, father_above}
use Rattle.argument.proofs.OrientationLaws.{number-pos}
use Rattle.argument.proofs.Activated.{activated_blocks}
use Rattle.argument.proofs.ExplorationOfBoard.{head_of, tail_of, reached_by, opens, exploration_of, conflict_round, round_conflict, activated-level, level-activated, head-touches, tail-other, head_at, tail_at, inside-towards, inside_of, into-rock_load, father_of}

module _ (b : Board) (x : Explored) (ok : SoundBoard b) (facts : Facts b x) where
  pub activated-in_conflict : (v : ℕ) → v < b.benches → activated b x v ≡ true → in_conflict b x v ≡ true
  activated-in_conflict v lv a = round_conflict b x v (omega (arith, facts.joined_first v lv, activated-level b x v a))

  opens_of : (v : ℕ) → activated b x v ≡ true → Opened b x v → opens b x v ≡ true
  opens_of v a (inl over) = and_intro a (or_left (any b.jobs (reached_by b x v)) (lt-ltb b.bound (load b x.dir v) over.1))
  opens_of v a (inr reached) =
      let (j, lj, p, may, less) = reached in
      and_intro a
      (or_right (ltb b.bound (load b x.dir v))
      (any_intro b.jobs (reached_by b x v) j lj (and_intro (and_intro p may) (lt-ltb (lev b x (b.place j)) (lev b x v) less))))

  -- The level of a bench that opened a round is finite: 0, or at most one more than that of a bench with a pebble.
  opened-activated : (v : ℕ) → v < b.benches → Opened b x v → activated b x v ≡ true
  opened-activated v lv (inl over) = level-activated b x v (omega (arith, over.0))
  opened-activated v lv (inr reached) =
      let (j, lj, p, may, less) = reached in
      let below : b.place j < b.benches = ok.allowed_below j (b.place j) lj (ok.pebble_allowed j lj p) in
      let finite : lev b x (b.place j) ≤ b.benches = omega (arith, facts.level_bound v lv) in
      level-activated b x v (omega (arith, facts.next_level j v lj p may finite, facts.level_below (b.place j) below finite))

  module _ (v : ℕ) (lv : v < b.benches) (a : activated b x v ≡ true) where
    -- A child in the conflict set counts, and a father that is too heavy is one.
    child-counts : leaf b x v ≡ false → 0 < children (exploration_of b x ok facts) v
    child-counts l =
        let (e, le, p) = any_elim b.jobs (child b x.dir (in_conflict b x) v) (not-false _ l) in
        let there : (touches b e v && towards x.dir e v) ≡ true = and_left (touches b e v && towards x.dir e v) (in_conflict b x (other b e v)) p in
        let t : touches b e v ≡ true = and_left (touches b e v) (towards x.dir e v) there in
        let to : towards x.dir e v ≡ true = and_right (touches b e v) (towards x.dir e v) there in
        let c : in_conflict b x (other b e v) ≡ true = and_right (touches b e v && towards x.dir e v) (in_conflict b x (other b e v)) p in
        number-pos b.jobs (inside (exploration_of b x ok facts)) (head_of b x.dir) v e le
        (inside_of b x ok facts e v le lv t to (activated-in_conflict v lv a) c) (head_at b x.dir ok e le v t to)

    father-heavy : light_fathers b x v ≡ false → FatherAbove (exploration_of b x ok facts) b.limit (b.own v) v
    father-heavy h =
        let (e, le, p) = all-false b.jobs (λ j. not (father b x.dir (in_conflict b x) v j) || leb (b.own v + b.weight j) b.limit) h in
        let f : father b x.dir (in_conflict b x) v e ≡ true = not-false _ (or-false_left (not (father b x.dir (in_conflict b x) v e)) (leb (b.own v + b.weight e) b.limit) p) in
        let heavy : b.limit < b.own v + b.weight e =
        leb-false (b.own v + b.weight e) b.limit (or-false_right (not (father b x.dir (in_conflict b x) v e)) (leb (b.own v + b.weight e) b.limit) p)
        in
        father_of b x ok facts b.limit (b.own v) e v le lv (and_left (away b x.dir e v) (in_conflict b x (other b e v)) f)
        (activated-in_conflict v lv a) (and_right (away b x.dir e v) (in_conflict b x (other b e v)) f) heavy

    -- The pebble lies one level below (E8), so only the load or the fathers forbid the push.
    push_blocked : (j : ℕ) → j < b.jobs → reached_by b x v j ≡ true → can_push b x j v ≡ false
        → (b.limit < load b x.dir v) ⊎ ((0 < children (exploration_of b x ok facts) v) × FatherAbove (exploration_of b x ok facts) b.limit (b.own v) v)
    push_blocked j lj r no-push =
        let may : (b.pebble j && b.allows j v) ≡ true = and_left (b.pebble j && b.allows j v) (ltb (lev b x (b.place j)) (lev b x v)) r in
        let less : lev b x (b.place j) < lev b x v = ltb-true (lev b x (b.place j)) (lev b x v) (and_right (b.pebble j && b.allows j v) (ltb (lev b x (b.place j)) (lev b x v)) r) in
        let finite : lev b x v ≤ b.benches = activated-level b x v a in
        let most : lev b x v ≤ suc (lev b x (b.place j)) =
        facts.next_level j v lj (and_left (b.pebble j) (b.allows j v) may) (and_right (b.pebble j) (b.allows j v) may) (omega arith)
        in
        let next : eqb (lev b x v) (suc (lev b x (b.place j))) ≡ true = eq-eqb (lev b x v) (suc (lev b x (b.place j))) (omega arith) in
        elim (split (leb (load b x.dir v) b.limit)) [
          | inr full ↦ inl (leb-false (load b x.dir v) b.limit full)
          | inl fits ↦ elim (split (leaf b x v || light_fathers b x v)) [
            | inl free ↦ clash (and_intro (and_intro (and_intro (and_intro may a) next) fits) free) no-push
            | inr bad ↦ inr (child-counts (or-false_left (leaf b x v) (light_fathers b x v) bad), father-heavy (or-false_right (leaf b x v) (light_fathers b x v) bad))
          ]
        ]

  -- ── the tail and the head of a rock inside ──

  module _ (e : ℕ) (le : e < b.jobs) (i : inside (exploration_of b x ok facts) e ≡ true) where
    inside-head-touches : touches b e (head_of b x.dir e) ≡ true
    inside-head-touches = head-touches b x.dir ok e le (inside-rock (exploration_of b x ok facts) e i)

    inside-tail-other : tail_of b x.dir e ≡ other b e (head_of b x.dir e)
    inside-tail-other = tail-other b x.dir ok e le (inside-rock (exploration_of b x ok facts) e i)

    inside-tail-touches : touches b e (tail_of b x.dir e) ≡ true
    inside-tail-touches = rw inside-tail-other (other-touches b ok e (head_of b x.dir e) le inside-head-touches)

    inside-head-other : other b e (tail_of b x.dir e) ≡ head_of b x.dir e
    inside-head-other = ap (other b e) inside-tail-other ∙ other-other b ok e (head_of b x.dir e) le inside-head-touches

    inside-away : away b x.dir e (tail_of b x.dir e) ≡ true
    inside-away = and_intro inside-tail-touches (ap (towards x.dir e) inside-head-other ∙ inside-towards b x ok facts e le i)

    rule_two_ends : b.weight e < b.small → activated b x (head_of b x.dir e) ≡ activated b x (tail_of b x.dir e)
    rule_two_ends light =
        let E : Exploration = exploration_of b x ok facts in
        let u : ℕ = head_of b x.dir e in
        let w : ℕ = tail_of b x.dir e in
        bool_ext (activated b x u) (activated b x w)
        (λ a. level-activated b x w
        (facts.rule_two b.benches e w (omega arith) le (touches-below b ok e w le inside-tail-touches) inside-tail-touches light
        (conflict_round b x w (inside-tail E e i)) (activated-level b x (other b e w) (ap (activated b x) inside-head-other ∙ a))))
        (λ a. level-activated b x u
        (facts.rule_two b.benches e u (omega arith) le (touches-below b ok e u le inside-head-touches) inside-head-touches light
        (conflict_round b x u (inside-head E e i)) (activated-level b x (other b e u) (ap (activated b x) (sym inside-tail-other) ∙ a))))

  rule_one_applies : (v : ℕ) → v < b.benches → in_conflict b x v ≡ true
      → FatherAbove (exploration_of b x ok facts) (bound (exploration_of b x ok facts)) (b.own v) v → activated b x v ≡ true
  rule_one_applies v lv c f =
      let e : ℕ = f.father in
      let E : Exploration = exploration_of b x ok facts in
      let at : tail_of b x.dir e ≡ v = f.leaves in
      let a : away b x.dir e v ≡ true = subst (λ (u : ℕ). away b x.dir e u ≡ true) at (inside-away e f.below f.within) in
      let up : other b e v ≡ head_of b x.dir e = subst (λ (u : ℕ). other b e u ≡ head_of b x.dir e) at (inside-head-other e f.below f.within) in
      let joined : in_conflict b x (other b e v) ≡ true = ap (in_conflict b x) up ∙ inside-head E e f.within in
      let above : bound E < b.own v + b.weight e = f.above in
      level-activated b x v
      (facts.rule_one b.benches e v (omega arith) f.below lv a (conflict_round b x v c) (conflict_round b x (other b e v) joined)
      (omega (arith, ok.limits.bound_is)))

  -- A rock at a bench of the conflict set is directed (E1): to it, or away from it.
  to_or-away : (e v : ℕ) → e < b.jobs → v < b.benches → touches b e v ≡ true → in_conflict b x v ≡ true
      → (towards x.dir e v ≡ true) ⊎ (towards x.dir e (other b e v) ≡ true)
  to_or-away e v le lv t c =
      let r : b.rock e ≡ true = touches-rock b e v t in
      let set : neutral x.dir e ≡ false = facts.conflict_directed e v le lv t (conflict_round b x v c) in
      elim (facts.pointed.to_an_end e le r) [
        | inl n ↦ clash (eq-eqb (get_or x.dir e 0) 0 n) set
        | inr q ↦ end r q
      ]
    where
      end : b.rock e ≡ true → (get_or x.dir e 0 ≡ suc (b.low e)) ⊎ (get_or x.dir e 0 ≡ suc (b.high e))
          → (towards x.dir e v ≡ true) ⊎ (towards x.dir e (other b e v) ≡ true)
      end r (inl low) = elim (touches-end b e v t) [
        | inl p ↦ inl (eq-eqb (get_or x.dir e 0) (suc v) (omega arith))
        | inr p ↦ inr (eq-eqb (get_or x.dir e 0) (suc (other b e v)) (omega (arith, other-high b ok e v le r p)))
      ]
      end r (inr high) = elim (touches-end b e v t) [
        | inl p ↦ inr (eq-eqb (get_or x.dir e 0) (suc (other b e v)) (omega (arith, other-low b e v p)))
        | inr p ↦ inl (eq-eqb (get_or x.dir e 0) (suc v) (omega arith))
      ]

  earlier_neighbour : (e v : ℕ) → e < b.jobs → v < b.benches → touches b e v ≡ true → in_conflict b x v ≡ true → in_conflict b x (other b e v) ≡ true
      → b.weight e < b.small → facts.rank (other b e v) < facts.rank v → EarlierNeighbour (exploration_of b x ok facts) v
  earlier_neighbour e v le lv t c c' light before = elim (to_or-away e v le lv t c) [
    | inl to ↦
        let at : tail_of b x.dir e ≡ other b e v = tail_at b x.dir ok e le v t to in
        record {
          joining = e;
          below = le;
          within = inside_of b x ok facts e v le lv t to c c';
          small = light;
          earlier = inl (head_at b x.dir ok e le v t to, rw at before);
        }
    | inr to ↦
        let u : ℕ = other b e v in
        let t' : touches b e u ≡ true = other-touches b ok e v le t in
        let back : other b e u ≡ v = other-other b ok e v le t in
        let at : head_of b x.dir e ≡ u = head_at b x.dir ok e le u t' to in
        record {
          joining = e;
          below = le;
          within = inside_of b x ok facts e u le (other-below b ok e v le t) t' to c' (ap (in_conflict b x) back ∙ c);
          small = light;
          earlier = inr (tail_at b x.dir ok e le u t' to ∙ back, rw at before);
        }
  ]

  activated-cause_of : (v : ℕ) → v < b.benches → activated b x v ≡ true
      → (opens b x v ≡ true) ⊎ (FatherAbove (exploration_of b x ok facts) (bound (exploration_of b x ok facts)) (b.own v) v ⊎ EarlierNeighbour (exploration_of b x ok facts) v)
  activated-cause_of v lv a =
      let finite : lev b x v ≤ b.benches = activated-level b x v a in
      elim (facts.level_cause v lv finite) [
        | inl over ↦ inl (opens_of v a (inl over))
        | inr more ↦ elim more [
          | inl reached ↦ inl (opens_of v a (inr reached))
          | inr rule ↦ elim rule [
            | inl one ↦
                let (e, le, up, first, above) = one in
                inr (inl (father_of b x ok facts (bound (exploration_of b x ok facts)) (b.own v) e v le lv up (activated-in_conflict v lv a)
                (round_conflict b x (other b e v) (omega arith)) (omega (arith, ok.limits.bound_is))))
            | inr two ↦
                let (e, le, t, light, lower, before) = two in
                let u : other b e v < b.benches = other-below b ok e v le t in
                inr (inr (earlier_neighbour e v le lv t (activated-in_conflict v lv a)
                (round_conflict b x (other b e v) (omega (arith, facts.joined_first (other b e v) u))) light before))
          ]
        ]
      ]

  -- ── H1 to H6 ──

  module _ (joined : JoinedBy b x) (no-push : (j v : ℕ) → j < b.jobs → v < b.benches → can_push b x j v ≡ false) where
    opened_full : (v : ℕ) → v < b.benches → opens b x v ≡ true
        → (push_limit (exploration_of b x ok facts) < b.own v + into (exploration_of b x ok facts) v)
        ⊎ ((0 < children (exploration_of b x ok facts) v) × FatherAbove (exploration_of b x ok facts) (push_limit (exploration_of b x ok facts)) (b.own v) v)
    opened_full v lv o =
        let E : Exploration = exploration_of b x ok facts in
        let a : activated b x v ≡ true = and_left (activated b x v) (ltb b.bound (load b x.dir v) || any b.jobs (reached_by b x v)) o in
        let cause : (ltb b.bound (load b x.dir v) || any b.jobs (reached_by b x v)) ≡ true =
        and_right (activated b x v) (ltb b.bound (load b x.dir v) || any b.jobs (reached_by b x v)) o
        in
        let rocks : into E v ≡ rock_load b x.dir v = into-rock_load b x ok facts v lv (activated-in_conflict v lv a) in
        let limit_is : b.limit ≡ b.small + 3 * ok.limits.d = ok.limits.limit_is in
        elim (or_elim (ltb b.bound (load b x.dir v)) (any b.jobs (reached_by b x v)) cause) [
          | inl over ↦ inl (omega (arith, ltb-true b.bound (load b x.dir v) over, ok.limits.bound_is, ok.limits.share))
          | inr some ↦
              let (j, lj, r) = any_elim b.jobs (reached_by b x v) some in
              elim (push_blocked v lv a j lj r (no-push j v lj lv)) [
                | inl full ↦ inl (omega arith)
                | inr tight ↦ inr (tight.0, father_above E (omega arith) tight.1)
              ]
        ]

    joined_cause_of : (v : ℕ) → v < b.benches → in_conflict b x v ≡ true
        → (opens b x v ≡ true) ⊎ FatherAbove (exploration_of b x ok facts) (bound (exploration_of b x ok facts)) (b.own v + into (exploration_of b x ok facts) v) v
    joined_cause_of v lv c = elim (joined v lv (conflict_round b x v c)) [
      | inl opened ↦ inl (opens_of v (opened-activated v lv opened) opened)
      | inr forced ↦
          let (e, le, up, first, above) = forced in
          let rocks : into (exploration_of b x ok facts) v ≡ rock_load b x.dir v = into-rock_load b x ok facts v lv c in
          let early : rnd b x (other b e v) ≤ b.benches = omega (arith, conflict_round b x v c) in
          inr (father_of b x ok facts (bound (exploration_of b x ok facts)) (b.own v + into (exploration_of b x ok facts) v) e v le lv up c
          (round_conflict b x (other b e v) early) (omega (arith, ok.limits.bound_is)))
    ]

    pub no_move_left : NoMoveLeft (exploration_of b x ok facts)
    no_move_left = record {
      share_limit = ok.limits.share;
      heavy_limit = omega (arith, ok.limits.bound_is, ok.limits.limit_is, ok.limits.share);
      rock_heavy = λ e le r. omega (arith, ok.rock_heavy e le r);
      rock_fits = λ e le r. ok.rock_fits e le r;
      head_below = λ e le i. touches-below b ok e (head_of b x.dir e) le (inside-head-touches e le i);
      tail_below = λ e le i. touches-below b ok e (tail_of b x.dir e) le (inside-tail-touches e le i);
      type_a_activated = λ v lv o. and_left (activated b x v) (ltb b.bound (load b x.dir v) || any b.jobs (reached_by b x v)) o;
      activated_conflict = activated-in_conflict;
      type_a_full = opened_full;
      conflict_cause = joined_cause_of;
      rule_one_applied = rule_one_applies;
      rule_two_applied = λ e le i light. rule_two_ends e le i light;
      activated_cause = activated-cause_of;
    }

    pub board_blocks : (place : ℕ → ℕ) → InsidePlacement (exploration_of b x ok facts) place → 0 < count b.benches (activated b x)
        → count b.benches (activated b x) * (b.small + ok.limits.d)
        < sum b.benches (λ v. on (activated b x v) (b.own v))
        + sum b.jobs (λ e. on (inside (exploration_of b x ok facts) e && activated b x (place e)) (b.weight e))
    board_blocks place placement some = activated_blocks (exploration_of b x ok facts) no_move_left place placement some
