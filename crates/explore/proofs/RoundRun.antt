-- The arrays follow the rounds of an exploration.
--     reach_shows          the set that the program makes is that of the benches within reach
--     begun                how a round opens
--     Exploring            what the loop over the rounds keeps; how it goes on, and how it ends
use Prim.Native.Nat.{ℕ, zero, suc, ◌+◌, ◌-◌, ◌^◌, ◌≤◌, ◌<◌}
use mathlib.Core.Path.{◌≡◌, refl, sym, ap, ap₂, subst, ◌∙◌}
use mathlib.Core.Bool.{Bool, true, false, cond, not, ◌&&◌}
use mathlib.Core.Logic.{inl, inr}
use mathlib.Core.List.{List}
use native.Mathlib.Omega.{arith}
use native.Mathlib.Numerals.{add-one}
use lib.ListN.{length, get_or, replicate, length-replicate, get_or-replicate}
use lib.Dec.{eqb, ltb}
use borrow.Author.Tests.{lt-ltb, le-ltb, ltb-true, eq-eqb, ne_eqb, eqb-true}
use Rattle.bools.proofs.BoolLaws.{split, bool_ext, and_intro, and_left, and_right, and-false_left, and-false_right, not_intro_true}
use Rattle.bools.proofs.OrderLaws.{lt-or-le}
use Rattle.sums.specs.Search.{any}
use Rattle.sums.proofs.SearchLaws.{any_intro, any_elim, any_none, any_false}
use Rattle.sums.proofs.TableLaws.{length-table, get_or-table}
use Rattle.bits.specs.Bits.{is_set}
use Rattle.bits.proofs.SetBits.{is_set-zero, any-is_set}
use Rattle.rocks.specs.declared.rocks.Limits.{Limits}
use Rattle.algorithm.specs.Board.{Board, Directions, overloaded}
use Rattle.algorithm.specs.Properties.{SoundBoard}
use Rattle.algorithm.specs.Explore.{Explored, never, round_of, in_conflict, activated, construct, activate, in_reach, type_a, open_round, rounds, unexplored, explore, opened_levels, opened_joined}
use Rattle.algorithm.specs.Forced.{forced_orientations}
use Rattle.arrays.specs.Arrays.{plus_of}
use Rattle.rocks.specs.BoardArrays.{rocks_of, rock_at, Rocks, Directed, Loaded, Seen, Owned, Rounds}
use Rattle.conflict.specs.ConflictArrays.{Built}
use Rattle.explore.specs.ExploreArrays.{opens_at, Reaches, Begun}
use Rattle.rocks.specs.Shown.{Shown, ShowsActive}
use Rattle.algorithm.proofs.BoardLaws.{pointed_start, rock_load-none}
use Rattle.rocks.proofs.ScanLaws.{rock_below}
use Rattle.arrays.proofs.NumberLaws.{plus_one}
use Rattle.rocks.proofs.BoardLaws.{within_same}
use Rattle.explore.proofs.RoundSets.{Raised, Sets}
use Rattle.explore.proofs.ReachRun.{lies}

-- ── the benches within reach ──

module _ (b : Board) (sound : SoundBoard b) (few : b.benches ≤ 64) (i : ℕ) (in-time : i ≤ b.benches) (reaches ys level : List ℕ) (T : Reaches b reaches) (Y : Rounds b ys level) where
  level_before : (u : ℕ) → u < b.benches → plus_of (get_or level u 0) 1 ≡ i → suc (round_of b ys u) ≡ i
  level_before u h e = let q = Y.entries u h in omega (arith, e, q)

  level_at : (u : ℕ) → u < b.benches → suc (round_of b ys u) ≡ i → plus_of (get_or level u 0) 1 ≡ i
  level_at u h e = let q = Y.entries u h in omega (arith, e, q)

  -- The benches of the level before i are in the set `fresh`.
  reach_shows : (reach fresh : ℕ) → ((u : ℕ) → u < 64 → is_set 64 fresh u ≡ (ltb u b.benches && eqb (plus_of (get_or level u 0) 1) i))
      → (v : ℕ) → v < b.benches → is_set 64 reach v ≡ any 64 (λ u. is_set 64 fresh u && is_set 64 (get_or reaches u 0) v) → is_set 64 reach v ≡ in_reach b i ys v
  reach_shows reach fresh ef v hv er =
      let near : ℕ → Bool = λ j. b.pebble j && b.allows j v && eqb (suc (round_of b ys (b.place j))) i in
      let meets : ℕ → Bool = λ u. is_set 64 fresh u && is_set 64 (get_or reaches u 0) v in
      er
      ∙ bool_ext (any 64 meets) (in_reach b i ys v)
      (λ p.
      let (u, h, q) = any_elim 64 meets p in
      let level-there = sym (ef u h) ∙ and_left (is_set 64 fresh u) (is_set 64 (get_or reaches u 0) v) q in
      let hu : u < b.benches = ltb-true u b.benches (and_left (ltb u b.benches) (eqb (plus_of (get_or level u 0) 1) i) level-there) in
      let at : plus_of (get_or level u 0) 1 ≡ i = eqb-true (plus_of (get_or level u 0) 1) i (and_right (ltb u b.benches) (eqb (plus_of (get_or level u 0) 1) i) level-there) in
      let set_there = and_right (is_set 64 fresh u) (is_set 64 (get_or reaches u 0) v) q in
      let (j, hj, s) = any_elim b.jobs (lies b u v) (sym (T.entries u v hu hv) ∙ set_there) in
      let both = and_left (b.pebble j && eqb (b.place j) u) (b.allows j v) s in
      let lies-there : b.place j ≡ u = eqb-true (b.place j) u (and_right (b.pebble j) (eqb (b.place j) u) both) in
      any_intro b.jobs near j hj
      (and_intro (and_intro (and_left (b.pebble j) (eqb (b.place j) u) both) (and_right (b.pebble j && eqb (b.place j) u) (b.allows j v) s))
      (eq-eqb (suc (round_of b ys (b.place j))) i (ap (λ (k : ℕ). suc (round_of b ys k)) lies-there ∙ level_before u hu at))))
      (λ p.
      let (j, hj, s) = any_elim b.jobs near p in
      let both = and_left (b.pebble j && b.allows j v) (eqb (suc (round_of b ys (b.place j))) i) s in
      let is-pebble = and_left (b.pebble j) (b.allows j v) both in
      let u = b.place j in
      let hu : u < b.benches = sound.allowed_below j u hj (sound.pebble_allowed j hj is-pebble) in
      let at = eqb-true (suc (round_of b ys u)) i (and_right (b.pebble j && b.allows j v) (eqb (suc (round_of b ys u)) i) s) in
      any_intro 64 meets u (omega arith)
      (and_intro (ef u (omega arith) ∙ and_intro (lt-ltb u b.benches hu) (eq-eqb (plus_of (get_or level u 0) 1) i (level_at u hu at)))
      (T.entries u v hu hv
      ∙ any_intro b.jobs (lies b u v) j hj (and_intro (and_intro is-pebble (eq-eqb u u refl)) (and_right (b.pebble j) (b.allows j v) both)))))

-- ── the opening of a round ──

type_a_lem : (i : ℕ) (b : Board) (x : Explored) (k : ℕ) → type_a b i x k ≡ cond (eqb i 0) (overloaded b x.dir k) (not (activated b x k) && in_reach b i x.level k)
type_a_lem zero b x k = refl
type_a_lem (suc i) b x k = rw (ne_eqb (suc i) 0 (λ e. omega arith)) refl

and_swap : (a b : Bool) → (a && b) ≡ (b && a)
and_swap true true = refl
and_swap true false = refl
and_swap false true = refl
and_swap false false = refl

cond-none : (c : Bool) → cond c false false ≡ false
cond-none true = refl
cond-none false = refl

module _ (b : Board) (n : Limits) (low high weight : List ℕ) (R : Rocks b n low high weight) where
  module _ (i : ℕ) (x : Explored) (all active reach opened fresh wait : ℕ) (dir load joined level joined' level' : List ℕ)
      (S : Sets n low high weight i all dir load joined level active fresh wait) (O : Raised n i all active reach load joined level opened joined' level')
      (L : Loaded b x.dir load) (X : Rounds b x.joined joined) (Y : Rounds b x.level level)
      (reached : (v : ℕ) → v < b.benches → is_set 64 active v ≡ false → is_set 64 reach v ≡ in_reach b i x.level v) where
    -- Of a bench that is activated it does not matter whether it is in reach.
    reached_new : (v : ℕ) → v < b.benches → (is_set 64 reach v && not (is_set 64 active v)) ≡ (not (activated b x v) && in_reach b i x.level v)
    reached_new v h =
        let same : is_set 64 active v ≡ activated b x v = S.actives v (omega (arith, R.benches)) ∙ within_same b n low high weight R x.level level Y v h in
        elim (split (is_set 64 active v)) [
          | inl p ↦ and-false_right (is_set 64 reach v) (ap not p) ∙ sym (and-false_left (in_reach b i x.level v) (ap not (sym same ∙ p)))
          | inr p ↦
              ap₂ (λ (p q : Bool). p && not q) (reached v h p) same ∙ and_swap (in_reach b i x.level v) (not (activated b x v))
        ]

    opens_inside : (v : ℕ) → v < b.benches → opens_at n i all active reach load v ≡ type_a b i x v
    opens_inside v h =
        let l : v < n.benches = omega (arith, R.benches) in
        let t : ltb v n.benches ≡ true = lt-ltb v n.benches l in
        ap₂ (λ (p q : Bool). cond (eqb i 0) p q)
        (ap₂ (λ (p q : Bool). p && q) t (ap₂ ltb R.bound (L.entries v h)))
        (ap₂ (λ (p q : Bool). p && q) (S.alls v (omega (arith, R.few_benches)) ∙ t) (reached_new v h))
        ∙ sym (type_a_lem i b x v)

    opens_same : (v : ℕ) → v < 64 → is_set 64 opened v ≡ (ltb v b.benches && type_a b i x v)
    opens_same v h = O.opens v h ∙ elim (lt-or-le v b.benches) [
      | inl l ↦ opens_inside v l ∙ sym (ap (λ (p : Bool). p && type_a b i x v) (lt-ltb v b.benches l))
      | inr l ↦
          let out : ltb v n.benches ≡ false = le-ltb v n.benches (omega (arith, R.benches)) in
          ap₂ (λ (p q : Bool). cond (eqb i 0) p q) (and-false_left (ltb n.bound (get_or load v 0)) out)
          (and-false_left (is_set 64 reach v && not (is_set 64 active v)) (S.alls v h ∙ out))
          ∙ cond-none (eqb i 0) ∙ sym (and-false_left (type_a b i x v) (le-ltb v b.benches l))
    ]

    opened_at : (v : ℕ) → v < b.benches → is_set 64 opened v ≡ type_a b i x v
    opened_at v l = O.opens v (omega (arith, R.few_benches)) ∙ opens_inside v l

    begun : Begun b i x opened joined' level'
    begun =
        record {
          some = opens_same;
          joined =
              record {
                one_to_a_bench = length-table b.benches (λ v. cond (type_a b i x v && not (in_conflict b x v)) i (round_of b x.joined v));
                room = omega (arith, O.long_joined, X.room);
                entries = λ v h. O.entered v (omega (arith, X.room)) (omega (arith, R.few_benches))
                    ∙ ap₂ (λ (p q : Bool). cond (p && not q) i (get_or joined v 0)) (opened_at v h) (within_same b n low high weight R x.joined joined X v h)
                    ∙ ap (λ (k : ℕ). cond (type_a b i x v && not (in_conflict b x v)) i k) (X.entries v h)
                    ∙ sym (get_or-table b.benches (λ u. cond (type_a b i x u && not (in_conflict b x u)) i (round_of b x.joined u)) v (never b) h);
              };
          level =
              record {
                one_to_a_bench = length-table b.benches (λ v. cond (type_a b i x v) i (round_of b x.level v));
                room = omega (arith, O.long_level, Y.room);
                entries = λ v h. O.raised v (omega (arith, Y.room))
                    ∙ ap₂ (λ (p q : Bool). cond (p && q) i (get_or level v 0)) (lt-ltb v 64 (omega (arith, R.few_benches))) (opened_at v h)
                    ∙ ap (λ (k : ℕ). cond (type_a b i x v) i k) (Y.entries v h)
                    ∙ sym (get_or-table b.benches (λ u. cond (type_a b i x u) i (round_of b x.level u)) v (never b) h);
              };
        }

-- Where the set is empty no bench opens the round, and else some bench does.
none_opens : (b : Board) (i : ℕ) (x : Explored) {opened : ℕ} {joined level : List ℕ} → b.benches ≤ 64 → Begun b i x opened joined level → opened ≡ 0
    → any b.benches (type_a b i x) ≡ false
none_opens b i x {opened} few O e =
    any_false b.benches (type_a b i x) (λ v h.
    sym (ap (λ (p : Bool). p && type_a b i x v) (lt-ltb v b.benches h)) ∙ sym (O.some v (omega arith)) ∙ ap (λ (k : ℕ). is_set 64 k v) e ∙ is_set-zero 64 v)

some_opens : (b : Board) (i : ℕ) (x : Explored) {opened : ℕ} {joined level : List ℕ} → Begun b i x opened joined level → 0 < opened → opened < 2 ^ 64
    → any b.benches (type_a b i x) ≡ true
some_opens b i x {opened} O some fits =
    let full : any 64 (is_set 64 opened) ≡ true = any-is_set 64 opened fits ∙ not_intro_true (ne_eqb opened 0 (λ z. omega arith)) in
    let (v, h, p) = any_elim 64 (is_set 64 opened) full in
    let both = sym (O.some v h) ∙ p in
    any_intro b.benches (type_a b i x) v (ltb-true v b.benches (and_left (ltb v b.benches) (type_a b i x v) both))
    (and_right (ltb v b.benches) (type_a b i x v) both)

-- ── the rounds ──

rounds-stops : (k : ℕ) (b : Board) (i : ℕ) (x : Explored) → any b.benches (type_a b i x) ≡ false → rounds k b i x ≡ x
unfolding rounds
rounds-stops zero b i x p = refl
rounds-stops (suc k) b i x p = rw (p, rounds)

rounds-goes : (k : ℕ) (b : Board) (i : ℕ) (x : Explored) → any b.benches (type_a b i x) ≡ true → rounds (suc k) b i x ≡ rounds k b (suc i) (open_round b i x)
unfolding rounds
rounds-goes k b i x p = rw (p, rounds)

rounds-none : (b : Board) (i : ℕ) (x : Explored) → rounds 0 b i x ≡ x
unfolding rounds
rounds-none b i x = refl

explore-is : (b : Board) → explore b ≡ rounds (suc b.benches) b 0 (unexplored b)
unfolding explore
explore-is b = refl

-- The arrays after a round.
round_shown : (b : Board) (i : ℕ) (x : Explored) (dir loads joined level : List ℕ)
    → Built b (construct b.jobs b i x.dir (opened_joined b i x)) dir loads joined
    → Rounds b (activate b.benches b i (construct b.jobs b i x.dir (opened_joined b i x)).dir (construct b.jobs b i x.dir (opened_joined b i x)).joined (opened_levels b i x)) level
    → Shown b (open_round b i x) dir loads joined level
unfolding open_round
round_shown b i x dir loads joined level B Y = record { seen = B.seen; joined = B.joined; level = Y }

-- Where no bench opens the round, the arrays show what they showed.
none_opened : (b : Board) (i : ℕ) (x : Explored) {dir loads joined level joined' level' : List ℕ} {opened : ℕ} → Shown b x dir loads joined level
    → Begun b i x opened joined' level' → any b.benches (type_a b i x) ≡ false → Shown b x dir loads joined' level'
none_opened b i x S O e =
    let none = any_none b.benches (type_a b i x) e in
    record {
      seen = S.seen;
      joined =
          record {
            one_to_a_bench = S.joined.one_to_a_bench;
            room = O.joined.room;
            entries = λ v h. O.joined.entries v h
                ∙ get_or-table b.benches (λ u. cond (type_a b i x u && not (in_conflict b x u)) i (round_of b x.joined u)) v (never b) h
                ∙ ap (λ (p : Bool). cond (p && not (in_conflict b x v)) i (round_of b x.joined v)) (none v h);
          };
      level =
          record {
            one_to_a_bench = S.level.one_to_a_bench;
            room = O.level.room;
            entries = λ v h. O.level.entries v h
                ∙ get_or-table b.benches (λ u. cond (type_a b i x u) i (round_of b x.level u)) v (never b) h
                ∙ ap (λ (p : Bool). cond p i (round_of b x.level v)) (none v h);
          };
    }

module _ (b : Board) (n : Limits) (low high weight : List ℕ) (R : Rocks b n low high weight) where
  -- Nothing is directed yet.
  pub seen_none : (m : ℕ) (own : List ℕ) {dir loads : List ℕ} → rocks_of b ≤ m → b.benches ≤ length own → Owned b own → dir ≡ replicate m 0 → loads ≡ own
      → Seen b (replicate b.jobs 0) dir loads
  seen_none m own few room O d l =
      rw (d, l) (
      record {
        directed =
            record {
              pointed = pointed_start b;
              room = omega (arith, length-replicate {A = ℕ} m 0);
              entries = λ r h. get_or-replicate m r 0 0 (omega arith) ∙ sym (get_or-replicate b.jobs (rock_at b r) 0 0 (rock_below b n low high weight R r h));
            };
        loaded = record { room = room; entries = λ v h. O.entries v h ∙ omega (arith, rock_load-none b v) };
      })

  rounds-never : (m : ℕ) {xs : List ℕ} → b.benches ≤ m → xs ≡ replicate m (plus_of n.benches 1) → Rounds b (replicate b.benches (never b)) xs
  rounds-never m few e =
      rw e (
      record {
        one_to_a_bench = length-replicate b.benches (never b);
        room = omega (arith, length-replicate m (plus_of n.benches 1));
        entries = λ v h. get_or-replicate m v (plus_of n.benches 1) 0 (omega arith)
            ∙ ap (λ (k : ℕ). plus_of k 1) R.benches ∙ plus_one b.benches (omega (arith, R.few_benches))
            ∙ sym (get_or-replicate b.benches v (never b) (never b) h);
      })

  -- The arrays show a state from which the rounds that are left give what the exploration gives.
  pub record Exploring (i : ℕ) (dir loads js ls : List ℕ) : Type 0 where
    pub now_x : Explored
    pub shown : Shown b now_x dir loads js ls
    pub left : ℕ
    pub in_all : left + i ≡ suc b.benches
    pub same : explore b ≡ rounds left b i now_x

  pub exploring_starts : (m : ℕ) {dir loads joined level : List ℕ} → b.benches ≤ m → Seen b (forced_orientations b (replicate b.jobs 0)) dir loads
      → joined ≡ replicate m (plus_of n.benches 1) → level ≡ replicate m (plus_of n.benches 1) → Exploring 0 dir loads joined level
  exploring_starts m few S j l =
      record {
        now_x = unexplored b;
        shown = record { seen = S; joined = rounds-never m few j; level = rounds-never m few l };
        left = suc b.benches;
        in_all = omega arith;
        same = explore-is b;
      }

  -- Of the benches of the board the set has those that are activated, and it has no others.
  active_shown : {i all active fresh wait : ℕ} {dir loads joined level : List ℕ} (x : Explored) → Rounds b x.level level
      → Sets n low high weight i all dir loads joined level active fresh wait → ShowsActive b x active
  active_shown {active = active} {level = level} x Y S v h = elim (lt-or-le v b.benches) [
    | inl l ↦
        S.actives v (omega (arith, R.benches)) ∙ within_same b n low high weight R x.level level Y v l
        ∙ sym (ap (λ (p : Bool). p && activated b x v) (lt-ltb v b.benches l))
    | inr l ↦
        (elim (split (is_set 64 active v)) [ inl p ↦ absurd (omega (arith, S.active_below v h p, R.benches)) | inr p ↦ p ])
        ∙ sym (and-false_left (activated b x v) (le-ltb v b.benches l))
  ]

  pub exploring_spent : {i : ℕ} {dir loads joined level : List ℕ} → Exploring i dir loads joined level → n.benches < i
      → {all active fresh wait : ℕ} → Sets n low high weight i all dir loads joined level active fresh wait
      → Shown b (explore b) dir loads joined level × ShowsActive b (explore b) active
  exploring_spent {i} {dir} {loads} {joined} {level} E over {active = active} S =
      let none : E.left ≡ 0 = omega (arith, E.in_all, R.benches) in
      subst (λ (x : Explored). Shown b x dir loads joined level × ShowsActive b x active)
      (sym (E.same ∙ ap (λ (k : ℕ). rounds k b i E.now_x) none ∙ rounds-none b i E.now_x))
      (E.shown, active_shown E.now_x E.shown.level S)

  module _ (idle : ℕ) {i all active reach fresh wait opened : ℕ} {reaches dir loads joined level joined' level' : List ℕ} (T : Reaches b reaches)
      (E : Exploring i dir loads joined level) (in-time : i ≤ n.benches)
      (ei : (v : ℕ) → is_set 64 idle v ≡ (is_set 64 all v && not (is_set 64 active v)))
      (e : (v : ℕ) → v < 64 → is_set 64 idle v ≡ true → is_set 64 reach v ≡ any 64 (λ u. is_set 64 fresh u && is_set 64 (get_or reaches u 0) v))
      (S : Sets n low high weight i all dir loads joined level active fresh wait) (O : Raised n i all active reach loads joined level opened joined' level') where
    opened_now : Begun b i E.now_x opened joined' level'
    opened_now =
        begun b n low high weight R i E.now_x all active reach opened fresh wait dir loads joined level joined' level' S O
        E.shown.seen.loaded E.shown.joined E.shown.level
        (λ v h out.
        let small : v < 64 = omega (arith, R.few_benches) in
        reach_shows b R.sound R.few_benches i (omega (arith, R.benches)) reaches E.now_x.level level T E.shown.level reach fresh
        (λ u h. S.freshly u h ∙ ap (λ (m : ℕ). ltb u m && eqb (plus_of (get_or level u 0) 1) i) R.benches) v h
        (e v small (ei v ∙ and_intro (S.alls v small ∙ lt-ltb v n.benches (omega (arith, R.benches))) (not_intro_true out))))

    pub exploring_joined : Rounds b (opened_joined b i E.now_x) joined'
    exploring_joined = opened_now.joined

    pub exploring_ends : opened ≡ 0 → Shown b (explore b) dir loads joined' level' × ShowsActive b (explore b) active
    exploring_ends shut =
        let none = none_opens b i E.now_x R.few_benches opened_now shut in
        subst (λ (x : Explored). Shown b x dir loads joined' level' × ShowsActive b x active)
        (sym (E.same ∙ rounds-stops E.left b i E.now_x none))
        (none_opened b i E.now_x E.shown opened_now none, active_shown E.now_x E.shown.level S)

    pub exploring_goes_on : {dir' loads' joined'' level'' : List ℕ} → 0 < opened → opened < 2 ^ 64
        → ((dirs : Directions) (xs : List ℕ) → Seen b dirs dir loads → Rounds b xs joined' → Built b (construct b.jobs b i dirs xs) dir' loads' joined'')
        → ((dirs : Directions) (xs ys : List ℕ) → Directed b dirs dir' → Rounds b xs joined'' → Rounds b ys level'
        → Rounds b (activate b.benches b i dirs xs ys) level'')
        → Exploring (i + 1) dir' loads' joined'' level''
    exploring_goes_on {dir'} {loads'} {joined''} {level''} some fits build act =
        let x = E.now_x in
        let one : E.left ≡ suc (E.left - 1) = omega (arith, E.in_all, R.benches) in
        let B = build x.dir (opened_joined b i x) E.shown.seen opened_now.joined in
        let c = construct b.jobs b i x.dir (opened_joined b i x) in
        rw add-one (
        record {
          now_x = open_round b i x;
          shown =
              round_shown b i x dir' loads' joined'' level'' B
              (act c.dir c.joined (opened_levels b i x) B.seen.directed B.joined opened_now.level);
          left = E.left - 1;
          in_all = omega (arith, E.in_all, one);
          same =
              E.same ∙ ap (λ (k : ℕ). rounds k b i x) one ∙ rounds-goes (E.left - 1) b i x (some_opens b i x opened_now some fits);
        })
