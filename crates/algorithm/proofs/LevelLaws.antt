-- E6, E8 and E9: what the activation rules and the opening of rounds leave behind.
--     JoinedFirst, Rules, NextLevel       E9, E6 and E8 as statements about a state
--     round_active_joined     after a round, activated benches are in the conflict set
--     round_joined_first, explored_joined_first       a bench joins the conflict set no later than it is activated (E9)
--     settled_one, settled_two    after a round, a bench of the conflict set to which a rule applies is activated
--     round_rules, explored_rules     so the rules hold round by round, and at the end (E6)
--     reached                 a bench in reach of the round before is activated, or opens the round
--     round_next, explored_next       a pebble on a bench of some level may only go to benches of at most one level more (E8)
use Prim.Native.Nat.{ℕ, zero, suc, ◌+◌, ◌≤◌, ◌<◌}
use mathlib.Core.Path.{◌≡◌}
use mathlib.Core.Logic.{◌⊎◌, inl, inr, ⊎_elim}
use mathlib.Core.Bool.{true, ◌&&◌, ◌||◌}
use mathlib.Core.List.{List}
use native.Mathlib.Omega.{arith}
use lib.Seq.{get_or-set_other}
use lib.Dec.{eqb, ltb}
use borrow.Author.Tests.{eq-eqb, ltb-true, lt-ltb}
use Rattle.bools.proofs.BoolLaws.{split, clash, and_intro, and_left, or_left, or_right, not_intro_true}
use Rattle.bools.proofs.OrderLaws.{lt-or-le, eq-or-ne}
use Rattle.sums.proofs.SearchLaws.{any_intro}
use Rattle.sums.proofs.TableLaws.{length-table}
use Rattle.algorithm.specs.Board.{Board, Directions, touches, other, towards, away}
use Rattle.algorithm.specs.Explore.{Explored, never, round_of, within, in_conflict, activated, father, child, critical, rule2, type_a, explore}
use Rattle.algorithm.specs.Properties.{SoundBoard, rnd, lev}
use Rattle.algorithm.proofs.ConflictLaws.{directed_ends}
use Rattle.algorithm.proofs.BoardLaws.{other-below}
use Rattle.algorithm.proofs.ForcedInterface.{ForcedLaws}
use Rattle.algorithm.proofs.Keeping.{keeps-away-back, Marks, marks_old}
use Rattle.algorithm.proofs.RoundSteps.{Activating, settled, activating, activates-parts}
use Rattle.algorithm.proofs.RoundLaws.{Between, Round, building_marks, activating_none, activating_marks, opened_ready, type_a-level}
use Rattle.algorithm.proofs.RoundLaws.{other-level, type_a-joined, round_keeps, round_marks_joined, round_marks_level}
use Rattle.algorithm.proofs.ExploreRounds.{rounds-induction, unexplored-joined, unexplored-between, explore-rounds}

abbrev pub JoinedFirst : Board → Explored → Type 0
JoinedFirst b x = (v : ℕ) → v < b.benches → rnd b x v ≤ lev b x v

pub record Rules (b : Board) (x : Explored) : Type 0 where
  pub one : (i e v : ℕ) → i ≤ b.benches → e < b.jobs → v < b.benches → away b x.dir e v ≡ true → rnd b x v ≤ i
      → rnd b x (other b e v) ≤ i → b.bound < b.own v + b.weight e → lev b x v ≤ i
  pub two : (i e v : ℕ) → i ≤ b.benches → e < b.jobs → v < b.benches → touches b e v ≡ true → b.weight e < b.small → rnd b x v ≤ i
      → lev b x (other b e v) ≤ i → lev b x v ≤ i

abbrev pub NextLevel : Board → ℕ → Explored → Type 0
NextLevel b k x = (j v : ℕ) → j < b.jobs → b.pebble j ≡ true → b.allows j v ≡ true → suc (lev b x (b.place j)) < k → lev b x v ≤ suc (lev b x (b.place j))

module _ (b : Board) (ok : SoundBoard b) (laws : ForcedLaws b) where
  -- ── E9 ──

  activating_joined : {i : ℕ} {dir : Directions} {joined level last : List ℕ} → Activating b i dir joined level last
      → ((v : ℕ) → v < b.benches → round_of b level v ≤ b.benches → round_of b joined v ≤ b.benches)
      → (v : ℕ) → v < b.benches → round_of b last v ≤ b.benches → round_of b joined v ≤ b.benches
  activating_joined (settled none) inside = inside
  activating_joined {i} {dir} {joined} (activating {level = xs} u hu a rest) inside =
      activating_joined rest
      (λ v h f. ⊎_elim
      (λ e. rw e (omega (arith, ltb-true (round_of b joined u) (never b) (activates-parts b dir joined xs u a).0)))
      (λ ne. inside v h (omega (arith, get_or-set_other xs u v i (never b) ne)))
      (eq-or-ne v u))

  pub round_active_joined : (k : ℕ) (x z : Explored) → Between b k x → Round b k x z → JoinedFirst b x
      → (v : ℕ) → v < b.benches → lev b z v ≤ b.benches → rnd b z v ≤ b.benches
  round_active_joined k x z between round first =
      activating_joined round.activation
      (λ v h f.
      let marks = building_marks b ok laws round.building (opened_ready b ok laws k x between) in
      let old : rnd b x v ≤ b.benches → rnd b z v ≤ b.benches = λ g. let same = marks_old (round_marks_joined b ok laws k x between z round) v h g in omega arith in
      ⊎_elim
      (λ t. ⊎_elim
      (λ c. old (omega (arith, ltb-true (rnd b x v) (never b) c)))
      (λ c.
      let opened = type_a-joined b k x v h t c in
      let same = marks_old marks v h (omega (arith, between.in_time)) in
      omega (arith, between.in_time))
      (split (in_conflict b x v)))
      (λ t. old (omega (arith, first v h, other-level b k x v h t)))
      (split (type_a b k x v)))

  pub round_joined_first : (k : ℕ) (x z : Explored) → Between b k x → Round b k x z → Between b (suc k) z → JoinedFirst b x → JoinedFirst b z
  round_joined_first k x z between round after first v h =
      let joined-now = after.joined_before.before v h in
      let joined : lev b z v ≤ b.benches → rnd b z v ≤ b.benches = round_active_joined k x z between round first v h in
      ⊎_elim
      (λ same. ⊎_elim
      (λ old. let kept = marks_old (round_marks_joined b ok laws k x between z round) v h (omega (arith, first v h, between.in_time)) in omega (arith, first v h))
      (λ never-yet. ⊎_elim (λ q. omega (arith, between.in_time)) (λ q. omega arith) joined-now)
      (between.level_before.before v h))
      (λ new. ⊎_elim (λ q. omega arith) (λ q. absurd (omega (arith, joined (omega (arith, between.in_time))))) joined-now)
      ((round_marks_level b ok laws k x between z round).mark v h)

  pub explored_joined_first : JoinedFirst b (explore b)
  explored_joined_first =
      (rounds-induction b ok laws (λ k x. JoinedFirst b x) (explore b)
      (λ k x z hk between round after rest p. round_joined_first k x z between round after p)
      (explore-rounds b ok laws) (unexplored-between b ok laws) (λ v h. omega (arith, unexplored-joined b ok laws v h))
      ).kept

  -- ── E6 ──

  module _ (k : ℕ) (x z : Explored) (round : Round b k x z) where
    settled_rule : (v : ℕ) → v < b.benches → rnd b z v ≤ b.benches → (critical b z.dir z.joined v || rule2 b z.dir z.joined z.level v) ≡ true
        → lev b z v ≤ b.benches
    settled_rule v h f rule =
        ⊎_elim
        (λ p. omega (arith, ltb-true (lev b z v) (never b) p))
        (λ p. clash (and_intro (and_intro (lt-ltb (rnd b z v) (never b) (omega arith)) (not_intro_true p)) rule) (activating_none round.activation v h))
        (split (within b z.level v))

    pub settled_one : (e v : ℕ) → e < b.jobs → v < b.benches → away b z.dir e v ≡ true → rnd b z v ≤ b.benches → rnd b z (other b e v) ≤ b.benches
        → b.bound < b.own v + b.weight e → lev b z v ≤ b.benches
    settled_one e v h hv a f g over =
        settled_rule v hv f
        (or_left (rule2 b z.dir z.joined z.level v)
        (any_intro b.jobs (λ j. father b z.dir (within b z.joined) v j && ltb b.bound (b.own v + b.weight j)) e h
        (and_intro (and_intro a (lt-ltb (rnd b z (other b e v)) (never b) (omega arith))) (lt-ltb b.bound (b.own v + b.weight e) over))))

    pub settled_two : (e v : ℕ) → e < b.jobs → v < b.benches → (towards z.dir e v ≡ true) ⊎ (away b z.dir e v ≡ true) → touches b e v ≡ true
        → b.weight e < b.small → rnd b z v ≤ b.benches → rnd b z (other b e v) ≤ b.benches → lev b z (other b e v) ≤ b.benches → lev b z v ≤ b.benches
    settled_two e v h hv direction t small f g active =
        let conflict : within b z.joined (other b e v) ≡ true = lt-ltb (rnd b z (other b e v)) (never b) (omega arith) in
        let near : (father b z.dir (within b z.joined) v e || child b z.dir (within b z.joined) v e) ≡ true =
        ⊎_elim (λ s. or_right (father b z.dir (within b z.joined) v e) (and_intro (and_intro t s) conflict))
        (λ a. or_left (child b z.dir (within b z.joined) v e) (and_intro a conflict)) direction
        in
        settled_rule v hv f
        (or_right (critical b z.dir z.joined v)
        (any_intro b.jobs
        (λ j. (father b z.dir (within b z.joined) v j || child b z.dir (within b z.joined) v j) && within b z.level (other b j v) && ltb (b.weight j) b.small)
        e h
        (and_intro (and_intro near (lt-ltb (lev b z (other b e v)) (never b) (omega arith))) (lt-ltb (b.weight e) b.small small))))

  -- Where both ends were in play before the round, the rule holds by then; otherwise i is at least k, and the rule holds since no rule applies any more.
  pub round_rules : (k : ℕ) (x z : Explored) → Between b k x → Round b k x z → Between b (suc k) z → JoinedFirst b z → Rules b x → Rules b z
  round_rules k x z between round after first rules =
      record {
        one = λ i e v hi h hv a f g over.
            let t = and_left (touches b e v) (towards z.dir e (other b e v)) a in
            let hu : other b e v < b.benches = other-below b ok e v h t in
            let now : lev b z v ≤ b.benches = settled_one k x z round e v h hv a (omega arith) (omega arith) over in
            let late : k ≤ i → lev b z v ≤ i = λ l. ⊎_elim (λ q. omega arith) (λ q. absurd (omega arith)) (after.level_before.before v hv) in
            ⊎_elim
            (λ sv. ⊎_elim
            (λ su.
            let back = keeps-away-back b (round_keeps b ok laws k x between z round) e v (between.directed e v h t (omega arith)) a in
            let old = rules.one i e v hi h hv back (omega arith) (omega arith) over in
            let same = marks_old (round_marks_level b ok laws k x between z round) v hv (omega arith) in
            omega arith)
            (λ nu. late (omega arith))
            (joined-marks.mark (other b e v) hu))
            (λ nv. late (omega arith))
            (joined-marks.mark v hv);
        two = λ i e v hi h hv t small f g.
            let hu : other b e v < b.benches = other-below b ok e v h t in
            let gu = first (other b e v) hu in
            let now : lev b z v ≤ b.benches = settled_two k x z round e v h hv
            (directed_ends b ok z.dir after.pointed e v h t (after.directed e v h t (omega arith))) t small (omega arith) (omega arith) (omega arith)
            in
            let late : k ≤ i → lev b z v ≤ i = λ l. ⊎_elim (λ q. omega arith) (λ q. absurd (omega arith)) (after.level_before.before v hv) in
            ⊎_elim
            (λ sv. ⊎_elim
            (λ su.
            let old = rules.two i e v hi h hv t small (omega arith) (omega arith) in
            let same = marks_old (round_marks_level b ok laws k x between z round) v hv (omega arith) in
            omega arith)
            (λ nu. late (omega arith))
            (level-marks.mark (other b e v) hu))
            (λ nv. late (omega arith))
            (joined-marks.mark v hv);
      }
    where
      joined-marks : Marks b k x.joined z.joined
      joined-marks = round_marks_joined b ok laws k x between z round

      level-marks : Marks b k x.level z.level
      level-marks = round_marks_level b ok laws k x between z round

  pub explored_rules : Rules b (explore b)
  explored_rules =
      (rounds-induction b ok laws (λ k x. JoinedFirst b x × Rules b x) (explore b)
      (λ k x z hk between round after rest p.
      let first = round_joined_first k x z between round after p.0 in
      (first, round_rules k x z between round after first p.1))
      (explore-rounds b ok laws) (unexplored-between b ok laws) (
        (λ v h. omega (arith, unexplored-joined b ok laws v h)),
        record {
          one = λ i e v hi h hv a f g over. absurd (omega (arith, unexplored-joined b ok laws v hv));
          two = λ i e v hi h hv t small f g. absurd (omega (arith, unexplored-joined b ok laws v hv));
        },
      )
      ).kept.1

  -- ── E8 ──

  pub reached : (k : ℕ) (x : Explored) → Between b k x → (j v : ℕ) → j < b.jobs → b.pebble j ≡ true → b.allows j v ≡ true
      → suc (lev b x (b.place j)) ≡ k → (lev b x v < k) ⊎ (type_a b k x v ≡ true)
  reached zero x between j v h p a e = absurd (omega arith)
  reached (suc k) x between j v h p a e =
      ⊎_elim
      (λ active.
      let inside = ltb-true (lev b x v) (never b) active in
      ⊎_elim inl (λ q. absurd (omega arith)) (between.level_before.before v (ok.allowed_below j v h a)))
      (λ idle. inr (and_intro (not_intro_true idle)
      (any_intro b.jobs (λ i. b.pebble i && b.allows i v && eqb (suc (round_of b x.level (b.place i))) (suc k)) j h
      (and_intro (and_intro p a) (eq-eqb (suc (lev b x (b.place j))) (suc k) e)))))
      (split (activated b x v))

  pub round_next : (k : ℕ) (x z : Explored) → Between b k x → Round b k x z → NextLevel b k x → NextLevel b (suc k) z
  round_next k x z between round next j v h p a less =
      let hv = ok.allowed_below j v h a in
      let there = ok.allowed_below j (b.place j) h (ok.pebble_allowed j h p) in
      let marks = round_marks_level b ok laws k x between z round in
      ⊎_elim
      (λ same. ⊎_elim
      (λ early.
      let old = next j v h p a (omega arith) in
      let kept = marks_old marks v hv (omega (arith, between.in_time)) in
      omega arith)
      (λ now. ⊎_elim
      (λ q. let kept = marks_old marks v hv (omega (arith, between.in_time)) in omega arith)
      (λ t.
      let opened = type_a-level b k x v hv t in
      let kept = marks_old (activating_marks round.activation (length-table b.benches _)) v hv (omega (arith, between.in_time)) in
      omega arith)
      (reached k x between j v h p a (omega arith)))
      (lt-or-le (suc (lev b x (b.place j))) k))
      (λ new. absurd (omega arith))
      (marks.mark (b.place j) there)

  pub explored_next : (j v : ℕ) → j < b.jobs → b.pebble j ≡ true → b.allows j v ≡ true → lev b (explore b) (b.place j) ≤ b.benches
      → lev b (explore b) v ≤ suc (lev b (explore b) (b.place j))
  explored_next j v h p a f =
      let there = ok.allowed_below j (b.place j) h (ok.pebble_allowed j h p) in
      let ended = rounds-induction b ok laws (NextLevel b) (explore b) (λ k x z hk between round after rest q. round_next k x z between round q)
      (explore-rounds b ok laws) (unexplored-between b ok laws) (λ i u hi q c l. absurd (omega arith))
      in
      let k = ended.rounds_done in
      let before = ended.between.level_before.before (b.place j) there in
      ⊎_elim
      (ended.kept j v h p a)
      (λ last. ⊎_elim
      (λ below. ⊎_elim (λ q. omega arith) (λ t. clash t (ended.none_opens v (ok.allowed_below j v h a))) (reached k (explore b) ended.between j v h p a (omega arith)))
      (λ q. absurd (omega arith))
      before)
      (lt-or-le (suc (lev b (explore b) (b.place j))) k)
