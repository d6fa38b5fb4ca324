-- The rounds of EXPLORE2: what each keeps, what holds between two rounds, and that there are turns enough for all of them.
--     Ready b dir joined              what holds before each step of the conflict set construction
--     building_induction              what each step of the construction keeps holds at its end
--     building_ready, building_keeps, building_marks      the construction keeps directions, and marks benches with its round
--     building-joins-none, building_fakes_none            at its end no bench joins and no rock is left for a fake orientation
--     activating-length, activating_marks, activating_none    the same for the activation
--     Between b k x                   what holds when round k is to open: no rock is forced, rounds and levels are below k or never, each rock at
--                                     the conflict set is directed, and each bench with a rock into it is in it
--     Round b k x y                   round k leads from x to y
--     opened_joined_marks, opened_level_marks, opened_ready     what opening a round marks, and that the construction may start
--     type_a-level, type_a-joined, other-level, other-joined    what it makes of a Type A bench, and of another one
--     round_steps                     open_round is a round
--     round_keeps, round_marks_joined, round_marks_level      what a round keeps
--     round_ready, round_directed, round_tail_joined      at its end rocks at the conflict set are directed, and tails of rocks into it are in it
--     round_between                   so the next one may open after it
--     type_a-inactive                 a Type A bench was not activated before
use Prim.Native.Nat.{ℕ, zero, suc, ◌≤◌, ◌<◌}
use mathlib.Core.Path.{◌≡◌, refl, ◌∙◌}
use mathlib.Core.Logic.{inl, inr, ⊎_elim}
use mathlib.Core.Bool.{true, false, not, ◌&&◌}
use mathlib.Core.List.{List}
use native.Mathlib.Omega.{arith}
use lib.ListN.{length, set, length-set}
use borrow.Author.Tests.{lt-ltb, ltb-true, ltb-false}
use Rattle.bools.proofs.BoolLaws.{split, clash, and_intro, and_left, and_right, not_intro_true, not-true, and-false_elim, not-false, cond-true, cond-false}
use Rattle.sums.specs.Search.{any}
use Rattle.sums.proofs.SearchLaws.{any_intro}
use Rattle.sums.proofs.TableLaws.{length-table, get_or-table}
use Rattle.sums.proofs.CountLaws.{count-le}
use Rattle.algorithm.specs.Board.{Board, Directions, touches, other, neutral, towards, away}
use Rattle.algorithm.specs.Forced.{direct, forced_orientations}
use Rattle.algorithm.specs.Explore.{activates, Explored, never, round_of, within, in_conflict, activated, father, joins, fake, construct, in_reach, type_a, opened_levels, opened_joined}
use Rattle.algorithm.specs.Explore.{open_round}
use Rattle.algorithm.specs.Properties.{SoundBoard, Pointed, Stable}
use Rattle.algorithm.proofs.GrowthLaws.{Grows, grows_join, grows_refl}
use Rattle.algorithm.proofs.BoardLaws.{touches-below}
use Rattle.algorithm.proofs.ForcedInterface.{ForcedLaws}
use Rattle.algorithm.proofs.Keeping.{Marks, Before, marks_refl, marks_trans, marks-set, before_marks}
use Rattle.algorithm.proofs.RoundSteps.{Building, built, joining, faking, Activating, settled, activating, joins-parts, fake-parts}
use Rattle.algorithm.proofs.RoundSteps.{activates-parts, call-fake, construct-steps, activate-steps}

-- ── the construction ──

pub record Ready (b : Board) (dir : Directions) (joined : List ℕ) : Type 0 where
  pub pointed : Pointed b dir
  pub stable : Stable b dir
  pub joined_length : length joined ≡ b.benches

module _ (b : Board) (ok : SoundBoard b) (laws : ForcedLaws b) where
  ready_join : (i : ℕ) (dir : Directions) (joined : List ℕ) (v : ℕ) → Ready b dir joined → Ready b dir (set joined v i)
  ready_join i dir joined v r = record { pointed = r.pointed; stable = r.stable; joined_length = length-set joined v i ∙ r.joined_length }

  ready-fake : (dir : Directions) (joined : List ℕ) (v j : ℕ) → Ready b dir joined → j < b.jobs → fake b dir joined v j ≡ true
      → Ready b (forced_orientations b (direct b dir v j)) joined
  ready-fake dir joined v j r h f =
      let parts = fake-parts b dir joined v j f in
      let called = call-fake b ok laws dir r.pointed v j h parts.1 parts.2 in
      record { pointed = called.0; stable = called.2; joined_length = r.joined_length }

  pub building_induction : (i : ℕ) (P : Directions → List ℕ → Type 0)
      → ((dir : Directions) (joined : List ℕ) (v : ℕ) → Ready b dir joined → v < b.benches → joins b dir joined v ≡ true
      → P dir joined → P dir (set joined v i))
      → ((dir : Directions) (joined : List ℕ) (v j : ℕ) → Ready b dir joined → v < b.benches → j < b.jobs → fake b dir joined v j ≡ true
      → P dir joined → P (forced_orientations b (direct b dir v j)) joined)
      → {dir last-dir : Directions} {joined last-joined : List ℕ} → Building b i dir joined last-dir last-joined
      → Ready b dir joined → P dir joined → P last-dir last-joined
  building_induction i P join-keeps fake-keeps (built a c) r p = p
  building_induction i P join-keeps fake-keeps (joining {dir = d} {joined = xs} v h p rest) r q =
      building_induction i P join-keeps fake-keeps rest (ready_join i d xs v r) (join-keeps d xs v r h p q)
  building_induction i P join-keeps fake-keeps (faking {dir = d} {joined = xs} v j h hj f rest) r q =
      building_induction i P join-keeps fake-keeps rest (ready-fake d xs v j r hj f) (fake-keeps d xs v j r h hj f q)

  module _ {i : ℕ} {dir last-dir : Directions} {joined last-joined : List ℕ} (building : Building b i dir joined last-dir last-joined) (ready : Ready b dir joined) where
    pub building_ready : Ready b last-dir last-joined
    building_ready =
        building_induction i (Ready b) (λ d xs v r h p q. ready_join i d xs v r) (λ d xs v j r h hj f q. ready-fake d xs v j r hj f) building ready ready

    pub building_keeps : Grows dir last-dir
    building_keeps =
        building_induction i (λ d xs. Grows dir d) (λ d xs v r h p q. q)
        (λ d xs v j r h hj f q.
        let parts = fake-parts b d xs v j f in
        grows_join q (call-fake b ok laws d r.pointed v j hj parts.1 parts.2).3)
        building ready grows_refl

    pub building_marks : Marks b i joined last-joined
    building_marks =
        building_induction i (λ d xs. Marks b i joined xs)
        (λ d xs v r h p q. marks_trans q (marks-set b i xs v r.joined_length h (joins-parts b d xs v p).0))
        (λ d xs v j r h hj f q. q)
        building ready marks_refl

pub building-joins-none : {b : Board} {i : ℕ} {dir last-dir : Directions} {joined last-joined : List ℕ} → Building b i dir joined last-dir last-joined
    → (v : ℕ) → v < b.benches → joins b last-dir last-joined v ≡ false
building-joins-none (built a c) = a
building-joins-none (joining v h p rest) = building-joins-none rest
building-joins-none (faking v j h hj f rest) = building-joins-none rest

pub building_fakes_none : {b : Board} {i : ℕ} {dir last-dir : Directions} {joined last-joined : List ℕ} → Building b i dir joined last-dir last-joined
    → (v j : ℕ) → v < b.benches → j < b.jobs → fake b last-dir last-joined v j ≡ false
building_fakes_none (built a c) = c
building_fakes_none (joining v h p rest) = building_fakes_none rest
building_fakes_none (faking v j h hj f rest) = building_fakes_none rest

-- ── the activation ──

pub activating-length : {b : Board} {i : ℕ} {dir : Directions} {joined level last : List ℕ} → Activating b i dir joined level last → length last ≡ length level
activating-length (settled none) = refl
activating-length {i} (activating {level = xs} v h a rest) = activating-length rest ∙ length-set xs v i

pub activating_marks : {b : Board} {i : ℕ} {dir : Directions} {joined level last : List ℕ} → Activating b i dir joined level last
    → length level ≡ b.benches → Marks b i level last
activating_marks (settled none) l = marks_refl
activating_marks {b} {i} {dir} {joined} (activating {level = xs} v h a rest) l =
    marks_trans (marks-set b i xs v l h (activates-parts b dir joined xs v a).1) (activating_marks rest (length-set xs v i ∙ l))

pub activating_none : {b : Board} {i : ℕ} {dir : Directions} {joined level last : List ℕ} → Activating b i dir joined level last
    → (v : ℕ) → v < b.benches → activates b dir joined last v ≡ false
activating_none (settled none) = none
activating_none (activating v h a rest) = activating_none rest

-- ── rounds ──

pub record Between (b : Board) (k : ℕ) (x : Explored) : Type 0 where
  pub in_time : k ≤ b.benches
  pub pointed : Pointed b x.dir
  pub stable : Stable b x.dir
  pub joined_length : length x.joined ≡ b.benches
  pub level_length : length x.level ≡ b.benches
  pub joined_before : Before b k x.joined
  pub level_before : Before b k x.level
  pub directed : (e v : ℕ) → e < b.jobs → touches b e v ≡ true → round_of b x.joined v ≤ b.benches → neutral x.dir e ≡ false
  pub tail_joined : (e v : ℕ) → e < b.jobs → away b x.dir e v ≡ true → round_of b x.joined (other b e v) ≤ b.benches → round_of b x.joined v ≤ b.benches

pub record Round (b : Board) (k : ℕ) (x y : Explored) : Type 0 where
  pub building : Building b k x.dir (opened_joined b k x) y.dir y.joined
  pub activation : Activating b k y.dir y.joined (opened_levels b k x) y.level

module _ (b : Board) (k : ℕ) (x : Explored) where
  pub type_a-level : (v : ℕ) → v < b.benches → type_a b k x v ≡ true → round_of b (opened_levels b k x) v ≡ k
  type_a-level v h t = get_or-table b.benches _ v (never b) h ∙ cond-true k (round_of b x.level v) t

  pub other-level : (v : ℕ) → v < b.benches → type_a b k x v ≡ false → round_of b (opened_levels b k x) v ≡ round_of b x.level v
  other-level v h t = get_or-table b.benches _ v (never b) h ∙ cond-false k (round_of b x.level v) t

  pub type_a-joined : (v : ℕ) → v < b.benches → type_a b k x v ≡ true → in_conflict b x v ≡ false → round_of b (opened_joined b k x) v ≡ k
  type_a-joined v h t c = get_or-table b.benches _ v (never b) h ∙ cond-true k (round_of b x.joined v) (and_intro t (not_intro_true c))

  pub other-joined : (v : ℕ) → v < b.benches → (type_a b k x v && not (in_conflict b x v)) ≡ false → round_of b (opened_joined b k x) v ≡ round_of b x.joined v
  other-joined v h t = get_or-table b.benches _ v (never b) h ∙ cond-false k (round_of b x.joined v) t

  pub opened_joined_marks : Marks b k x.joined (opened_joined b k x)
  opened_joined_marks =
      record {
        mark = λ v h.
            ⊎_elim
            (λ p.
            let out = not-true (in_conflict b x v) (and_right (type_a b k x v) (not (in_conflict b x v)) p) in
            inr (ltb-false (round_of b x.joined v) (never b) out, type_a-joined v h (and_left (type_a b k x v) (not (in_conflict b x v)) p) out))
            (λ p. inl (other-joined v h p))
            (split (type_a b k x v && not (in_conflict b x v)));
      }

pub type_a-inactive : (b : Board) (k : ℕ) (x : Explored) → Between b k x → (v : ℕ) → v < b.benches → type_a b k x v ≡ true → never b ≤ round_of b x.level v
type_a-inactive b zero x between v h t = ⊎_elim (λ p. absurd (omega arith)) (λ p. omega arith) (between.level_before.before v h)
type_a-inactive b (suc k) x between v h t =
    ltb-false (round_of b x.level v) (never b) (not-true (activated b x v) (and_left (not (activated b x v)) (in_reach b (suc k) x.level v) t))

module _ (b : Board) (ok : SoundBoard b) (laws : ForcedLaws b) (k : ℕ) (x : Explored) (between : Between b k x) where
  pub opened_level_marks : Marks b k x.level (opened_levels b k x)
  opened_level_marks =
      record {
        mark = λ v h.
            ⊎_elim
            (λ p. inr (type_a-inactive b k x between v h p, type_a-level b k x v h p))
            (λ p. inl (other-level b k x v h p))
            (split (type_a b k x v));
      }

  pub opened_ready : Ready b x.dir (opened_joined b k x)
  opened_ready = record { pointed = between.pointed; stable = between.stable; joined_length = length-table b.benches _ }

  pub round_steps : Round b k x (open_round b k x)
  unfolding open_round
  round_steps =
      let joined = opened_joined b k x in
      let level = opened_levels b k x in
      let c = construct b.jobs b k x.dir joined in
      record {
        building = construct-steps b ok laws k between.in_time b.jobs x.dir joined between.pointed (length-table b.benches _)
            (count-le b.jobs (neutral x.dir));
        activation = activate-steps b k between.in_time c.dir c.joined b.benches level (length-table b.benches _)
            (count-le b.benches (λ v. not (within b level v)));
      }

  module _ (y : Explored) (round : Round b k x y) where
    pub round_keeps : Grows x.dir y.dir
    round_keeps = building_keeps b ok laws round.building opened_ready

    pub round_ready : Ready b y.dir y.joined
    round_ready = building_ready b ok laws round.building opened_ready

    pub round_marks_joined : Marks b k x.joined y.joined
    round_marks_joined = marks_trans (opened_joined_marks b k x) (building_marks b ok laws round.building opened_ready)

    pub round_marks_level : Marks b k x.level y.level
    round_marks_level = marks_trans opened_level_marks (activating_marks round.activation (length-table b.benches _))

    pub round_directed : (e v : ℕ) → e < b.jobs → touches b e v ≡ true → round_of b y.joined v ≤ b.benches → neutral y.dir e ≡ false
    round_directed e v h t f =
        ⊎_elim
        (λ p. absurd (omega (arith, ltb-false (round_of b y.joined v) (never b) (⊎_elim (λ q. q) (λ q. clash t q) (and-false_elim (within b y.joined v) (touches b e v) p)))))
        (λ p. p)
        (and-false_elim (within b y.joined v && touches b e v) (neutral y.dir e)
        (building_fakes_none round.building v e (touches-below b ok e v h t) h))

    pub round_tail_joined : (e v : ℕ) → e < b.jobs → away b y.dir e v ≡ true → round_of b y.joined (other b e v) ≤ b.benches
        → round_of b y.joined v ≤ b.benches
    round_tail_joined e v h a f =
        let t = and_left (touches b e v) (towards y.dir e (other b e v)) a in
        let father-here : father b y.dir (within b y.joined) v e ≡ true = and_intro a (lt-ltb (round_of b y.joined (other b e v)) (never b) (omega arith)) in
        ⊎_elim
        (λ p. omega (arith, ltb-true (round_of b y.joined v) (never b) (not-false (within b y.joined v) p)))
        (λ p. clash (any_intro b.jobs (father b y.dir (within b y.joined) v) e h father-here) p)
        (and-false_elim (not (within b y.joined v)) (any b.jobs (father b y.dir (within b y.joined) v))
        (building-joins-none round.building v (touches-below b ok e v h t)))

    pub round_between : k < b.benches → Between b (suc k) y
    round_between h =
        record {
          in_time = h;
          pointed = round_ready.pointed;
          stable = round_ready.stable;
          joined_length = round_ready.joined_length;
          level_length = activating-length round.activation ∙ length-table b.benches _;
          joined_before = before_marks round_marks_joined between.joined_before;
          level_before = before_marks round_marks_level between.level_before;
          directed = round_directed;
          tail_joined = round_tail_joined;
        }
