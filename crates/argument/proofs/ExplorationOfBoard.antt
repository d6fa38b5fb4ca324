-- What an exploration of a board leaves behind, as the argument for blocking sets takes it: from E1 to E9 to the hypotheses H1 to H6.
--     head_of, tail_of         the ends of a rock as it is directed; a neutral one has no end in the conflict set, and its ends are as good either way
--     reached_by, opens       a pebble of a lower level may go to the bench; the activated benches that are overloaded or reached so (Type A)
--     exploration_of          the exploration of a board
--     conflict_round, round_conflict, activated-level, level-activated    the two sets, by rounds and levels
--     head-touches, tail-other        the head is an end of the rock, and the tail the other one
--     head_at, tail_at        the ends of a rock that is directed to v
--     inside-towards          a rock inside the conflict set is directed to its head
--     tail_first              the tail of a directed rock joined the conflict set no later than its head
--     inside_of               a directed rock with both ends in the conflict set is inside
--     into-rock, into-rock_load       the rocks inside with head v are all rocks directed to v, for a bench v of the conflict set
--     father_of               a rock away from v, inside, as a father
use Prim.Native.Nat.{ℕ, suc, ◌+◌, ◌-◌, ◌≤◌, ◌<◌}
use mathlib.Core.Path.{◌≡◌, refl, sym, ap, subst, ◌∙◌}
use mathlib.Core.Logic.{inl, inr, ⊎_elim}
use mathlib.Core.Bool.{Bool, true, false, cond, ◌&&◌, ◌||◌}
use native.Mathlib.Omega.{arith}
use lib.ListN.{get_or}
use lib.Dec.{eqb, ltb}
use borrow.Author.Tests.{lt-ltb, ltb-true, eq-eqb, ne_eqb, eqb-true}
use Rattle.bools.proofs.BoolLaws.{split, clash, and_intro, and_left, and_right, bool_ext}
use Rattle.bools.proofs.OrderLaws.{lt-or-le}
use Rattle.sums.specs.Sum.{on}
use Rattle.sums.specs.Search.{any}
use Rattle.sums.proofs.SumLaws.{sum_cong}
use Rattle.algorithm.specs.Board.{Board, Directions, touches, other, neutral, towards, away, rock_load, load}
use Rattle.algorithm.specs.Explore.{Explored, never, in_conflict, activated}
use Rattle.algorithm.specs.Properties.{SoundBoard, Facts, rnd, lev}
use Rattle.algorithm.proofs.BoardLaws.{touches-rock, touches-end, touches-low, touches-high, other-low, other-high, other-touches, other-other, other-below, other_differs, touches-below, towards-unique}
use Rattle.argument.specs.Exploration.{Exploration, FatherAbove, inside, into}
use Rattle.argument.proofs.ExplorationLaws.{inside_intro, inside-rock, inside-head}

abbrev pub head_of : Board → Directions → ℕ → ℕ
head_of b dir e = cond (towards dir e (b.low e)) (b.low e) (b.high e)

abbrev pub tail_of : Board → Directions → ℕ → ℕ
tail_of b dir e = cond (towards dir e (b.low e)) (b.high e) (b.low e)

abbrev pub reached_by : Board → Explored → ℕ → ℕ → Bool
reached_by b x v j = b.pebble j && b.allows j v && ltb (lev b x (b.place j)) (lev b x v)

abbrev pub opens : Board → Explored → ℕ → Bool
opens b x v = activated b x v && (ltb b.bound (load b x.dir v) || any b.jobs (reached_by b x v))

abbrev pub exploration_of : (b : Board) (x : Explored) → SoundBoard b → Facts b x → Exploration
exploration_of b x ok facts =
    record {
      d = ok.limits.d;
      R = b.small;
      h = b.bound - b.limit;
      benches = b.benches;
      jobs = b.jobs;
      rock = b.rock;
      head = head_of b x.dir;
      tail = tail_of b x.dir;
      weight = b.weight;
      conflict = in_conflict b x;
      activated = activated b x;
      type_a = opens b x;
      rank = facts.rank;
      own = b.own;
    }

-- ── rounds and levels ──

module _ (b : Board) (x : Explored) (v : ℕ) where
  pub conflict_round : in_conflict b x v ≡ true → rnd b x v ≤ b.benches
  conflict_round p = omega (arith, ltb-true (rnd b x v) (never b) p)

  pub round_conflict : rnd b x v ≤ b.benches → in_conflict b x v ≡ true
  round_conflict p = lt-ltb (rnd b x v) (never b) (omega arith)

  pub activated-level : activated b x v ≡ true → lev b x v ≤ b.benches
  activated-level p = omega (arith, ltb-true (lev b x v) (never b) p)

  pub level-activated : lev b x v ≤ b.benches → activated b x v ≡ true
  level-activated p = lt-ltb (lev b x v) (never b) (omega arith)

-- ── the ends of a directed rock ──

module _ (b : Board) (dir : Directions) (ok : SoundBoard b) (e : ℕ) (le : e < b.jobs) where
  pub head-touches : b.rock e ≡ true → touches b e (head_of b dir e) ≡ true
  head-touches r = elim (split (towards dir e (b.low e))) [ inl p ↦ rw p (touches-low b e r) | inr p ↦ rw p (touches-high b e r) ]

  pub tail-other : b.rock e ≡ true → tail_of b dir e ≡ other b e (head_of b dir e)
  tail-other r = elim (split (towards dir e (b.low e))) [
    | inl p ↦ rw p (sym (other-low b e (b.low e) refl))
    | inr p ↦ rw p (sym (other-high b ok e (b.high e) le r refl))
  ]

  module _ (v : ℕ) (t : touches b e v ≡ true) where
    pub head_at : towards dir e v ≡ true → head_of b dir e ≡ v
    head_at to =
        let is : get_or dir e 0 ≡ suc v = eqb-true (get_or dir e 0) (suc v) to in
        ⊎_elim
        (λ p. let low : towards dir e (b.low e) ≡ true = eq-eqb (get_or dir e 0) (suc (b.low e)) (omega arith) in rw low (sym p))
        (λ p.
        let less : b.low e < b.high e = ok.ends_differ e le (touches-rock b e v t) in
        let low : towards dir e (b.low e) ≡ false = ne_eqb (get_or dir e 0) (suc (b.low e)) (λ q. omega arith) in
        rw low (sym p))
        (touches-end b e v t)

    pub tail_at : towards dir e v ≡ true → tail_of b dir e ≡ other b e v
    tail_at to = tail-other (touches-rock b e v t) ∙ ap (other b e) (head_at to)

module _ (b : Board) (x : Explored) (ok : SoundBoard b) (facts : Facts b x) where
  -- With an end in the conflict set a rock is directed (E1), and then to its head.
  pub inside-towards : (e : ℕ) → e < b.jobs → inside (exploration_of b x ok facts) e ≡ true → towards x.dir e (head_of b x.dir e) ≡ true
  inside-towards e le i =
      let E : Exploration = exploration_of b x ok facts in
      let r : b.rock e ≡ true = inside-rock E e i in
      let t : touches b e (head_of b x.dir e) ≡ true = head-touches b x.dir ok e le r in
      let set : neutral x.dir e ≡ false =
      facts.conflict_directed e (head_of b x.dir e) le (touches-below b ok e (head_of b x.dir e) le t) t
      (conflict_round b x (head_of b x.dir e) (inside-head E e i))
      in
      elim (split (towards x.dir e (b.low e))) [
        | inl p ↦ rw p p
        | inr p ↦ rw p (elim (facts.pointed.to_an_end e le r) [
          | inl n ↦ clash (eq-eqb (get_or x.dir e 0) 0 n) set
          | inr q ↦ elim q [
            | inl low ↦ clash (eq-eqb (get_or x.dir e 0) (suc (b.low e)) low) p
            | inr high ↦ eq-eqb (get_or x.dir e 0) (suc (b.high e)) high
          ]
        ])
      ]

  module _ (e v : ℕ) (le : e < b.jobs) (lv : v < b.benches) (t : touches b e v ≡ true) (to : towards x.dir e v ≡ true) where
    pub tail_first : rnd b x (other b e v) ≤ rnd b x v
    tail_first = elim (lt-or-le (rnd b x v) (rnd b x (other b e v))) [
      | inr p ↦ p
      | inl p ↦
          let back : rnd b x (other b e (other b e v)) ≡ rnd b x v = ap (rnd b x) (other-other b ok e v le t) in
          absurd (other_differs b ok e v le t
          (towards-unique x.dir e (other b e v) v
          (facts.border e (other b e v) le (other-below b ok e v le t) (other-touches b ok e v le t) (omega arith)) to))
    ]

    pub inside_of : in_conflict b x v ≡ true → in_conflict b x (other b e v) ≡ true → inside (exploration_of b x ok facts) e ≡ true
    inside_of c c' =
        inside_intro (exploration_of b x ok facts) e (touches-rock b e v t)
        (ap (in_conflict b x) (head_at b x.dir ok e le v t to) ∙ c)
        (ap (in_conflict b x) (tail_at b x.dir ok e le v t to) ∙ c')

  module _ (v : ℕ) (lv : v < b.benches) (c : in_conflict b x v ≡ true) where
    into-rock : (e : ℕ) → e < b.jobs
        → (inside (exploration_of b x ok facts) e && eqb (head_of b x.dir e) v) ≡ (touches b e v && towards x.dir e v)
    into-rock e le =
        bool_ext _ _
        (λ p.
        let E : Exploration = exploration_of b x ok facts in
        let i : inside E e ≡ true = and_left (inside E e) (eqb (head_of b x.dir e) v) p in
        let h : head_of b x.dir e ≡ v = eqb-true (head_of b x.dir e) v (and_right (inside E e) (eqb (head_of b x.dir e) v) p) in
        and_intro
        (subst (λ (u : ℕ). touches b e u ≡ true) h (head-touches b x.dir ok e le (inside-rock E e i)))
        (subst (λ (u : ℕ). towards x.dir e u ≡ true) h (inside-towards e le i)))
        (λ p.
        let t : touches b e v ≡ true = and_left (touches b e v) (towards x.dir e v) p in
        let to : towards x.dir e v ≡ true = and_right (touches b e v) (towards x.dir e v) p in
        let first : rnd b x (other b e v) ≤ b.benches = omega (arith, tail_first e v le lv t to, conflict_round b x v c) in
        and_intro (inside_of e v le lv t to c (round_conflict b x (other b e v) first)) (eq-eqb (head_of b x.dir e) v (head_at b x.dir ok e le v t to)))

    pub into-rock_load : into (exploration_of b x ok facts) v ≡ rock_load b x.dir v
    unfolding rock_load
    into-rock_load = sum_cong b.jobs _ _ (λ e le. ap (λ (k : Bool). on k (b.weight e)) (into-rock e le))

  pub father_of : (c z e v : ℕ) → e < b.jobs → v < b.benches → away b x.dir e v ≡ true → in_conflict b x v ≡ true → in_conflict b x (other b e v) ≡ true
      → c < z + b.weight e → FatherAbove (exploration_of b x ok facts) c z v
  father_of c z e v le lv a cv cu above =
      let t : touches b e v ≡ true = and_left (touches b e v) (towards x.dir e (other b e v)) a in
      let to : towards x.dir e (other b e v) ≡ true = and_right (touches b e v) (towards x.dir e (other b e v)) a in
      let u : touches b e (other b e v) ≡ true = other-touches b ok e v le t in
      let back : other b e (other b e v) ≡ v = other-other b ok e v le t in
      record {
        father = e;
        below = le;
        within = inside_of e (other b e v) le (other-below b ok e v le t) u to cu (ap (in_conflict b x) back ∙ cv);
        leaves = tail_at b x.dir ok e le (other b e v) u to ∙ back;
        above = above;
      }
