-- A round of EXPLORE2 as single steps, and that its loops have turns enough.
--     Building b i dir joined dir' joined'        conflict set construction: benches join, rocks are directed by fake orientations, until neither is left
--     activates                                   a bench of the conflict set that a rule activates
--     Activating b i dir joined level level'      activation of nodes, until no rule applies
--     joins-parts, fake-parts, activates-parts    what a step stands for
--     conflict_set-length, conflict_set-closed, conflict_set-steps  with as many turns as benches outside, no bench is left that joins
--     call-fake                                   what FORCED ORIENTATIONS gives after a fake orientation
--     construct-steps                             with as many turns as neutral rocks, construct is such a construction
--     activate-steps                              with as many turns as benches that are not activated, activate is such an activation
use Prim.Native.Nat.{ℕ, zero, suc, ◌≤◌, ◌<◌}
use mathlib.Core.Path.{◌≡◌, refl, sym, ap, subst, ◌∙◌}
use mathlib.Core.Logic.{⊎_elim}
use mathlib.Core.Bool.{true, false, not, ◌&&◌, ◌||◌}
use mathlib.Core.List.{List}
use native.Mathlib.Omega.{arith}
use lib.ListN.{length, set, length-set}
use lib.Seq.{get_or-set_same, get_or-set_other}
use lib.Dec.{ltb}
use borrow.Author.Tests.{lt-ltb, ltb-true, ltb-false}
use Rattle.bools.proofs.BoolLaws.{split, clash, and_left, and_right, and-false_left, and-false_right, not_intro_true, not_intro_false, not-true}
use Rattle.bools.proofs.OrderLaws.{eq-or-ne}
use Rattle.sums.specs.Sum.{count}
use Rattle.sums.specs.Search.{any, least}
use Rattle.sums.proofs.SearchLaws.{least-holds, least-before, any_elim, any_none, any-least}
use Rattle.sums.proofs.CountLaws.{count-le, count-strict, count-zero}
use Rattle.algorithm.specs.Board.{Board, Directions, touches, other, neutral}
use Rattle.algorithm.specs.Forced.{direct, forced_orientations}
use Rattle.algorithm.specs.Explore.{activates, never, round_of, within, father, joins, conflict_set, fake, Constructed, construct, critical, rule2, activate}
use Rattle.algorithm.specs.Properties.{SoundBoard, Pointed, ForcedSteps, Stable}
use Rattle.algorithm.proofs.GrowthLaws.{Grows, grows-direct, grows_join}
use Rattle.algorithm.proofs.StepLaws.{steps_grow}
use Rattle.algorithm.proofs.BoardLaws.{direct-towards, pointed-direct}
use Rattle.algorithm.proofs.ForcedInterface.{ForcedLaws}
use Rattle.algorithm.proofs.Keeping.{keeps_directed, towards-directed}

pub data Building (b : Board) (i : ℕ) : Directions → List ℕ → Directions → List ℕ → Type 0 where
  built : {dir : Directions} {joined : List ℕ}
      → ((v : ℕ) → v < b.benches → joins b dir joined v ≡ false)
      → ((v j : ℕ) → v < b.benches → j < b.jobs → fake b dir joined v j ≡ false)
      → Building b i dir joined dir joined
  joining : {dir last-dir : Directions} {joined last-joined : List ℕ} (v : ℕ) → v < b.benches → joins b dir joined v ≡ true
      → Building b i dir (set joined v i) last-dir last-joined → Building b i dir joined last-dir last-joined
  faking : {dir last-dir : Directions} {joined last-joined : List ℕ} (v j : ℕ) → v < b.benches → j < b.jobs → fake b dir joined v j ≡ true
      → Building b i (forced_orientations b (direct b dir v j)) joined last-dir last-joined → Building b i dir joined last-dir last-joined

pub data Activating (b : Board) (i : ℕ) (dir : Directions) (joined : List ℕ) : List ℕ → List ℕ → Type 0 where
  settled : {level : List ℕ} → ((v : ℕ) → v < b.benches → activates b dir joined level v ≡ false) → Activating b i dir joined level level
  activating : {level last : List ℕ} (v : ℕ) → v < b.benches → activates b dir joined level v ≡ true
      → Activating b i dir joined (set level v i) last → Activating b i dir joined level last

-- ── the parts of a step ──

pub joins-parts : (b : Board) (dir : Directions) (joined : List ℕ) (v : ℕ) → joins b dir joined v ≡ true
    → (within b joined v ≡ false) × ((e : ℕ) × (e < b.jobs) × (father b dir (within b joined) v e ≡ true))
joins-parts b dir joined v p = (
  not-true (within b joined v) (and_left (not (within b joined v)) (any b.jobs (father b dir (within b joined) v)) p),
  any_elim b.jobs (father b dir (within b joined) v) (and_right (not (within b joined v)) (any b.jobs (father b dir (within b joined) v)) p),
)

pub fake-parts : (b : Board) (dir : Directions) (joined : List ℕ) (v j : ℕ) → fake b dir joined v j ≡ true
    → (within b joined v ≡ true) × (touches b j v ≡ true) × (neutral dir j ≡ true)
fake-parts b dir joined v j p =
    let both = and_left (within b joined v && touches b j v) (neutral dir j) p in
    (and_left (within b joined v) (touches b j v) both, and_right (within b joined v) (touches b j v) both, and_right (within b joined v && touches b j v) (neutral dir j) p)

pub activates-parts : (b : Board) (dir : Directions) (joined level : List ℕ) (v : ℕ) → activates b dir joined level v ≡ true
    → (within b joined v ≡ true) × (within b level v ≡ false) × ((critical b dir joined v || rule2 b dir joined level v) ≡ true)
activates-parts b dir joined level v p =
    let both = and_left (within b joined v && not (within b level v)) (critical b dir joined v || rule2 b dir joined level v) p in (
      and_left (within b joined v) (not (within b level v)) both,
      not-true (within b level v) (and_right (within b joined v) (not (within b level v)) both),
      and_right (within b joined v && not (within b level v)) (critical b dir joined v || rule2 b dir joined level v) p,
    )

-- ── counting turns ──

-- A bench that gets a round leaves the benches without one.
outside_drops : (b : Board) (i : ℕ) (xs : List ℕ) (v : ℕ) → i ≤ b.benches → length xs ≡ b.benches → v < b.benches → within b xs v ≡ false
    → count b.benches (λ u. not (within b (set xs v i) u)) < count b.benches (λ u. not (within b xs u))
outside_drops b i xs v hi l h w =
    count-strict b.benches (λ u. not (within b (set xs v i) u)) (λ u. not (within b xs u)) v
    (λ u hu p. ⊎_elim
    (λ e. rw e (not_intro_true w))
    (λ ne. ap (λ (n : ℕ). not (ltb n (never b))) (sym (get_or-set_other xs v u i (never b) ne)) ∙ p)
    (eq-or-ne u v))
    h
    (not_intro_false (lt-ltb (round_of b (set xs v i) v) (never b) (omega (arith, get_or-set_same xs v i (never b) (omega arith)))))
    (not_intro_true w)

abbrev joiner : Board → Directions → List ℕ → ℕ
joiner b dir joined = least b.benches (joins b dir joined)

module _ (b : Board) (i : ℕ) (dir : Directions) where
  conflict_set-stop : (k : ℕ) (joined : List ℕ) → ltb (joiner b dir joined) b.benches ≡ false → conflict_set (suc k) b i dir joined ≡ joined
  unfolding conflict_set
  conflict_set-stop k joined p = rw (p, conflict_set)

  conflict_set-turn : (k : ℕ) (joined : List ℕ) → ltb (joiner b dir joined) b.benches ≡ true
      → conflict_set (suc k) b i dir joined ≡ conflict_set k b i dir (set joined (joiner b dir joined) i)
  unfolding conflict_set
  conflict_set-turn k joined p = rw (p, conflict_set)

  conflict_set-none : (joined : List ℕ) → conflict_set zero b i dir joined ≡ joined
  unfolding conflict_set
  conflict_set-none joined = refl

  pub conflict_set-length : (k : ℕ) (joined : List ℕ) → length (conflict_set k b i dir joined) ≡ length joined
  conflict_set-length zero joined = ap length (conflict_set-none joined)
  conflict_set-length (suc k) joined =
      ⊎_elim
      (λ p. ap length (conflict_set-turn k joined p) ∙ conflict_set-length k (set joined (joiner b dir joined) i) ∙ length-set joined (joiner b dir joined) i)
      (λ p. ap length (conflict_set-stop k joined p))
      (split (ltb (joiner b dir joined) b.benches))

  pub conflict_set-closed : i ≤ b.benches → (k : ℕ) (joined : List ℕ) → length joined ≡ b.benches
      → count b.benches (λ v. not (within b joined v)) ≤ k
      → (v : ℕ) → v < b.benches → joins b dir (conflict_set k b i dir joined) v ≡ false
  conflict_set-closed hi zero joined l c v h =
      subst (λ (xs : List ℕ). joins b dir xs v ≡ false) (sym (conflict_set-none joined))
      (and-false_left (any b.jobs (father b dir (within b joined) v)) (count-zero b.benches (λ u. not (within b joined u)) (omega arith) v h))
  conflict_set-closed hi (suc k) joined l c v h =
      ⊎_elim
      (λ p.
      let w = joiner b dir joined in
      let hw : w < b.benches = ltb-true w b.benches p in
      let parts = joins-parts b dir joined w (least-holds b.benches (joins b dir joined) hw) in
      subst (λ (xs : List ℕ). joins b dir xs v ≡ false) (sym (conflict_set-turn k joined p))
      (conflict_set-closed hi k (set joined w i) (length-set joined w i ∙ l) (omega (arith, outside_drops b i joined w hi l hw parts.0)) v h))
      (λ p. subst (λ (xs : List ℕ). joins b dir xs v ≡ false) (sym (conflict_set-stop k joined p))
      (least-before b.benches (joins b dir joined) v (omega (arith, ltb-false (joiner b dir joined) b.benches p))))
      (split (ltb (joiner b dir joined) b.benches))

  pub conflict_set-steps : (k : ℕ) (joined : List ℕ) (last-dir : Directions) (last-joined : List ℕ)
      → Building b i dir (conflict_set k b i dir joined) last-dir last-joined → Building b i dir joined last-dir last-joined
  conflict_set-steps zero joined d xs go = subst (λ (ys : List ℕ). Building b i dir ys d xs) (conflict_set-none joined) go
  conflict_set-steps (suc k) joined d xs go =
      ⊎_elim
      (λ p.
      let w = joiner b dir joined in
      let hw : w < b.benches = ltb-true w b.benches p in
      joining w hw (least-holds b.benches (joins b dir joined) hw)
      (conflict_set-steps k (set joined w i) d xs (subst (λ (ys : List ℕ). Building b i dir ys d xs) (conflict_set-turn k joined p) go)))
      (λ p. subst (λ (ys : List ℕ). Building b i dir ys d xs) (conflict_set-stop k joined p) go)
      (split (ltb (joiner b dir joined) b.benches))

-- ── conflict set construction ──

module _ (b : Board) (ok : SoundBoard b) (laws : ForcedLaws b) where
  -- After a fake orientation the rock j is directed away from v, FORCED ORIENTATIONS goes on from there, and directions are kept.
  pub call-fake : (dir : Directions) → Pointed b dir → (v j : ℕ) → j < b.jobs → touches b j v ≡ true → neutral dir j ≡ true
      → Pointed b (forced_orientations b (direct b dir v j)) × ForcedSteps b (direct b dir v j) (forced_orientations b (direct b dir v j))
      × Stable b (forced_orientations b (direct b dir v j)) × Grows dir (forced_orientations b (direct b dir v j))
  call-fake dir pointed v j h t n =
      let called = laws.call (direct b dir v j) (pointed-direct b ok dir pointed v j h t) in
      (called.0, called.1, called.2, grows_join (grows-direct b dir v j n) (steps_grow b called.1))

  neutral-drops : (dir : Directions) → Pointed b dir → (v j : ℕ) → j < b.jobs → touches b j v ≡ true → neutral dir j ≡ true
      → count b.jobs (neutral (forced_orientations b (direct b dir v j))) < count b.jobs (neutral dir)
  neutral-drops dir pointed v j h t n =
      let called = call-fake dir pointed v j h t n in
      let later = forced_orientations b (direct b dir v j) in
      count-strict b.jobs (neutral later) (neutral dir) j
      (λ e he p. ⊎_elim (λ q. q) (λ q. clash p (keeps_directed called.3 e q)) (split (neutral dir e)))
      h
      (towards-directed later j (other b j v)
      ((steps_grow b called.1).keeps j (other b j v) (direct-towards b dir v j (omega (arith, pointed.one_to_a_job)))))
      n

  module _ (i : ℕ) (hi : i ≤ b.benches) where
    abbrev faker : Directions → List ℕ → ℕ
    faker dir closed = least b.benches (λ v. any b.jobs (fake b dir closed v))

    abbrev faked : Directions → List ℕ → ℕ
    faked dir closed = least b.jobs (fake b dir closed (faker dir closed))

    construct-none : (dir : Directions) (joined : List ℕ)
        → construct zero b i dir joined ≡ record { dir = dir; joined = conflict_set b.benches b i dir joined }
    unfolding construct
    construct-none dir joined = refl

    construct-stop : (k : ℕ) (dir : Directions) (joined : List ℕ) → ltb (faker dir (conflict_set b.benches b i dir joined)) b.benches ≡ false
        → construct (suc k) b i dir joined ≡ record { dir = dir; joined = conflict_set b.benches b i dir joined }
    unfolding construct
    construct-stop k dir joined p = rw (p, construct)

    construct-turn : (k : ℕ) (dir : Directions) (joined : List ℕ) → ltb (faker dir (conflict_set b.benches b i dir joined)) b.benches ≡ true
        → construct (suc k) b i dir joined
        ≡ construct k b i (forced_orientations b (direct b dir (faker dir (conflict_set b.benches b i dir joined)) (faked dir (conflict_set b.benches b i dir joined))))
        (conflict_set b.benches b i dir joined)
    unfolding construct
    construct-turn k dir joined p = rw (p, construct)

    abbrev StepsTo : Directions → List ℕ → Constructed → Type 0
    StepsTo dir joined c = Building b i dir joined c.dir c.joined

    pub construct-steps : (k : ℕ) (dir : Directions) (joined : List ℕ) → Pointed b dir → length joined ≡ b.benches → count b.jobs (neutral dir) ≤ k
        → Building b i dir joined (construct k b i dir joined).dir (construct k b i dir joined).joined
    construct-steps zero dir joined pointed l c =
        let closed = conflict_set b.benches b i dir joined in
        subst (StepsTo dir joined) (sym (construct-none dir joined))
        (conflict_set-steps b i dir b.benches joined dir closed
        (built (conflict_set-closed b i dir hi b.benches joined l (count-le b.benches (λ v. not (within b joined v))))
        (λ v j hv hj. and-false_right (within b closed v && touches b j v) (count-zero b.jobs (neutral dir) (omega arith) j hj))))
    construct-steps (suc k) dir joined pointed l c =
        let closed = conflict_set b.benches b i dir joined in
        let v = faker dir closed in
        let j = faked dir closed in
        ⊎_elim
        (λ p.
        let hv : v < b.benches = ltb-true v b.benches p in
        let some = least-holds b.benches (λ u. any b.jobs (fake b dir closed u)) hv in
        let hj : j < b.jobs = any-least b.jobs (fake b dir closed v) some in
        let f = least-holds b.jobs (fake b dir closed v) hj in
        let parts = fake-parts b dir closed v j f in
        let next = forced_orientations b (direct b dir v j) in
        let called = call-fake dir pointed v j hj parts.1 parts.2 in
        subst (StepsTo dir joined) (sym (construct-turn k dir joined p))
        (conflict_set-steps b i dir b.benches joined (construct k b i next closed).dir (construct k b i next closed).joined
        (faking v j hv hj f
        (construct-steps k next closed called.0 (conflict_set-length b i dir b.benches joined ∙ l)
        (omega (arith, neutral-drops dir pointed v j hj parts.1 parts.2))))))
        (λ p.
        subst (StepsTo dir joined) (sym (construct-stop k dir joined p))
        (conflict_set-steps b i dir b.benches joined dir closed
        (built (conflict_set-closed b i dir hi b.benches joined l (count-le b.benches (λ u. not (within b joined u))))
        (λ u e hu he. any_none b.jobs (fake b dir closed u)
        (least-before b.benches (λ w. any b.jobs (fake b dir closed w)) u (omega (arith, ltb-false v b.benches p))) e he))))
        (split (ltb v b.benches))

-- ── activation ──

module _ (b : Board) (i : ℕ) (hi : i ≤ b.benches) (dir : Directions) (joined : List ℕ) where
  abbrev next_active : List ℕ → ℕ
  next_active level = least b.benches (activates b dir joined level)

  activate-stop : (k : ℕ) (level : List ℕ) → ltb (next_active level) b.benches ≡ false → activate (suc k) b i dir joined level ≡ level
  unfolding activate
  activate-stop k level p = rw (p, activate)

  activate-turn : (k : ℕ) (level : List ℕ) → ltb (next_active level) b.benches ≡ true
      → activate (suc k) b i dir joined level ≡ activate k b i dir joined (set level (next_active level) i)
  unfolding activate
  activate-turn k level p = rw (p, activate)

  activate-none : (level : List ℕ) → activate zero b i dir joined level ≡ level
  unfolding activate
  activate-none level = refl

  pub activate-steps : (k : ℕ) (level : List ℕ) → length level ≡ b.benches → count b.benches (λ v. not (within b level v)) ≤ k
      → Activating b i dir joined level (activate k b i dir joined level)
  activate-steps zero level l c =
      subst (λ (xs : List ℕ). Activating b i dir joined level xs) (sym (activate-none level))
      (settled (λ v h.
      and-false_left (critical b dir joined v || rule2 b dir joined level v)
      (and-false_right (within b joined v) (count-zero b.benches (λ u. not (within b level u)) (omega arith) v h))))
  activate-steps (suc k) level l c =
      let v = next_active level in
      ⊎_elim
      (λ p.
      let hv : v < b.benches = ltb-true v b.benches p in
      let a = least-holds b.benches (activates b dir joined level) hv in
      subst (λ (xs : List ℕ). Activating b i dir joined level xs) (sym (activate-turn k level p))
      (activating v hv a
      (activate-steps k (set level v i) (length-set level v i ∙ l)
      (omega (arith, outside_drops b i level v hi l hv (activates-parts b dir joined level v a).1)))))
      (λ p.
      subst (λ (xs : List ℕ). Activating b i dir joined level xs) (sym (activate-stop k level p))
      (settled (λ u hu. least-before b.benches (activates b dir joined level) u (omega (arith, ltb-false v b.benches p)))))
      (split (ltb v b.benches))
