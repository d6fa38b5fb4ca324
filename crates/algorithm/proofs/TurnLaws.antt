-- The two loops of FORCED ORIENTATIONS, turn by turn.
--     neutrals b dir              how many jobs are neutral
--     neutrals-direct, chain_fewer    an orientation lowers this number, and so does a chain
--     Marks b first dir marked    the marked benches are those that received a rock since first
--     marks_start, marks-direct   nobody is marked at first; an orientation marks the bench that it gives a rock
--     forced_job-below, forced_job-forces  a bench that forces something forces its lowest forced job
--     Turn b first last           one turn of the outer loop: forced orientations that make a chain, whose receivers force nothing at the end
--     first_turn                  a rock that is forced from a bench, and then the inner loop, make a turn
--     Turns b dir last            turns of the outer loop, one after another
--     outer-turns, outer-stable   the outer loop makes turns, and ends where no bench forces anything
use Prim.Native.Nat.{ℕ, zero, suc, ◌≤◌, ◌<◌}
use mathlib.Core.Path.{◌≡◌, sym, subst, ◌∙◌}
use mathlib.Core.Logic.{inl, inr, ⊎_elim}
use mathlib.Core.Bool.{Bool, true, false}
use mathlib.Core.List.{List}
use native.Mathlib.Omega.{arith}
use lib.Dec.{ltb}
use lib.ListN.{length, get_or, set, length-set, length-replicate, get_or-replicate}
use lib.Seq.{get_or-set_same, get_or-set_other}
use borrow.Author.Tests.{ltb-true, ltb-false, ne_eqb}
use Rattle.bools.proofs.BoolLaws.{split, clash, and_left, and_right, and-false_elim}
use Rattle.bools.proofs.OrderLaws.{eq-or-ne}
use Rattle.sums.specs.Sum.{count}
use Rattle.sums.specs.Search.{least}
use Rattle.sums.proofs.SearchLaws.{least-holds, least-before, any-least}
use Rattle.sums.proofs.CountLaws.{count-le, count-strict, count-zero}
use Rattle.algorithm.specs.Board.{Board, Directions, touches, other, neutral, towards}
use Rattle.algorithm.specs.Forced.{forces, direct, forcing, marked_forcing, forced_job, nobody, inner, outer}
use Rattle.algorithm.specs.Properties.{SoundBoard, Pointed, ForcedSteps, no_step, a_step, Stable, Received, Chain, begins, goes_on}
use Rattle.algorithm.proofs.BoardLaws.{other-touches, other-below, neutral-directed, towards-unique, direct-same, direct-towards, direct-towards-rest}
use Rattle.algorithm.proofs.GrowthLaws.{Grows, grows_refl, grows-direct, grows-neutral}
use Rattle.algorithm.proofs.StepLaws.{forces-touches, forces-neutral, forcing-none, steps_join, steps_pointed, chain_grows, chain_pointed}

-- ── each orientation leaves fewer neutral rocks ──

abbrev pub neutrals : Board → Directions → ℕ
neutrals b dir = count b.jobs (neutral dir)

pub neutrals-direct : (b : Board) {dir : Directions} → Pointed b dir → (v j : ℕ) → j < b.jobs → neutral dir j ≡ true
    → neutrals b (direct b dir v j) < neutrals b dir
neutrals-direct b {dir} pointed v j h n =
    let directed = direct-same b dir v j (omega (arith, pointed.one_to_a_job)) in
    count-strict b.jobs (neutral (direct b dir v j)) (neutral dir) j (λ i hi. grows-neutral (grows-direct b dir v j n) i) h
    (ne_eqb (get_or (direct b dir v j) j 0) 0 (omega arith)) n

pub chain_fewer : (b : Board) → SoundBoard b → {first dir : Directions} → Pointed b first → Chain b first dir → neutrals b dir < neutrals b first
chain_fewer b ok pointed (begins v j hv hj t n) = neutrals-direct b pointed v j hj n
chain_fewer b ok pointed (goes_on c v j e hv hj t n r) =
    omega (arith, chain_fewer b ok pointed c, neutrals-direct b (chain_pointed b ok c pointed) v j hj n)

-- With no neutral rock left, nothing is forced.
forcing-spent : (b : Board) (dir : Directions) (v : ℕ) → neutrals b dir ≤ 0 → forcing b dir v ≡ false
forcing-spent b dir v few = forcing-none b dir v (λ j h t n. clash n (count-zero b.jobs (neutral dir) (omega arith) j h))

-- ── the marked benches ──

pub record Marks (b : Board) (first dir : Directions) (marked : List Bool) : Type 0 where
  pub one_to_a_bench : length marked ≡ b.benches
  pub received : (v : ℕ) → v < b.benches → get_or marked v false ≡ true → (e : ℕ) × Received b first dir v e
  pub all_marked : (v e : ℕ) → v < b.benches → Received b first dir v e → get_or marked v false ≡ true

pub marks_start : (b : Board) (first : Directions) → Marks b first first (nobody b)
marks_start b first =
    record {
      one_to_a_bench = length-replicate b.benches false;
      received = λ v h m. clash m (get_or-replicate b.benches v false false h);
      all_marked = λ v e h r. absurd (neutral-directed first e v r.2 r.3);
    }

module _ (b : Board) (ok : SoundBoard b) {first dir : Directions} (pointed : Pointed b dir) (g : Grows first dir) {marked : List Bool}
    (m : Marks b first dir marked) (v j : ℕ) (h : j < b.jobs) (t : touches b j v ≡ true) (n : neutral dir j ≡ true) where
  new : Received b first (direct b dir v j) (other b j v) j
  new = (h, other-touches b ok j v h t, grows-neutral g j n, direct-towards b dir v j (omega (arith, pointed.one_to_a_job)))

  old : (u e : ℕ) → Received b first dir u e → Received b first (direct b dir v j) u e
  old u e r = (r.0, r.1, r.2, (grows-direct b dir v j n).keeps e u r.3)

  mark-other : get_or (set marked (other b j v) true) (other b j v) false ≡ true
  mark-other = get_or-set_same marked (other b j v) true false (omega (arith, m.one_to_a_bench, other-below b ok j v h t))

  mark_old : (u : ℕ) → get_or marked u false ≡ true → get_or (set marked (other b j v) true) u false ≡ true
  mark_old u k = elim (eq-or-ne u (other b j v)) [
    | inl q ↦ subst (λ (w : ℕ). get_or (set marked (other b j v) true) w false ≡ true) (sym q) mark-other
    | inr ne ↦ get_or-set_other marked (other b j v) u true false ne ∙ k
  ]

  pub marks-direct : Marks b first (direct b dir v j) (set marked (other b j v) true)
  marks-direct =
      record {
        one_to_a_bench = length-set marked (other b j v) true ∙ m.one_to_a_bench;
        received = λ u hu k. elim (eq-or-ne u (other b j v)) [
          | inl q ↦ (j, subst (λ (w : ℕ). Received b first (direct b dir v j) w j) (sym q) new)
          | inr ne ↦ let (e, r) = m.received u hu (sym (get_or-set_other marked (other b j v) u true false ne) ∙ k) in (e, old u e r)
        ];
        all_marked = λ u e hu r. elim (eq-or-ne e j) [
          | inl q ↦
              let to-u : towards (direct b dir v j) j u ≡ true = subst (λ (f : ℕ). towards (direct b dir v j) f u ≡ true) q r.3 in
              subst (λ (w : ℕ). get_or (set marked (other b j v) true) w false ≡ true)
              (towards-unique (direct b dir v j) j (other b j v) u new.3 to-u) mark-other
          | inr ne ↦ mark_old u (m.all_marked u e hu (r.0, r.1, r.2, sym (direct-towards-rest b dir v j e u ne) ∙ r.3))
        ];
      }

-- ── the job that is forced ──

module _ (b : Board) (dir : Directions) (v : ℕ) (f : forcing b dir v ≡ true) where
  pub forced_job-below : forced_job b dir v < b.jobs
  forced_job-below = any-least b.jobs (forces b dir v) f

  pub forced_job-forces : forces b dir v (forced_job b dir v) ≡ true
  forced_job-forces = least-holds b.jobs (forces b dir v) forced_job-below

-- ── a turn of the outer loop ──

pub record Turn (b : Board) (first last : Directions) : Type 0 where
  pub steps : ForcedSteps b first last
  pub chain : Chain b first last
  pub receivers_rest : (v e : ℕ) → v < b.benches → Received b first last v e → forcing b last v ≡ false

-- The bench that the inner loop takes next.
abbrev pub next_marked : Board → Directions → List Bool → ℕ
next_marked b dir marked = least b.benches (marked_forcing b dir marked)

pub inner-stop : (k : ℕ) (b : Board) (dir : Directions) (marked : List Bool) → ltb (next_marked b dir marked) b.benches ≡ false
    → inner (suc k) b dir marked ≡ dir
unfolding inner
inner-stop k b dir marked p = cc

pub inner-go : (k : ℕ) (b : Board) (dir : Directions) (marked : List Bool) → ltb (next_marked b dir marked) b.benches ≡ true
    → inner (suc k) b dir marked
    ≡ inner k b (direct b dir (next_marked b dir marked) (forced_job b dir (next_marked b dir marked)))
    (set marked (other b (forced_job b dir (next_marked b dir marked)) (next_marked b dir marked)) true)
unfolding inner
inner-go k b dir marked p = cc

module _ (b : Board) (ok : SoundBoard b) (first : Directions) (pointed-first : Pointed b first) where
  -- Each turn of the inner loop directs a rock, so as many turns as there are neutral rocks are enough.
  inner-turn : (k : ℕ) (dir : Directions) (marked : List Bool) → ForcedSteps b first dir → Chain b first dir → Marks b first dir marked
      → neutrals b dir ≤ k → Turn b first (inner k b dir marked)
  unfolding inner
  inner-turn zero dir marked s c m few = record { steps = s; chain = c; receivers_rest = λ v e hv r. forcing-spent b dir v few }
  inner-turn (suc k) dir marked s c m few =
      let v = next_marked b dir marked in
      let j = forced_job b dir v in
      elim (split (ltb v b.benches)) [
        | inl p ↦
            let hv = ltb-true v b.benches p in
            let found = least-holds b.benches (marked_forcing b dir marked) hv in
            let (e, r) = m.received v hv (and_left (get_or marked v false) (forcing b dir v) found) in
            let forced = and_right (get_or marked v false) (forcing b dir v) found in
            let hj = forced_job-below b dir v forced in
            let f = forced_job-forces b dir v forced in
            let t = forces-touches b dir v j f in
            let n = forces-neutral b dir v j f in
            let pointed = steps_pointed b ok s pointed-first in
            rw (inner-go k b dir marked p)
            (inner-turn k (direct b dir v j) (set marked (other b j v) true) (steps_join b s (a_step v j hv hj f no_step))
            (goes_on c v j e hv hj t n r) (marks-direct b ok pointed (chain_grows b c) m v j hj t n)
            (omega (arith, neutrals-direct b pointed v j hj n)))
        | inr p ↦
            rw (inner-stop k b dir marked p) (record {
              steps = s;
              chain = c;
              receivers_rest = λ u e hu r. ⊎_elim (λ q. clash (m.all_marked u e hu r) q) (λ q. q)
                  (and-false_elim (get_or marked u false) (forcing b dir u)
                  (least-before b.benches (marked_forcing b dir marked) u (omega (arith, ltb-false v b.benches p))));
            })
      ]

  -- The first rock of a turn is forced from any bench; the inner loop then goes on from its receiver.
  pub first_turn : (v : ℕ) → v < b.benches → forcing b first v ≡ true
      → Turn b first (inner b.jobs b (direct b first v (forced_job b first v)) (set (nobody b) (other b (forced_job b first v) v) true))
  first_turn v hv forced =
      let j = forced_job b first v in
      let hj = forced_job-below b first v forced in
      let f = forced_job-forces b first v forced in
      let t = forces-touches b first v j f in
      let n = forces-neutral b first v j f in
      inner-turn b.jobs (direct b first v j) (set (nobody b) (other b j v) true) (a_step v j hv hj f no_step) (begins v j hv hj t n)
      (marks-direct b ok pointed-first grows_refl (marks_start b first) v j hj t n) (count-le b.jobs (neutral (direct b first v j)))

-- ── the outer loop ──

pub data Turns (b : Board) : Directions → Directions → Type 0 where
  no_turn : {dir : Directions} → Turns b dir dir
  a_turn : {dir mid last : Directions} → Turn b dir mid → Turns b mid last → Turns b dir last

-- The bench that the outer loop takes next, and what its turn leaves.
abbrev pub next_forcing : Board → Directions → ℕ
next_forcing b dir = least b.benches (forcing b dir)

abbrev pub after_turn : Board → Directions → Directions
after_turn b dir =
    inner b.jobs b (direct b dir (next_forcing b dir) (forced_job b dir (next_forcing b dir)))
    (set (nobody b) (other b (forced_job b dir (next_forcing b dir)) (next_forcing b dir)) true)

pub outer-stop : (k : ℕ) (b : Board) (dir : Directions) → ltb (next_forcing b dir) b.benches ≡ false → outer (suc k) b dir ≡ dir
unfolding outer
outer-stop k b dir p = cc

pub outer-go : (k : ℕ) (b : Board) (dir : Directions) → ltb (next_forcing b dir) b.benches ≡ true → outer (suc k) b dir ≡ outer k b (after_turn b dir)
unfolding outer
outer-go k b dir p = cc

module _ (b : Board) (ok : SoundBoard b) where
  -- Each turn of the outer loop directs a rock, so as many turns as there are neutral rocks are enough.
  outer-end : (k : ℕ) (dir : Directions) → Pointed b dir → neutrals b dir ≤ k → Turns b dir (outer k b dir) × Stable b (outer k b dir)
  unfolding outer
  outer-end zero dir pointed few = (no_turn, λ v h. forcing-spent b dir v few)
  outer-end (suc k) dir pointed few = elim (split (ltb (next_forcing b dir) b.benches)) [
    | inl p ↦
        let hv = ltb-true (next_forcing b dir) b.benches p in
        let turn : Turn b dir (after_turn b dir) = first_turn b ok dir pointed (next_forcing b dir) hv (least-holds b.benches (forcing b dir) hv) in
        let rest = outer-end k (after_turn b dir) (steps_pointed b ok turn.steps pointed) (omega (arith, chain_fewer b ok pointed turn.chain)) in
        rw (outer-go k b dir p) (a_turn turn rest.0, rest.1)
    | inr p ↦
        rw (outer-stop k b dir p) (no_turn, λ v h. least-before b.benches (forcing b dir) v (omega (arith, ltb-false (next_forcing b dir) b.benches p)))
  ]

  pub outer-turns : (k : ℕ) (dir : Directions) → Pointed b dir → neutrals b dir ≤ k → Turns b dir (outer k b dir)
  outer-turns k dir pointed few = (outer-end k dir pointed few).0

  pub outer-stable : (k : ℕ) (dir : Directions) → Pointed b dir → neutrals b dir ≤ k → Stable b (outer k b dir)
  outer-stable k dir pointed few = (outer-end k dir pointed few).1
