-- The arrays follow the peeling of a day's rocks, one rock after another.
--     left_count_lem, hanging-is  the rocks left at a bench, and whether it is hanging, as the definition has them
--     hanging-least, left_first   the bench and the rock that the searches find are those of the definition
--     Peeling                     what the loop keeps; how it goes on, and how it ends
--     gathered_ends               the ends of gathered rocks are the benches of their jobs
--     gathered_jobs, gathered_rocks     the day's rocks, gathered from the marks of rocks
--     rocks_are, pebbles_are, weights-are, lowest-are     the tables of a day's jobs
--     unpeeled-shown, start-shown       the state before the peeling, and after it
--     long_job_is                 what the search for a long job says of the day
use Prim.Native.Nat.{ℕ, zero, suc, ◌+◌, ◌≤◌, ◌<◌}
use mathlib.Core.Path.{◌≡◌, refl, sym, ap, ap₂, subst, ◌∙◌}
use mathlib.Core.Bool.{Bool, true, false, ◌&&◌}
use mathlib.Core.Logic.{inl, inr}
use mathlib.Core.List.{List}
use native.Mathlib.Omega.{arith}
use lib.ListN.{length, get_or, set, length-set}
use lib.Seq.{get_or-set_same, get_or-set_other}
use lib.Dec.{eqb, ltb}
use borrow.Author.Tests.{eqb-true, lt-ltb, le-ltb}
use Rattle.std.specs.Prelude.{Option, Some, None}
use Rattle.bools.proofs.BoolLaws.{clash, and_right}
use Rattle.bools.proofs.OrderLaws.{eq-or-ne}
use Rattle.sums.specs.Sum.{count}
use Rattle.sums.specs.Search.{least}
use Rattle.sums.specs.Members.{members}
use Rattle.sums.proofs.SearchLaws.{any_intro, any-least, least_cong, least-le, least-holds}
use Rattle.sums.proofs.CountLaws.{count_cong, count-pos_elim}
use Rattle.sums.specs.Table.{table}
use Rattle.sums.proofs.TableLaws.{length-table, get_or-table}
use Rattle.sums.proofs.MembersLaws.{members_cong, member_below, member_holds, count-members, least-members-found}
use Rattle.rocks.specs.declared.rocks.Limits.{Limits}
use Rattle.day.specs.Day.{Day, pebble, long_job}
use Rattle.algorithm.specs.Rocks.{rock, lowest, highest, weight}
use Rattle.algorithm.specs.Start.{State, one_cycle, left_at, hanging, peel, start}
use Rattle.algorithm.specs.SoundDay.{SoundDay}
use Rattle.arrays.specs.Arrays.{times_of, filled}
use Rattle.sets.specs.Sets.{lowest_of, highest_of}
use Rattle.start.specs.StartArrays.{rock_of, pebble_of, Fields, JobsOf, Placed, left_rock, left_count, hanging_of}
use Rattle.rocks.specs.DayArrays.{day_rocks, day_rock, DayRocks, Cycles}
use Rattle.arrays.proofs.FilledLaws.{get_or-filled, length-filled}
use Rattle.start.proofs.StartLaws.{lowest-is, highest-is, rock-is, pebble-is, weight_is}
use Rattle.rocks.specs.declared.balancing.Balance.{Balance}
use Rattle.rocks.specs.RockArrays.{first}
use Rattle.rocks.proofs.FirstLaws.{first-some, first-none}
use Rattle.rocks.proofs.DayRockLaws.{day-rock-below, touches_are}

left_and : (l a r : Bool) → (l ≡ true → r ≡ true) → (l && a) ≡ (r && (a && l))
left_and true true r h = sym (ap (λ (x : Bool). x && true) (h refl))
left_and true false r h = sym (ap (λ (x : Bool). x && false) (h refl))
left_and false true true h = refl
left_and false true false h = refl
left_and false false true h = refl
left_and false false false h = refl

-- ── the definition, turn by turn ──

abbrev next_bench : Day → State → ℕ
next_bench d s = least d.benches (hanging d s.left)

abbrev next_job : Day → State → ℕ → ℕ
next_job d s v = least d.jobs (left_at d s.left v)

abbrev peeled : State → ℕ → ℕ → State
peeled s j v = record { left = set s.left j false; place = set s.place j v }

peel-stops : (k : ℕ) (d : Day) (s : State) → next_bench d s ≡ d.benches → peel k d s ≡ s
unfolding peel
peel-stops zero d s e = refl
peel-stops (suc k) d s e = let p : ltb (next_bench d s) d.benches ≡ false = le-ltb (next_bench d s) d.benches (omega arith) in cc

peel-go : (k : ℕ) (d : Day) (s : State) → ltb (next_bench d s) d.benches ≡ true → peel (suc k) d s ≡ peel k d (peeled s (next_job d s (next_bench d s)) (next_bench d s))
unfolding peel
peel-go k d s p = cc

peel-turns : (k l : ℕ) (d : Day) (s : State) (v : ℕ) → k ≡ l + 1 → v ≡ next_bench d s → v < d.benches
    → peel k d s ≡ peel l d (peeled s (next_job d s v) v)
peel-turns k l d s v more e h =
    let turns : k ≡ suc l = omega arith in
    subst (λ (u : ℕ). peel k d s ≡ peel l d (peeled s (next_job d s u) u)) (sym e)
    (ap (λ (i : ℕ). peel i d s) turns ∙ peel-go l d s (lt-ltb (next_bench d s) d.benches (subst (λ (u : ℕ). u < d.benches) e h)))

module _ (d : Day) (n : Limits) (low high : List ℕ) (R : DayRocks d n low high) where
  module _ (job : List ℕ) (J : JobsOf d job) (s : State) (left : List Bool) (place : List ℕ) (S : Placed d s left place) where
    -- Job j allows v and is left.
    abbrev here : ℕ → ℕ → Bool
    here v j = d.allows j v && get_or s.left j false

    here_left : (v j : ℕ) → j < d.jobs → left_at d s.left v j ≡ (rock d j && here v j)
    here_left v j h = left_and (get_or s.left j false) (d.allows j v) (rock d j) (S.left_rock j h)

    left_at_lem : (v r : ℕ) → v < d.benches → r < day_rocks d → left_rock job low high left v r ≡ here v (day_rock d r)
    left_at_lem v r l h =
        ap₂ (λ (x y : Bool). x && y) (touches_are d n low high R r v h l)
        (ap (λ (i : ℕ). get_or left i false) (J r h) ∙ S.lefts (day_rock d r) (day-rock-below d n low high R r h))

    pub left_count_lem : (v : ℕ) → v < d.benches → left_count n.rocks job low high left v ≡ count d.jobs (left_at d s.left v)
    left_count_lem v l =
        ap (λ (k : ℕ). count k (left_rock job low high left v)) R.rocks
        ∙ count_cong (day_rocks d) (left_rock job low high left v) (λ r. here v (day_rock d r)) (λ r h. left_at_lem v r l h)
        ∙ sym (count-members d.jobs (rock d) (here v) 0)
        ∙ sym (count_cong d.jobs (left_at d s.left v) (λ j. rock d j && here v j) (here_left v))

    module _ (balance : List Balance) (C : Cycles d balance) where
      pub hanging-is : (v : ℕ) → v < d.benches → hanging_of n.rocks job low high balance left v ≡ hanging d s.left v
      hanging-is v l = ap₂ (λ (x : Bool) (k : ℕ). x && eqb k 1) (C v l) (left_count_lem v l)

      pub hanging-least : least n.benches (hanging_of n.rocks job low high balance left) ≡ next_bench d s
      hanging-least =
          ap (λ (k : ℕ). least k (hanging_of n.rocks job low high balance left)) R.benches
          ∙ least_cong d.benches (hanging_of n.rocks job low high balance left) (hanging d s.left) hanging-is

    -- A hanging bench has a rock left, and the first of them has the lowest job.
    pub left_first : (v r : ℕ) → v < d.benches → hanging d s.left v ≡ true → r ≡ least n.rocks (left_rock job low high left v)
        → (r < day_rocks d) × (day_rock d r ≡ next_job d s v)
    left_first v r l hang e =
        let near : ℕ → Bool = λ i. here v (day_rock d i) in
        let one : count d.jobs (left_at d s.left v) ≡ 1 =
        eqb-true (count d.jobs (left_at d s.left v)) 1 (and_right (one_cycle d v) (eqb (count d.jobs (left_at d s.left v)) 1) hang) in
        let many : count (day_rocks d) near ≡ 1 =
        sym (count-members d.jobs (rock d) (here v) 0)
        ∙ sym (count_cong d.jobs (left_at d s.left v) (λ j. rock d j && here v j) (here_left v)) ∙ one in
        let (i, hi, q) = count-pos_elim (day_rocks d) near (omega arith) in
        let found : least (day_rocks d) near < day_rocks d = any-least (day_rocks d) near (any_intro (day_rocks d) near i hi q) in
        let first : r ≡ least (day_rocks d) near =
        e ∙ ap (λ (k : ℕ). least k (left_rock job low high left v)) R.rocks
        ∙ least_cong (day_rocks d) (left_rock job low high left v) near (λ m h. left_at_lem v m l h) in (
          subst (λ (k : ℕ). k < day_rocks d) (sym first) found,
          ap (day_rock d) first ∙ sym (least-members-found d.jobs (rock d) (here v) 0 found)
              ∙ sym (least_cong d.jobs (left_at d s.left v) (λ j. rock d j && here v j) (here_left v)),
        )

    -- The arrays after a rock is peeled.
    pub shown-peeled : (j v : ℕ) → j < d.jobs → Placed d (peeled s j v) (set left j false) (set place j v)
    shown-peeled j v h =
        record {
          left_length = length-set s.left j false ∙ S.left_length;
          place_length = length-set s.place j v ∙ S.place_length;
          left_rock = λ i l p. elim (eq-or-ne i j) [
            | inl e ↦ clash p (ap (λ (k : ℕ). get_or (set s.left j false) k false) e ∙ get_or-set_same s.left j false false (omega (arith, S.left_length)))
            | inr ne ↦ S.left_rock i l (sym (get_or-set_other s.left j i false false ne) ∙ p)
          ];
          left_room = omega (arith, length-set left j false, S.left_room);
          place_room = omega (arith, length-set place j v, S.place_room);
          lefts = λ i l. elim (eq-or-ne i j) [
            | inl e ↦
                subst (λ (k : ℕ). get_or (set left j false) k false ≡ get_or (set s.left j false) k false) (sym e)
                (get_or-set_same left j false false (omega (arith, S.left_room))
                ∙ sym (get_or-set_same s.left j false false (omega (arith, S.left_length))))
            | inr ne ↦ get_or-set_other left j i false false ne ∙ S.lefts i l ∙ sym (get_or-set_other s.left j i false false ne)
          ];
          places = λ i l. elim (eq-or-ne i j) [
            | inl e ↦
                subst (λ (k : ℕ). get_or (set place j v) k 0 ≡ get_or (set s.place j v) k 0) (sym e)
                (get_or-set_same place j v 0 (omega (arith, S.place_room)) ∙ sym (get_or-set_same s.place j v 0 (omega (arith, S.place_length))))
            | inr ne ↦ get_or-set_other place j i v 0 ne ∙ S.places i l ∙ sym (get_or-set_other s.place j i v 0 ne)
          ];
        }

-- ── the loop ──

-- The arrays show a state from which the rest of the peeling gives what it gives from s.
pub record Peeling (d : Day) (s : State) (k : ℕ) (left : List Bool) (place : List ℕ) : Type 0 where
  pub at : State
  pub shown : Placed d at left place
  pub same : peel d.jobs d s ≡ peel k d at

pub peeling_spent : {d : Day} {s : State} {k : ℕ} {left : List Bool} {place : List ℕ} → Peeling d s k left place → k ≤ 0
    → Placed d (peel d.jobs d s) left place
unfolding peel
peeling_spent {d} {s} {k} {left} {place} P none =
    let e : k ≡ 0 = omega arith in
    subst (λ (x : State). Placed d x left place) (sym (P.same ∙ ap (λ (i : ℕ). peel i d P.at) e)) P.shown

module _ (d : Day) (n : Limits) (low high : List ℕ) (R : DayRocks d n low high) (job : List ℕ) (J : JobsOf d job)
    (balance : List Balance) (C : Cycles d balance) {s : State} {k : ℕ} {left : List Bool} {place : List ℕ}
    (P : Peeling d s k left place) where
  abbrev hangs : ℕ → Bool
  hangs = hanging_of n.rocks job low high balance left

  next_is : least n.benches hangs ≡ next_bench d P.at
  next_is = hanging-least d n low high R job J P.at left place P.shown balance C

  pub peeling_ends : {o : Option ℕ} → o ≡ first n.benches hangs → o ≡ None → Placed d (peel d.jobs d s) left place
  peeling_ends e none =
      let far : next_bench d P.at ≡ d.benches =
      omega (arith, first-none n.benches hangs e none, next_is, R.benches, least-le d.benches (hanging d P.at.left)) in
      subst (λ (x : State). Placed d x left place) (sym (P.same ∙ peel-stops k d P.at far)) P.shown

  module _ {o : Option ℕ} {v : ℕ} (e : o ≡ first n.benches hangs) (some : o ≡ Some v) where
    found : (v ≡ least n.benches hangs) × (v < n.benches)
    found = first-some n.benches hangs e some

    bench_is : v ≡ next_bench d P.at
    bench_is = found.0 ∙ next_is

    below : v < d.benches
    below = omega (arith, found.1, R.benches)

    abbrev lefts : ℕ → Bool
    lefts = left_rock job low high left v

    first_left : (r : ℕ) → r ≡ least n.rocks lefts → (r < day_rocks d) × (day_rock d r ≡ next_job d P.at v)
    first_left r at =
        let hang : hanging d P.at.left v ≡ true =
        subst (λ (x : ℕ). hanging d P.at.left x ≡ true) (sym bench_is)
        (least-holds d.benches (hanging d P.at.left) (subst (λ (x : ℕ). x < d.benches) bench_is below)) in
        left_first d n low high R job J P.at left place P.shown v r below hang at

    pub some_rock : {q : Option ℕ} → q ≡ first n.rocks lefts → q ≡ None → ⊥
    some_rock is none =
        omega (arith, (first_left (least n.rocks lefts) refl).0, first-none n.rocks lefts is none, R.rocks)

    pub peeling_goes_on : {q : Option ℕ} {r j l : ℕ} {left' : List Bool} {place' : List ℕ} → k ≡ l + 1
        → q ≡ first n.rocks lefts → q ≡ Some r → j ≡ get_or job r 0 → left' ≡ set left j false → place' ≡ set place j v
        → Peeling d s l left' place'
    peeling_goes_on {q} {r} {j} {l} more is rock at el ep =
        let first = first_left r (first-some n.rocks lefts is rock).0 in
        let here : j ≡ next_job d P.at v = at ∙ J r first.0 ∙ first.1 in
        let small : j < d.jobs =
        subst (λ (x : ℕ). x < d.jobs) (sym (at ∙ J r first.0)) (day-rock-below d n low high R r first.0) in
        record {
          at = peeled P.at j v;
          shown = rw (el, ep) (shown-peeled d n low high R job J P.at left place P.shown j v small);
          same = P.same ∙ peel-turns k l d P.at v more bench_is below
              ∙ ap (λ (x : ℕ). peel l d (peeled P.at x v)) (sym here);
        }

-- ── what the tables of a day's start show ──

-- The ends of gathered rocks.
pub gathered_ends : (d : Day) (jobs : ℕ) (minutes allowed : List ℕ) → Fields d jobs minutes allowed → SoundDay d → (marked : List Bool)
    → ((j : ℕ) → j < d.jobs → get_or marked j false ≡ true → rock d j ≡ true) → (r : ℕ) → r < count jobs (λ j. get_or marked j false)
    → (lowest_of (get_or allowed (get_or (members jobs (λ j. get_or marked j false)) r 0) 0) ≡ lowest d (get_or (members jobs (λ j. get_or marked j false)) r 0))
    × (highest_of (get_or allowed (get_or (members jobs (λ j. get_or marked j false)) r 0) 0) ≡ highest d (get_or (members jobs (λ j. get_or marked j false)) r 0))
gathered_ends d jobs minutes allowed F sound marked rocks r h =
    let f : ℕ → Bool = λ j. get_or marked j false in
    let j : ℕ = get_or (members jobs f) r 0 in
    let below : j < d.jobs = omega (arith, F.jobs_are, member_below jobs f r 0 h) in
    (lowest-is d jobs minutes allowed F j below sound, highest-is d jobs minutes allowed F j below (rocks j below (member_holds jobs f r 0 h)))

-- The day's rocks, gathered from the marks of rocks.
module _ (d : Day) (jobs : ℕ) (minutes allowed : List ℕ) (F : Fields d jobs minutes allowed) (marked : List Bool)
    (are : (j : ℕ) → j < d.jobs → get_or marked j false ≡ rock d j) where
  abbrev marks : ℕ → Bool
  marks j = get_or marked j false

  marks-are : (j : ℕ) → j < jobs → marks j ≡ rock d j
  marks-are j h = are j (omega (arith, F.jobs_are))

  pub gathered-count : count jobs marks ≡ day_rocks d
  gathered-count = count_cong jobs marks (rock d) marks-are ∙ ap (λ (k : ℕ). count k (rock d)) F.jobs_are

  gathered-members : members jobs marks ≡ members d.jobs (rock d)
  gathered-members = members_cong jobs marks (rock d) marks-are ∙ ap (λ (k : ℕ). members k (rock d)) F.jobs_are

  gathered-rock : (r : ℕ) → get_or (members jobs marks) r 0 ≡ day_rock d r
  gathered-rock r = ap (λ (xs : List ℕ). get_or xs r 0) gathered-members

  pub gathered_jobs : (k : ℕ) (job₀ : List ℕ) {job : List ℕ} → k ≡ count jobs marks → day_rocks d ≤ length job₀
      → job ≡ filled k (λ r. get_or (members jobs marks) r 0) job₀ → JobsOf d job
  gathered_jobs k job₀ e room is r h =
      ap (λ (xs : List ℕ). get_or xs r 0) is
      ∙ get_or-filled (λ i. get_or (members jobs marks) i 0) k job₀ r 0 (omega (arith, e, gathered-count)) (omega arith) ∙ gathered-rock r

  pub gathered_rocks : SoundDay d → (n : Limits) (k : ℕ) (low₀ high₀ : List ℕ) {low high : List ℕ} → k ≡ count jobs marks
      → n.benches ≡ d.benches → n.jobs ≡ d.jobs → n.rocks ≡ k → day_rocks d ≤ length low₀ → day_rocks d ≤ length high₀
      → low ≡ filled k (λ r. lowest_of (get_or allowed (get_or (members jobs marks) r 0) 0)) low₀
      → high ≡ filled k (λ r. highest_of (get_or allowed (get_or (members jobs marks) r 0) 0)) high₀
      → DayRocks d n low high
  gathered_rocks sound n k low₀ high₀ e benches-are all-jobs so-many low-room high-room is-low is-high =
      let ends = gathered_ends d jobs minutes allowed F sound marked (λ j h p. sym (are j h) ∙ p) in
      record {
        sound = sound;
        few_benches = F.bounded.few_benches;
        benches = benches-are;
        jobs = all-jobs;
        rocks = so-many ∙ e ∙ gathered-count;
        lows = λ r h.
            ap (λ (xs : List ℕ). get_or xs r 0) is-low
            ∙ get_or-filled (λ i. lowest_of (get_or allowed (get_or (members jobs marks) i 0) 0)) k low₀ r 0 (omega (arith, e, gathered-count)) (omega arith)
            ∙ (ends r (omega (arith, gathered-count))).0 ∙ ap (lowest d) (gathered-rock r);
        highs = λ r h.
            ap (λ (xs : List ℕ). get_or xs r 0) is-high
            ∙ get_or-filled (λ i. highest_of (get_or allowed (get_or (members jobs marks) i 0) 0)) k high₀ r 0 (omega (arith, e, gathered-count)) (omega arith)
            ∙ (ends r (omega (arith, gathered-count))).1 ∙ ap (highest d) (gathered-rock r);
      }

-- An entry of a table with one entry for each job.
module _ {ℓ} {A : Type ℓ} where
  in_table : (m n : ℕ) (f : ℕ → A) (xs : List A) {ys : List A} (z : A) → m ≡ n → n ≤ length xs → ys ≡ filled m f xs
      → (j : ℕ) → j < n → get_or ys j z ≡ f j
  in_table m n f xs z same room e j h = ap (λ (k : List A). get_or k j z) e ∙ get_or-filled f m xs j z (omega arith) (omega arith)

module _ (d : Day) (jobs : ℕ) (minutes allowed : List ℕ) (F : Fields d jobs minutes allowed) where
  pub rocks_are : (rock₀ : List Bool) {rocks : List Bool} → d.jobs ≤ length rock₀
      → rocks ≡ filled jobs (λ j. rock_of d.p d.q d.target (get_or minutes j 0) (get_or allowed j 0)) rock₀
      → (j : ℕ) → j < d.jobs → get_or rocks j false ≡ rock d j
  rocks_are rock₀ room e j h =
      in_table jobs d.jobs (λ i. rock_of d.p d.q d.target (get_or minutes i 0) (get_or allowed i 0)) rock₀ false F.jobs_are room e j h
      ∙ rock-is d jobs minutes allowed F j h

  pub pebbles_are : (pebble₀ : List Bool) {pebbles : List Bool} → d.jobs ≤ length pebble₀
      → pebbles ≡ filled jobs (λ j. pebble_of d.p d.q d.target (get_or minutes j 0) (get_or allowed j 0)) pebble₀
      → (j : ℕ) → j < d.jobs → get_or pebbles j false ≡ pebble d j
  pebbles_are pebble₀ room e j h =
      in_table jobs d.jobs (λ i. pebble_of d.p d.q d.target (get_or minutes i 0) (get_or allowed i 0)) pebble₀ false F.jobs_are room e j h
      ∙ pebble-is d jobs minutes allowed F j h

  pub weights-are : (weight₀ : List ℕ) {weights : List ℕ} → d.jobs ≤ length weight₀
      → weights ≡ filled jobs (λ j. times_of (times_of 3 d.q) (get_or minutes j 0)) weight₀
      → (j : ℕ) → j < d.jobs → get_or weights j 0 ≡ weight d j
  weights-are weight₀ room e j h =
      in_table jobs d.jobs (λ i. times_of (times_of 3 d.q) (get_or minutes i 0)) weight₀ 0 F.jobs_are room e j h
      ∙ weight_is d jobs minutes allowed F j h

  pub lowest-are : SoundDay d → (place₀ : List ℕ) {place : List ℕ} → d.jobs ≤ length place₀ → place ≡ filled jobs (λ j. lowest_of (get_or allowed j 0)) place₀
      → (j : ℕ) → j < d.jobs → get_or place j 0 ≡ lowest d j
  lowest-are sound place₀ room e j h =
      in_table jobs d.jobs (λ i. lowest_of (get_or allowed i 0)) place₀ 0 F.jobs_are room e j h ∙ lowest-is d jobs minutes allowed F j h sound

-- ── the start ──

-- All rocks are left, and every job is on its lowest bench.
abbrev pub unpeeled : Day → State
unpeeled d = record { left = table d.jobs (rock d); place = table d.jobs (lowest d) }

pub unpeeled-shown : (d : Day) (left : List Bool) (place : List ℕ) → d.jobs ≤ length left → d.jobs ≤ length place
    → ((j : ℕ) → j < d.jobs → get_or left j false ≡ rock d j) → ((j : ℕ) → j < d.jobs → get_or place j 0 ≡ lowest d j) → Placed d (unpeeled d) left place
unpeeled-shown d left place left-room place-room rocks-left lowest-places =
    record {
      left_length = length-table d.jobs (rock d);
      place_length = length-table d.jobs (lowest d);
      left_rock = λ j h p. sym (get_or-table d.jobs (rock d) j false h) ∙ p;
      left_room = left-room;
      place_room = place-room;
      lefts = λ j h. rocks-left j h ∙ sym (get_or-table d.jobs (rock d) j false h);
      places = λ j h. lowest-places j h ∙ sym (get_or-table d.jobs (lowest d) j 0 h);
    }

pub start-shown : (d : Day) (left : List Bool) (place : List ℕ) → Placed d (peel d.jobs d (unpeeled d)) left place → Placed d (start d) left place
unfolding start
start-shown d left place S = S

-- Every job on its lowest bench, and then the peeling.
pub start-placed : (d : Day) (jobs : ℕ) (minutes allowed place₀ : List ℕ) (rocks : List Bool) {place place' : List ℕ} {left' : List Bool}
    → Fields d jobs minutes allowed → SoundDay d → d.jobs ≤ length rocks → d.jobs ≤ length place₀
    → ((j : ℕ) → j < d.jobs → get_or rocks j false ≡ rock d j) → place ≡ filled jobs (λ j. lowest_of (get_or allowed j 0)) place₀
    → ((s : State) → Placed d s rocks place → Placed d (peel d.jobs d s) left' place') → Placed d (start d) left' place'
start-placed d jobs minutes allowed place₀ rocks {place} {place'} {left'} F sound left-room place-room rocks-left lowest-places peeled =
    start-shown d left' place'
    (peeled (unpeeled d)
    (unpeeled-shown d rocks place left-room (omega (arith, ap length lowest-places, length-filled (λ j. lowest_of (get_or allowed j 0)) jobs place₀)) rocks-left (lowest-are d jobs minutes allowed F sound place₀ place-room lowest-places)))

pub long_job_is : (d : Day) (jobs : ℕ) (minutes allowed : List ℕ) → Fields d jobs minutes allowed
    → least jobs (λ j. ltb d.target (get_or minutes j 0)) ≡ long_job d
unfolding long_job
long_job_is d jobs minutes allowed F =
    ap (λ (k : ℕ). least k (λ j. ltb d.target (get_or minutes j 0))) F.jobs_are
    ∙ least_cong d.jobs (λ j. ltb d.target (get_or minutes j 0)) (λ j. ltb d.target (d.minutes j)) (λ j h. ap (ltb d.target) (F.minutes_are j h))
