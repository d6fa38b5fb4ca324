-- The loop over the jobs follows the procedure.
--     other_end_lem     the highest bench of a heavy job's set is its other end
--     listed            what the tables have of job j
--     modest            the numbers of the classes are small
--     Running           what the loop keeps: the classes after the jobs passed
--     running_starts, running_more    it holds at the start, and with one job more
--     its_tried         what the next job comes to
--     ends_stuck, ends-least      the answers
use Prim.Native.Nat.{ℕ, ◌+◌, ◌-◌, ◌≤◌, ◌<◌, ◌^◌}
use mathlib.Core.Path.{◌≡◌, refl, sym, ap, subst, ◌∙◌}
use mathlib.Core.Bool.{true, false}
use mathlib.Core.Logic.{inl, inr}
use mathlib.Core.List.{List}
use Rattle.std.specs.Prelude.{Option, Some, None}
use native.Mathlib.Omega.{arith}
use native.Mathlib.Numerals.{unary_clauses}
use lib.Dec.{ltb}
use lib.ListN.{length, get_or, replicate, length-replicate, get_or-replicate}
use borrow.Author.Tests.{lt-ltb, le-ltb, eq-eqb}
use Rattle.bools.proofs.BoolLaws.{split, clash, and_intro, and_right}
use Rattle.bools.proofs.OrderLaws.{eq-or-ne, lt-or-le}
use Rattle.sums.specs.Sum.{on}
use Rattle.sums.specs.Search.{least}
use Rattle.sums.proofs.SumLaws.{on-le, sum_bound}
use Rattle.sums.proofs.SearchLaws.{least-found}
use Rattle.sums.proofs.CountLaws.{count-unique}
use Rattle.bits.specs.Bits.{is_set}
use Rattle.bits.proofs.SetBits.{is_set-zero}
use Rattle.day.specs.Day.{Day, choices, heavy}
use Rattle.algorithm.specs.Rocks.{rock, lowest, highest}
use Rattle.algorithm.proofs.RockLaws.{lowest-below, lowest-allowed, high_below}
use Rattle.arrays.specs.Arrays.{filled}
use Rattle.arrays.proofs.FilledLaws.{length-filled, get_or-filled}
use Rattle.sets.specs.Sets.{lowest_of, highest_of}
use Rattle.start.proofs.StartLaws.{lowest-is, highest-is, heavy-is}
use Rattle.placements.specs.Classes.{Heavies, Classes as Benches, at_start, Tried, going, put_job, after}
use Rattle.placements.specs.Classes.{answer_of, least_of}
use Rattle.placements.specs.LeastWeight.{other_end, heavies_of, least_heavy}
use Rattle.placements.proofs.ClassFacts.{total, Sound}
use Rattle.placements.proofs.ClassTheorem.{Meets, all_sound, base_small, stuck-after}
use Rattle.placements.proofs.LeastLaws.{ends_below, other-below, other-later}
use Rattle.placing.specs.declared.classes.Bay.{Bay}
use Rattle.placing.specs.declared.classes.Classes.{Classes}
use Rattle.placing.specs.ClassArrays.{Listed, Modest, Shows, Tries, Holds}

module _ (d : Day) (bay : Bay) (jobs : ℕ) (minutes allowed : List ℕ) (H : Holds d bay jobs minutes allowed) where
  abbrev pub g : Heavies
  g = heavies_of d (is_set 64 bay.set)

  -- ── one job ──

  module _ (j : ℕ) (l : j < d.jobs) where
    abbrev a : ℕ
    a = get_or allowed j 0

    low_below : lowest d j < d.benches
    low_below = lowest-below d H.sound j l

    -- Where the job is no rock, its lowest bench is its only one.
    module _ (is-heavy : heavy d j ≡ true) (lone : rock d j ≡ false) where
      one_choice : choices d j ≤ 1
      one_choice = elim (eq-or-ne (choices d j) 2) [
        | inl two ↦ clash (and_intro is-heavy (eq-eqb (choices d j) 2 two)) lone
        | inr other ↦ omega (arith, H.sound.heavy_two j l is-heavy)
      ]

      only_lowest : (v : ℕ) → d.allows j v ≡ true → v ≡ lowest d j
      only_lowest v p =
          count-unique d.benches (d.allows j) one_choice v (lowest d j) (H.sound.allowed_below j v p) low_below p
          (lowest-allowed d H.sound j l)

      none_later : d.benches ≤ highest d j
      none_later = elim (lt-or-le (highest d j) d.benches) [
        | inl p ↦
            let (more, there) = other-later d H.sound j l p in
            absurd (omega (arith, more, only_lowest (highest d j) there))
        | inr p ↦ p
      ]

      lone_end : highest_of a ≡ lowest d j
      unfolding highest_of
      lone_end =
          let few = H.fields.bounded.few_benches in
          let k = lowest d j in
          let back : 63 - (63 - k) ≡ k = omega (arith, low_below) in
          let has : is_set 64 a k ≡ true =
          and_right (ltb k d.benches) (is_set 64 a k)
          (sym (H.fields.allows j k l) ∙ lowest-allowed d H.sound j l) in
          let others : (v : ℕ) → k < v → v < 64 → is_set 64 a v ≡ false = λ v more small.
          elim (lt-or-le v d.benches) [
            | inl b ↦ elim (split (is_set 64 a v)) [
              | inl p ↦ absurd (omega (
                arith,
                only_lowest v (H.fields.allows j v l ∙ and_intro (lt-ltb v d.benches b) p),
              ))
              | inr p ↦ p
            ]
            | inr b ↦ H.fields.none_above j v l b small
          ] in
          let at : least 64 (λ i. is_set 64 a (63 - i)) ≡ 63 - k =
          least-found 64 (λ i. is_set 64 a (63 - i)) (63 - k) (omega (arith, low_below))
          (subst (λ (v : ℕ). is_set 64 a v ≡ true) (sym back) has)
          (λ i less. others (63 - i) (omega (arith, low_below)) (omega arith)) in
          ap (λ (v : ℕ). 63 - v) at ∙ back

    pub other_end_lem : heavy d j ≡ true → highest_of a ≡ other_end d j
    other_end_lem p = elim (split (rock d j)) [
      | inl r ↦
          highest-is d jobs minutes allowed H.fields j l r
          ∙ rw (lt-ltb (highest d j) d.benches (high_below d j r)) refl
      | inr r ↦ lone_end p r ∙ rw (le-ltb (highest d j) d.benches (none_later p r)) refl
    ]

    pub listed : Listed g j bay (get_or minutes j 0) a
    listed =
        record {
          heavy_is = rw (H.p_is, H.q_is, H.target_is) (heavy-is d jobs minutes allowed H.fields j l);
          its_ends = λ p.
              let low : lowest_of a ≡ lowest d j = lowest-is d jobs minutes allowed H.fields j l H.sound in
              let high : highest_of a ≡ other_end d j = other_end_lem p in
              record {
                few_benches = omega (arith, H.benches_are, H.fields.bounded.few_benches);
                low_is = low;
                high_is = high;
                low_below = omega (arith, H.benches_are, low, low_below);
                high_below = omega (arith, H.benches_are, high, other-below d H.sound j l);
                minutes_are = H.fields.minutes_are j l;
                minutes_small = omega (arith, H.fields.minutes_are j l, H.fields.bounded.minutes_small j l);
                set_is = λ v r. refl;
              };
        }

  -- ── all jobs ──

  total-small : (j : ℕ) → j ≤ d.jobs → total g j < 2 ^ 30
  total-small j l =
      let few = H.fields.bounded.few_jobs in
      omega (
        arith,
        sum_bound j (2 ^ 20) (λ i. on (g.heavy i) (g.weight i))
            (λ i r. omega (arith, on-le (g.heavy i) (g.weight i), H.fields.bounded.minutes_small i (omega arith))),
      )

  pub modest : (j : ℕ) (s : Benches) → j ≤ d.jobs → after g j ≡ going s → Modest bay s
  modest j s l e =
      let S : Sound g d.benches j s =
      subst (Meets g d.benches j) e
      (all_sound g d.benches d.jobs (ends_below d H.sound (is_set 64 bay.set)) j l) in
      record {
        extra_small = λ v r. omega (arith, S.small v (omega (arith, H.benches_are)), total-small j l);
        base_small = omega (arith, base_small g d.benches j s S, total-small j l);
      }

  pub record Running (j : ℕ) (c : Classes) (labels extra : List ℕ) : Type 0 where
    pub at : Benches
    pub come : after g j ≡ going at
    pub shown : Shows at bay c labels extra

  pub running_starts : {labels : List ℕ} (k : ℕ) → k ≡ 64
      → labels ≡ filled (length (replicate {A = ℕ} k 0)) (λ v. v) (replicate {A = ℕ} k 0)
      → Running 0 (record { shut = 0; base = 0 }) labels (replicate {A = ℕ} k 0)
  unfolding after
  running_starts k w e =
      let few = H.fields.bounded.few_benches in
      let long = length-replicate {A = ℕ} k 0 in
      record {
        at = at_start;
        come = refl;
        shown = record {
          labels_room = omega (
            arith,
            ap length e,
            length-filled (λ (v : ℕ). v) (length (replicate {A = ℕ} k 0)) (replicate {A = ℕ} k 0),
            H.benches_are,
          );
          extra_room = omega (arith, H.benches_are);
          labels_are = λ v r.
              ap (λ (x : List ℕ). get_or x v 0) e
              ∙ get_or-filled (λ (u : ℕ). u) (length (replicate {A = ℕ} k 0)) (replicate {A = ℕ} k 0) v 0
              (omega (arith, H.benches_are)) (omega (arith, H.benches_are));
          extra_are = λ v r. get_or-replicate {A = ℕ} k v 0 0 (omega (arith, H.benches_are));
          shut_are = λ v r. is_set-zero 64 v;
          base_is = refl;
        };
      }

  after_more : (j : ℕ) (s : Benches) → after g j ≡ going s → after g (j + 1) ≡ put_job g (going s) j
  unfolding after
  after_more j s e = simp unary_clauses (ap (λ (t : Tried). put_job g t j) e)

  module _ (j : ℕ) (c : Classes) (labels extra : List ℕ) (R : Running j c labels extra) (l : j < jobs) where
    its_listed : Listed g j bay (get_or minutes j 0) (get_or allowed j 0)
    its_listed = listed j (omega (arith, H.fields.jobs_are))

    its_modest : Modest bay R.at
    its_modest = modest j R.at (omega (arith, H.fields.jobs_are)) R.come

    -- What holds of every job and all classes holds of this one.
    pub its_tried : {m a : ℕ} → m ≡ get_or minutes j 0 → a ≡ get_or allowed j 0
        → {r : Option Classes} {labels' extra' : List ℕ}
        → ((h : Heavies) → (s : Benches) → (i : ℕ) → Listed h i bay m a → Modest bay s → Shows s bay c labels extra
        → Tries (put_job h (going s) i) bay r labels' extra')
        → Tries (put_job g (going R.at) j) bay r labels' extra'
    its_tried em ea put = put g R.at j (rw (em, ea) its_listed) its_modest R.shown

    module _ {r : Option Classes} {labels' extra' : List ℕ}
        (T : Tries (put_job g (going R.at) j) bay r labels' extra') where
      pub running_more : (next : Classes) → r ≡ Some next → Running (j + 1) next labels' extra'
      running_more next p =
          let (s, e, shown) = T.is_going next p in
          record { at = s; come = after_more j R.at R.come ∙ e; shown = shown }

      pub ends_stuck : r ≡ None → None ≡ least_heavy d (is_set 64 bay.set)
      unfolding least_of
      ends_stuck p =
          ap answer_of (sym (stuck-after g (j + 1) d.jobs (omega (arith, H.fields.jobs_are))
          (after_more j R.at R.come ∙ T.is_stuck p)))

  pub ends-least : (j : ℕ) (c : Classes) (labels extra : List ℕ) → Running j c labels extra → j ≤ jobs → jobs ≤ j
      → Some c.base ≡ least_heavy d (is_set 64 bay.set)
  unfolding least_of
  ends-least j c labels extra R l m =
      let all : j ≡ d.jobs = omega (arith, H.fields.jobs_are) in
      ap Some R.shown.base_is ∙ ap answer_of (sym (subst (λ (n : ℕ). after g n ≡ going R.at) all R.come))
