-- What weighs inside a set, from the arrays.
--     inside_is         a difference of sets is empty where the one is within the other
--     confined_is       the minutes of a job that count are those of the day's light jobs that can go nowhere else
--     light-more, light-ends      their sum, job by job
--     booked_more, booked_ends    what is booked inside the set, bench by bench
--     blocks-none, blocks-weighed     the answers
use Prim.Native.Nat.{ℕ, ◌+◌, ◌*◌, ◌≤◌, ◌<◌, ◌^◌}
use mathlib.Core.Path.{◌≡◌, refl, sym, ap, ap₂, ◌∙◌}
use mathlib.Core.Bool.{Bool, true, false, not, ◌&&◌, ◌||◌}
use mathlib.Core.Logic.{inl, inr}
use mathlib.Core.List.{List}
use native.Mathlib.Omega.{arith}
use native.Mathlib.Numerals.{unary_clauses}
use lib.Dec.{eqb, ltb}
use lib.ListN.{get_or}
use borrow.Author.Tests.{eq-eqb, eqb-true, lt-ltb}
use Rattle.bools.proofs.BoolLaws.{split, clash, bool_ext, or_left}
use Rattle.bools.proofs.BoolLaws.{not_intro_true}
use Rattle.bools.proofs.OrderLaws.{lt-or-le}
use Rattle.sums.specs.Sum.{on, sum, count}
use Rattle.sums.specs.Search.{any}
use Rattle.sums.proofs.SearchLaws.{all_intro, all_elim, any_false, any_elim}
use Rattle.sums.proofs.SumLaws.{on-le, sum_bound}
use Rattle.sums.proofs.CountLaws.{count-pos}
use Rattle.bits.specs.Bits.{is_set}
use Rattle.bits.proofs.SetBits.{is_set-zero, any-is_set-zero}
use Rattle.day.specs.Day.{Day, heavy, light}
use Rattle.demand.specs.Demand.{kept_inside, lies_inside}
use Rattle.arrays.specs.Arrays.{plus_of, times_of}
use Rattle.arrays.proofs.NumberLaws.{times_exact}
use Rattle.sets.specs.Sets.{choices_of}
use Rattle.sets.proofs.SetLaws.{choices_below}
use Rattle.start.specs.StartArrays.{heavy_of}
use Rattle.start.proofs.StartLaws.{heavy-is}
use Rattle.std.specs.Prelude.{Option, Some, None}
use Rattle.placements.specs.LeastWeight.{confined_inside, least_heavy, outweighs, blocks}
use Rattle.placements.proofs.LeastLaws.{least_small}
use Rattle.placing.specs.declared.classes.Bay.{Bay}
use Rattle.placing.specs.ClassArrays.{Holds}
use Rattle.weighing.specs.Weights.{within, Bookings, Weighs, OfTheDay}

-- ── one set within another ──

pub inside_is : (a b r : ℕ) → r < 2 ^ 64 → ((u : ℕ) → is_set 64 r u ≡ (is_set 64 a u && not (is_set 64 b u)))
    → eqb r 0 ≡ within a b
unfolding within
inside_is a b r small less =
    bool_ext (eqb r 0) (within a b)
    (λ p. all_intro 64 (λ v. not (is_set 64 a v) || is_set 64 b v) (λ v l.
    kept (is_set 64 a v) (is_set 64 b v)
    (sym (less v) ∙ ap (λ (n : ℕ). is_set 64 n v) (eqb-true r 0 p) ∙ is_set-zero 64 v)))
    (λ p. eq-eqb r 0 (any-is_set-zero 64 r small (any_false 64 (is_set 64 r) (λ v l.
    less v ∙ gone (is_set 64 a v) (is_set 64 b v) (all_elim 64 (λ u. not (is_set 64 a u) || is_set 64 b u) p v l)))))
  where
    kept : (x y : Bool) → (x && not y) ≡ false → (not x || y) ≡ true
    kept true true e = refl
    kept true false e = clash refl e
    kept false y e = refl

    gone : (x y : Bool) → (not x || y) ≡ true → (x && not y) ≡ false
    gone true true e = refl
    gone true false e = clash e refl
    gone false y e = refl

-- ── light jobs ──

module _ (d : Day) (bay : Bay) (jobs : ℕ) (minutes allowed : List ℕ) (H : Holds d bay jobs minutes allowed) where
  abbrev set : ℕ → Bool
  set = is_set 64 bay.set

  abbrev pub light_at : ℕ → ℕ
  light_at j = on (light d j && lies_inside d set j) (d.minutes j)

  lies_is : (j : ℕ) → j < d.jobs → within (get_or allowed j 0) bay.set ≡ lies_inside d set j
  unfolding within
  lies_is j l =
      let a : ℕ = get_or allowed j 0 in
      bool_ext (within a bay.set) (lies_inside d set j)
      (λ p. all_intro d.benches (kept_inside d set j) (λ v r.
      rw (H.fields.allows j v l, lt-ltb v d.benches r)
      (all_elim 64 (λ u. not (is_set 64 a u) || set u) p v (omega (arith, H.fields.bounded.few_benches)))))
      (λ p. all_intro 64 (λ v. not (is_set 64 a v) || set v) (λ v r. elim (lt-or-le v d.benches) [
        | inl b ↦
            let it = all_elim d.benches (kept_inside d set j) p v b in
            rw (H.fields.allows j v l, lt-ltb v d.benches b) at it
        | inr b ↦ or_left (set v) (not_intro_true (H.fields.none_above j v l b r))
      ]))

  confined_is : (j : ℕ) → j < d.jobs
      → on (not (heavy_of bay.p bay.q bay.target (get_or minutes j 0)) && within (get_or allowed j 0) bay.set)
      (get_or minutes j 0)
      ≡ light_at j
  confined_is j l =
      rw (
        H.p_is,
        H.q_is,
        H.target_is,
        heavy-is d jobs minutes allowed H.fields j l,
        lies_is j l,
        H.fields.minutes_are j l,
      ) refl

  light-small : (j : ℕ) → j ≤ d.jobs → sum j light_at < 2 ^ 30
  light-small j l =
      omega (
        arith,
        H.fields.bounded.few_jobs,
        sum_bound j (2 ^ 20) light_at (λ i r.
            omega (
              arith,
              on-le (light d i && lies_inside d set i) (d.minutes i),
              H.fields.bounded.minutes_small i (omega arith),
            )),
      )

  pub light-more : (j : ℕ) {total more next x y : ℕ} → j < jobs → total ≡ sum j light_at → x ≡ get_or minutes j 0
      → y ≡ get_or allowed j 0
      → more ≡ on (not (heavy_of bay.p bay.q bay.target x) && within y bay.set) x
      → next ≡ plus_of total more → next ≡ sum (j + 1) light_at
  light-more j {total} {more} l e ex ey f n =
      let here : j < d.jobs = omega (arith, H.fields.jobs_are) in
      let it : more ≡ light_at j =
      f ∙ ap₂ (λ (u w : ℕ). on (not (heavy_of bay.p bay.q bay.target u) && within w bay.set) u) ex ey
      ∙ confined_is j here in
      n ∙ simp unary_clauses (omega (arith, e, it, light-small (j + 1) (omega arith), sum_one j))
    where
      sum_one : (j : ℕ) → sum (j + 1) light_at ≡ sum j light_at + light_at j
      sum_one j = simp unary_clauses refl

  pub light-ends : (j : ℕ) {total : ℕ} → j ≤ jobs → jobs ≤ j → total ≡ sum j light_at → total ≡ sum d.jobs light_at
  light-ends j l m e =
      let all : j ≡ d.jobs = omega (arith, H.fields.jobs_are) in
      e ∙ ap (λ (n : ℕ). sum n light_at) all

-- ── bookings ──

module _ (d : Day) (benches : ℕ) (booked : List ℕ) (set : ℕ) (B : Bookings d benches booked) where
  abbrev pub booked_in : ℕ → ℕ
  booked_in v = on (is_set 64 set v) (d.booked v)

  booked_small : (v : ℕ) → v ≤ d.benches → sum v booked_in < 2 ^ 40
  booked_small v l =
      omega (
        arith,
        B.bounded.few_benches,
        sum_bound v (2 ^ 30) booked_in (λ u r.
            omega (arith, on-le (is_set 64 set u) (d.booked u), B.bounded.booked_small u)),
      )

  pub booked_more : (v : ℕ) {total more next : ℕ} → v < benches → total ≡ sum v booked_in
      → more ≡ on (is_set 64 set v) (get_or booked v 0) → next ≡ plus_of total more → next ≡ sum (v + 1) booked_in
  booked_more v {total} {more} l e f n =
      let it : more ≡ booked_in v =
      f ∙ ap (on (is_set 64 set v)) (B.booked_are v (omega (arith, B.benches_are))) in
      n ∙ simp unary_clauses (omega (arith, e, it, booked_small (v + 1) (omega (arith, B.benches_are)), sum_one v))
    where
      sum_one : (v : ℕ) → sum (v + 1) booked_in ≡ sum v booked_in + booked_in v
      sum_one v = simp unary_clauses refl

  pub booked_ends : (v : ℕ) {total : ℕ} → v ≤ benches → benches ≤ v → total ≡ sum v booked_in
      → total ≡ sum d.benches booked_in
  booked_ends v l m e =
      let all : v ≡ d.benches = omega (arith, B.benches_are) in
      e ∙ ap (λ (n : ℕ). sum n booked_in) all

-- ── the answers ──

module _ (d : Day) (bay : Bay) (jobs : ℕ) (minutes allowed booked : List ℕ)
    (W : Weighs d bay jobs minutes allowed booked) (O : OfTheDay d bay.set) where
  abbrev its : ℕ → Bool
  its = is_set 64 bay.set

  count-is : choices_of bay.set ≡ count d.benches its
  count-is =
      choices_below bay.set d.benches its W.holds.fields.bounded.few_benches
      (λ v l. elim (split (its v)) [
        | inl p ↦ rw (p, lt-ltb v d.benches (O.of_the_head v p)) refl
        | inr p ↦ rw p (sym (none (ltb v d.benches)))
      ])
    where
      none : (b : Bool) → (b && false) ≡ false
      none true = refl
      none false = refl

  some : 0 < count d.benches its
  some = elim (split (any 64 its)) [
    | inl p ↦
        let (v, l, q) = any_elim 64 its p in
        count-pos d.benches its v (O.of_the_head v q) q
    | inr p ↦ absurd (omega (arith, any-is_set-zero 64 bay.set O.of_64_bits p, O.some_bench))
  ]

  blocks_is : (r : Option ℕ) → r ≡ least_heavy d its → blocks d its ≡ outweighs d its r
  unfolding blocks
  blocks_is r e = rw (lt-ltb 0 (count d.benches its) some, e) refl

  pub blocks-none : {r : Option ℕ} → r ≡ least_heavy d its → r ≡ None → true ≡ blocks d its
  blocks-none {r} e p = sym (blocks_is r e ∙ ap (outweighs d its) p)

  pub blocks-weighed : {r : Option ℕ} (w : ℕ) {lights bookings fixed k product weight : ℕ}
      → r ≡ least_heavy d its → r ≡ Some w
      → lights ≡ sum d.jobs (λ j. on (light d j && lies_inside d its j) (d.minutes j))
      → bookings ≡ sum d.benches (λ v. on (its v) (d.booked v))
      → fixed ≡ plus_of bookings lights → k ≡ choices_of bay.set → product ≡ times_of k bay.target
      → weight ≡ plus_of fixed w → ltb product weight ≡ blocks d its
  blocks-weighed {r} w {lights} {bookings} {fixed} {k} e p el eb ef ek ep ew =
      let few = W.holds.fields.bounded.few_benches in
      let light-few : lights < 2 ^ 30 =
      rw el (light-small d bay jobs minutes allowed W.holds d.jobs (omega arith)) in
      let booked-few : bookings < 2 ^ 40 =
      rw eb (booked_small d bay.benches booked bay.set W.bookings d.benches (omega arith)) in
      let heavy-few : w < 2 ^ 30 = least-few w (sym e ∙ p) in
      let counted : k ≡ count d.benches its = ek ∙ count-is in
      let exact : times_of k bay.target ≡ count d.benches its * d.target =
      times_exact k bay.target (omega (arith, counted, count_most)) target_small
      ∙ ap₂ ◌*◌ counted W.holds.target_is in
      let all : plus_of fixed w ≡ confined_inside d its + w =
      omega (arith, ef, el, eb, light-few, booked-few, heavy-few) in
      ap₂ ltb (ep ∙ exact) (ew ∙ all) ∙ sym (blocks_is r e ∙ ap (outweighs d its) p)
    where
      count_most : count d.benches its ≤ 64
      count_most = omega (
        arith,
        W.holds.fields.bounded.few_benches,
        sum_bound d.benches 1 (λ v. on (its v) 1) (λ v l. on-le (its v) 1),
      )

      target_small : bay.target < 1073741824
      target_small = omega (arith, W.holds.target_is, W.holds.fields.bounded.target_small)

      least-few : (w : ℕ) → least_heavy d its ≡ Some w → w < 2 ^ 30
      least-few w q =
          omega (
            arith,
            least_small d W.holds.sound its w q,
            W.holds.fields.bounded.few_jobs,
            sum_bound d.jobs (2 ^ 20) (λ j. on (heavy d j) (d.minutes j)) (λ j l.
                omega (arith, on-le (heavy d j) (d.minutes j), W.holds.fields.bounded.minutes_small j l)),
          )
