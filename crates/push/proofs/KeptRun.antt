-- What a move changes of the loads and of the benches in reach.
--     shifted_load         each load after a shift
--     lies_none, lies_more     the benches in reach of no job, and of one job more
--     lies_all, lies_full      the benches in reach of all jobs: after the last job, and where the set has all that can come
--     reach_shifted        the sets after a shift
use Prim.Native.Nat.{ℕ, ◌+◌, ◌-◌, ◌≤◌, ◌<◌, ◌^◌, min}
use mathlib.Core.Path.{◌≡◌, sym, ap, ap₂, subst, ◌∙◌}
use mathlib.Core.Logic.{inl, inr}
use mathlib.Core.Bool.{Bool, true, cond, ◌&&◌, ◌||◌}
use mathlib.Core.List.{List}
use native.Mathlib.Omega.{arith}
use native.Mathlib.Numerals.{add-one}
use lib.Bits.{bit_or}
use lib.Dec.{eqb}
use lib.ListN.{length, get_or, set, length-set, get_or-eq_default}
use lib.Seq.{get_or-set_same, get_or-set_other}
use borrow.Author.Tests.{eq-eqb, ne_eqb}
use Rattle.bools.proofs.BoolLaws.{split, clash, and_right, bool_ext, or_nothing}
use Rattle.bools.proofs.OrderLaws.{eq-or-ne, lt-or-le}
use Rattle.sums.specs.Sum.{on}
use Rattle.sums.specs.Search.{any}
use Rattle.sums.proofs.SearchLaws.{any_intro, any_elim}
use Rattle.bits.specs.Bits.{is_set}
use Rattle.bits.proofs.SetBits.{is_set-zero}
use Rattle.arrays.specs.Arrays.{plus_of}
use Rattle.push.specs.KeptArrays.{shifted_of, lies_at, ReachShifted}
use Rattle.sets.proofs.SetLaws.{or-is_set}

-- ── the loads ──

module _ (own : List ℕ) (u v w : ℕ) where
  abbrev lighter : List ℕ
  lighter = set own u (get_or own u 0 - w)

  lighter-is : (x : ℕ) → x < length own → get_or lighter x 0 ≡ get_or own x 0 - on (eqb x u) w
  lighter-is x h = elim (eq-or-ne x u) [
    | inl e ↦
        rw (eq-eqb x u e)
        (subst (λ (k : ℕ). get_or lighter k 0 ≡ get_or own k 0 - w) (sym e) (get_or-set_same own u (get_or own u 0 - w) 0 (subst (λ (k : ℕ). k < length own) e h)))
    | inr ne ↦ rw (ne_eqb x u ne) (get_or-set_other own u x (get_or own u 0 - w) 0 ne ∙ omega arith)
  ]

  pub shifted_load : (x : ℕ) → x < length own → get_or own x 0 + w < 2 ^ 64 → get_or (shifted_of own u v w) x 0 ≡ (get_or own x 0 - on (eqb x u) w) + on (eqb x v) w
  shifted_load x h fits = elim (eq-or-ne x v) [
    | inl e ↦
        let here : get_or lighter v 0 ≡ get_or lighter x 0 = ap (λ (k : ℕ). get_or lighter k 0) (sym e) in
        let there : get_or (shifted_of own u v w) x 0 ≡ plus_of (get_or lighter x 0) w =
        ap (λ (k : ℕ). get_or (shifted_of own u v w) k 0) e
        ∙ get_or-set_same lighter v (plus_of (get_or lighter v 0) w) 0 (omega (arith, length-set own u (get_or own u 0 - w)))
        ∙ ap (λ (k : ℕ). plus_of k w) here in
        rw (eq-eqb x v e) (there ∙ omega (arith, lighter-is x h))
    | inr ne ↦
        rw (ne_eqb x v ne) (get_or-set_other lighter v x (plus_of (get_or lighter v 0) w) 0 ne ∙ lighter-is x h ∙ omega arith)
  ]

-- ── the benches in reach ──

module _ (choice place : List ℕ) (u : ℕ) where
  pub lies_none : (v : ℕ) → is_set 64 0 v ≡ any 0 (lies_at choice place u v)
  lies_none v = is_set-zero 64 v

  pub lies_more : (j set next : ℕ) → ((v : ℕ) → v < 64 → is_set 64 set v ≡ any j (lies_at choice place u v))
      → next ≡ cond (eqb (get_or place j 0) u) (bit_or set (get_or choice j 0)) set
      → (v : ℕ) → v < 64 → is_set 64 next v ≡ any (j + 1) (lies_at choice place u v)
  lies_more j set next before en v h = rw add-one (elim (split (eqb (get_or place j 0) u)) [
    | inl p ↦
        let e : next ≡ bit_or set (get_or choice j 0) = en ∙ rw p in
        ap (λ (k : ℕ). is_set 64 k v) e ∙ or-is_set set (get_or choice j 0) v
        ∙ ap₂ (λ (a b : Bool). a || b) (before v h) (sym (ap (λ (a : Bool). a && is_set 64 (get_or choice j 0) v) p))
    | inr p ↦
        let e : next ≡ set = en ∙ rw p in
        ap (λ (k : ℕ). is_set 64 k v) e ∙ before v h
        ∙ sym (ap (λ (a : Bool). any j (lies_at choice place u v) || (a && is_set 64 (get_or choice j 0) v)) p ∙ or_nothing (any j (lies_at choice place u v)))
  ])

  -- A job past the end of the table has no choice.
  pub lies_all : (j jobs end set v : ℕ) → j ≤ jobs → end ≡ min jobs (length choice) → end ≤ j → is_set 64 set v ≡ any j (lies_at choice place u v)
      → is_set 64 set v ≡ any jobs (lies_at choice place u v)
  lies_all j jobs end set v h least l e =
      let f : ℕ → Bool = lies_at choice place u v in
      e
      ∙ bool_ext (any j f) (any jobs f) (λ p. let (i, b, q) = any_elim j f p in any_intro jobs f i (omega arith) q)
      (λ p.
      let (i, b, q) = any_elim jobs f p in
      elim (lt-or-le i j) [
        | inl s ↦ any_intro j f i s q
        | inr s ↦
            let past : length choice ≤ i = omega (arith, least) in
            clash (and_right (eqb (get_or place i 0) u) (is_set 64 (get_or choice i 0) v) q)
            (ap (λ (k : ℕ). is_set 64 k v) (get_or-eq_default choice 0 past) ∙ is_set-zero 64 v)
      ])

  -- A set that has all that can come has no more to take in.
  pub lies_full : (j jobs set full v : ℕ) → j ≤ jobs → set ≡ full → is_set 64 set v ≡ any j (lies_at choice place u v)
      → (any jobs (lies_at choice place u v) ≡ true → is_set 64 full v ≡ true) → is_set 64 set v ≡ any jobs (lies_at choice place u v)
  lies_full j jobs set full v h e before all_in =
      bool_ext (is_set 64 set v) (any jobs (lies_at choice place u v))
      (λ p. let (i, l, q) = any_elim j (lies_at choice place u v) (sym before ∙ p) in any_intro jobs (lies_at choice place u v) i (omega arith) q)
      (λ p. ap (λ (k : ℕ). is_set 64 k v) e ∙ all_in p)

pub reach_shifted : (jobs : ℕ) (choice place reaches : List ℕ) (u v j : ℕ) (full more there : ℕ) (from₁ : List ℕ) {from₂ : List ℕ} → full ≡ get_or reaches u 0
    → ((x : ℕ) → x < 64 → (any jobs (lies_at choice place u x) ≡ true → is_set 64 full x ≡ true) → is_set 64 there x ≡ any jobs (lies_at choice place u x))
    → more ≡ bit_or (get_or reaches v 0) (get_or choice j 0) → from₁ ≡ set reaches v more → from₂ ≡ set from₁ u there
    → ReachShifted jobs choice place reaches u v j from₂
reach_shifted jobs choice place reaches u v j full more there from₁ {from₂} ef es em e1 e2 w x h l had =
    let sized : length from₁ ≡ length reaches = ap length e1 ∙ length-set reaches v more in
    elim (eq-or-ne w u) [
      | inl e ↦
          rw (eq-eqb w u e)
          (ap (λ (xs : List ℕ). is_set 64 (get_or xs w 0) x) e2 ∙ ap (λ (k : ℕ). is_set 64 (get_or (set from₁ u there) k 0) x) e
          ∙ ap (λ (k : ℕ). is_set 64 k x) (get_or-set_same from₁ u there 0 (omega (arith, sized)))
          ∙ es x l (λ p. ap (λ (k : ℕ). is_set 64 k x) ef ∙ had p))
      | inr ne ↦
          let past : is_set 64 (get_or from₂ w 0) x ≡ is_set 64 (get_or (set reaches v more) w 0) x =
          ap (λ (xs : List ℕ). is_set 64 (get_or xs w 0) x) e2 ∙ ap (λ (k : ℕ). is_set 64 k x) (get_or-set_other from₁ u w there 0 ne ∙ ap (λ (xs : List ℕ). get_or xs w 0) e1) in
          elim (eq-or-ne w v) [
            | inl e ↦
                rw (ne_eqb w u ne, eq-eqb w v e)
                (past ∙ ap (λ (k : ℕ). is_set 64 (get_or (set reaches v more) k 0) x) e
                ∙ ap (λ (k : ℕ). is_set 64 k x) (get_or-set_same reaches v more 0 (omega arith) ∙ em) ∙ or-is_set (get_or reaches v 0) (get_or choice j 0) x)
            | inr other ↦
                rw (ne_eqb w u ne, ne_eqb w v other) (past ∙ ap (λ (k : ℕ). is_set 64 k x) (get_or-set_other reaches v w more 0 other))
          ]
    ]
