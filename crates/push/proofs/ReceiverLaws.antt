-- The benches with a child, those with a heavy father, and those that may receive, as sets.
--     Joins                                a set with a bench where a test holds
--     EndsMore, to_low, to_high            the marks after one rock more, by where it leads
--     Ends, marks_none, marks_more, marks_all     the marks after none, after one turn more of the loop, and after the last
--     Levels, levels_none, levels_more     the sets of the levels after none, and after one turn more of the loop
use Prim.Native.Nat.{ℕ, ◌+◌, ◌≤◌, ◌<◌}
use mathlib.Core.Path.{◌≡◌, refl, sym, ap, ap₂, subst, ◌∙◌}
use mathlib.Core.Bool.{Bool, true, false, cond, ◌&&◌, ◌||◌}
use mathlib.Core.Logic.{◌≢◌, inl, inr}
use mathlib.Core.List.{List}
use native.Mathlib.Omega.{arith}
use native.Mathlib.Numerals.{add-one}
use lib.Dec.{eqb, ltb}
use lib.ListN.{length, get_or}
use borrow.Author.Tests.{eq-eqb, ne_eqb, eqb-true, lt-ltb, le-ltb}
use Rattle.bools.proofs.BoolLaws.{split, and-false_left, and-false_right, and_unit, or_unit}
use Rattle.bools.proofs.OrderLaws.{eq-or-ne, lt-or-le}
use Rattle.sums.specs.Search.{any}
use Rattle.bits.specs.Bits.{is_set}
use Rattle.bits.proofs.SetBits.{is_set-zero}
use Rattle.arrays.specs.Arrays.{plus_of}
use Rattle.rocks.specs.RockArrays.{touches_at, within_at, child_at}
use Rattle.push.specs.PushArrays.{heavy_at}

-- ── one edge more ──

-- The set has besides the old ones the bench v, where c holds.
abbrev pub Joins : ℕ → Bool → ℕ → ℕ → Type 0
Joins old c v new = (u : ℕ) → u < 64 → is_set 64 new u ≡ (is_set 64 old u || (c && eqb u v))

-- ── one rock more ──

-- P: the bench is in the conflict set. Q: the rock is heavy there.
module _ (P Q : ℕ → Bool) (d lo hi v : ℕ) (small : v < 64) where
  abbrev is_child : Bool
  is_child = (eqb v lo || eqb v hi) && (eqb d (plus_of v 1) && P (cond (eqb v lo) hi lo))

  abbrev is_heavy : Bool
  is_heavy = (eqb v lo || eqb v hi) && ((eqb d (plus_of (cond (eqb v lo) hi lo) 1) && P (cond (eqb v lo) hi lo)) && Q v)

  child_low : d ≡ plus_of lo 1 → (P hi && eqb v lo) ≡ is_child
  child_low ed = elim (eq-or-ne v lo) [
    | inl e ↦ rw (eq-eqb v lo e, eq-eqb d (plus_of v 1) (ed ∙ ap (λ (k : ℕ). plus_of k 1) (sym e))) (and_unit (P hi) refl)
    | inr ne ↦
        let far : eqb d (plus_of v 1) ≡ false = ne_eqb d (plus_of v 1) (λ q. ne (omega (arith, ed, q))) in
        rw (ne_eqb v lo ne, far) (and-false_right (P hi) refl ∙ sym (and-false_right (eqb v hi) refl))
  ]

  heavy_low : d ≡ plus_of lo 1 → ((P lo && Q hi) && eqb v hi) ≡ is_heavy
  heavy_low ed = elim (eq-or-ne v lo) [
    | inl e ↦ elim (eq-or-ne v hi) [
      | inl f ↦
          let same : lo ≡ hi = sym e ∙ f in
          rw (eq-eqb v lo e, eq-eqb v hi f, eq-eqb d (plus_of hi 1) (ed ∙ ap (λ (k : ℕ). plus_of k 1) same))
          (and_unit (P lo && Q hi) refl ∙ ap₂ (λ (a b : ℕ). P a && Q b) same (sym f))
      | inr ne ↦
          let far : eqb d (plus_of hi 1) ≡ false = ne_eqb d (plus_of hi 1) (λ q. ne (omega (arith, ed, q, e))) in
          rw (eq-eqb v lo e, ne_eqb v hi ne, far) (and-false_right (P lo && Q hi) refl)
    ]
    | inr ne ↦ elim (eq-or-ne v hi) [
      | inl f ↦
          rw (ne_eqb v lo ne, eq-eqb v hi f, eq-eqb d (plus_of lo 1) ed) (and_unit (P lo && Q hi) refl ∙ ap (λ (k : ℕ). P lo && Q k) (sym f))
      | inr g ↦ rw (ne_eqb v lo ne, ne_eqb v hi g) (and-false_right (P lo && Q hi) refl)
    ]
  ]

  child_high : d ≢ plus_of lo 1 → d ≡ plus_of hi 1 → (P lo && eqb v hi) ≡ is_child
  child_high ned ed = elim (eq-or-ne v lo) [
    | inl e ↦
        let far : eqb d (plus_of v 1) ≡ false = ne_eqb d (plus_of v 1) (λ q. ned (q ∙ ap (λ (k : ℕ). plus_of k 1) e)) in
        let apart : eqb v hi ≡ false = ne_eqb v hi (λ f. ned (ed ∙ ap (λ (k : ℕ). plus_of k 1) (sym f ∙ e))) in
        rw (eq-eqb v lo e, apart, far) (and-false_right (P lo) refl)
    | inr ne ↦ elim (eq-or-ne v hi) [
      | inl f ↦ rw (ne_eqb v lo ne, eq-eqb v hi f, eq-eqb d (plus_of v 1) (ed ∙ ap (λ (k : ℕ). plus_of k 1) (sym f))) (and_unit (P lo) refl)
      | inr g ↦ rw (ne_eqb v lo ne, ne_eqb v hi g) (and-false_right (P lo) refl)
    ]
  ]

  heavy_high : d ≢ plus_of lo 1 → d ≡ plus_of hi 1 → ((P hi && Q lo) && eqb v lo) ≡ is_heavy
  heavy_high ned ed = elim (eq-or-ne v lo) [
    | inl e ↦
        rw (eq-eqb v lo e, eq-eqb d (plus_of hi 1) ed) (and_unit (P hi && Q lo) refl ∙ ap (λ (k : ℕ). P hi && Q k) (sym e))
    | inr ne ↦
        rw (ne_eqb v lo ne, ne_eqb d (plus_of lo 1) ned) (and-false_right (P hi && Q lo) refl ∙ sym (and-false_right (eqb v hi) refl))
  ]

-- The set has besides the old ones the ends of rock r that P holds of.
abbrev pub EndsMore : List ℕ → List ℕ → (ℕ → ℕ → Bool) → ℕ → ℕ → ℕ → Type 0
EndsMore low high P r old new = (v : ℕ) → v < 64 → is_set 64 new v ≡ (is_set 64 old v || (touches_at low high r v && P r v))

module _ (benches limit : ℕ) (low high weight own dir joined : List ℕ) (children heavy : ℕ) (r : ℕ) {d lo hi : ℕ} (ed : d ≡ get_or dir r 0) (elo : lo ≡ get_or low r 0)
    (ehi : hi ≡ get_or high r 0) where
  -- What an edge from t to h adds.
  abbrev Edge : ℕ → ℕ → ℕ → ℕ → ℕ → Type 0
  Edge t h w children' heavy' =
      Joins children (within_at benches joined t) h children' × Joins heavy (within_at benches joined h && ltb limit (get_or own t 0 + w)) t heavy'

  abbrev Both : ℕ → ℕ → Type 0
  Both children' heavy' =
      EndsMore low high (child_at benches low high dir joined) r children children'
      × EndsMore low high (heavy_at benches limit low high weight own dir joined) r heavy heavy'

  abbrev inside : ℕ → Bool
  inside u = within_at benches joined u

  abbrev weighty : ℕ → Bool
  weighty u = ltb limit (get_or own u 0 + get_or weight r 0)

  pub to_low : (children' heavy' : ℕ) {w s : ℕ} → w ≡ get_or weight r 0 → s ≡ plus_of lo 1 → d ≡ s → Edge hi lo w children' heavy' → Both children' heavy'
  to_low children' heavy' {w} ew es e (C, H) =
      let at_low : get_or dir r 0 ≡ plus_of (get_or low r 0) 1 = sym ed ∙ e ∙ es ∙ ap (λ (k : ℕ). plus_of k 1) elo in (
        λ v h. C v h ∙ ap (λ (k : Bool). is_set 64 children v || k)
            (ap₂ (λ (a b : ℕ). inside a && eqb v b) ehi elo ∙ child_low inside weighty (get_or dir r 0) (get_or low r 0) (get_or high r 0) v h at_low),
        λ v h. H v h ∙ ap (λ (k : Bool). is_set 64 heavy v || k)
            (ap₂ (λ (a b : ℕ). (inside a && ltb limit (get_or own b 0 + w)) && eqb v b) elo ehi
            ∙ ap (λ (k : ℕ). (inside (get_or low r 0) && ltb limit (get_or own (get_or high r 0) 0 + k)) && eqb v (get_or high r 0)) ew
            ∙ heavy_low inside weighty (get_or dir r 0) (get_or low r 0) (get_or high r 0) v h at_low),
      )

  pub to_high : (children' heavy' : ℕ) {w s t : ℕ} → w ≡ get_or weight r 0 → s ≡ plus_of lo 1 → d ≢ s → t ≡ plus_of hi 1 → d ≡ t → Edge lo hi w children' heavy'
      → Both children' heavy'
  to_high children' heavy' {w} ew es ne et e (C, H) =
      let not_low : get_or dir r 0 ≢ plus_of (get_or low r 0) 1 = λ q. ne (ed ∙ q ∙ sym (es ∙ ap (λ (k : ℕ). plus_of k 1) elo)) in
      let at_high : get_or dir r 0 ≡ plus_of (get_or high r 0) 1 = sym ed ∙ e ∙ et ∙ ap (λ (k : ℕ). plus_of k 1) ehi in (
        λ v h. C v h ∙ ap (λ (k : Bool). is_set 64 children v || k)
            (ap₂ (λ (a b : ℕ). inside a && eqb v b) elo ehi ∙ child_high inside weighty (get_or dir r 0) (get_or low r 0) (get_or high r 0) v h not_low at_high),
        λ v h. H v h ∙ ap (λ (k : Bool). is_set 64 heavy v || k)
            (ap₂ (λ (a b : ℕ). (inside a && ltb limit (get_or own b 0 + w)) && eqb v b) ehi elo
            ∙ ap (λ (k : ℕ). (inside (get_or high r 0) && ltb limit (get_or own (get_or low r 0) 0 + k)) && eqb v (get_or low r 0)) ew
            ∙ heavy_high inside weighty (get_or dir r 0) (get_or low r 0) (get_or high r 0) v h not_low at_high),
      )

-- ── the loop over the rocks ──

module _ (low high : List ℕ) (P : ℕ → ℕ → Bool) where
  -- The set has the ends of the first r rocks that P holds of.
  abbrev pub Ends : ℕ → ℕ → Type 0
  Ends r s = (v : ℕ) → v < 64 → is_set 64 s v ≡ any r (λ i. touches_at low high i v && P i v)

  pub marks_none : Ends 0 0
  marks_none v h = is_set-zero 64 v

  pub marks_more : (r old new : ℕ) → Ends r old → EndsMore low high P r old new → Ends (r + 1) new
  marks_more r old new before more v h =
      rw add-one (more v h ∙ ap (λ (k : Bool). k || (touches_at low high r v && P r v)) (before v h))

  pub marks_all : (r rocks s : ℕ) → r ≤ rocks → rocks ≤ r → Ends r s → Ends rocks s
  marks_all r rocks s h l E = let e : r ≡ rocks = omega arith in subst (λ (k : ℕ). Ends k s) e E

-- ── the loop over the benches ──

gather : (a p q r : Bool) → ((a || (p && r)) || (q && r)) ≡ (a || ((p || q) && r))
gather true p q r = refl
gather false true q true = refl
gather false true q false = and-false_right q refl
gather false false q r = refl

below_next : (u v : ℕ) → (ltb u v || eqb u v) ≡ ltb u (v + 1)
below_next u v = elim (lt-or-le u v) [
  | inl l ↦ ap (λ (k : Bool). k || eqb u v) (lt-ltb u v l) ∙ sym (lt-ltb u (v + 1) (omega arith))
  | inr l ↦ ap (λ (k : Bool). k || eqb u v) (le-ltb u v l) ∙ elim (eq-or-ne u v) [
    | inl e ↦ eq-eqb u v e ∙ sym (lt-ltb u (v + 1) (omega arith))
    | inr ne ↦ ne_eqb u v ne ∙ sym (le-ltb u (v + 1) (above u v l ne))
  ]
]
  where
    above : (x y : ℕ) → y ≤ x → (x ≡ y → ⊥) → y + 1 ≤ x
    above x y h ne = elim (lt-or-le y x) [ inl l ↦ omega arith | inr l ↦ absurd (ne (omega arith)) ]

at_end : (f : ℕ → Bool) (v u : ℕ) → (eqb v u && f u) ≡ (eqb v u && f v)
at_end f v u = elim (split (eqb v u)) [
  | inl p ↦ ap (λ (k : ℕ). eqb v u && f k) (sym (eqb-true v u p))
  | inr p ↦ and-false_left (f u) p ∙ sym (and-false_left (f v) p)
]

module _ (level : List ℕ) (f : ℕ → Bool) (t₀ : List ℕ) where
  -- The sets hold the benches below v.
  abbrev pub Levels : ℕ → List ℕ → Type 0
  Levels v t =
      (l u : ℕ) → l < length t₀ → u < 64
      → is_set 64 (get_or t l 0) u ≡ (is_set 64 (get_or t₀ l 0) u || (ltb u v && (eqb l (get_or level u 0) && f u)))

  pub levels_none : Levels 0 t₀
  levels_none l u h k =
      sym (or_unit (is_set 64 (get_or t₀ l 0) u) (and-false_left (eqb l (get_or level u 0) && f u) (le-ltb u 0 (omega arith))))

  pub levels_more : (v : ℕ) (t s : List ℕ) → length t ≡ length t₀ → Levels v t
      → ((l u : ℕ) → l < length t → u < 64
      → is_set 64 (get_or s l 0) u ≡ (is_set 64 (get_or t l 0) u || (eqb u v && (eqb l (get_or level v 0) && f v)))) → Levels (v + 1) s
  levels_more v t s same inv step l u h hu =
      step l u (omega arith) hu
      ∙ ap₂ (λ (x y : Bool). x || y) (inv l u h hu) (at_end (λ k. eqb l (get_or level k 0) && f k) u v)
      ∙ gather (is_set 64 (get_or t₀ l 0) u) (ltb u v) (eqb u v) (eqb l (get_or level u 0) && f u)
      ∙ ap (λ (k : Bool). is_set 64 (get_or t₀ l 0) u || (k && (eqb l (get_or level u 0) && f u))) (below_next u v)
