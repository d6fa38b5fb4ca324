-- The arrays follow the opening of a round.
--     Entering          what the loop keeps by which the benches of a set join the conflict set
use Prim.Native.Nat.{ℕ, ◌≤◌, ◌<◌}
use mathlib.Core.Path.{◌≡◌, refl, sym, ap, subst, ◌∙◌}
use mathlib.Core.Bool.{Bool, true, false, cond, not, ◌&&◌}
use mathlib.Core.Logic.{inl, inr, ◌≢◌}
use mathlib.Core.List.{List}
use native.Mathlib.Omega.{arith}
use lib.Dec.{eqb, leb}
use lib.ListN.{length, get_or, set, length-set}
use lib.Seq.{get_or-set_same, get_or-set_other}
use borrow.Author.Tests.{eq-eqb, ne_eqb}
use Rattle.bools.proofs.BoolLaws.{split, clash, and_intro, and_left, and_right, not_intro_true}
use Rattle.bools.proofs.OrderLaws.{eq-or-ne}
use Rattle.bits.specs.Bits.{is_set}
use Rattle.bits.proofs.SetBits.{is_set-zero}
use Rattle.sets.specs.Sets.{lowest_of}
use Rattle.rocks.specs.RockArrays.{within_at}
use Rattle.sets.proofs.SetLaws.{lowest_holds}

-- What stays out of a set without u, and is not u, was out before.
still : (left left' u v : ℕ) → is_set 64 left' v ≡ (is_set 64 left v && not (eqb v u)) → is_set 64 left' v ≡ false → v ≢ u → is_set 64 left v ≡ false
still left left' u v same out ne = elim (split (is_set 64 left v)) [
  | inr p ↦ p
  | inl p ↦ clash (same ∙ and_intro p (not_intro_true (ne_eqb v u ne))) out
]

-- ── the benches that join ──

enter_here : (c : Bool) (t : List ℕ) (u i : ℕ) → u < length t → get_or (cond c t (set t u i)) u 0 ≡ cond (not c) i (get_or t u 0)
enter_here true t u i h = refl
enter_here false t u i h = get_or-set_same t u i 0 h

enter_there : (c : Bool) (t : List ℕ) (u i v : ℕ) → v ≢ u → get_or (cond c t (set t u i)) v 0 ≡ get_or t v 0
enter_there true t u i v ne = refl
enter_there false t u i v ne = get_or-set_other t u v i 0 ne

enter-length : (c : Bool) (t : List ℕ) (u i : ℕ) → length (cond c t (set t u i)) ≡ length t
enter-length true t u i = refl
enter-length false t u i = length-set t u i

module _ (m i all : ℕ) (t₀ : List ℕ) where
  pub record Entering (left : ℕ) (t : List ℕ) : Type 0 where
    pub small : left ≤ all
    pub inside : (k : ℕ) → k < 64 → is_set 64 left k ≡ true → is_set 64 all k ≡ true
    pub long : length t ≡ length t₀
    pub entered : (v : ℕ) → v < length t₀ → v < 64 → is_set 64 all v ≡ true → is_set 64 left v ≡ false
        → get_or t v 0 ≡ cond (not (within_at m t₀ v)) i (get_or t₀ v 0)
    pub waiting : (v : ℕ) → v < 64 → is_set 64 left v ≡ true → get_or t v 0 ≡ get_or t₀ v 0
    pub outside : (v : ℕ) → v < 64 → is_set 64 all v ≡ false → get_or t v 0 ≡ get_or t₀ v 0

  pub entering_goes_on : (left u : ℕ) (t : List ℕ) → Entering left t → u ≡ lowest_of left → u < 64
      → (left' : ℕ) → ((k : ℕ) → k < 64 → is_set 64 left' k ≡ (is_set 64 left k && not (eqb k u))) → left' < left
      → {t' : List ℕ} → t' ≡ cond (within_at m t u) t (set t u i) → Entering left' t'
  entering_goes_on left u t E e h left' same less {t'} et =
      let mine = lowest_holds left u e h in
      let first = E.waiting u h mine in
      record {
        small = omega (arith, E.small);
        inside = λ k l p. E.inside k l (and_left (is_set 64 left k) (not (eqb k u)) (sym (same k l) ∙ p));
        long = ap length et ∙ enter-length (within_at m t u) t u i ∙ E.long;
        entered = λ v l hv p q. ap (λ (x : List ℕ). get_or x v 0) et ∙ elim (eq-or-ne v u) [
          | inl at ↦
              ap (λ (k : ℕ). get_or (cond (within_at m t u) t (set t u i)) k 0) at
              ∙ enter_here (within_at m t u) t u i (omega (arith, E.long))
              ∙ ap (λ (k : ℕ). cond (not (leb k m)) i k) (first ∙ ap (λ (k : ℕ). get_or t₀ k 0) (sym at))
          | inr ne ↦ enter_there (within_at m t u) t u i v ne ∙ E.entered v l hv p (still left left' u v (same v hv) q ne)
        ];
        waiting = λ v hv p.
            let ne : v ≢ u = λ at. clash (and_right (is_set 64 left v) (not (eqb v u)) (sym (same v hv) ∙ p)) (ap not (eq-eqb v u at)) in
            ap (λ (x : List ℕ). get_or x v 0) et ∙ enter_there (within_at m t u) t u i v ne
            ∙ E.waiting v hv (and_left (is_set 64 left v) (not (eqb v u)) (sym (same v hv) ∙ p));
        outside = λ v hv p.
            let ne : v ≢ u = λ at. clash (subst (λ (k : ℕ). is_set 64 all k ≡ true) (sym at) (E.inside u h mine)) p in
            ap (λ (x : List ℕ). get_or x v 0) et ∙ enter_there (within_at m t u) t u i v ne ∙ E.outside v hv p;
      }

  pub entering_ends : (left : ℕ) (t : List ℕ) → Entering left t → left ≤ 0
      → (v : ℕ) → v < length t₀ → v < 64 → get_or t v 0 ≡ cond (is_set 64 all v && not (within_at m t₀ v)) i (get_or t₀ v 0)
  entering_ends left t E none v l h =
      let e : left ≡ 0 = omega arith in
      elim (split (is_set 64 all v)) [
        | inl p ↦
            E.entered v l h p (ap (λ (k : ℕ). is_set 64 k v) e ∙ is_set-zero 64 v)
            ∙ ap (λ (c : Bool). cond (c && not (within_at m t₀ v)) i (get_or t₀ v 0)) (sym p)
        | inr p ↦ E.outside v h p ∙ ap (λ (c : Bool). cond (c && not (within_at m t₀ v)) i (get_or t₀ v 0)) (sym p)
      ]
