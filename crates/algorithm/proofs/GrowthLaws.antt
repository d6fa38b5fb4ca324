-- Directions only grow: what is directed stays directed alike.
--     Grows dir last          every rock that dir directs, last directs alike
--     grows_refl, grows_join, grows-direct    nothing directed; one after the other; one neutral rock directed
--     directed-towards        a rock that is not neutral is directed towards some bench
--     grows-neutral           a rock that is neutral at the end was neutral at the start
--     grows_back              a rock directed towards a bench at the end was so at the start, or was neutral
--     grows-rock_load         the rock load of a bench does not fall
--     gain_received           a bench with more rock load at the end received a rock
--     gain_none, gain_one     a bench that received no rock keeps its rock load; one that received a single rock gains its weight
--     Cause b dir v           the bench has more load than the bound by itself, or together with one rock that is directed towards it
--     grows_cause             such a cause stays
use Prim.Native.Nat.{ℕ, suc, ◌+◌, ◌-◌, ◌≤◌, ◌<◌}
use mathlib.Core.Path.{◌≡◌, ap, subst}
use mathlib.Core.Logic.{◌⊎◌, inl, inr, ⊎_elim}
use mathlib.Core.Bool.{Bool, true, false, ◌&&◌}
use native.Mathlib.Omega.{arith}
use lib.ListN.{get_or}
use borrow.Author.Tests.{eq-eqb, eqb-false}
use Rattle.bools.proofs.BoolLaws.{split, clash, and_intro, and_left, and_right, and-false_right, bool_ext}
use Rattle.bools.proofs.OrderLaws.{lt-or-le}
use Rattle.sums.specs.Sum.{on}
use Rattle.sums.specs.Search.{any}
use Rattle.sums.proofs.SumLaws.{sum_cong, sum-update, sum-on-subset}
use Rattle.sums.proofs.SearchLaws.{any_elim, any_none}
use Rattle.algorithm.specs.Board.{Board, Directions, touches, neutral, towards, rock_load}
use Rattle.algorithm.specs.Forced.{direct}
use Rattle.algorithm.specs.Properties.{Received}
use Rattle.algorithm.proofs.BoardLaws.{neutral-directed, towards-unique, direct-keeps}

pub record Grows (dir last : Directions) : Type 0 where
  pub keeps : (e v : ℕ) → towards dir e v ≡ true → towards last e v ≡ true

pub grows_refl : {dir : Directions} → Grows dir dir
grows_refl = record { keeps = λ e v t. t }

pub grows_join : {dir mid last : Directions} → Grows dir mid → Grows mid last → Grows dir last
grows_join p q = record { keeps = λ e v t. q.keeps e v (p.keeps e v t) }

pub grows-direct : (b : Board) (dir : Directions) (v j : ℕ) → neutral dir j ≡ true → Grows dir (direct b dir v j)
grows-direct b dir v j n = record { keeps = λ e u t. direct-keeps b dir v j e u n t }

pub directed-towards : (dir : Directions) (e : ℕ) → neutral dir e ≡ false → (v : ℕ) × (towards dir e v ≡ true)
directed-towards dir e n =
    let differs = eqb-false (get_or dir e 0) 0 n in
    (get_or dir e 0 - 1, eq-eqb (get_or dir e 0) (suc (get_or dir e 0 - 1)) (omega arith))

module _ {dir last : Directions} (g : Grows dir last) where
  pub grows-neutral : (e : ℕ) → neutral last e ≡ true → neutral dir e ≡ true
  grows-neutral e n = elim (split (neutral dir e)) [
    | inl p ↦ p
    | inr p ↦ let (v, t) = directed-towards dir e p in absurd (neutral-directed last e v n (g.keeps e v t))
  ]

  pub grows_back : (e u : ℕ) → towards last e u ≡ true → (towards dir e u ≡ true) ⊎ (neutral dir e ≡ true)
  grows_back e u s = elim (split (neutral dir e)) [
    | inl p ↦ inr p
    | inr p ↦ let (v, t) = directed-towards dir e p in
        inl (subst (λ (w : ℕ). towards dir e w ≡ true) (towards-unique last e v u (g.keeps e v t) s) t)
  ]

-- ── loads ──

module _ (b : Board) {dir last : Directions} (g : Grows dir last) (u : ℕ) where
  pub grows-rock_load : rock_load b dir u ≤ rock_load b last u
  unfolding rock_load
  grows-rock_load =
      sum-on-subset b.jobs (λ e. touches b e u && towards dir e u) (λ e. touches b e u && towards last e u) b.weight
      (λ e h p. and_intro (and_left (touches b e u) (towards dir e u) p) (g.keeps e u (and_right (touches b e u) (towards dir e u) p)))

  -- A rock that is directed towards the bench now, and was not before, was neutral before: the bench received it. Any other rock adds to the rock load
  -- what it added before.
  unreceived : (e : ℕ) → e < b.jobs → (Received b dir last u e → ⊥) → (touches b e u && towards last e u) ≡ (touches b e u && towards dir e u)
  unreceived e h never = bool_ext (touches b e u && towards last e u) (touches b e u && towards dir e u)
      (λ p.
      let t = and_left (touches b e u) (towards last e u) p in
      let s = and_right (touches b e u) (towards last e u) p in
      and_intro t (⊎_elim (λ d. d) (λ n. absurd (never (h, t, n, s))) (grows_back g e u s)))
      (λ p. and_intro (and_left (touches b e u) (towards dir e u) p) (g.keeps e u (and_right (touches b e u) (towards dir e u) p)))

  pub gain_received : rock_load b dir u < rock_load b last u → (e : ℕ) × Received b dir last u e
  unfolding rock_load
  gain_received more = elim (split (any b.jobs receives)) [
    | inl p ↦ let (e, h, r) = any_elim b.jobs receives p in
        let tn = and_left (touches b e u && neutral dir e) (towards last e u) r in
        let s = and_right (touches b e u && neutral dir e) (towards last e u) r in
        (e, (h, and_left (touches b e u) (neutral dir e) tn, and_right (touches b e u) (neutral dir e) tn, s))
    | inr p ↦ let same = sum_cong b.jobs (λ e. on (touches b e u && towards last e u) (b.weight e)) (λ e. on (touches b e u && towards dir e u) (b.weight e))
        (λ e h. ap (λ (k : Bool). on k (b.weight e))
        (unreceived e h (λ r. clash (and_intro (and_intro r.1 r.2) r.3) (any_none b.jobs receives p e h))))
        in
        absurd (omega arith)
  ]
    where
      receives : ℕ → Bool
      receives e = touches b e u && neutral dir e && towards last e u

  pub gain_none : ((e : ℕ) → Received b dir last u e → ⊥) → rock_load b last u ≡ rock_load b dir u
  gain_none none = elim (lt-or-le (rock_load b dir u) (rock_load b last u)) [
    | inl more ↦ let (e, r) = gain_received more in absurd (none e r)
    | inr l ↦ omega (arith, grows-rock_load)
  ]

  pub gain_one : (e : ℕ) → Received b dir last u e → ((f : ℕ) → Received b dir last u f → f ≡ e)
      → rock_load b last u ≡ rock_load b dir u + b.weight e
  unfolding rock_load
  gain_one e (h, t, n, s) single =
      let not_yet : towards dir e u ≡ false = elim (split (towards dir e u)) [ inl p ↦ absurd (neutral-directed dir e u n p) | inr p ↦ p ] in
      let before : on (touches b e u && towards dir e u) (b.weight e) ≡ 0 = ap (λ (k : Bool). on k (b.weight e)) (and-false_right (touches b e u) not_yet) in
      let after : on (touches b e u && towards last e u) (b.weight e) ≡ b.weight e = ap (λ (k : Bool). on k (b.weight e)) (and_intro t s) in
      let rest = sum-update b.jobs (λ f. on (touches b f u && towards last f u) (b.weight f)) (λ f. on (touches b f u && towards dir f u) (b.weight f)) e h
      (λ f hf ne. ap (λ (k : Bool). on k (b.weight f)) (unreceived f hf (λ r. ne (single f r))))
      in
      omega arith

-- ── why a bench is overloaded ──

abbrev pub Cause : Board → Directions → ℕ → Type 0
Cause b dir v = (b.bound < b.own v)
    ⊎ ((e : ℕ) × (e < b.jobs) × (touches b e v ≡ true) × (towards dir e v ≡ true) × (b.bound < b.own v + b.weight e))

pub grows_cause : (b : Board) {dir last : Directions} (g : Grows dir last) (v : ℕ) → Cause b dir v → Cause b last v
grows_cause b g v (inl h) = inl h
grows_cause b g v (inr (e, h, t, s, more)) = inr (e, h, t, g.keeps e v s, more)
