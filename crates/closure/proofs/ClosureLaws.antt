-- Laws of closure m R S, what R leads to from S among the numbers below m.
--     grow-keeps, grow-adds, grow_elim    one round: it keeps S, it adds what R leads to, and nothing else
--     grow-local          a round looks only at numbers below m
--     closure-contains    the closure holds S
--     closure-closed      it holds what R leads to from it
--     closure-least       a property of S that R keeps, such as being in a set that holds S and what R leads to from it, holds in the closure
--     closure_mono        more in S and more in R give more in the closure
--     closure_cong        equal sets and relations have the same closure
--     closure-fixed       where S holds what R leads to from it, S is its own closure
--     closure-chain       each number of the closure has a chain from S
--     chain-closure       each number with a chain from S is in the closure
--     chain_least         a property of S that R keeps holds wherever a chain leads
--     chain_dec           so whether there is a chain is decided
--     reach_refl, reach-next, reach_trans     u reaches u; one step more; two ways joined
--     reach-least         a set that holds u, and what R leads to from it, holds what u reaches
--     closure-reach, reach-closure            the closure of S is what the numbers of S reach
use Prim.Native.Nat.{ℕ, ◌<◌}
use mathlib.Core.Bool.{Bool, true, ◌&&◌, ◌||◌}
use mathlib.Core.Path.{◌≡◌, refl, sym, ◌∙◌, ap₂}
use mathlib.Core.Logic.{◌⊎◌, inl, inr}
use lib.Dec.{eqb}
use borrow.Author.Tests.{eqb-true, eq-eqb}
use Rattle.bools.proofs.BoolLaws.{split, clash, and_intro, and_left, and_right, or_left, or_right, or_elim, bool_ext}
use Rattle.sums.specs.Search.{any}
use Rattle.sums.proofs.SearchLaws.{any_intro, any_elim, any_cong}
use Rattle.closure.specs.Closure.{iterate, grow, closure, reach, Chain, start, next}
use Rattle.closure.proofs.IterateLaws.{iterate-extends, iterate-into, iterate_fixed}

-- ── one round ──

module _ (m : ℕ) (R : ℕ → ℕ → Bool) where
  pub grow-keeps : (S : ℕ → Bool) (v : ℕ) → S v ≡ true → grow m R S v ≡ true
  unfolding grow
  grow-keeps S v p = or_left (any m (λ u. S u && R u v)) p

  pub grow-adds : (S : ℕ → Bool) (u v : ℕ) → u < m → S u ≡ true → R u v ≡ true → grow m R S v ≡ true
  unfolding grow
  grow-adds S u v h p q = or_right (S v) (any_intro m (λ k. S k && R k v) u h (and_intro p q))

  pub grow_elim : (S : ℕ → Bool) (v : ℕ) → grow m R S v ≡ true → (S v ≡ true) ⊎ ((u : ℕ) × (u < m) × (S u ≡ true) × (R u v ≡ true))
  unfolding grow
  grow_elim S v p = elim (or_elim (S v) (any m (λ u. S u && R u v)) p) [
    | inl q ↦ inl q
    | inr q ↦ let (u, h, r) = any_elim m (λ u. S u && R u v) q in inr (u, h, and_left (S u) (R u v) r, and_right (S u) (R u v) r)
  ]

  pub grow-local : (S T : ℕ → Bool) → ((v : ℕ) → v < m → S v ≡ T v) → (v : ℕ) → v < m → grow m R S v ≡ grow m R T v
  unfolding grow
  grow-local S T e v b = ap₂ ◌||◌ (e v b) (any_cong m (λ u. S u && R u v) (λ u. T u && R u v) (λ u h. rw (e u h)))

-- ── the closure ──

module _ (m : ℕ) (R : ℕ → ℕ → Bool) (S : ℕ → Bool) where
  pub closure-contains : (v : ℕ) → S v ≡ true → closure m R S v ≡ true
  unfolding closure
  closure-contains v p = iterate-extends m (grow m R) S (grow-keeps m R) v p

  pub closure-closed : (u v : ℕ) → u < m → v < m → closure m R S u ≡ true → R u v ≡ true → closure m R S v ≡ true
  unfolding closure
  closure-closed u v hu hv p q = sym (iterate_fixed m (grow m R) S (λ T k _. grow-keeps m R T k) (grow-local m R) v hv)
      ∙ grow-adds m R (iterate m (grow m R) S) u v hu p q

  pub closure-chain : (v : ℕ) → closure m R S v ≡ true → Chain m R S v
  unfolding closure
  closure-chain = iterate-into m (grow m R) S (λ T. (v : ℕ) → T v ≡ true → Chain m R S v) (λ v p. start p)
      (λ T all v p. elim (grow_elim m R T v p) [ inl q ↦ all v q | inr t ↦ next (all t.0 t.2) t.1 t.3 ])

pub chain_least {ℓ} : (m : ℕ) (R : ℕ → ℕ → Bool) (S : ℕ → Bool) (P : ℕ → Type ℓ)
    → ((v : ℕ) → v < m → S v ≡ true → P v) → ((u v : ℕ) → u < m → v < m → P u → R u v ≡ true → P v)
    → (v : ℕ) → v < m → Chain m R S v → P v
chain_least m R S P base keep v b (start p) = base v b p
chain_least m R S P base keep v b (next {u} c h q) = keep u v h b (chain_least m R S P base keep u h c) q

module _ (m : ℕ) (R : ℕ → ℕ → Bool) (S : ℕ → Bool) where
  pub closure-least {ℓ} : (P : ℕ → Type ℓ)
      → ((v : ℕ) → v < m → S v ≡ true → P v) → ((u v : ℕ) → u < m → v < m → P u → R u v ≡ true → P v)
      → (v : ℕ) → v < m → closure m R S v ≡ true → P v
  closure-least P base keep v b p = chain_least m R S P base keep v b (closure-chain m R S v p)

  pub chain-closure : (v : ℕ) → v < m → Chain m R S v → closure m R S v ≡ true
  chain-closure = chain_least m R S (λ v. closure m R S v ≡ true) (λ v b. closure-contains m R S v) (closure-closed m R S)

  pub chain_dec : (v : ℕ) → v < m → Dec (Chain m R S v)
  chain_dec v b = elim (split (closure m R S v)) [
    | inl p ↦ yes (closure-chain m R S v p)
    | inr p ↦ no (λ c. clash (chain-closure v b c) p)
  ]

  pub closure-fixed : ((u v : ℕ) → u < m → v < m → S u ≡ true → R u v ≡ true → S v ≡ true) → (v : ℕ) → v < m → closure m R S v ≡ S v
  closure-fixed keep v b = bool_ext (closure m R S v) (S v) (closure-least (λ k. S k ≡ true) (λ k h p. p) keep v b) (closure-contains m R S v)

pub closure_mono : (m : ℕ) (R Q : ℕ → ℕ → Bool) (S T : ℕ → Bool)
    → ((u v : ℕ) → u < m → v < m → R u v ≡ true → Q u v ≡ true) → ((v : ℕ) → v < m → S v ≡ true → T v ≡ true)
    → (v : ℕ) → v < m → closure m R S v ≡ true → closure m Q T v ≡ true
closure_mono m R Q S T more-R more-S = closure-least m R S (λ v. closure m Q T v ≡ true) (λ v b p. closure-contains m Q T v (more-S v b p))
    (λ u v hu hv p q. closure-closed m Q T u v hu hv p (more-R u v hu hv q))

pub closure_cong : (m : ℕ) (R Q : ℕ → ℕ → Bool) (S T : ℕ → Bool)
    → ((u v : ℕ) → u < m → v < m → R u v ≡ Q u v) → ((v : ℕ) → v < m → S v ≡ T v)
    → (v : ℕ) → v < m → closure m R S v ≡ closure m Q T v
closure_cong m R Q S T e_r e_s v b = bool_ext (closure m R S v) (closure m Q T v)
    (closure_mono m R Q S T (λ u k hu hk p. sym (e_r u k hu hk) ∙ p) (λ k h p. sym (e_s k h) ∙ p) v b)
    (closure_mono m Q R T S (λ u k hu hk p. e_r u k hu hk ∙ p) (λ k h p. e_s k h ∙ p) v b)

-- ── what one number reaches ──

module _ (m : ℕ) (R : ℕ → ℕ → Bool) where
  pub reach_refl : (u : ℕ) → reach m R u u ≡ true
  unfolding reach
  reach_refl u = closure-contains m R (λ v. eqb v u) u (eq-eqb u u refl)

  pub reach-next : (u v w : ℕ) → v < m → w < m → reach m R u v ≡ true → R v w ≡ true → reach m R u w ≡ true
  unfolding reach
  reach-next u v w hv hw p q = closure-closed m R (λ k. eqb k u) v w hv hw p q

  pub reach-least {ℓ} : (u : ℕ) (P : ℕ → Type ℓ) → P u → ((v w : ℕ) → v < m → w < m → P v → R v w ≡ true → P w)
      → (v : ℕ) → v < m → reach m R u v ≡ true → P v
  unfolding reach
  reach-least u P base keep v b p = closure-least m R (λ k. eqb k u) P (λ k h e. rw (eqb-true k u e) base) keep v b p

  pub reach_trans : (u v w : ℕ) → w < m → reach m R u v ≡ true → reach m R v w ≡ true → reach m R u w ≡ true
  reach_trans u v w b p = reach-least v (λ k. reach m R u k ≡ true) p (λ k l hk hl. reach-next u k l hk hl) w b

  pub closure-reach : (S : ℕ → Bool) (v : ℕ) → v < m → closure m R S v ≡ true → (u : ℕ) × (u < m) × (S u ≡ true) × (reach m R u v ≡ true)
  closure-reach S = closure-least m R S (λ v. (u : ℕ) × (u < m) × (S u ≡ true) × (reach m R u v ≡ true))
      (λ v b p. (v, b, p, reach_refl v)) (λ u v hu hv r q. (r.0, r.1, r.2, reach-next r.0 u v hu hv r.3 q))

  pub reach-closure : (S : ℕ → Bool) (u v : ℕ) → v < m → S u ≡ true → reach m R u v ≡ true → closure m R S v ≡ true
  reach-closure S u v b p = reach-least u (λ k. closure m R S k ≡ true) (closure-contains m R S u p) (closure-closed m R S) v b
