-- A placement of one heavy job more is made from one that leaves free the end that the job takes.
--     put-on-end        where benches f may be free besides the end e, the job is put on e, and f is left free
--     spent-most        a placement weighs no more inside the set than all heavy jobs
--     small_numbers     no bench of an open class costs more than all heavy jobs weigh
use Prim.Native.Nat.{ℕ, suc, ◌+◌, ◌≤◌, ◌<◌}
use mathlib.Core.Path.{◌≡◌, refl, sym, ap, ◌∙◌}
use mathlib.Core.Bool.{Bool, true, false, not, cond, ◌&&◌, ◌||◌}
use mathlib.Core.Logic.{◌⊎◌, inl, inr, ◌≢◌}
use native.Mathlib.Omega.{arith}
use lib.Dec.{eqb}
use borrow.Author.Tests.{eqb-true, eq-eqb, ne_eqb}
use Rattle.bools.proofs.BoolLaws.{split, clash, and_intro, or_left, or_right, or-false}
use Rattle.bools.proofs.OrderLaws.{last_or_below}
use Rattle.sums.specs.Sum.{on, sum}
use Rattle.sums.proofs.SearchLaws.{any_intro, any_cong}
use Rattle.sums.proofs.SumLaws.{on-le, sum_cong, sum-le, sum-term}
use Rattle.placements.specs.Classes.{Heavies, Classes, cost}
use Rattle.placements.proofs.ClassSums.{insert_one}
use Rattle.placements.proofs.ClassFacts.{held, spent, total, Puts, Free, Sound, held_more, spent-more}

-- The same places, with job i on bench e.
abbrev moved : (ℕ → ℕ) → ℕ → ℕ → ℕ → ℕ
moved place i e j = cond (eqb j i) e (place j)

module _ (g : Heavies) (m i : ℕ) (s : Classes) (S : Sound g m i s) (heavy : g.heavy i ≡ true)
    (e : ℕ) (below : e < m) (end : (e ≡ g.low i) ⊎ (e ≡ g.high i)) where
  here : (place : ℕ → ℕ) → moved place i e i ≡ e
  here place = rw (eq-eqb i i refl) refl

  there : (place : ℕ → ℕ) (j : ℕ) → j < i → moved place i e j ≡ place j
  there place j l = rw (ne_eqb j i (omega arith)) refl

  module _ (place : ℕ → ℕ) (P : Puts g i place) (free : held g i place e ≡ false) where
    abbrev new : ℕ → ℕ
    new = moved place i e

    new-puts : Puts g (suc i) new
    new-puts =
        record {
          on_end = λ j l p. elim (last_or_below l) [
            | inl q ↦ rw (q, here place) end
            | inr q ↦ rw (there place j q) (P.on_end j q p)
          ];
          apart = λ j k l t p q same. elim (last_or_below t) [
            | inl r ↦
                let on-it : place j ≡ e =
                sym (there place j (omega arith)) ∙ same ∙ ap (moved place i e) r ∙ here place in
                clash (any_intro i (λ u. g.heavy u && eqb (place u) e) j (omega arith)
                (and_intro p (eq-eqb (place j) e on-it))) free
            | inr r ↦ P.apart j k l r p q (sym (there place j (omega arith)) ∙ same ∙ there place k r)
          ];
        }

    still-held : (b : ℕ) → held g i new b ≡ held g i place b
    still-held b =
        any_cong i (λ j. g.heavy j && eqb (new j) b) (λ j. g.heavy j && eqb (place j) b)
        (λ j l. ap (λ (v : ℕ). g.heavy j && eqb v b) (there place j l))

    new-free : (b : ℕ) → b ≢ e → held g i place b ≡ false → held g (suc i) new b ≡ false
    new-free b ne p =
        held_more g i heavy new b
        ∙ or-false (still-held b ∙ p) (ne_eqb (new i) b (λ q. ne (sym q ∙ here place)))

    new-spent : spent g (suc i) new ≡ spent g i place + cost g i e
    new-spent =
        spent-more g i heavy new
        ∙ (rw (here place) (ap (λ (n : ℕ). n + cost g i e)
        (sum_cong i (λ j. on (g.heavy j) (cost g j (new j))) (λ j. on (g.heavy j) (cost g j (place j)))
        (λ j l. ap (λ (v : ℕ). on (g.heavy j) (cost g j v)) (there place j l)))))

  -- Benches f, with the amounts `more` that they cost afterwards.
  module _ (f : ℕ → Bool) (more : ℕ → ℕ) (pay : ℕ) where
    pub put-on-end : f e ≡ false → Free m s (λ b. f b || eqb b e)
        → s.extra e + cost g i e + sum m (λ b. on (f b) (s.extra b)) ≤ pay + sum m (λ b. on (f b) (more b))
        → (place : ℕ → ℕ) × Puts g (suc i) place
        × ((b : ℕ) → b < m → f b ≡ true → held g (suc i) place b ≡ false)
        × (spent g (suc i) place ≤ s.base + pay + sum m (λ b. on (f b) (more b)))
    put-on-end out good gap =
        let (place, P, left, most) = S.reached (λ b. f b || eqb b e) good in
        let free : held g i place e ≡ false = left e below (or_right (f e) (eq-eqb e e refl)) in (
          new place P free,
          new-puts place P free,
          λ b l p. new-free place P free b (λ q. clash p (ap f q ∙ out)) (left b l (or_left (eqb b e) p)),
          omega (arith, most, gap, new-spent place P free, insert_one m s.extra f e below),
        )

-- ── how large the numbers are ──

module _ (g : Heavies) (i : ℕ) where
  pub spent-most : (place : ℕ → ℕ) → spent g i place ≤ total g i
  spent-most place =
      sum-le i (λ j. on (g.heavy j) (cost g j (place j))) (λ j. on (g.heavy j) (g.weight j))
      (λ j l. elim (split (g.heavy j)) [
        | inl p ↦ rw p (on-le (g.inside (place j)) (g.weight j))
        | inr p ↦ rw p (omega arith)
      ])

module _ (g : Heavies) (m i : ℕ) (s : Classes) where
  -- From the two bounds alone, of a bench that may be the free one of its class.
  pub small_numbers : ((place : ℕ → ℕ) → Puts g i place
      → s.base + sum m (λ b. on (not (held g i place b)) (s.extra b)) ≤ spent g i place)
      → ((f : ℕ → Bool) → Free m s f
      → (place : ℕ → ℕ) × Puts g i place × ((b : ℕ) → b < m → f b ≡ true → held g i place b ≡ false)
      × (spent g i place ≤ s.base + sum m (λ b. on (f b) (s.extra b))))
      → (b : ℕ) → b < m → s.shut b ≡ false → s.base + s.extra b ≤ total g i
  small_numbers lower upper b l unshut =
      let one : Free m s (λ c. eqb c b) =
      record {
        unshut = λ c t p. ap s.shut (eqb-true c b p) ∙ unshut;
        one_each = λ c d t u p q e. eqb-true c b p ∙ sym (eqb-true d b q);
      } in
      let (place, P, left, most) = upper (λ c. eqb c b) one in
      let it : on (not (held g i place b)) (s.extra b) ≡ s.extra b =
      rw (left b l (eq-eqb b b refl)) refl in
      omega (
        arith,
        lower place P,
        spent-most g i place,
        it,
        sum-term m (λ c. on (not (held g i place c)) (s.extra c)) b l,
      )
