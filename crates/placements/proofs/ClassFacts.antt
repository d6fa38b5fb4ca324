-- What the procedure for the least weight keeps, and what one heavy job does to placements.
--     held g i place b      a heavy job below i is put on bench b
--     spent g i place       what the heavy jobs below i weigh inside the set
--     total g i             what they weigh altogether
--     Puts g i place        each heavy job below i is put on one of its ends, and no two on one bench
--     Free m s f            the benches of f may be the free ones, one in each open class
--     Sound g m i s         what holds of the classes s after the jobs below i
--     EndsBelow g m n       the ends of heavy jobs are benches
use Prim.Native.Nat.{ℕ, suc, ◌+◌, ◌≤◌, ◌<◌}
use mathlib.Core.Path.{◌≡◌, refl, sym, ap, ◌∙◌}
use mathlib.Core.Bool.{Bool, true, false, not, ◌&&◌, ◌||◌}
use mathlib.Core.Logic.{◌⊎◌, inl, inr}
use native.Mathlib.Omega.{arith}
use lib.Dec.{eqb}
use borrow.Author.Tests.{eq-eqb, ne_eqb}
use Rattle.bools.proofs.BoolLaws.{split, clash, and_intro, or_left, or_right, or-false_left, or_unit}
use Rattle.bools.proofs.BoolLaws.{and-false_left, and-false_right}
use Rattle.sums.specs.Sum.{on, sum}
use Rattle.sums.specs.Search.{any}
use Rattle.sums.proofs.SearchLaws.{any_false}
use Rattle.placements.specs.Classes.{Heavies, Classes, cost}
use Rattle.placements.proofs.ClassSums.{remove_one}

module _ (g : Heavies) where
  abbrev pub held : ℕ → (ℕ → ℕ) → ℕ → Bool
  held i place b = any i (λ j. g.heavy j && eqb (place j) b)

  abbrev pub spent : ℕ → (ℕ → ℕ) → ℕ
  spent i place = sum i (λ j. on (g.heavy j) (cost g j (place j)))

  abbrev pub total : ℕ → ℕ
  total i = sum i (λ j. on (g.heavy j) (g.weight j))

  pub record Puts (i : ℕ) (place : ℕ → ℕ) : Type 0 where
    pub on_end : (j : ℕ) → j < i → g.heavy j ≡ true → (place j ≡ g.low j) ⊎ (place j ≡ g.high j)
    pub apart : (j k : ℕ) → j < k → k < i → g.heavy j ≡ true → g.heavy k ≡ true → place j ≡ place k → ⊥

  pub record EndsBelow (m n : ℕ) : Type 0 where
    pub low_below : (j : ℕ) → j < n → g.heavy j ≡ true → g.low j < m
    pub high_below : (j : ℕ) → j < n → g.heavy j ≡ true → g.high j < m

pub record Free (m : ℕ) (s : Classes) (f : ℕ → Bool) : Type 0 where
  pub unshut : (b : ℕ) → b < m → f b ≡ true → s.shut b ≡ false
  pub one_each : (b c : ℕ) → b < m → c < m → f b ≡ true → f c ≡ true → s.label b ≡ s.label c → b ≡ c

pub record Sound (g : Heavies) (m i : ℕ) (s : Classes) : Type 0 where
  -- A shut class has no free bench, another one at most.
  pub none_free : (place : ℕ → ℕ) → Puts g i place → (b : ℕ) → b < m → s.shut b ≡ true → held g i place b ≡ true
  pub one_free : (place : ℕ → ℕ) → Puts g i place → (b c : ℕ) → b < m → c < m → s.label b ≡ s.label c
      → held g i place b ≡ false → held g i place c ≡ false → b ≡ c
  -- Nothing costs less than `base` and what the free benches cost more.
  pub no_less : (place : ℕ → ℕ) → Puts g i place
      → s.base + sum m (λ b. on (not (held g i place b)) (s.extra b)) ≤ spent g i place
  -- Whatever the free benches are to be, this is reached.
  pub reached : (f : ℕ → Bool) → Free m s f
      → (place : ℕ → ℕ) × Puts g i place × ((b : ℕ) → b < m → f b ≡ true → held g i place b ≡ false)
      × (spent g i place ≤ s.base + sum m (λ b. on (f b) (s.extra b)))
  -- A class is shut or open as a whole, and the numbers stay small.
  pub alike : (b c : ℕ) → b < m → c < m → s.label b ≡ s.label c → s.shut b ≡ s.shut c
  pub small : (b : ℕ) → b < m → s.extra b ≤ total g i

-- ── a placement of one job more ──

module _ (g : Heavies) (i : ℕ) where
  pub puts_fewer : (n : ℕ) (place : ℕ → ℕ) → i ≤ n → Puts g n place → Puts g i place
  puts_fewer n place l P =
      record {
        on_end = λ j h p. P.on_end j (omega arith) p;
        apart = λ j k h t p q e. P.apart j k h (omega arith) p q e;
      }

  pub puts_before : (place : ℕ → ℕ) → Puts g (suc i) place → Puts g i place
  puts_before place P = puts_fewer (suc i) place (omega arith) P

  module _ (heavy : g.heavy i ≡ true) (place : ℕ → ℕ) where
    pub held_more : (b : ℕ) → held g (suc i) place b ≡ (held g i place b || eqb (place i) b)
    held_more b = rw heavy refl

    pub spent-more : spent g (suc i) place ≡ spent g i place + cost g i (place i)
    spent-more = rw heavy refl

    pub held-still : (b : ℕ) → held g i place b ≡ true → held g (suc i) place b ≡ true
    held-still b p = or_left (g.heavy i && eqb (place i) b) p

    pub held-before : (b : ℕ) → held g (suc i) place b ≡ false → held g i place b ≡ false
    held-before b p = or-false_left (held g i place b) (g.heavy i && eqb (place i) b) p

    pub held-here : held g (suc i) place (place i) ≡ true
    held-here = or_right (held g i place (place i)) (and_intro heavy (eq-eqb (place i) (place i) refl))

    module _ (P : Puts g (suc i) place) where
      pub was_free : held g i place (place i) ≡ false
      was_free =
          any_false i (λ j. g.heavy j && eqb (place j) (place i))
          (λ j h. elim (split (g.heavy j)) [
            | inl p ↦ and-false_right (g.heavy j)
                (ne_eqb (place j) (place i) (λ e. P.apart j i h (omega arith) p heavy e))
            | inr p ↦ and-false_left (eqb (place j) (place i)) p
          ])

      -- What the placement spends, by the bench that the newest job takes.
      module _ (m : ℕ) (s : Classes) (S : Sound g m i s) (l : place i < m) where
        pub spent-at_least : s.base + (s.extra (place i) + cost g i (place i))
            + sum m (λ b. on (not (held g (suc i) place b)) (s.extra b)) ≤ spent g (suc i) place
        spent-at_least =
            let less = S.no_less place (puts_before place P) in
            let gone = remove_one m s.extra (λ b. not (held g i place b)) (λ b. not (held g (suc i) place b))
            (place i) l (ap not was_free) (ap not held-here)
            (λ b t ne. ap not (sym (held_more b ∙ or_unit (held g i place b)
            (ne_eqb (place i) b (λ e. ne (sym e)))))) in
            omega (arith, less, gone, spent-more)

        pub end_open : s.shut (place i) ≡ false
        end_open = elim (split (s.shut (place i))) [
          | inl p ↦ clash (S.none_free place (puts_before place P) (place i) l p) was_free
          | inr p ↦ p
        ]
