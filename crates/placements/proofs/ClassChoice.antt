-- The end that a heavy job takes in the cheapest choice, and how classes change.
--     TakesEnd          the job takes its lower end, or its higher one: that end is open, and its price is paid
--     takes_end         one of the two, unless both ends are shut
--     paid-low, paid-high     no more is paid than an open end would cost
--     closes-same       where no end is shut, a job that closes a class has both ends in it
--     Joins, joins      what a job finds that makes one class of two
--     relabel_cases     classes that are one now were one before, or were the two
--     raised-by-high, raised-by-low, raised-else      how much more the benches of the joined class cost
use Prim.Native.Nat.{ℕ, ◌-◌, ◌≤◌}
use mathlib.Core.Path.{◌≡◌, refl, sym, ◌∙◌}
use mathlib.Core.Bool.{true, false, ◌||◌}
use mathlib.Core.Logic.{◌⊎◌, inl, inr, ◌≢◌}
use native.Mathlib.Omega.{arith}
use lib.Dec.{eqb, leb}
use borrow.Author.Tests.{eqb-true, eqb-false, eq-eqb, ne_eqb, leb-true, leb-false}
use Rattle.bools.proofs.BoolLaws.{split, clash, or-false, or-false_left, or-false_right, or_elim}
use Rattle.bools.proofs.OrderLaws.{eq-or-ne}
use Rattle.sums.specs.Sum.{on}
use Rattle.placements.specs.Classes.{Heavies, Classes, price_low, price_high, to_low, taken, paid, stuck_at}
use Rattle.placements.specs.Classes.{closes, raised, relabelled}

module _ (g : Heavies) (s : Classes) (i : ℕ) where
  abbrev low : ℕ
  low = g.low i

  abbrev high : ℕ
  high = g.high i

  pub record TakesEnd (end price : ℕ) : Type 0 where
    pub takes : taken g s i ≡ end
    pub pays : paid g s i ≡ price
    pub end_open : s.shut end ≡ false

  pub takes_low : to_low g s i ≡ true → s.shut low ≡ false → TakesEnd low (price_low g s i)
  takes_low p q = record { takes = rw p refl; pays = rw p refl; end_open = q }

  pub takes-high : to_low g s i ≡ false → s.shut high ≡ false → TakesEnd high (price_high g s i)
  takes-high p q = record { takes = rw p refl; pays = rw p refl; end_open = q }

  low-shut : s.shut low ≡ true → to_low g s i ≡ false
  unfolding to_low
  low-shut p = rw p refl

  high-shut : s.shut low ≡ false → s.shut high ≡ true → to_low g s i ≡ true
  unfolding to_low
  high-shut p q = rw (p, q) refl

  both_open : s.shut low ≡ false → s.shut high ≡ false → to_low g s i ≡ leb (price_low g s i) (price_high g s i)
  unfolding to_low
  both_open p q = rw (p, q) refl

  pub takes_end : stuck_at g s i ≡ false → TakesEnd low (price_low g s i) ⊎ TakesEnd high (price_high g s i)
  takes_end n = elim (split (s.shut low)) [
    | inl p ↦ elim (split (s.shut high)) [
      | inl q ↦ let both : stuck_at g s i ≡ true = rw (p, q) refl in clash both n
      | inr q ↦ inr (takes-high (low-shut p) q)
    ]
    | inr p ↦ elim (split (s.shut high)) [
      | inl q ↦ inl (takes_low (high-shut p q) p)
      | inr q ↦ elim (split (leb (price_low g s i) (price_high g s i))) [
        | inl r ↦ inl (takes_low (both_open p q ∙ r) p)
        | inr r ↦ inr (takes-high (both_open p q ∙ r) q)
      ]
    ]
  ]

  pub paid-low : s.shut low ≡ false → paid g s i ≤ price_low g s i
  paid-low p = elim (split (s.shut high)) [
    | inl q ↦ let it = (takes_low (high-shut p q) p).pays in omega arith
    | inr q ↦ elim (split (leb (price_low g s i) (price_high g s i))) [
      | inl r ↦ let it = (takes_low (both_open p q ∙ r) p).pays in omega arith
      | inr r ↦
          let it = (takes-high (both_open p q ∙ r) q).pays in
          omega (arith, leb-false (price_low g s i) (price_high g s i) r)
    ]
  ]

  pub paid-high : s.shut high ≡ false → paid g s i ≤ price_high g s i
  paid-high q = elim (split (s.shut low)) [
    | inl p ↦ let it = (takes-high (low-shut p) q).pays in omega arith
    | inr p ↦ elim (split (leb (price_low g s i) (price_high g s i))) [
      | inl r ↦
          let it = (takes_low (both_open p q ∙ r) p).pays in
          omega (arith, leb-true (price_low g s i) (price_high g s i) r)
      | inr r ↦ let it = (takes-high (both_open p q ∙ r) q).pays in omega arith
    ]
  ]

  pub closes-same : closes g s i ≡ true → s.shut low ≡ false → s.shut high ≡ false → s.label low ≡ s.label high
  closes-same c p q = elim (or_elim (s.shut low || s.shut high) (eqb (s.label low) (s.label high)) c) [
    | inl shut ↦ clash shut (or-false p q)
    | inr same ↦ eqb-true (s.label low) (s.label high) same
  ]

  -- ── one class of two ──

  pub record Joins : Type 0 where
    pub low_open : s.shut low ≡ false
    pub high_open : s.shut high ≡ false
    pub two_classes : s.label low ≢ s.label high

  pub joins : closes g s i ≡ false → Joins
  joins c =
      let some = or-false_left (s.shut low || s.shut high) (eqb (s.label low) (s.label high)) c in
      let same = or-false_right (s.shut low || s.shut high) (eqb (s.label low) (s.label high)) c in
      record {
        low_open = or-false_left (s.shut low) (s.shut high) some;
        high_open = or-false_right (s.shut low) (s.shut high) some;
        two_classes = eqb-false (s.label low) (s.label high) same;
      }

  relabel-high : (b : ℕ) → s.label b ≡ s.label high → relabelled g s i b ≡ s.label low
  relabel-high b e = rw (eq-eqb (s.label b) (s.label high) e) refl

  relabel_else : (b : ℕ) → s.label b ≢ s.label high → relabelled g s i b ≡ s.label b
  relabel_else b ne = rw (ne_eqb (s.label b) (s.label high) ne) refl

  pub data Merged (b c : ℕ) : Type 0 where
    as_before : s.label b ≡ s.label c → Merged b c
    low_high : s.label b ≡ s.label low → s.label c ≡ s.label high → Merged b c
    high_low : s.label b ≡ s.label high → s.label c ≡ s.label low → Merged b c

  pub relabel_cases : (b c : ℕ) → relabelled g s i b ≡ relabelled g s i c → Merged b c
  relabel_cases b c e = elim (eq-or-ne (s.label b) (s.label high)) [
    | inl p ↦ elim (eq-or-ne (s.label c) (s.label high)) [
      | inl q ↦ as_before (p ∙ sym q)
      | inr q ↦ high_low p (sym (relabel_else c q) ∙ sym e ∙ relabel-high b p)
    ]
    | inr p ↦ elim (eq-or-ne (s.label c) (s.label high)) [
      | inl q ↦ low_high (sym (relabel_else b p) ∙ e ∙ relabel-high c q) q
      | inr q ↦ as_before (sym (relabel_else b p) ∙ e ∙ relabel_else c q)
    ]
  ]

  pub relabel_same : (b c : ℕ) → s.label b ≡ s.label c → relabelled g s i b ≡ relabelled g s i c
  relabel_same b c e = rw e refl

  pub relabel_joined : (b c : ℕ) → s.label b ≡ s.label low → s.label c ≡ s.label high → s.label low ≢ s.label high
      → relabelled g s i b ≡ relabelled g s i c
  relabel_joined b c p q ne = relabel_else b (λ e. ne (sym p ∙ e)) ∙ p ∙ sym (relabel-high c q)

  pub raised-by-high : (b : ℕ) → s.label b ≢ s.label high
      → raised g s i b ≡ on (eqb (s.label b) (s.label low)) (price_high g s i - paid g s i)
  raised-by-high b ne = elim (split (eqb (s.label b) (s.label low))) [
    | inl p ↦ rw p refl
    | inr p ↦ rw (p, ne_eqb (s.label b) (s.label high) ne) refl
  ]

  pub raised-by-low : (b : ℕ) → s.label b ≢ s.label low
      → raised g s i b ≡ on (eqb (s.label b) (s.label high)) (price_low g s i - paid g s i)
  raised-by-low b ne = elim (split (eqb (s.label b) (s.label high))) [
    | inl p ↦ rw (p, ne_eqb (s.label b) (s.label low) ne) refl
    | inr p ↦ rw (p, ne_eqb (s.label b) (s.label low) ne) refl
  ]
