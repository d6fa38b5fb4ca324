-- Sums over sets of benches, as the procedure for the least weight needs them.
--     remove_one        a bench taken out of a set
--     insert_one        a bench put into a set
--     one_at_most       the same number at no more than one index
--     raised_once       amounts that rise at one bench of the set at most
--     raised_there      amounts that rise at one bench of the set at least
use Prim.Native.Nat.{ℕ, ◌+◌, ◌≤◌, ◌<◌}
use mathlib.Core.Path.{◌≡◌}
use mathlib.Core.Bool.{Bool, true, false, ◌&&◌, ◌||◌}
use mathlib.Core.Logic.{inl, inr, ◌≢◌}
use native.Mathlib.Omega.{arith}
use lib.Dec.{eqb}
use Rattle.bools.proofs.BoolLaws.{split, and_left, and_right}
use Rattle.sums.specs.Sum.{on, sum}
use Rattle.sums.specs.Search.{any}
use Rattle.sums.proofs.SearchLaws.{any_elim, any_none}
use Rattle.sums.proofs.SumLaws.{on-le, sum-le, sum-gap, sum-add, sum-zero, sum-single, sum-update, sum-at}

module _ (m : ℕ) (h : ℕ → ℕ) where
  pub remove_one : (f k : ℕ → Bool) (z : ℕ) → z < m → f z ≡ true → k z ≡ false
      → ((b : ℕ) → b < m → b ≢ z → f b ≡ k b)
      → sum m (λ b. on (f b) (h b)) ≡ h z + sum m (λ b. on (k b) (h b))
  remove_one f k z l p q same =
      let here : on (f z) (h z) ≡ h z = rw p in
      let there : on (k z) (h z) ≡ 0 = rw q in
      omega (
        arith,
        here,
        there,
        sum-update m (λ b. on (f b) (h b)) (λ b. on (k b) (h b)) z l (λ b r d. rw (same b r d)),
      )

  one_more : (a c : Bool) (x : ℕ) → on (a || c) x ≤ on a x + on c x
  one_more true c x = omega arith
  one_more false c x = omega arith

  pub insert_one : (f : ℕ → Bool) (z : ℕ) → z < m
      → sum m (λ b. on (f b || eqb b z) (h b)) ≤ sum m (λ b. on (f b) (h b)) + h z
  insert_one f z l = omega (
    arith,
    sum-le m (λ b. on (f b || eqb b z) (h b)) (λ b. on (f b) (h b) + on (eqb b z) (h b))
        (λ b r. one_more (f b) (eqb b z) (h b)),
    sum-add m (λ b. on (f b) (h b)) (λ b. on (eqb b z) (h b)),
    sum-at m h z l,
  )

pub one_at_most : (m : ℕ) (f : ℕ → Bool) (d : ℕ)
    → ((b c : ℕ) → b < m → c < m → f b ≡ true → f c ≡ true → b ≡ c) → sum m (λ b. on (f b) d) ≤ d
one_at_most m f d once = elim (split (any m f)) [
  | inl p ↦
      let (k, l, q) = any_elim m f p in
      let other : (b : ℕ) → b < m → b ≢ k → on (f b) d ≡ 0 = λ b r ne.
      elim (split (f b)) [ inl t ↦ absurd (ne (once b k r l t q)) | inr t ↦ rw t ] in
      omega (arith, sum-single m (λ b. on (f b) d) k l other, on-le (f k) d)
  | inr p ↦ omega (arith, sum-zero m (λ b. on (f b) d) (λ b r. rw (any_none m f p b r)))
]

module _ (m : ℕ) (h k : ℕ → ℕ) (f : ℕ → Bool) (d : ℕ) where
  pub raised_once : (P : ℕ → Bool) → ((b : ℕ) → b < m → f b ≡ true → k b ≤ h b + on (P b) d)
      → ((b c : ℕ) → b < m → c < m → f b ≡ true → f c ≡ true → P b ≡ true → P c ≡ true → b ≡ c)
      → sum m (λ b. on (f b) (k b)) ≤ sum m (λ b. on (f b) (h b)) + d
  raised_once P up once =
      let each : (b : ℕ) → b < m → on (f b) (k b) ≤ on (f b) (h b) + on (f b && P b) d = λ b r.
      elim (split (f b)) [ inl t ↦ let it = up b r t in rw t it | inr t ↦ rw t (omega arith) ] in
      omega (
        arith,
        sum-le m (λ b. on (f b) (k b)) (λ b. on (f b) (h b) + on (f b && P b) d) each,
        sum-add m (λ b. on (f b) (h b)) (λ b. on (f b && P b) d),
        one_at_most m (λ b. f b && P b) d
            (λ b c r t p q. once b c r t (and_left (f b) (P b) p) (and_left (f c) (P c) q)
            (and_right (f b) (P b) p) (and_right (f c) (P c) q)),
      )

  pub raised_there : (r : ℕ) → r < m → f r ≡ true → ((b : ℕ) → b < m → h b ≤ k b) → h r + d ≤ k r
      → sum m (λ b. on (f b) (h b)) + d ≤ sum m (λ b. on (f b) (k b))
  raised_there r l p up more =
      let each : (b : ℕ) → b < m → on (f b) (h b) ≤ on (f b) (k b) = λ b t.
      let it = up b t in elim (split (f b)) [ inl q ↦ rw q it | inr q ↦ rw q (omega arith) ] in
      let here : on (f r) (h r) + d ≤ on (f r) (k r) = rw p more in
      sum-gap m (λ b. on (f b) (h b)) (λ b. on (f b) (k b)) r d l each here
