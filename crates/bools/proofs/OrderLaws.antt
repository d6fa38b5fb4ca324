-- Cases on the order of numbers, and induction along it.
--     lt-or-le            a < b or b ≤ a
--     eq-or-ne            a ≡ b or not
--     lt_of_ne            a < m from a ≤ m, if they are not equal
--     leb-ltb             leb a m is ltb a (suc m)
--     last_or_below       an index below suc n is n or is below n
--     strong_induction    P n for every n, if P n follows from P of all smaller numbers
--     measure_induction   P a for every a, if P a follows from P of all of smaller measure
use Prim.Native.Nat.{ℕ, zero, suc, ◌≤◌, ◌<◌}
use mathlib.Core.Path.{◌≡◌, refl}
use mathlib.Core.Logic.{◌⊎◌, inl, inr, ◌≢◌}
use lib.Dec.{ltb, leb, eqb}
use native.Mathlib.Nat.{eq-or-lt_of_le}
use Rattle.bools.proofs.BoolLaws.{split, bool_ext, tests}

pub lt-or-le : (a b : ℕ) → (a < b) ⊎ (b ≤ a)
lt-or-le a b = elim (split (ltb a b)) [ inl p ↦ inl (omega tests) | inr p ↦ inr (omega tests) ]

pub eq-or-ne : (a b : ℕ) → (a ≡ b) ⊎ (a ≢ b)
eq-or-ne a b = elim (split (eqb a b)) [ inl p ↦ inl (omega tests) | inr p ↦ inr (omega tests) ]

pub lt_of_ne : (a m : ℕ) → a ≤ m → a ≢ m → a < m
lt_of_ne a m l ne = elim (lt-or-le a m) [ inl h ↦ h | inr h ↦ absurd (ne (omega tests)) ]

pub leb-ltb : (a m : ℕ) → leb a m ≡ ltb a (suc m)
leb-ltb a m = bool_ext (leb a m) (ltb a (suc m)) (λ p. omega tests) (λ p. omega tests)

pub last_or_below : {i n : ℕ} → i < suc n → (i ≡ n) ⊎ (i < n)
last_or_below h = eq-or-lt_of_le (omega tests)

-- P holds below every bound, by induction on the bound.
below {ℓ} : (P : ℕ → Type ℓ) → ((n : ℕ) → ((k : ℕ) → k < n → P k) → P n) → (b n : ℕ) → n < b → P n
below P step zero n h = absurd (omega tests)
below P step (suc b) n h = step n (λ k l. below P step b k (omega tests))

pub strong_induction {ℓ} : (P : ℕ → Type ℓ) → ((n : ℕ) → ((k : ℕ) → k < n → P k) → P n) → (n : ℕ) → P n
strong_induction P step n = below P step (suc n) n (omega tests)

pub measure_induction {ℓ κ} : {A : Type κ} (m : A → ℕ) (P : A → Type ℓ) → ((a : A) → ((x : A) → m x < m a → P x) → P a) → (a : A) → P a
measure_induction {A} m P step a =
    strong_induction (λ n. (x : A) → m x ≡ n → P x) (λ n ih x e. step x (λ y l. ih (m y) (omega tests) y refl)) (m a) a refl
