-- Lists that are filled from the front (StartArrays `filled`).
--     filled_none, filled_more, filled-end     no entry, one more, and all of them
--     length-filled, get_or-filled, filled-rest   length and entries
--     filled-past, filled-cut     what would come past the end is left out
--     all-filled, all_copied     a list whose every entry was filled in with one number, or from another list
use Prim.Native.Nat.{ℕ, zero, suc, ◌+◌, ◌≤◌, ◌<◌, min}
use mathlib.Core.Path.{◌≡◌, refl, sym, ap, ap₂, subst, ◌∙◌}
use mathlib.Core.Logic.{inl, inr}
use mathlib.Core.List.{List}
use native.Mathlib.Numerals.{add-one}
use native.Mathlib.Omega.{arith}
use lib.ListN.{length, get_or, set, length-set, replicate, length-replicate, get_or-replicate}
use lib.Seq.{get_or-set_same, get_or-set_other, set_out, ext_get_or}
use Rattle.bools.proofs.OrderLaws.{lt-or-le, last_or_below}
use Rattle.arrays.specs.Arrays.{filled}

module _ {ℓ} {A : Type ℓ} (f : ℕ → A) where
  pub filled_none : (xs : List A) → xs ≡ filled 0 f xs
  unfolding filled
  filled_none xs = refl

  pub filled_more : (n : ℕ) (xs : List A) {ys zs : List A} {a : A} → ys ≡ filled n f xs → a ≡ f n → zs ≡ set ys n a → zs ≡ filled (n + 1) f xs
  unfolding filled
  filled_more n xs e p q = rw add-one (q ∙ ap₂ (λ (k : List A) (b : A). set k n b) e p)

  pub length-filled : (n : ℕ) (xs : List A) → length (filled n f xs) ≡ length xs
  unfolding filled
  length-filled zero xs = refl
  length-filled (suc n) xs = length-set (filled n f xs) n (f n) ∙ length-filled n xs

  pub get_or-filled : (n : ℕ) (xs : List A) (i : ℕ) (d : A) → i < n → i < length xs → get_or (filled n f xs) i d ≡ f i
  unfolding filled
  get_or-filled zero xs i d h l = absurd (omega arith)
  get_or-filled (suc n) xs i d h l = elim (last_or_below {i = i} {n = n} h) [
    | inl e ↦
        subst (λ (k : ℕ). get_or (set (filled n f xs) n (f n)) k d ≡ f k) (sym e)
        (get_or-set_same (filled n f xs) n (f n) d (omega (arith, length-filled n xs)))
    | inr b ↦ get_or-set_other (filled n f xs) n i (f n) d (λ e. omega arith) ∙ get_or-filled n xs i d b l
  ]

  pub filled-rest : (n : ℕ) (xs : List A) (i : ℕ) (d : A) → n ≤ i → get_or (filled n f xs) i d ≡ get_or xs i d
  unfolding filled
  filled-rest zero xs i d h = refl
  filled-rest (suc n) xs i d h = get_or-set_other (filled n f xs) n i (f n) d (λ e. omega arith) ∙ filled-rest n xs i d (omega arith)

pub filled-end {ℓ} : {A : Type ℓ} (f : ℕ → A) (n i : ℕ) (xs : List A) {ys : List A} → i ≤ n → n ≤ i → ys ≡ filled i f xs → ys ≡ filled n f xs
filled-end f n i xs a b e = let same : i ≡ n = omega arith in e ∙ ap (λ (k : ℕ). filled k f xs) same

-- What would come past the end of a list is left out.
pub filled-past {ℓ} : {A : Type ℓ} (f : ℕ → A) (n k : ℕ) (xs : List A) → k ≤ n → length xs ≤ k → filled n f xs ≡ filled k f xs
unfolding filled
filled-past f zero k xs h l = ap (λ (i : ℕ). filled i f xs) (let none : zero ≡ k = omega arith in none)
filled-past f (suc n) k xs h l = elim (last_or_below {i = k} {n = suc n} (omega arith)) [
  | inl e ↦ ap (λ (i : ℕ). filled i f xs) (sym e)
  | inr b ↦ set_out (filled n f xs) n (f n) (omega (arith, length-filled f n xs)) ∙ filled-past f n k xs (omega arith) l
]

pub filled-cut {ℓ} : {A : Type ℓ} (f : ℕ → A) (n end i : ℕ) (xs : List A) {ys : List A} → end ≡ min n (length xs) → i ≤ end → end ≤ i → ys ≡ filled i f xs → ys ≡ filled n f xs
filled-cut f n end i xs least h l e = elim (lt-or-le (length xs) n) [
  | inl long ↦ e ∙ sym (filled-past f n i xs (omega (arith, least)) (omega (arith, least)))
  | inr short ↦ filled-end f n i xs (omega (arith, least)) (omega (arith, least)) e
]

-- The first i entries of a list are filled in, and there are no others.
module _ (f : ℕ → ℕ) (i : ℕ) (xs ys : List ℕ) (all : length ys ≤ i) (same : length ys ≡ length xs)
    (e : ys ≡ filled i f xs) where
  entry-filled : (k : ℕ) → k < length ys → get_or ys k 0 ≡ f k
  entry-filled k h = ap (λ (zs : List ℕ). get_or zs k 0) e ∙ get_or-filled f i xs k 0 (omega arith) (omega (arith, same))

  filled_is : (zs : List ℕ) → length zs ≡ length xs → ((k : ℕ) → k < length zs → get_or zs k 0 ≡ f k) → ys ≡ zs
  filled_is zs sized are =
      ext_get_or 0 ys zs (same ∙ sym sized) (λ k h. entry-filled k h ∙ sym (are k (omega (arith, same, sized))))

pub all-filled : (v i : ℕ) (xs ys : List ℕ) → length ys ≤ i → length ys ≡ length xs → ys ≡ filled i (λ k. v) xs
    → ys ≡ replicate (length xs) v
all-filled v i xs ys all same e =
    filled_is (λ k. v) i xs ys all same e (replicate (length xs) v) (length-replicate (length xs) v)
    (λ k h. get_or-replicate (length xs) k v 0 (omega (arith, length-replicate (length xs) v)))

pub all_copied : (from xs ys : List ℕ) → ys ≡ filled (length xs) (λ k. get_or from k 0) xs → length from ≡ length xs
    → ys ≡ from
all_copied from xs ys e sized =
    let same : length ys ≡ length xs = ap length e ∙ length-filled (λ k. get_or from k 0) (length xs) xs in
    filled_is (λ k. get_or from k 0) (length xs) xs ys (omega (arith, same)) same e from sized (λ k h. refl)
