-- Laws of table n f, the list f 0, …, f (n - 1).
--     length-table    it has n elements
--     get_or-table    its element i is f i
--     table-snoc      table (suc n) f is table n f with f n at its end
--     table-split     table (m + n) f is table m f, then the n values from m on
--     table_cong      functions equal below n have the same table
--     table-get_or    the table of a list's elements is the list
--     get_or-there    an element that is there does not depend on what stands for one that is not
--     get_or-same     a list of one value has that value at every index, also past its end
--     map-table       g of every element of a table
--     take-table      the first k elements of a table
--     take-table-min  the same where the table may have fewer than k
--     set-table       a table with one element replaced
use Prim.Native.Nat.{ℕ, zero, suc, ◌+◌, ◌≤◌, ◌<◌, min}
use mathlib.Core.Bool.{cond}
use mathlib.Core.List.{List, [], ◌∷◌, ◌++◌, map}
use mathlib.Core.Path.{◌≡◌, refl, sym, ◌∙◌, ap, ap₂}
use lib.Dec.{eqb, eqb-zero-suc, eqb-suc-zero, eqb-suc-suc}
use lib.ListN.{length, get_or, take, set, replicate}
use native.Mathlib.Nat.{zero-add, suc-add}
use native.Mathlib.Omega.{arith}
use Rattle.sums.specs.Table.{table}

module _ {ℓ} {A : Type ℓ} where
  pub length-table : (n : ℕ) (f : ℕ → A) → length (table n f) ≡ n
  length-table zero f = refl
  length-table (suc n) f = ap suc (length-table n (λ i. f (suc i)))

  pub get_or-table : (n : ℕ) (f : ℕ → A) (i : ℕ) (d : A) → i < n → get_or (table n f) i d ≡ f i
  get_or-table zero f i d h = absurd (omega arith)
  get_or-table (suc n) f zero d h = refl
  get_or-table (suc n) f (suc i) d h = get_or-table n (λ k. f (suc k)) i d (omega arith)

  pub table-snoc : (n : ℕ) (f : ℕ → A) → table (suc n) f ≡ table n f ++ (f n ∷ [])
  table-snoc zero f = refl
  table-snoc (suc n) f = ap (λ (l : List A). f 0 ∷ l) (table-snoc n (λ i. f (suc i)))

  pub table_cong : (n : ℕ) (f g : ℕ → A) → ((i : ℕ) → i < n → f i ≡ g i) → table n f ≡ table n g
  table_cong zero f g e = refl
  table_cong (suc n) f g e = ap₂ {C = List A} ◌∷◌ (e 0 (omega arith))
      (table_cong n (λ i. f (suc i)) (λ i. g (suc i)) (λ i h. e (suc i) (omega arith)))

  pub table-split : (m n : ℕ) (f : ℕ → A) → table (m + n) f ≡ table m f ++ table n (λ i. f (m + i))
  table-split zero n f = rw zero-add (table_cong n f (λ i. f (0 + i)) (λ i h. rw zero-add))
  table-split (suc m) n f = rw suc-add (ap (λ (l : List A). f 0 ∷ l) (table-split m n (λ i. f (suc i))
      ∙ ap (λ (l : List A). table m (λ i. f (suc i)) ++ l) (table_cong n (λ i. f (suc (m + i))) (λ i. f (suc m + i)) (λ i h. rw suc-add))))

  pub table-get_or : (xs : List A) (d : A) → table (length xs) (λ i. get_or xs i d) ≡ xs
  table-get_or [] d = refl
  table-get_or (x ∷ xs) d = ap (λ (l : List A). x ∷ l) (table-get_or xs d)

  pub get_or-there : (xs : List A) (i : ℕ) (d e : A) → i < length xs → get_or xs i d ≡ get_or xs i e
  get_or-there xs i d e h =
      ap (λ (l : List A). get_or l i d) (sym (table-get_or xs e)) ∙ get_or-table (length xs) (λ k. get_or xs k e) i d h

  pub get_or-same : (n : ℕ) (x : A) (i : ℕ) → get_or (replicate n x) i x ≡ x
  get_or-same zero x i = refl
  get_or-same (suc n) x zero = refl
  get_or-same (suc n) x (suc i) = get_or-same n x i

  pub take-table : (k n : ℕ) (f : ℕ → A) → k ≤ n → take k (table n f) ≡ table k f
  take-table zero n f h = refl
  take-table (suc k) zero f h = absurd (omega arith)
  take-table (suc k) (suc n) f h = ap (λ (l : List A). f 0 ∷ l) (take-table k n (λ i. f (suc i)) (omega arith))

  pub take-table-min : (k n : ℕ) (f : ℕ → A) → take k (table n f) ≡ table (min k n) f
  take-table-min zero n f = let e : min 0 n ≡ 0 = omega arith in rw e
  take-table-min (suc k) zero f = let e : min (suc k) 0 ≡ 0 = omega arith in rw e
  take-table-min (suc k) (suc n) f =
      let e : min (suc k) (suc n) ≡ suc (min k n) = omega arith in
      rw e (ap (λ (l : List A). f 0 ∷ l) (take-table-min k n (λ i. f (suc i))))

  pub set-table : (n : ℕ) (f : ℕ → A) (i : ℕ) (a : A) → set (table n f) i a ≡ table n (λ k. cond (eqb k i) a (f k))
  set-table zero f i a = refl
  set-table (suc n) f zero a = ap (λ (l : List A). a ∷ l)
      (table_cong n (λ k. f (suc k)) (λ k. cond (eqb (suc k) 0) a (f (suc k))) (λ k h. rw eqb-suc-zero))
  set-table (suc n) f (suc i) a = ap₂ {C = List A} ◌∷◌ (rw eqb-zero-suc) (set-table n (λ k. f (suc k)) i a
      ∙ table_cong n (λ k. cond (eqb k i) a (f (suc k))) (λ k. cond (eqb (suc k) (suc i)) a (f (suc k))) (λ k h. rw eqb-suc-suc))

pub map-table {ℓ κ} : {A : Type ℓ} {B : Type κ} (g : A → B) (n : ℕ) (f : ℕ → A) → map g (table n f) ≡ table n (λ i. g (f i))
map-table g zero f = refl
map-table {B} g (suc n) f = ap (λ (l : List B). g (f 0) ∷ l) (map-table g n (λ i. f (suc i)))
