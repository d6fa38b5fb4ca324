-- Laws of numbers in bytes, the least significant byte first.
-- Of the bytes of a number:
--     length-little_of        little_of k n has k elements
--     Bytes-little_of         they are bytes
--     get_or-little_of        byte i of them
--     length-little_all       m numbers of k bytes each have m * k bytes
--     little_all-append       the bytes of two lists of numbers, one list after the other
--     little_all-one          the bytes of one number
-- Of the number of the first k bytes:
--     little-cons             the first byte, and 256 times the number of the next k
--     little-add              the number of j + k bytes is that of the first j, and 256 ^ j times that of the next k
--     little-lt               it is below 256 ^ k
--     little_cong             lists that agree on their first k bytes have the same number of k bytes
--     little-take             the number of j bytes of the first k
--     little-append_left      the number of k bytes inside the first of two lists
--     little-append_right     the number of the first list and k bytes of the second
--     little-nil              an empty list makes 0
--     little-over             so does what stands behind a list's end
-- Of both:
--     little-little_of        the number of the k bytes of n is n modulo 256 ^ k
--     little-little_of-exact  it is n where n has no more than k bytes
use mathlib.Core.Path.{◌≡◌, refl, sym, ap, ◌∙◌}
use mathlib.Core.List.{List, [], ◌∷◌, ◌++◌, append_assoc, append-nil}
use Prim.Native.Nat.{ℕ, zero, suc, ◌+◌, ◌*◌, ◌/◌, ◌%◌, ◌^◌, ◌≤◌, ◌<◌}
use native.Mathlib.Nat.{mod-lt, mod-eq_of_lt, mod-one, div-one, add-zero, add-suc, le_refl, pow-suc, pow-succ', div-div-eq-div-mul, one-le-pow}
use native.Mathlib.Omega.{arith}
use lib.ListN.{length, get_or, take, drop, length-append, drop_of_length-le, get_or-append}
use lib.Seq.{get_or-take, get_or-drop, drop-append_seam}
use lib.Dec.{lit<}
use lib.Arith.{digits_lt, mod-mul}
use lib.Pow.{pow-add}
use Rattle.bits.specs.Bits.{Bytes}
use Rattle.bits.specs.Little.{little, little_of, little_all}
use Rattle.bits.proofs.BitsLaws.{Bytes-nil, Bytes-cons}

-- ---- the bytes of a number

pub length-little_of : (k n : ℕ) → length (little_of k n) ≡ k
unfolding little_of
length-little_of zero n = refl
length-little_of (suc k) n = ap suc (length-little_of k (n / 256))

pub Bytes-little_of : (k n : ℕ) → Bytes (little_of k n)
unfolding little_of
Bytes-little_of zero n = Bytes-nil
Bytes-little_of (suc k) n = Bytes-cons (n % 256) (little_of k (n / 256)) (mod-lt _ (lit< tt)) (Bytes-little_of k (n / 256))

pub get_or-little_of : (k n i : ℕ) → i < k → get_or (little_of k n) i 0 ≡ n / 256 ^ i % 256
unfolding little_of
get_or-little_of zero n i h = absurd (omega arith)
get_or-little_of (suc k) n zero h = ap (λ (x : ℕ). x % 256) (sym (div-one n))
get_or-little_of (suc k) n (suc i) h =
    get_or-little_of k (n / 256) i (omega arith)
    ∙ ap (λ (x : ℕ). x % 256) (div-div-eq-div-mul n 256 (256 ^ i) ∙ ap (λ (x : ℕ). n / x) (sym (pow-succ' 256 i)))

pub length-little_all : (k : ℕ) (ns : List ℕ) → length (little_all k ns) ≡ length ns * k
unfolding little_all
length-little_all k [] = omega arith
length-little_all k (n ∷ ns) = length-append (little_of k n) (little_all k ns) ∙ omega (arith, length-little_of k n, length-little_all k ns)

pub little_all-append : (k : ℕ) (ms ns : List ℕ) → little_all k (ms ++ ns) ≡ little_all k ms ++ little_all k ns
unfolding little_all
little_all-append k [] ns = refl
little_all-append k (m ∷ ms) ns = rw (little_all-append k ms ns, append_assoc (little_of k m))

pub little_all-one : (k n : ℕ) → little_all k (n ∷ []) ≡ little_of k n
unfolding little_all
little_all-one k n = append-nil (little_of k n)

-- ---- the number of the first k bytes

pub little_cong : (s t : List ℕ) (k : ℕ) → ((i : ℕ) → i < k → get_or s i 0 ≡ get_or t i 0) → little s k ≡ little t k
unfolding little
little_cong s t zero e = refl
little_cong s t (suc k) e = rw (little_cong s t k (λ i h. e i (omega arith)), e k (omega arith))

pub little-take : (s : List ℕ) (k j : ℕ) → j ≤ k → little (take k s) j ≡ little s j
little-take s k j h = little_cong (take k s) s j (λ i l. get_or-take k s i 0 (omega arith))

pub little-append_left : (a b : List ℕ) (k : ℕ) → k ≤ length a → little (a ++ b) k ≡ little a k
little-append_left a b k h = little_cong (a ++ b) a k (λ i l. get_or-append a b 0 i (omega arith))

pub little-add : (s : List ℕ) (j k : ℕ) → little s (j + k) ≡ little s j + little (drop j s) k * 256 ^ j
unfolding little
little-add s j zero = rw (add-zero j) (omega arith)
little-add s j (suc k) = rw (add-suc, little-add s j k, get_or-drop j s k 0, pow-add 256 j k) (omega arith)

pub little-cons : (x : ℕ) (s : List ℕ) (k : ℕ) → little (x ∷ s) (suc k) ≡ x + little s k * 256
unfolding little
little-cons x s zero = omega arith
little-cons x s (suc k) = rw (little-cons x s k, pow-suc 256 k) (omega arith)

pub little-append_right : (a b : List ℕ) (k : ℕ) → little (a ++ b) (length a + k) ≡ little a (length a) + little b k * 256 ^ length a
little-append_right a b k = rw (little-add (a ++ b) (length a) k, little-append_left a b (length a) (le_refl _), drop-append_seam a b)

pub little-lt : (s : List ℕ) (k : ℕ) → Bytes s → little s k < 256 ^ k
unfolding little
little-lt s zero b = lit< tt
little-lt s (suc k) b = rw pow-succ' (omega (arith, digits_lt (b k) (little-lt s k b)))

pub little-nil : (k : ℕ) → little [] k ≡ 0
unfolding little
little-nil zero = refl
little-nil (suc k) = omega (arith, little-nil k)

pub little-over : (s : List ℕ) (j k : ℕ) → length s ≤ j → little (drop j s) k ≡ 0
little-over s j k h = rw (drop_of_length-le s h) (little-nil k)

-- ---- there and back

pub little-little_of : (k n : ℕ) → little (little_of k n) k ≡ n % 256 ^ k
unfolding little_of
little-little_of zero n = unfold little in sym (mod-one n)
little-little_of (suc k) n =
    rw (little-cons (n % 256) (little_of k (n / 256)) k, little-little_of k (n / 256), pow-suc 256 k, mod-mul n {m = 256 ^ k} {c = 256} (one-le-pow k 256 (lit< tt)) (lit< tt))
    (omega arith)

pub little-little_of-exact : (k n : ℕ) → n < 256 ^ k → little (little_of k n) k ≡ n
little-little_of-exact k n h = little-little_of k n ∙ mod-eq_of_lt h
