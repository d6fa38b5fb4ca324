-- Laws of the bits of a list of bytes, and of the number that its bytes make.
-- Of Bytes:
--     Bytes-nil           the empty list is a list of bytes
--     Bytes-cons          so is a byte before a list of bytes
--     Bytes-drop          so is what stands behind its first k elements
--     Bytes-take          so are its first k elements
--     Bytes-append        so are two lists of bytes one after another
--     Bytes-append_left   so is the first of two lists that are bytes together
--     Bytes-append_right  so is the second of them
-- Of digits:
--     div_pow-suc         one binary digit more is cut off by one more halving
--     mod_pow-suc         the k + 1 low binary digits are k digits and the lowest one
--     pow_256             k bytes are 8 k bits: 256 ^ k is 2 ^ (8 k)
-- Of bit and bits:
--     bit-lt              a bit is below 2
--     bits-lt             a field of n bits is below 2 ^ n
--     bits-split          a field of m + n bits is its first m bits and then its last n
--     bits-part           the w bits from bit i on of a field of n bits, as a range of its digits
--     bits-one            a field of one bit is that bit
--     bits-digit          bit b of a field of n bits is its digit n - 1 - b
--     bits_ext            fields of equal bits are equal, also at two places of two lists
--     bit_byte            bit 8 k + r is digit 7 - r of byte k
--     bits-byte           a field inside one byte is a range of that byte's digits
--     bits-whole          the 8 bits of byte k make byte k
-- Of bits and big:
--     bits-all            the first 8 k bits make the number of the first k bytes
--     bits-bytes          8 k bits from byte i on make the number of those k bytes
--     bits-big            a field is a range of the digits of the number of the first k bytes
-- Of bits in parts of a list:
--     bits_cong           lists that agree on the bytes that a field touches have the same field
--     bit-drop            a bit of what stands behind the first k bytes
--     bits-drop           a field of what stands behind the first k bytes
--     bits-take           a field inside the first k bytes
--     bits-append_left    a field inside the first of two lists
--     bits-append_right   a field inside the second of two lists
-- Of big:
--     big_lt              the number of k bytes is below 256 ^ k
--     big_cong            lists that agree on their first k bytes have the same number of k bytes
--     big-take            the number of j bytes of the first k
--     big-append_left     the number of k bytes inside the first of two lists
--     big-cons            the number of k + 1 bytes is the first byte and then that of the next k
--     big-append_right    the number of the first list and k bytes of the second
--     big-add             the number of j + k bytes is that of the first j and then that of the next k
--     big-div             the first of these two is the quotient by 256 ^ k
--     big-mod             the second is the remainder by 256 ^ k
use mathlib.Core.Path.{◌≡◌, refl, sym, ap, ◌∙◌, subst}
use mathlib.Core.List.{List, [], ◌∷◌, ◌++◌}
use Prim.Native.Nat.{ℕ, zero, suc, ◌+◌, ◌-◌, ◌*◌, ◌/◌, ◌%◌, ◌^◌, ◌≤◌, ◌<◌}
use native.Mathlib.Nat.{mod-lt, mod-eq_of_lt, mod-one, add-zero, zero-add, add-suc, add_assoc, mul-suc, pow-suc, div-one, le_refl}
use native.Mathlib.Omega.{arith}
use native.Mathlib.Numerals.{add-one, one-add}
use lib.ListN.{length, get_or, take, drop, get_or-append}
use lib.Seq.{get_or-take, get_or-drop, take-append_seam, drop-append_seam}
use lib.Dec.{lit<, lit≤}
use lib.Arith.{digits_lt, digits_div, digits_mod}
use lib.Pow.{pow-add, high, low, shr-shr, mod-pow-add}
use Rattle.bits.specs.Bits.{bit, bits, big, Bytes}

-- ---- lists of bytes

pub Bytes-nil : Bytes []
Bytes-nil i = lit< tt

pub Bytes-cons : (x : ℕ) (s : List ℕ) → x < 256 → Bytes s → Bytes (x ∷ s)
Bytes-cons x s h b zero = h
Bytes-cons x s h b (suc i) = b i

pub Bytes-drop : (s : List ℕ) (k : ℕ) → Bytes s → Bytes (drop k s)
Bytes-drop s k b i = rw (get_or-drop k s i 0) (b (k + i))

pub Bytes-take : (s : List ℕ) (k : ℕ) → Bytes s → Bytes (take k s)
Bytes-take s zero b i = lit< tt
Bytes-take [] (suc k) b i = lit< tt
Bytes-take (x ∷ s) (suc k) b zero = b 0
Bytes-take (x ∷ s) (suc k) b (suc i) = Bytes-take s k (λ j. b (suc j)) i

pub Bytes-append : (a b : List ℕ) → Bytes a → Bytes b → Bytes (a ++ b)
Bytes-append [] b p q i = q i
Bytes-append (x ∷ a) b p q zero = p 0
Bytes-append (x ∷ a) b p q (suc i) = Bytes-append a b (λ j. p (suc j)) q i

pub Bytes-append_left : (a b : List ℕ) → Bytes (a ++ b) → Bytes a
Bytes-append_left a b p = subst Bytes (take-append_seam a b) (Bytes-take (a ++ b) (length a) p)

pub Bytes-append_right : (a b : List ℕ) → Bytes (a ++ b) → Bytes b
Bytes-append_right a b p = subst Bytes (drop-append_seam a b) (Bytes-drop (a ++ b) (length a) p)

-- ---- binary digits of a number

pub div_pow-suc : (x k : ℕ) → x / 2 ^ suc k ≡ x / 2 ^ k / 2
div_pow-suc x k = rw (← add-one k) (sym (shr-shr x k 1))

pub mod_pow-suc : (x k : ℕ) → x % 2 ^ suc k ≡ 2 * (x / 2 % 2 ^ k) + x % 2
mod_pow-suc x k = rw (← add-one k, mod-pow-add x k 1) (omega arith)

pub pow_256 : (k : ℕ) → 256 ^ k ≡ 2 ^ (8 * k)
pow_256 zero = refl
pow_256 (suc k) = rw (mul-suc 8 k, pow-add 2 (8 * k) 8, pow-suc 256 k, pow_256 k)

-- ---- bits and fields

pub bit-lt : (s : List ℕ) (i : ℕ) → bit s i < 2
unfolding bit
bit-lt s i = mod-lt _ (lit< tt)

pub bits-lt : (s : List ℕ) (at n : ℕ) → bits s at n < 2 ^ n
unfolding bits
bits-lt s at zero = lit< tt
bits-lt s at (suc n) = omega (arith, bits-lt s at n, bit-lt s (at + n))

pub bits-split : (s : List ℕ) (at m n : ℕ) → bits s at (m + n) ≡ bits s at m * 2 ^ n + bits s (at + m) n
unfolding bits
bits-split s at m zero = rw (add-zero m) (omega arith)
bits-split s at m (suc n) = rw (add-suc, pow-suc, bits-split s at m n, add_assoc at m n) (omega arith)

-- bits of the same values, at any two places, make the same number
pub bits_ext : (s t : List ℕ) (at bt n : ℕ) → ((i : ℕ) → i < n → bit s (at + i) ≡ bit t (bt + i)) → bits s at n ≡ bits t bt n
unfolding bits
bits_ext s t at bt zero e = refl
bits_ext s t at bt (suc n) e = rw (bits_ext s t at bt n (λ i h. e i (omega arith)), e n (omega arith))

-- The n bits are the i bits before the part, its own w, and the d behind it: the number is (before * 2 ^ w + part) * 2 ^ d + behind.
pub bits-part : (s : List ℕ) (at n i w : ℕ) → i + w ≤ n → bits s at n / 2 ^ (n - i - w) % 2 ^ w ≡ bits s (at + i) w
bits-part s at n i w h =
    let d : ℕ = n - i - w in
    let e : n ≡ i + w + d = omega arith in
    let whole : bits s at n ≡ (bits s at i * 2 ^ w + bits s (at + i) w) * 2 ^ d + bits s (at + (i + w)) d =
    ap (bits s at) e ∙ rw (bits-split s at (i + w) d, bits-split s at i w) in
    ap (λ (x : ℕ). x / 2 ^ d % 2 ^ w) whole ∙ ap (λ (x : ℕ). x % 2 ^ w) (high _ d (bits-lt s (at + (i + w)) d)) ∙ low _ w (bits-lt s (at + i) w)

pub bits-one : (s : List ℕ) (at : ℕ) → bits s at 1 ≡ bit s at
unfolding bits
bits-one s at = rw (add-zero at, zero-add (bit s at))

pub bits-digit : (s : List ℕ) (at n b : ℕ) → b < n → bits s at n / 2 ^ (n - 1 - b) % 2 ≡ bit s (at + b)
bits-digit s at n b h = let e : n - 1 - b ≡ n - b - 1 = omega arith in rw e (bits-part s at n b 1 (omega arith) ∙ bits-one s (at + b))

-- ---- inside one byte

pub bit_byte : (s : List ℕ) (k r : ℕ) → r < 8 → bit s (8 * k + r) ≡ get_or s k 0 / 2 ^ (7 - r) % 2
unfolding bit
bit_byte s k r h =
    let d : (8 * k + r) / 8 ≡ k = omega arith in
    let m : (8 * k + r) % 8 ≡ r = omega arith in
    rw (d, m)

pub bits-byte : (s : List ℕ) (k r n : ℕ) → r + n ≤ 8 → bits s (8 * k + r) n ≡ get_or s k 0 / 2 ^ (8 - r - n) % 2 ^ n
unfolding bits
bits-byte s k r zero h = sym (mod-one _)
bits-byte s k r (suc n) h =
    let e : 8 - r - n ≡ suc (8 - r - suc n) = omega arith in
    let f : 7 - (r + n) ≡ 8 - r - suc n = omega arith in
    rw (bits-byte s k r n (omega arith), add_assoc (8 * k) r n, bit_byte s k (r + n) (omega arith), e, f, div_pow-suc, mod_pow-suc)

pub bits-whole : (s : List ℕ) (k : ℕ) → get_or s k 0 < 256 → bits s (8 * k) 8 ≡ get_or s k 0
bits-whole s k h =
    ap (λ (i : ℕ). bits s i 8) (sym (add-zero (8 * k))) ∙ bits-byte s k 0 8 (lit≤ tt) ∙ ap (λ (x : ℕ). x % 256) (div-one _) ∙ mod-eq_of_lt h

-- ---- the number of the first k bytes

pub big_lt : (s : List ℕ) (k : ℕ) → Bytes s → big s k < 256 ^ k
unfolding big
big_lt s zero b = lit< tt
big_lt s (suc k) b = rw pow-suc (digits_lt (big_lt s k b) (b k))

pub bits-all : (s : List ℕ) (k : ℕ) → Bytes s → bits s 0 (8 * k) ≡ big s k
unfolding big
bits-all s zero b = unfold bits in refl
bits-all s (suc k) b = rw (mul-suc 8 k, bits-split s 0 (8 * k) 8, zero-add (8 * k), bits-all s k b, bits-whole s k (b k))

pub bits-big : (s : List ℕ) (k at n : ℕ) → Bytes s → at + n ≤ 8 * k → bits s at n ≡ big s k / 2 ^ (8 * k - at - n) % 2 ^ n
bits-big s k at n b h = rw (← bits-all s k b, bits-part s 0 (8 * k) at n h, zero-add at)

-- ---- parts of a list

pub bits_cong : (s t : List ℕ) (at n : ℕ) → ((i : ℕ) → 8 * i < at + n → at < 8 * i + 8 → get_or s i 0 ≡ get_or t i 0) → bits s at n ≡ bits t at n
unfolding bit
bits_cong s t at n e = bits_ext s t at at n (λ i h. rw (e ((at + i) / 8) (omega arith) (omega arith)))

pub bit-drop : (s : List ℕ) (k i : ℕ) → bit (drop k s) i ≡ bit s (8 * k + i)
unfolding bit
bit-drop s k i =
    let d : (8 * k + i) / 8 ≡ k + i / 8 = omega arith in
    let m : (8 * k + i) % 8 ≡ i % 8 = omega arith in
    rw (d, m, get_or-drop k s (i / 8) 0)

pub bits-drop : (s : List ℕ) (k at n : ℕ) → bits (drop k s) at n ≡ bits s (8 * k + at) n
bits-drop s k at n = bits_ext (drop k s) s at (8 * k + at) n (λ i h. rw add_assoc (bit-drop s k (at + i)))

pub bits-bytes : (s : List ℕ) (i k : ℕ) → Bytes s → bits s (8 * i) (8 * k) ≡ big (drop i s) k
bits-bytes s i k b =
    ap (λ (at : ℕ). bits s at (8 * k)) (sym (add-zero (8 * i))) ∙ sym (bits-drop s i 0 (8 * k)) ∙ bits-all (drop i s) k (Bytes-drop s i b)

pub bits-take : (s : List ℕ) (k at n : ℕ) → at + n ≤ 8 * k → bits (take k s) at n ≡ bits s at n
bits-take s k at n h = bits_cong (take k s) s at n (λ i l g. get_or-take k s i 0 (omega arith))

pub bits-append_left : (a b : List ℕ) (at n : ℕ) → at + n ≤ 8 * length a → bits (a ++ b) at n ≡ bits a at n
bits-append_left a b at n h = bits_cong (a ++ b) a at n (λ i l g. get_or-append a b 0 i (omega arith))

pub bits-append_right : (a b : List ℕ) (at n : ℕ) → bits (a ++ b) (8 * length a + at) n ≡ bits b at n
bits-append_right a b at n = sym (bits-drop (a ++ b) (length a) at n) ∙ ap (λ (s : List ℕ). bits s at n) (drop-append_seam a b)

pub big_cong : (s t : List ℕ) (k : ℕ) → ((i : ℕ) → i < k → get_or s i 0 ≡ get_or t i 0) → big s k ≡ big t k
unfolding big
big_cong s t zero e = refl
big_cong s t (suc k) e = rw (big_cong s t k (λ i h. e i (omega arith)), e k (omega arith))

pub big-take : (s : List ℕ) (k j : ℕ) → j ≤ k → big (take k s) j ≡ big s j
big-take s k j h = big_cong (take k s) s j (λ i l. get_or-take k s i 0 (omega arith))

pub big-append_left : (a b : List ℕ) (k : ℕ) → k ≤ length a → big (a ++ b) k ≡ big a k
big-append_left a b k h = big_cong (a ++ b) a k (λ i l. get_or-append a b 0 i (omega arith))

pub big-add : (s : List ℕ) (j k : ℕ) → big s (j + k) ≡ big s j * 256 ^ k + big (drop j s) k
unfolding big
big-add s j zero = rw (add-zero j) (omega arith)
big-add s j (suc k) = rw (add-suc, pow-suc, big-add s j k, get_or-drop j s k 0) (omega arith)

pub big-cons : (x : ℕ) (s : List ℕ) (k : ℕ) → big (x ∷ s) (suc k) ≡ x * 256 ^ k + big s k
unfolding big
big-cons x s k = ap (big (x ∷ s)) (sym (one-add k)) ∙ big-add (x ∷ s) 1 k ∙ rw (zero-add x)

pub big-append_right : (a b : List ℕ) (k : ℕ) → big (a ++ b) (length a + k) ≡ big a (length a) * 256 ^ k + big b k
big-append_right a b k = rw (big-add (a ++ b) (length a) k, big-append_left a b (length a) (le_refl _), drop-append_seam a b)

pub big-div : (s : List ℕ) (j k : ℕ) → Bytes s → big s (j + k) / 256 ^ k ≡ big s j
big-div s j k b = ap (λ (x : ℕ). x / 256 ^ k) (big-add s j k) ∙ digits_div (big s j) (big_lt (drop j s) k (Bytes-drop s j b))

pub big-mod : (s : List ℕ) (j k : ℕ) → Bytes s → big s (j + k) % 256 ^ k ≡ big (drop j s) k
big-mod s j k b = ap (λ (x : ℕ). x % 256 ^ k) (big-add s j k) ∙ digits_mod (big s j) (big_lt (drop j s) k (Bytes-drop s j b))
