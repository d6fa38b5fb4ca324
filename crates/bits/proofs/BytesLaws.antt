-- Laws of the bytes of a number.
--     length-bytes_of     bytes_of k n has k elements
--     Bytes-bytes_of      they are bytes
--     get_or-bytes_of     byte i of them
--     bytes_of-add        multiples of 256 ^ k do not change the k low bytes
--     bytes_of_mod         the k bytes of n are those of n modulo 256 ^ k
--     bytes_of-append     the bytes of a number of a high part and b low bytes: those of the high part, then those of the low one
--     bytes_of-big        the k bytes of the number that k bytes make are these bytes
--     big-bytes_of        the number of the k bytes of n is n modulo 256 ^ k
--     big-bytes_of-exact  it is n where n has no more than k bytes
--     big-injective       lists of k bytes that make the same number are equal
--     bits-bytes_of       a field of the bytes of a number is a range of its binary digits
use mathlib.Core.Path.{◌≡◌, refl, sym, ap, ◌∙◌}
use mathlib.Core.List.{List, [], ◌∷◌, ◌++◌}
use Prim.Native.Nat.{ℕ, zero, suc, ◌+◌, ◌-◌, ◌*◌, ◌/◌, ◌%◌, ◌^◌, ◌≤◌, ◌<◌}
use native.Mathlib.Nat.{mod-lt, mod-eq_of_lt, mod-one, zero-add, suc-add, mul_comm, pow-suc, pow-succ', div-div-eq-div-mul, div-add-mod', one-le-pow, mul-add-div_right, mul-add-mod_self_right}
use native.Mathlib.Omega.{arith}
use lib.ListN.{length, get_or}
use lib.Dec.{lit<}
use lib.Arith.{digits_div, mod-mul}
use lib.Pow.{pow-add, mod-mod-pow, field as pow-field}
use Rattle.bits.specs.Bits.{bits, big, bytes_of, Bytes}
use Rattle.bits.proofs.BitsLaws.{big_lt, big-cons, bits-big, pow_256, Bytes-nil, Bytes-cons}

256_pos : (k : ℕ) → 0 < 256 ^ k
256_pos k = one-le-pow k 256 (lit< tt)

pub length-bytes_of : (k n : ℕ) → length (bytes_of k n) ≡ k
unfolding bytes_of
length-bytes_of zero n = refl
length-bytes_of (suc k) n = ap suc (length-bytes_of k n)

pub Bytes-bytes_of : (k n : ℕ) → Bytes (bytes_of k n)
unfolding bytes_of
Bytes-bytes_of zero n = Bytes-nil
Bytes-bytes_of (suc k) n = Bytes-cons (n / 256 ^ k % 256) (bytes_of k n) (mod-lt _ (lit< tt)) (Bytes-bytes_of k n)

pub get_or-bytes_of : (k n i : ℕ) → i < k → get_or (bytes_of k n) i 0 ≡ n / 256 ^ (k - 1 - i) % 256
unfolding bytes_of
get_or-bytes_of zero n i h = omega arith
get_or-bytes_of (suc k) n zero h = let e : suc k - 1 - 0 ≡ k = omega arith in rw e
get_or-bytes_of (suc k) n (suc i) h = let e : suc k - 1 - suc i ≡ k - 1 - i = omega arith in rw e (get_or-bytes_of k n i (omega arith))

pub bytes_of-add : (k h l : ℕ) → bytes_of k (h * 256 ^ k + l) ≡ bytes_of k l
unfolding bytes_of
bytes_of-add zero h l = refl
bytes_of-add (suc k) h l =
    let e : h * 256 ^ suc k + l ≡ h * 256 * 256 ^ k + l = rw pow-suc (omega arith) in
    rw (e, bytes_of-add k (h * 256) l, mul-add-div_right (256_pos k) (h * 256) l, mul-add-mod_self_right h 256 (l / 256 ^ k))

pub bytes_of_mod : (k n : ℕ) → bytes_of k (n % 256 ^ k) ≡ bytes_of k n
bytes_of_mod k n = sym (bytes_of-add k (n / 256 ^ k) (n % 256 ^ k)) ∙ ap (bytes_of k) (div-add-mod' n (256 ^ k))

pub bytes_of-append : (a b h l : ℕ) → l < 256 ^ b → bytes_of (a + b) (h * 256 ^ b + l) ≡ bytes_of a h ++ bytes_of b l
unfolding bytes_of
bytes_of-append zero b h l p = rw (zero-add b) (bytes_of-add b h l)
bytes_of-append (suc a) b h l p =
    let n = h * 256 ^ b + l in
    let e : n / 256 ^ (a + b) ≡ h / 256 ^ a =
    ap (λ (x : ℕ). n / x) (pow-add 256 a b ∙ mul_comm (256 ^ a) (256 ^ b)) ∙ sym (div-div-eq-div-mul n (256 ^ b) (256 ^ a))
    ∙ ap (λ (x : ℕ). x / 256 ^ a) (digits_div h p) in
    rw (suc-add a b, e, bytes_of-append a b h l p)

bytes_of-all : (s : List ℕ) → Bytes s → bytes_of (length s) (big s (length s)) ≡ s
unfolding bytes_of
bytes_of-all [] b = refl
bytes_of-all (x ∷ s) b =
    let k = length s in
    let b' : Bytes s = λ i. b (suc i) in
    rw (big-cons x s k, digits_div x (big_lt s k b'), mod-eq_of_lt (b 0), bytes_of-add k x (big s k), bytes_of-all s b')

pub bytes_of-big : (s : List ℕ) (k : ℕ) → Bytes s → length s ≡ k → bytes_of k (big s k) ≡ s
bytes_of-big s k b e = rw (← e) (bytes_of-all s b)

pub big-bytes_of : (k n : ℕ) → big (bytes_of k n) k ≡ n % 256 ^ k
unfolding bytes_of
big-bytes_of zero n = unfold big in sym (mod-one n)
big-bytes_of (suc k) n = rw (big-cons (n / 256 ^ k % 256) (bytes_of k n) k, big-bytes_of k n, pow-succ', mod-mul n {m = 256} (lit< tt) (256_pos k))

pub big-bytes_of-exact : (k n : ℕ) → n < 256 ^ k → big (bytes_of k n) k ≡ n
big-bytes_of-exact k n h = big-bytes_of k n ∙ mod-eq_of_lt h

pub big-injective : (s t : List ℕ) (k : ℕ) → Bytes s → Bytes t → length s ≡ k → length t ≡ k → big s k ≡ big t k → s ≡ t
big-injective s t k b c l m e = sym (bytes_of-big s k b l) ∙ ap (bytes_of k) e ∙ bytes_of-big t k c m

pub bits-bytes_of : (k m at n : ℕ) → at + n ≤ 8 * k → bits (bytes_of k m) at n ≡ m / 2 ^ (8 * k - at - n) % 2 ^ n
bits-bytes_of k m at n h =
    let d : ℕ = 8 * k - at - n in
    let e : 8 * k ≡ at + n + d = omega arith in
    bits-big (bytes_of k m) k at n (Bytes-bytes_of k m) h
    ∙ ap (λ (x : ℕ). x / 2 ^ d % 2 ^ n) (big-bytes_of k m ∙ ap (λ (x : ℕ). m % x) (pow_256 k ∙ ap (λ (i : ℕ). 2 ^ i) e))
    ∙ ap (λ (x : ℕ). x % 2 ^ n) (pow-field m (at + n) d)
    ∙ mod-mod-pow (m / 2 ^ d) at n
