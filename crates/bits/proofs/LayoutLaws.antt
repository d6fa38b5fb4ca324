-- Laws of a layout: what is packed is read back, and what is read is packed back.
-- Of Fit:
--     Fit-length            there are as many values as widths
--     Fit-at                value k is below 2 to the power of width k
--     Fit-table             a table of values, each of which fits its width
--     Fit-fields            the fields of any list fit their widths
-- Of joined:
--     joined-lt             the number of all fields is below 2 to the power of all bits
--     start-total           a field lies inside the layout
--     joined-digits         field k is a range of the digits of the number of all fields
--     joined-fields         the fields read from a list make the number of its first bits
-- Of packed, for a layout of m whole bytes:
--     length-packed         the fields are packed into m elements
--     Bytes-packed          these are bytes
--     field-packed          field k of the packed values is value k
--     field-packed-append   so it is with more bytes behind them
--     fields-packed         all fields of the packed values are these values
--     packed-fields         the fields of m bytes are packed into these bytes
--     field-injective       lists of m bytes with the same fields are equal
-- Of field:
--     field-take            a field is read from the first m elements, which hold the layout
--     field-append          a field is read from the first of two lists, which holds the layout
use mathlib.Core.Path.{◌≡◌, refl, sym, ap, ◌∙◌}
use mathlib.Core.List.{List, [], ◌∷◌, ◌++◌}
use Prim.Native.Nat.{ℕ, zero, suc, ◌+◌, ◌-◌, ◌*◌, ◌/◌, ◌%◌, ◌^◌, ◌≤◌, ◌<◌}
use native.Mathlib.Nat.{mod-eq_of_lt, add-zero, zero-add, add_assoc, mul-add-div_right, mul-add-mod_self_right}
use native.Mathlib.Omega.{arith}
use lib.ListN.{length, get_or, take}
use lib.Dec.{lit<}
use lib.Arith.{digits_lt}
use lib.Pow.{pow-add, pow_pos, high}
use Rattle.sums.specs.Table.{table}
use Rattle.sums.proofs.TableLaws.{table_cong, table-get_or}
use Rattle.bits.specs.Bits.{bits, Bytes}
use Rattle.bits.specs.Layout.{total, start, field, fields, joined, packed, Fit}
use Rattle.bits.proofs.BitsLaws.{bits-lt, bits-split, bits-all, bits-take, bits-append_left}
use Rattle.bits.proofs.BytesLaws.{length-bytes_of, Bytes-bytes_of, bytes_of-big, bits-bytes_of}

-- ---- values that fit their widths

pub Fit-length : (ws vs : List ℕ) → Fit ws vs → length vs ≡ length ws
Fit-length [] [] f = refl
Fit-length [] (v ∷ vs) f = absurd f
Fit-length (w ∷ ws) [] f = absurd f
Fit-length (w ∷ ws) (v ∷ vs) f = ap suc (Fit-length ws vs f.1)

pub Fit-at : (ws vs : List ℕ) (k : ℕ) → Fit ws vs → k < length ws → get_or vs k 0 < 2 ^ get_or ws k 0
Fit-at [] vs k f h = omega arith
Fit-at (w ∷ ws) [] k f h = absurd f
Fit-at (w ∷ ws) (v ∷ vs) zero f h = f.0
Fit-at (w ∷ ws) (v ∷ vs) (suc k) f h = Fit-at ws vs k f.1 (omega arith)

pub Fit-table : (ws : List ℕ) (f : ℕ → ℕ) → ((k : ℕ) → k < length ws → f k < 2 ^ get_or ws k 0) → Fit ws (table (length ws) f)
Fit-table [] f h = tt
Fit-table (w ∷ ws) f h = (h 0 (omega arith), Fit-table ws (λ k. f (suc k)) (λ k l. h (suc k) (omega arith)))

pub Fit-fields : (ws s : List ℕ) → Fit ws (fields ws s)
Fit-fields ws s = Fit-table ws (λ k. field ws k s) (λ k h. bits-lt s (start ws k) (get_or ws k 0))

-- ---- the number of all fields

pub joined-lt : (ws vs : List ℕ) → Fit ws vs → joined ws vs < 2 ^ total ws
joined-lt [] [] f = lit< tt
joined-lt [] (v ∷ vs) f = absurd f
joined-lt (w ∷ ws) [] f = absurd f
joined-lt (w ∷ ws) (v ∷ vs) f = rw (pow-add 2 w (total ws)) (digits_lt f.0 (joined-lt ws vs f.1))

pub start-total : (ws : List ℕ) (k : ℕ) → k < length ws → start ws k + get_or ws k 0 ≤ total ws
start-total [] k h = omega arith
start-total (w ∷ ws) zero h = omega arith
start-total (w ∷ ws) (suc k) h = omega (arith, start-total ws k (omega arith))

-- what stands above a range of digits does not change it
range-add : (v x a w d : ℕ) → (v * 2 ^ (a + w + d) + x) / 2 ^ d % 2 ^ w ≡ x / 2 ^ d % 2 ^ w
range-add v x a w d =
    let e : v * 2 ^ (a + w + d) ≡ v * 2 ^ a * 2 ^ w * 2 ^ d = rw (pow-add 2 (a + w) d, pow-add 2 a w) (omega arith) in
    rw (e, mul-add-div_right (pow_pos d) (v * 2 ^ a * 2 ^ w) x) (mul-add-mod_self_right (v * 2 ^ a) (2 ^ w) (x / 2 ^ d))

pub joined-digits : (ws vs : List ℕ) (k : ℕ) → Fit ws vs → k < length ws
    → joined ws vs / 2 ^ (total ws - start ws k - get_or ws k 0) % 2 ^ get_or ws k 0 ≡ get_or vs k 0
joined-digits [] vs k f h = omega arith
joined-digits (w ∷ ws) [] k f h = absurd f
joined-digits (w ∷ ws) (v ∷ vs) zero f h =
    let e : w + total ws - 0 - w ≡ total ws = omega arith in
    rw (e, high v (total ws) (joined-lt ws vs f.1)) (mod-eq_of_lt f.0)
joined-digits (w ∷ ws) (v ∷ vs) (suc k) f h =
    let a = start ws k in
    let d = total ws - a - get_or ws k 0 in
    let l : k < length ws = omega arith in
    let e : w + total ws - (w + a) - get_or ws k 0 ≡ d = omega arith in
    let t : total ws ≡ a + get_or ws k 0 + d = omega (arith, start-total ws k l) in
    rw e (ap (λ (i : ℕ). (v * 2 ^ i + joined ws vs) / 2 ^ d % 2 ^ get_or ws k 0) t ∙ range-add v (joined ws vs) a (get_or ws k 0) d ∙ joined-digits ws vs k f.1 l)

-- ---- the bytes of all fields

pub length-packed : (ws vs : List ℕ) (m : ℕ) → total ws ≡ 8 * m → length (packed ws vs) ≡ m
length-packed ws vs m e = length-bytes_of (total ws / 8) (joined ws vs) ∙ omega arith

pub Bytes-packed : (ws vs : List ℕ) → Bytes (packed ws vs)
Bytes-packed ws vs = Bytes-bytes_of (total ws / 8) (joined ws vs)

pub field-packed : (ws vs : List ℕ) (k m : ℕ) → total ws ≡ 8 * m → Fit ws vs → k < length ws → field ws k (packed ws vs) ≡ get_or vs k 0
field-packed ws vs k m e f h =
    let t : 8 * (total ws / 8) ≡ total ws = omega arith in
    bits-bytes_of (total ws / 8) (joined ws vs) (start ws k) (get_or ws k 0) (omega (arith, start-total ws k h))
    ∙ ap (λ (i : ℕ). joined ws vs / 2 ^ (i - start ws k - get_or ws k 0) % 2 ^ get_or ws k 0) t
    ∙ joined-digits ws vs k f h

-- ---- fields of a part of a list

pub field-take : (ws s : List ℕ) (k m : ℕ) → total ws ≤ 8 * m → k < length ws → field ws k (take m s) ≡ field ws k s
field-take ws s k m e h = bits-take s m (start ws k) (get_or ws k 0) (omega (arith, start-total ws k h))

pub field-append : (ws s rest : List ℕ) (k : ℕ) → total ws ≤ 8 * length s → k < length ws → field ws k (s ++ rest) ≡ field ws k s
field-append ws s rest k e h = bits-append_left s rest (start ws k) (get_or ws k 0) (omega (arith, start-total ws k h))

pub field-packed-append : (ws vs rest : List ℕ) (k m : ℕ) → total ws ≡ 8 * m → Fit ws vs → k < length ws
    → field ws k (packed ws vs ++ rest) ≡ get_or vs k 0
field-packed-append ws vs rest k m e f h =
    field-append ws (packed ws vs) rest k (omega (arith, length-packed ws vs m e)) h ∙ field-packed ws vs k m e f h

-- ---- there and back

pub fields-packed : (ws vs : List ℕ) (m : ℕ) → total ws ≡ 8 * m → Fit ws vs → fields ws (packed ws vs) ≡ vs
fields-packed ws vs m e f =
    table_cong (length ws) (λ k. field ws k (packed ws vs)) (λ k. get_or vs k 0) (λ k h. field-packed ws vs k m e f h)
    ∙ ap (λ (n : ℕ). table n (λ k. get_or vs k 0)) (sym (Fit-length ws vs f)) ∙ table-get_or vs 0

-- the fields read from bit at on make the number of these bits
joined-bits : (ws s : List ℕ) (at : ℕ) → joined ws (table (length ws) (λ k. bits s (at + start ws k) (get_or ws k 0))) ≡ bits s at (total ws)
joined-bits [] s at = unfold bits in refl
joined-bits (w ∷ ws) s at =
    let e : table (length ws) (λ k. bits s (at + (w + start ws k)) (get_or ws k 0)) ≡ table (length ws) (λ k. bits s (at + w + start ws k) (get_or ws k 0)) =
    table_cong (length ws) _ _ (λ k h. ap (λ (i : ℕ). bits s i (get_or ws k 0)) (sym (add_assoc at w (start ws k)))) in
    rw (e, joined-bits ws s (at + w), add-zero at, bits-split s at w (total ws))

pub joined-fields : (ws s : List ℕ) → joined ws (fields ws s) ≡ bits s 0 (total ws)
joined-fields ws s =
    ap (joined ws) (table_cong (length ws) _ _ (λ k h. ap (λ (i : ℕ). bits s i (get_or ws k 0)) (sym (zero-add (start ws k))))) ∙ joined-bits ws s 0

pub packed-fields : (ws s : List ℕ) (m : ℕ) → Bytes s → length s ≡ m → total ws ≡ 8 * m → packed ws (fields ws s) ≡ s
packed-fields ws s m b l e =
    let t : total ws / 8 ≡ m = omega arith in
    rw (t, joined-fields ws s, e, bits-all s m b) (bytes_of-big s m b l)

pub field-injective : (ws s t : List ℕ) (m : ℕ) → Bytes s → Bytes t → length s ≡ m → length t ≡ m → total ws ≡ 8 * m
    → ((k : ℕ) → k < length ws → field ws k s ≡ field ws k t) → s ≡ t
field-injective ws s t m b c l n e h =
    sym (packed-fields ws s m b l e) ∙ ap (packed ws) (table_cong (length ws) _ _ h) ∙ packed-fields ws t m c n e
