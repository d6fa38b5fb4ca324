-- A set of benches as a number: the bits of set_of are the benches of its list, if they rise.
--     Rising bs           each entry of the list is above those before it
--     set_of-lt           the number of a rising list of benches from c on is below 2 ^ (64 - c)
--     is_set-set_of       its bits are the benches of the list
--     one_of-members      the list of a set's benches names that set
--     set_of-members      a number that has the bits of a set is the number of its list
use Prim.Native.Nat.{ℕ, zero, suc, ◌+◌, ◌-◌, ◌*◌, ◌/◌, ◌%◌, ◌^◌, ◌≤◌, ◌<◌}
use mathlib.Core.Path.{◌≡◌, refl, sym, ap, subst, ◌∙◌}
use mathlib.Core.Logic.{inl, inr}
use mathlib.Core.Bool.{Bool, true, false, ◌&&◌, ◌||◌}
use mathlib.Core.List.{List, [], ◌∷◌}
use native.Mathlib.Nat.{mod-lt}
use native.Mathlib.Omega.{arith}
use lib.ListN.{length, get_or}
use lib.Dec.{eqb, ltb}
use lib.Pow.{pow_pos, pow_mono, pow-add, split as pow-split, high}
use borrow.Author.Tests.{ne_eqb, eq-eqb, eqb-true, lt-ltb, le-ltb}
use Rattle.bools.proofs.OrderLaws.{lt-or-le, eq-or-ne}
use Rattle.sums.specs.Search.{any}
use Rattle.sums.specs.Members.{members}
use Rattle.sums.proofs.SearchLaws.{any_intro, any_elim, any_false}
use Rattle.sums.proofs.MembersLaws.{length-members, member_below, member_holds, member_index, members-rise}
use Rattle.bools.proofs.BoolLaws.{bool_ext}
use Rattle.bits.specs.Bits.{is_set}
use Rattle.bits.proofs.SetBits.{is_set-digit, is_set-zero, is_set-injective}
use Rattle.answers.specs.Answers.{one_of, set_of}

-- ── one binary digit ──

digit_at : (k r : ℕ) → r < 2 ^ k → (2 ^ k + r) / 2 ^ k % 2 ≡ 1
digit_at k r l =
    let e : 2 ^ k + r ≡ 1 * 2 ^ k + r = omega arith in
    ap (λ (x : ℕ). x / 2 ^ k % 2) e ∙ ap (λ (x : ℕ). x % 2) (high 1 k l)

digit_above : (k x : ℕ) → x < 2 ^ k → x / 2 ^ k % 2 ≡ 0
digit_above k x l =
    let e : x ≡ 0 * 2 ^ k + x = omega arith in
    ap (λ (x : ℕ). x / 2 ^ k % 2) e ∙ ap (λ (x : ℕ). x % 2) (high 0 k l)

even_part : (x y : ℕ) → (2 * x + y) % 2 ≡ y % 2
even_part x y = omega arith

-- With k = 1 + d + j the number 2 ^ k + r is (2 × 2 ^ d + r / 2 ^ j) × 2 ^ j + r % 2 ^ j.
digit_below : (d j r : ℕ) → (2 ^ (suc d + j) + r) / 2 ^ j % 2 ≡ r / 2 ^ j % 2
digit_below d j r =
    let e : 2 ^ (suc d + j) + r ≡ (2 * 2 ^ d + r / 2 ^ j) * 2 ^ j + r % 2 ^ j = omega (arith, pow-add 2 (suc d) j, ap (λ (x : ℕ). x * 2 ^ j) (pow-two d), pow-split r j) in
    ap (λ (x : ℕ). x / 2 ^ j % 2) e ∙ ap (λ (x : ℕ). x % 2) (high (2 * 2 ^ d + r / 2 ^ j) j (mod_below r j)) ∙ even_part (2 ^ d) (r / 2 ^ j)
  where
    pow-two : (d : ℕ) → 2 ^ suc d ≡ 2 * 2 ^ d
    pow-two d = omega arith

    mod_below : (r j : ℕ) → r % 2 ^ j < 2 ^ j
    mod_below r j = mod-lt r (pow_pos j)

-- ── one bench more, below those of the rest ──

is_set-more : (a r v : ℕ) → a < 64 → v < 64 → r < 2 ^ (63 - a) → is_set 64 (2 ^ (63 - a) + r) v ≡ (eqb a v || is_set 64 r v)
is_set-more a r v la lv lr = rw (is_set-digit 64 (2 ^ (63 - a) + r) v lv, is_set-digit 64 r v lv) (elim (lt-or-le a v) [
  | inl less ↦
      let d : ℕ = v - suc a in
      let e : 63 - a ≡ suc d + (63 - v) = omega arith in
      let other : eqb a v ≡ false = ne_eqb a v (λ same. omega arith) in
      rw other (ap (λ (k : ℕ). eqb ((2 ^ k + r) / 2 ^ (63 - v) % 2) 1) e ∙ ap (λ (x : ℕ). eqb x 1) (digit_below d (63 - v) r))
  | inr up ↦ elim (eq-or-ne a v) [
    | inl same ↦ rw (eq-eqb a v same, ← same) (ap (λ (x : ℕ). eqb x 1) (digit_at (63 - a) r lr))
    | inr other ↦
        let more : 2 ^ suc (63 - a) ≤ 2 ^ (63 - v) = pow_mono (omega arith) in
        rw (ne_eqb a v other)
        (ap (λ (x : ℕ). eqb x 1) (digit_above (63 - v) (2 ^ (63 - a) + r) (omega (arith, more, lr))
        ∙ sym (digit_above (63 - v) r (omega (arith, more, lr)))))
  ]
])

-- ── rising lists of benches ──

abbrev pub Rising : List ℕ → Type 0
Rising bs = (i k : ℕ) → i < k → k < length bs → get_or bs i 0 < get_or bs k 0

rising_rest : (a : ℕ) (bs : List ℕ) → Rising (a ∷ bs) → Rising bs
rising_rest a bs rise i k l lk = rise (suc i) (suc k) (omega arith) (omega arith)

rising_above : (a : ℕ) (bs : List ℕ) → Rising (a ∷ bs) → (i : ℕ) → i < length bs → suc a ≤ get_or bs i 0
rising_above a bs rise i l = rise 0 (suc i) (omega arith) (omega arith)

one_less : (a x : ℕ) → x < 2 ^ (64 - suc a) → x < 2 ^ (63 - a)
one_less a x l = let e : 64 - suc a ≡ 63 - a = omega arith in subst (λ (k : ℕ). x < 2 ^ k) e l

pub set_of-lt : (c : ℕ) (bs : List ℕ) → Rising bs → ((i : ℕ) → i < length bs → c ≤ get_or bs i 0) → ((i : ℕ) → i < length bs → get_or bs i 0 < 64)
    → set_of bs < 2 ^ (64 - c)
unfolding set_of
set_of-lt c [] rise from below = pow_pos (64 - c)
set_of-lt c (a ∷ bs) rise from below =
    let rest : set_of bs < 2 ^ (63 - a) =
    one_less a (set_of bs) (set_of-lt (suc a) bs (rising_rest a bs rise) (rising_above a bs rise) (λ i l. below (suc i) (omega arith))) in
    let first : c ≤ a = from 0 (omega arith) in
    let last : a < 64 = below 0 (omega arith) in
    let more : 2 ^ suc (63 - a) ≤ 2 ^ (64 - c) = pow_mono (omega arith) in
    omega (arith, more, rest)

any-front : (n : ℕ) (f : ℕ → Bool) → any (suc n) f ≡ (f 0 || any n (λ i. f (suc i)))
any-front zero f = or_comm (f 0)
  where
    or_comm : (b : Bool) → (false || b) ≡ (b || false)
    or_comm true = refl
    or_comm false = refl
any-front (suc n) f = ap (λ (b : Bool). b || f (suc n)) (any-front n f) ∙ or_assoc (f 0) (any n (λ i. f (suc i))) (f (suc n))
  where
    or_assoc : (a b c : Bool) → ((a || b) || c) ≡ (a || (b || c))
    or_assoc true b c = refl
    or_assoc false b c = refl

pub is_set-set_of : (bs : List ℕ) → Rising bs → ((i : ℕ) → i < length bs → get_or bs i 0 < 64) → (v : ℕ) → v < 64 → is_set 64 (set_of bs) v ≡ one_of bs v
unfolding set_of
is_set-set_of [] rise below v lv = is_set-zero 64 v
is_set-set_of (a ∷ bs) rise below v lv =
    let rest : (i : ℕ) → i < length bs → get_or bs i 0 < 64 = λ i l. below (suc i) (omega arith) in
    is_set-more a (set_of bs) v (below 0 (omega arith)) lv
    (one_less a (set_of bs) (set_of-lt (suc a) bs (rising_rest a bs rise) (rising_above a bs rise) rest))
    ∙ ap (λ (b : Bool). eqb a v || b) (is_set-set_of bs (rising_rest a bs rise) rest v lv)
    ∙ sym (any-front (length bs) (λ i. eqb (get_or (a ∷ bs) i 0) v))

-- ── the list of a set's benches ──

pub one_of-members : (n : ℕ) (f : ℕ → Bool) (v : ℕ) → v < n → one_of (members n f) v ≡ f v
one_of-members n f v l =
    let there : ℕ → Bool = λ i. eqb (get_or (members n f) i 0) v in
    bool_ext (one_of (members n f) v) (f v)
    (λ p. let (i, li, e) = any_elim (length (members n f)) there p in
    ap f (sym (eqb-true (get_or (members n f) i 0) v e)) ∙ member_holds n f i 0 (omega (arith, length-members n f)))
    (λ p. let (i, li, e) = member_index n f 0 v l p in
    any_intro (length (members n f)) there i (omega (arith, length-members n f)) (eq-eqb (get_or (members n f) i 0) v e))

-- ── the benches of a set, as a number ──

module _ (n : ℕ) (P : ℕ → Bool) (few : n ≤ 64) where
  rise : Rising (members n P)
  rise i k l lk = members-rise n P i k 0 l (omega (arith, length-members n P))

  below : (i : ℕ) → i < length (members n P) → get_or (members n P) i 0 < 64
  below i l = omega (arith, member_below n P i 0 (omega (arith, length-members n P)))

  members-fit : set_of (members n P) < 2 ^ 64
  members-fit = set_of-lt 0 (members n P) rise (λ i l. omega arith) below

  members-bit : (v : ℕ) → v < 64 → is_set 64 (set_of (members n P)) v ≡ (ltb v n && P v)
  members-bit v h = is_set-set_of (members n P) rise below v h ∙ elim (lt-or-le v n) [
    | inl l ↦ one_of-members n P v l ∙ sym (ap (λ (t : Bool). t && P v) (lt-ltb v n l))
    | inr l ↦ outside l ∙ sym (ap (λ (t : Bool). t && P v) (le-ltb v n l))
  ]
    where
      outside : n ≤ v → one_of (members n P) v ≡ false
      outside l = any_false (length (members n P)) (λ i. eqb (get_or (members n P) i 0) v)
          (λ i h. ne_eqb (get_or (members n P) i 0) v
          (λ e. omega (arith, e, member_below n P i 0 (omega (arith, length-members n P)))))

  -- A number with the same bits is that number.
  pub set_of-members : (set : ℕ) → set < 2 ^ 64 → ((v : ℕ) → v < 64 → is_set 64 set v ≡ (ltb v n && P v)) → set ≡ set_of (members n P)
  set_of-members set fits bits = is_set-injective 64 set (set_of (members n P)) fits members-fit (λ v h. bits v h ∙ sym (members-bit v h))
