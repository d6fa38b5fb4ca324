-- Facts about Booleans, stated as equations with true and false.
--     split                   a Boolean is true or it is false
--     clash                   what is both true and false proves anything
--     and_intro, and_left, and_right          a && b is true: from both, and back to each
--     and-false_left, and-false_right         a && b is false if one of the two is
--     and-false_elim                          a && b is false: one of the two is
--     and_unit                                a && b is a where b is true
--     or_left, or_right, or_elim              a || b is true: from one of the two, and back to one
--     or-false, or-false_left, or-false_right a || b is false: from both, and back to each
--     or_unit, or_nothing                     a || b is a where b is false, so a || false is a
--     or_comm, or_assoc                       a || b in the other order, and of three in the other grouping
--     not_intro_true, not_intro_false         not b from b
--     not-true, not-false                     b from not b
--     implies-false           where a gives b, and b is false, a is false
--     bool_ext                Booleans are equal if each gives the other
--     cond-true, cond-false   cond c x y is x where c is true, and y where c is false
--     eqb_sym                 eqb a b is eqb b a
--     not-ltb-true, not-leb-true, not-eqb-true        the fact about the numbers from a negated test that is true
--     not-ltb-false, not-leb-false, not-eqb-false     and from one that is false
--     tests                   with `omega tests`, omega reads the tests ltb, leb, eqb and their negations in scope, and proves such tests
use mathlib.Core.Bool.{Bool, true, false, not, cond, ◌&&◌, ◌||◌, true≢false}
use mathlib.Core.Path.{◌≡◌, refl, sym, ◌∙◌}
use mathlib.Core.Logic.{◌⊎◌, inl, inr, ◌≢◌}
use Prim.Native.Nat.{ℕ, ◌≤◌, ◌<◌}
use native.Mathlib.Omega.{arith}
use lib.Dec.{ltb, leb, eqb}
use borrow.Author.Tests.{ltb-true, ltb-false, leb-true, leb-false, eqb-true, eqb-false, lt-ltb, le-ltb, le-leb, lt-leb, eq-eqb, ne_eqb}

pub split : (b : Bool) → (b ≡ true) ⊎ (b ≡ false)
split true = inl refl
split false = inr refl

pub clash {ℓ} : {A : Type ℓ} {b : Bool} → b ≡ true → b ≡ false → A
clash t f = absurd (true≢false (sym t ∙ f))

-- ── and ──

pub and_intro : {a b : Bool} → a ≡ true → b ≡ true → (a && b) ≡ true
and_intro p q = cc

pub and_left : (a b : Bool) → (a && b) ≡ true → a ≡ true
and_left true b e = refl
and_left false b e = e

pub and_right : (a b : Bool) → (a && b) ≡ true → b ≡ true
and_right true b e = e
and_right false b e = clash e refl

pub and-false_left : {a : Bool} (b : Bool) → a ≡ false → (a && b) ≡ false
and-false_left b p = cc

pub and-false_right : (a : Bool) {b : Bool} → b ≡ false → (a && b) ≡ false
and-false_right true p = p
and-false_right false p = refl

pub and-false_elim : (a b : Bool) → (a && b) ≡ false → (a ≡ false) ⊎ (b ≡ false)
and-false_elim true b e = inr e
and-false_elim false b e = inl refl

pub and_unit : (a : Bool) {b : Bool} → b ≡ true → (a && b) ≡ a
and_unit true p = p
and_unit false p = refl

-- ── or ──

pub or_left : {a : Bool} (b : Bool) → a ≡ true → (a || b) ≡ true
or_left b p = cc

pub or_right : (a : Bool) {b : Bool} → b ≡ true → (a || b) ≡ true
or_right true p = refl
or_right false p = p

pub or_elim : (a b : Bool) → (a || b) ≡ true → (a ≡ true) ⊎ (b ≡ true)
or_elim true b e = inl refl
or_elim false b e = inr e

pub or-false : {a b : Bool} → a ≡ false → b ≡ false → (a || b) ≡ false
or-false p q = cc

pub or-false_left : (a b : Bool) → (a || b) ≡ false → a ≡ false
or-false_left true b e = e
or-false_left false b e = refl

pub or-false_right : (a b : Bool) → (a || b) ≡ false → b ≡ false
or-false_right true b e = clash refl e
or-false_right false b e = e

pub or_unit : (a : Bool) {b : Bool} → b ≡ false → (a || b) ≡ a
or_unit true p = refl
or_unit false p = p

pub or_nothing : (a : Bool) → (a || false) ≡ a
or_nothing a = or_unit a refl

pub or_comm : (a b : Bool) → (a || b) ≡ (b || a)
or_comm true true = refl
or_comm true false = refl
or_comm false true = refl
or_comm false false = refl

pub or_assoc : (a b e : Bool) → ((a || b) || e) ≡ (a || (b || e))
or_assoc true b e = refl
or_assoc false b e = refl

-- ── not ──

pub not_intro_true : {b : Bool} → b ≡ false → not b ≡ true
not_intro_true p = cc

pub not_intro_false : {b : Bool} → b ≡ true → not b ≡ false
not_intro_false p = cc

pub not-true : (b : Bool) → not b ≡ true → b ≡ false
not-true true e = sym e
not-true false e = refl

pub not-false : (b : Bool) → not b ≡ false → b ≡ true
not-false true e = refl
not-false false e = sym e

-- ── implication and equality ──

pub implies-false : (a : Bool) {b : Bool} → (a ≡ true → b ≡ true) → b ≡ false → a ≡ false
implies-false true h q = clash (h refl) q
implies-false false h q = refl

pub bool_ext : (a b : Bool) → (a ≡ true → b ≡ true) → (b ≡ true → a ≡ true) → a ≡ b
bool_ext true b f g = sym (f refl)
bool_ext false true f g = g refl
bool_ext false false f g = refl

-- ── cond ──

pub cond-true {ℓ} : {A : Type ℓ} {c : Bool} (x y : A) → c ≡ true → cond c x y ≡ x
cond-true x y p = rw p

pub cond-false {ℓ} : {A : Type ℓ} {c : Bool} (x y : A) → c ≡ false → cond c x y ≡ y
cond-false x y p = rw p

-- ── tests of numbers ──

pub not-ltb-true : (a b : ℕ) → not (ltb a b) ≡ true → b ≤ a
not-ltb-true a b e = ltb-false a b (not-true _ e)

pub not-ltb-false : (a b : ℕ) → not (ltb a b) ≡ false → a < b
not-ltb-false a b e = ltb-true a b (not-false _ e)

pub not-leb-true : (a b : ℕ) → not (leb a b) ≡ true → b < a
not-leb-true a b e = leb-false a b (not-true _ e)

pub not-leb-false : (a b : ℕ) → not (leb a b) ≡ false → a ≤ b
not-leb-false a b e = leb-true a b (not-false _ e)

pub not-eqb-true : (a b : ℕ) → not (eqb a b) ≡ true → a ≢ b
not-eqb-true a b e = eqb-false a b (not-true _ e)

pub not-eqb-false : (a b : ℕ) → not (eqb a b) ≡ false → a ≡ b
not-eqb-false a b e = eqb-true a b (not-false _ e)

pub ruleset tests = (
  arith,
  ltb-true,
  ltb-false,
  leb-true,
  leb-false,
  eqb-true,
  eqb-false,
  not-ltb-true,
  not-ltb-false,
  not-leb-true,
  not-leb-false,
  not-eqb-true,
  not-eqb-false,
  lt-ltb,
  le-ltb,
  le-leb,
  lt-leb,
  eq-eqb,
  ne_eqb,
)

pub eqb_sym : (a b : ℕ) → eqb a b ≡ eqb b a
eqb_sym a b = bool_ext (eqb a b) (eqb b a) (λ p. omega tests) (λ p. omega tests)
