-- Laws of bounded search: least, any, all.
--     least-here, least-there     least looked at one step: f 0 is true, f 0 is false
--     least-found     least n f is i where f i is true and f is false before i
--     least-none      it is n where f is false below n
--     least-le        it is at most n
--     least-holds     f holds there, if it is below n
--     least-before    f is false before it
--     least_bound     it is at most any i at which f holds
--     least_cong      functions equal below n have the same least
--     any_intro, any_elim         any n f is true: from an index, and back to one
--     any_false, any_none         any n f is false: from f false everywhere below n, and back
--     any_cong, any-least         equal functions; any n f says that least n f is below n
--     all_intro, all_elim         all n f is true: from f true everywhere below n, and back
--     all-fails, all-false        all n f is false: from an index, and back to one
--     all_cong                    equal functions
--     any-and, any-or             a search with one test more, and one for either of two
use Prim.Native.Nat.{ℕ, zero, suc, ◌≤◌, ◌<◌}
use mathlib.Core.Bool.{Bool, true, false, ◌&&◌, ◌||◌}
use mathlib.Core.Path.{◌≡◌, refl, sym, ◌∙◌, ap, ap₂}
use mathlib.Core.Logic.{inl, inr}
use native.Mathlib.Omega.{arith}
use Rattle.bools.proofs.BoolLaws.{split, clash, and_intro, and_left, and_right, and-false_elim, or_left, or_right, or_elim, or-false}
use Rattle.bools.proofs.OrderLaws.{lt-or-le, last_or_below}
use Rattle.sums.specs.Search.{any, all, least}

-- ── least ──

pub least-here : (n : ℕ) (f : ℕ → Bool) → f 0 ≡ true → least (suc n) f ≡ 0
least-here n f p = cc

pub least-there : (n : ℕ) (f : ℕ → Bool) → f 0 ≡ false → least (suc n) f ≡ suc (least n (λ i. f (suc i)))
least-there n f p = cc

pub least-found : (n : ℕ) (f : ℕ → Bool) (i : ℕ) → i < n → f i ≡ true → ((k : ℕ) → k < i → f k ≡ false) → least n f ≡ i
least-found zero f i h p q = omega arith
least-found (suc n) f zero h p q = least-here n f p
least-found (suc n) f (suc i) h p q = least-there n f (q 0 (omega arith))
    ∙ ap suc (least-found n (λ j. f (suc j)) i (omega arith) p (λ k l. q (suc k) (omega arith)))

pub least-none : (n : ℕ) (f : ℕ → Bool) → ((k : ℕ) → k < n → f k ≡ false) → least n f ≡ n
least-none zero f q = refl
least-none (suc n) f q = least-there n f (q 0 (omega arith)) ∙ ap suc (least-none n (λ j. f (suc j)) (λ k l. q (suc k) (omega arith)))

pub least-le : (n : ℕ) (f : ℕ → Bool) → least n f ≤ n
least-le zero f = omega arith
least-le (suc n) f = elim (split (f 0)) [
  | inl p ↦ rw (least-here n f p) (omega arith)
  | inr p ↦ rw (least-there n f p) (omega (arith, least-le n (λ j. f (suc j))))
]

pub least-holds : (n : ℕ) (f : ℕ → Bool) → least n f < n → f (least n f) ≡ true
least-holds zero f h = absurd (omega arith)
least-holds (suc n) f h = elim (split (f 0)) [
  | inl p ↦ rw (least-here n f p) p
  | inr p ↦ rw (least-there n f p) (least-holds n (λ j. f (suc j)) (omega (arith, least-there n f p)))
]

pub least-before : (n : ℕ) (f : ℕ → Bool) (k : ℕ) → k < least n f → f k ≡ false
least-before zero f k h = absurd (omega arith)
least-before (suc n) f zero h = elim (split (f 0)) [ inl p ↦ absurd (omega (arith, least-here n f p)) | inr p ↦ p ]
least-before (suc n) f (suc k) h = elim (split (f 0)) [
  | inl p ↦ absurd (omega (arith, least-here n f p))
  | inr p ↦ least-before n (λ j. f (suc j)) k (omega (arith, least-there n f p))
]

pub least_bound : (n : ℕ) (f : ℕ → Bool) (i : ℕ) → f i ≡ true → least n f ≤ i
least_bound n f i p = elim (lt-or-le i (least n f)) [ inl h ↦ clash p (least-before n f i h) | inr h ↦ h ]

pub least_cong : (n : ℕ) (f g : ℕ → Bool) → ((i : ℕ) → i < n → f i ≡ g i) → least n f ≡ least n g
least_cong zero f g e = refl
least_cong (suc n) f g e = elim (split (g 0)) [
  | inl p ↦ least-here n f (e 0 (omega arith) ∙ p) ∙ sym (least-here n g p)
  | inr p ↦ least-there n f (e 0 (omega arith) ∙ p)
      ∙ ap suc (least_cong n (λ j. f (suc j)) (λ j. g (suc j)) (λ i h. e (suc i) (omega arith))) ∙ sym (least-there n g p)
]

-- ── any ──

pub any_intro : (n : ℕ) (f : ℕ → Bool) (i : ℕ) → i < n → f i ≡ true → any n f ≡ true
any_intro zero f i h p = absurd (omega arith)
any_intro (suc n) f i h p = elim (last_or_below h) [
  | inl e ↦ or_right (any n f) (ap f (sym e) ∙ p)
  | inr l ↦ or_left (f n) (any_intro n f i l p)
]

pub any_elim : (n : ℕ) (f : ℕ → Bool) → any n f ≡ true → (i : ℕ) × (i < n) × (f i ≡ true)
any_elim zero f p = clash p refl
any_elim (suc n) f p = elim (or_elim (any n f) (f n) p) [
  | inl q ↦ let r = any_elim n f q in (r.0, omega arith, r.2)
  | inr q ↦ (n, omega arith, q)
]

pub any_false : (n : ℕ) (f : ℕ → Bool) → ((i : ℕ) → i < n → f i ≡ false) → any n f ≡ false
any_false zero f q = refl
any_false (suc n) f q = or-false (any_false n f (λ i h. q i (omega arith))) (q n (omega arith))

pub any_none : (n : ℕ) (f : ℕ → Bool) → any n f ≡ false → (i : ℕ) → i < n → f i ≡ false
any_none n f q i h = elim (split (f i)) [ inl p ↦ clash (any_intro n f i h p) q | inr p ↦ p ]

pub any_cong : (n : ℕ) (f g : ℕ → Bool) → ((i : ℕ) → i < n → f i ≡ g i) → any n f ≡ any n g
any_cong zero f g e = refl
any_cong (suc n) f g e = ap₂ ◌||◌ (any_cong n f g (λ i h. e i (omega arith))) (e n (omega arith))

pub any-least : (n : ℕ) (f : ℕ → Bool) → any n f ≡ true → least n f < n
any-least n f p = let r = any_elim n f p in omega (arith, least_bound n f r.0 r.2)

-- ── all ──

pub all_intro : (n : ℕ) (f : ℕ → Bool) → ((i : ℕ) → i < n → f i ≡ true) → all n f ≡ true
all_intro zero f q = refl
all_intro (suc n) f q = and_intro (all_intro n f (λ i h. q i (omega arith))) (q n (omega arith))

pub all_elim : (n : ℕ) (f : ℕ → Bool) → all n f ≡ true → (i : ℕ) → i < n → f i ≡ true
all_elim zero f p i h = absurd (omega arith)
all_elim (suc n) f p i h = elim (last_or_below h) [
  | inl e ↦ ap f e ∙ and_right (all n f) (f n) p
  | inr l ↦ all_elim n f (and_left (all n f) (f n) p) i l
]

pub all-fails : (n : ℕ) (f : ℕ → Bool) (i : ℕ) → i < n → f i ≡ false → all n f ≡ false
all-fails n f i h q = elim (split (all n f)) [ inl p ↦ clash (all_elim n f p i h) q | inr p ↦ p ]

pub all-false : (n : ℕ) (f : ℕ → Bool) → all n f ≡ false → (i : ℕ) × (i < n) × (f i ≡ false)
all-false zero f p = clash refl p
all-false (suc n) f p = elim (and-false_elim (all n f) (f n) p) [
  | inl q ↦ let r = all-false n f q in (r.0, omega arith, r.2)
  | inr q ↦ (n, omega arith, q)
]

pub all_cong : (n : ℕ) (f g : ℕ → Bool) → ((i : ℕ) → i < n → f i ≡ g i) → all n f ≡ all n g
all_cong zero f g e = refl
all_cong (suc n) f g e = ap₂ ◌&&◌ (all_cong n f g (λ i h. e i (omega arith))) (e n (omega arith))

-- ── searches in parts ──

pub any-and : (n : ℕ) (c : Bool) (f : ℕ → Bool) → any n (λ j. c && f j) ≡ (c && any n f)
any-and n true f = refl
any-and n false f = any_false n (λ j. false) (λ j h. refl)

or_four : (a b c d : Bool) → ((a || b) || (c || d)) ≡ ((a || c) || (b || d))
or_four true b true d = refl
or_four true b false d = refl
or_four false true true d = refl
or_four false true false d = refl
or_four false false true d = refl
or_four false false false d = refl

pub any-or : (n : ℕ) (f g : ℕ → Bool) → any n (λ j. f j || g j) ≡ (any n f || any n g)
any-or zero f g = refl
any-or (suc n) f g = ap (λ (k : Bool). k || (f n || g n)) (any-or n f g) ∙ or_four (any n f) (any n g) (f n) (g n)
