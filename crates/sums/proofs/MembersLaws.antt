-- Laws of members n f, the indices below n that f holds of, rising. Element i is read with any default d.
--     members-snoc-true, members-snoc-false   members (suc n) f is members n f, with n at its end where f n is true
--     members_cong            functions equal below n have the same members
--     length-members          there are count n f members
--     member_early            the places of members n f hold the same in members (suc n) f
--     member_last             and the place after them holds n, where f n is true
--     member_below            a member is below n
--     member_holds            f holds of a member
--     members-rise            a later member is greater
--     members-rise_back       a greater member is later
--     member_index            an index below n that f holds of is a member
--     sum-members             the sum over the indices below n that f holds of is the sum over the members
--     any-members             f and g hold of some index below n: g holds of some member
--     all-members             g holds of every index below n that f holds of: g holds of every member
--     count-members           as many indices below n have f and g as members have g
--     least-members-at        the least index with f and g is member i, if g holds of member i and of none before it
--     least-members-found     it is the first member that g holds of, if there is one
--     least-members-none      it is n, if g holds of no member
use Prim.Native.Nat.{ℕ, zero, suc, ◌+◌, ◌<◌}
use mathlib.Core.Bool.{Bool, true, false, not, ◌&&◌, ◌||◌, cond}
use mathlib.Core.List.{[], ◌∷◌, ◌++◌, append-nil}
use mathlib.Core.Path.{◌≡◌, refl, sym, ◌∙◌, ap}
use mathlib.Core.Logic.{◌⊎◌, inl, inr}
use native.Mathlib.Nat.{add-zero}
use native.Mathlib.Numerals.{add-one}
use native.Mathlib.Omega.{arith}
use lib.ListN.{length, get_or, length-append, get_or-append}
use lib.Seq.{get_or_at}
use Rattle.bools.proofs.BoolLaws.{split, and_intro, and_left, and_right, and-false_left, and-false_right, or_left, or_right, not_intro_true, bool_ext}
use Rattle.bools.proofs.OrderLaws.{lt-or-le, last_or_below}
use Rattle.sums.specs.Sum.{on, sum, count}
use Rattle.sums.specs.Search.{any, all, least}
use Rattle.sums.specs.Members.{members}
use Rattle.sums.proofs.SearchLaws.{least-found, least-none, least-holds, least-before, any_intro, any_elim, all_intro, all_elim}
use Rattle.sums.proofs.SumLaws.{on_and, sum_cong}

-- ── one index more ──

pub members-snoc-true : (n : ℕ) (f : ℕ → Bool) → f n ≡ true → members (suc n) f ≡ members n f ++ (n ∷ [])
unfolding members
members-snoc-true n f p = rw p

pub members-snoc-false : (n : ℕ) (f : ℕ → Bool) → f n ≡ false → members (suc n) f ≡ members n f
unfolding members
members-snoc-false n f p = rw p (append-nil (members n f))

pub members_cong : (n : ℕ) (f g : ℕ → Bool) → ((i : ℕ) → i < n → f i ≡ g i) → members n f ≡ members n g
unfolding members
members_cong zero f g e = refl
members_cong (suc n) f g e = rw (members_cong n f g (λ i h. e i (omega arith)), e n (omega arith))

length-cond : (b : Bool) (n : ℕ) → length (cond b (n ∷ []) []) ≡ on b 1
length-cond true n = refl
length-cond false n = refl

pub length-members : (n : ℕ) (f : ℕ → Bool) → length (members n f) ≡ count n f
unfolding members
length-members zero f = refl
length-members (suc n) f = rw (length-append, length-members n f, length-cond)

pub member_early : (n : ℕ) (f : ℕ → Bool) (i d : ℕ) → i < count n f → get_or (members (suc n) f) i d ≡ get_or (members n f) i d
unfolding members
member_early n f i d h = get_or-append (members n f) (cond (f n) (n ∷ []) []) d i (omega (arith, length-members n f))

pub member_last : (n : ℕ) (f : ℕ → Bool) (d : ℕ) → f n ≡ true → get_or (members (suc n) f) (count n f) d ≡ n
member_last n f d p = rw (members-snoc-true n f p) (get_or_at (members n f) n [] d (count n f) (length-members n f))

-- A place of members (suc n) f is one of members n f, or is the last, where f n is true.
place : (n : ℕ) (f : ℕ → Bool) (i : ℕ) → i < count (suc n) f → (i < count n f) ⊎ ((i ≡ count n f) × (f n ≡ true))
place n f i h = elim (split (f n)) [
  | inl p ↦ let one : on (f n) 1 ≡ 1 = rw p in elim (lt-or-le i (count n f)) [ inl l ↦ inl l | inr l ↦ inr (omega arith, p) ]
  | inr p ↦ let none : on (f n) 1 ≡ 0 = rw p in inl (omega arith)
]

-- ── the members ──

pub member_below : (n : ℕ) (f : ℕ → Bool) (i d : ℕ) → i < count n f → get_or (members n f) i d < n
member_below zero f i d h = absurd (omega arith)
member_below (suc n) f i d h = elim (place n f i h) [
  | inl l ↦ omega (arith, member_early n f i d l, member_below n f i d l)
  | inr (e, p) ↦ rw e (omega (arith, member_last n f d p))
]

pub member_holds : (n : ℕ) (f : ℕ → Bool) (i d : ℕ) → i < count n f → f (get_or (members n f) i d) ≡ true
member_holds zero f i d h = absurd (omega arith)
member_holds (suc n) f i d h = elim (place n f i h) [
  | inl l ↦ rw (member_early n f i d l) (member_holds n f i d l)
  | inr (e, p) ↦ rw (e, member_last n f d p) p
]

pub members-rise : (n : ℕ) (f : ℕ → Bool) (i j d : ℕ) → i < j → j < count n f → get_or (members n f) i d < get_or (members n f) j d
members-rise zero f i j d l h = absurd (omega arith)
members-rise (suc n) f i j d l h = elim (place n f j h) [
  | inl t ↦ rw (member_early n f i d (omega arith), member_early n f j d t) (members-rise n f i j d l t)
  | inr (e, p) ↦ rw (e, member_last n f d p, member_early n f i d (omega arith)) (member_below n f i d (omega arith))
]

pub members-rise_back : (n : ℕ) (f : ℕ → Bool) (i j d : ℕ) → i < count n f → get_or (members n f) i d < get_or (members n f) j d → i < j
members-rise_back n f i j d h l = elim (lt-or-le i j) [
  | inl t ↦ t
  | inr t ↦ elim (last_or_below {i = j} {n = i} (omega arith)) [
    | inl e ↦ absurd (omega (arith, ap (λ (k : ℕ). get_or (members n f) k d) e))
    | inr less ↦ absurd (omega (arith, members-rise n f j i d less h))
  ]
]

pub member_index : (n : ℕ) (f : ℕ → Bool) (d k : ℕ) → k < n → f k ≡ true → (i : ℕ) × (i < count n f) × (get_or (members n f) i d ≡ k)
member_index zero f d k h p = absurd (omega arith)
member_index (suc n) f d k h p = elim (last_or_below h) [
  | inl e ↦ let q : f n ≡ true = rw e at p in
      let one : on (f n) 1 ≡ 1 = rw q in (count n f, omega arith, member_last n f d q ∙ sym e)
  | inr l ↦ let (i, t, q) = member_index n f d k l p in (i, omega arith, member_early n f i d t ∙ q)
]

-- ── sums ──

pub sum-members : (n : ℕ) (f : ℕ → Bool) (w : ℕ → ℕ) (d : ℕ) → sum n (λ k. on (f k) (w k)) ≡ sum (count n f) (λ i. w (get_or (members n f) i d))
sum-members zero f w d = refl
sum-members (suc n) f w d = elim (split (f n)) [
  | inl p ↦ rw (p, add-one, member_last n f d p, sum-members n f w d) (ap (λ (s : ℕ). s + w n)
      (sum_cong (count n f) (λ i. w (get_or (members n f) i d)) (λ i. w (get_or (members (suc n) f) i d)) (λ i l. ap w (sym (member_early n f i d l)))))
  | inr p ↦ rw (members-snoc-false n f p, p) (simp add-zero (sum-members n f w d))
]

-- ── searches and counts ──

module _ (n : ℕ) (f g : ℕ → Bool) (d : ℕ) where
  -- Of an index: f and g hold of it. Of a place: g holds of the member there.
  abbrev both : ℕ → Bool
  both k = f k && g k

  abbrev there : ℕ → Bool
  there i = g (get_or (members n f) i d)

  pub any-members : any n (λ k. f k && g k) ≡ any (count n f) (λ i. g (get_or (members n f) i d))
  any-members = bool_ext (any n both) (any (count n f) there)
      (λ p. let (k, h, q) = any_elim n both p in
      let (i, l, e) = member_index n f d k h (and_left (f k) (g k) q) in any_intro (count n f) there i l (ap g e ∙ and_right (f k) (g k) q))
      (λ p. let (i, l, q) = any_elim (count n f) there p in
      any_intro n both (get_or (members n f) i d) (member_below n f i d l) (and_intro (member_holds n f i d l) q))

  pub all-members : all n (λ k. not (f k) || g k) ≡ all (count n f) (λ i. g (get_or (members n f) i d))
  all-members = bool_ext (all n either) (all (count n f) there)
      (λ p. all_intro (count n f) there (λ i l. rw (member_holds n f i d l) at (all_elim n either p (get_or (members n f) i d) (member_below n f i d l))))
      (λ p. all_intro n either (λ k h. elim (split (f k)) [
        | inl q ↦ let (i, l, e) = member_index n f d k h q in or_right (not (f k)) (ap g (sym e) ∙ all_elim (count n f) there p i l)
        | inr q ↦ or_left (g k) (not_intro_true q)
      ]))
    where
      either : ℕ → Bool
      either k = not (f k) || g k

  pub count-members : count n (λ k. f k && g k) ≡ count (count n f) (λ i. g (get_or (members n f) i d))
  count-members = sum_cong n (λ k. on (f k && g k) 1) (λ k. on (f k) (on (g k) 1)) (λ k h. on_and (f k) (g k) 1)
      ∙ sum-members n f (λ k. on (g k) 1) d

  -- Where f holds of k, k is a member, and g is false of that member.
  not-both : (k : ℕ) → k < n → ((i : ℕ) → i < count n f → get_or (members n f) i d ≡ k → there i ≡ false) → both k ≡ false
  not-both k h q = elim (split (f k)) [
    | inl p ↦ let (i, l, e) = member_index n f d k h p in and-false_right (f k) (ap g (sym e) ∙ q i l e)
    | inr p ↦ and-false_left (g k) p
  ]

  pub least-members-at : (i : ℕ) → i < count n f → g (get_or (members n f) i d) ≡ true → ((j : ℕ) → j < i → g (get_or (members n f) j d) ≡ false)
      → least n (λ k. f k && g k) ≡ get_or (members n f) i d
  least-members-at i h p q = let below = member_below n f i d h in
      least-found n both (get_or (members n f) i d) below (and_intro (member_holds n f i d h) p) (λ k l.
      not-both k (omega arith) (λ j t e. q j (members-rise_back n f j i d t (omega arith))))

  pub least-members-found : least (count n f) (λ i. g (get_or (members n f) i d)) < count n f
      → least n (λ k. f k && g k) ≡ get_or (members n f) (least (count n f) (λ i. g (get_or (members n f) i d))) d
  least-members-found h = least-members-at (least (count n f) there) h (least-holds (count n f) there h) (least-before (count n f) there)

  pub least-members-none : least (count n f) (λ i. g (get_or (members n f) i d)) ≡ count n f → least n (λ k. f k && g k) ≡ n
  least-members-none e = least-none n both (λ k h. not-both k h (λ i l t. least-before (count n f) there i (omega arith)))
