-- The search for the best target (specs/Best), on any day.
--     size s                  how far the bounds are apart
--     seek-plan, seek-refusal, seek-met    one run of the search, and its end
--     seek-enough             more runs than the size of the search change nothing
--     seek-induction          what every run keeps holds at the end
--     bounds_meet             at the end the two bounds are the same
--     best_planned            where the start gives a plan, so does the target found
--     refused_below           the target one below is refused
--     tried_within            no target above the start is run
--     tried_more              runs are added to the targets run
--     few_more, few_runs      the search halves: from a start of 30 bits at most 31 targets are run
--     best_read               sheets that are read alike have the same reply
--     own_target_ignored      the day's own target makes no difference
use Prim.Native.Nat.{ℕ, zero, suc, ◌+◌, ◌-◌, ◌^◌, ◌≤◌, ◌<◌}
use native.Mathlib.Omega.{arith}
use mathlib.Core.Path.{◌≡◌, refl, sym, ap, ◌∙◌}
use mathlib.Core.Logic.{inl, inr}
use mathlib.Core.Bool.{true, false}
use mathlib.Core.List.{List, ◌∷◌}
use lib.ListN.{length, get_or}
use lib.Dec.{ltb}
use borrow.Author.Tests.{ltb-true, ltb-false, lt-ltb, le-ltb}
use Rattle.bools.proofs.BoolLaws.{split}
use Rattle.frame.specs.Reading.{read_sheet}
use Rattle.day.specs.Day.{Day, with_target, start_target}
use Rattle.answers.specs.BestAnswers.{best_reply}
use Rattle.algorithm.specs.Answer.{answer_to}
use Rattle.algorithm.specs.Best.{gives_plan, Search, middle, after_plan, after_refusal, seek, at_start, searched}
use Rattle.algorithm.specs.Best.{best_target, targets_run, best_to, best_for}

abbrev pub size : Search → ℕ
size s = s.high - s.low

-- ── one run, and the end ──

module _ (d : Day) (s : Search) where
  pub seek-plan : (k : ℕ) → s.low < s.high → gives_plan d (middle s) ≡ true
      → seek (suc k) d s ≡ seek k d (after_plan s)
  unfolding seek
  seek-plan k l gives = rw (lt-ltb s.low s.high l, gives, seek)

  pub seek-refusal : (k : ℕ) → s.low < s.high → gives_plan d (middle s) ≡ false
      → seek (suc k) d s ≡ seek k d (after_refusal s)
  unfolding seek
  seek-refusal k l refuses = rw (lt-ltb s.low s.high l, refuses, seek)

  pub seek-met : (k : ℕ) → s.high ≤ s.low → seek k d s ≡ s
  unfolding seek
  seek-met zero met = refl
  seek-met (suc k) met = rw (le-ltb s.low s.high met, seek)

-- As many runs as there may be, or more.
seek-fuel : (k m : ℕ) (d : Day) (s : Search) → size s ≤ k → size s ≤ m → seek k d s ≡ seek m d s
seek-fuel zero m d s few enough = seek-met d s zero (omega arith) ∙ sym (seek-met d s m (omega arith))
seek-fuel (suc k) zero d s few enough = seek-met d s (suc k) (omega arith) ∙ sym (seek-met d s zero (omega arith))
seek-fuel (suc k) (suc m) d s few enough = elim (split (ltb s.low s.high)) [
  | inl apart ↦
      let l = ltb-true s.low s.high apart in
      elim (split (gives_plan d (middle s))) [
        | inl p ↦
            seek-plan d s k l p ∙ seek-fuel k m d (after_plan s) (omega arith) (omega arith)
            ∙ sym (seek-plan d s m l p)
        | inr p ↦
            seek-refusal d s k l p ∙ seek-fuel k m d (after_refusal s) (omega arith) (omega arith)
            ∙ sym (seek-refusal d s m l p)
      ]
  | inr met ↦
      let l = ltb-false s.low s.high met in
      seek-met d s (suc k) l ∙ sym (seek-met d s (suc m) l)
]

pub seek-enough : (k : ℕ) (d : Day) (s : Search) → size s ≤ k → seek k d s ≡ seek (size s) d s
seek-enough k d s enough = seek-fuel k (size s) d s enough (omega arith)

-- ── what every run keeps ──

pub seek-induction : (d : Day) (P : Search → Type 0)
    → ((s : Search) → s.low < s.high → gives_plan d (middle s) ≡ true → P s → P (after_plan s))
    → ((s : Search) → s.low < s.high → gives_plan d (middle s) ≡ false → P s → P (after_refusal s))
    → (k : ℕ) (s : Search) → P s → P (seek k d s)
unfolding seek
seek-induction d P plan refusal zero s p = p
seek-induction d P plan refusal (suc k) s p = elim (split (ltb s.low s.high)) [
  | inl apart ↦
      let l = ltb-true s.low s.high apart in
      elim (split (gives_plan d (middle s))) [
        | inl g ↦
            rw (seek-plan d s k l g) (seek-induction d P plan refusal k (after_plan s) (plan s l g p))
        | inr g ↦
            rw (seek-refusal d s k l g) (seek-induction d P plan refusal k (after_refusal s) (refusal s l g p))
      ]
  | inr met ↦ rw (seek-met d s (suc k) (ltb-false s.low s.high met)) p
]

pub tried_more : (d : Day) (k : ℕ) (s : Search) → length s.tried ≤ length (seek k d s).tried
tried_more d k s =
    seek-induction d (λ x. length s.tried ≤ length x.tried)
    (λ x l g p. omega arith) (λ x l g p. omega arith) k s (omega arith)

-- Every run leaves at most half of what lies between the bounds.
pub few_more : (m k : ℕ) (d : Day) (s : Search) → size s < 2 ^ m
    → length (seek k d s).tried ≤ length s.tried + m
unfolding seek
few_more m zero d s small = omega arith
few_more zero (suc k) d s small = rw (seek-met d s (suc k) (omega arith)) (omega arith)
few_more (suc m) (suc k) d s small = elim (split (ltb s.low s.high)) [
  | inl apart ↦
      let l = ltb-true s.low s.high apart in
      elim (split (gives_plan d (middle s))) [
        | inl g ↦ rw (seek-plan d s k l g) (omega (arith, few_more m k d (after_plan s) (omega arith)))
        | inr g ↦ rw (seek-refusal d s k l g) (omega (arith, few_more m k d (after_refusal s) (omega arith)))
      ]
  | inr met ↦ rw (seek-met d s (suc k) (ltb-false s.low s.high met)) (omega arith)
]

-- ── the end of the search ──

-- The bounds never pass each other, and nothing is above the start.
record Within (d : Day) (s : Search) : Type 0 where
  in_order : s.low ≤ s.high
  from_start : s.high ≤ start_target d
  each : (i : ℕ) → i < length s.tried → get_or s.tried i 0 ≤ start_target d

module _ (d : Day) where
  at_end : (P : Search → Type 0)
      → ((s : Search) → s.low < s.high → gives_plan d (middle s) ≡ true → P s → P (after_plan s))
      → ((s : Search) → s.low < s.high → gives_plan d (middle s) ≡ false → P s → P (after_refusal s))
      → P (at_start d) → P (searched d)
  unfolding searched
  at_end P plan refusal first = seek-induction d P plan refusal (start_target d) (at_start d) first

  within : Within d (searched d)
  within =
      at_end (Within d)
      (λ s l g w. record { in_order = omega arith; from_start = omega (arith, w.from_start); each = more s l w })
      (λ s l g w. record { in_order = omega arith; from_start = w.from_start; each = more s l w })
      (record { in_order = omega arith; from_start = omega arith; each = alone })
    where
      more : (s : Search) → s.low < s.high → Within d s → (i : ℕ) → i < suc (length s.tried)
          → get_or (middle s ∷ s.tried) i 0 ≤ start_target d
      more s l w zero b = omega (arith, w.from_start)
      more s l w (suc i) b = w.each i (omega arith)

      alone : (i : ℕ) → i < 1 → get_or (at_start d).tried i 0 ≤ start_target d
      alone zero b = omega arith
      alone (suc i) b = absurd (omega arith)

  meets : (k : ℕ) (s : Search) → size s ≤ k → (seek k d s).high ≤ (seek k d s).low
  unfolding seek
  meets zero s enough = omega arith
  meets (suc k) s enough = elim (split (ltb s.low s.high)) [
    | inl apart ↦
        let l = ltb-true s.low s.high apart in
        elim (split (gives_plan d (middle s))) [
          | inl g ↦ rw (seek-plan d s k l g) (meets k (after_plan s) (omega arith))
          | inr g ↦ rw (seek-refusal d s k l g) (meets k (after_refusal s) (omega arith))
        ]
    | inr met ↦
        rw (seek-met d s (suc k) (ltb-false s.low s.high met)) (ltb-false s.low s.high met)
  ]

  pub bounds_meet : (searched d).low ≡ best_target d
  unfolding searched
  bounds_meet = omega (arith, within.in_order, meets (start_target d) (at_start d) (omega arith))

  pub best_planned : gives_plan d (start_target d) ≡ true → gives_plan d (best_target d) ≡ true
  best_planned first =
      at_end (λ s. gives_plan d s.high ≡ true) (λ s l g p. g) (λ s l g p. p) first

  -- Below low every target known to be refused; the last of them is one below.
  refused_low : (t : ℕ) → suc t ≡ (searched d).low → gives_plan d t ≡ false
  refused_low =
      at_end (λ s. (t : ℕ) → suc t ≡ s.low → gives_plan d t ≡ false)
      (λ s l g p. p)
      (λ s l g p t e. let same : t ≡ middle s = omega arith in rw same g)
      (λ t e. absurd (omega arith))

  pub refused_below : (t : ℕ) → suc t ≡ best_target d → gives_plan d t ≡ false
  refused_below t e = refused_low t (e ∙ sym bounds_meet)

  pub best_within : best_target d ≤ start_target d
  best_within = within.from_start

  pub tried_within : (i : ℕ) → i < targets_run d → get_or (searched d).tried i 0 ≤ start_target d
  tried_within = within.each

  pub some_run : 1 ≤ targets_run d
  unfolding searched
  some_run = tried_more d (start_target d) (at_start d)

  pub few_runs : start_target d < 2 ^ 30 → targets_run d ≤ 31
  unfolding searched
  few_runs small = few_more 30 (start_target d) d (at_start d) (omega arith)

-- ── what makes no difference ──

same_verdict : (d : Day) (t u : ℕ) → gives_plan (with_target d t) u ≡ gives_plan d u
unfolding gives_plan
same_verdict d t u = refl

seek-target : (t k : ℕ) (d : Day) (s : Search) → seek k (with_target d t) s ≡ seek k d s
unfolding seek
seek-target t zero d s = refl
seek-target t (suc k) d s = elim (split (ltb s.low s.high)) [
  | inl apart ↦
      let l = ltb-true s.low s.high apart in
      elim (split (gives_plan d (middle s))) [
        | inl g ↦
            seek-plan (with_target d t) s k l (same_verdict d t (middle s) ∙ g)
            ∙ seek-target t k d (after_plan s) ∙ sym (seek-plan d s k l g)
        | inr g ↦
            seek-refusal (with_target d t) s k l (same_verdict d t (middle s) ∙ g)
            ∙ seek-target t k d (after_refusal s) ∙ sym (seek-refusal d s k l g)
      ]
  | inr met ↦
      let l = ltb-false s.low s.high met in
      seek-met (with_target d t) s (suc k) l ∙ sym (seek-met d s (suc k) l)
]

pub own_target_ignored : (d : Day) (t : ℕ) → best_to (with_target d t) ≡ best_to d
unfolding searched
own_target_ignored d t =
    ap (λ (s : Search). best_reply s.high (length s.tried) (answer_to (with_target d s.high)))
    (seek-target t (start_target d) d (at_start d))

pub best_read : (s s' : List ℕ) (np nl : ℕ) → read_sheet s ≡ read_sheet s' → best_for s np nl ≡ best_for s' np nl
unfolding best_for
best_read s s' np nl e = rw (e, best_for)
