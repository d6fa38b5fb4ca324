-- A page of 65 sets has a fault, and later sets do not matter: there are 64 benches, and sets without a fault have each
-- a bench of its own.
--     crowded           among the first 65 sets one has a fault
--     few_sets          a page without a fault has at most 64 sets
--     verdict_enough    so their fault is the page's
--     page_enough       the first 65 sets of a page are enough
use Prim.Native.Nat.{ℕ, ◌≤◌, ◌<◌}
use mathlib.Core.Path.{◌≡◌, refl, sym, ap, ap₂, subst, ◌∙◌}
use mathlib.Core.Bool.{Bool, true}
use mathlib.Core.Logic.{inl, inr}
use mathlib.Core.List.{List}
use native.Mathlib.Omega.{arith}
use lib.ListN.{length, take, length-take}
use lib.Seq.{get_or-take, take_all}
use borrow.Author.Tests.{lt-ltb}
use Rattle.bools.proofs.BoolLaws.{clash}
use Rattle.bools.proofs.OrderLaws.{lt-or-le}
use Rattle.sums.specs.Sum.{count}
use Rattle.sums.specs.Search.{least}
use Rattle.sums.proofs.CountLaws.{count-all, pigeonhole}
use Rattle.sums.proofs.SearchLaws.{any_intro, any_cong, any-least, least-holds, least-before, least-found}
use Rattle.fields.specs.Tests.{Verdict}
use Rattle.std.specs.Prelude.{Ok, Err}
use Rattle.frame.specs.Reading.{read_sheet}
use Rattle.frame.proofs.Stored.{read_cases}
use Rattle.day.specs.Day.{Day, day_of}
use Rattle.answers.specs.declared.check.PageAnswer.{PageAnswer}
use Rattle.page_faults.specs.PageFaults.{set_at, unfit, overlap, shares_earlier, set_verdict, verdict_at, is_fault}
use Rattle.page_faults.specs.PageFaults.{first_faulty, page_verdict}
use Rattle.page_check.specs.PageCheck.{after_faults, page_answer, check_page}
use Rattle.page_check.specs.PageClaim.{on_page, Faultless}
use Rattle.page_check.proofs.FaultFacts.{bench_small, none_faultless}
use Rattle.page_check.proofs.PageLaws.{refused_fault, answer_is}

module _ (benches : ℕ) (page : List ℕ) where
  abbrev faulty : ℕ → Bool
  faulty i = is_fault (verdict_at benches page i)

  -- Each set has a lowest bench, one of 64, so two of 65 sets have the same.
  pub crowded : Faultless benches page 65 → ⊥
  crowded F =
      let small : (i : ℕ) → i < 65 → least 64 (on_page page i) < 64 = λ i l.
      (let (v, p) = (F.each_proper i l).some_bench in
      any-least 64 (on_page page i) (any_intro 64 (on_page page i) v (bench_small (set_at page i) v p) p)) in
      let less : count 64 (λ v. true) < count 65 (λ i. true) =
      omega (arith, count-all 64 (λ v. true) (λ v l. refl), count-all 65 (λ i. true) (λ i l. refl)) in
      let (i, k, before, l, x, y, same) =
      pigeonhole 65 64 (λ i. true) (λ v. true) (λ i. least 64 (on_page page i)) (λ i l p. small i l) (λ i l p. refl)
      less in
      F.none_shared i k before l (least 64 (on_page page i))
      (least-holds 64 (on_page page i) (small i (omega arith)))
      (subst (λ (v : ℕ). on_page page k v ≡ true) (sym same) (least-holds 64 (on_page page k) (small k l)))

  pub few_sets : Faultless benches page (length page) → length page ≤ 64
  few_sets F = elim (lt-or-le (length page) 65) [
    | inl few ↦ omega arith
    | inr many ↦
        absurd (crowded (record {
          each_proper = λ i l. F.each_proper i (omega arith);
          none_shared = λ i k before l. F.none_shared i k before (omega arith);
        }))
  ]

  module _ (many : 65 ≤ length page) where
    abbrev first : ℕ
    first = first_faulty benches page

    first_small : first < 65
    unfolding first_faulty
    first_small = elim (lt-or-le first 65) [
      | inl l ↦ l
      | inr far ↦
          absurd (crowded (none_faultless benches page 65 (λ i l. least-before (length page) faulty i (omega arith))))
    ]

    abbrev front : List ℕ
    front = take 65 page

    front_length : length front ≡ 65
    front_length = omega (arith, length-take 65 page)

    set_same : (i : ℕ) → i < 65 → set_at front i ≡ set_at page i
    set_same i l = get_or-take 65 page i 0 l

    shares_same : (i : ℕ) → i < 65 → shares_earlier front i ≡ shares_earlier page i
    unfolding shares_earlier
    shares_same i l =
        any_cong i (λ k. overlap (set_at front k) (set_at front i)) (λ k. overlap (set_at page k) (set_at page i))
        (λ k before. ap₂ overlap (set_same k (omega arith)) (set_same i l))

    same_verdict : (i : ℕ) → i < 65 → verdict_at benches front i ≡ verdict_at benches page i
    same_verdict i l =
        ap₂ (λ (set : ℕ) (shared : Bool). set_verdict (unfit benches set) shared i) (set_same i l) (shares_same i l)

    first-faulty : faulty first ≡ true
    unfolding first_faulty
    first-faulty = least-holds (length page) faulty (omega (arith, first_small))

    first-same : first_faulty benches front ≡ first
    unfolding first_faulty
    first-same =
        least-found (length front) (λ i. is_fault (verdict_at benches front i)) first
        (omega (arith, first_small, front_length)) (ap is_fault (same_verdict first first_small) ∙ first-faulty)
        (λ k before.
        ap is_fault (same_verdict k (omega (arith, first_small)))
        ∙ least-before (length page) faulty k before)

    page_is : page_verdict benches page ≡ verdict_at benches page first
    unfolding page_verdict
    page_is = rw (lt-ltb first (length page) (omega (arith, first_small))) refl

    front-is : page_verdict benches front ≡ verdict_at benches page first
    unfolding page_verdict
    front-is =
        rw (first-same, lt-ltb first (length front) (omega (arith, first_small, front_length)))
        (same_verdict first first_small)

    pub verdict_enough : (page_verdict benches front ≡ page_verdict benches page)
        × (is_fault (page_verdict benches page) ≡ true)
    verdict_enough = (front-is ∙ sym page_is, ap is_fault page_is ∙ first-faulty)

-- Behind a fault nothing matters.
after_fault : (v w : Verdict) (x y : PageAnswer) → v ≡ w → is_fault w ≡ true → after_faults v x ≡ after_faults w y
after_fault v (Ok _) x y e p = clash p refl
after_fault v (Err f) x y e p = rw e refl

answer_enough : (d : Day) (page : List ℕ) → page_answer d (take 65 page) ≡ page_answer d page
answer_enough d page = elim (lt-or-le (length page) 65) [
  | inl few ↦ ap (page_answer d) (take_all 65 page (omega arith))
  | inr many ↦
      let (same, fault) = verdict_enough d.benches page many in
      after_fault (page_verdict d.benches (take 65 page)) (page_verdict d.benches page) _ _ same fault
]

pub page_enough : (s page : List ℕ) → check_page s (take 65 page) ≡ check_page s page
page_enough s page = elim (read_cases (read_sheet s)) [
  | inl (f, e) ↦ refused_fault s (take 65 page) f e ∙ sym (refused_fault s page f e)
  | inr (c, e) ↦
      answer_is s (take 65 page) c e ∙ answer_enough (day_of c) page ∙ sym (answer_is s page c e)
]
