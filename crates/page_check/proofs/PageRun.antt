-- The check of a page follows its definition.
--     fit_of_the_day    a set that number 17 does not hold of is as the weighing asks for it
--     weighs_set        what the weighing asks of a sheet does not depend on the set
--     Passing d page i  the first i sets of the page are blocking
--     none_yet, one_more, open_found, all_blocking      the sets are judged one after another
--     by_fault, by_long, by_none      what is answered before a set is judged
--     early             an answer before a set is judged is the answer
--     nothing_found     else there is no fault, and no job is too long
--     none-unfit        and number 17 holds of no set
--     answer_open, answer_passed      and the page is judged
--     refused_is, accepted_is         the answer for the bytes
use Prim.Native.Nat.{ℕ, zero, suc, ◌+◌, ◌≤◌, ◌<◌, ◌^◌}
use mathlib.Core.Path.{◌≡◌, refl, sym, ap, ◌∙◌}
use mathlib.Core.Bool.{Bool, true, false, not, cond}
use mathlib.Core.Logic.{inl, inr}
use mathlib.Core.List.{List}
use native.Mathlib.Omega.{arith}
use native.Mathlib.Numerals.{unary_clauses}
use denote.Enum.Declared.{tag_of}
use lib.Dec.{ltb}
use lib.ListN.{length, get_or}
use borrow.Author.Tests.{lt-ltb, le-ltb}
use Rattle.bools.proofs.BoolLaws.{clash, not-false, not_intro_false}
use Rattle.bools.proofs.BoolLaws.{or-false_left, or-false_right}
use Rattle.bools.proofs.OrderLaws.{last_or_below}
use Rattle.bits.specs.Bits.{is_set}
use Rattle.bits.proofs.SetBits.{is_set-zero}
use Rattle.sums.specs.Search.{any, least}
use Rattle.sums.proofs.SearchLaws.{any_false, least-found, least-none}
use Rattle.fields.specs.Contents.{Contents}
use Rattle.fields.specs.declared.sheet.Sheet.{Sheet}
use Rattle.fields.specs.declared.fault.Fault.{Fault}
use Rattle.fields.specs.Tests.{Verdict}
use Rattle.std.specs.Prelude.{Result, Ok, Err, Option, Some, None}
use Rattle.rocks.specs.RockArrays.{first}
use Rattle.rocks.proofs.FirstLaws.{first-some, first-none}
use Rattle.frame.specs.Reading.{accepted, read_sheet, stored, sheet_of}
use Rattle.frame.proofs.Stored.{verdict_refused, verdict_accepted}
use Rattle.day.specs.Day.{Day, day_of, long_job}
use Rattle.answers.specs.contracts.check.PageAnswer.{the_type}
use Rattle.answers.specs.declared.answer.LongAnswer.{LongAnswer}
use Rattle.answers.specs.declared.check.PageAnswer.{PageAnswer}
use Rattle.answers.specs.declared.check.PageAnswer.TheVariants.{Passed, Long, NotPassed, Fault as Faulty}
use Rattle.start.specs.StartArrays.{Fields}
use Rattle.start.proofs.StartRun.{long_job_is}
use Rattle.placements.specs.LeastWeight.{blocks}
use Rattle.placing.specs.declared.classes.Bay.{Bay}
use Rattle.weighing.specs.Weights.{Weighs, OfTheDay}
use Rattle.set_check.specs.SetCheck.{foreign_in}
use Rattle.set_check.proofs.CheckRun.{head_only, found_some, found_none}
use Rattle.page_faults.specs.PageFaults.{set_at, unfit}
use Rattle.page_faults.specs.PageFaults.{page_verdict}
use Rattle.page_check.proofs.FaultFacts.{proper_fit, none_page}
use Rattle.page_check.specs.PageCheck.{NoneUnfit, first_open, open_set, after_faults, first_answer, page_answer, check_page}

-- ── one set ──

pub fit_of_the_day : (d : Day) (set : ℕ) → set < 2 ^ 64 → unfit d.benches set ≡ false → OfTheDay d set
unfolding unfit
fit_of_the_day d set small fit =
    let some = not-false (any 64 (is_set 64 set))
    (or-false_left (not (any 64 (is_set 64 set))) (ltb (foreign_in d.benches set) 64) fit) in
    record {
      some_bench = some-bit set some;
      of_64_bits = small;
      of_the_head = head_only d.benches set
          (or-false_right (not (any 64 (is_set 64 set))) (ltb (foreign_in d.benches set) 64) fit);
    }
  where
    some-bit : (n : ℕ) → any 64 (is_set 64 n) ≡ true → 0 < n
    some-bit zero p = clash p (any_false 64 (is_set 64 0) (λ v l. is_set-zero 64 v))
    some-bit (suc n) p = omega arith

pub weighs_set : {d : Day} {bay : Bay} {jobs : ℕ} {minutes allowed booked : List ℕ}
    → Weighs d bay jobs minutes allowed booked → (set : ℕ)
    → Weighs d (record { benches = bay.benches; p = bay.p; q = bay.q; target = bay.target; set = set })
    jobs minutes allowed booked
weighs_set W set =
    record {
      holds = record {
        sound = W.holds.sound;
        fields = W.holds.fields;
        benches_are = W.holds.benches_are;
        p_is = W.holds.p_is;
        q_is = W.holds.q_is;
        target_is = W.holds.target_is;
      };
      bookings = W.bookings;
    }

-- ── set by set ──

module _ (d : Day) (page : List ℕ) where
  abbrev blocking_at : ℕ → Bool
  blocking_at i = blocks d (is_set 64 (set_at page i))

  abbrev pub Passing : ℕ → Type 0
  Passing i = (k : ℕ) → k < i → blocking_at k ≡ true

  pub none_yet : Passing 0
  none_yet k l = absurd (omega arith)

  module _ (i : ℕ) (P : Passing i) where
    pub one_more : {t : Bool} → t ≡ blocking_at i → t ≡ true → Passing (i + 1)
    one_more {t} e p = simp unary_clauses (λ (k : ℕ) l. elim (last_or_below l) [
      | inl same ↦ ap blocking_at same ∙ sym e ∙ p
      | inr before ↦ P k before
    ])

    pub open_found : i < length page → {t : Bool} → t ≡ blocking_at i → t ≡ false → Some i ≡ open_set d page
    unfolding first_open
    open_found l e p =
        let first : first_open d page ≡ i =
        least-found (length page) (λ k. not (blocking_at k)) i l (ap not (sym e ∙ p))
        (λ k before. not_intro_false (P k before)) in
        rw (first, lt-ltb i (length page) l) refl

    pub all_blocking : length page ≤ i → None ≡ open_set d page
    unfolding first_open
    all_blocking l =
        let none : first_open d page ≡ length page =
        least-none (length page) (λ k. not (blocking_at k)) (λ k below. not_intro_false (P k (omega arith))) in
        rw (none, le-ltb (length page) (length page) (omega arith)) refl

-- ── before a set is judged ──

module _ (d : Day) (page : List ℕ) {benches : ℕ} (same : benches ≡ d.benches) {verdict : Verdict}
    (found : verdict ≡ page_verdict benches page) where
  verdict_is : verdict ≡ page_verdict d.benches page
  verdict_is = found ∙ ap (λ (n : ℕ). page_verdict n page) same

  pub by_fault : {f : Fault} → verdict ≡ Err f → Faulty f ≡ first_answer d page
  by_fault e = rw (sym verdict_is ∙ e) refl

  module _ (none : verdict ≡ Ok tt) (jobs : ℕ) (minutes allowed : List ℕ) (F : Fields d jobs minutes allowed)
      {long : Option ℕ} {target : ℕ} (here : target ≡ d.target)
      (f : long ≡ first jobs (λ j. ltb target (get_or minutes j 0))) where
    long_is : least jobs (λ j. ltb target (get_or minutes j 0)) ≡ long_job d
    long_is =
        ap (λ (t : ℕ). least jobs (λ j. ltb t (get_or minutes j 0))) here ∙ long_job_is d jobs minutes allowed F

    pub by_long : {j : ℕ} → long ≡ Some j → Long (record { job = j }) ≡ first_answer d page
    by_long p =
        let (is, below) = first-some jobs (λ j. ltb target (get_or minutes j 0)) f p in
        let there : long_job d < d.jobs = omega (arith, is, below, long_is, F.jobs_are) in
        rw (sym verdict_is ∙ none, is, long_is, lt-ltb (long_job d) d.jobs there) refl

    pub by_none : long ≡ None → Passed ≡ first_answer d page
    by_none p =
        let above = first-none jobs (λ j. ltb target (get_or minutes j 0)) f p in
        let there : d.jobs ≤ long_job d = omega (arith, above, long_is, F.jobs_are) in
        rw (sym verdict_is ∙ none, le-ltb (long_job d) d.jobs there) refl

-- ── whether the page is judged ──

abbrev pub tag : PageAnswer → ℕ
tag r = tag_of the_type r

early_by : (v : Verdict) (l : Bool) (j : LongAnswer) (rest r : PageAnswer)
    → r ≡ after_faults v (cond l (Long j) Passed) → (r ≡ Passed → ⊥)
    → r ≡ after_faults v (cond l (Long j) rest)
early_by (Err f) l j rest r e n = e
early_by (Ok _) true j rest r e n = e
early_by (Ok _) false j rest r e n = absurd (n e)

judged_by : (v : Verdict) (l : Bool) (j : LongAnswer) → after_faults v (cond l (Long j) Passed) ≡ Passed
    → (v ≡ Ok tt) × (l ≡ false)
judged_by (Err f) l j e = absurd (cc)
judged_by (Ok _) true j e = absurd (cc)
judged_by (Ok _) false j e = (refl, refl)

module _ (d : Day) (page : List ℕ) where
  abbrev judgement : PageAnswer
  judgement = cond (ltb (first_open d page) (length page)) (NotPassed (first_open d page)) Passed

  pub early : (r : PageAnswer) → r ≡ first_answer d page → (r ≡ Passed → ⊥) → r ≡ page_answer d page
  early r e n =
      early_by (page_verdict d.benches page) (ltb (long_job d) d.jobs) (record { job = long_job d }) judgement r e n

  module _ (open-yet : Passed ≡ first_answer d page) where
    pub nothing_found : (page_verdict d.benches page ≡ Ok tt) × (ltb (long_job d) d.jobs ≡ false)
    nothing_found =
        judged_by (page_verdict d.benches page) (ltb (long_job d) d.jobs) (record { job = long_job d })
        (sym open-yet)

    pub none-unfit : NoneUnfit d page
    none-unfit i l =
        let (v, long) = nothing_found in
        proper_fit d.benches (set_at page i) ((none_page d.benches page v).each_proper i l)

    judged_is : page_answer d page ≡ judgement
    judged_is = let (v, l) = nothing_found in rw (v, l) refl

    pub answer_open : {x : Option ℕ} {i : ℕ} → x ≡ open_set d page → x ≡ Some i → NotPassed i ≡ page_answer d page
    answer_open e p =
        let (is, below) = found_some (first_open d page) (length page) (sym e ∙ p) in rw (is, judged_is, below) refl

    pub answer_passed : {x : Option ℕ} → x ≡ open_set d page → x ≡ None → Passed ≡ page_answer d page
    answer_passed e p = rw (judged_is, found_none (first_open d page) (length page) (sym e ∙ p)) refl

-- ── the bytes ──

module _ (s page : List ℕ) where
  pub refused_is : {x : Result Sheet Fault} {f : Fault} → x ≡ stored (read_sheet s) → x ≡ Err f
      → Faulty f ≡ check_page s page
  unfolding check_page
  refused_is e a = rw (verdict_refused (read_sheet s) e a, check_page)

  pub accepted_is : {x : Result Sheet Fault} (sheet : Sheet) {r : PageAnswer} → x ≡ stored (read_sheet s) → x ≡ Ok sheet
      → ((bytes : List ℕ) → (c : Contents) → read_sheet bytes ≡ accepted c → sheet ≡ sheet_of c
      → r ≡ page_answer (day_of c) page)
      → r ≡ check_page s page
  unfolding check_page
  accepted_is sheet e a told =
      let (c, read, same) = verdict_accepted (read_sheet s) e a in
      rw (read, check_page) (told s c read same)
