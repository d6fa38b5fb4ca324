-- What the check of a page is worth, from its definition.
--     refused_fault, answer_is      a sheet with a fault; an accepted one
--     fault_is          a fault of the page
--     said              what each answer says: the page has no fault, or which
--     page_claim        the claim holds of the definition
--     promised          so it does of every answer that is equal to it
use Prim.Native.Nat.{ℕ, ◌<◌}
use mathlib.Core.Path.{◌≡◌, refl, sym, ap, subst, ◌∙◌}
use mathlib.Core.Bool.{Bool, true, false, not, cond}
use mathlib.Core.Logic.{inl, inr}
use mathlib.Core.List.{List}
use native.Mathlib.Omega.{arith}
use lib.Dec.{ltb}
use lib.ListN.{length}
use borrow.Author.Tests.{ltb-true, ltb-false}
use Rattle.bools.proofs.BoolLaws.{clash, not-true, not-false}
use Rattle.bools.proofs.OrderLaws.{lt-or-le}
use Rattle.bits.specs.Bits.{is_set}
use Rattle.sums.proofs.SearchLaws.{least-holds, least-before}
use Rattle.sums.proofs.CountLaws.{count-pos_elim}
use Rattle.fields.specs.declared.fault.Fault.{Fault}
use Rattle.fields.specs.Tests.{Verdict}
use Rattle.std.specs.Prelude.{Ok, Err}
use Rattle.fields.specs.Contents.{Contents}
use Rattle.frame.specs.Reading.{accepted, refused, read_sheet}
use Rattle.frame.proofs.AcceptedLaws.{accepted_sound}
use Rattle.day.specs.Day.{Day, day_of, long_job}
use Rattle.demand.specs.Demand.{Assignment, SomeOver, Blocking, LongJob, EachFits, SoundLong}
use Rattle.unions.specs.Unions.{union_of}
use Rattle.unions.proofs.BlockingUnions.{page_blocking}
use Rattle.answers.specs.declared.answer.LongAnswer.{LongAnswer}
use Rattle.answers.specs.declared.check.PageAnswer.{PageAnswer}
use Rattle.answers.specs.declared.check.PageAnswer.TheVariants.{Passed, Long, NotPassed, Fault as Faulty}
use Rattle.algorithm.specs.SoundDay.{AcceptedDay}
use Rattle.algorithm.proofs.SheetDay.{accepted_day, none_long, sound_day}
use Rattle.argument.proofs.LongFound.{long_found}
use Rattle.argument.proofs.Rival.{blocking_overloads, long_overloads}
use Rattle.placements.specs.LeastWeight.{blocks}
use Rattle.placements.proofs.LeastLaws.{blocks-blocking, blocking-blocks}
use Rattle.page_faults.specs.PageFaults.{set_at, page_verdict}
use Rattle.page_check.specs.PageCheck.{first_open, after_faults, page_answer, check_page}
use Rattle.page_check.specs.PageClaim.{on_page, Faultless, JudgedPage}
use Rattle.page_check.specs.PageClaim.{GoodPage, FirstOpen, OneOfThree, it_passed, it_is_long, it_did_not_pass}
use Rattle.page_check.specs.PageClaim.{PageClaim}
use Rattle.page_check.proofs.FaultFacts.{verdict_17, verdict_18, page_fault, page_none, none_page}

module _ (s page : List ℕ) where
  pub refused_fault : (f : Fault) → read_sheet s ≡ refused f → check_page s page ≡ Faulty f
  unfolding check_page
  refused_fault f e = rw (e, check_page)

  -- ── an accepted sheet ──

  module _ (c : Contents) (read : read_sheet s ≡ accepted c) where
    abbrev d : Day
    d = day_of c

    pub answer_is : check_page s page ≡ page_answer d page
    unfolding check_page
    answer_is = rw (read, check_page) refl

    day_ok : AcceptedDay d
    day_ok = accepted_day c (accepted_sound s c read)

    pub fault_is : {f : Fault} → page_verdict d.benches page ≡ Err f → check_page s page ≡ Faulty f
    fault_is e = answer_is ∙ rw e refl

    abbrev is_long : Bool
    is_long = ltb (long_job d) d.jobs

    abbrev is_open : Bool
    is_open = ltb (first_open d page) (length page)

    abbrev NoFault : Type 0
    NoFault = Faultless d.benches page (length page)

    -- What each answer says.
    abbrev Says : PageAnswer → Type 0
    Says Passed = NoFault × EachFits d × ((i : ℕ) → i < length page → Blocking d (on_page page i))
    Says (Long l) = NoFault × SoundLong d l.job
    Says (NotPassed i) = NoFault × EachFits d × FirstOpen d page i
    Says (Faulty f) = (v : Fault) × (page_verdict d.benches page ≡ Err v)

    -- ── judged ──

    module _ (fits : EachFits d) where
      is_blocking : (i : ℕ) → not (blocks d (is_set 64 (set_at page i))) ≡ false → Blocking d (on_page page i)
      is_blocking i p =
          blocks-blocking d (sound_day d day_ok fits) (on_page page i)
          (not-false (blocks d (is_set 64 (set_at page i))) p)

      not-blocking : (i : ℕ) → not (blocks d (is_set 64 (set_at page i))) ≡ true → Blocking d (on_page page i) → ⊥
      not-blocking i p B =
          clash (blocking-blocks d (sound_day d day_ok fits) (on_page page i) B)
          (not-true (blocks d (is_set 64 (set_at page i))) p)

      abbrev open_at : ℕ → Bool
      open_at i = not (blocks d (is_set 64 (set_at page i)))

      all_before : (i : ℕ) → i < first_open d page → Blocking d (on_page page i)
      unfolding first_open
      all_before i l = is_blocking i (least-before (length page) open_at i l)

      first_open_lem : first_open d page < length page → FirstOpen d page (first_open d page)
      unfolding first_open
      first_open_lem l =
          record {
            on_the_page = l;
            not_blocking = not-blocking (first_open d page) (least-holds (length page) open_at l);
            earlier_blocking = all_before;
          }

    -- By whether the page has a fault, a job is long, and a set is open.
    says_by : (v : Verdict) (l o : Bool) → v ≡ page_verdict d.benches page → l ≡ is_long → o ≡ is_open
        → Says (after_faults v
        (cond l (Long (record { job = long_job d })) (cond o (NotPassed (first_open d page)) Passed)))
    says_by (Err f) l o e g h = (f, sym e)
    says_by (Ok _) true o e g h = (none_page d.benches page (sym e), long_found d (sym g))
    says_by (Ok _) false true e g h =
        let fits = none_long d (sym g) in
        let first = first_open_lem fits (ltb-true (first_open d page) (length page) (sym h)) in
        (none_page d.benches page (sym e), fits, first)
    says_by (Ok _) false false e g h =
        let fits = none_long d (sym g) in
        let far = ltb-false (first_open d page) (length page) (sym h) in
        (none_page d.benches page (sym e), fits, λ i l. all_before fits i (omega (arith, far)))

    says : Says (check_page s page)
    says =
        subst Says (sym answer_is) (says_by (page_verdict d.benches page) is_long is_open refl refl refl)

    pub said : (r : PageAnswer) → check_page s page ≡ r → Says r
    said r e = subst Says e says

    fits-not-long : EachFits d → (j : ℕ) → LongJob d j → ⊥
    fits-not-long fits j L = omega (arith, fits j L.is_job, ltb-true d.target (d.minutes j) L.longer)

    some_open : (i : ℕ) → FirstOpen d page i → ((k : ℕ) → k < length page → Blocking d (on_page page k)) → ⊥
    some_open i F all = F.not_blocking (all i F.on_the_page)

    no_fault_of : (r : PageAnswer) → Says r → OneOfThree r → NoFault
    no_fault_of Passed x it_passed = x.0
    no_fault_of (Long l) x (it_is_long m) = x.0
    no_fault_of (NotPassed i) x (it_did_not_pass k) = x.0
    no_fault_of (Faulty f) x neither = elim neither [ ]

    pub judged_by_answer : OneOfThree (check_page s page) → JudgedPage s page c
    judged_by_answer three =
        record { sheet_accepted = read; faultless = no_fault_of (check_page s page) says three }

    one_first : (i k : ℕ) → FirstOpen d page i → FirstOpen d page k → i ≡ k
    one_first i k F G = elim (lt-or-le i k) [
      | inl l ↦ absurd (F.not_blocking (G.earlier_blocking i l))
      | inr l ↦ elim (lt-or-le k i) [
        | inl m ↦ absurd (G.not_blocking (F.earlier_blocking k m))
        | inr m ↦ omega arith
      ]
    ]

    -- ── without a fault ──

    module _ (F : Faultless d.benches page (length page)) where
      -- There is no fault of the page.
      no_fault : (v : Fault) → page_verdict d.benches page ≡ Err v → ⊥
      no_fault v e = let none = page_none d.benches page F in cc

      one_of : (r : PageAnswer) → Says r → OneOfThree r
      one_of Passed x = it_passed
      one_of (Long l) x = it_is_long l
      one_of (NotPassed i) x = it_did_not_pass i
      one_of (Faulty f) (v, e) = absurd (no_fault v e)

      is_long_lem : (r : PageAnswer) → Says r → (j : ℕ) → LongJob d j → (l : LongAnswer) × (r ≡ Long l)
      is_long_lem Passed x j L = absurd (fits-not-long x.1 j L)
      is_long_lem (Long l) x j L = (l, refl)
      is_long_lem (NotPassed i) x j L = absurd (fits-not-long x.1 j L)
      is_long_lem (Faulty f) (v, e) j L = absurd (no_fault v e)

      is_passed : (r : PageAnswer) → Says r → EachFits d
          → ((i : ℕ) → i < length page → Blocking d (on_page page i)) → r ≡ Passed
      is_passed Passed x fits all = refl
      is_passed (Long l) x fits all = absurd (fits-not-long fits l.job x.1.is_long)
      is_passed (NotPassed i) x fits all = absurd (some_open i x.2 all)
      is_passed (Faulty f) (v, e) fits all = absurd (no_fault v e)

      is_named : (r : PageAnswer) → Says r → EachFits d → (i : ℕ) → FirstOpen d page i → r ≡ NotPassed i
      is_named Passed x fits i G = absurd (some_open i G x.2)
      is_named (Long l) x fits i G = absurd (fits-not-long fits l.job x.1.is_long)
      is_named (NotPassed k) x fits i G = ap NotPassed (one_first k i x.2 G)
      is_named (Faulty f) (v, e) fits i G = absurd (no_fault v e)

      pub judged_three : OneOfThree (check_page s page)
      judged_three = one_of (check_page s page) says

      pub judged_long : (j : ℕ) → LongJob d j → (l : LongAnswer) × (check_page s page ≡ Long l)
      judged_long = is_long_lem (check_page s page) says

      pub judged_passed : EachFits d → ((i : ℕ) → i < length page → Blocking d (on_page page i))
          → check_page s page ≡ Passed
      judged_passed = is_passed (check_page s page) says

      pub judged_named : EachFits d → (i : ℕ) → FirstOpen d page i → check_page s page ≡ NotPassed i
      judged_named = is_named (check_page s page) says

    -- ── passed ──

    pub passed_good : check_page s page ≡ Passed → GoodPage d page
    passed_good e =
        let (faultless, fits, each) = said Passed e in
        record {
          each_blocking = each;
          of_the_head = λ i l. (faultless.each_proper i l).of_the_head;
          none_shared = faultless.none_shared;
        }

    good_faultless : GoodPage d page → Faultless d.benches page (length page)
    good_faultless G =
        record {
          each_proper = λ i l.
              let (v, below, p) = count-pos_elim d.benches (on_page page i) (G.each_blocking i l).some_bench in
              record { some_bench = (v, p); of_the_head = G.of_the_head i l };
          none_shared = G.none_shared;
        }

    pub good_passed : EachFits d → GoodPage d page → check_page s page ≡ Passed
    good_passed fits G = judged_passed (good_faultless G) fits G.each_blocking

    pub empty_passed : EachFits d → length page ≡ 0 → check_page s page ≡ Passed
    empty_passed fits e =
        good_passed fits (record {
          each_blocking = λ i l. absurd (omega (arith, e));
          of_the_head = λ i l. absurd (omega (arith, e));
          none_shared = λ i k l m. absurd (omega (arith, e));
        })

    pub union_passed : check_page s page ≡ Passed → 0 < length page → Blocking d (union_of (length page) (on_page page))
    union_passed e some =
        let G = passed_good e in
        page_blocking d day_ok.some_bench (length page) (on_page page) G.each_blocking G.none_shared some

    pub over_passed : check_page s page ≡ Passed → 0 < length page → (a : ℕ → ℕ) → Assignment d a → SomeOver d a
    over_passed e some a A =
        blocking_overloads d a A day_ok (union_of (length page) (on_page page)) (union_passed e some)

    pub over_long : (l : LongAnswer) → check_page s page ≡ Long l → (a : ℕ → ℕ) → Assignment d a → SomeOver d a
    over_long l e a A = long_overloads d a A day_ok l.job (said (Long l) e).1.is_long

  pub page_claim : PageClaim s page (check_page s page)
  page_claim =
      record {
        sheet_refused = refused_fault;
        improper_set = λ c read i l F bad.
            fault_is c read (page_fault c.head.benches page i l F (verdict_17 c.head.benches page i bad));
        shared_bench = λ c read i l F good shared.
            fault_is c read
            (page_fault c.head.benches page i l F (verdict_18 c.head.benches page i good shared));
        one_of_three = λ c J. judged_three c J.sheet_accepted J.faultless;
        three_judged = judged_by_answer;
        long_right = λ c J l e. (said c J.sheet_accepted (Long l) e).1;
        long_given = λ c J. judged_long c J.sheet_accepted J.faultless;
        passed_fits = λ c read e. (said c read Passed e).1;
        not_passed_fits = λ c J i e. (said c J.sheet_accepted (NotPassed i) e).1;
        passed_good = passed_good;
        good_passed = good_passed;
        named_is_first = λ c J i e. (said c J.sheet_accepted (NotPassed i) e).2;
        first_is_named = λ c J. judged_named c J.sheet_accepted J.faultless;
        empty_page = empty_passed;
        union_blocks = union_passed;
        over_after_passed = over_passed;
        over_after_long = over_long;
      }

pub promised : (s page : List ℕ) {r : PageAnswer} → r ≡ check_page s page
    → (r ≡ check_page s page) × PageClaim s page r
promised s page e = (e, subst (PageClaim s page) (sym e) (page_claim s page))
