-- What the check of a set is worth, from its definition.
--     refused_fault, answer_is      a sheet with a fault; an accepted one
--     set_empty, set_foreign    number 17
--     judged_answer     else long, or the judgement
--     set_claim         the claim holds of the definition
--     promised          so it does of every answer that is equal to it
use Prim.Native.Nat.{ℕ, ◌≤◌, ◌<◌, ◌^◌}
use mathlib.Core.Path.{◌≡◌, refl, sym, ap, subst, ◌∙◌}
use mathlib.Core.Bool.{Bool, true, false, not, cond, ◌&&◌}
use mathlib.Core.Logic.{inl, inr, ◌≢◌}
use mathlib.Core.List.{List}
use native.Mathlib.Omega.{arith}
use lib.Dec.{ltb}
use borrow.Author.Tests.{eq-eqb, ne_eqb, lt-ltb, le-ltb, ltb-true}
use Rattle.bools.proofs.BoolLaws.{split, clash, and_intro, not_intro_true}
use Rattle.bools.proofs.OrderLaws.{lt-or-le}
use Rattle.bits.specs.Bits.{is_set}
use Rattle.bits.proofs.SetBits.{is_set-zero, is_set-past, any-is_set-zero}
use Rattle.sums.proofs.SearchLaws.{least-found, least-none, any_false}
use Rattle.fields.specs.declared.fault.Fault.{Fault}
use Rattle.fields.specs.declared.fault.Fault.TheVariants.{SetBench}
use Rattle.fields.specs.Contents.{Contents}
use Rattle.frame.specs.Reading.{accepted, refused, read_sheet}
use Rattle.frame.proofs.AcceptedLaws.{accepted_sound}
use Rattle.day.specs.Day.{Day, day_of, long_job}
use Rattle.demand.specs.Demand.{Assignment, SomeOver, Blocking, LongJob, EachFits, SoundLong}
use Rattle.answers.specs.declared.answer.LongAnswer.{LongAnswer}
use Rattle.answers.specs.declared.check.SetAnswer.{SetAnswer}
use Rattle.answers.specs.declared.check.SetAnswer.TheVariants.{Passed, Long, NotPassed, Fault as Faulty}
use Rattle.algorithm.specs.SoundDay.{AcceptedDay}
use Rattle.algorithm.proofs.SheetDay.{accepted_day, none_long, sound_day}
use Rattle.argument.proofs.LongFound.{long_found}
use Rattle.argument.proofs.Rival.{blocking_overloads, long_overloads}
use Rattle.placements.specs.LeastWeight.{blocks}
use Rattle.placements.proofs.LeastLaws.{blocks-blocking, blocking-blocks}
use Rattle.blocking.specs.Claim.{in_set}
use Rattle.set_check.specs.SetCheck.{foreign_in, set_answer, check_set}
use Rattle.set_check.specs.SetClaim.{Judged, OneOfThree, it_passed, it_is_long, it_did_not_pass, SetClaim}

module _ (s : List ℕ) (set : ℕ) where
  pub refused_fault : (f : Fault) → read_sheet s ≡ refused f → check_set s set ≡ Faulty f
  unfolding check_set
  refused_fault f e = rw (e, check_set)

  module _ (c : Contents) (read : read_sheet s ≡ accepted c) where
    abbrev d : Day
    d = day_of c

    abbrev lacking : ℕ → Bool
    lacking v = is_set 64 set v && not (ltb v d.benches)

    pub answer_is : check_set s set ≡ set_answer d set
    unfolding check_set
    answer_is = rw (read, check_set) refl

    day_accepted : AcceptedDay d
    day_accepted = accepted_day c (accepted_sound s c read)

    pub set_empty : set < 2 ^ 64 → ((v : ℕ) → in_set set v ≡ false) → check_set s set ≡ Faulty (SetBench 0)
    set_empty small none =
        let nothing : set ≡ 0 = any-is_set-zero 64 set small (any_false 64 (is_set 64 set) (λ v l. none v)) in
        answer_is ∙ rw (eq-eqb set 0 nothing) refl

    not-empty : (v : ℕ) → in_set set v ≡ true → set ≢ 0
    not-empty v p e = clash (sym (ap (λ (n : ℕ). is_set 64 n v) e) ∙ p) (is_set-zero 64 v)

    bench_small : (v : ℕ) → in_set set v ≡ true → v < 64
    bench_small v p = elim (lt-or-le v 64) [ inl l ↦ l | inr far ↦ clash p (is_set-past 64 set v far) ]

    lowest-lacking : (v : ℕ) → in_set set v ≡ true → d.benches ≤ v
        → ((u : ℕ) → u < v → in_set set u ≡ true → u < d.benches) → foreign_in d.benches set ≡ v
    unfolding foreign_in
    lowest-lacking v p above lower =
        least-found 64 lacking v (bench_small v p) (and_intro p (not_intro_true (le-ltb v d.benches above)))
        (λ u l. elim (split (is_set 64 set u)) [
          | inl q ↦ rw (q, lt-ltb u d.benches (lower u l q)) refl
          | inr q ↦ rw q refl
        ])

    pub set_foreign : (v : ℕ) → in_set set v ≡ true → d.benches ≤ v
        → ((u : ℕ) → u < v → in_set set u ≡ true → u < d.benches) → check_set s set ≡ Faulty (SetBench v)
    set_foreign v p above lower =
        let it = lowest-lacking v p above lower in
        answer_is
        ∙ rw (ne_eqb set 0 (not-empty v p), it, lt-ltb v 64 (bench_small v p)) refl

  -- ── judged ──

  module _ (c : Contents) (J : Judged s set c) where
    abbrev its : Day
    its = day_of c

    abbrev is_long : Bool
    is_long = ltb (long_job its) its.jobs

    abbrev is_blocking : Bool
    is_blocking = blocks its (in_set set)

    none-lacking : foreign_in its.benches set ≡ 64
    unfolding foreign_in
    none-lacking =
        least-none 64 (λ v. is_set 64 set v && not (ltb v its.benches))
        (λ v l. elim (split (is_set 64 set v)) [
          | inl p ↦ rw (p, lt-ltb v its.benches (J.of_the_head v p)) refl
          | inr p ↦ rw p refl
        ])

    pub judged_answer : check_set s set
        ≡ cond is_long (Long (record { job = long_job its })) (cond is_blocking Passed NotPassed)
    judged_answer =
        let (v, p) = J.some_bench in
        answer_is c J.sheet_accepted
        ∙ rw (ne_eqb set 0 (not-empty c J.sheet_accepted v p), none-lacking) refl

    day_ok : AcceptedDay its
    day_ok = day_accepted c J.sheet_accepted

    -- What each answer says.
    abbrev Says : SetAnswer → Type 0
    Says Passed = EachFits its × Blocking its (in_set set)
    Says (Long l) = SoundLong its l.job
    Says NotPassed = EachFits its × (Blocking its (in_set set) → ⊥)
    Says (Faulty f) = ⊥

    -- By whether a job is long, and whether the set passes the test.
    says_by : (l b : Bool) → l ≡ is_long → b ≡ is_blocking
        → Says (cond l (Long (record { job = long_job its })) (cond b Passed NotPassed))
    says_by true b e f = long_found its (sym e)
    says_by false true e f =
        let fits = none_long its (sym e) in
        (fits, blocks-blocking its (sound_day its day_ok fits) (in_set set) (sym f))
    says_by false false e f =
        let fits = none_long its (sym e) in
        (fits, λ B. clash (blocking-blocks its (sound_day its day_ok fits) (in_set set) B) (sym f))

    says : Says (check_set s set)
    says = subst Says (sym judged_answer) (says_by is_long is_blocking refl refl)

    pub said : (r : SetAnswer) → check_set s set ≡ r → Says r
    said r e = subst Says e says

    one_of : (r : SetAnswer) → Says r → OneOfThree r
    one_of Passed j = it_passed
    one_of (Long l) j = it_is_long l
    one_of NotPassed j = it_did_not_pass
    one_of (Faulty f) j = absurd j

    fits-not-long : EachFits its → (j : ℕ) → LongJob its j → ⊥
    fits-not-long fits j L =
        omega (arith, fits j L.is_job, ltb-true its.target (its.minutes j) L.longer)

    is_long_lem : (r : SetAnswer) → Says r → (j : ℕ) → LongJob its j → (l : LongAnswer) × (r ≡ Long l)
    is_long_lem Passed x j L = absurd (fits-not-long x.0 j L)
    is_long_lem (Long l) x j L = (l, refl)
    is_long_lem NotPassed x j L = absurd (fits-not-long x.0 j L)
    is_long_lem (Faulty f) x j L = absurd x

    is_passed : (r : SetAnswer) → Says r → EachFits its → Blocking its (in_set set) → r ≡ Passed
    is_passed Passed x fits B = refl
    is_passed (Long l) x fits B = absurd (fits-not-long fits l.job x.is_long)
    is_passed NotPassed x fits B = absurd (x.1 B)
    is_passed (Faulty f) x fits B = absurd x

    pub judged_three : OneOfThree (check_set s set)
    judged_three = one_of (check_set s set) says

    pub judged_long : (j : ℕ) → LongJob its j → (l : LongAnswer) × (check_set s set ≡ Long l)
    judged_long = is_long_lem (check_set s set) says

    pub judged_passed : EachFits its → Blocking its (in_set set) → check_set s set ≡ Passed
    judged_passed = is_passed (check_set s set) says

    pub over_passed : check_set s set ≡ Passed → (a : ℕ → ℕ) → Assignment its a → SomeOver its a
    over_passed e a A = blocking_overloads its a A day_ok (in_set set) (said Passed e).1

    pub over_long : (l : LongAnswer) → check_set s set ≡ Long l → (a : ℕ → ℕ) → Assignment its a → SomeOver its a
    over_long l e a A = long_overloads its a A day_ok l.job (said (Long l) e).is_long

  pub set_claim : set < 2 ^ 64 → SetClaim s set (check_set s set)
  set_claim small =
      record {
        sheet_refused = refused_fault;
        empty_set = λ c read none. set_empty c read small none;
        foreign_bench = set_foreign;
        one_of_three = judged_three;
        long_right = λ c J l e. said c J (Long l) e;
        long_given = judged_long;
        passed_fits = λ c J e. (said c J Passed e).0;
        not_passed_fits = λ c J e. (said c J NotPassed e).0;
        passed_blocking = λ c J e. (said c J Passed e).1;
        blocking_passed = judged_passed;
        not_passed_open = λ c J e. (said c J NotPassed e).1;
        over_after_passed = over_passed;
        over_after_long = over_long;
      }

pub promised : (s : List ℕ) (set : ℕ) → set < 2 ^ 64 → {r : SetAnswer} → r ≡ check_set s set
    → (r ≡ check_set s set) × SetClaim s set r
promised s set small e = (e, subst (SetClaim s set) (sym e) (set_claim s set small))
