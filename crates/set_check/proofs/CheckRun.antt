-- The check of a set follows its definition.
--     foreign_is        the lowest bench of the set that the head lacks
--     found_some, found_none        a number below a bound, where there is one, and where there is none
--     by_empty, by_foreign, by_long, by_none      what is answered before the set is judged
--     early             an answer before the set is judged is the answer
--     head_only         a set without a bench that the head lacks has benches of the head only
--     weighs_lent       a sheet without a long job is as the weighing asks for it, for any set
--     of_the_day, weighed           so they are where the set is judged
--     judged_passed, judged-not     and the set is judged
--     refused_is, accepted_is       the answer for the bytes
use Prim.Native.Nat.{ℕ, ◌≤◌, ◌<◌, ◌^◌}
use mathlib.Core.Path.{◌≡◌, refl, sym, ap, ◌∙◌}
use mathlib.Core.Bool.{Bool, true, false, not, cond, ◌&&◌}
use mathlib.Core.Logic.{inl, inr}
use mathlib.Core.List.{List}
use native.Mathlib.Omega.{arith}
use lib.Dec.{eqb, ltb}
use lib.ListN.{get_or}
use borrow.Author.Tests.{eq-eqb, ne_eqb, lt-ltb, le-ltb, eqb-false, ltb-false}
use Rattle.bools.proofs.BoolLaws.{split, clash, and_intro, not_intro_true}
use Rattle.bools.proofs.OrderLaws.{lt-or-le}
use Rattle.bits.specs.Bits.{is_set}
use Rattle.bits.proofs.SetBits.{is_set-past}
use Rattle.sums.specs.Search.{least}
use Rattle.sums.proofs.SearchLaws.{least_cong, least_bound}
use Rattle.fields.specs.Contents.{Contents}
use Rattle.fields.specs.declared.sheet.Head.{Head}
use Rattle.std.specs.Bool.{then_some}
use Rattle.std.specs.Prelude.{Result, Ok, Err, Option, Some, None}
use Rattle.fields.specs.declared.sheet.Sheet.{Sheet}
use Rattle.fields.specs.declared.fault.Fault.{Fault}
use Rattle.fields.specs.declared.fault.Fault.TheVariants.{SetBench}
use Rattle.frame.specs.Reading.{accepted, read_sheet, stored, sheet_of}
use Rattle.frame.proofs.Stored.{verdict_refused, verdict_accepted}
use Rattle.day.specs.Day.{Day, day_of, long_job}
use Rattle.answers.specs.declared.answer.LongAnswer.{LongAnswer}
use Rattle.answers.specs.declared.check.SetAnswer.{SetAnswer}
use Rattle.answers.specs.declared.check.SetAnswer.TheVariants.{Passed, Long, NotPassed, Fault as Faulty}
use Rattle.algorithm.proofs.SheetDay.{none_long, sound_day}
use Rattle.sets.specs.Sets.{lowest_of}
use Rattle.rocks.specs.RockArrays.{first}
use Rattle.rocks.proofs.FirstLaws.{first-some, first-none}
use Rattle.start.specs.StartArrays.{Fields}
use Rattle.start.proofs.StartRun.{long_job_is}
use Rattle.decisions.specs.Decision.{Lent}
use Rattle.placements.specs.LeastWeight.{blocks}
use Rattle.weighing.specs.Weights.{Weighs, OfTheDay}
use Rattle.set_check.specs.SetCheck.{foreign_in, foreign_of, first_answer, set_answer, check_set}

pub foreign_is : (benches set every left : ℕ) {r : ℕ} → ((v : ℕ) → v < 64 → is_set 64 every v ≡ ltb v benches)
    → ((u : ℕ) → is_set 64 left u ≡ (is_set 64 set u && not (is_set 64 every u))) → r ≡ lowest_of left
    → then_some (ltb r 64) r ≡ foreign_of benches set
unfolding foreign_in lowest_of
foreign_is benches set every left all less e =
    ap (λ (n : ℕ). then_some (ltb n 64) n)
    (e ∙ least_cong 64 (is_set 64 left) (λ v. is_set 64 set v && not (ltb v benches))
    (λ v l. less v ∙ ap (λ (b : Bool). is_set 64 set v && not b) (all v l)))

-- A number below k that is found, and none.
pub found_some : (n k : ℕ) {v : ℕ} → then_some (ltb n k) n ≡ Some v → (v ≡ n) × (ltb n k ≡ true)
found_some n k {v} e = elim (split (ltb n k)) [
  | inl p ↦ let some : then_some (ltb n k) n ≡ Some n = rw p in (cc, p)
  | inr p ↦ let none : then_some (ltb n k) n ≡ None = rw p in absurd (cc)
]

pub found_none : (n k : ℕ) → then_some (ltb n k) n ≡ None → ltb n k ≡ false
found_none n k e = elim (split (ltb n k)) [
  | inl p ↦ let some : then_some (ltb n k) n ≡ Some n = rw p in absurd (cc)
  | inr p ↦ p
]

-- ── before the set is judged ──

module _ (d : Day) (set : ℕ) where
  abbrev lacking : ℕ
  lacking = foreign_in d.benches set

  pub by_empty : set ≡ 0 → Faulty (SetBench 0) ≡ first_answer d set
  by_empty e = rw (eq-eqb set 0 e) refl

  module _ (some : (set ≡ 0 → ⊥)) {r : Option ℕ} {benches : ℕ} (e : r ≡ foreign_of benches set)
      (same : benches ≡ d.benches) where
    found : r ≡ foreign_of d.benches set
    found = e ∙ ap (λ (n : ℕ). foreign_of n set) same

    pub by_foreign : {v : ℕ} → r ≡ Some v → Faulty (SetBench v) ≡ first_answer d set
    by_foreign p = let (is, there) = found_some lacking 64 (sym found ∙ p) in rw (ne_eqb set 0 some, is, there) refl

    module _ (none : r ≡ None) (jobs : ℕ) (minutes allowed : List ℕ) (F : Fields d jobs minutes allowed) {long : Option ℕ}
        {target : ℕ} (here : target ≡ d.target) (f : long ≡ first jobs (λ j. ltb target (get_or minutes j 0))) where
      long_is : least jobs (λ j. ltb target (get_or minutes j 0)) ≡ long_job d
      long_is =
          ap (λ (t : ℕ). least jobs (λ j. ltb t (get_or minutes j 0))) here ∙ long_job_is d jobs minutes allowed F

      in_head : ltb lacking 64 ≡ false
      in_head = found_none lacking 64 (sym found ∙ none)

      pub by_long : {j : ℕ} → long ≡ Some j → Long (record { job = j }) ≡ first_answer d set
      by_long p =
          let (is, below) = first-some jobs (λ j. ltb target (get_or minutes j 0)) f p in
          let there : long_job d < d.jobs = omega (arith, is, below, long_is, F.jobs_are) in
          rw (ne_eqb set 0 some, in_head, is, long_is, lt-ltb (long_job d) d.jobs there) refl

      pub by_none : long ≡ None → NotPassed ≡ first_answer d set
      by_none p =
          let above = first-none jobs (λ j. ltb target (get_or minutes j 0)) f p in
          let there : d.jobs ≤ long_job d = omega (arith, above, long_is, F.jobs_are) in
          rw (ne_eqb set 0 some, in_head, le-ltb (long_job d) d.jobs there) refl

-- ── what the weighing asks for ──

pub head_only : (benches set : ℕ) → ltb (foreign_in benches set) 64 ≡ false
    → (v : ℕ) → is_set 64 set v ≡ true → v < benches
unfolding foreign_in
head_only benches set none v p = elim (lt-or-le v benches) [
  | inl below ↦ below
  | inr above ↦
      let least-most = least_bound 64 (λ u. is_set 64 set u && not (ltb u benches)) v
      (and_intro p (not_intro_true (le-ltb v benches above))) in
      let far : 64 ≤ v = omega (arith, least-most, ltb-false (foreign_in benches set) 64 none) in
      clash p (is_set-past 64 set v far)
]

pub weighs_lent : (d : Day) → ltb (long_job d) d.jobs ≡ false
    → (h : Head) (jobs : ℕ) (minutes allowed booked : List ℕ) → Lent d h jobs minutes allowed booked → (set : ℕ)
    → Weighs d (record { benches = h.benches; p = h.p; q = h.q; target = h.target; set = set })
    jobs minutes allowed booked
weighs_lent d l h jobs minutes allowed booked L set =
    record {
      holds = record {
        sound = sound_day d L.accepted (none_long d l);
        fields = L.fields;
        benches_are = L.benches_are;
        p_is = L.p_is;
        q_is = L.q_is;
        target_is = L.target_is;
      };
      bookings = record {
        bounded = L.fields.bounded;
        benches_are = L.benches_are;
        booked_are = L.booked_are;
      };
    }

-- ── whether the set is judged ──

chosen : Bool → Bool → Bool → Fault → Fault → LongAnswer → SetAnswer → SetAnswer
chosen a b l f g j rest = cond a (Faulty f) (cond b (Faulty g) (cond l (Long j) rest))

early_by : (a b l : Bool) (f g : Fault) (j : LongAnswer) (rest : SetAnswer) (r : SetAnswer)
    → r ≡ chosen a b l f g j NotPassed → (r ≡ NotPassed → ⊥)
    → r ≡ chosen a b l f g j rest
unfolding chosen
early_by true b l f g j rest r e n = e
early_by false true l f g j rest r e n = e
early_by false false true f g j rest r e n = e
early_by false false false f g j rest r e n = absurd (n e)

judged_by : (a b l : Bool) (f g : Fault) (j : LongAnswer) → chosen a b l f g j NotPassed ≡ NotPassed
    → (a ≡ false) × (b ≡ false) × (l ≡ false)
unfolding chosen
judged_by true b l f g j e = absurd (cc)
judged_by false true l f g j e = absurd (cc)
judged_by false false true f g j e = absurd (cc)
judged_by false false false f g j e = (refl, refl, refl)

module _ (d : Day) (set : ℕ) where
  pub early : (r : SetAnswer) → r ≡ first_answer d set → (r ≡ NotPassed → ⊥) → r ≡ set_answer d set
  unfolding chosen
  early r e n =
      early_by (eqb set 0) (ltb (foreign_in d.benches set) 64) (ltb (long_job d) d.jobs) (SetBench 0)
      (SetBench (foreign_in d.benches set)) (record { job = long_job d })
      (cond (blocks d (is_set 64 set)) Passed NotPassed)
      r e n

  module _ (open-yet : NotPassed ≡ first_answer d set) where
    judged : (eqb set 0 ≡ false) × (ltb (foreign_in d.benches set) 64 ≡ false) × (ltb (long_job d) d.jobs ≡ false)
    unfolding chosen
    judged =
        judged_by (eqb set 0) (ltb (foreign_in d.benches set) 64) (ltb (long_job d) d.jobs) (SetBench 0)
        (SetBench (foreign_in d.benches set)) (record { job = long_job d }) (sym open-yet)

    judged_is : set_answer d set ≡ cond (blocks d (is_set 64 set)) Passed NotPassed
    judged_is = let (a, b, l) = judged in rw (a, b, l) refl

    pub of_the_day : set < 2 ^ 64 → OfTheDay d set
    of_the_day small =
        let (a, b, l) = judged in
        record {
          some_bench = omega (arith, eqb-false set 0 a);
          of_64_bits = small;
          of_the_head = head_only d.benches set b;
        }

    pub weighed : (h : Head) (jobs : ℕ) (minutes allowed booked : List ℕ) → Lent d h jobs minutes allowed booked
        → Weighs d (record { benches = h.benches; p = h.p; q = h.q; target = h.target; set = set })
        jobs minutes allowed booked
    weighed h jobs minutes allowed booked L =
        let (a, b, l) = judged in
        weighs_lent d l h jobs minutes allowed booked L set

    pub judged_passed : {t : Bool} → t ≡ blocks d (is_set 64 set) → t ≡ true → Passed ≡ set_answer d set
    judged_passed e p = sym (judged_is ∙ rw (sym e ∙ p) refl)

    pub judged-not : {t : Bool} → t ≡ blocks d (is_set 64 set) → t ≡ false → NotPassed ≡ set_answer d set
    judged-not e p = sym (judged_is ∙ rw (sym e ∙ p) refl)

-- ── the bytes ──

module _ (s : List ℕ) (set : ℕ) where
  pub refused_is : {x : Result Sheet Fault} {f : Fault} → x ≡ stored (read_sheet s) → x ≡ Err f
      → Faulty f ≡ check_set s set
  unfolding check_set
  refused_is e a = rw (verdict_refused (read_sheet s) e a, check_set)

  pub accepted_is : {x : Result Sheet Fault} (sheet : Sheet) {r : SetAnswer} → x ≡ stored (read_sheet s) → x ≡ Ok sheet
      → ((bytes : List ℕ) → (c : Contents) → read_sheet bytes ≡ accepted c → sheet ≡ sheet_of c
      → r ≡ set_answer (day_of c) set)
      → r ≡ check_set s set
  unfolding check_set
  accepted_is sheet e a told =
      let (c, read, same) = verdict_accepted (read_sheet s) e a in
      rw (read, check_set) (told s c read same)
