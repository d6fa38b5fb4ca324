-- Laws of the check of a list: the claim (specs/ListClaim) follows from the equation (specs/ListCheck).
--     check_refused, check_accepted     the answer by whether the sheet is read
--     listed_other, listed_passed, listed_not       the three answers for a day
--     good_listed, bad_listed       good places are passed, bad ones are not
--     list-claim            the claim holds of the answer
--     with_claim            the equation, and the claim with it
use Prim.Native.Nat.{ℕ, ◌<◌}
use mathlib.Core.Path.{◌≡◌, refl, ap, ap₂, subst, ◌∙◌}
use mathlib.Core.Logic.{◌⊎◌, inl, inr, ◌≢◌}
use mathlib.Core.Bool.{Bool, true, false, cond}
use mathlib.Core.List.{List}
use lib.ListN.{length}
use borrow.Author.Tests.{eq-eqb, ne_eqb}
use Rattle.bools.proofs.BoolLaws.{clash}
use Rattle.bools.proofs.OrderLaws.{eq-or-ne}
use Rattle.fields.specs.declared.fault.Fault.{Fault}
use Rattle.fields.specs.declared.fault.Fault.TheVariants.{PlaceCount}
use Rattle.fields.specs.Contents.{Contents}
use Rattle.frame.specs.Reading.{accepted, refused, read_sheet}
use Rattle.frame.proofs.AcceptedLaws.{accepted_sound}
use Rattle.day.specs.Day.{Day, day_of, place_in, largest_of, fullest_of}
use Rattle.answers.specs.declared.check.ListAnswer.{ListAnswer}
use Rattle.answers.specs.declared.check.ListAnswer.TheVariants.{Passed, NotPassed, Fault as Faulty}
use Rattle.answers.specs.declared.check.ListPassed.{ListPassed}
use Rattle.list_check.specs.ListCheck.{list_passes, listed_of, check_list}
use Rattle.list_check.specs.ListClaim.{GoodPlaces, BadPlaces, GreatestLoad, ListClaim}
use Rattle.list_check.proofs.PlacesLaws.{good_tested, bad_tested, good_or_bad, greatest_is}

-- ── a day ──

module _ (d : Day) (list : List ℕ) where
  abbrev pub passed_with : ListPassed
  passed_with = record { largest = largest_of d list; fullest = fullest_of d list }

  pub listed_other : length list ≢ d.jobs → listed_of d list ≡ Faulty PlaceCount
  listed_other ne =
      ap (λ (b : Bool). cond b (cond (list_passes d list) (Passed passed_with) NotPassed) (Faulty PlaceCount))
      (ne_eqb (length list) d.jobs ne)

  module _ (one : length list ≡ d.jobs) where
    counted : (passes : Bool) → list_passes d list ≡ passes → listed_of d list ≡ cond passes (Passed passed_with) NotPassed
    counted passes p =
        ap₂ (λ (b x : Bool). cond b (cond x (Passed passed_with) NotPassed) (Faulty PlaceCount))
        (eq-eqb (length list) d.jobs one) p

    pub listed_passed : list_passes d list ≡ true → listed_of d list ≡ Passed passed_with
    listed_passed = counted true

    pub listed_not : list_passes d list ≡ false → listed_of d list ≡ NotPassed
    listed_not = counted false

  pub good_listed : GoodPlaces d (length list) (place_in list) → listed_of d list ≡ Passed passed_with
  good_listed g = listed_passed g.one_to_a_job (good_tested d (place_in list) g)

  pub bad_listed : BadPlaces d (length list) (place_in list) → listed_of d list ≡ NotPassed
  bad_listed b = listed_not b.one_to_a_job (bad_tested d (place_in list) b)

  -- Back from an answer.
  module _ {r : ListAnswer} (e : r ≡ listed_of d list) where
    some_case : (r ≡ Faulty PlaceCount)
        ⊎ ((GoodPlaces d (length list) (place_in list) × (r ≡ Passed passed_with))
        ⊎ (BadPlaces d (length list) (place_in list) × (r ≡ NotPassed)))
    some_case = elim (eq-or-ne (length list) d.jobs) [
      | inr ne ↦ inl (e ∙ listed_other ne)
      | inl one ↦ elim (good_or_bad d (place_in list) one) [
        | inl g ↦ inr (inl (g, e ∙ good_listed g))
        | inr b ↦ inr (inr (b, e ∙ bad_listed b))
      ]
    ]

    passed_back : (p : ListPassed) → r ≡ Passed p
        → GoodPlaces d (length list) (place_in list) × (passed_with ≡ p)
    passed_back p q = elim some_case [
      | inl f ↦ clash {b = true} refl cc
      | inr (inl (g, f)) ↦ (g, cc)
      | inr (inr (b, f)) ↦ clash {b = true} refl cc
    ]

    not_passed_back : r ≡ NotPassed → BadPlaces d (length list) (place_in list)
    not_passed_back q = elim some_case [
      | inl f ↦ clash {b = true} refl cc
      | inr (inl (g, f)) ↦ clash {b = true} refl cc
      | inr (inr (b, f)) ↦ b
    ]

    passed_greatest : 0 < d.benches → (p : ListPassed) → r ≡ Passed p
        → GreatestLoad d (place_in list) p.largest p.fullest
    passed_greatest some p q =
        subst (λ (x : ListPassed). GreatestLoad d (place_in list) x.largest x.fullest) (passed_back p q).1
        (greatest_is d (place_in list) some)

-- ── the bytes ──

module _ (s list : List ℕ) where
  pub check_refused : (f : Fault) → read_sheet s ≡ refused f → check_list s list ≡ Faulty f
  unfolding check_list
  check_refused f e = rw (e, check_list)

  pub check_accepted : (c : Contents) → read_sheet s ≡ accepted c → check_list s list ≡ listed_of (day_of c) list
  unfolding check_list
  check_accepted c e = rw (e, check_list)

  pub list-claim : {r : ListAnswer} → r ≡ check_list s list → ListClaim s list r
  list-claim {r} e =
      record {
        sheet_refused = λ f read. e ∙ check_refused f read;
        other_count = λ c read ne. told c read ∙ listed_other (day_of c) list ne;
        passed_good = λ c read p q. (passed_back (day_of c) list (told c read) p q).0;
        good_passed = λ c read g. (passed_with (day_of c) list, told c read ∙ good_listed (day_of c) list g);
        passed_with = λ c read.
            passed_greatest (day_of c) list (told c read) (accepted_sound s c read).head.some_bench;
        not_passed_bad = λ c read. not_passed_back (day_of c) list (told c read);
        bad_not_passed = λ c read b. told c read ∙ bad_listed (day_of c) list b;
      }
    where
      told : (c : Contents) → read_sheet s ≡ accepted c → r ≡ listed_of (day_of c) list
      told c read = e ∙ check_accepted c read

  pub with_claim : {r : ListAnswer} → r ≡ check_list s list → (r ≡ check_list s list) × ListClaim s list r
  with_claim e = (e, list-claim e)
