-- Wrong answers of the check of a list, each refused by one field of the claim: so none of them can lose its meaning
-- unnoticed. The sheets are those of ListExamples.
--     fault_left_out            the empty sheet, and an answer that is not its fault
--     too_few_taken, too_many_taken     a place too few, a place too many, and yet an answer
--     not_allowed-passed, above-passed  passed with a bench that is not allowed; with 14 minutes, where the bound is 13
--     good_faulted              number 16 for a good list
--     largest_too_small, largest_too_large, fullest_has_less, fullest_lacking, higher_of_a_tie      other numbers
--     good_not-passed           a good list is not passed
--     bad_faulted               number 16 for a list with one place a job
use mathlib.Core.Path.{refl, sym}
use mathlib.Core.Bool.{true}
use mathlib.Core.List.{List, [], ◌∷◌}
use Prim.Native.Nat.{ℕ}
use native.Mathlib.Omega.{arith}
use Rattle.bools.proofs.BoolLaws.{clash}
use Rattle.bits.specs.Bits.{is_set}
use Rattle.fields.specs.declared.fault.Fault.TheVariants.{Truncated, PlaceCount}
use Rattle.fields.specs.Format.{booked_from, sheet_bytes}
use Rattle.frame.specs.Reading.{read_from, read_sheet}
use Rattle.day.specs.Day.{day_of, place_in}
use Rattle.answers.specs.declared.check.ListAnswer.{ListAnswer}
use Rattle.answers.specs.declared.check.ListAnswer.TheVariants.{Passed, NotPassed, Fault as Faulty}
use Rattle.answers.specs.declared.check.ListPassed.{ListPassed}
use Rattle.list_check.specs.ListClaim.{GoodPlaces, BadPlaces, GreatestLoad, ListClaim}
use Rattle.list_check.proofs.ListLaws.{list-claim}
use Rattle.list_check.proofs.PlacesLaws.{not-both}
use Rattle.list_check.proofs.ListExamples.{passed, at_the_bound, one_above_the_bound}
use Rattle.list_check.proofs.ListExamples.{two_contents, two_bytes, two_read, even_contents, even_read}
use Rattle.list_check.proofs.ListExamples.{one_contents, one_read}

pub fault_left_out : (list : List ℕ) → ListClaim [] list NotPassed → ⊥
unfolding read_sheet read_from
fault_left_out list c =
    let e = c.sheet_refused (Truncated 0) refl in
    clash {b = true} refl cc

-- ── number 16 ──

pub too_few_taken : ListClaim two_bytes (1 ∷ []) NotPassed → ⊥
too_few_taken c =
    let e = c.other_count two_contents two_read (λ p. omega arith) in
    clash {b = true} refl cc

pub too_many_taken : (p : ListPassed) → ListClaim two_bytes (1 ∷ 1 ∷ 1 ∷ []) (Passed p) → ⊥
too_many_taken p c =
    let e = c.other_count two_contents two_read (λ q. omega arith) in
    clash {b = true} refl cc

-- ── passed, and not passed ──

abbrev AtBound : ListAnswer → Type 0
AtBound r = ListClaim two_bytes (1 ∷ 1 ∷ []) r

right : AtBound (passed 13 1)
right = list-claim two_bytes (1 ∷ 1 ∷ []) (sym at_the_bound)

good : GoodPlaces (day_of two_contents) 2 (place_in (1 ∷ 1 ∷ []))
good = right.passed_good two_contents two_read (record { largest = 13; fullest = 1 }) refl

abbrev AboveBound : ListAnswer → Type 0
AboveBound r = ListClaim (sheet_bytes even_contents) (1 ∷ 1 ∷ []) r

above : BadPlaces (day_of even_contents) 2 (place_in (1 ∷ 1 ∷ []))
above =
    (list-claim (sheet_bytes even_contents) (1 ∷ 1 ∷ []) (sym one_above_the_bound)
    ).not_passed_bad even_contents even_read refl

pub not_allowed-passed : (p : ListPassed) → ListClaim (sheet_bytes one_contents) (0 ∷ []) (Passed p) → ⊥
unfolding is_set
not_allowed-passed p c =
    clash ((c.passed_good one_contents one_read p refl).assignment.on_allowed 0 (omega arith)) refl

pub above-passed : (p : ListPassed) → AboveBound (Passed p) → ⊥
unfolding booked_from
above-passed p c = clash ((c.passed_good even_contents even_read p refl).within_bound 1 (omega arith)) refl

pub good_faulted : AtBound (Faulty PlaceCount) → ⊥
good_faulted c =
    let (p, e) = c.good_passed two_contents two_read good in
    clash {b = true} refl cc

pub good_not-passed : AtBound NotPassed → ⊥
good_not-passed c =
    not-both (day_of two_contents) (place_in (1 ∷ 1 ∷ [])) good (c.not_passed_bad two_contents two_read refl)

pub bad_faulted : AboveBound (Faulty PlaceCount) → ⊥
bad_faulted c =
    let e = c.bad_not_passed even_contents even_read above in
    clash {b = true} refl cc

-- ── the numbers of a list that passes ──

told : (l f : ℕ) → AtBound (passed l f) → GreatestLoad (day_of two_contents) (place_in (1 ∷ 1 ∷ [])) l f
told l f c = c.passed_with two_contents two_read (record { largest = l; fullest = f }) refl

pub largest_too_small : AtBound (passed 12 1) → ⊥
unfolding booked_from
largest_too_small c = omega (arith, (told 12 1 c).greatest 1 (omega arith))

pub largest_too_large : AtBound (passed 14 1) → ⊥
unfolding booked_from
largest_too_large c = omega (arith, (told 14 1 c).fullest_load)

pub fullest_has_less : AtBound (passed 13 0) → ⊥
unfolding booked_from
fullest_has_less c = omega (arith, (told 13 0 c).fullest_load)

pub fullest_lacking : AtBound (passed 13 2) → ⊥
fullest_lacking c = omega (arith, (told 13 2 c).fullest_bench)

pub higher_of_a_tie : ListClaim (sheet_bytes even_contents) (1 ∷ 0 ∷ []) (passed 7 1) → ⊥
unfolding booked_from
higher_of_a_tie c =
    let said = c.passed_with even_contents even_read (record { largest = 7; fullest = 1 }) refl in
    omega (arith, said.lower_less 0 (omega arith))
