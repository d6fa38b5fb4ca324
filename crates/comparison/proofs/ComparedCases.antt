-- The four answers for an accepted sheet, by whether the first list gives each job a bench (a), whether the second
-- does (b), and whether the places are the same (c).
--     first-faulty, second_faulty, all_same, not_same     each answer from the three tests
--     of_first_fault, of_second_fault, of_same, of_different      and back
use mathlib.Core.Path.{◌≡◌, refl}
use mathlib.Core.Bool.{Bool, true, false}
use Rattle.fields.specs.declared.fault.Fault.TheVariants.{Table}
use Rattle.comparison.specs.declared.compared.Compared.TheVariants.{Same, Different, Fault as ComparedFault}
use Rattle.comparison.specs.Comparison.{compared_by}

module _ (a b c : Bool) where
  pub first-faulty : a ≡ false → compared_by a b c ≡ ComparedFault (Table 0)
  first-faulty p = rw p

  pub second_faulty : a ≡ true → b ≡ false → compared_by a b c ≡ ComparedFault (Table 1)
  second_faulty p q = rw (p, q)

  pub all_same : a ≡ true → b ≡ true → c ≡ true → compared_by a b c ≡ Same
  all_same p q r = rw (p, q, r)

  pub not_same : a ≡ true → b ≡ true → c ≡ false → compared_by a b c ≡ Different
  not_same p q r = rw (p, q, r)

pub of_first_fault : (a b c : Bool) → compared_by a b c ≡ ComparedFault (Table 0) → a ≡ false
of_first_fault false b c e = refl
of_first_fault true false c e = cc
of_first_fault true true false e = cc
of_first_fault true true true e = cc

pub of_second_fault : (a b c : Bool) → compared_by a b c ≡ ComparedFault (Table 1) → (a ≡ true) × (b ≡ false)
of_second_fault false b c e = cc
of_second_fault true false c e = (refl, refl)
of_second_fault true true false e = cc
of_second_fault true true true e = cc

pub of_same : (a b c : Bool) → compared_by a b c ≡ Same → (a ≡ true) × (b ≡ true) × (c ≡ true)
of_same false b c e = cc
of_same true false c e = cc
of_same true true false e = cc
of_same true true true e = (refl, refl, refl)

pub of_different : (a b c : Bool) → compared_by a b c ≡ Different → (a ≡ true) × (b ≡ true) × (c ≡ false)
of_different false b c e = cc
of_different true false c e = cc
of_different true true false e = (refl, refl, refl)
of_different true true true e = cc
