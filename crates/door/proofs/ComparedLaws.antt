-- What the word of a comparison tells its caller (request S-8), of the bytes of a sheet and of two tables.
--     word-of_same, word-of_different     1 is told of no other answer than the same, 0 of no other than different
--     told_same           1: the sheet is accepted, and both tables hold one list, which gives each job one allowed
--                         bench; so every bench has the same load
--     told_different      0: the sheet is accepted, both lists give each job one, and some job is on another bench
use Prim.Native.Nat.{ℕ}
use native.Mathlib.Omega.{arith}
use mathlib.Core.Path.{◌≡◌, refl, sym, ap, ◌∙◌}
use mathlib.Core.Logic.{inl, inr}
use mathlib.Core.List.{List}
use Rattle.fields.specs.Contents.{Contents}
use Rattle.frame.specs.Reading.{accepted, read_sheet}
use Rattle.frame.proofs.Stored.{read_cases}
use Rattle.day.specs.Day.{day_of}
use Rattle.comparison.specs.declared.compared.Compared.{Compared}
use Rattle.comparison.specs.declared.compared.Compared.TheVariants.{Same, Different, Fault as ComparedFault}
use Rattle.comparison.specs.Comparison.{compare_plans, Gives, SomeMoved, EqualLoads}
use Rattle.comparison.proofs.ComparisonLaws.{compare_refused, compared_same, compared_different, same-list}
use Rattle.comparison.proofs.PlanLoads.{same_loads}
use Rattle.tables.specs.Tables.{numbers_of}
use Rattle.tables.proofs.WordLaws.{fault_word_large}
use Rattle.door.specs.PlanDoor.{compared_word}

pub word-of_same : (a : Compared) → compared_word a ≡ 1 → a ≡ Same
word-of_same Same e = refl
word-of_same Different e = absurd (omega (arith, e))
word-of_same (ComparedFault f) e = absurd (omega (arith, e, fault_word_large f))

pub word-of_different : (a : Compared) → compared_word a ≡ 0 → a ≡ Different
word-of_different Same e = absurd (omega (arith, e))
word-of_different Different e = refl
word-of_different (ComparedFault f) e = absurd (omega (arith, e, fault_word_large f))

module _ (s first second : List ℕ) where
  abbrev one : List ℕ
  one = numbers_of first

  abbrev two : List ℕ
  two = numbers_of second

  abbrev word : ℕ
  word = compared_word (compare_plans s one two)

  pub told_same : word ≡ 1 → (c : Contents) × (read_sheet s ≡ accepted c)
      × Gives (day_of c) one × (one ≡ two) × EqualLoads (day_of c) one two
  told_same e =
      let same : compare_plans s one two ≡ Same = word-of_same (compare_plans s one two) e in
      elim (read_cases (read_sheet s)) [
        | inl (f, refused) ↦
            let told = ap compared_word (sym (compare_refused s f one two refused) ∙ same) in
            absurd (omega (arith, told, fault_word_large f))
        | inr (c, read) ↦ (
          c,
          read,
          ((compared_same s c read one two).1 same).0,
          same-list s c read one two same,
          same_loads s c read one two same,
        )
      ]

  pub told_different : word ≡ 0 → (c : Contents) × (read_sheet s ≡ accepted c)
      × Gives (day_of c) one × Gives (day_of c) two × SomeMoved (day_of c) one two
  told_different e =
      let other : compare_plans s one two ≡ Different = word-of_different (compare_plans s one two) e in
      elim (read_cases (read_sheet s)) [
        | inl (f, refused) ↦
            let told = ap compared_word (sym (compare_refused s f one two refused) ∙ other) in
            absurd (omega (arith, told, fault_word_large f))
        | inr (c, read) ↦
            let (g, k, moved) = (compared_different s c read one two).1 other in
            (c, read, g, k, moved)
      ]
