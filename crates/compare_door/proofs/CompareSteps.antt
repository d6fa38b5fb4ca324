-- Comparing through the door, from what the two loads and the comparison ensure: 513 entries of each list are enough.
--     list_needed           all of a list is among its first 513 entries, or neither the list nor these give each job
--                           one bench
--     lists_enough          the comparison gives the same for the first 513 entries as for all
--     same_word, different_word, fault_word_lem  what is returned
use Prim.Native.Nat.{ℕ, ◌≤◌}
use native.Mathlib.Omega.{arith}
use mathlib.Core.Path.{◌≡◌, sym, ap, ap₂, ◌∙◌}
use mathlib.Core.Logic.{◌⊎◌, inl, inr}
use mathlib.Core.Bool.{false}
use mathlib.Core.List.{List}
use lib.ListN.{length, take}
use borrow.Author.Tests.{ne_eqb}
use Rattle.bools.proofs.BoolLaws.{and-false_left}
use Rattle.fields.specs.declared.fault.Fault.{Fault}
use Rattle.frame.specs.Reading.{read_sheet}
use Rattle.frame.proofs.AcceptedLaws.{accepted_sound}
use Rattle.frame.proofs.Stored.{read_cases}
use Rattle.day.specs.Day.{Day, day_of}
use Rattle.lists.proofs.ListLaws.{front_enough}
use Rattle.comparison.specs.declared.compared.Compared.{Compared}
use Rattle.comparison.specs.declared.compared.Compared.TheVariants.{Same, Different, Fault as ComparedFault}
use Rattle.comparison.specs.Comparison.{gives_each, compared_of, compare_plans}
use Rattle.tables.specs.Tables.{numbers_of}
use Rattle.tables.specs.Words.{fault_word}
use Rattle.door.specs.PlanDoor.{compared_word}

-- ── the first 513 entries ──

module _ (d : Day) (few : d.jobs ≤ 512) where
  list_needed : (xs : List ℕ) → (take 513 xs ≡ xs) ⊎ ((gives_each d (take 513 xs) ≡ false) × (gives_each d xs ≡ false))
  list_needed xs = elim (front_enough 513 d.jobs (omega arith) xs) [
    | inl all ↦ inl all
    | inr (a, b) ↦ inr (
      and-false_left _ (ne_eqb (length (take 513 xs)) d.jobs a),
      and-false_left _ (ne_eqb (length xs) d.jobs b),
    )
  ]

  compared_enough : (xs ys : List ℕ) → compared_of d (take 513 xs) (take 513 ys) ≡ compared_of d xs ys
  compared_enough xs ys = elim (list_needed xs) [
    | inr a ↦ rw (a.0, a.1)
    | inl a ↦ elim (list_needed ys) [
      | inl b ↦ ap₂ (compared_of d) a b
      | inr b ↦ rw (a, b.0, b.1)
    ]
  ]

pub lists_enough : (s xs ys : List ℕ) → compare_plans s (take 513 xs) (take 513 ys) ≡ compare_plans s xs ys
unfolding compare_plans
lists_enough s xs ys = elim (read_cases (read_sheet s)) [
  | inl (f, e) ↦ rw (e, compare_plans)
  | inr (c, e) ↦ rw (e, compare_plans) (compared_enough (day_of c) (accepted_sound s c e).at_most_512_jobs xs ys)
]

-- ── what is returned ──

module _ (s first second : List ℕ) {xs ys : List ℕ} {c : Compared}
    (p : xs ≡ take 513 (numbers_of first)) (q : ys ≡ take 513 (numbers_of second)) (e : c ≡ compare_plans s xs ys) where
  compared : c ≡ compare_plans s (numbers_of first) (numbers_of second)
  compared = e ∙ ap₂ (compare_plans s) p q ∙ lists_enough s (numbers_of first) (numbers_of second)

  pub same_word : c ≡ Same → 1 ≡ compared_word (compare_plans s (numbers_of first) (numbers_of second))
  same_word a = ap compared_word (sym a ∙ compared)

  pub different_word : c ≡ Different → 0 ≡ compared_word (compare_plans s (numbers_of first) (numbers_of second))
  different_word a = ap compared_word (sym a ∙ compared)

  pub fault_word_lem : {f : Fault} {r : ℕ} → c ≡ ComparedFault f → r ≡ fault_word f
      → r ≡ compared_word (compare_plans s (numbers_of first) (numbers_of second))
  fault_word_lem a b = b ∙ ap compared_word (sym a ∙ compared)
