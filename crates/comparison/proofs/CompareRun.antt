-- The comparison of plans follows its definition.
--     gives_is, same-is         of the tables and of the day: a bench of each set, the same places
--     found_first_faulty, found_second_faulty, found-same, found_different     the four answers for a sound sheet
--     refused_is, accepted_is   the answer for the bytes
use Prim.Native.Nat.{ℕ}
use mathlib.Core.Path.{◌≡◌, sym, ap, ap₂, ◌∙◌}
use mathlib.Core.Bool.{Bool, true, false, ◌&&◌}
use mathlib.Core.List.{List}
use lib.ListN.{length}
use lib.Dec.{eqb}
use Rattle.sums.specs.Search.{all}
use Rattle.std.specs.Prelude.{Result, Ok, Err}
use Rattle.fields.specs.declared.sheet.Sheet.{Sheet}
use Rattle.fields.specs.declared.fault.Fault.{Fault}
use Rattle.fields.specs.declared.fault.Fault.TheVariants.{Table}
use Rattle.fields.specs.Contents.{Contents}
use Rattle.frame.specs.Reading.{read_sheet, stored}
use Rattle.frame.specs.Tables.{Tables}
use Rattle.frame.proofs.SheetTables.{tables_of}
use Rattle.frame.proofs.Stored.{verdict_refused, verdict_accepted}
use Rattle.day.specs.Day.{Day, day_of}
use Rattle.lists.proofs.ListLaws.{fits_is}
use Rattle.comparison.specs.declared.compared.Compared.{Compared}
use Rattle.comparison.specs.declared.compared.Compared.TheVariants.{Same, Different, Fault as ComparedFault}
use Rattle.comparison.specs.Comparison.{gives_each, same_place, same_places, compared_of, compare_plans}
use Rattle.comparison.specs.CompareArrays.{gives_in}
use Rattle.comparison.proofs.ComparedCases.{first-faulty, second_faulty, all_same, not_same}

-- ── a sound sheet ──

module _ (c : Contents) (benches : ℕ) (booked : List ℕ) (jobs : ℕ) (minutes allowed : List ℕ)
    (T : Tables c benches booked jobs minutes allowed) where
  abbrev d : Day
  d = day_of c

  pub gives_is : (list : List ℕ) → gives_in jobs allowed list ≡ gives_each d list
  gives_is list = ap₂ (λ (n : ℕ) (b : Bool). eqb (length list) n && b) T.jobs_are (fits_is c _ _ _ _ _ T list)

  pub same-is : (first second : List ℕ) → all jobs (same_place first second) ≡ same_places d first second
  same-is first second = ap (λ (n : ℕ). all n (same_place first second)) T.jobs_are

  -- What the calls find: whether each list gives each job a bench, and whether the places are the same.
  module _ (first second : List ℕ) {t : Bool} (e : t ≡ gives_in jobs allowed first) where
    abbrev one : Bool
    one = gives_each d first

    abbrev two : Bool
    two = gives_each d second

    abbrev same : Bool
    same = same_places d first second

    pub found_first_faulty : t ≡ false → ComparedFault (Table 0) ≡ compared_of d first second
    found_first_faulty n = sym (first-faulty one two same (sym (e ∙ gives_is first) ∙ n))

    module _ (n : t ≡ true) {u : Bool} (f : u ≡ gives_in jobs allowed second) where
      given_first : one ≡ true
      given_first = sym (e ∙ gives_is first) ∙ n

      pub found_second_faulty : u ≡ false → ComparedFault (Table 1) ≡ compared_of d first second
      found_second_faulty m =
          sym (second_faulty one two same given_first (sym (f ∙ gives_is second) ∙ m))

      module _ (m : u ≡ true) {w : Bool} (g : w ≡ all jobs (same_place first second)) where
        given_second : two ≡ true
        given_second = sym (f ∙ gives_is second) ∙ m

        same-found : w ≡ same
        same-found = g ∙ same-is first second

        pub found-same : w ≡ true → Same ≡ compared_of d first second
        found-same p = sym (all_same one two same given_first given_second (sym same-found ∙ p))

        pub found_different : w ≡ false → Different ≡ compared_of d first second
        found_different p = sym (not_same one two same given_first given_second (sym same-found ∙ p))

-- ── the bytes ──

module _ (s first second : List ℕ) where
  pub refused_is : {x : Result Sheet Fault} {f : Fault} → x ≡ stored (read_sheet s) → x ≡ Err f
      → ComparedFault f ≡ compare_plans s first second
  unfolding compare_plans
  refused_is e a = rw (verdict_refused (read_sheet s) e a, compare_plans)

  pub accepted_is : {x : Result Sheet Fault} (sheet : Sheet) {r : Compared} → x ≡ stored (read_sheet s) → x ≡ Ok sheet
      → ((c : Contents) (benches : ℕ) (booked minutes : List ℕ)
      → Tables c benches booked sheet.count minutes sheet.allowed
      → r ≡ compared_of (day_of c) first second)
      → r ≡ compare_plans s first second
  unfolding compare_plans
  accepted_is sheet e a told =
      let (c, read, same) = verdict_accepted (read_sheet s) e a in
      rw (read, compare_plans) (told c _ _ _ (tables_of s c sheet read same))
