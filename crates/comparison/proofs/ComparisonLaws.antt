-- Laws of the comparison (document 01, "The three answers", and request S-8). For an accepted sheet each answer is
-- given exactly where its sentence says.
--     gives-true, true-gives    the test gives_each, and the fact that it tests
--     equal-true, true-equal    the test same_places, and the fact that it tests
--     moved-false, false-moved  the same of the test that fails
--     compare_refused           a refused sheet: its fault, whatever the lists are
--     compare_accepted          an accepted sheet: the answer for its day
--     compared_fault_first      fault 13, place 0: the first list is not good
--     compared_fault_second     fault 13, place 1: the first list is good, and the second is not
--     compared_same             same: both lists are good, and every job is on the same bench
--     compared_different        different: both are good, and some job is on another bench
--     compare-same-list, compare_symmetric, compare_transitive    same is an equivalence of the good lists of a sheet
--     same-list                 lists that are the same have the same length and the same entries
use Prim.Native.Nat.{ℕ}
use mathlib.Core.Path.{◌≡◌, sym, ap, ap₂, ◌∙◌, refl}
use mathlib.Core.Bool.{Bool, true, false}
use mathlib.Core.Logic.{inl, inr}
use mathlib.Core.List.{List}
use native.Mathlib.Omega.{arith}
use lib.ListN.{length}
use lib.Dec.{eqb}
use lib.Seq.{ext_get_or}
use borrow.Author.Tests.{eq-eqb, eqb-true, eqb-false, ne_eqb}
use Rattle.bools.proofs.BoolLaws.{split, clash, and_intro, and_left, and_right, eqb_sym}
use Rattle.sums.proofs.SearchLaws.{all_intro, all_elim, all-fails, all-false, all_cong}
use Rattle.fields.specs.declared.fault.Fault.{Fault}
use Rattle.fields.specs.declared.fault.Fault.TheVariants.{Table}
use Rattle.fields.specs.Contents.{Contents}
use Rattle.frame.specs.Reading.{accepted, refused, read_sheet}
use Rattle.frame.proofs.Stored.{read_cases}
use Rattle.day.specs.Day.{Day, day_of, place_in}
use Rattle.demand.specs.Demand.{is_assignment}
use Rattle.comparison.specs.declared.compared.Compared.TheVariants.{Same, Different, Fault as ComparedFault}
use Rattle.comparison.specs.Comparison.{gives_each, same_place, same_places, compared_by, compared_of, compare_plans}
use Rattle.comparison.specs.Comparison.{Gives, Good, EqualPlaces, SomeMoved}
use Rattle.comparison.proofs.ComparedCases.{first-faulty, second_faulty, all_same, not_same}
use Rattle.comparison.proofs.ComparedCases.{of_first_fault, of_second_fault, of_same, of_different}

-- ── the two tests ──

module _ (d : Day) where
  module _ (list : List ℕ) where
    abbrev long_enough : Bool
    long_enough = eqb (length list) d.jobs

    abbrev on_bench : ℕ → Bool
    on_bench j = d.allows j (place_in list j)

    pub true-gives : gives_each d list ≡ true → Gives d list
    true-gives p =
        record {
          one_to_a_job = eqb-true (length list) d.jobs (and_left long_enough (is_assignment d (place_in list)) p);
          assignment = record {
            on_allowed = all_elim d.jobs on_bench (and_right long_enough (is_assignment d (place_in list)) p);
          };
        }

    pub gives-true : Gives d list → gives_each d list ≡ true
    gives-true g =
        and_intro (eq-eqb (length list) d.jobs g.one_to_a_job)
        (all_intro d.jobs on_bench g.assignment.on_allowed)

    gives_not : (Gives d list → ⊥) → gives_each d list ≡ false
    gives_not n = elim (split (gives_each d list)) [ inl p ↦ absurd (n (true-gives p)) | inr p ↦ p ]

    not_gives : gives_each d list ≡ false → Gives d list → ⊥
    not_gives p g = clash (gives-true g) p

  module _ (first second : List ℕ) where
    abbrev one : ℕ → ℕ
    one = place_in first

    abbrev two : ℕ → ℕ
    two = place_in second

    pub true-equal : same_places d first second ≡ true → EqualPlaces d first second
    true-equal p j l = eqb-true (one j) (two j) (all_elim d.jobs (same_place first second) p j l)

    pub equal-true : EqualPlaces d first second → same_places d first second ≡ true
    equal-true e = all_intro d.jobs (same_place first second) (λ j l. eq-eqb (one j) (two j) (e j l))

    pub false-moved : same_places d first second ≡ false → SomeMoved d first second
    false-moved p =
        let (j, l, other) = all-false d.jobs (same_place first second) p in
        (j, l, eqb-false (one j) (two j) other)

    pub moved-false : SomeMoved d first second → same_places d first second ≡ false
    moved-false (j, l, other) = all-fails d.jobs (same_place first second) j l (ne_eqb (one j) (two j) other)

    same-places_sym : same_places d first second ≡ same_places d second first
    same-places_sym =
        all_cong d.jobs (same_place first second) (same_place second first) (λ j l. eqb_sym (one j) (two j))

-- ── each answer ──

-- "After faults 1 to 12"
pub compare_refused : (s : List ℕ) (f : Fault) (first second : List ℕ) → read_sheet s ≡ refused f
    → compare_plans s first second ≡ ComparedFault f
unfolding compare_plans
compare_refused s f first second e = rw (e, compare_plans)

module _ (s : List ℕ) (c : Contents) (read : read_sheet s ≡ accepted c) (first second : List ℕ) where
  abbrev d : Day
  d = day_of c

  pub compare_accepted : compare_plans s first second ≡ compared_of d first second
  unfolding compare_plans
  compare_accepted = rw (read, compare_plans)

  abbrev gives_first : Bool
  gives_first = gives_each d first

  abbrev gives_second : Bool
  gives_second = gives_each d second

  abbrev same : Bool
  same = same_places d first second

  -- "a list that does not give each job one allowed bench is fault 13, place 0 for the first list"
  pub compared_fault_first : ((Gives d first → ⊥) → compare_plans s first second ≡ ComparedFault (Table 0))
      × (compare_plans s first second ≡ ComparedFault (Table 0) → Gives d first → ⊥)
  compared_fault_first = (
    λ n. compare_accepted ∙ first-faulty gives_first gives_second same (gives_not d first n),
    λ e. not_gives d first (of_first_fault gives_first gives_second same (sym compare_accepted ∙ e)),
  )

  -- "and 1 for the second, the first judged first"
  pub compared_fault_second : (Gives d first → (Gives d second → ⊥)
      → compare_plans s first second ≡ ComparedFault (Table 1))
      × (compare_plans s first second ≡ ComparedFault (Table 1) → Gives d first × (Gives d second → ⊥))
  compared_fault_second = (
    λ g n. compare_accepted
        ∙ second_faulty gives_first gives_second same (gives-true d first g) (gives_not d second n),
    λ e. let (p, q) = of_second_fault gives_first gives_second same (sym compare_accepted ∙ e) in
        (true-gives d first p, not_gives d second q),
  )

  -- Request S-8: "plans are the same when every job is on the same bench"
  pub compared_same : (Gives d first → Gives d second → EqualPlaces d first second
      → compare_plans s first second ≡ Same)
      × (compare_plans s first second ≡ Same → Gives d first × Gives d second × EqualPlaces d first second)
  compared_same = (
    λ g k e. compare_accepted
        ∙ all_same gives_first gives_second same (gives-true d first g) (gives-true d second k)
        (equal-true d first second e),
    λ e. let (p, q, r) = of_same gives_first gives_second same (sym compare_accepted ∙ e) in
        (true-gives d first p, true-gives d second q, true-equal d first second r),
  )

  pub compared_different : (Gives d first → Gives d second → SomeMoved d first second
      → compare_plans s first second ≡ Different)
      × (compare_plans s first second ≡ Different → Gives d first × Gives d second × SomeMoved d first second)
  compared_different = (
    λ g k n. compare_accepted
        ∙ not_same gives_first gives_second same (gives-true d first g) (gives-true d second k)
        (moved-false d first second n),
    λ e. let (p, q, r) = of_different gives_first gives_second same (sym compare_accepted ∙ e) in
        (true-gives d first p, true-gives d second q, false-moved d first second r),
  )

-- ── an equivalence ──

-- A good list, compared with itself.
pub compare-same-list : (s : List ℕ) (c : Contents) → read_sheet s ≡ accepted c
    → (list : List ℕ) → Gives (day_of c) list → compare_plans s list list ≡ Same
compare-same-list s c read list g = (compared_same s c read list list).0 g g (λ j l. refl)

-- Good lists may change places; so may any two where the sheet is refused.
pub compare_symmetric : (s first second : List ℕ) → Good s first → Good s second
    → compare_plans s first second ≡ compare_plans s second first
compare_symmetric s first second g k = elim (read_cases (read_sheet s)) [
  | inl (f, e) ↦ compare_refused s f first second e ∙ sym (compare_refused s f second first e)
  | inr (c, e) ↦
      let d : Day = day_of c in
      let p : gives_each d first ≡ true = gives-true d first (g c e) in
      let q : gives_each d second ≡ true = gives-true d second (k c e) in
      compare_accepted s c e first second
      ∙ ap₂ (λ (a b : Bool). compared_by a b (same_places d first second)) (p ∙ sym q) (q ∙ sym p)
      ∙ ap (compared_by (gives_each d second) (gives_each d first)) (same-places_sym d first second)
      ∙ sym (compare_accepted s c e second first)
]

pub compare_transitive : (s : List ℕ) (c : Contents) → read_sheet s ≡ accepted c
    → (first second third : List ℕ)
    → compare_plans s first second ≡ Same → compare_plans s second third ≡ Same → compare_plans s first third ≡ Same
compare_transitive s c read first second third e f =
    let (g, _, one) = (compared_same s c read first second).1 e in
    let (_, k, two) = (compared_same s c read second third).1 f in
    (compared_same s c read first third).0 g k (λ j l. one j l ∙ two j l)

-- So the same plan is the same list, which gives each job one allowed bench.
pub same-list : (s : List ℕ) (c : Contents) → read_sheet s ≡ accepted c
    → (first second : List ℕ) → compare_plans s first second ≡ Same → first ≡ second
same-list s c read first second e =
    let (g, k, same) = (compared_same s c read first second).1 e in
    ext_get_or 0 first second (g.one_to_a_job ∙ sym k.one_to_a_job)
    (λ j l. same j (omega (arith, g.one_to_a_job)))
