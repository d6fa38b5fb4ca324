-- Loads of plans that are the same, and of plans that are not (request S-8).
--     equal_loads_of        lists that put every job on the same bench give every bench the same load
--     same_loads            so do two plans that are the same
--     checks_loads          and lists that differ in jobs of 0 minutes alone,
--     moved_check_told      which are not the same plan if one of these jobs is on another bench
--     loads_computed        equal tables of loads are equal loads
use Prim.Native.Nat.{ℕ}
use mathlib.Core.Path.{◌≡◌, sym, ap, ◌∙◌}
use mathlib.Core.List.{List}
use lib.ListN.{get_or}
use Rattle.sums.proofs.TableLaws.{get_or-table}
use Rattle.fields.specs.Contents.{Contents}
use Rattle.frame.specs.Reading.{accepted, read_sheet}
use Rattle.day.specs.Day.{Day, day_of, place_in, load_of, loads_of}
use Rattle.day.proofs.LoadLaws.{load_cong, load_checks}
use Rattle.comparison.specs.declared.compared.Compared.TheVariants.{Same}
use Rattle.comparison.specs.Comparison.{compare_plans, Gives, EqualPlaces, SomeMoved, OnlyChecksMoved}
use Rattle.comparison.specs.Comparison.{EqualLoads, EqualLoadsAlone}
use Rattle.comparison.proofs.ComparisonLaws.{compared_same, compared_different}

module _ (d : Day) (first second : List ℕ) where
  pub equal_loads_of : EqualPlaces d first second → EqualLoads d first second
  equal_loads_of same v l = load_cong d (place_in first) (place_in second) same v

  pub checks_loads : OnlyChecksMoved d first second → EqualLoads d first second
  checks_loads same v l = load_checks d (place_in first) (place_in second) same v

  pub loads_computed : loads_of d first ≡ loads_of d second → EqualLoads d first second
  loads_computed e v l =
      sym (get_or-table d.benches (load_of d (place_in first)) v 0 l)
      ∙ ap (λ (loads : List ℕ). get_or loads v 0) e
      ∙ get_or-table d.benches (load_of d (place_in second)) v 0 l

module _ (s : List ℕ) (c : Contents) (read : read_sheet s ≡ accepted c) (first second : List ℕ) where
  -- "Such plans have equal loads"
  pub same_loads : compare_plans s first second ≡ Same → EqualLoads (day_of c) first second
  same_loads e = equal_loads_of (day_of c) first second ((compared_same s c read first second).1 e).2

  -- "Two plans with equal loads were filed as one although a 0-minute check had moved."
  pub moved_check_told : Gives (day_of c) first → Gives (day_of c) second
      → OnlyChecksMoved (day_of c) first second → SomeMoved (day_of c) first second → EqualLoadsAlone s c first second
  moved_check_told g k checks moved =
      record {
        read = read;
        first_gives = g;
        second_gives = k;
        equal_loads = checks_loads (day_of c) first second checks;
        different = (compared_different s c read first second).0 g k moved;
      }
