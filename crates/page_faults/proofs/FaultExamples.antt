-- The faults of small pages, for a head with four benches. Bench 0 is the bit of weight 2 ^ 63.
--     none_found            {0}, {1, 3}: no fault; nor on a page without a set
--     empty_found, foreign_found    number 17 for a set without a bench, and for one with bench 4
--     shared_later          {0}, {1}, {0}: 18 for set 2, which shares a bench with one that is not its neighbour
--     seventeen_first       {0}, {0, 4}: 17 for set 1, though it shares bench 0 as well
--     in_page_order         {0}, {0}, no bench: 18 for set 1; no bench, {0}, {0}: 17 for set 0
--     lowest_bench_unused   {1, 2}, {2, 3}: 18 for set 1, by a bench that is the lowest of one set only
--     last_bench            of a head with 64 benches, {63}, {63}: 18 for set 1
use Prim.Native.Nat.{ℕ, ◌+◌, ◌^◌}
use mathlib.Core.Path.{◌≡◌, refl}
use mathlib.Core.List.{[], ◌∷◌}
use Rattle.bits.specs.Bits.{is_set}
use Rattle.fields.specs.declared.fault.Fault.TheVariants.{SetBench, SharedBench}
use Rattle.std.specs.Prelude.{Ok, Err}
use Rattle.set_check.specs.SetCheck.{foreign_in}
use Rattle.page_faults.specs.PageFaults.{unfit, overlap, shares_earlier, first_faulty, page_verdict}

abbrev bench0 : ℕ
bench0 = 2 ^ 63

abbrev bench1 : ℕ
bench1 = 2 ^ 62

abbrev bench2 : ℕ
bench2 = 2 ^ 61

abbrev bench3 : ℕ
bench3 = 2 ^ 60

abbrev bench4 : ℕ
bench4 = 2 ^ 59

pub none_found : (page_verdict 4 (bench0 ∷ (bench1 + bench3) ∷ []) ≡ Ok tt) × (page_verdict 4 [] ≡ Ok tt)
unfolding unfit overlap shares_earlier first_faulty page_verdict foreign_in is_set
none_found = (refl, refl)

pub empty_found : page_verdict 4 (bench0 ∷ 0 ∷ []) ≡ Err (SetBench 1)
unfolding unfit overlap shares_earlier first_faulty page_verdict foreign_in is_set
empty_found = refl

pub foreign_found : page_verdict 4 (bench0 ∷ bench1 ∷ (bench2 + bench4) ∷ []) ≡ Err (SetBench 2)
unfolding unfit overlap shares_earlier first_faulty page_verdict foreign_in is_set
foreign_found = refl

pub shared_later : page_verdict 4 (bench0 ∷ bench1 ∷ bench0 ∷ []) ≡ Err (SharedBench 2)
unfolding unfit overlap shares_earlier first_faulty page_verdict foreign_in is_set
shared_later = refl

pub seventeen_first : page_verdict 4 (bench0 ∷ (bench0 + bench4) ∷ []) ≡ Err (SetBench 1)
unfolding unfit overlap shares_earlier first_faulty page_verdict foreign_in is_set
seventeen_first = refl

pub in_page_order : (page_verdict 4 (bench0 ∷ bench0 ∷ 0 ∷ []) ≡ Err (SharedBench 1))
    × (page_verdict 4 (0 ∷ bench0 ∷ bench0 ∷ []) ≡ Err (SetBench 0))
unfolding unfit overlap shares_earlier first_faulty page_verdict foreign_in is_set
in_page_order = (refl, refl)

pub lowest_bench_unused : page_verdict 4 ((bench1 + bench2) ∷ (bench2 + bench3) ∷ []) ≡ Err (SharedBench 1)
unfolding unfit overlap shares_earlier first_faulty page_verdict foreign_in is_set
lowest_bench_unused = refl

pub last_bench : page_verdict 64 (1 ∷ 1 ∷ []) ≡ Err (SharedBench 1)
unfolding unfit overlap shares_earlier first_faulty page_verdict foreign_in is_set
last_bench = refl
