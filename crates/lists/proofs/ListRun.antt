-- A list of places, entry by entry.
--     all_over            a call of `all` over the numbers below n answers whether f holds of each
--     list_summed         the loads with the minutes of a list, from the tables filled with both
use Prim.Native.Nat.{ℕ, ◌≤◌, ◌<◌}
use mathlib.Core.Path.{◌≡◌, sym, ap, subst, ◌∙◌}
use mathlib.Core.Bool.{Bool, true, false}
use mathlib.Core.List.{List}
use native.Mathlib.Omega.{arith}
use lib.ListN.{length, get_or, replicate, length-replicate}
use Rattle.std.specs.Bool.{MatchBool}
use Rattle.std.specs.List.{range_with_len, AllWithin, HoldsAt}
use Rattle.std.proofs.lemmas.List.FromFn.{length-range_with_len, get_or-range_with_len}
use Rattle.sums.specs.Search.{all}
use Rattle.sums.proofs.SearchLaws.{all_intro, all-fails}
use Rattle.sums.proofs.SumLaws.{sum_cong}
use Rattle.arrays.specs.Arrays.{filled}
use Rattle.arrays.proofs.FilledLaws.{get_or-filled}
use Rattle.loads.specs.Loads.{minutes_on, bench_loads}
use Rattle.loads.proofs.LoadLaws.{bench_load}
use Rattle.lists.specs.Lists.{load_in, Summed}

-- ── a call of `all` over the numbers below n ──

-- The number at place i.
place : (n i : ℕ) → i < n → get_or (range_with_len 0 n) i 0 ≡ i
place n i l = omega (arith, get_or-range_with_len 0 n i 0 l)

pub all_over : (n : ℕ) (f : ℕ → Bool) (r : Bool)
    → MatchBool r (AllWithin (λ j. f j ≡ true) (range_with_len 0 n) 0 (length (range_with_len 0 n)))
    ((k : ℕ) × (k < length (range_with_len 0 n)) × HoldsAt (λ j. f j ≡ false) (range_with_len 0 n) k)
    → r ≡ all n f
all_over n f true w =
    sym (all_intro n f (λ j l.
    let within : j < length (range_with_len 0 n) = omega (arith, length-range_with_len 0 n) in
    subst (λ (k : ℕ). f k ≡ true) (place n j l) (w j 0 (omega arith) within)))
all_over n f false (k, l, w) =
    let below : k < n = omega (arith, length-range_with_len 0 n) in
    sym (all-fails n f k below (subst (λ (j : ℕ). f j ≡ false) (place n k below) (w 0)))

-- ── loads ──

-- Tables of k entries, filled with the minutes and with the list.
module _ (k jobs : ℕ) (minutes list : List ℕ) (room : jobs ≤ k) {amount place : List ℕ}
    (ea : amount ≡ filled jobs (λ i. get_or minutes i 0) (replicate {A = ℕ} k 0))
    (ep : place ≡ filled jobs (λ i. get_or list i 0) (replicate {A = ℕ} k 0)) where
  minutes_are : (v : ℕ) → load_in jobs amount place v ≡ load_in jobs minutes list v
  minutes_are v =
      sum_cong jobs (minutes_on amount place v) (minutes_on minutes list v)
      (λ j h.
      let wide : j < length (replicate {A = ℕ} k 0) = omega (arith, length-replicate {A = ℕ} k 0) in
      let a : get_or amount j 0 ≡ get_or minutes j 0 =
      ap (λ (x : List ℕ). get_or x j 0) ea
      ∙ get_or-filled (λ i. get_or minutes i 0) jobs (replicate {A = ℕ} k 0) j 0 h wide in
      let p : get_or place j 0 ≡ get_or list j 0 =
      ap (λ (x : List ℕ). get_or x j 0) ep
      ∙ get_or-filled (λ i. get_or list i 0) jobs (replicate {A = ℕ} k 0) j 0 h wide in
      rw (a, p))

  pub list_summed : (before : List ℕ) {after : List ℕ} → after ≡ bench_loads jobs amount place before
      → Summed jobs minutes list before after
  list_summed before e v h fits =
      let same = minutes_are v in
      bench_load jobs amount place before e v h (omega (arith, same, fits)) ∙ omega (arith, same)
