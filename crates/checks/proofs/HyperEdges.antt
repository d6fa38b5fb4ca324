-- Fault 12 over two tables, as the program finds it.
--     table_job ms bs n     job n of two tables
--     longest-table         W of the jobs of two tables is the greatest entry of the first
--     product_fits          a product of a share's part and a job's minutes is far below 2 ^ 64
--     heavy-table, light_benches, light_minutes     the test of one job by the number of its set bits
--     heavy_found           the first job that the test holds of is the fault's place
--     heavy_none            no such job, no fault
--     wide_p, wide_q, wide_minutes      a number that is too wide: nothing is found
--     none_wide             no number is too wide: the verdict is that of fault 12
--     checked_fits          the same for the numbers of two tables
use Prim.Native.Nat.{ℕ, ◌*◌, ◌^◌, ◌≤◌, ◌<◌}
use mathlib.Core.Path.{◌≡◌, refl, sym, ap, subst, ◌∙◌}
use mathlib.Core.Bool.{true, false, or-true}
use mathlib.Core.List.{List}
use native.Mathlib.Nat.{mul-le-mul}
use native.Mathlib.Omega.{arith}
use lib.ListN.{get_or}
use lib.Count.{ones}
use lib.Dec.{leb}
use borrow.Author.Tests.{lt-ltb, le-ltb, le-leb, lt-leb}
use Rattle.bools.proofs.BoolLaws.{and-false_right}
use Rattle.sums.specs.Sum.{count, largest}
use Rattle.sums.proofs.LargestLaws.{largest_cong, largest-le}
use Rattle.sums.proofs.TableLaws.{length-table, get_or-table}
use Rattle.bits.proofs.SetBits.{count-is_set}
use Rattle.fields.specs.declared.sheet.Head.{Head}
use Rattle.fields.specs.declared.sheet.Job.{Job}
use Rattle.fields.specs.declared.fault.Fault.TheVariants.{HeavyHyperEdge}
use Rattle.std.specs.Prelude.{Ok, Err}
use Rattle.fields.specs.Format.{allows}
use Rattle.fields.specs.Tests.{no_minutes, job_table, job_at, no_job, longest, heavy_hyper_edge, heavy_hyper_edge_at}
use Rattle.fields.specs.Tests.{hyper_edge_verdict}
use Rattle.checks.specs.HyperEdgeCheck.{hyper_edges_checked}
use Rattle.fields.proofs.HyperEdgeLaws.{hyper_edge_lowest, hyper_edge_none}

abbrev pub table_job : List ℕ → List ℕ → ℕ → Job
table_job ms bs n = record { minutes = get_or ms n no_minutes; allowed = get_or bs n 0 }

pub product_fits : (a b : ℕ) → a < 128 → b ≤ 2 ^ 20 → a * b < 2 ^ 64
product_fits a b ha hb =
    let ha' : a ≤ 127 = omega arith in
    omega (arith, mul-le-mul ha' hb)

module _ (ms bs : List ℕ) (n : ℕ) where
  pub job_at-table : (i : ℕ) → i < n → job_at (job_table n ms bs) i ≡ table_job ms bs i
  job_at-table i h = get_or-table n (table_job ms bs) i no_job h

  pub longest-table : longest (job_table n ms bs) ≡ largest n (λ i. get_or ms i no_minutes)
  longest-table =
      ap (λ (k : ℕ). largest k (λ i. (job_at (job_table n ms bs) i).minutes)) (length-table n (table_job ms bs))
      ∙ largest_cong n _ _ (λ i h. ap (λ (j : Job). j.minutes) (job_at-table i h))

  module _ (h : Head) (w : ℕ) (is-longest : w ≡ largest n (λ i. get_or ms i no_minutes)) where
    at_table : (i : ℕ) → i < n → heavy_hyper_edge_at h (job_table n ms bs) i ≡ heavy_hyper_edge h w (table_job ms bs i)
    at_table i below = rw (longest-table, job_at-table i below, is-longest)

    pub wide_minutes : 2 ^ 20 ≤ w → hyper_edges_checked h (job_table n ms bs) ≡ Ok tt
    unfolding hyper_edges_checked
    wide_minutes e =
        let wide : leb (2 ^ 20) (longest (job_table n ms bs)) ≡ true =
        le-leb (2 ^ 20) (longest (job_table n ms bs)) (omega (arith, longest-table, is-longest)) in
        rw (wide, or-true)

    pub none_wide : h.p < 128 → h.q < 128 → w < 2 ^ 20
        → hyper_edges_checked h (job_table n ms bs) ≡ hyper_edge_verdict h (job_table n ms bs)
    unfolding hyper_edges_checked
    none_wide p q l =
        let narrow : leb (2 ^ 20) (longest (job_table n ms bs)) ≡ false =
        lt-leb (2 ^ 20) (longest (job_table n ms bs)) (omega (arith, longest-table, is-longest)) in
        rw (narrow, lt-leb 128 h.p p, lt-leb 128 h.q q)

    pub heavy_found : (i : ℕ) → i < n → heavy_hyper_edge h w (table_job ms bs i) ≡ true
        → ((k : ℕ) → k < i → heavy_hyper_edge h w (table_job ms bs k) ≡ false)
        → hyper_edge_verdict h (job_table n ms bs) ≡ Err (HeavyHyperEdge i)
    heavy_found i below heavy lower =
        hyper_edge_lowest h (job_table n ms bs) i
        record {
          is_job = subst (λ (k : ℕ). i < k) (sym (length-table n (table_job ms bs))) below;
          is_heavy = at_table i below ∙ heavy;
          none_lower = λ k lt. at_table k (omega arith) ∙ lower k lt;
        }

    pub heavy_none : ((k : ℕ) → k < n → heavy_hyper_edge h w (table_job ms bs k) ≡ false) → hyper_edge_verdict h (job_table n ms bs) ≡ Ok tt
    heavy_none none =
        hyper_edge_none h (job_table n ms bs)
        (λ k below. let lt : k < n = subst (λ (m : ℕ). k < m) (length-table n (table_job ms bs)) below in at_table k lt ∙ none k lt)

  pub checked_fits : (h : Head) → (h.p < 128) × (h.q < 128) × ((i : ℕ) → i < n → get_or ms i no_minutes < 2 ^ 20)
      → hyper_edges_checked h (job_table n ms bs) ≡ hyper_edge_verdict h (job_table n ms bs)
  checked_fits h fits =
      let small = largest-le n (λ i. get_or ms i no_minutes) 1048575 (λ i lt. omega (arith, fits.2 i lt)) in
      none_wide h (largest n (λ i. get_or ms i no_minutes)) refl fits.0 fits.1 (omega (arith, small))

module _ (h : Head) (js : List Job) where
  pub wide_p : 128 ≤ h.p → hyper_edges_checked h js ≡ Ok tt
  unfolding hyper_edges_checked
  wide_p e = simp (le-leb 128 h.p e)

  pub wide_q : 128 ≤ h.q → hyper_edges_checked h js ≡ Ok tt
  unfolding hyper_edges_checked
  wide_q e = simp (le-leb 128 h.q e, or-true)

module _ (h : Head) (w : ℕ) (j : Job) (fits : j.allowed < 2 ^ 64) where
  pub heavy-job : 3 ≤ ones j.allowed → h.p * w < h.q * j.minutes → heavy_hyper_edge h w j ≡ true
  heavy-job many more = rw (count-is_set 64 j.allowed fits, le-leb 3 (ones j.allowed) many, lt-ltb (h.p * w) (h.q * j.minutes) more)

  pub light_benches : ones j.allowed < 3 → heavy_hyper_edge h w j ≡ false
  light_benches few = rw (count-is_set 64 j.allowed fits, lt-leb 3 (ones j.allowed) few)

  pub light_minutes : h.q * j.minutes ≤ h.p * w → heavy_hyper_edge h w j ≡ false
  light_minutes less = and-false_right (leb 3 (count 64 (allows j))) (le-ltb (h.p * w) (h.q * j.minutes) less)
