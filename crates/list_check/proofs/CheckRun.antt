-- The check of a list follows its definition.
--     within_exact          the test of a load, by products of small numbers
--     bound_of-largest      all loads are within the bound if the largest is
--     largest-found         the largest load and the fullest bench, summed up from what is booked
--     largest-small         the largest load is small
--     found_other, found-not-allowed, found_above, found_passed     the answers for a sound sheet
--     refused_is, accepted_is       the answer for the bytes
use Prim.Native.Nat.{ℕ, ◌+◌, ◌-◌, ◌*◌, ◌≤◌, ◌<◌, ◌^◌}
use mathlib.Core.Path.{◌≡◌, sym, ap, ap₂, ◌∙◌}
use mathlib.Core.Bool.{Bool, true, false}
use mathlib.Core.List.{List}
use native.Mathlib.Omega.{arith}
use native.Mathlib.Nat.{mul-le-mul, le_refl}
use lib.ListN.{length, get_or, replicate, length-replicate}
use lib.Dec.{leb}
use Rattle.bools.proofs.BoolLaws.{bool_ext, tests, and_intro, and-false_left, and-false_right}
use Rattle.sums.specs.Search.{all}
use Rattle.sums.proofs.SearchLaws.{all_intro, all_elim}
use Rattle.sums.proofs.LargestLaws.{largest_bound, largest-le, largest-at, largest_cong, fullest_cong}
use Rattle.fields.specs.declared.sheet.Head.{Head}
use Rattle.fields.specs.declared.sheet.Sheet.{Sheet}
use Rattle.std.specs.Prelude.{Result, Ok, Err}
use Rattle.fields.specs.declared.fault.Fault.{Fault}
use Rattle.fields.specs.declared.fault.Fault.TheVariants.{PlaceCount}
use Rattle.fields.specs.Contents.{Contents}
use Rattle.frame.specs.Reading.{read_sheet, stored}
use Rattle.frame.specs.Sound.{SoundSheet}
use Rattle.frame.specs.Tables.{Tables}
use Rattle.frame.proofs.SheetTables.{tables_of}
use Rattle.frame.proofs.Stored.{verdict_refused, verdict_accepted}
use Rattle.day.specs.Day.{Day, day_of, place_in, load_of, largest_load, largest_of, fullest_of, scale, within_bound}
use Rattle.demand.specs.Demand.{is_assignment, keeps_bound}
use Rattle.answers.specs.declared.check.ListAnswer.{ListAnswer}
use Rattle.answers.specs.declared.check.ListAnswer.TheVariants.{Passed, NotPassed, Fault as Faulty}
use Rattle.arrays.specs.Arrays.{plus_of, times_of, filled}
use Rattle.arrays.proofs.NumberLaws.{plus_fits, times_exact}
use Rattle.arrays.proofs.FilledLaws.{length-filled, get_or-filled}
use Rattle.loads.specs.declared.bench_sum.BenchSum.{BenchSum}
use Rattle.loads.specs.BenchSum.{sum_of}
use Rattle.lists.specs.Lists.{fits_at, load_in, Summed}
use Rattle.lists.proofs.ListLaws.{fits_is, few_jobs, few_benches, small-sum, sum_is}
use Rattle.list_check.specs.ListCheck.{listed_of, check_list}
use Rattle.list_check.specs.ListClaim.{ListClaim}
use Rattle.list_check.proofs.ListLaws.{check_refused, check_accepted, with_claim}
use Rattle.list_check.proofs.ListLaws.{listed_other, listed_passed, listed_not}

-- ── the bound ──

-- Its numbers are small, so products are exact.
pub within_exact : (c : Contents) → SoundSheet c → (h : Head) → h ≡ c.head → (load : ℕ) → load < 2 ^ 30
    → {three five share left right : ℕ} → three ≡ times_of 3 h.q → five ≡ times_of 5 h.q
    → share ≡ plus_of five h.p → left ≡ times_of three load → right ≡ times_of share h.target
    → leb left right ≡ within_bound (day_of c) load
within_exact c sound h e load small {three} {five} {share} et ef es el er =
    let q : ℕ = c.head.q in
    let p : ℕ = c.head.p in
    let t : ℕ = c.head.target in
    let q-fits = sound.head.q_fits in
    let p-fits = sound.head.p_fits in
    let t-fits = sound.head.target_fits in
    let same : h.q ≡ q = ap (λ (x : Head). x.q) e in
    let three-is : three ≡ 3 * q = et ∙ ap (times_of 3) same ∙ times_exact 3 q (omega arith) (omega arith) in
    let five-is : five ≡ 5 * q = ef ∙ ap (times_of 5) same ∙ times_exact 5 q (omega arith) (omega arith) in
    let share-is : share ≡ 5 * q + p =
    es ∙ ap₂ plus_of five-is (ap (λ (x : Head). x.p) e) ∙ plus_fits (5 * q) p (omega arith) in
    ap₂ leb
    (el ∙ ap (λ (k : ℕ). times_of k load) three-is ∙ times_exact (3 * q) load (omega arith) (omega arith))
    (er ∙ ap₂ times_of share-is (ap (λ (x : Head). x.target) e) ∙ times_exact (5 * q + p) t (omega arith) (omega arith))

pub bound_of-largest : (d : Day) (a : ℕ → ℕ) → 0 < d.benches → keeps_bound d a ≡ within_bound d (largest_load d a)
bound_of-largest d a some =
    let load : ℕ → ℕ = load_of d a in
    bool_ext (keeps_bound d a) (within_bound d (largest_load d a))
    (λ p.
    let (v, l, e) = largest-at d.benches load some in
    let here = all_elim d.benches (λ u. within_bound d (load u)) p v l in
    ap (within_bound d) (sym e) ∙ here)
    (λ p. all_intro d.benches (λ u. within_bound d (load u))
    (λ v l. omega (tests, mul-le-mul (le_refl (scale d)) (largest_bound d.benches load v l))))

-- ── a sound sheet ──

module _ (c : Contents) (benches : ℕ) (booked : List ℕ) (jobs : ℕ) (minutes allowed : List ℕ)
    (T : Tables c benches booked jobs minutes allowed) (list : List ℕ) where
  abbrev d : Day
  d = day_of c

  load_is : (v : ℕ) → get_or booked v 0 + load_in jobs minutes list v ≡ load_of d (place_in list) v
  load_is v = ap₂ (λ (a b : ℕ). a + b) (T.booked_are v) (sum_is c _ _ _ _ _ T list v)

  load_small : (v : ℕ) → load_of d (place_in list) v < 2 ^ 30
  load_small v =
      omega (arith, load_is v, T.booked_are v, T.sound.bookings.booked_fit v, small-sum c _ _ _ _ _ T list v)

  pub largest-small : largest_of d list < 2 ^ 30
  largest-small =
      omega (arith, largest-le d.benches (load_of d (place_in list)) (2 ^ 30 - 1) (λ v l. omega (arith, load_small v)))

  -- The table of k loads, filled with what is booked.
  pub largest-found : (k : ℕ) → 64 ≤ k → (after : List ℕ) {before : List ℕ} {r : BenchSum}
      → before ≡ filled benches (λ i. get_or booked i 0) (replicate {A = ℕ} k 0)
      → (jobs ≤ 512 → Summed jobs minutes list before after) → r ≡ sum_of benches after
      → r ≡ record { largest = largest_of d list; fullest = fullest_of d list }
  largest-found k room after {before} {r} eb summed es =
      let zeros : List ℕ = replicate {A = ℕ} k 0 in
      let few = few_benches c _ _ _ _ _ T in
      let sized : length before ≡ k =
      ap length eb ∙ length-filled (λ i. get_or booked i 0) benches zeros ∙ length-replicate {A = ℕ} k 0 in
      let entry : (v : ℕ) → v < d.benches → get_or after v 0 ≡ load_of d (place_in list) v =
      λ v l.
      let begins : get_or before v 0 ≡ get_or booked v 0 =
      ap (λ (xs : List ℕ). get_or xs v 0) eb
      ∙ get_or-filled (λ i. get_or booked i 0) benches zeros v 0 (omega (arith, T.benches_are))
      (omega (arith, T.benches_are, length-replicate {A = ℕ} k 0)) in
      summed (few_jobs c _ _ _ _ _ T) v (omega (arith, T.benches_are)) (omega (arith, begins, load_is v, load_small v))
      ∙ ap (λ (n : ℕ). n + load_in jobs minutes list v) begins ∙ load_is v in
      es ∙ ap (λ (n : ℕ). sum_of n after) T.benches_are
      ∙ ap₂ (λ (a b : ℕ). record { largest = a; fullest = b })
      (largest_cong d.benches (λ v. get_or after v 0) (load_of d (place_in list)) entry)
      (fullest_cong d.benches (λ v. get_or after v 0) (load_of d (place_in list)) entry)

  -- ── what the calls find ──

  pub found_other : (length list ≡ jobs → ⊥) → Faulty PlaceCount ≡ listed_of d list
  found_other ne = sym (listed_other d list (λ e. ne (e ∙ sym T.jobs_are)))

  module _ (one : length list ≡ jobs) {t : Bool} (et : t ≡ all jobs (fits_at allowed list)) where
    abbrev counted : length list ≡ d.jobs
    counted = one ∙ T.jobs_are

    assigned : t ≡ is_assignment d (place_in list)
    assigned = et ∙ fits_is c _ _ _ _ _ T list

    pub found-not-allowed : t ≡ false → NotPassed ≡ listed_of d list
    found-not-allowed n =
        sym (listed_not d list counted (and-false_left (keeps_bound d (place_in list)) (sym assigned ∙ n)))

    module _ (n : t ≡ true) {r : BenchSum}
        (er : r ≡ record { largest = largest_of d list; fullest = fullest_of d list })
        {w : Bool} (ew : r.largest < 2 ^ 30 → w ≡ within_bound d r.largest) where
      largest-is : r.largest ≡ largest_of d list
      largest-is = ap (λ (x : BenchSum). x.largest) er

      kept : w ≡ keeps_bound d (place_in list)
      kept =
          ew (omega (arith, largest-is, largest-small)) ∙ ap (within_bound d) largest-is
          ∙ sym (bound_of-largest d (place_in list) T.sound.head.some_bench)

      pub found_above : w ≡ false → NotPassed ≡ listed_of d list
      found_above m =
          sym (listed_not d list counted (and-false_right (is_assignment d (place_in list)) (sym kept ∙ m)))

      pub found_passed : w ≡ true
          → Passed (record { largest = r.largest; fullest = r.fullest }) ≡ listed_of d list
      found_passed m =
          ap (λ (x : BenchSum). Passed (record { largest = x.largest; fullest = x.fullest })) er
          ∙ sym (listed_passed d list counted
          (and_intro (sym assigned ∙ n) (sym kept ∙ m)))

-- ── the bytes ──

module _ (s list : List ℕ) where
  pub refused_is : {x : Result Sheet Fault} {f : Fault} → x ≡ stored (read_sheet s) → x ≡ Err f
      → (Faulty f ≡ check_list s list) × ListClaim s list (Faulty f)
  refused_is {x} {f} e a = with_claim s list (sym (check_refused s list f (verdict_refused (read_sheet s) e a)))

  pub accepted_is : {x : Result Sheet Fault} (sheet : Sheet) {r : ListAnswer} → x ≡ stored (read_sheet s) → x ≡ Ok sheet
      → ((c : Contents) → sheet.head ≡ c.head
      → Tables c sheet.head.benches sheet.booked sheet.count sheet.minutes sheet.allowed
      → r ≡ listed_of (day_of c) list)
      → (r ≡ check_list s list) × ListClaim s list r
  accepted_is sheet e a told =
      let (c, read, same) = verdict_accepted (read_sheet s) e a in
      with_claim s list
      (told c (ap (λ (y : Sheet). y.head) same) (tables_of s c sheet read same)
      ∙ sym (check_accepted s list c read))
