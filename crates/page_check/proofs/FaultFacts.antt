-- The faults of a page as facts about its sets.
--     bench_small       a bench of a set is one of 64
--     improper-unfit, proper_fit, fit_proper    number 17
--     shares_found, found_shared                number 18
--     verdict_17, verdict_18, verdict_none      what is found of one set
--     faultless_none, none_faultless            no fault is found exactly if the sets have none
--     page_fault, page_none                     the first fault, and none
use Prim.Native.Nat.{ℕ, ◌<◌}
use mathlib.Core.Path.{◌≡◌, refl, sym, ap, ◌∙◌}
use mathlib.Core.Bool.{Bool, true, false, not, ◌&&◌}
use mathlib.Core.Logic.{inl, inr}
use mathlib.Core.List.{List}
use native.Mathlib.Omega.{arith}
use lib.Dec.{ltb}
use lib.ListN.{length}
use borrow.Author.Tests.{lt-ltb, le-ltb}
use Rattle.bools.proofs.BoolLaws.{split, clash, and_intro, and_left, and_right, or_left, or_right, or-false}
use Rattle.bools.proofs.BoolLaws.{or-false_left, or-false_right, not_intro_true, not_intro_false, not-false, cond-true}
use Rattle.bools.proofs.OrderLaws.{lt-or-le}
use Rattle.bits.specs.Bits.{is_set}
use Rattle.bits.proofs.SetBits.{is_set-past}
use Rattle.sums.specs.Search.{any}
use Rattle.sums.proofs.SearchLaws.{any_intro, any_elim, any_false, least-found, least-none}
use Rattle.sums.proofs.SearchLaws.{least-before, least_bound, least-holds}
use Rattle.fields.specs.declared.fault.Fault.{Fault}
use Rattle.fields.specs.declared.fault.Fault.TheVariants.{SetBench, SharedBench}
use Rattle.std.specs.Prelude.{Ok, Err}
use Rattle.set_check.specs.SetCheck.{foreign_in}
use Rattle.set_check.proofs.CheckRun.{head_only}
use Rattle.page_faults.specs.PageFaults.{set_at, unfit, overlap, shares_earlier, set_verdict, verdict_at, is_fault}
use Rattle.page_faults.specs.PageFaults.{first_faulty, page_verdict}
use Rattle.page_check.specs.PageClaim.{on_page, ProperSet, ImproperSet, it_is_empty, it_names, SharesEarlier}
use Rattle.page_check.specs.PageClaim.{Faultless}

-- A bench of a set is one of 64.
pub bench_small : (set v : ℕ) → is_set 64 set v ≡ true → v < 64
bench_small set v p = elim (lt-or-le v 64) [ inl l ↦ l | inr far ↦ clash p (is_set-past 64 set v far) ]

-- ── number 17 ──

module _ (benches set : ℕ) where
  abbrev lacking : ℕ → Bool
  lacking v = is_set 64 set v && not (ltb v benches)

  pub improper-unfit : ImproperSet benches (is_set 64 set) → unfit benches set ≡ true
  unfolding unfit foreign_in
  improper-unfit (it_is_empty none) =
      or_left (ltb (foreign_in benches set) 64)
      (not_intro_true (any_false 64 (is_set 64 set) (λ v l. none v)))
  improper-unfit (it_names v p above) =
      let low = least_bound 64 lacking v (and_intro p (not_intro_true (le-ltb v benches above))) in
      or_right (not (any 64 (is_set 64 set)))
      (lt-ltb (foreign_in benches set) 64 (omega (arith, low, bench_small set v p)))

  pub proper_fit : ProperSet benches (is_set 64 set) → unfit benches set ≡ false
  unfolding unfit foreign_in
  proper_fit P =
      let (v, p) = P.some_bench in
      or-false
      (not_intro_false (any_intro 64 (is_set 64 set) v (bench_small set v p) p))
      (let none = least-none 64 lacking (λ u l. elim (split (is_set 64 set u)) [
        | inl q ↦ rw (q, lt-ltb u benches (P.of_the_head u q)) refl
        | inr q ↦ rw q refl
      ]) in le-ltb (foreign_in benches set) 64 (omega (arith, none)))

  pub fit_proper : unfit benches set ≡ false → ProperSet benches (is_set 64 set)
  unfolding unfit
  fit_proper fit =
      let (v, below, p) = any_elim 64 (is_set 64 set) (not-false (any 64 (is_set 64 set))
      (or-false_left (not (any 64 (is_set 64 set))) (ltb (foreign_in benches set) 64) fit)) in
      record {
        some_bench = (v, p);
        of_the_head = head_only benches set
            (or-false_right (not (any 64 (is_set 64 set))) (ltb (foreign_in benches set) 64) fit);
      }

-- ── number 18 ──

module _ (page : List ℕ) (i : ℕ) where
  pub shares_found : SharesEarlier page i → shares_earlier page i ≡ true
  unfolding shares_earlier overlap
  shares_found S =
      any_intro i (λ k. overlap (set_at page k) (set_at page i)) S.earlier S.before
      (any_intro 64 (λ v. is_set 64 (set_at page S.earlier) v && is_set 64 (set_at page i) v) S.bench
      (bench_small (set_at page i) S.bench S.in_this) (and_intro S.in_earlier S.in_this))

  pub found_shared : shares_earlier page i ≡ true → SharesEarlier page i
  unfolding shares_earlier overlap
  found_shared p =
      let (k, before, meet) = any_elim i (λ k. overlap (set_at page k) (set_at page i)) p in
      let (v, below, both) = any_elim 64 (λ v. is_set 64 (set_at page k) v && is_set 64 (set_at page i) v) meet in
      record {
        earlier = k;
        before = before;
        bench = v;
        in_earlier = and_left (is_set 64 (set_at page k) v) (is_set 64 (set_at page i) v) both;
        in_this = and_right (is_set 64 (set_at page k) v) (is_set 64 (set_at page i) v) both;
      }

-- ── one set after another ──

no_fault_by : (bad shared : Bool) (i : ℕ) → is_fault (set_verdict bad shared i) ≡ false
    → (bad ≡ false) × (shared ≡ false)
no_fault_by true shared i e = clash refl e
no_fault_by false true i e = clash refl e
no_fault_by false false i e = (refl, refl)

module _ (benches : ℕ) (page : List ℕ) where
  abbrev faulty : ℕ → Bool
  faulty i = is_fault (verdict_at benches page i)

  pub verdict_17 : (i : ℕ) → ImproperSet benches (on_page page i) → verdict_at benches page i ≡ Err (SetBench i)
  verdict_17 i bad = rw (improper-unfit benches (set_at page i) bad) refl

  pub verdict_18 : (i : ℕ) → ProperSet benches (on_page page i) → SharesEarlier page i
      → verdict_at benches page i ≡ Err (SharedBench i)
  verdict_18 i good shared = rw (proper_fit benches (set_at page i) good, shares_found page i shared) refl

  pub faultless_none : (n : ℕ) → Faultless benches page n → (i : ℕ) → i < n → faulty i ≡ false
  faultless_none n F i l =
      let apart : shares_earlier page i ≡ false = elim (split (shares_earlier page i)) [
        | inl p ↦
            let S = found_shared page i p in
            absurd (F.none_shared S.earlier i S.before l S.bench S.in_earlier S.in_this)
        | inr p ↦ p
      ] in
      rw (proper_fit benches (set_at page i) (F.each_proper i l), apart) refl

  pub none_faultless : (n : ℕ) → ((i : ℕ) → i < n → faulty i ≡ false) → Faultless benches page n
  none_faultless n none =
      record {
        each_proper = λ i l.
            fit_proper benches (set_at page i)
            (no_fault_by (unfit benches (set_at page i)) (shares_earlier page i) i (none i l)).0;
        none_shared = λ i k before l v p q.
            clash
            (shares_found page k
            (record { earlier = i; before = before; bench = v; in_earlier = p; in_this = q }))
            (no_fault_by (unfit benches (set_at page k)) (shares_earlier page k) k (none k l)).1;
      }

  pub page_fault : (i : ℕ) → i < length page → Faultless benches page i → {f : Fault}
      → verdict_at benches page i ≡ Err f → page_verdict benches page ≡ Err f
  unfolding first_faulty page_verdict
  page_fault i l F e =
      let first : first_faulty benches page ≡ i =
      least-found (length page) faulty i l (ap is_fault e) (faultless_none i F) in
      rw (first, lt-ltb i (length page) l) e

  pub page_none : Faultless benches page (length page) → page_verdict benches page ≡ Ok tt
  unfolding first_faulty page_verdict
  page_none F =
      let none : first_faulty benches page ≡ length page =
      least-none (length page) faulty (faultless_none (length page) F) in
      rw (none, le-ltb (length page) (length page) (omega arith)) refl

  pub none_page : page_verdict benches page ≡ Ok tt → Faultless benches page (length page)
  unfolding first_faulty page_verdict
  none_page e = elim (lt-or-le (first_faulty benches page) (length page)) [
    | inl l ↦ clash
        (least-holds (length page) faulty l)
        (ap is_fault (sym (cond-true (verdict_at benches page (first_faulty benches page)) (Ok tt)
        (lt-ltb (first_faulty benches page) (length page) l)) ∙ e))
    | inr l ↦ none_faultless (length page) (λ i below. least-before (length page) faulty i (omega arith))
  ]
