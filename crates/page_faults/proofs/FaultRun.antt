-- The faults of a page, found set by set.
--     unfit-empty, unfit-foreign    number 17: an empty set, else by the lowest bench that the head lacks
--     unfit-found       the same by the search for that bench
--     meets_is          the benches that two sets have in common are none where they share none
--     by_17, by_18, by_none     the verdict of a set
--     Tried benches page seen i     what the loop keeps: no fault before set i, and the benches seen so far
--     starts, goes_on   it holds at first, and after one set more without a fault
--     stops, ends       the first fault, and none
use Prim.Native.Nat.{ℕ, ◌+◌, ◌≤◌, ◌<◌, ◌^◌}
use mathlib.Core.Path.{◌≡◌, refl, sym, ap, ◌∙◌}
use mathlib.Core.Bool.{Bool, true, false, not, ◌&&◌, ◌||◌}
use mathlib.Core.Logic.{inl, inr, ◌≢◌}
use mathlib.Core.List.{List}
use native.Mathlib.Omega.{arith}
use native.Mathlib.Numerals.{unary_clauses}
use lib.Dec.{eqb, ltb}
use lib.ListN.{length}
use borrow.Author.Tests.{ne_eqb, lt-ltb, le-ltb}
use Rattle.bools.proofs.BoolLaws.{bool_ext, and_intro, and_left, and_right}
use Rattle.bools.proofs.OrderLaws.{last_or_below}
use Rattle.bits.specs.Bits.{is_set}
use Rattle.bits.proofs.SetBits.{is_set-zero, any-is_set}
use Rattle.sums.specs.Search.{any}
use Rattle.sums.proofs.SearchLaws.{any_intro, any_elim, any_cong, any_false, least-found, least-none}
use Rattle.fields.specs.declared.fault.Fault.{Fault}
use Rattle.fields.specs.declared.fault.Fault.TheVariants.{SetBench, SharedBench}
use Rattle.fields.specs.Tests.{Verdict}
use Rattle.std.specs.Prelude.{Ok, Err, Option}
use Rattle.std.specs.Option.{is_some}
use Rattle.std.specs.Bool.{then_some}
use Rattle.set_check.specs.SetCheck.{foreign_in, foreign_of}
use Rattle.page_faults.specs.PageFaults.{set_at, unfit, overlap, shares_earlier, set_verdict, verdict_at, is_fault}
use Rattle.page_faults.specs.PageFaults.{first_faulty, page_verdict}

-- ── one set ──

pub unfit-empty : (benches set : ℕ) → set ≡ 0 → true ≡ unfit benches set
unfolding unfit
unfit-empty benches set e =
    let none : any 64 (is_set 64 set) ≡ false =
    any_false 64 (is_set 64 set) (λ v l. ap (λ (n : ℕ). is_set 64 n v) e ∙ is_set-zero 64 v) in
    rw none refl

pub unfit-foreign : (benches set r : ℕ) → set < 2 ^ 64 → set ≢ 0 → r ≡ foreign_in benches set
    → ltb r 64 ≡ unfit benches set
unfolding unfit
unfit-foreign benches set r small some e =
    let there : any 64 (is_set 64 set) ≡ true = any-is_set 64 set small ∙ ap not (ne_eqb set 0 some) in
    rw (there, e) refl

pub unfit-found : (benches set : ℕ) {r : Option ℕ} → set < 2 ^ 64 → set ≢ 0 → r ≡ foreign_of benches set
    → is_some r ≡ unfit benches set
unfit-found benches set small some e =
    ap (λ (found : Option ℕ). is_some found) e ∙ told (ltb (foreign_in benches set) 64) (foreign_in benches set)
    ∙ unfit-foreign benches set (foreign_in benches set) small some refl
  where
    told : (b : Bool) (n : ℕ) → is_some (then_some b n) ≡ b
    told true n = refl
    told false n = refl

pub meets_is : (a b r : ℕ) → r < 2 ^ 64 → ((u : ℕ) → is_set 64 r u ≡ (is_set 64 a u && is_set 64 b u))
    → not (eqb r 0) ≡ overlap a b
unfolding overlap
meets_is a b r small both =
    sym (any-is_set 64 r small) ∙ any_cong 64 (is_set 64 r) (λ v. is_set 64 a v && is_set 64 b v) (λ v l. both v)

module _ (at : ℕ) {bad shared is-bad is_shared : Bool} (b : bad ≡ is-bad) (s : shared ≡ is_shared) where
  pub by_17 : bad ≡ true → Err (SetBench at) ≡ set_verdict is-bad is_shared at
  by_17 p = rw (sym b ∙ p) refl

  pub by_18 : bad ≡ false → shared ≡ true → Err (SharedBench at) ≡ set_verdict is-bad is_shared at
  by_18 p q = rw (sym b ∙ p, sym s ∙ q) refl

  pub by_none : bad ≡ false → shared ≡ false → Ok tt ≡ set_verdict is-bad is_shared at
  by_none p q = rw (sym b ∙ p, sym s ∙ q) refl

-- ── set by set ──

pub record Tried (benches : ℕ) (page : List ℕ) (seen i : ℕ) : Type 0 where
  pub seen_so_far : (v : ℕ) → is_set 64 seen v ≡ any i (λ k. is_set 64 (set_at page k) v)
  pub no_fault : (k : ℕ) → k < i → is_fault (verdict_at benches page k) ≡ false

module _ (benches : ℕ) (page : List ℕ) where
  abbrev faulty : ℕ → Bool
  faulty i = is_fault (verdict_at benches page i)

  pub starts : Tried benches page 0 0
  starts = record { seen_so_far = λ v. is_set-zero 64 v; no_fault = λ k l. absurd (omega arith) }

  module _ (seen i : ℕ) (T : Tried benches page seen i) where
    -- A bench that is seen is one of an earlier set.
    shared_is : overlap seen (set_at page i) ≡ shares_earlier page i
    unfolding overlap shares_earlier
    shared_is =
        bool_ext (overlap seen (set_at page i)) (shares_earlier page i)
        (λ p.
        let (v, below, both) = any_elim 64 (λ v. is_set 64 seen v && is_set 64 (set_at page i) v) p in
        let (k, before, in-it) = any_elim i (λ k. is_set 64 (set_at page k) v)
        (sym (T.seen_so_far v) ∙ and_left (is_set 64 seen v) (is_set 64 (set_at page i) v) both) in
        any_intro i (λ k. overlap (set_at page k) (set_at page i)) k before
        (any_intro 64 (λ v. is_set 64 (set_at page k) v && is_set 64 (set_at page i) v) v below
        (and_intro in-it (and_right (is_set 64 seen v) (is_set 64 (set_at page i) v) both))))
        (λ p.
        let (k, before, meet) = any_elim i (λ k. overlap (set_at page k) (set_at page i)) p in
        let (v, below, both) = any_elim 64 (λ v. is_set 64 (set_at page k) v && is_set 64 (set_at page i) v) meet in
        any_intro 64 (λ v. is_set 64 seen v && is_set 64 (set_at page i) v) v below
        (and_intro
        (T.seen_so_far v
        ∙ any_intro i (λ k. is_set 64 (set_at page k) v) k before
        (and_left (is_set 64 (set_at page k) v) (is_set 64 (set_at page i) v) both))
        (and_right (is_set 64 (set_at page k) v) (is_set 64 (set_at page i) v) both)))

    module _ {verdict : Verdict}
        (found : verdict ≡ set_verdict (unfit benches (set_at page i)) (overlap seen (set_at page i)) i) where
      found-is : verdict ≡ verdict_at benches page i
      found-is = found ∙ ap (λ (b : Bool). set_verdict (unfit benches (set_at page i)) b i) shared_is

      pub goes_on : verdict ≡ Ok tt → {more : ℕ}
          → ((u : ℕ) → is_set 64 more u ≡ (is_set 64 seen u || is_set 64 (set_at page i) u))
          → Tried benches page more (i + 1)
      goes_on none either =
          simp unary_clauses (record {
            seen_so_far = λ v. either v ∙ ap (λ (b : Bool). b || is_set 64 (set_at page i) v) (T.seen_so_far v);
            no_fault = λ k l. elim (last_or_below l) [
              | inl e ↦ ap (λ (n : ℕ). is_fault (verdict_at benches page n)) e ∙ ap is_fault (sym found-is ∙ none)
              | inr before ↦ T.no_fault k before
            ];
          })

      pub stops : i < length page → {f : Fault} → verdict ≡ Err f → verdict ≡ page_verdict benches page
      unfolding first_faulty page_verdict
      stops l fault =
          let first : first_faulty benches page ≡ i =
          least-found (length page) faulty i l (ap is_fault (sym found-is ∙ fault)) T.no_fault in
          found-is ∙ rw (first, lt-ltb i (length page) l) refl

    pub ends : length page ≤ i → Ok tt ≡ page_verdict benches page
    unfolding first_faulty page_verdict
    ends l =
        let none : first_faulty benches page ≡ length page =
        least-none (length page) faulty (λ k below. T.no_fault k (omega arith)) in
        rw (none, le-ltb (length page) (length page) (omega arith)) refl
