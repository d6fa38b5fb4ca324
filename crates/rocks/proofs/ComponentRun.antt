-- The components of a day's rocks, and how full they are, by the arrays.
--     linked-joined          neutral rocks link the benches that the day's rocks join
--     component-found        what spreads from a bench is its component
--     component-balance      and the balance of that set is the day's
--     balance_cycle, balance-crowded     the balance of one cycle, and of a crowded component
--     cycles_are, crowded-bench_is       what the array of balances, and the search in it, say of the day
use Prim.Native.Nat.{ℕ, ◌<◌}
use mathlib.Core.Path.{◌≡◌, refl, sym, ap, ap₂, subst, ◌∙◌}
use mathlib.Core.Bool.{Bool, true, false, not, ◌&&◌, ◌||◌}
use mathlib.Core.Logic.{inl, inr, ⊎_elim}
use mathlib.Core.List.{List}
use native.Mathlib.Omega.{arith}
use lib.ListN.{get_or}
use lib.Dec.{eqb, ltb}
use borrow.Author.Tests.{eq-eqb, ne_eqb, eqb-true, lt-ltb, le-ltb}
use Rattle.bools.proofs.BoolLaws.{split, tests, bool_ext, and_intro, and_left, and_right, not_intro_true, not-eqb-true}
use Rattle.bools.proofs.OrderLaws.{eq-or-ne}
use Rattle.sums.specs.Sum.{count}
use Rattle.sums.specs.Search.{any, least}
use Rattle.sums.proofs.SearchLaws.{any_cong, least_cong}
use Rattle.sums.proofs.CountLaws.{count_cong}
use Rattle.sums.proofs.MembersLaws.{any-members, count-members}
use Rattle.bits.specs.Bits.{is_set}
use Rattle.closure.specs.Closure.{closure}
use Rattle.rocks.specs.declared.rocks.Limits.{Limits}
use Rattle.day.specs.Day.{Day}
use Rattle.algorithm.specs.Rocks.{rock, lowest, highest}
use Rattle.algorithm.specs.Start.{joined_by, joined, component, rocks_in, crowded, crowded_bench, one_cycle}
use Rattle.sets.specs.Sets.{choices_of}
use Rattle.sets.proofs.SetLaws.{choices_below}
use Rattle.rocks.specs.declared.balancing.Balance.{Balance}
use Rattle.rocks.specs.declared.balancing.Balance.TheVariants.{Tree}
use Rattle.rocks.specs.RockArrays.{touches_at, other_at}
use Rattle.rocks.specs.SpreadArrays.{neutral_rock, inside_at, links_at, linked_at, balance_of, is_cycle, is_crowded, Within, Shows}
use Rattle.rocks.specs.DayArrays.{day_rocks, day_rock, DayRocks, balance_in, Cycles}
use Rattle.rocks.proofs.RockLaws.{other_at_low, other_at_high}
use Rattle.algorithm.proofs.RockLaws.{low_allowed, high_allowed, low_below_high, high_below, allowed_end}
use Rattle.rocks.proofs.DayRockLaws.{day-rock-holds, touches_are}
use Rattle.rocks.proofs.SpreadRun.{shows_entry, reach-shown}

four : (r a b c : Bool) → (r && ((a && b) && c)) ≡ (((r && a) && b) && c)
four true a b c = refl
four false a b c = refl

module _ (d : Day) (n : Limits) (low high : List ℕ) (R : DayRocks d n low high) where
  low_below : (r : ℕ) → r < day_rocks d → lowest d (day_rock d r) < d.benches
  low_below r h =
      let rocky = day-rock-holds d n low high R r h in
      omega (arith, low_below_high d (day_rock d r) rocky, high_below d (day_rock d r) rocky)

  pub within : Within n.benches n.rocks low high
  within r l =
      let h : r < day_rocks d = omega (arith, R.rocks) in
      (omega (arith, R.lows r h, R.benches, low_below r h), omega (arith, R.highs r h, R.benches, high_below d (day_rock d r) (day-rock-holds d n low high R r h)))

  module _ (r : ℕ) (h : r < day_rocks d) where
    abbrev j : ℕ
    j = day_rock d r

    rocky : rock d j ≡ true
    rocky = day-rock-holds d n low high R r h

    from_low : (u : ℕ) → u ≡ lowest d j → other_at low high r u ≡ highest d j
    from_low u e = sym (other_at_low low high r u (e ∙ sym (R.lows r h))) ∙ R.highs r h

    from_high : (u : ℕ) → u ≡ highest d j → other_at low high r u ≡ lowest d j
    from_high u e = sym (other_at_high low high r u (λ q. omega (arith, low_below_high d j rocky, R.lows r h))) ∙ R.lows r h

    -- The rock's job allows both, and they differ.
    abbrev joins : ℕ → ℕ → Bool
    joins u v = (d.allows j u && d.allows j v) && not (eqb u v)

    apart : (u v : ℕ) → (u < v → ⊥) → (v < u → ⊥) → u ≡ v
    apart u v p q = elim (eq-or-ne u v) [ inl e ↦ e | inr ne ↦ absurd (ne (omega arith)) ]

    links-joins : (dir : List ℕ) → ((i : ℕ) → get_or dir i 0 ≡ 0) → (u v : ℕ) → u < d.benches → v < d.benches → links_at low high dir u v r ≡ joins u v
    links-joins dir neutral u v hu hv =
        let free : neutral_rock dir r ≡ true = eq-eqb (get_or dir r 0) 0 (neutral r) in
        let less = low_below_high d j rocky in
        bool_ext (links_at low high dir u v r) (joins u v)
        (λ p.
        let first = and_left (touches_at low high r u && neutral_rock dir r) (eqb v (other_at low high r u)) p in
        let au : d.allows j u ≡ true = sym (touches_are d n low high R r u h hu) ∙ and_left (touches_at low high r u) (neutral_rock dir r) first in
        let far : v ≡ other_at low high r u = eqb-true v (other_at low high r u) (and_right (touches_at low high r u && neutral_rock dir r) (eqb v (other_at low high r u)) p) in
        ⊎_elim
        (λ e. let is : v ≡ highest d j = far ∙ from_low u e in
        and_intro (and_intro au (subst (λ (k : ℕ). d.allows j k ≡ true) (sym is) (high_allowed d j rocky))) (not_intro_true (ne_eqb u v (λ q. omega arith))))
        (λ e. let is : v ≡ lowest d j = far ∙ from_high u e in
        and_intro (and_intro au (subst (λ (k : ℕ). d.allows j k ≡ true) (sym is) (low_allowed d j rocky))) (not_intro_true (ne_eqb u v (λ q. omega arith))))
        (allowed_end d j rocky u hu au))
        (λ p.
        let both = and_left (d.allows j u && d.allows j v) (not (eqb u v)) p in
        let au = and_left (d.allows j u) (d.allows j v) both in
        let av = and_right (d.allows j u) (d.allows j v) both in
        let ne = not-eqb-true u v (and_right (d.allows j u && d.allows j v) (not (eqb u v)) p) in
        let far : v ≡ other_at low high r u =
        ⊎_elim
        (λ e. ⊎_elim (λ q. absurd (ne (e ∙ sym q))) (λ q. q ∙ sym (from_low u e)) (allowed_end d j rocky v hv av))
        (λ e. ⊎_elim (λ q. q ∙ sym (from_high u e)) (λ q. absurd (ne (e ∙ sym q))) (allowed_end d j rocky v hv av))
        (allowed_end d j rocky u hu au) in
        and_intro (and_intro (touches_are d n low high R r u h hu ∙ au) free) (eq-eqb v (other_at low high r u) far))

  -- ── the component of a bench ──

  module _ (dir : List ℕ) (neutral : (i : ℕ) → get_or dir i 0 ≡ 0) where
    pub linked-joined : (u v : ℕ) → u < d.benches → v < d.benches → linked_at n.rocks low high dir u v ≡ joined d u v
    linked-joined u v hu hv =
        ap (λ (k : ℕ). any k (links_at low high dir u v)) R.rocks
        ∙ any_cong (day_rocks d) (links_at low high dir u v) (λ r. (d.allows (day_rock d r) u && d.allows (day_rock d r) v) && not (eqb u v))
        (λ r h. links-joins r h dir neutral u v hu hv)
        ∙ sym (any-members d.jobs (rock d) (λ j. (d.allows j u && d.allows j v) && not (eqb u v)) 0)
        ∙ any_cong d.jobs (λ j. rock d j && ((d.allows j u && d.allows j v) && not (eqb u v))) (joined_by d u v)
        (λ j h. four (rock d j) (d.allows j u) (d.allows j v) (not (eqb u v)))

    -- What spreads from one bench is its component.
    pub component-found : (v one set : ℕ) → v < d.benches → ((u : ℕ) → u < 64 → is_set 64 one u ≡ (is_set 64 0 u || eqb u v))
        → ((S : ℕ → Bool) → Within n.benches n.rocks low high → Shows n.benches S one
        → Shows n.benches (closure n.benches (linked_at n.rocks low high dir) S) set)
        → Shows d.benches (component d v) set
    component-found = reach-shown n.benches d.benches n.rocks low high dir (joined d) R.benches R.few_benches within linked-joined

    module _ (v set : ℕ) (X : Shows d.benches (component d v) set) where
      component-rocks : count n.rocks (inside_at low dir (is_set 64 set)) ≡ rocks_in d v
      component-rocks =
          ap (λ (k : ℕ). count k (inside_at low dir (is_set 64 set))) R.rocks
          ∙ count_cong (day_rocks d) (inside_at low dir (is_set 64 set)) (λ r. component d v (lowest d (day_rock d r)))
          (λ r h. ap₂ (λ (x y : Bool). x && y) (eq-eqb (get_or dir r 0) 0 (neutral r))
          (ap (is_set 64 set) (R.lows r h) ∙ shows_entry d.benches (component d v) set X (lowest d (day_rock d r)) (low_below r h)))
          ∙ sym (count-members d.jobs (rock d) (λ j. component d v (lowest d j)) 0)

      pub component-balance : {k : Balance} → k ≡ balance_of (count n.rocks (inside_at low dir (is_set 64 set))) (choices_of set) → k ≡ balance_in d v
      component-balance e =
          e ∙ ap₂ balance_of component-rocks (choices_below set d.benches (component d v) X.room (λ u h. X.entries u))

-- All rocks are neutral, however many there are.
-- ── balances ──

balance_of_cycle : (a b : ℕ) → is_cycle (balance_of a b) ≡ eqb a b
balance_of_cycle a b = elim (split (ltb a b)) [
  | inl p ↦ let ne : eqb a b ≡ false = ne_eqb a b (λ e. omega tests) in rw (p, ne)
  | inr p ↦ elim (split (eqb a b)) [ inl q ↦ rw (p, q) | inr q ↦ rw (p, q) ]
]

balance_of-crowded : (a b : ℕ) → is_crowded (balance_of a b) ≡ ltb b a
balance_of-crowded a b = elim (split (ltb a b)) [
  | inl p ↦ let less : ltb b a ≡ false = le-ltb b a (omega tests) in rw (p, less)
  | inr p ↦ elim (split (eqb a b)) [
    | inl q ↦ let less : ltb b a ≡ false = le-ltb b a (omega tests) in rw (p, q, less)
    | inr q ↦ let more : ltb b a ≡ true = lt-ltb b a (omega tests) in rw (p, q, more)
  ]
]

pub balance_cycle : (d : Day) (v : ℕ) → is_cycle (balance_in d v) ≡ one_cycle d v
unfolding one_cycle
balance_cycle d v = balance_of_cycle (rocks_in d v) (count d.benches (component d v))

pub balance-crowded : (d : Day) (v : ℕ) → is_crowded (balance_in d v) ≡ crowded d v
balance-crowded d v = balance_of-crowded (rocks_in d v) (count d.benches (component d v))

pub cycles_are : (d : Day) (balance : List Balance) → ((v : ℕ) → v < d.benches → get_or balance v Tree ≡ balance_in d v) → Cycles d balance
cycles_are d balance is v h = ap is_cycle (is v h) ∙ balance_cycle d v

pub crowded-bench_is : (d : Day) (benches : ℕ) (balance : List Balance) → benches ≡ d.benches → ((v : ℕ) → v < d.benches → get_or balance v Tree ≡ balance_in d v)
    → least benches (λ v. is_crowded (get_or balance v Tree)) ≡ crowded_bench d
unfolding crowded_bench
crowded-bench_is d benches balance e is =
    ap (λ (k : ℕ). least k (λ v. is_crowded (get_or balance v Tree))) e
    ∙ least_cong d.benches (λ v. is_crowded (get_or balance v Tree)) (crowded d) (λ v h. ap is_crowded (is v h) ∙ balance-crowded d v)
