-- Tables of numbers in place of balances: what is said of a balance is said of its number.
--     number_of-balance              the number of a balance, of rocks against benches
--     numbered_cycle, numbered-crowded     the tests of a balance are tests of its number
--     numbers_crowded                so is the search for a crowded bench
--     numbers_cycles                 and what a table of numbers says of the components with one cycle
--     number_cycle, number-crowded   the number of one cycle, and of a crowded component
--     numbers_cycles_are, numbers_crowded-bench     what a table of the components' numbers, and the search in it, say of
--                                    the day
use Prim.Native.Nat.{ℕ, ◌<◌}
use mathlib.Core.Path.{◌≡◌, refl, sym, ap, ◌∙◌}
use mathlib.Core.Bool.{cond}
use mathlib.Core.Logic.{inl, inr, ◌↔◌}
use mathlib.Core.List.{List, map}
use lib.ListN.{get_or, get_or-map}
use lib.Dec.{eqb, ltb}
use borrow.Author.Tests.{eqb-true}
use Rattle.bools.proofs.BoolLaws.{split}
use Rattle.sums.specs.Search.{least}
use Rattle.sums.proofs.SearchLaws.{least_cong}
use Rattle.day.specs.Day.{Day}
use Rattle.algorithm.specs.Start.{one_cycle, crowded, crowded_bench}
use Rattle.rocks.specs.declared.balancing.Balance.{Balance}
use Rattle.rocks.specs.declared.balancing.Balance.TheVariants.{Tree, OneCycle, Crowded, Unknown}
use Rattle.rocks.specs.RockArrays.{first}
use Rattle.rocks.specs.SpreadArrays.{is_cycle, is_crowded, balance_of}
use Rattle.rocks.specs.BalanceNumbers.{tree_balance, cycle_balance, crowded_balance, unknown_balance, number_of, numbered}
use Rattle.rocks.specs.DayArrays.{balance_in, Cycles}
use Rattle.rocks.proofs.ComponentRun.{balance_cycle, balance-crowded}

pub number_of-balance : (rocks size : ℕ)
    → number_of (balance_of rocks size) ≡ cond (ltb rocks size) tree_balance (cond (eqb rocks size) cycle_balance crowded_balance)
number_of-balance rocks size = elim (split (ltb rocks size)) [
  | inl p ↦ rw p
  | inr p ↦ elim (split (eqb rocks size)) [ inl q ↦ rw (p, q) | inr q ↦ rw (p, q) ]
]

pub numbered_cycle : (k : ℕ) → is_cycle (numbered k) ≡ eqb k cycle_balance
numbered_cycle k = elim (split (eqb k cycle_balance)) [
  | inl p ↦ rw p
  | inr p ↦ elim (split (eqb k crowded_balance)) [
    | inl q ↦ rw (p, q)
    | inr q ↦ elim (split (eqb k unknown_balance)) [ inl r ↦ rw (p, q, r) | inr r ↦ rw (p, q, r) ]
  ]
]

pub numbered-crowded : (k : ℕ) → is_crowded (numbered k) ≡ eqb k crowded_balance
numbered-crowded k = elim (split (eqb k cycle_balance)) [
  | inl p ↦ let one : k ≡ cycle_balance = eqb-true k cycle_balance p in rw one
  | inr p ↦ elim (split (eqb k crowded_balance)) [
    | inl q ↦ rw (p, q)
    | inr q ↦ elim (split (eqb k unknown_balance)) [ inl r ↦ rw (p, q, r) | inr r ↦ rw (p, q, r) ]
  ]
]

pub numbers_crowded : (benches : ℕ) (table : List ℕ)
    → first benches (λ v. is_crowded (numbered (get_or table v 0))) ≡ first benches (λ v. eqb (get_or table v 0) crowded_balance)
unfolding first
numbers_crowded benches table =
    rw (least_cong benches (λ v. is_crowded (numbered (get_or table v 0))) (λ v. eqb (get_or table v 0) crowded_balance)
    (λ v h. numbered-crowded (get_or table v 0)))

pub numbers_cycles : (d : Day) (table : List ℕ)
    → Cycles d (map numbered table) ↔ ((v : ℕ) → v < d.benches → eqb (get_or table v 0) cycle_balance ≡ one_cycle d v)
numbers_cycles d table =
    let same : (v : ℕ) → is_cycle (get_or (map numbered table) v Tree) ≡ eqb (get_or table v 0) cycle_balance =
    λ v. ap is_cycle (get_or-map numbered table v 0) ∙ numbered_cycle (get_or table v 0) in
    (λ C v h. sym (same v) ∙ C v h, λ N v h. same v ∙ N v h)

-- ── the components of a day ──

numbered_number : (b : Balance) → numbered (number_of b) ≡ b
numbered_number Tree = refl
numbered_number OneCycle = refl
numbered_number Crowded = refl
numbered_number Unknown = refl

pub number_cycle : (d : Day) (v : ℕ) → eqb (number_of (balance_in d v)) cycle_balance ≡ one_cycle d v
number_cycle d v =
    sym (numbered_cycle (number_of (balance_in d v))) ∙ ap is_cycle (numbered_number (balance_in d v)) ∙ balance_cycle d v

pub number-crowded : (d : Day) (v : ℕ) → eqb (number_of (balance_in d v)) crowded_balance ≡ crowded d v
number-crowded d v =
    sym (numbered-crowded (number_of (balance_in d v))) ∙ ap is_crowded (numbered_number (balance_in d v))
    ∙ balance-crowded d v

module _ (d : Day) (table : List ℕ)
    (are : (v : ℕ) → v < d.benches → get_or table v 0 ≡ number_of (balance_in d v)) where
  pub numbers_cycles_are : Cycles d (map numbered table)
  numbers_cycles_are =
      (numbers_cycles d table).1 (λ v h. ap (λ (k : ℕ). eqb k cycle_balance) (are v h) ∙ number_cycle d v)

  pub numbers_crowded-bench : (benches : ℕ) → benches ≡ d.benches
      → least benches (λ v. eqb (get_or table v 0) crowded_balance) ≡ crowded_bench d
  unfolding crowded_bench
  numbers_crowded-bench benches e =
      ap (λ (k : ℕ). least k (λ v. eqb (get_or table v 0) crowded_balance)) e
      ∙ least_cong d.benches (λ v. eqb (get_or table v 0) crowded_balance) (crowded d)
      (λ v h. ap (λ (k : ℕ). eqb k crowded_balance) (are v h) ∙ number-crowded d v)
