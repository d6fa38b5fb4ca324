-- The balances of the components, one component after another.
--     balance_same           all benches of a component have its balance
--     balances_fill          the benches of a component get its balance
use Prim.Native.Nat.{ℕ, ◌+◌, ◌<◌}
use mathlib.Core.Path.{◌≡◌, sym, ap, ap₂, subst, ◌∙◌}
use mathlib.Core.Bool.{Bool, true, cond}
use mathlib.Core.Logic.{◌⊎◌, inl, inr}
use mathlib.Core.List.{List}
use native.Mathlib.Omega.{arith}
use lib.ListN.{length, get_or}
use Rattle.bools.proofs.BoolLaws.{split}
use Rattle.bools.proofs.OrderLaws.{eq-or-ne, lt_of_ne}
use Rattle.sums.proofs.CountLaws.{count_cong}
use Rattle.bits.specs.Bits.{is_set}
use Rattle.day.specs.Day.{Day}
use Rattle.algorithm.specs.Rocks.{rock, lowest, highest}
use Rattle.algorithm.specs.Start.{joined, component, rocks_in}
use Rattle.algorithm.proofs.Graph.{component_same, edges_mono}
use Rattle.algorithm.proofs.RockGraph.{rock-graph, rocks-component, component-self}
use Rattle.rocks.specs.declared.balancing.Balance.{Balance}
use Rattle.rocks.specs.SpreadArrays.{balance_of, Shows}
use Rattle.rocks.specs.DayArrays.{balance_in, BalancesTo}
use Rattle.rocks.proofs.SpreadRun.{shows_entry}

module _ (d : Day) where
  pub balance_same : (v u : ℕ) → v < d.benches → u < d.benches → component d v u ≡ true → balance_in d u ≡ balance_in d v
  balance_same v u hv hu p =
      let same = component_same d.benches d.jobs (rock d) (lowest d) (highest d) (joined d) (rock-graph d) v u hv hu p in
      let more = edges_mono d.benches d.jobs (rock d) (lowest d) (highest d) (joined d) (rock-graph d) in
      let rocks-same : rocks_in d u ≡ rocks_in d v = omega (
        arith,
        rocks-component d u,
        rocks-component d v,
        more (component d u) (component d v) (λ w h q. sym (same w h) ∙ q),
        more (component d v) (component d u) (λ w h q. same w h ∙ q),
      ) in
      ap₂ balance_of rocks-same (count_cong d.benches (component d u) (component d v) same)

-- Entries stand for balances.
module _ {A : Type 0} (entry : Balance → A) (blank : A) (d : Day) (v : ℕ) (hv : v < d.benches) (xs : List A)
    (X : BalancesTo entry blank d v xs) where
  -- One more entry is known, where all that changed is known.
  step : (ys : List A) → length ys ≡ length xs → get_or ys v blank ≡ entry (balance_in d v)
      → ((u : ℕ) → u < d.benches → (get_or ys u blank ≡ entry (balance_in d u)) ⊎ (get_or ys u blank ≡ get_or xs u blank))
      → BalancesTo entry blank d (v + 1) ys
  step ys same here each =
      record {
        room = omega (arith, X.room);
        known = λ u l h. elim (eq-or-ne u v) [
          | inl e ↦ subst (λ (k : ℕ). get_or ys k blank ≡ entry (balance_in d k)) (sym e) here
          | inr ne ↦ elim (each u h) [ inl q ↦ q | inr q ↦ q ∙ X.known u (lt_of_ne u v (omega arith) ne) h ]
        ];
        others = λ u h ne. elim (each u h) [ inl q ↦ q | inr q ↦ q ∙ X.others u h (λ t. ne (q ∙ t)) ];
      }

  pub balances_fill : (set : ℕ) {ys : List A} {x : A} → Shows d.benches (component d v) set → x ≡ entry (balance_in d v) → length ys ≡ length xs
      → ((u : ℕ) → u < length xs → get_or ys u blank ≡ cond (is_set 64 set u) x (get_or xs u blank)) → BalancesTo entry blank d (v + 1) ys
  balances_fill set {ys} {x} is ex long filled =
      let its : A = entry (balance_in d v) in
      let filled-entry : (u : ℕ) → u < d.benches → get_or ys u blank ≡ cond (component d v u) its (get_or xs u blank) =
      λ u h. filled u (omega (arith, X.room))
      ∙ ap₂ (λ (t : Bool) (k : A). cond t k (get_or xs u blank)) (shows_entry d.benches (component d v) set is u h) ex in
      step ys long
      (filled-entry v hv ∙ ap (λ (t : Bool). cond t its (get_or xs v blank)) (component-self d v))
      (λ u h. elim (split (component d v u)) [
        | inl p ↦ inl (filled-entry u h ∙ ap (λ (t : Bool). cond t its (get_or xs u blank)) p ∙ ap entry (sym (balance_same d v u hv h p)))
        | inr p ↦ inr (filled-entry u h ∙ ap (λ (t : Bool). cond t its (get_or xs u blank)) p)
      ])
