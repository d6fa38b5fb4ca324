-- The rocks of a run (specs/Graph), made of ends and weights.
--     graph_made     what its fields are
use Prim.Native.Nat.{ℕ, ◌<◌}
use mathlib.Core.Path.{◌≡◌, sym, ap, ap₂, subst, ◌∙◌}
use mathlib.Core.Bool.{Bool, cond, not, ◌&&◌, ◌||◌}
use mathlib.Core.List.{List}
use lib.ListN.{get_or}
use lib.Dec.{eqb, ltb}
use borrow.Author.Tests.{ne_eqb, lt-ltb}
use Rattle.bools.proofs.BoolLaws.{clash, and_intro, not_intro_true}
use Rattle.bits.specs.Bits.{is_set}
use Rattle.bits.proofs.SetBits.{is_set-zero}
use Rattle.rocks.specs.declared.rocks.Limits.{Limits}
use Rattle.rocks.specs.RockArrays.{touches_at, other_at}
use Rattle.rock_graph.specs.declared.lent.Graph.{Graph}
use Rattle.rock_graph.specs.Neighbours.{Incident, Neighbours, Touches}
use Rattle.rock_graph.specs.Graph.{ends, incidents, lows, highs, weights, touched_in, every_bench, every_rock, Tabled}

module _ (n : Limits) (low high weight : List ℕ) (graph : Graph)
    (lows-are : (r : ℕ) → r < 64 → get_or (lows graph) r 0 ≡ get_or low r 0) (highs-are : (r : ℕ) → r < 64 → get_or (highs graph) r 0 ≡ get_or high r 0)
    (weights-are : (r : ℕ) → r < 64 → get_or (weights graph) r 0 ≡ get_or weight r 0) (H : Incident n low high (incidents graph))
    (N : Neighbours n low high (ends graph)) where
  touches_same : (r v : ℕ) → r < 64 → touches_at (lows graph) (highs graph) r v ≡ touches_at low high r v
  touches_same r v h = ap₂ (λ (x y : ℕ). eqb v x || eqb v y) (lows-are r h) (highs-are r h)

  other_same : (r v : ℕ) → r < 64 → other_at (lows graph) (highs graph) r v ≡ other_at low high r v
  other_same r v h = ap₂ (λ (x y : ℕ). cond (eqb v x) y x) (lows-are r h) (highs-are r h)

  incidence_made : Incident n (lows graph) (highs graph) (incidents graph)
  incidence_made =
      record { rocks_at = λ v r hv hr. H.rocks_at v r hv hr ∙ ap (λ (x : Bool). ltb r n.rocks && x) (sym (touches_same r v hr)) }

  ends-made : Neighbours n (lows graph) (highs graph) (ends graph)
  ends-made r u h hr hu t o =
      ap (λ (x : ℕ). is_set 64 (get_or (ends graph) u 0) x) (other_same r u hr)
      ∙ N r u h hr hu (sym (touches_same r u hr) ∙ t) (subst (λ (k : ℕ). k < 64) (other_same r u hr) o)

  -- A bench at which there is a rock has a set of rocks that is not empty.
  touched_made : ((v : ℕ) → v < 64 → is_set 64 (touched_in graph) v ≡ not (eqb (get_or (incidents graph) v 0) 0)) → Touches n (lows graph) (highs graph) (touched_in graph)
  touched_made some r v h hr hv at =
      some v hv
      ∙ not_intro_true (ne_eqb (get_or (incidents graph) v 0) 0
      (λ z. clash (H.rocks_at v r hv hr ∙ and_intro (lt-ltb r n.rocks h) (sym (touches_same r v hr) ∙ at))
      (ap (λ (x : ℕ). is_set 64 x r) z ∙ is_set-zero 64 r)))

  pub graph_made : ((v : ℕ) → v < 64 → is_set 64 (touched_in graph) v ≡ not (eqb (get_or (incidents graph) v 0) 0))
      → ((v : ℕ) → v < 64 → is_set 64 (every_bench graph) v ≡ ltb v n.benches)
      → ((r : ℕ) → r < 64 → is_set 64 (every_rock graph) r ≡ ltb r n.rocks) → Tabled n low high weight graph
  graph_made some every-bench every-rock =
      record {
        same_lows = lows-are;
        same_highs = highs-are;
        same_weights = weights-are;
        maps = record { incidence = incidence_made; other_ends = ends-made; touched = touched_made some; benches = every-bench; rocks = every-rock };
      }
