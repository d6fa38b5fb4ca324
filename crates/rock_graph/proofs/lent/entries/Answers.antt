-- The array is filled to its end.
use Prim.Native.Nat.{ℕ}
use mathlib.Core.Path.{ap, ◌∙◌}
use mathlib.Core.List.{List}
use native.Mathlib.Omega.{arith}
use lib.ListN.{get_or, replicate, length-replicate}
use Rattle.arrays.proofs.FilledLaws.{get_or-filled}
use Rattle.rock_graph.proofs.lent.entries.Goals as goal

pub returns : goal.returns
returns c =
    λ r h.
    ap (λ (xs : List ℕ). get_or xs r 0) c.to_numbers.ensures
    ∙ get_or-filled (λ (k : ℕ). get_or c.args.from.now k 0) 64 (replicate 64 0) r 0 h (omega (arith, h, length-replicate {A = ℕ} 64 0))
