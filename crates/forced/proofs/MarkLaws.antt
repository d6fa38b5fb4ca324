-- Arrays of marks.
--     Marked          a list of marks shows that of the definition
--     marked_none     no bench is marked
--     marked-set      one bench more is marked
use Prim.Native.Nat.{ℕ, ◌≤◌, ◌<◌}
use mathlib.Core.Path.{◌≡◌, sym, subst, ◌∙◌}
use mathlib.Core.Bool.{Bool, true, false}
use mathlib.Core.Logic.{inl, inr}
use mathlib.Core.List.{List}
use native.Mathlib.Omega.{arith}
use lib.ListN.{length, get_or, set, replicate, length-set, length-replicate, get_or-replicate}
use lib.Seq.{get_or-set_same, get_or-set_other}
use Rattle.bools.proofs.OrderLaws.{eq-or-ne}
use Rattle.algorithm.specs.Board.{Board}
use Rattle.algorithm.specs.Forced.{nobody}

-- One entry for each bench.
pub record Marked (b : Board) (ms : List Bool) (marks : List Bool) : Type 0 where
  pub one_to_a_bench : length ms ≡ b.benches
  pub room : b.benches ≤ length marks
  pub entries : (v : ℕ) → v < b.benches → get_or marks v false ≡ get_or ms v false

pub marked_none : (b : Board) (k : ℕ) → b.benches ≤ k → Marked b (nobody b) (replicate k false)
marked_none b k few =
    record {
      one_to_a_bench = length-replicate b.benches false;
      room = omega (arith, length-replicate k false);
      entries = λ v h. get_or-replicate k v false false (omega arith) ∙ sym (get_or-replicate b.benches v false false h);
    }

pub marked-set : (b : Board) (ms marks : List Bool) (u : ℕ) → Marked b ms marks → Marked b (set ms u true) (set marks u true)
marked-set b ms marks u M =
    record {
      one_to_a_bench = length-set ms u true ∙ M.one_to_a_bench;
      room = omega (arith, length-set marks u true, M.room);
      entries = λ v h. elim (eq-or-ne v u) [
        | inl e ↦
            subst (λ (k : ℕ). get_or (set marks u true) k false ≡ get_or (set ms u true) k false) (sym e)
            (get_or-set_same marks u true false (omega (arith, M.room)) ∙ sym (get_or-set_same ms u true false (omega (arith, M.one_to_a_bench))))
        | inr ne ↦ get_or-set_other marks u v true false ne ∙ M.entries v h ∙ sym (get_or-set_other ms u v true false ne)
      ];
    }
