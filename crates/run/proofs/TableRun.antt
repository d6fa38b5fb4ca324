-- The places of an answer: no rock, and one rock more.
use Prim.Native.Nat.{ℕ, ◌+◌, ◌-◌, ◌%◌}
use mathlib.Core.Path.{◌≡◌, refl, ◌∙◌}
use mathlib.Core.List.{List}
use native.Mathlib.Numerals.{add-one}
use lib.ListN.{get_or, set}
use Rattle.run.specs.TableArrays.{placed_of}

pub placed_none : (job dir place : List ℕ) → place ≡ placed_of 0 job dir place
unfolding placed_of
placed_none job dir place = refl

pub placed_more : (job dir place : List ℕ) (r : ℕ) {now next : List ℕ} {j x v : ℕ} → now ≡ placed_of r job dir place → x ≡ get_or dir r 0 → v ≡ x - 1
    → j ≡ get_or job r 0 → next ≡ set now j (v % 256) → next ≡ placed_of (r + 1) job dir place
unfolding placed_of
placed_more job dir place r e x v j n = rw add-one (n ∙ cc)
