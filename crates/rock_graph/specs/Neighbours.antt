-- The rocks and the neighbours of each bench, as sets.
--     Incident n low high incident         entry v is the set of the rocks at bench v
--     Neighbours n low high neighbours     entry u has the other ends of the rocks at bench u
--     Touches n low high touched           the set has every bench that a rock touches
use Rattle.std.specs.Prelude.{ℕ, ◌<◌, ◌≡◌, true, ◌&&◌, List, get_or, ltb}
use Rattle.bits.specs.Bits.{is_set}
use Rattle.rocks.specs.declared.rocks.Limits.{Limits}
use Rattle.rocks.specs.RockArrays.{touches_at, other_at}

pub record Incident (n : Limits) (low high incident : List ℕ) : Type 0 where
  pub rocks_at : (v r : ℕ) → v < 64 → r < 64
      → is_set 64 (get_or incident v 0) r ≡ (ltb r n.rocks && touches_at low high r v)

abbrev pub Neighbours : Limits → List ℕ → List ℕ → List ℕ → Type 0
Neighbours n low high neighbours =
    (r u : ℕ) → r < n.rocks → r < 64 → u < 64 → touches_at low high r u ≡ true → other_at low high r u < 64
    → is_set 64 (get_or neighbours u 0) (other_at low high r u) ≡ true

abbrev pub Touches : Limits → List ℕ → List ℕ → ℕ → Type 0
Touches n low high touched =
    (r v : ℕ) → r < n.rocks → r < 64 → v < 64 → touches_at low high r v ≡ true → is_set 64 touched v ≡ true
