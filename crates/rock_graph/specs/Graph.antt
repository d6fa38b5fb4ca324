-- The rocks of a run (the struct Graph), which are made once and lent to every step: for each bench a set that has the
-- other ends of its rocks, and the set of its rocks; for each rock its low end, its high end and its weight; and three
-- sets: one that has every bench with a rock, all benches, and all rocks.
--     ends, incidents, lows, highs, weights    the lists
--     touched_in, every_bench, every_rock    the three sets
--     Mapped n graph                         its sets are those of its rocks
--     RockGraph b n graph                    it is that of a board with at most 64 rocks
--     Tabled n low high weight graph         it is made of these ends and weights
use Rattle.std.specs.Prelude.{ℕ, ◌≤◌, ◌<◌, ◌≡◌, List, get_or, ltb}
use Rattle.bits.specs.Bits.{is_set}
use Rattle.rocks.specs.declared.rocks.Limits.{Limits}
use Rattle.algorithm.specs.Board.{Board}
use Rattle.rocks.specs.BoardArrays.{rocks_of, Rocks}
use Rattle.rock_graph.specs.declared.lent.Graph.{Graph}
use Rattle.rock_graph.specs.Neighbours.{Incident, Neighbours, Touches}

-- ── its fields ──

abbrev pub ends : Graph → List ℕ
ends graph = graph.ends

abbrev pub incidents : Graph → List ℕ
incidents graph = graph.incident

abbrev pub lows : Graph → List ℕ
lows graph = graph.low

abbrev pub highs : Graph → List ℕ
highs graph = graph.high

abbrev pub weights : Graph → List ℕ
weights graph = graph.weight

abbrev pub touched_in : Graph → ℕ
touched_in graph = graph.touched

abbrev pub every_bench : Graph → ℕ
every_bench graph = graph.every_bench

abbrev pub every_rock : Graph → ℕ
every_rock graph = graph.every_rock

-- ── what it shows ──

-- Its sets are those of its rocks.
pub record Mapped (n : Limits) (graph : Graph) : Type 0 where
  pub incidence : Incident n (lows graph) (highs graph) (incidents graph)
  pub other_ends : Neighbours n (lows graph) (highs graph) (ends graph)
  pub touched : Touches n (lows graph) (highs graph) (touched_in graph)
  pub benches : (v : ℕ) → v < 64 → is_set 64 (every_bench graph) v ≡ ltb v n.benches
  pub rocks : (r : ℕ) → r < 64 → is_set 64 (every_rock graph) r ≡ ltb r n.rocks

pub record RockGraph (b : Board) (n : Limits) (graph : Graph) : Type 0 where
  pub rocks : Rocks b n (lows graph) (highs graph) (weights graph)
  pub few_rocks : rocks_of b ≤ 64
  pub maps : Mapped n graph

-- It is made of the ends and weights of at most 64 rocks.
pub record Tabled (n : Limits) (low high weight : List ℕ) (graph : Graph) : Type 0 where
  pub same_lows : (r : ℕ) → r < 64 → get_or (lows graph) r 0 ≡ get_or low r 0
  pub same_highs : (r : ℕ) → r < 64 → get_or (highs graph) r 0 ≡ get_or high r 0
  pub same_weights : (r : ℕ) → r < 64 → get_or (weights graph) r 0 ≡ get_or weight r 0
  pub maps : Mapped n graph
