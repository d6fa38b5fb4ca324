-- What the program's arrays hold in the course of CONFLICT SET CONSTRUCTION.
--     joins_at, fake_at     v joins the conflict set by rock r; rock r is neutral and v is in the conflict set
--     Opened, Finished     what the construction of a round finds, and where it ends
--     Built                the arrays show what the construction leaves behind
--     Grew                 the set has every bench that has come into the conflict set
use Rattle.std.specs.Prelude.{ℕ, ◌≤◌, ◌<◌, ◌≡◌, Bool, true, false, not, ◌&&◌, List, get_or, eqb}
use Rattle.bits.specs.Bits.{is_set}
use Rattle.rocks.specs.declared.rocks.Limits.{Limits}
use Rattle.algorithm.specs.Board.{Board, Directions}
use Rattle.algorithm.specs.Explore.{Constructed}
use Rattle.rocks.specs.RockArrays.{within_at, father_at}
use Rattle.rocks.specs.BoardArrays.{Seen, Rounds}
use Rattle.rock_graph.specs.declared.lent.Graph.{Graph}
use Rattle.rock_graph.specs.Graph.{lows, highs, weights}
use Rattle.forced.specs.SetArrays.{Covers, Nowhere, forces_at}
use Rattle.forced.specs.CandidateArrays.{Neutral}

-- ── the tests of rock r at its end v ──

abbrev pub joins_at : ℕ → List ℕ → List ℕ → List ℕ → List ℕ → ℕ → ℕ → Bool
joins_at benches low high dir joined r v = not (within_at benches joined v) && father_at benches low high dir joined r v

abbrev pub fake_at : ℕ → List ℕ → List ℕ → ℕ → ℕ → Bool
fake_at benches dir joined r v = eqb (get_or dir r 0) 0 && within_at benches joined v

-- ── the construction of a round ──

-- The directions and the conflict set with which the construction of round i begins: no rock is forced any more, and
-- the sets have every neutral rock, every bench that joins, and every bench with a rock for a fake orientation.
pub record Opened (b : Board) (n : Limits) (graph : Graph) (i : ℕ) (dirs : Directions) (xs : List ℕ)
    (dir loads rounds : List ℕ) (joining faking neutral : ℕ) : Type 0 where
  pub round : i ≤ b.benches
  pub seen : Seen b dirs dir loads
  pub joined : Rounds b xs rounds
  pub unforced : Nowhere n (lows graph) (highs graph) (forces_at n.bound (weights graph) dir loads)
  pub free : Neutral n dir neutral
  pub joins : Covers n (lows graph) (highs graph) (joins_at n.benches (lows graph) (highs graph) dir rounds) joining
  pub fakes : Covers n (lows graph) (highs graph) (fake_at n.benches dir rounds) faking

-- Where it ends: no bench joins any more, no rock is left for a fake orientation, and none is forced.
pub record Finished (n : Limits) (graph : Graph) (dir loads rounds : List ℕ) (neutral : ℕ) : Type 0 where
  pub joined_all : Nowhere n (lows graph) (highs graph) (joins_at n.benches (lows graph) (highs graph) dir rounds)
  pub faked_all : Nowhere n (lows graph) (highs graph) (fake_at n.benches dir rounds)
  pub unforced : Nowhere n (lows graph) (highs graph) (forces_at n.bound (weights graph) dir loads)
  pub free : Neutral n dir neutral

pub record Built (b : Board) (c : Constructed) (dir loads rounds : List ℕ) : Type 0 where
  pub seen : Seen b c.dir dir loads
  pub joined : Rounds b c.joined rounds

-- ── a set that has every bench at which something can happen ──

abbrev pub Grew : Limits → List ℕ → List ℕ → ℕ → Type 0
Grew n rounds rounds' set =
    (v : ℕ) → v < n.benches → within_at n.benches rounds v ≡ false → within_at n.benches rounds' v ≡ true
    → is_set 64 set v ≡ true
