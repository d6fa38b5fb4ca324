-- What the program's arrays hold of a board. Rock r is the one with the r-th lowest job.
--     rocks_of b, rock_at b r   how many rocks there are, and the job of rock r
--     Rocks b n low high weight     the numbers and the arrays are those of the board
--     Directed, Loaded, Seen    the arrays show these directions, the loads under them, both
--     Owned, Rounds, Pebbles    the other arrays of an exploration
use Rattle.std.specs.Prelude.{ℕ, ◌≤◌, ◌<◌, ◌^◌, ◌≡◌, Bool, true, false, List, length, get_or}
use Rattle.sums.specs.Sum.{count}
use Rattle.sums.specs.Members.{members}
use Rattle.rocks.specs.declared.rocks.Limits.{Limits}
use Rattle.algorithm.specs.Board.{Board, Directions, load}
use Rattle.bits.specs.Bits.{is_set}
use Rattle.algorithm.specs.Properties.{SoundBoard, Pointed}
use Rattle.algorithm.specs.Explore.{round_of}

-- ── a board in arrays ──

abbrev pub rocks_of : Board → ℕ
rocks_of b = count b.jobs b.rock

abbrev pub rock_at : Board → ℕ → ℕ
rock_at b r = get_or (members b.jobs b.rock) r 0

pub record Rocks (b : Board) (n : Limits) (low high weight : List ℕ) : Type 0 where
  pub sound : SoundBoard b
  pub benches : n.benches ≡ b.benches
  pub jobs : n.jobs ≡ b.jobs
  pub rocks : n.rocks ≡ rocks_of b
  pub bound : n.bound ≡ b.bound
  pub small : n.small ≡ b.small
  pub limit : n.limit ≡ b.limit
  pub few_benches : b.benches ≤ 64
  pub lows : (r : ℕ) → r < rocks_of b → get_or low r 0 ≡ b.low (rock_at b r)
  pub highs : (r : ℕ) → r < rocks_of b → get_or high r 0 ≡ b.high (rock_at b r)
  pub weights : (r : ℕ) → r < rocks_of b → get_or weight r 0 ≡ b.weight (rock_at b r)
  pub loads_fit : (dirs : Directions) (v : ℕ) → load b dirs v < 2 ^ 63

-- The directions that an array shows, one entry for each rock.
pub record Directed (b : Board) (dirs : Directions) (dir : List ℕ) : Type 0 where
  pub pointed : Pointed b dirs
  pub room : rocks_of b ≤ length dir
  pub entries : (r : ℕ) → r < rocks_of b → get_or dir r 0 ≡ get_or dirs (rock_at b r) 0

-- The loads under these directions, one entry for each bench.
pub record Loaded (b : Board) (dirs : Directions) (loads : List ℕ) : Type 0 where
  pub room : b.benches ≤ length loads
  pub entries : (v : ℕ) → v < b.benches → get_or loads v 0 ≡ load b dirs v

pub record Seen (b : Board) (dirs : Directions) (dir loads : List ℕ) : Type 0 where
  pub directed : Directed b dirs dir
  pub loaded : Loaded b dirs loads

-- The load of each bench besides its rocks.
pub record Owned (b : Board) (own : List ℕ) : Type 0 where
  pub entries : (v : ℕ) → v < b.benches → get_or own v 0 ≡ b.own v

-- A list of rounds (joined or level), one entry for each bench.
pub record Rounds (b : Board) (xs : List ℕ) (rounds : List ℕ) : Type 0 where
  pub one_to_a_bench : length xs ≡ b.benches
  pub room : b.benches ≤ length rounds
  pub entries : (v : ℕ) → v < b.benches → get_or rounds v 0 ≡ round_of b xs v

-- The pebbles, one entry for each job: which jobs are, the benches they allow, and where they lie.
pub record Pebbles (b : Board) (pebble : List Bool) (allowed place : List ℕ) : Type 0 where
  pub are : (j : ℕ) → j < b.jobs → get_or pebble j false ≡ b.pebble j
  pub allow : (j v : ℕ) → j < b.jobs → v < b.benches → is_set 64 (get_or allowed j 0) v ≡ b.allows j v
  pub lie : (j : ℕ) → j < b.jobs → b.pebble j ≡ true → get_or place j 0 ≡ b.place j
