-- What the program's tables hold of a day, and its state of a state of the run.
--     is_left d j, left_job d r  the jobs of the rocks that are left after the start; the r-th of them
--     Sparse d n ..             tables hold the rocks of a day without a long job or a crowded component, and its
--                               limits
--     Begins d n ..             the tables that the start reads: such a day's jobs, rocks, pebbles, weights and
--                               booked minutes
--     Ready d n ..              the tables that the turns read: numbers, rocks left, weights, pebbles and allowed
--                               benches
--     Room ..                   the tables that the start fills have room for every job and bench
--     Held d m s left place     two tables hold the state s, to which the run comes after m moves
--     Holds d m s k ..          so do the program's state k and its tables, with the loads and the benches in reach
--     Explores d s k ..         the last exploration was that of s
--     Pushed, Last              what a push makes of a state; the state at which the turns end
use Rattle.std.specs.Prelude.{ℕ, suc, ◌+◌, ◌*◌, ◌≤◌, ◌<◌, ◌^◌, ◌≡◌, Bool, true, false}
use Rattle.std.specs.Prelude.{List, length, get_or, replicate, ltb, Option, Some, None}
use Rattle.bits.specs.Bits.{is_set}
use Rattle.sums.specs.Sum.{sum, count}
use Rattle.sums.specs.Members.{members}
use Rattle.day.specs.Day.{Day, pebble, scale, bound, long_job}
use Rattle.algorithm.specs.Rocks.{rock, lowest, highest, weight, small, limit}
use Rattle.algorithm.specs.SoundDay.{SoundDay, Uncrowded}
use Rattle.algorithm.specs.Start.{State, start, crowded_bench}
use Rattle.algorithm.specs.Run.{board_of, explored, can_move, next_state, answer_at, turns, budget}
use Rattle.algorithm.specs.States.{Reached}
use Rattle.algorithm.specs.Push.{push_job}
use Rattle.rocks.specs.declared.rocks.Limits.{Limits}
use Rattle.rocks.specs.declared.balancing.Balance.{Balance}
use Rattle.rocks.specs.BoardArrays.{Owned, Directed}
use Rattle.rocks.specs.DayArrays.{DayRocks, Cycles}
use Rattle.rocks.specs.Shown.{Shown, ShowsActive}
use Rattle.start.specs.StartArrays.{Fields, JobsOf}
use Rattle.explore.specs.ExploreArrays.{Reaches}
use Rattle.run.specs.declared.state.State.{State as Kept}

-- A rock is left after the start.
abbrev pub is_left : Day → ℕ → Bool
is_left d j = get_or (start d).left j false

abbrev pub left_job : Day → ℕ → ℕ
left_job d r = get_or (members d.jobs (is_left d)) r 0

-- ── tables of a day ──

-- A day without a long job or a crowded component: all its rocks, and its limits.
pub record Sparse (d : Day) (n : Limits) (job low high : List ℕ) (balance : List Balance) (rocks : List Bool)
    : Type 0 where
  pub day_rocks : DayRocks d n low high
  pub rock_jobs : JobsOf d job
  pub cycles : Cycles d balance
  pub rocky : (j : ℕ) → j < d.jobs → get_or rocks j false ≡ rock d j
  pub bounds : n.bound ≡ bound d
  pub smalls : n.small ≡ small d
  pub limits : n.limit ≡ limit d
  pub short : ltb (long_job d) d.jobs ≡ false
  pub sparse : ltb (crowded_bench d) d.benches ≡ false

-- Such a day with its pebbles, and with weights multiplied by 3q.
pub record Begins (d : Day) (n : Limits) (minutes allowed amount job low high : List ℕ) (balance : List Balance)
    (burden : List ℕ) (rocks pebbles : List Bool) : Type 0 where
  pub fields : Fields d n.jobs minutes allowed
  pub sparse_day : Sparse d n job low high balance rocks
  pub pebbly : (j : ℕ) → j < d.jobs → get_or pebbles j false ≡ pebble d j
  pub amounts : (j : ℕ) → j < d.jobs → get_or amount j 0 ≡ weight d j
  pub burdens : (v : ℕ) → v < d.benches → get_or burden v 0 ≡ scale d * d.booked v

pub record Ready (d : Day) (n : Limits) (low high weights amount : List ℕ) (pebbles : List Bool) (allowed : List ℕ)
    : Type 0 where
  pub sound : SoundDay d
  pub uncrowded : Uncrowded d
  pub few_benches : d.benches ≤ 64
  pub few_jobs : d.jobs ≤ 512
  pub light : (v : ℕ) → scale d * d.booked v + sum d.jobs (weight d) < 2 ^ 62
  pub benches : n.benches ≡ d.benches
  pub jobs : n.jobs ≡ d.jobs
  pub rocks : n.rocks ≡ count d.jobs (is_left d)
  pub bounds : n.bound ≡ bound d
  pub smalls : n.small ≡ small d
  pub limits : n.limit ≡ limit d
  pub lows : (r : ℕ) → r < count d.jobs (is_left d) → get_or low r 0 ≡ lowest d (left_job d r)
  pub highs : (r : ℕ) → r < count d.jobs (is_left d) → get_or high r 0 ≡ highest d (left_job d r)
  pub heavies : (r : ℕ) → r < count d.jobs (is_left d) → get_or weights r 0 ≡ weight d (left_job d r)
  pub amounts : (j : ℕ) → j < d.jobs → get_or amount j 0 ≡ weight d j
  pub pebbly : (j : ℕ) → j < d.jobs → get_or pebbles j false ≡ pebble d j
  pub allowing : (j v : ℕ) → j < d.jobs → v < d.benches → is_set 64 (get_or allowed j 0) v ≡ d.allows j v

-- ── the state ──

-- The tables before the start: rocks, places, loads and benches in reach, of which there is none yet.
pub record Room (rocks : List Bool) (place own reach : List ℕ) : Type 0 where
  pub left_room : length rocks ≡ 512
  pub place_room : length place ≡ 512
  pub own_room : length own ≡ 64
  pub unreached : reach ≡ replicate 64 0

pub record Held (d : Day) (m : ℕ) (s : State) (left : List Bool) (place : List ℕ) : Type 0 where
  pub reached : Reached d m s
  pub lefts : (j : ℕ) → j < d.jobs → get_or left j false ≡ get_or s.left j false
  pub room : d.jobs ≤ length place
  pub places : (j : ℕ) → j < d.jobs → get_or place j 0 ≡ get_or s.place j 0

-- The rocks that are left are those of the start, in every state.
pub record Holds (d : Day) (m : ℕ) (s : State) (k : Kept) (place own reach : List ℕ) : Type 0 where
  pub held : Held d m s (start d).left place
  pub made : k.moves ≡ m
  pub own_room : length own ≡ 64
  pub reach_room : length reach ≡ 64
  pub owned : Owned (board_of d s) own
  pub reaches : Reaches (board_of d s) reach

pub record Explores (d : Day) (s : State) (k : Kept) (dir load joined level : List ℕ) : Type 0 where
  pub shown : Shown (board_of d s) (explored d s) dir load joined level
  pub active : ShowsActive (board_of d s) (explored d s) k.active
  pub active_fits : k.active < 2 ^ 64

-- What a push makes of the program's state and of its tables: the next state with one move more and the same activated
-- benches, or nothing where there is no move.
pub data Pushed (d : Day) (m : ℕ) (s : State) (before : Kept) (place own reach : List ℕ) (after : Option Kept)
    (place' own' reach' : List ℕ) : Type 0 where
  a_move : (next : Kept) → after ≡ Some next → can_move d s ≡ true
      → Holds d (suc m) (next_state d s) next place' own' reach' → next.active ≡ before.active
      → Pushed d m s before place own reach after place' own' reach'
  no_move : after ≡ None → push_job (board_of d s) (explored d s) ≡ d.jobs → place' ≡ place → own' ≡ own
      → reach' ≡ reach → Pushed d m s before place own reach after place' own' reach'

-- The program's state at which the turns of the run end, with the places of the jobs and the directions of the rocks.
pub record Last (d : Day) (k : Kept) (place dir : List ℕ) : Type 0 where
  pub moves : ℕ
  pub state : State
  pub held : Held d moves state (start d).left place
  pub made : k.moves ≡ moves
  pub directed : Directed (board_of d state) (explored d state).dir dir
  pub active : ShowsActive (board_of d state) (explored d state) k.active
  pub active_fits : k.active < 2 ^ 64
  pub same : turns (budget d) d (start d) 0 ≡ answer_at d state moves
