-- What the program's arrays hold in the course of an exploration.
--     added_at                  the sets after the pebble j added the benches that it allows
--     opens_at                  bench v opens round i: all is the set of the benches, active that of the activated ones
--     Benchwise                 tables of an exploration: each has as many entries as there can be benches
--     Blank                     the tables before an exploration
--     Begun                     how a round begins
--     Reaches b reach            entry u of the array is the set of the benches that the pebbles on u allow
use Rattle.std.specs.Prelude.{ℕ, ◌<◌, ◌≡◌, Bool, false, cond, not, ◌&&◌, List, length, get_or, set, replicate, eqb, ltb}
use Rattle.std.specs.Int.Bits.{bit_or}
use Rattle.sums.specs.Search.{any}
use Rattle.bits.specs.Bits.{is_set}
use Rattle.rocks.specs.declared.rocks.Limits.{Limits}
use Rattle.algorithm.specs.Board.{Board}
use Rattle.algorithm.specs.Explore.{Explored, type_a, opened_levels, opened_joined}
use Rattle.arrays.specs.Arrays.{plus_of}
use Rattle.rocks.specs.BoardArrays.{Rounds}

-- ── sets of benches ──

abbrev pub added_at : List Bool → List ℕ → List ℕ → List ℕ → ℕ → List ℕ
added_at pebble allowed place reach j =
    cond (get_or pebble j false)
    (set reach (get_or place j 0) (bit_or (get_or reach (get_or place j 0) 0) (get_or allowed j 0))) reach

abbrev pub opens_at : Limits → ℕ → ℕ → ℕ → ℕ → List ℕ → ℕ → Bool
opens_at n i all active reached load v =
    cond (eqb i 0) (ltb v n.benches && ltb n.bound (get_or load v 0))
    (is_set 64 all v && (is_set 64 reached v && not (is_set 64 active v)))

-- The sets of the benches that the pebbles on each bench allow.
pub record Reaches (b : Board) (reach : List ℕ) : Type 0 where
  pub entries : (u v : ℕ) → u < b.benches → v < b.benches
      → is_set 64 (get_or reach u 0) v ≡ any b.jobs (λ j. b.pebble j && eqb (b.place j) u && b.allows j v)

-- ── a round ──

pub record Begun (b : Board) (i : ℕ) (x : Explored) (opened : ℕ) (rounds levels : List ℕ) : Type 0 where
  pub some : (v : ℕ) → v < 64 → is_set 64 opened v ≡ (ltb v b.benches && type_a b i x v)
  pub joined : Rounds b (opened_joined b i x) rounds
  pub level : Rounds b (opened_levels b i x) levels

-- Tables with room for the greatest number of benches.
pub record Benchwise (dir loads rounds levels : List ℕ) : Type 0 where
  pub dir_room : length dir ≡ 64
  pub load_room : length loads ≡ 64
  pub joined_room : length rounds ≡ 64
  pub level_room : length levels ≡ 64

-- No rock is directed, the loads are the own loads, and no bench is in the conflict set or activated.
pub record Blank (n : Limits) (own dir loads rounds levels : List ℕ) : Type 0 where
  pub own_room : length own ≡ 64
  pub undirected : dir ≡ replicate 64 0
  pub unloaded : loads ≡ own
  pub never_joined : rounds ≡ replicate 64 (plus_of n.benches 1)
  pub never_active : levels ≡ replicate 64 (plus_of n.benches 1)
