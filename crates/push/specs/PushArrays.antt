-- PUSH in arrays.
--     heavy_at              rock r is a father of v that is too heavy for light_fathers
--     receives_at, receiving    what can_push asks of v alone: of the arrays, and of the board
--     Receivers b x receivers     for each level the benches of it that may receive, as a set
--     opens choice place level receivers j     by the arrays, the benches to which job j may go
--     goes choice place level receivers all j     whether the set `all` has one of them
--     first_move b x              the first job that may move, with its first bench, and none where no job may
--     Choices b choice place     the benches that each pebble allows, and where it lies
use Rattle.std.specs.Prelude.{ℕ, ◌+◌, ◌<◌, ◌≡◌, Bool, true, not, ◌&&◌, ◌||◌}
use Rattle.std.specs.Prelude.{List, get_or, eqb, leb, ltb, bit_and, Option}
use Rattle.std.specs.Bool.{then_some}
use Rattle.bits.specs.Bits.{is_set}
use Rattle.algorithm.specs.Board.{Board, load}
use Rattle.algorithm.specs.Explore.{Explored, round_of, activated}
use Rattle.algorithm.specs.Push.{leaf, light_fathers, push_job, push_bench}
use Rattle.push.specs.declared.push.Move.{Move}
use Rattle.arrays.specs.Arrays.{plus_of}
use Rattle.rocks.specs.RockArrays.{within_at, father_at}

abbrev pub heavy_at : ℕ → ℕ → List ℕ → List ℕ → List ℕ → List ℕ → List ℕ → List ℕ → ℕ → ℕ → Bool
heavy_at benches limit low high weight own dir joined r v =
    father_at benches low high dir joined r v && ltb limit (get_or own v 0 + get_or weight r 0)

-- What is asked of v alone: activated, load within the limit, no child or no father that is too heavy.
abbrev pub receives_at : ℕ → ℕ → List ℕ → List ℕ → ℕ → ℕ → ℕ → Bool
receives_at benches limit loads level children heavy v =
    within_at benches level v
    && (leb (get_or loads v 0) limit && (not (is_set 64 children v) || not (is_set 64 heavy v)))

-- ── of a board ──

abbrev pub receiving : Board → Explored → ℕ → Bool
receiving b x v = activated b x v && leb (load b x.dir v) b.limit && (leaf b x v || light_fathers b x v)

-- One entry for each level.
pub record Receivers (b : Board) (x : Explored) (receivers : List ℕ) : Type 0 where
  pub entries : (l v : ℕ) → v < b.benches
      → is_set 64 (get_or receivers l 0) v ≡ (eqb l (round_of b x.level v) && receiving b x v)

-- One entry for each job: the benches that it allows if it is a pebble, and else none; and where it lies.
pub record Choices (b : Board) (choice place : List ℕ) : Type 0 where
  pub allow : (j v : ℕ) → j < b.jobs → v < b.benches → is_set 64 (get_or choice j 0) v ≡ (b.pebble j && b.allows j v)
  pub lie : (j : ℕ) → j < b.jobs → b.pebble j ≡ true → get_or place j 0 ≡ b.place j

-- The benches that job j may choose from and that receive, one level above the bench on which it lies.
abbrev pub opens : List ℕ → List ℕ → List ℕ → List ℕ → ℕ → ℕ
opens choice place level receivers j =
    bit_and (get_or choice j 0) (get_or receivers (plus_of (get_or level (get_or place j 0) 0) 1) 0)

abbrev pub goes : List ℕ → List ℕ → List ℕ → List ℕ → ℕ → ℕ → Bool
goes choice place level receivers all j = not (eqb (bit_and (opens choice place level receivers j) all) 0)

abbrev pub first_move : Board → Explored → Option Move
first_move b x = then_some (ltb (push_job b x) b.jobs) (record { job = push_job b x; bench = push_bench b x })
