-- What the program's arrays and sets hold after an exploration.
--     Shown b x dir loads rounds levels     directions, loads under them, and both rounds of each bench are those of x
--     ShowsActive b x set                   the set has the activated benches of x
use Rattle.std.specs.Prelude.{ℕ, ◌<◌, ◌≡◌, ◌&&◌, List, ltb}
use Rattle.bits.specs.Bits.{is_set}
use Rattle.algorithm.specs.Board.{Board}
use Rattle.algorithm.specs.Explore.{Explored, activated}
use Rattle.rocks.specs.BoardArrays.{Seen, Rounds}

pub record Shown (b : Board) (x : Explored) (dir loads rounds levels : List ℕ) : Type 0 where
  pub seen : Seen b x.dir dir loads
  pub joined : Rounds b x.joined rounds
  pub level : Rounds b x.level levels

-- "𝔸", as a number of 64 bits.
abbrev pub ShowsActive : Board → Explored → ℕ → Type 0
ShowsActive b x set = (v : ℕ) → v < 64 → is_set 64 set v ≡ (ltb v b.benches && activated b x v)
