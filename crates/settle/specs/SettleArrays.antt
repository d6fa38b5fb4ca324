-- What the rule for neutral rocks reads from the arrays, and from the set of the marked benches.
--     follows_at dir S r v     rock r is neutral, and bench v, one of its ends, is in the set
--     ShowsMarks b ms set      the number has the benches that a list marks, which has one entry for each bench
use Rattle.std.specs.Prelude.{ℕ, ◌<◌, ◌≡◌, Bool, false, ◌&&◌, List, length, get_or}
use Rattle.bits.specs.Bits.{is_set}
use Rattle.algorithm.specs.Board.{Board}
use Rattle.rocks.specs.SpreadArrays.{neutral_rock}

abbrev pub follows_at : List ℕ → (ℕ → Bool) → ℕ → ℕ → Bool
follows_at dir S r v = neutral_rock dir r && S v

pub record ShowsMarks (b : Board) (ms : List Bool) (set : ℕ) : Type 0 where
  pub one_to_a_bench : length ms ≡ b.benches
  pub entries : (v : ℕ) → v < b.benches → is_set 64 set v ≡ get_or ms v false
