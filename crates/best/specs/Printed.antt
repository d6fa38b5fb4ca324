-- What the program for the best target prints, from the bytes of the sheet alone (request S-4).
--     best_printed s              the text of the best target for the sheet s, with tables for 512 jobs and 64 benches
--     BestPrints s out out' r     `out'` is the buffer `out` after the whole text for s, of r bytes, was put at its
--                                 front
use Rattle.std.specs.Prelude.{ℕ, List}
use Rattle.algorithm.specs.Best.{best_for}
use Rattle.lines.specs.Buffer.{Whole}
use Rattle.lines.specs.BestLines.{best_lines_of}

unfoldable pub best_printed : List ℕ → List ℕ
best_printed s = best_lines_of (best_for s 512 64).answer (best_for s 512 64).places

abbrev pub BestPrints : List ℕ → List ℕ → List ℕ → ℕ → Type 0
BestPrints s out out' r = Whole (best_printed s) out out' r
