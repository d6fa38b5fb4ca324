-- What the bay program prints, from the bytes of the sheet alone (document 01, "Bay examples").
--     printed_lines s         the text of the answer to the sheet s, with tables for 512 jobs and 64 benches
--     Prints s out out' r     `out'` is the buffer `out` after the whole text for s, of r bytes, was put at its front
use Rattle.std.specs.Prelude.{ℕ, List}
use Rattle.algorithm.specs.Answer.{answer_for}
use Rattle.lines.specs.Buffer.{Whole}
use Rattle.lines.specs.Lines.{lines_of}

unfoldable pub printed_lines : List ℕ → List ℕ
printed_lines s = lines_of (answer_for s 512 64).answer (answer_for s 512 64).places

abbrev pub Prints : List ℕ → List ℕ → List ℕ → ℕ → Type 0
Prints s out out' r = Whole (printed_lines s) out out' r
