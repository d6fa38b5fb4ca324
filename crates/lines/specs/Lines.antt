-- What the program prints (document 01, "Bay examples"), in bytes.
--     digits n            the decimal digits of n, the highest first and no zero in front; `0` for 0
--     line words          the words with a space between each two, and a newline
--     job_lines n places  a line for each of the first n jobs: its number and its bench
--     lines_of a places    the text of an answer; places are the benches of the jobs, in order
use Rattle.std.specs.Prelude.{ℕ, zero, suc, ◌+◌, ◌/◌, ◌%◌, cond, List, [], ◌∷◌, ◌++◌, map, length, get_or, ltb}
use Rattle.sums.specs.Members.{members}
use Rattle.bits.specs.Bits.{is_set}
use Rattle.fields.specs.Numbers.{number_of, place_of}
use Rattle.answers.specs.declared.answer.Answer.{Answer}
use Rattle.answers.specs.declared.answer.Answer.TheVariants.{Plan, Long, None, Fault}

-- The last k digits of n, or all where there are fewer.
unfoldable pub digits_within : ℕ → ℕ → List ℕ
digits_within zero n = []
digits_within (suc k) n = cond (ltb n 10) [] (digits_within k (n / 10)) ++ (48 + n % 10) ∷ []

-- All digits: no number n has more than n + 1.
unfoldable pub digits : ℕ → List ℕ
digits n = digits_within (suc n) n

-- The bytes between two words and at the end of a line.
abbrev pub space : ℕ
space = 32

abbrev pub newline : ℕ
newline = 10

-- Each word behind a space.
unfoldable pub spaced : List (List ℕ) → List ℕ
spaced [] = []
spaced (w ∷ ws) = space ∷ w ++ spaced ws

-- A line: the first word, the others behind spaces, and the newline.
unfoldable pub line : List (List ℕ) → List ℕ
line [] = newline ∷ []
line (w ∷ ws) = w ++ spaced ws ++ newline ∷ []

-- "job, bench; one line a job": the lines of the first n jobs.
unfoldable pub job_lines : ℕ → List ℕ → List ℕ
job_lines zero places = []
job_lines (suc n) places = job_lines n places ++ line (digits n ∷ digits (get_or places n 0) ∷ [])

-- The letters of the words `plan`, `long`, `none` and `fault`.
abbrev pub plan_letters : List ℕ
plan_letters = 112 ∷ 108 ∷ 97 ∷ 110 ∷ []

abbrev pub long_letters : List ℕ
long_letters = 108 ∷ 111 ∷ 110 ∷ 103 ∷ []

abbrev pub none_letters : List ℕ
none_letters = 110 ∷ 111 ∷ 110 ∷ 101 ∷ []

abbrev pub fault_letters : List ℕ
fault_letters = 102 ∷ 97 ∷ 117 ∷ 108 ∷ 116 ∷ []

-- "A plan's line prints it after the moves, so example 2 begins `plan 5 0 0`" (request S-2). "Else one line: `long`
-- and the job; `none`, the moves and the benches rising; `fault`, number and place."
unfoldable pub lines_of : Answer → List ℕ → List ℕ
lines_of (Plan a) places =
    line (plan_letters ∷ digits a.largest ∷ digits a.moves ∷ digits a.fullest ∷ [])
    ++ job_lines (length places) places
lines_of (Long a) places = line (long_letters ∷ digits a.job ∷ [])
lines_of (None a) places =
    line (none_letters ∷ digits a.moves ∷ map digits (members 64 (is_set 64 a.set)))
lines_of (Fault f) places = line (fault_letters ∷ digits (number_of f) ∷ digits (place_of f) ∷ [])
