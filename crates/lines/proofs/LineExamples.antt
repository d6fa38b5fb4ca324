-- The lines of the bay examples of document 01, and of a best target, byte for byte.
--     example_2, example_3, example_4     `plan 5 0 0` and `0 0`; `long 0`; `none 0 0 1`
--     three_numbers                       `plan 7 2 1`: largest load, moves and fullest bench, in this order
--     example_11                          `fault 2 0`
--     best_lines                          `best 3 2`, and then `plan 5 1 0` and `0 0`: target and runs, then the plan
--     best_fault                          `fault 2 0` again
--     three-digits                        `480`
use Prim.Native.Nat.{◌*◌, ◌^◌}
use mathlib.Core.Path.{◌≡◌, refl}
use mathlib.Core.List.{[], ◌∷◌}
use Rattle.sums.specs.Members.{members}
use Rattle.bits.specs.Bits.{is_set}
use Rattle.fields.specs.declared.fault.Fault.TheVariants.{Truncated}
use Rattle.answers.specs.declared.answer.Answer.TheVariants.{Plan, Long, None, Fault}
use Rattle.answers.specs.declared.best.BestAnswer.TheVariants.{Best, Fault as BestFault}
use Rattle.lines.specs.BestLines.{best_lines_of}
use Rattle.lines.specs.Lines.{digits_within, digits, spaced, line, job_lines, lines_of}

pub example_2 : lines_of (Plan (record { largest = 5; moves = 0; fullest = 0 })) (0 ∷ [])
    ≡ 112 ∷ 108 ∷ 97 ∷ 110 ∷ 32 ∷ 53 ∷ 32 ∷ 48 ∷ 32 ∷ 48 ∷ 10 ∷ 48 ∷ 32 ∷ 48 ∷ 10 ∷ []
unfolding lines_of job_lines line spaced digits digits_within
example_2 = refl

pub three_numbers : lines_of (Plan (record { largest = 7; moves = 2; fullest = 1 })) []
    ≡ 112 ∷ 108 ∷ 97 ∷ 110 ∷ 32 ∷ 55 ∷ 32 ∷ 50 ∷ 32 ∷ 49 ∷ 10 ∷ []
unfolding lines_of job_lines line spaced digits digits_within
three_numbers = refl

pub example_3 : lines_of (Long (record { job = 0 })) [] ≡ 108 ∷ 111 ∷ 110 ∷ 103 ∷ 32 ∷ 48 ∷ 10 ∷ []
unfolding lines_of line spaced digits digits_within
example_3 = refl

-- Benches 0 and 1 are the bits of weight 2 ^ 63 and 2 ^ 62.
pub example_4 : lines_of (None (record { set = 3 * 2 ^ 62; moves = 0 })) []
    ≡ 110 ∷ 111 ∷ 110 ∷ 101 ∷ 32 ∷ 48 ∷ 32 ∷ 48 ∷ 32 ∷ 49 ∷ 10 ∷ []
unfolding lines_of line spaced digits digits_within members is_set
example_4 = refl

pub example_11 : lines_of (Fault (Truncated 0)) [] ≡ 102 ∷ 97 ∷ 117 ∷ 108 ∷ 116 ∷ 32 ∷ 50 ∷ 32 ∷ 48 ∷ 10 ∷ []
unfolding lines_of line spaced digits digits_within
example_11 = refl

pub best_lines :
    best_lines_of (Best (record { target = 3; plan = record { largest = 5; moves = 1; fullest = 0 }; runs = 2 })) (0 ∷ [])
    ≡ 98 ∷ 101 ∷ 115 ∷ 116 ∷ 32 ∷ 51 ∷ 32 ∷ 50 ∷ 10
    ∷ 112 ∷ 108 ∷ 97 ∷ 110 ∷ 32 ∷ 53 ∷ 32 ∷ 49 ∷ 32 ∷ 48 ∷ 10 ∷ 48 ∷ 32 ∷ 48 ∷ 10 ∷ []
unfolding best_lines_of lines_of job_lines line spaced digits digits_within
best_lines = refl

pub best_fault : best_lines_of (BestFault (Truncated 0)) []
    ≡ 102 ∷ 97 ∷ 117 ∷ 108 ∷ 116 ∷ 32 ∷ 50 ∷ 32 ∷ 48 ∷ 10 ∷ []
unfolding best_lines_of lines_of line spaced digits digits_within
best_fault = refl

-- Digits 480, with no zero in front and with the zero at the end.
pub three-digits : digits 480 ≡ 52 ∷ 56 ∷ 48 ∷ []
unfolding digits digits_within
three-digits = refl
