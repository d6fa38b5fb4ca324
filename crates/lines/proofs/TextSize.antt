-- How long a text is. Every number of the program is below 10 ^ 20, so the text of 512 jobs fits 32,000 bytes, and with
-- the line of the best target 32,768.
--     length_digits       a number below 10 ^ (k + 1) has at most k + 1 digits
--     Narrow a            the numbers of an answer are below 10 ^ 20
--     text_size           the length of the text of an answer and of the places of its jobs
--     BestNarrow a, best_text_size    the same for an answer of the search for the best target
use Prim.Native.Nat.{ℕ, zero, suc, ◌+◌, ◌*◌, ◌/◌, ◌%◌, ◌^◌, ◌≤◌, ◌<◌}
use native.Mathlib.Omega.{arith}
use mathlib.Core.Path.{◌≡◌, refl, ap, ◌∙◌}
use mathlib.Core.Bool.{Bool}
use mathlib.Core.Logic.{inl, inr}
use mathlib.Core.List.{List, [], ◌∷◌, ◌++◌, append-nil, map, map-append}
use lib.ListN.{length, get_or, length-append}
use Rattle.bools.proofs.BoolLaws.{split}
use Rattle.bools.proofs.OrderLaws.{lt-or-le}
use Rattle.sums.specs.Members.{members}
use Rattle.sums.proofs.MembersLaws.{members-snoc-true, members-snoc-false}
use Rattle.bits.specs.Bits.{is_set}
use Rattle.fields.specs.Numbers.{number_of, place_of}
use Rattle.answers.specs.declared.answer.Answer.{Answer}
use Rattle.answers.specs.declared.answer.Answer.TheVariants.{Plan, Long, None, Fault}
use Rattle.answers.specs.declared.best.BestAnswer.{BestAnswer}
use Rattle.answers.specs.declared.best.BestAnswer.TheVariants.{Best, Fault as BestFault}
use Rattle.lines.specs.BestLines.{best_letters, best_lines_of}
use Rattle.lines.specs.Lines.{digits, newline, spaced, line, job_lines, lines_of}
use Rattle.lines.specs.Lines.{plan_letters, long_letters, none_letters, fault_letters}
use Rattle.lines.proofs.DigitLaws.{digits-small, digits_more}
use Rattle.lines.proofs.LineSteps.{spaced-append}

-- ── digits and lines ──

pub length_digits : (k n : ℕ) → n < 10 ^ suc k → length (digits n) ≤ suc k
length_digits zero n h = let l : n < 10 = omega arith in omega (arith, ap length (digits-small n l))
length_digits (suc k) n h = elim (lt-or-le n 10) [
  | inl l ↦ omega (arith, ap length (digits-small n l))
  | inr l ↦ omega (arith, length_digits k (n / 10) (omega arith), ap length (digits_more n l), length-append (digits (n / 10)) ((48 + n % 10) ∷ []))
]

length-one : (w : List ℕ) → length (spaced (w ∷ [])) ≡ suc (length w)
unfolding spaced
length-one w = ap (λ (s : List ℕ). suc (length s)) (append-nil w)

length-spaced : (w : List ℕ) (ws : List (List ℕ)) → length (spaced (w ∷ ws)) ≡ suc (length w) + length (spaced ws)
length-spaced w ws = ap length (spaced-append (w ∷ []) ws) ∙ length-append (spaced (w ∷ [])) (spaced ws) ∙ ap (λ (n : ℕ). n + length (spaced ws)) (length-one w)

length-line : (w : List ℕ) (ws : List (List ℕ)) → length (line (w ∷ ws)) ≡ length w + length (spaced ws) + 1
unfolding line
length-line w ws = length-append (w ++ spaced ws) (newline ∷ []) ∙ ap (λ (n : ℕ). n + 1) (length-append w (spaced ws))

length_two : (w v : List ℕ) → length (line (w ∷ v ∷ [])) ≡ length w + length v + 2
length_two w v = omega (arith, length-line w (v ∷ []), length-one v)

-- ── lines of an answer ──

jobs_size : (n : ℕ) (places : List ℕ) → n ≤ 512 → ((j : ℕ) → j < n → get_or places j 0 < 10 ^ 20) → length (job_lines n places) ≤ 42 * n
unfolding job_lines
jobs_size zero places h narrow = omega arith
jobs_size (suc n) places h narrow =
    let more : length (job_lines (suc n) places) ≡ length (job_lines n places) + length (line (digits n ∷ digits (get_or places n 0) ∷ [])) =
    length-append (job_lines n places) (line (digits n ∷ digits (get_or places n 0) ∷ [])) in
    omega (
      arith,
      jobs_size n places (omega arith) (λ j l. narrow j (omega arith)),
      length_two (digits n) (digits (get_or places n 0)),
      length_digits 19 n (omega arith),
      length_digits 19 (get_or places n 0) (narrow n (omega arith)),
    )

-- The benches below n that are in a set, each behind a space.
abbrev shown : (ℕ → Bool) → ℕ → List ℕ
shown f n = spaced (map digits (members n f))

benches_none : (f : ℕ → Bool) → length (shown f 0) ≡ 0
unfolding members spaced
benches_none f = refl

benches_size : (f : ℕ → Bool) (n : ℕ) → n ≤ 64 → length (shown f n) ≤ 21 * n
benches_size f zero h = omega (arith, benches_none f)
benches_size f (suc n) h = elim (split (f n)) [
  | inl p ↦ let e : shown f (suc n) ≡ shown f n ++ spaced (digits n ∷ []) =
      ap (λ (bs : List ℕ). spaced (map digits bs)) (members-snoc-true n f p)
      ∙ ap spaced (map-append digits (members n f) (n ∷ []))
      ∙ spaced-append (map digits (members n f)) (digits n ∷ []) in
      omega (arith, benches_size f n (omega arith), ap length e, length-append (shown f n) (spaced (digits n ∷ [])), length-one (digits n), length_digits 19 n (omega arith))
  | inr p ↦ omega (arith, benches_size f n (omega arith), ap (λ (bs : List ℕ). length (spaced (map digits bs))) (members-snoc-false n f p))
]

-- All numbers that an answer shows, but for those of benches.
abbrev pub Narrow : Answer → Type 0
Narrow (Plan a) = (a.largest < 10 ^ 20) × (a.moves < 10 ^ 20) × (a.fullest < 10 ^ 20)
Narrow (Long a) = a.job < 10 ^ 20
Narrow (None a) = a.moves < 10 ^ 20
Narrow (Fault f) = (number_of f < 10 ^ 20) × (place_of f < 10 ^ 20)

pub text_size : (a : Answer) (places : List ℕ) → Narrow a → length places ≤ 512
    → ((j : ℕ) → j < length places → get_or places j 0 < 10 ^ 20) → length (lines_of a places) ≤ 32000
unfolding lines_of
text_size (Plan a) places (l, m, f) h narrow =
    let largest = digits a.largest in
    let moves = digits a.moves in
    let fullest = digits a.fullest in
    omega (
      arith,
      length-append (line (plan_letters ∷ largest ∷ moves ∷ fullest ∷ [])) (job_lines (length places) places),
      jobs_size (length places) places h narrow,
      length-line plan_letters (largest ∷ moves ∷ fullest ∷ []),
      length-spaced largest (moves ∷ fullest ∷ []),
      length-spaced moves (fullest ∷ []),
      length-one fullest,
      length_digits 19 a.largest l,
      length_digits 19 a.moves m,
      length_digits 19 a.fullest f,
    )
text_size (Long a) places l h narrow =
    omega (arith, length_two long_letters (digits a.job), length_digits 19 a.job l)
text_size (None a) places l h narrow =
    let benches = map digits (members 64 (is_set 64 a.set)) in
    omega (
      arith,
      length-line none_letters (digits a.moves ∷ benches),
      length-spaced (digits a.moves) benches,
      benches_size (is_set 64 a.set) 64 (omega arith),
      length_digits 19 a.moves l,
    )
text_size (Fault f) places (l, m) h narrow =
    omega (
      arith,
      length-line fault_letters (digits (number_of f) ∷ digits (place_of f) ∷ []),
      length-spaced (digits (number_of f)) (digits (place_of f) ∷ []),
      length-one (digits (place_of f)),
      length_digits 19 (number_of f) l,
      length_digits 19 (place_of f) m,
    )

-- ── lines of the best target ──

abbrev pub BestNarrow : BestAnswer → Type 0
BestNarrow (Best b) = (b.target < 10 ^ 20) × (b.runs < 10 ^ 20) × Narrow (Plan b.plan)
BestNarrow (BestFault f) = Narrow (Fault f)

pub best_text_size : (a : BestAnswer) (places : List ℕ) → BestNarrow a → length places ≤ 512
    → ((j : ℕ) → j < length places → get_or places j 0 < 10 ^ 20) → length (best_lines_of a places) ≤ 32768
unfolding best_lines_of
best_text_size (Best b) places (t, n, p) h narrow =
    let target = digits b.target in
    let runs = digits b.runs in
    omega (
      arith,
      length-append (line (best_letters ∷ target ∷ runs ∷ [])) (lines_of (Plan b.plan) places),
      text_size (Plan b.plan) places p h narrow,
      length-line best_letters (target ∷ runs ∷ []),
      length-spaced target (runs ∷ []),
      length-one runs,
      length_digits 19 b.target t,
      length_digits 19 b.runs n,
    )
best_text_size (BestFault f) places p h narrow = omega (arith, text_size (Fault f) places p h narrow)
