-- Laws of the printed lines.
--     printed_text        the lines of what a call answers, and of the places that it writes
--     printed_size        the lines of any sheet fit 32,768 bytes
--     text_printed        a buffer of that length has the whole of them
--     lines_read          sheets that are read alike have the same lines
use Prim.Native.Nat.{ℕ, ◌≤◌}
use native.Mathlib.Omega.{arith}
use mathlib.Core.Path.{◌≡◌, ap, ap₂, ◌∙◌}
use mathlib.Core.List.{List}
use lib.ListN.{length, take}
use Rattle.frame.specs.Reading.{read_sheet}
use Rattle.answers.specs.declared.answer.Filled.{Filled}
use Rattle.answers.specs.Answers.{Answered}
use Rattle.answers.proofs.FilledLaws.{written_places}
use Rattle.algorithm.specs.Answer.{answer_for}
use Rattle.lines.specs.Buffer.{Front}
use Rattle.lines.specs.Lines.{lines_of}
use Rattle.lines.proofs.BufferLaws.{front_whole, whole_as}
use Rattle.printing.proofs.TextRoom.{text_of, text_fits}
use Rattle.bay.specs.Printed.{printed_lines, Prints}

pub printed_text : (s : List ℕ) {np nl : ℕ} {r : Filled} {places loads places' loads' : List ℕ}
    → Answered (answer_for s np nl) r places loads places' loads' → np ≡ 512 → nl ≡ 64
    → lines_of r.answer (take r.places places') ≡ printed_lines s
unfolding printed_lines
printed_text s A ep el = ap₂ lines_of A.answer (written_places A) ∙ ap text_of (ap₂ (answer_for s) ep el)

pub printed_size : (s : List ℕ) → length (printed_lines s) ≤ 32768
unfolding printed_lines
printed_size s = text_fits s 512 64

pub text_printed : {out after xs : List ℕ} {r : ℕ} (s : List ℕ) → xs ≡ printed_lines s → Front out xs after r
    → 32768 ≤ length out → Prints s out after r
text_printed s e f room = whole_as e (front_whole f (omega (arith, printed_size s, ap length e)))

answer_read : (s s' : List ℕ) (np nl : ℕ) → read_sheet s ≡ read_sheet s' → answer_for s np nl ≡ answer_for s' np nl
unfolding answer_for
answer_read s s' np nl e = rw (e, answer_for)

pub lines_read : (s s' : List ℕ) → read_sheet s ≡ read_sheet s' → printed_lines s ≡ printed_lines s'
unfolding printed_lines
lines_read s s' e = ap text_of (answer_read s s' 512 64 e)
