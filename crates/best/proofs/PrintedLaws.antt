-- Laws of the printed lines.
--     printed_text        the lines of what a call answers, and of the places that it writes
--     printed_size        the lines of any sheet fit 32,768 bytes
--     text_printed        a buffer of that length has the whole of them
--     lines_read          sheets that are read alike have the same lines
use Prim.Native.Nat.{ℕ, ◌≤◌}
use native.Mathlib.Omega.{arith}
use mathlib.Core.Path.{◌≡◌, ap, ap₂, ◌∙◌}
use mathlib.Core.List.{List}
use lib.ListN.{length, take}
use Rattle.frame.specs.Reading.{read_sheet}
use Rattle.answers.specs.declared.best.BestFilled.{BestFilled}
use Rattle.answers.specs.BestAnswers.{BestAnswered}
use Rattle.answers.proofs.FilledLaws.{best_places}
use Rattle.algorithm.specs.Best.{best_for}
use Rattle.algorithm.proofs.BestLaws.{best_read}
use Rattle.lines.specs.Buffer.{Front}
use Rattle.lines.specs.BestLines.{best_lines_of}
use Rattle.lines.proofs.BufferLaws.{front_whole, whole_as}
use Rattle.printing.proofs.TextRoom.{best_text_of, best_text_fits}
use Rattle.best.specs.Printed.{best_printed, BestPrints}

pub printed_text : (s : List ℕ) {np nl : ℕ} {r : BestFilled} {places loads places' loads' : List ℕ}
    → BestAnswered (best_for s np nl) r places loads places' loads' → np ≡ 512 → nl ≡ 64
    → best_lines_of r.answer (take r.places places') ≡ best_printed s
unfolding best_printed
printed_text s A ep el = ap₂ best_lines_of A.answer (best_places A) ∙ ap best_text_of (ap₂ (best_for s) ep el)

pub printed_size : (s : List ℕ) → length (best_printed s) ≤ 32768
unfolding best_printed
printed_size s = best_text_fits s 512 64

pub text_printed : {out after xs : List ℕ} {r : ℕ} (s : List ℕ) → xs ≡ best_printed s → Front out xs after r
    → 32768 ≤ length out → BestPrints s out after r
text_printed s e f room = whole_as e (front_whole f (omega (arith, printed_size s, ap length e)))

pub lines_read : (s s' : List ℕ) → read_sheet s ≡ read_sheet s' → best_printed s ≡ best_printed s'
unfolding best_printed
lines_read s s' e = ap best_text_of (best_read s s' 512 64 e)
