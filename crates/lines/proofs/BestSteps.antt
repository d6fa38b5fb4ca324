-- What is put for the best target.
--     best_put            the line of the target, and the lines of its plan
--     best_fault_put      the line of a fault
use Prim.Native.Nat.{ℕ}
use mathlib.Core.Path.{◌≡◌, ap, ◌∙◌}
use mathlib.Core.List.{List, [], ◌∷◌, ◌++◌}
use Rattle.fields.specs.declared.fault.Fault.{Fault as AnyFault}
use Rattle.answers.specs.declared.answer.Answer.TheVariants.{Plan, Fault}
use Rattle.answers.specs.declared.best.BestAnswer.{BestAnswer}
use Rattle.answers.specs.declared.best.BestAnswer.TheVariants.{Best, Fault as BestFault}
use Rattle.answers.specs.declared.best.BestPlan.{BestPlan}
use Rattle.lines.specs.Buffer.{Puts, Front}
use Rattle.lines.specs.Lines.{digits, space, line, lines_of}
use Rattle.lines.specs.BestLines.{best_letters, best_lines_of}
use Rattle.lines.proofs.BufferLaws.{puts_then, puts_as, puts_text}
use Rattle.lines.proofs.LineSteps.{line_word, fault_alone}

module _ {answer : BestAnswer} (places : List ℕ) {out after : List ℕ} {r : ℕ} where
  pub best_put : {b : BestPlan} {one two : List ℕ} {m n : ℕ} → answer ≡ Best b
      → Puts out 0 (best_letters ++ space ∷ []) one m
      → Puts one m (line (digits b.target ∷ digits b.runs ∷ [])) two n
      → Puts two n (lines_of (Plan b.plan) places) after r → Front out (best_lines_of answer places) after r
  unfolding best_lines_of
  best_put {b} e p q s =
      let first = line_word best_letters (digits b.target) (digits b.runs ∷ []) in
      puts_text
      (puts_as (ap (λ (l : List ℕ). l ++ lines_of (Plan b.plan) places) first ∙ rw e) (puts_then (puts_then p q) s))

  pub best_fault_put : {f : AnyFault} → answer ≡ BestFault f → Puts out 0 (lines_of (Fault f) []) after r
      → Front out (best_lines_of answer places) after r
  unfolding best_lines_of
  best_fault_put {f} e p = puts_text (puts_as (fault_alone f places ∙ rw e) p)
