-- The check of a set through the door, from what the calls ensure: what is returned, and the answer's table after it.
--     one_put               a number put as the first entry
--     short_called          without room for the answer
--     answer_called, fault_called     with room, by the answer
use Prim.Native.Nat.{ℕ, ◌^◌, ◌≤◌, ◌<◌}
use native.Mathlib.Omega.{arith}
use mathlib.Core.Path.{◌≡◌, sym, ap, ◌∙◌}
use mathlib.Core.List.{List, [], ◌∷◌}
use lib.ListN.{length, get_or}
use Rattle.fields.specs.declared.fault.Fault.{Fault}
use Rattle.frame.specs.Reading.{read_sheet}
use Rattle.answers.specs.declared.check.SetAnswer.{SetAnswer}
use Rattle.answers.specs.declared.check.SetAnswer.TheVariants.{Fault as Faulty}
use Rattle.set_check.specs.SetCheck.{check_set}
use Rattle.tables.specs.Tables.{room_of, put_entry, put_numbers}
use Rattle.tables.specs.Words.{fault_word}
use Rattle.tables.proofs.NumberSteps.{put_nothing, put_more}
use Rattle.list_promise.specs.ListDoor.{short_fault}
use Rattle.set_promise.specs.SetDoor.{door_set, set_word, set_numbers, SetCalled}
use Rattle.set_promise.specs.SetDoorClaim.{SetDoorClaim}
use Rattle.set_promise.proofs.SetDemand.{with_claim}
use Rattle.set_promise.proofs.SetReplies.{door_faulty, door_checked}

pub one_put : (t : List ℕ) (v : ℕ) → 8 ≤ length t → put_entry t 0 v ≡ put_numbers (v ∷ []) t
one_put t v room = ap (λ (xs : List ℕ). put_entry xs 0 v) (sym (put_nothing t)) ∙ put_more [] t v (omega arith)

module _ (s : List ℕ) (set : ℕ) (numbers : List ℕ) (small : set < 2 ^ 64) where
  abbrev answer : SetAnswer
  answer = door_set s set (room_of numbers)

  abbrev pub Promised : ℕ → List ℕ → Type 0
  Promised r numbers' = SetCalled answer r numbers numbers' × SetDoorClaim s set numbers r numbers'

  called : (a : SetAnswer) {word : ℕ} {numbers' : List ℕ} → a ≡ answer → word ≡ set_word a
      → numbers' ≡ put_numbers (set_numbers a) numbers → Promised word numbers'
  called a is w put =
      with_claim s set numbers small (record {
        word = w ∙ ap set_word is;
        new_numbers = put ∙ ap (λ (x : SetAnswer). put_numbers (set_numbers x) numbers) is;
      })

  pub short_called : length numbers < 8 → {f : Fault} {word : ℕ} → f ≡ short_fault (read_sheet s) → word ≡ fault_word f
      → Promised word numbers
  short_called few {f} e w =
      called (Faulty f) (ap Faulty e ∙ sym (door_faulty s set (room_of numbers) (omega arith))) w
      (sym (put_nothing numbers))

  module _ (room : 8 ≤ length numbers) {a : SetAnswer} (ea : a ≡ check_set s set) where
    same_answer : a ≡ answer
    same_answer = ea ∙ sym (door_checked s set (room_of numbers) (omega arith))

    -- An answer that is no fault: its word, and its number.
    pub answer_called : (x : SetAnswer) {r : ℕ × ℕ} {numbers' : List ℕ} → a ≡ x → r ≡ (set_word x, get_or (set_numbers x) 0 0)
        → set_numbers x ≡ get_or (set_numbers x) 0 0 ∷ [] → numbers' ≡ put_entry numbers 0 r.1 → Promised r.0 numbers'
    answer_called x e both one put =
        called x (sym e ∙ same_answer) (ap (λ (p : ℕ × ℕ). p.0) both)
        (put ∙ ap (λ (p : ℕ × ℕ). put_entry numbers 0 p.1) both
        ∙ one_put numbers (get_or (set_numbers x) 0 0) room ∙ ap (λ (ns : List ℕ). put_numbers ns numbers) (sym one))

    pub fault_called : {f : Fault} {word : ℕ} → a ≡ Faulty f → word ≡ fault_word f → Promised word numbers
    fault_called {f} e w = called (Faulty f) (sym e ∙ same_answer) w (sym (put_nothing numbers))
